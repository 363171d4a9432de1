-- A call of a stripe serves what it is asked, by what the stripe says of it in each step that covers it.
use Rattle.std.proofs.Common.{◌≡◌, ℕ, Bool, true, false, List, [], ◌∷◌, ◌++◌, refl, sym, ◌∙◌, ap, subst, append-nil, inl, inr, ◌⊎◌}
use Rattle.std.specs.Prelude.{Some, None}
use Rattle.std.specs.List.{AllByRecursion}
use Rattle.std.proofs.lemmas.List.{append_cancel_left}
use Rattle.device_log.specs.Calls.{Call}
use Rattle.logged_disk.specs.Device.{DeviceState as Device}
use Rattle.cache_model.specs.declared.record.Rec.{Rec}
use Rattle.tape_base.specs.declared.keys.Key.{Key}
use Rattle.cache_model.specs.State.{Row, State}
use Rattle.cache_model.specs.Verdict.{live_vector_of}
use Rattle.cache_model.specs.Kept.{Kept, state_of, with_records}
use Rattle.cache_model.specs.Permit.{Done, End, Fails, Intent, IsAmong, IsSetBy, Permit, Reason, Stays, to_do}
use Rattle.cache_model.specs.Given.{effects_in, effects_told}
use Rattle.cache_model.specs.Legal.{Does, MayGrow, nothing}
use Rattle.cache_model.specs.Pair.{Documents, IsKeyPair, IsPair, ShowsPair}
use Rattle.cache_model.specs.ToRead.{asked_for, to_read}
use Rattle.cache_model.specs.Vectors.{IsVectorAs}
use Rattle.call_laws.specs.Untold.{Untold}
use Rattle.call_laws.specs.Moments.{At, Encloses, Facts, NothingKnown}
use Rattle.call_laws.specs.Progress.{AllDone, Leaves, Progress, Spends, Stops, progress_of, refused_work}
use Rattle.call_laws.specs.Serves.{ServesFrom}
use Rattle.call_laws.proofs.Grown.{one_spends}
use Rattle.call_laws.proofs.Groups.{happens_plainly}
use Rattle.call_laws.proofs.Joined.{state_behind}
use Rattle.piece_answers.specs.Covers as covers
use Rattle.piece_answers.specs.Covers.{Covers}
use Rattle.piece_answers.specs.Faults.{IsAccounted}
use Rattle.piece_answers.proofs.Covering.{made_is}
use Rattle.stripe_write.specs.Closing.{SpendsAll}
use Rattle.stripe_write.proofs.Spending.{nothing_more}
use Rattle.stripe_calls.specs.Seen.{at_by}

-- ---- steps

among_front : (x : Call) (xs ys : List Call) → IsAmong x xs → IsAmong x (xs ++ ys)
among_front x [] ys h = absurd h
among_front x (y ∷ xs) ys (inl is) = inl is
among_front x (y ∷ xs) ys (inr h) = inr (among_front x xs ys h)

among_behind : (x : Call) (xs ys : List Call) → IsAmong x ys → IsAmong x (xs ++ ys)
among_behind x [] ys h = h
among_behind x (y ∷ xs) ys h = inr (among_behind x xs ys h)

all_are : (P : Call → Type 0) (xs : List Call) → ((x : Call) → IsAmong x xs → P x) → AllByRecursion P xs
all_are P [] each = tt
all_are P (x ∷ xs) each = (each x (inl refl), all_are P xs (λ y h. each y (inr h)))

-- what has the calls of a call covers it
pub covers_in : {now : ℕ} {a : At} {p : Permit} {earlier calls : List Call} → a.setting.syncs ≡ false → (before after : List Call) → after ≡ calls ++ before
    → Encloses now a p earlier calls → Covers p before after
covers_in {p = p} {earlier = earlier} {calls = calls} plain before after is h = record {
  unsynced = h.syncs ∙ plain;
  knows = λ made there. subst (λ cs. AllByRecursion (λ call. IsAmong call p.events) cs) (sym (made_is before after made calls is there)) own;
}
  where
    own : AllByRecursion (λ call. IsAmong call p.events) calls
    own = all_are (λ call. IsAmong call p.events) calls
        (λ x among. subst (IsAmong x) (sym h.events) (among_behind x h.later (calls ++ earlier) (among_front x calls earlier among)))

-- ---- records

-- the same records
pub same_added : (k l : Kept) (a b : List Rec) → l ≡ with_records k a → l ≡ with_records k b → a ≡ b
same_added k l a b first second = append_cancel_left k.since a b (ap (λ (j : Kept). j.since) (sym first ∙ second))

pub adds_none : (k l : Kept) → l ≡ k → l ≡ with_records k []
adds_none k l same = same ∙ sym (nothing_more k)

-- ---- what is asked

-- all of some, or a refusal
pub spends_done : (p : Permit) (s : State) (asked : List Intent) (added : List Rec) → SpendsAll p s asked added Done → Spends p s asked added AllDone
spends_done p s asked added h = subst (λ is. MayGrow p s (to_do is) added (to_do [])) (append-nil asked) (h [] None)

pub spends_fails : {p : Permit} {s : State} {asked : List Intent} {added : List Rec} (why : Reason)
    → SpendsAll p s asked added (Fails why) → Spends p s asked added (Stops why)
spends_fails {p} {s} {asked} {added} why h = subst (λ is. MayGrow p s (to_do is) added (refused_work [] why)) (append-nil asked) (h [] None)

-- of one ask
pub one_done : {p : Permit} {s : State} {i : Intent} {added : List Rec} → covers.SpendsFirst p s i added Done
    → Spends p s (i ∷ []) added AllDone
one_done h = h [] None

pub one_fails : {p : Permit} {s : State} {i : Intent} {added : List Rec} (why : Reason)
    → covers.SpendsFirst p s i added (Fails why) → Spends p s (i ∷ []) added (Stops why)
one_fails why h = h [] None

pub one_stays : {p : Permit} {s : State} {i : Intent} {added : List Rec} (rest : List Intent)
    → covers.SpendsFirst p s i added Stays → Spends p s (i ∷ rest) added (Leaves (i ∷ rest))
one_stays rest h = h rest None

-- ---- a pair

pub shows_asked : {P : Documents} {p : Permit} {s : State} {key : Key} {i : Intent} (rest : List Intent) (added : List Rec)
    → ((row : Row) → live_vector_of s key ≡ Some row → to_read s i ≡ Some row)
    → IsKeyPair P p s key → ShowsPair P p s (i ∷ rest) added
shows_asked {P} {p} {s} {key} {i} rest added reads h = record {
  before = [];
  rest = added;
  left = to_do (i ∷ rest);
  is = refl;
  grows = nothing;
  pair = read;
}
  where
    read : IsPair P p s i
    read = record { row = h.row; read = asked_for (reads h.row h.vector); pair = h.pair }

-- ---- calls

-- What a call brings in each step, where this is known before: what is asked there, and what is known behind; or a pair, on a
-- device that did not tell its content.
abbrev pub Brings : (packed : Bool) (now : ℕ) (k l : Kept) (d e : Device) → List Intent → Progress → (before known : Facts) → List Rec → Type 0
Brings packed now k l d e asked o before known added = (p : Permit) → p.packed ≡ packed → p.now ≡ now → Covers p d.past e.past
    → before (state_of k)
    → (Spends p (state_of k) asked added o × known (state_of l)) ⊎ ShowsPair (Untold e IsVectorAs) p (state_of k) asked added

module _ {packed : Bool} {k l : Kept} {d e : Device} (accounted : IsAccounted d.past e.past k l) where
  pub serves_by : {now : ℕ} {known : Facts} (asked : List Intent) (o : Progress) (before : Facts) (added : List Rec) → l ≡ with_records k added
      → Brings packed now k l d e asked o before known added → ServesFrom (Untold e IsVectorAs) now (at_by packed k d) (at_by packed l e) asked o before known
  serves_by {now} {known} asked o before added adds law =
      let calls : List Call = accounted.faults.made in
      let same : added ≡ accounted.added = same_added k l added accounted.added adds accounted.adds in
      let effects : effects_told added ≡ effects_in calls = ap effects_told same ∙ sym accounted.faults.are in
      record {
        calls = calls;
        added = added;
        happens = happens_plainly calls added refl refl accounted.faults.past adds effects;
        does = λ p earlier step. record {
          from = λ told. elim (law p step.packed step.moment (covers_in refl d.past e.past accounted.faults.past step) told) [
            | inl v ↦ inl (record {
              spends = v.0;
              behind = subst known (state_behind k l added adds) v.1;
            })
            | inr pair ↦ inr pair
          ];
        };
      }

  -- one group of records
  pub group_serves : {now : ℕ} (i : Intent) (end : End) (before : Facts) (added : List Rec) → l ≡ with_records k added
      → ((p : Permit) → p.packed ≡ packed → p.now ≡ now → Covers p d.past e.past → Does p (state_of k) i added end)
      → ServesFrom (Untold e IsVectorAs) now (at_by packed k d) (at_by packed l e) (i ∷ []) (progress_of i end) before NothingKnown
  group_serves i end before added adds law = serves_by (i ∷ []) (progress_of i end) before added adds
      (λ p packs moment step told. inl (one_spends p (state_of k) i added end (law p packs moment step), tt))

  -- no record, and all is left
  pub all_left : {now : ℕ} {known : Facts} (asked : List Intent) (before : Facts) → l ≡ k → known (state_of l)
      → ServesFrom (Untold e IsVectorAs) now (at_by packed k d) (at_by packed l e) asked (Leaves asked) before known
  all_left asked before same behind =
      serves_by asked (Leaves asked) before [] (adds_none k l same) (λ p packs moment step told. inl (nothing, behind))
