-- What each group of records keeps is kept by a call.
use Rattle.std.proofs.Common.{◌≡◌, ℕ, Bool, true, false, List, [], ◌∷◌, ◌++◌, refl, sym, subst, inl, inr, ◌⊎◌}
use Rattle.std.proofs.lemmas.Bool.{le-leb, leb-true}
use Rattle.std.specs.Prelude.{Option, nat_le}
use Rattle.device_log.specs.Calls.{Call}
use Rattle.cache_model.specs.declared.record.Rec.{Rec}
use Rattle.logged_disk.specs.Device.{DeviceState as Device, TellsAll, has_flip}
use Rattle.cache_model.specs.State.{Row, State, after_all}
use Rattle.cache_model.specs.Kept.{state_of}
use Rattle.cache_model.specs.Permit.{Intent, Permit, Reason, Work}
use Rattle.cache_model.specs.Legal.{Advances, MayGrow, nothing, more}
use Rattle.cache_model.specs.Tape.{IsSound}
use Rattle.cache_model.specs.Pair.{Documents, IsPairNext, ShowsFrom}
use Rattle.cache_model.specs.Vectors.{ArePuts, AreTold, AreVectors, IsVectorAs}
use Rattle.cache_model.proofs.Onward.{later_group}
use Rattle.cache_model.proofs.Steps.{after_all-append, grows_by}
use Rattle.call_laws.specs.Untold.{Untold}
use Rattle.call_laws.specs.Moments.{At, BothFacts, Facts}
use Rattle.call_laws.specs.Progress.{Progress}
use Rattle.call_laws.specs.Serves.{Serves, ServesFrom}
use Rattle.call_laws.specs.Whole.{GroupsKeep, GroupsLeavePuts, GroupsLeaveTold, LeavesListed}
use Rattle.call_laws.proofs.Grown.{shown_later, spends_begins}
use Rattle.call_laws.proofs.Joined.{call_as, state_behind}
use Rattle.call_laws.proofs.Known.{next_of_wider, serves_known, serves_wider}

module _ (P : Documents) (IsSo : State → Type 0) (keep : GroupsKeep P IsSo) where
  advanced : (p : Permit) (s : State) (is : List Intent) (why : Option Reason) (added : List Rec) (after : Work) → Advances p s is why added after
      → IsSo s
      → IsSo (after_all s added) ⊎ IsPairNext P p s is
  advanced p s [] why added after h k = absurd h
  advanced p s (i ∷ is) why added after h k = keep p s i added h.0 k h.1

  pub grown_keeps : {p : Permit} {s : State} {w after : Work} {added : List Rec} → MayGrow p s w added after → IsSo s
      → IsSo (after_all s added) ⊎ ShowsFrom P p s w added
  grown_keeps nothing k = inl k
  grown_keeps {p} {s} {w} (more {rest = rest} added between one others) k = elim (advanced p s w.intents w.refused added between one k) [
    | inr pair ↦ inr (record { before = []; rest = added ++ rest; left = w; is = refl; grows = nothing; pair = pair })
    | inl first ↦ elim (grown_keeps others first) [
      | inl last ↦ inl (subst IsSo (sym (after_all-append s added rest)) last)
      | inr v ↦ inr (shown_later P p s w between added rest (grows_by p s w between added one) v)
    ]
  ]

  pub serves_keeps : {now : ℕ} {a b : At} {asked : List Intent} {o : Progress} {before known : Facts}
      → (before (state_of a.kept) → IsSo (state_of a.kept))
      → ServesFrom P now a b asked o before known → ServesFrom P now a b asked o before (BothFacts IsSo known)
  serves_keeps {a = a} {asked = asked} {o = o} first f = call_as (λ p earlier calls added step happens h. record {
    from = λ k. elim (h.from k) [
      | inr pair ↦ inr pair
      | inl v ↦ elim (grown_keeps (spends_begins p (state_of a.kept) asked added o v.spends).1 (first k)) [
        | inl kept ↦ inl (record { spends = v.spends; behind = (kept, v.behind) })
        | inr pair ↦ inr pair
      ]
    ];
  }) f

-- ---- vectors

-- the tape is sound, and vectors list their alternates
abbrev StandsTold : State → Type 0
StandsTold s = IsSound s × AreTold s

told_keep : GroupsLeaveTold → GroupsKeep IsVectorAs StandsTold
told_keep tell p s i added e k does = elim (tell p s i added e k.0 k.1 does) [
  | inl told ↦ inl ((later_group p s i added e does k.0).sound, told)
  | inr pair ↦ inr pair
]

-- a device tells its content, or it does not
pub tells_or_not : (d : Device) → TellsAll d ⊎ (TellsAll d → ⊥)
tells_or_not d = decide (nat_le 1 d.trust) (has_flip d.past) refl refl where
  decide : (trusted flipped : Bool) → nat_le 1 d.trust ≡ trusted → has_flip d.past ≡ flipped → TellsAll d ⊎ (TellsAll d → ⊥)
  decide true false t u = inl (record { trusted = leb-true 1 d.trust t; unturned = u })
  decide true true t u = inr (λ h. cc (h.unturned, u))
  decide false flipped t u = inr (λ h. cc (le-leb 1 d.trust h.trusted, t))

-- a pair of vectors is one of some, whatever the device told
untold_wider : (last : Device) (s : State) (row : Row) (document : List ℕ) → Untold last IsVectorAs s row document → IsVectorAs s row document
untold_wider last s row document h = h.0

-- one on a device that did not tell its content is one of these
untold_of : (last : Device) → (TellsAll last → ⊥) → (s : State) (row : Row) (document : List ℕ) → IsVectorAs s row document → Untold last IsVectorAs s row document
untold_of last n s row document h = (h, n)

-- no pair is one of no documents
abbrev NoDocuments : Documents
NoDocuments s row document = ⊥

puts_keep : GroupsLeavePuts → GroupsKeep NoDocuments ArePuts
puts_keep leave p s i added e puts does = inl (leave p s i added e puts does)

no_pair : (p : Permit) (s : State) (is : List Intent) → IsPairNext NoDocuments p s is → ⊥
no_pair p s [] h = h
no_pair p s (i ∷ is) h = h.pair.placed

-- where a device tells its content, and leaves vectors that list their alternates, these are so behind a call
serves_surely : {now : ℕ} {a b : At} {P : Documents} {asked : List Intent} {o : Progress} {known : Facts} → GroupsLeavePuts → AreVectors (state_of b.kept)
    → (state_of b.kept).displaced ≡ [] → ServesFrom P now a b asked o AreTold known → ServesFrom P now a b asked o AreTold (BothFacts AreTold known)
serves_surely {a = a} {b = b} {asked = asked} {o = o} leave vectors none f = call_as (λ p earlier calls added step happens h. record {
  from = λ k. elim (h.from k) [
    | inr pair ↦ inr pair
    | inl v ↦ elim (grown_keeps NoDocuments ArePuts (puts_keep leave) (spends_begins p (state_of a.kept) asked added o v.spends).1 k.puts) [
      | inr shown ↦ absurd (no_pair p _ shown.left.intents shown.pair)
      | inl puts ↦ (
          let there = state_behind a.kept b.kept added happens.adds in
          inl (record {
            spends = v.spends;
            behind = (record { vectors = subst AreVectors there vectors; puts = puts; displaced = subst (λ t. t.displaced ≡ []) there none }, v.behind);
          })
          )
    ]
  ];
}) f

-- a call that needs vectors that list their alternates leaves them so
pub serves_told : {now : ℕ} {a b : At} {last : Device} {asked : List Intent} {o : Progress} {known : Facts} → GroupsLeaveTold → GroupsLeavePuts
    → IsSound (state_of a.kept) → LeavesListed last (state_of b.kept) → ServesFrom (Untold last IsVectorAs) now a b asked o AreTold known
    → ServesFrom (Untold last IsVectorAs) now a b asked o AreTold (BothFacts AreTold known)
serves_told {last = last} {known = known} tell leave sound listed f = elim (tells_or_not last) [
  | inl tells ↦ serves_surely leave (listed.vectors tells) listed.none f
  | inr n ↦ serves_wider IsVectorAs (Untold last IsVectorAs) (untold_of last n)
      (serves_known (BothFacts AreTold known) (λ k. (k.0.1, k.1))
      (serves_keeps IsVectorAs StandsTold (told_keep tell) (λ told. (sound, told)) (serves_wider (Untold last IsVectorAs) IsVectorAs (untold_wider last) f)))
]

-- so it serves
pub told_serves : {now : ℕ} {a b : At} {asked : List Intent} {o : Progress} {known : Facts} → GroupsLeaveTold → GroupsLeavePuts → IsSound (state_of a.kept)
    → LeavesListed b.device (state_of b.kept) → ServesFrom (Untold b.device IsVectorAs) now a b asked o AreTold known → Serves now a b asked o
told_serves tell leave sound listed f = serves_known AreTold (λ k. k.0) (serves_told tell leave sound listed f)

-- ---- pairs on devices that did not tell their content

-- a device that told its content up to a later moment told it up to this one: so a pair on this one is one on the later one
pub untold_later : (IsPlaced : Documents) (one other : Device) → (TellsAll other → TellsAll one) → (s : State) (row : Row) (document : List ℕ)
    → Untold one IsPlaced s row document → Untold other IsPlaced s row document
untold_later IsPlaced one other before s row document h = (h.0, λ tells. h.1 (before tells))

next_untold : (IsPlaced : Documents) (last : Device) (p : Permit) (s : State) (is : List Intent) → IsPairNext (Untold last IsPlaced) p s is → TellsAll last → ⊥
next_untold IsPlaced last p s [] h = absurd h
next_untold IsPlaced last p s (i ∷ is) h = h.pair.placed.1

-- a pair on a device that did not tell its content is a pair, and the device did not
pub shows_untold : (IsPlaced : Documents) (last : Device) (p : Permit) (s : State) (w : Work) (added : List Rec) → ShowsFrom (Untold last IsPlaced) p s w added
    → ShowsFrom IsPlaced p s w added × (TellsAll last → ⊥)
shows_untold IsPlaced last p s w added h = (
  record {
    before = h.before;
    rest = h.rest;
    left = h.left;
    is = h.is;
    grows = h.grows;
    pair = next_of_wider (Untold last IsPlaced) IsPlaced (λ t row document x. x.0) p _ h.left.intents h.pair;
  },
  next_untold IsPlaced last p _ h.left.intents h.pair,
)

-- and on such a device each pair is one
pub shows_on_untold : (IsPlaced : Documents) (last : Device) → (TellsAll last → ⊥) → (p : Permit) (s : State) (w : Work) (added : List Rec)
    → ShowsFrom IsPlaced p s w added → ShowsFrom (Untold last IsPlaced) p s w added
shows_on_untold IsPlaced last n p s w added h = record {
  before = h.before;
  rest = h.rest;
  left = h.left;
  is = h.is;
  grows = h.grows;
  pair = next_of_wider IsPlaced (Untold last IsPlaced) (λ t row document x. (x, n)) p _ h.left.intents h.pair;
}
