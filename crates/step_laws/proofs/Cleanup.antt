-- What a step that ends with a clean-up leaves, also behind a refusal.
use Rattle.std.proofs.Common.{◌≡◌, ℕ, List, [], ◌∷◌, refl, sym, ◌∙◌, ap, subst, Bool, true, false, inl, inr, ◌⊎◌}
use Rattle.std.specs.Prelude.{Option, None, ◌==◌, option_map, unwrap_or, cond}
use Rattle.std.specs.List.{AllByRecursion, find, filter}
use Rattle.cache_model.specs.declared.record.Rec.{Rec}
use Rattle.cache_model.specs.declared.record.Rec.TheVariants as rec
use Rattle.cache_model.specs.State.{State, PutRow, ReaderRow, GivenUp, after_all, change_put, reader_of, with_writing, without_reader}
use Rattle.cache_model.specs.Verdict.{is_open}
use Rattle.cache_model.specs.Permit.{Permit, Work, Intent, GiveUp, StopReading, End, Stays, Done, Fails, Reason, work_after, is_cleanup}
use Rattle.cache_model.specs.Legal
use Rattle.cache_model.specs.Legal.{Does, Advances, MayGrow, nothing, more, IsStep, is_writing}
use Rattle.step_laws.specs.StepLaws.{AsksLast, CleansUp}
use Rattle.cache_model.proofs.Steps.{after_all-append, all_append, seen}
use Rattle.cache_model.proofs.Found.{number_of}

-- ---- a step whose last intent is a clean-up comes to it, and it is the last group

module _ (last : Intent) (clean : is_cleanup last ≡ true) (P : State → Type 0)
    (does : (p : Permit) (s : State) (added : List Rec) (e : End) → Does p s last added e → (e ≡ Done) × P (after_all s added)) where
  one_more : (i : Intent) (is : List Intent) → AsksLast last is → AsksLast last (i ∷ is)
  one_more i [] h = absurd h
  one_more i (j ∷ js) h = h

  kept_by : (i : Intent) (is : List Intent) (b : Bool) → is_cleanup i ≡ b → AsksLast last (filter is_cleanup is) → AsksLast last (filter is_cleanup (i ∷ is))
  kept_by i is true e h = rw e (one_more i (filter is_cleanup is) h)
  kept_by i is false e h = rw e h

  -- a refusal keeps it
  kept : (is : List Intent) → AsksLast last is → AsksLast last (filter is_cleanup is)
  kept [] h = absurd h
  kept (i ∷ []) h = subst (λ x. AsksLast last (filter is_cleanup (x ∷ []))) (sym h) (rw clean refl)
  kept (i ∷ j ∷ js) h = kept_by i (j ∷ js) (is_cleanup i) refl (kept (j ∷ js) h)

  ended : (i j : Intent) (js : List Intent) (why : Option Reason) (e : End) → AsksLast last (j ∷ js) → AsksLast last (work_after i (j ∷ js) why e).intents
  ended i j js why Stays h = h
  ended i j js why Done h = h
  ended i j js why (Fails reason) h = kept (j ∷ js) h

  -- one group leaves it the last, or was its own
  leaves : (p : Permit) (s : State) (is : List Intent) (why : Option Reason) (added : List Rec) (between : Work) → Advances p s is why added between → AsksLast last is
      → AsksLast last between.intents ⊎ ((between.intents ≡ []) × P (after_all s added))
  leaves p s [] why added between h ends = absurd h
  leaves p s (i ∷ []) why added between h ends =
      let d : (h.0 ≡ Done) × P (after_all s added) = does p s added h.0 (subst (λ x. Does p s x added h.0) ends h.1) in
      inr (ap (λ (w : Work). w.intents) h.2 ∙ ap (λ e. (work_after i [] why e).intents) d.0, d.1)
  leaves p s (i ∷ j ∷ js) why added between h ends = inl (subst (λ (w : Work). AsksLast last w.intents) (sym h.2) (ended i j js why h.0 ends))

  none_by : (p : Permit) (s : State) (w : Work) (recs : List Rec) (after : Work) → w.intents ≡ [] → MayGrow p s w recs after → recs ≡ []
  none_by p s w recs after e h = elim (seen h) [
    | inl q ↦ q.0
    | inr v ↦ absurd (subst (λ is. Advances p s is w.refused v.added v.between) e v.first)
  ]

  pub at_end : {p : Permit} {s : State} {w after : Work} {recs : List Rec} → MayGrow p s w recs after → after.intents ≡ [] → AsksLast last w.intents → P (after_all s recs)
  at_end nothing done ends = absurd (subst (AsksLast last) done ends)
  at_end {p} {s} {w} {after} (more {rest = tail} added between one others) done ends =
      elim (leaves p s w.intents w.refused added between one ends) [
        | inl e ↦ subst P (sym (after_all-append s added tail)) (at_end others done e)
        | inr e ↦ subst P (sym (after_all-append s added tail)) (subst (λ xs. P (after_all (after_all s added) xs)) (sym (none_by p (after_all s added) between tail after e.0 others)) e.1)
      ]

-- ---- behind a refusal

abbrev IsClean : Intent → Type 0
IsClean i = is_cleanup i ≡ true

clean_by : (i : Intent) (b : Bool) (rest : List Intent) → is_cleanup i ≡ b → AllByRecursion IsClean rest → AllByRecursion IsClean (cond b (i ∷ rest) rest)
clean_by i true rest e h = (e, h)
clean_by i false rest e h = h

clean_left : (is : List Intent) → AllByRecursion IsClean (filter is_cleanup is)
clean_left [] = tt
clean_left (i ∷ is) = clean_by i (is_cleanup i) (filter is_cleanup is) refl (clean_left is)

not_clean : {X : Type 0} → false ≡ true → X
not_clean h = cc

record Cleans (added : List Rec) (e : End) : Type 0 where
  pub records : AllByRecursion CleansUp added
  pub end : e ≡ Done

cleans : (p : Permit) (s : State) (i : Intent) (added : List Rec) (e : End) → IsClean i → Does p s i added e → Cleans added e
cleans p s (GiveUp put) added e h (Legal.DoesGiveUp.aborts w q is) = record { records = subst (AllByRecursion CleansUp) (sym is) (refl, tt); end = refl }
cleans p s (GiveUp put) added e h (Legal.DoesGiveUp.over q o is) = record { records = subst (AllByRecursion CleansUp) (sym is) tt; end = refl }
cleans p s (StopReading reader) added e h (Legal.DoesStopReading.closes row q l is) = record { records = subst (AllByRecursion CleansUp) (sym is) (refl, tt); end = refl }
cleans p s (StopReading reader) added e h (Legal.DoesStopReading.closed q l is) = record { records = subst (AllByRecursion CleansUp) (sym is) tt; end = refl }
cleans p s _ added e h d = not_clean h

advance_cleans : (p : Permit) (s : State) (is : List Intent) (why : Option Reason) (added : List Rec) (between : Work) → AllByRecursion IsClean is
    → Advances p s is why added between → AllByRecursion CleansUp added × AllByRecursion IsClean between.intents
advance_cleans p s [] why added between h a = absurd a
advance_cleans p s (i ∷ is) why added between h a =
    let c : Cleans added a.0 = cleans p s i added a.0 h.0 a.1 in
    (c.records, subst (λ (w : Work). AllByRecursion IsClean w.intents) (sym (a.2 ∙ ap (work_after i is why) c.end)) h.1)

grown_cleans : {p : Permit} {s : State} {w after : Work} {recs : List Rec} → MayGrow p s w recs after → AllByRecursion IsClean w.intents → AllByRecursion CleansUp recs
grown_cleans nothing h = tt
grown_cleans {p} {s} {w} (more {rest = tail} added between one others) h =
    let first = advance_cleans p s w.intents w.refused added between h one in
    all_append CleansUp added tail first.0 (grown_cleans others first.1)

pub refusal_ends : (p : Permit) (s : State) (i : Intent) (rest : List Intent) (earlier : Option Reason) (why : Reason) (added : List Rec) (after : Work)
    → MayGrow p s (work_after i rest earlier (Fails why)) added after → AllByRecursion CleansUp added
refusal_ends p s i rest earlier why added after h = grown_cleans h (clean_left rest)

-- ---- closing a reader

found_by : (n : ℕ) (row : ReaderRow) (rows : List ReaderRow) (b : Bool) → (row.reader == n) ≡ b → find (λ (r : ReaderRow). r.reader == n) (without_reader n rows) ≡ None
    → find (λ (r : ReaderRow). r.reader == n) (without_reader n (row ∷ rows)) ≡ None
found_by n row rows true e h = rw e h
found_by n row rows false e h = rw e (rw e h)

not_found : (n : ℕ) (rows : List ReaderRow) → find (λ (r : ReaderRow). r.reader == n) (without_reader n rows) ≡ None
not_found n [] = refl
not_found n (row ∷ rows) = found_by n row rows (row.reader == n) refl (not_found n rows)

stops : (reader : ℕ) (p : Permit) (s : State) (added : List Rec) (e : End) → Does p s (StopReading reader) added e → (e ≡ Done) × (reader_of (after_all s added) reader ≡ None)
stops reader p s added e (Legal.DoesStopReading.closes row q h is) = (refl, subst (λ xs. reader_of (after_all s xs) reader ≡ None) (sym is) (not_found reader s.readers))
stops reader p s added e (Legal.DoesStopReading.closed q h is) = (refl, subst (λ xs. reader_of (after_all s xs) reader ≡ None) (sym is) h)

pub reader_is_closed : (p : Permit) (s : State) (intents : List Intent) (added : List Rec) (why : Option Reason) (reader : ℕ)
    → AsksLast (StopReading reader) intents → IsStep p s intents added why → reader_of (after_all s added) reader ≡ None
reader_is_closed p s intents added why reader ends h = at_end (StopReading reader) refl (λ t. reader_of t reader ≡ None) (stops reader) h.grows refl ends

-- ---- giving a put up

given_up_by : (put : ℕ) (row : PutRow) (rows : List PutRow) (b : Bool) → (row.put == put) ≡ b
    → unwrap_or (option_map is_open (find (λ (q : PutRow). q.put == put) (change_put put (with_writing GivenUp) rows))) false ≡ false
    → unwrap_or (option_map is_open (find (λ (q : PutRow). q.put == put) (change_put put (with_writing GivenUp) (row ∷ rows)))) false ≡ false
given_up_by put row rows true e h = rw e (rw e refl)
given_up_by put row rows false e h = rw e (rw e h)

given_up : (put : ℕ) (rows : List PutRow) → unwrap_or (option_map is_open (find (λ (q : PutRow). q.put == put) (change_put put (with_writing GivenUp) rows))) false ≡ false
given_up put [] = refl
given_up put (row ∷ rows) = given_up_by put row rows (row.put == put) refl (given_up put rows)

gives_up : (put : ℕ) (p : Permit) (s : State) (added : List Rec) (e : End) → Does p s (GiveUp put) added e → (e ≡ Done) × (is_writing (after_all s added) put ≡ false)
gives_up put p s added e (Legal.DoesGiveUp.aborts w q is) =
    let same : w.put ≡ put = number_of s put w q.found in
    (refl, subst (λ xs. is_writing (after_all s xs) put ≡ false) (sym (is ∙ ap (λ n. rec.Aborted n w.key ∷ []) same)) (given_up put s.puts))
gives_up put p s added e (Legal.DoesGiveUp.over q o is) = (refl, subst (λ xs. is_writing (after_all s xs) put ≡ false) (sym is) o)

pub writer_is_ended : (p : Permit) (s : State) (intents : List Intent) (added : List Rec) (why : Option Reason) (put : ℕ)
    → AsksLast (GiveUp put) intents → IsStep p s intents added why → is_writing (after_all s added) put ≡ false
writer_is_ended p s intents added why put ends h = at_end (GiveUp put) refl (λ t. is_writing t put ≡ false) (gives_up put) h.grows refl ends
