-- What stands belongs to what writers took, behind each step as before it.
use Rattle.std.proofs.Common.{◌≡◌, ℕ, List, [], ◌∷◌, refl, sym, ◌∙◌, ap, subst, Bool, true, false, inl, inr, ◌⊎◌}
use Rattle.std.specs.Prelude.{Option, ◌==◌, option_map, unwrap_or}
use Rattle.std.specs.List.{find, filter}
use Rattle.cache_model.specs.declared.record.Rec.{Rec}
use Rattle.cache_model.specs.declared.record.Rec.TheVariants as rec
use Rattle.cache_model.specs.State.{State, PutRow, GivenUp, after_all, change_put, with_writing}
use Rattle.cache_model.specs.Verdict.{is_open}
use Rattle.cache_model.specs.Permit.{Permit, Work, Intent, GiveUp, End, Stays, Done, Fails, Reason, work_after, is_cleanup}
use Rattle.cache_model.specs.Legal
use Rattle.cache_model.specs.Legal.{Does, Advances, MayGrow, nothing, more, IsStep, is_writing}
use Rattle.step_laws.specs.StepLaws.{AsksLast, WriterIsEnded}
use Rattle.cache_model.proofs.Steps.{after_all-append, seen}
use Rattle.cache_model.proofs.Found.{number_of}
use Rattle.script_run.specs.Laws.{StepsOwn}
use Rattle.script_run.proofs.Stepping.{steps_own}

-- ---- a step that ends by giving a put up comes to that, also behind a refusal

module _ (put : ℕ) where
  abbrev IsLast : List Intent → Type 0
  IsLast is = AsksLast (GiveUp put) is

  abbrev IsOver : State → Type 0
  IsOver s = is_writing s put ≡ false

  one_more : (i : Intent) (is : List Intent) → IsLast is → IsLast (i ∷ is)
  one_more i [] h = absurd h
  one_more i (j ∷ js) h = h

  kept_by : (i : Intent) (is : List Intent) (b : Bool) → is_cleanup i ≡ b → IsLast (filter is_cleanup is) → IsLast (filter is_cleanup (i ∷ is))
  kept_by i is true e h = rw e (one_more i (filter is_cleanup is) h)
  kept_by i is false e h = rw e h

  kept : (is : List Intent) → IsLast is → IsLast (filter is_cleanup is)
  kept [] h = absurd h
  kept (i ∷ []) h = subst (λ x. IsLast (filter is_cleanup (x ∷ []))) (sym h) refl
  kept (i ∷ j ∷ js) h = kept_by i (j ∷ js) (is_cleanup i) refl (kept (j ∷ js) h)

  still_last : (i j : Intent) (js : List Intent) (why : Option Reason) (e : End) → IsLast (j ∷ js) → IsLast (work_after i (j ∷ js) why e).intents
  still_last i j js why Stays h = h
  still_last i j js why Done h = h
  still_last i j js why (Fails reason) h = kept (j ∷ js) h

  given_up_by : (row : PutRow) (rows : List PutRow) (b : Bool) → (row.put == put) ≡ b
      → unwrap_or (option_map is_open (find (λ (q : PutRow). q.put == put) (change_put put (with_writing GivenUp) rows))) false ≡ false
      → unwrap_or (option_map is_open (find (λ (q : PutRow). q.put == put) (change_put put (with_writing GivenUp) (row ∷ rows)))) false ≡ false
  given_up_by row rows true e h = rw e (rw e refl)
  given_up_by row rows false e h = rw e (rw e h)

  given_up : (rows : List PutRow) → unwrap_or (option_map is_open (find (λ (q : PutRow). q.put == put) (change_put put (with_writing GivenUp) rows))) false ≡ false
  given_up [] = refl
  given_up (row ∷ rows) = given_up_by row rows (row.put == put) refl (given_up rows)

  gives_up : (p : Permit) (s : State) (added : List Rec) (e : End) → Does p s (GiveUp put) added e → (e ≡ Done) × IsOver (after_all s added)
  gives_up p s added e (Legal.DoesGiveUp.aborts w q is) =
      let same : w.put ≡ put = number_of s put w q.found in
      (refl, subst (λ xs. IsOver (after_all s xs)) (sym (is ∙ ap (λ n. rec.Aborted n w.key ∷ []) same)) (given_up s.puts))
  gives_up p s added e (Legal.DoesGiveUp.over q o is) = (refl, subst (λ xs. IsOver (after_all s xs)) (sym is) o)

  leaves : (p : Permit) (s : State) (is : List Intent) (why : Option Reason) (added : List Rec) (between : Work) → Advances p s is why added between → IsLast is
      → IsLast between.intents ⊎ ((between.intents ≡ []) × IsOver (after_all s added))
  leaves p s [] why added between h ends = absurd h
  leaves p s (i ∷ []) why added between h ends =
      let d : (h.0 ≡ Done) × IsOver (after_all s added) = gives_up p s added h.0 (subst (λ x. Does p s x added h.0) ends h.1) in
      inr (ap (λ (w : Work). w.intents) h.2 ∙ ap (λ e. (work_after i [] why e).intents) d.0, d.1)
  leaves p s (i ∷ j ∷ js) why added between h ends = inl (subst (λ (w : Work). IsLast w.intents) (sym h.2) (still_last i j js why h.0 ends))

  none_by : (p : Permit) (s : State) (w : Work) (recs : List Rec) (after : Work) → w.intents ≡ [] → MayGrow p s w recs after → recs ≡ []
  none_by p s w recs after e h = elim (seen h) [
    | inl q ↦ q.0
    | inr v ↦ absurd (subst (λ is. Advances p s is w.refused v.added v.between) e v.first)
  ]

  at_end : {p : Permit} {s : State} {w after : Work} {recs : List Rec} → MayGrow p s w recs after → after.intents ≡ [] → IsLast w.intents → IsOver (after_all s recs)
  at_end nothing done ends = absurd (subst IsLast done ends)
  at_end {p} {s} {w} {after} (more {rest = tail} added between one others) done ends =
      elim (leaves p s w.intents w.refused added between one ends) [
        | inl e ↦ subst IsOver (sym (after_all-append s added tail)) (at_end others done e)
        | inr e ↦ subst IsOver (sym (after_all-append s added tail)) (subst (λ xs. IsOver (after_all (after_all s added) xs))
            (sym (none_by p (after_all s added) between tail after e.0 others)) e.1)
      ]

pub writer_is_ended : WriterIsEnded
writer_is_ended p s intents added why put ends h = at_end put h.grows refl ends

-- ---- each step

pub own_stays : StepsOwn
own_stays = steps_own writer_is_ended
