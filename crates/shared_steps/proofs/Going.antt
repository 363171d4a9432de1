-- A turn more.
use Rattle.std.proofs.Common.{◌≡◌, Bool, true, false, cond, List, [], ◌∷◌, ◌++◌, Result, Ok, Err, sym, refl, ap, ◌∙◌, subst, append_assoc, append-nil}
use mathlib.Core.List.{map-append}
use Rattle.stripe_lock.specs.declared.view.StripeTurn.{StripeTurn}
use Rattle.shared_steps.specs.declared.shared.Taken.{Taken}
use Rattle.shared_steps.specs.declared.shared.Taken.TheVariants.{Said, Stopped, Left}
use Rattle.shared_steps.specs.declared.shared.StepRow.{StepRow}
use Rattle.shared_steps.specs.declared.shared.StepRecord.{StepRecord}
use Rattle.shared_steps.specs.declared.shared.StepRecord.TheVariants.{Began, Took}
use Rattle.shared_steps.specs.Histories.{turn_of, turns_of, records_of, AreLeft, has_stopped, Goes, TakesNext, IsKept}

no_truth : {Y : Type 0} → true ≡ false → Y
no_truth e = absurd (subst (λ (b : Bool). cond b (Unit {0}) ⊥) e tt)

module _ {S X A W : Type 0} where
  pub rows-snoc : (rows : List (StepRow X A W)) (r : StepRow X A W) → turns_of {S = S} (rows ++ r ∷ []) ≡ turns_of rows ++ turn_of r ∷ []
  rows-snoc rows r = map-append turn_of rows (r ∷ [])

  records-snoc : (ts : List (StripeTurn (StepRecord S X A W))) (t : StripeTurn (StepRecord S X A W)) → records_of (ts ++ t ∷ []) ≡ records_of ts ++ t.records
  records-snoc [] t = append-nil t.records
  records-snoc (u ∷ ts) t = ap (λ (l : List (StepRecord S X A W)). u.records ++ l) (records-snoc ts t) ∙ sym (append_assoc u.records (records_of ts) t.records)

  left-snoc : (rs : List (StepRecord S X A W)) (step : X) → AreLeft rs → AreLeft (rs ++ Took step Left ∷ [])
  left-snoc [] step all = tt
  left-snoc (Took x Left ∷ rs) step all = left-snoc rs step all
  left-snoc (Took x (Said a) ∷ rs) step all = absurd all
  left-snoc (Took x (Stopped w) ∷ rs) step all = absurd all
  left-snoc (Began s ∷ rs) step all = absurd all

  module _ (takes : S → X → S → Result A W → Type 0) where
    -- whether it has stopped behind a turn more
    stopped-snoc : (s t t' : S) (rs : List (StepRecord S X A W)) (step : X) (taken : Taken A W) (stopped stops : Bool) → stopped ≡ has_stopped rs → TakesNext takes stopped t step stops t' taken
        → stops ≡ has_stopped (rs ++ Took step taken ∷ [])
    stopped-snoc s t t' [] step (Said a) stopped stops e n = n.1
    stopped-snoc s t t' [] step (Stopped w) stopped stops e n = n.1
    stopped-snoc s t t' [] step Left stopped stops e n = no_truth (sym n.0 ∙ e)
    stopped-snoc s t t' (Took x (Stopped w) ∷ rs) step (Said a) stopped stops e n = no_truth (sym e ∙ n.0)
    stopped-snoc s t t' (Took x (Stopped w) ∷ rs) step (Stopped v) stopped stops e n = no_truth (sym e ∙ n.0)
    stopped-snoc s t t' (Took x (Stopped w) ∷ rs) step Left stopped stops e n = n.1
    stopped-snoc s t t' (Took x (Said a) ∷ rs) step taken stopped stops e n = stopped-snoc s t t' rs step taken stopped stops e n
    stopped-snoc s t t' (Took x Left ∷ rs) step taken stopped stops e n = stopped-snoc s t t' rs step taken stopped stops e n
    stopped-snoc s t t' (Began x ∷ rs) step taken stopped stops e n = stopped-snoc s t t' rs step taken stopped stops e n

    goes-snoc : (s t t' : S) (rs : List (StepRecord S X A W)) (step : X) (taken : Taken A W) (stopped stops : Bool) → stopped ≡ has_stopped rs → Goes takes s rs t → TakesNext takes stopped t step stops t' taken
        → Goes takes s (rs ++ Took step taken ∷ []) t'
    goes-snoc s t t' [] step (Said a) stopped stops e g n = (t', subst (λ (u : S). takes u step t' (Ok a)) (sym g) n.2, refl)
    goes-snoc s t t' [] step (Stopped w) stopped stops e g n = (subst (λ (u : S). takes u step t' (Err w)) (sym g) n.2, tt)
    goes-snoc s t t' [] step Left stopped stops e g n = no_truth (sym n.0 ∙ e)
    goes-snoc s t t' (Took x (Said a) ∷ rs) step taken stopped stops e g n = (g.0, g.1, goes-snoc g.0 t t' rs step taken stopped stops e g.2 n)
    goes-snoc s t t' (Took x (Stopped w) ∷ rs) step (Said a) stopped stops e g n = no_truth (sym e ∙ n.0)
    goes-snoc s t t' (Took x (Stopped w) ∷ rs) step (Stopped v) stopped stops e g n = no_truth (sym e ∙ n.0)
    goes-snoc s t t' (Took x (Stopped w) ∷ rs) step Left stopped stops e g n = (subst (λ (u : S). takes s x u (Err w)) (sym n.2) g.0, left-snoc rs step g.1)
    goes-snoc s t t' (Took x Left ∷ rs) step taken stopped stops e g n = absurd g
    goes-snoc s t t' (Began x ∷ rs) step taken stopped stops e g n = absurd g

    -- a turn more, which took this step
    pub kept_more : (stands : S → Type 0) (first : S) (turns : List (StripeTurn (StepRecord S X A W))) (turn : StripeTurn (StepRecord S X A W)) (step : X) (taken : Taken A W) (stopped stops : Bool) (s t : S)
        → turn.records ≡ Took step taken ∷ [] → IsKept takes stands first turns stopped s → TakesNext takes stopped s step stops t taken → stands t → IsKept takes stands first (turns ++ turn ∷ []) stops t
    kept_more stands first turns turn step taken stopped stops s t is kept next still =
        let all : records_of (turns ++ turn ∷ []) ≡ records_of turns ++ Took step taken ∷ [] = records-snoc turns turn ∙ ap (λ (l : List (StepRecord S X A W)). records_of turns ++ l) is in record {
          goes = subst (λ (rs : List (StepRecord S X A W)). Goes takes first rs t) (sym all) (goes-snoc first s t (records_of turns) step taken stopped stops kept.stopped_is kept.goes next);
          stopped_is = stopped-snoc first s t (records_of turns) step taken stopped stops kept.stopped_is next ∙ ap (λ (rs : List (StepRecord S X A W)). has_stopped rs) (sym all);
          stands_is = still;
        }
