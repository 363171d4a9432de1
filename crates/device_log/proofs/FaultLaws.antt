-- Counts of faults, and a switch that was told nothing.
use Rattle.std.proofs.Common.{◌≡◌, ℕ, ◌+◌, ◌==◌, ◌||◌, Bool, true, false, if◌then◌else◌, List, [], ◌∷◌, refl, sym, ◌∙◌, ap, arith}
use Rattle.std.proofs.lemmas.Bool.{and_parts}
use Rattle.device_log.specs.Calls.{Asked, Call, Read, Wrote, Synced, RefusedCall, Told, PowerCut, Flipped}
use Rattle.device_log.specs.Faults.{IsLog, are_counted, faults_of, next_count, is_fail_due, is_stopped, fails_next, is_untold, obeys_switch}

-- a call that failed has the count behind it
pub refused_has_count : (what : Asked) (count : ℕ) (older : List Call) → IsLog (RefusedCall what count ∷ older) → count ≡ next_count (faults_of older)
unfolding are_counted
refused_has_count what count older is =
    let both = and_parts (count == next_count (faults_of older)) (are_counted older) is.counted in
    let same = both.0 in grind (arith, same)

never_due : (made : ℕ) (past : List Call) → is_untold past ≡ true → is_fail_due made past ≡ false
unfolding is_untold is_fail_due
never_due made [] none = refl
never_due made (Read at bytes ∷ older) none = never_due (made + 1) older none
never_due made (Wrote at bytes ∷ older) none = never_due (made + 1) older none
never_due made (Synced ∷ older) none = never_due (made + 1) older none
never_due made (RefusedCall what count ∷ older) none = never_due (made + 1) older none
never_due made (Told act ∷ older) none = absurd (cc none)
never_due made (PowerCut choice left ∷ older) none = never_due made older none
never_due made (Flipped at byte ∷ older) none = never_due made older none

never_stopped : (made : ℕ) (past : List Call) → is_untold past ≡ true → is_stopped made past ≡ false
unfolding is_untold is_stopped
never_stopped made [] none = refl
never_stopped made (Read at bytes ∷ older) none = never_stopped (made + 1) older none
never_stopped made (Wrote at bytes ∷ older) none = never_stopped (made + 1) older none
never_stopped made (Synced ∷ older) none = never_stopped (made + 1) older none
never_stopped made (RefusedCall what count ∷ older) none = never_stopped (made + 1) older none
never_stopped made (Told act ∷ older) none = absurd (cc none)
never_stopped made (PowerCut choice left ∷ older) none = refl
never_stopped made (Flipped at byte ∷ older) none = never_stopped made older none

never_fails : (past : List Call) → is_untold past ≡ true → fails_next past ≡ false
never_fails past none = ap (λ b. b || is_stopped 0 past) (never_due 0 past none) ∙ never_stopped 0 past none

went_through : (fails obeys : Bool) → (if fails then false else obeys) ≡ true → obeys ≡ true
went_through true obeys is = absurd (cc is)
went_through false obeys is = is

-- a device that fails where its switch says, and was told nothing, has no fault
pub untold_has_none : (past : List Call) → is_untold past ≡ true → obeys_switch past ≡ true → faults_of past ≡ 0
unfolding is_untold obeys_switch faults_of
untold_has_none [] none obeys = refl
untold_has_none (Read at bytes ∷ older) none obeys = untold_has_none older none (went_through (fails_next older) (obeys_switch older) obeys)
untold_has_none (Wrote at bytes ∷ older) none obeys = untold_has_none older none (went_through (fails_next older) (obeys_switch older) obeys)
untold_has_none (Synced ∷ older) none obeys = untold_has_none older none (went_through (fails_next older) (obeys_switch older) obeys)
untold_has_none (RefusedCall what count ∷ older) none obeys =
    let no : true ≡ false = sym ((and_parts (fails_next older) (obeys_switch older) obeys).0) ∙ never_fails older none in absurd (cc no)
untold_has_none (Told act ∷ older) none obeys = absurd (cc none)
untold_has_none (PowerCut choice left ∷ older) none obeys = untold_has_none older none obeys
untold_has_none (Flipped at byte ∷ older) none obeys = untold_has_none older none obeys
