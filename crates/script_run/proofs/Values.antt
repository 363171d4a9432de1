-- What is told of one number, and what of the others.
use Rattle.std.proofs.Common.{◌≡◌, ℕ, cond, eqb-true}
use Rattle.std.specs.Prelude.{◌==◌}
use Rattle.std.proofs.lemmas.Bool.{cond_both, cond-false, cond-true, eq-eqb, eqb-false, ne_eqb}

pub value_by : {X : Type 0} (P : X → Type 0) (x y : X) (m n : ℕ) → (m ≡ n → P x) → ((m ≡ n → ⊥) → P y) → P (cond (m == n) x y)
value_by P x y m n here there = cond_both (m == n) x y P (λ e. here (eqb-true m n e)) (λ e. there (eqb-false m n e))

pub value_here : {X : Type 0} (x y : X) (m n : ℕ) → m ≡ n → cond (m == n) x y ≡ x
value_here x y m n same = cond-true (m == n) x y (eq-eqb m n same)

pub other_than : {X : Type 0} (x y : X) (m n : ℕ) → (m ≡ n → ⊥) → cond (m == n) x y ≡ y
other_than x y m n other = cond-false (m == n) x y (ne_eqb m n other)
