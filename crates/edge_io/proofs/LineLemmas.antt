-- The first line, and the place of the first newline.
use Rattle.std.proofs.Common.{◌≡◌, ℕ, zero, suc, ◌≤◌, ◌==◌, true, false, cond, List, [], ◌∷◌, ◌++◌, length, sym, ap, subst, arith}
use Rattle.std.proofs.lemmas.Bool.{eq-eqb, ne_eqb}
use Rattle.edge_io.specs.LineBuffer.{IsClear, IsNewline}
use Rattle.edge_io.specs.Lines.{first_line}

pub clear_tail : (x : ℕ) (xs : List ℕ) (n : ℕ) → IsClear (x ∷ xs) (suc n) → IsClear xs n
clear_tail x xs n h = record { clear = λ k below. h.clear (suc k) (omega arith) }

pub newline_tail : (x : ℕ) (xs : List ℕ) (n : ℕ) → IsNewline (x ∷ xs) (suc n) → IsNewline xs n
newline_tail x xs n h = record { within = omega (arith, h.within); here = h.here; before = clear_tail x xs n h.before }

pub first_other : (x : ℕ) (xs : List ℕ) (n : ℕ) → IsClear (x ∷ xs) (suc n) → (x == 10) ≡ false
first_other x xs n h = ne_eqb x 10 (h.clear 0 (omega arith))

-- the first line goes on through bytes without a newline
pub first_through : (xs ys : List ℕ) → IsClear xs (length xs) → length xs ≤ length (first_line (xs ++ ys))
first_through [] ys h = omega arith
first_through (x ∷ xs) ys h =
    let longer : suc (length xs) ≤ suc (length (first_line (xs ++ ys))) = omega (arith, first_through xs ys (clear_tail x xs (length xs) h)) in
    subst (λ l. suc (length xs) ≤ length l) (sym (ap (λ b. cond b [] (x ∷ first_line (xs ++ ys))) (first_other x xs (length xs) h))) longer

pub first_at : (xs : List ℕ) (n : ℕ) → IsNewline xs n → length (first_line xs) ≤ n
first_at [] n h = omega arith
first_at (x ∷ xs) zero h = subst (λ (l : List ℕ). length l ≤ 0) (sym (ap (λ b. cond b [] (x ∷ first_line xs)) (eq-eqb x 10 h.here))) (omega arith)
first_at (x ∷ xs) (suc n) h =
    let longer : suc (length (first_line xs)) ≤ suc n = omega (arith, first_at xs n (newline_tail x xs n h)) in
    subst (λ (l : List ℕ). length l ≤ suc n) (sym (ap (λ b. cond b [] (x ∷ first_line xs)) (first_other x xs n h.before))) longer

pub first_within : (xs : List ℕ) → length (first_line xs) ≤ length xs
first_within [] = omega arith
first_within (x ∷ xs) =
    let shorter = first_within xs in
    elim (x == 10) as (λ b. length (cond b [] (x ∷ first_line xs)) ≤ suc (length xs)) [ true ↦ omega arith | false ↦ omega (arith, shorter) ]
