-- Sums over the buckets of a segment.
use Rattle.std.proofs.Common.{◌≡◌, ◌≤◌, ◌<◌, ◌+◌, ℕ, zero, suc, Bool, true, false, cond, List, [], ◌∷◌, length, refl, ap, subst, arith, inl, inr}
use Rattle.std.specs.Prelude.{◌==◌, ◌||◌}
use Rattle.std.specs.List.{AllByRecursion, count_by, list_any, range_with_len}
use Rattle.std.proofs.lemmas.Bool.{cases_eq, eq-eqb, ne_eqb, or_parts}
use Rattle.std.proofs.lemmas.List.Sums.{sum_by-cons}

abbrev pub bit : Bool → ℕ
bit b = cond b 1 0

-- what a test gives of so many numbers from one on, summed up
abbrev pub total : (ℕ → ℕ) → ℕ → ℕ → ℕ
total f from zero = 0
total f from (suc n) = f from + total f (from + 1) n

pub total_le : (f g : ℕ → ℕ) (from n : ℕ) → ((b : ℕ) → f b ≤ g b) → total f from n ≤ total g from n
total_le f g from zero each = omega arith
total_le f g from (suc n) each = omega (arith, each from, total_le f g (from + 1) n each)

pub total_add : (f g : ℕ → ℕ) (from n : ℕ) → total (λ b. f b + g b) from n ≡ total f from n + total g from n
total_add f g from zero = refl
total_add f g from (suc n) = omega (arith, total_add f g (from + 1) n)

pub total_none : (f : ℕ → ℕ) (from n : ℕ) → ((b : ℕ) → f b ≡ 0) → total f from n ≡ 0
total_none f from zero each = refl
total_none f from (suc n) each = omega (arith, each from, total_none f (from + 1) n each)

-- each number is one at most once, and once where it is among them
past_none : (x from n : ℕ) → x < from → total (λ b. bit (x == b)) from n ≡ 0
past_none x from zero lt = refl
past_none x from (suc n) lt =
    let here : bit (x == from) ≡ 0 = ap bit (ne_eqb x from (λ q. let no : from < from = subst (λ k. k < from) q lt in absurd (omega (arith, no)))) in
    omega (arith, here, past_none x (from + 1) n (omega (arith, lt)))

pub one_most : (x from n : ℕ) → total (λ b. bit (x == b)) from n ≤ 1
one_most x from zero = omega arith
one_most x from (suc n) = elim (cases_eq x from) [
  | inl is ↦
      let here : bit (x == from) ≡ 1 = ap bit (eq-eqb x from is) in
      omega (arith, here, past_none x (from + 1) n (omega (arith, is)))
  | inr ne ↦
      let here : bit (x == from) ≡ 0 = ap bit (ne_eqb x from ne) in
      omega (arith, here, one_most x (from + 1) n)
]

pub one_least : (x from n : ℕ) → from ≤ x → x < from + n → 1 ≤ total (λ b. bit (x == b)) from n
one_least x from zero low high = absurd (omega (arith, low, high))
one_least x from (suc n) low high = elim (cases_eq x from) [
  | inl is ↦ let here : bit (x == from) ≡ 1 = ap bit (eq-eqb x from is) in omega (arith, here)
  | inr ne ↦
      let here : bit (x == from) ≡ 0 = ap bit (ne_eqb x from ne) in
      omega (arith, here, one_least x (from + 1) n (omega (arith, low, ne)) (omega (arith, high)))
]

pub count_cons : {X : Type 0} (test : X → Bool) (x : X) (xs : List X) → count_by test (x ∷ xs) ≡ bit (test x) + count_by test xs
count_cons test x xs = sum_by-cons (λ y. bit (test y)) x xs

-- how many of so many numbers pass
pub count_range : (test : ℕ → Bool) (from n : ℕ) → count_by test (range_with_len from n) ≡ total (λ b. bit (test b)) from n
count_range test from zero = refl
count_range test from (suc n) = omega (arith, count_cons test from (range_with_len (from + 1) n), count_range test (from + 1) n)

module _ {X : Type 0} (of : X → ℕ) where
  -- each that has one of these numbers is counted
  pub all_counted : (n : ℕ) (xs : List X) → AllByRecursion (λ x. of x < n) xs → length xs ≤ total (λ b. count_by (λ x. of x == b) xs) 0 n
  all_counted n [] each = omega arith
  all_counted n (x ∷ xs) each =
      let split = total_le (λ b. bit (of x == b) + count_by (λ y. of y == b) xs) (λ b. count_by (λ y. of y == b) (x ∷ xs)) 0 n
      (λ b. let e = count_cons (λ y. of y == b) x xs in omega (arith, e)) in
      let sum = total_add (λ b. bit (of x == b)) (λ b. count_by (λ y. of y == b) xs) 0 n in
      omega (arith, split, sum, one_least (of x) 0 n (omega arith) (omega (arith, each.0)), all_counted n xs each.1)

  -- where a number has none, none is counted
  pub none_counted : (b : ℕ) (xs : List X) → list_any (λ x. of x == b) xs ≡ false → count_by (λ x. of x == b) xs ≡ 0
  none_counted b [] none = refl
  none_counted b (x ∷ xs) none =
      let e = or_parts (of x == b) (list_any (λ y. of y == b) xs) none in
      omega (arith, count_cons (λ y. of y == b) x xs, ap bit e.0, none_counted b xs e.1)

either_le : (t rest : Bool) (n : ℕ) → bit rest ≤ n → bit (t || rest) ≤ bit t + n
either_le true rest n le = omega arith
either_le false rest n le = omega (arith, le)

-- where one passes, one is counted
pub any_le : {X : Type 0} (test : X → Bool) (xs : List X) → bit (list_any test xs) ≤ count_by test xs
any_le test [] = omega arith
any_le test (x ∷ xs) = omega (arith, count_cons test x xs, either_le (test x) (list_any test xs) (count_by test xs) (any_le test xs))
