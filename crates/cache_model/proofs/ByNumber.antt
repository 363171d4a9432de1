-- What is found by its number in rows that changed, or of which some went.
use Rattle.std.proofs.Common.{◌≡◌, ℕ, true, false, cond, List, [], ◌∷◌, Option, Some, None, refl, sym, ap, ◌∙◌}
use Rattle.std.specs.Prelude.{Bool, not, ◌==◌, if◌then◌else◌, option_map, map, filter, find}
use Rattle.std.proofs.lemmas.Bool.{eqb-true, eq-eqb}

differ : (b : Bool) → b ≡ true → b ≡ false → ⊥
differ b t f = let e : true ≡ false = sym t ∙ f in cc

-- a number is not that of another row
apart : (x n q : ℕ) → (x == n) ≡ false → (x == q) ≡ true → (n == q) ≡ false
apart x n q t u = by_test (n == q) refl
  where
    by_test : (b : Bool) → (n == q) ≡ b → (n == q) ≡ false
    by_test true v = absurd (differ (x == n) (eq-eqb x n (eqb-true x q u ∙ sym (eqb-true n q v))) t)
    by_test false v = v

module _ {X : Type 0} (number : X → ℕ) where
  abbrev pub has : ℕ → X → Bool
  has n x = number x == n

  -- the rows of a number, changed
  abbrev pub change : ℕ → (X → X) → List X → List X
  change n f xs = map (λ x. if has n x then f x else x) xs

  -- the rows of other numbers
  abbrev pub but : ℕ → List X → List X
  but n xs = filter (λ x. not (has n x)) xs

  changed_here : (f : X → X) (n q k m : ℕ) (x : X) (rest before : Option X) → k ≡ n → m ≡ n → rest ≡ cond (n == q) (option_map f before) before
      → cond (k == q) (Some (f x)) rest ≡ cond (n == q) (option_map f (cond (m == q) (Some x) before)) (cond (m == q) (Some x) before)
  changed_here f n q k m x rest before e d known =
      ap (λ (i : ℕ). cond (i == q) (Some (f x)) rest) e
      ∙ by_test (n == q) known
      ∙ sym (ap (λ (i : ℕ). cond (n == q) (option_map f (cond (i == q) (Some x) before)) (cond (i == q) (Some x) before)) d)
    where
      by_test : (b : Bool) → rest ≡ cond b (option_map f before) before → cond b (Some (f x)) rest ≡ cond b (option_map f (cond b (Some x) before)) (cond b (Some x) before)
      by_test true known = refl
      by_test false known = known

  pub find-changed : (f : X → X) → ((x : X) → number (f x) ≡ number x) → (n q : ℕ) (xs : List X)
      → find (has q) (change n f xs) ≡ cond (n == q) (option_map f (find (has q) xs)) (find (has q) xs)
  find-changed f keeps n q [] = let none : Option X = None in elim (n == q) as (λ b. none ≡ cond b none none) [ true ↦ refl | false ↦ refl ]
  find-changed f keeps n q (x ∷ xs) = by_test (find-changed f keeps n q xs) (number x == n) refl (number x == q) refl
    where
      by_test : find (has q) (change n f xs) ≡ cond (n == q) (option_map f (find (has q) xs)) (find (has q) xs)
          → (b : Bool) → (number x == n) ≡ b → (w : Bool) → (number x == q) ≡ w
          → find (has q) (cond b (f x) x ∷ change n f xs) ≡ cond (n == q) (option_map f (find (has q) (x ∷ xs))) (find (has q) (x ∷ xs))
      by_test rest true b w u = changed_here f n q (number (f x)) (number x) x (find (has q) (change n f xs)) (find (has q) xs) (keeps x ∙ eqb-true (number x) n b) (eqb-true (number x) n b) rest
      by_test rest false b true u = let other : (n == q) ≡ false = apart (number x) n q b u in rw (other, u) refl
      by_test rest false b false u = rw u rest

  pub find-without : (n q : ℕ) (xs : List X) → find (has q) (but n xs) ≡ cond (n == q) None (find (has q) xs)
  find-without n q [] = let none : Option X = None in elim (n == q) as (λ b. none ≡ cond b none none) [ true ↦ refl | false ↦ refl ]
  find-without n q (x ∷ xs) = by_test (find-without n q xs) (number x == n) refl (number x == q) refl
    where
      gone : (b : Bool) → find (has q) (but n xs) ≡ cond b None (find (has q) xs) → find (has q) (but n xs) ≡ cond b None (cond b (Some x) (find (has q) xs))
      gone true known = known
      gone false known = known

      by_test : find (has q) (but n xs) ≡ cond (n == q) None (find (has q) xs)
          → (b : Bool) → (number x == n) ≡ b → (w : Bool) → (number x == q) ≡ w
          → find (has q) (cond (not b) (x ∷ but n xs) (but n xs)) ≡ cond (n == q) None (find (has q) (x ∷ xs))
      by_test rest true b w u = gone (n == q) rest ∙ sym (ap (λ (i : ℕ). cond (n == q) None (cond (i == q) (Some x) (find (has q) xs))) (eqb-true (number x) n b))
      by_test rest false b true u = let other : (n == q) ≡ false = apart (number x) n q b u in rw (other, u) refl
      by_test rest false b false u = rw u rest
