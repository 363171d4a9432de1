-- Sums over the views, and functions that are changed at one number.
use Rattle.std.proofs.Common.{◌≡◌, ◌≢◌, ℕ, zero, suc, ◌+◌, ◌≤◌, ◌<◌, List, [], ◌∷◌, ◌++◌, length, set, sym, refl, ap, arith}
use mathlib.Core.Option.{some, some-injective, some-ne-none}
use native.Mathlib.Decide.{ℕ_discrete}
use lib.ListN.{get_elem?}
use Rattle.stripe_lock.specs.Rule.{total}

abbrev pick : {P : Type 0} → Dec P → ℕ → ℕ → ℕ
pick (yes _) a b = a
pick (no _) a b = b

-- f, but c at i
pub put : (ℕ → ℕ) → ℕ → ℕ → ℕ → ℕ
put f i c j = pick (ℕ_discrete j i) c (f j)

pub put_here : (f : ℕ → ℕ) (i c : ℕ) → put f i c i ≡ c
unfolding put
put_here f i c = go (ℕ_discrete i i)
  where
    go : (d : Dec (i ≡ i)) → pick d c (f i) ≡ c
    go (yes _) = refl
    go (no n) = absurd (n refl)

pub put_else : (f : ℕ → ℕ) (i c j : ℕ) → j ≢ i → put f i c j ≡ f j
unfolding put
put_else f i c j other = go (ℕ_discrete j i)
  where
    go : (d : Dec (j ≡ i)) → pick d c (f j) ≡ f j
    go (yes e) = absurd (other e)
    go (no _) = refl

-- f, but b where f is a
pub moved : (ℕ → ℕ) → ℕ → ℕ → ℕ → ℕ
moved f a b p = pick (ℕ_discrete (f p) a) b (f p)

pub moved_here : (f : ℕ → ℕ) (a b p : ℕ) → f p ≡ a → moved f a b p ≡ b
unfolding moved
moved_here f a b p e = go (ℕ_discrete (f p) a)
  where
    go : (d : Dec (f p ≡ a)) → pick d b (f p) ≡ b
    go (yes _) = refl
    go (no n) = absurd (n e)

pub moved_else : (f : ℕ → ℕ) (a b p : ℕ) → f p ≢ a → moved f a b p ≡ f p
unfolding moved
moved_else f a b p other = go (ℕ_discrete (f p) a)
  where
    go : (d : Dec (f p ≡ a)) → pick d b (f p) ≡ f p
    go (yes e) = absurd (other e)
    go (no _) = refl

module _ {A : Type 0} where
  pub in_range : (xs : List A) (i : ℕ) (v : A) → get_elem? xs i ≡ some v → i < length xs
  in_range [] i v e = absurd (some-ne-none v (sym e))
  in_range (x ∷ xs) zero v e = omega arith
  in_range (x ∷ xs) (suc i) v e = let h = in_range xs i v e in omega arith

  pub total_set : (f : A → ℕ) (xs : List A) (i : ℕ) (v w : A) → get_elem? xs i ≡ some v → total f (set xs i w) + f v ≡ total f xs + f w
  total_set f [] i v w e = absurd (some-ne-none v (sym e))
  total_set f (x ∷ xs) zero v w e = let s : f x ≡ f v = ap f (some-injective x v e) in omega arith
  total_set f (x ∷ xs) (suc i) v w e = let s = total_set f xs i v w e in omega arith

  pub total_snoc : (f : A → ℕ) (xs : List A) (w : A) → total f (xs ++ w ∷ []) ≡ total f xs + f w
  total_snoc f [] w = omega arith
  total_snoc f (x ∷ xs) w = let s = total_snoc f xs w in omega arith

  pub total_at : (f : A → ℕ) (xs : List A) (i : ℕ) (v : A) → get_elem? xs i ≡ some v → f v ≤ total f xs
  total_at f [] i v e = absurd (some-ne-none v (sym e))
  total_at f (x ∷ xs) zero v e = let s : f x ≡ f v = ap f (some-injective x v e) in omega arith
  total_at f (x ∷ xs) (suc i) v e = let s = total_at f xs i v e in omega arith

  -- where one has the whole sum, each other has nothing
  pub total_alone : (f : A → ℕ) (xs : List A) (i j : ℕ) (v w : A) → get_elem? xs i ≡ some v → get_elem? xs j ≡ some w → j ≢ i → f v + f w ≤ total f xs
  total_alone f [] i j v w e d other = absurd (some-ne-none v (sym e))
  total_alone f (x ∷ xs) zero zero v w e d other = absurd (other refl)
  total_alone f (x ∷ xs) zero (suc j) v w e d other = let s : f x ≡ f v = ap f (some-injective x v e) in let t = total_at f xs j w d in omega arith
  total_alone f (x ∷ xs) (suc i) zero v w e d other = let s : f x ≡ f w = ap f (some-injective x w d) in let t = total_at f xs i v e in omega arith
  total_alone f (x ∷ xs) (suc i) (suc j) v w e d other = let t = total_alone f xs i j v w e d (λ p. other (ap suc p)) in omega arith

  pub total_le : (f g : A → ℕ) (xs : List A) → ((i : ℕ) (v : A) → get_elem? xs i ≡ some v → f v ≤ g v) → total f xs ≤ total g xs
  total_le f g [] h = omega arith
  total_le f g (x ∷ xs) h = let s = h 0 x refl in let t = total_le f g xs (λ i v e. h (suc i) v e) in omega arith
