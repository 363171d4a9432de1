-- Bytes that are cut into whole fragments.
use Rattle.cache_model.specs.State.{most_fragments}
use Rattle.std.proofs.Common.{◌≡◌, ℕ, zero, suc, ◌+◌, ◌-◌, ◌<◌, ◌≤◌, List, [], ◌∷◌, ◌++◌, inl, inr, refl, ◌∙◌, ap, arith, Bool, true, false, length, take, drop}
use Rattle.std.specs.Prelude.{◌==◌, nat_le, if◌then◌else◌, filter}
use Rattle.std.proofs.lemmas.Bool.{eqb-true, le-leb}
use Rattle.std.proofs.lemmas.Bool.Decides.{leb_tells}
use Rattle.std.proofs.lemmas.List.{length-drop}
use Rattle.cache_model.specs.Permit.{Intent, Fragment, Overflow, is_cleanup}
use Rattle.script_run.specs.Asked.{cut_intents, feed_intents, rest_among, rest_behind, whole_among, whole_fragments}

-- ---- tests

pub is_le : (n m : ℕ) → n ≤ m → nat_le n m ≡ true
is_le n m h = le-leb n m h

pub not_le : (n m : ℕ) → m < n → nat_le n m ≡ false
not_le n m h = elim (leb_tells n m) [ inl e ↦ absurd (omega (arith, e.1, h)) | inr e ↦ e.0 ]

pub not_most : (n : ℕ) → n < most_fragments → (n == most_fragments) ≡ false
not_most n h = by (n == most_fragments) refl
  where
    by : (b : Bool) → (n == most_fragments) ≡ b → b ≡ false
    by false e = refl
    by true e = let same : n ≡ most_fragments = eqb-true n most_fragments e in absurd (omega (arith, same, h))

fewer : (f : ℕ) (x : ℕ) (xs : List ℕ) (m : ℕ) → 0 < f → length (x ∷ xs) ≤ suc m → length (drop f (x ∷ xs)) ≤ m
fewer f x xs m some h = let cut : length (drop f (x ∷ xs)) ≡ length (x ∷ xs) - f = length-drop f (x ∷ xs) in omega (arith, cut, some, h)

-- ---- as many fragments as there are bytes are enough

pub same_cuts : (m k f put cut : ℕ) (xs : List ℕ) → 0 < f → length xs ≤ m → length xs ≤ k → cut_intents m f put cut xs ≡ cut_intents k f put cut xs
same_cuts zero zero f put cut xs some a b = refl
same_cuts zero (suc k) f put cut [] some a b = refl
same_cuts zero (suc k) f put cut (x ∷ xs) some a b = absurd (omega (arith, a))
same_cuts (suc m) zero f put cut [] some a b = refl
same_cuts (suc m) zero f put cut (x ∷ xs) some a b = absurd (omega (arith, b))
same_cuts (suc m) (suc k) f put cut [] some a b = refl
same_cuts (suc m) (suc k) f put cut (x ∷ xs) some a b =
    ap (λ (tail : List Intent). if cut == most_fragments then Overflow put ∷ []
    else if nat_le f (length (x ∷ xs)) then Fragment put (cut + 1) (take f (x ∷ xs)) ∷ tail else [])
    (same_cuts m k f put (cut + 1) (drop f (x ∷ xs)) some (fewer f x xs m some a) (fewer f x xs k some b))

same_whole : (m k f : ℕ) (xs : List ℕ) → 0 < f → length xs ≤ m → length xs ≤ k → whole_among m f xs ≡ whole_among k f xs
same_whole zero zero f xs some a b = refl
same_whole zero (suc k) f [] some a b = rw (not_le f 0 some) refl
same_whole zero (suc k) f (x ∷ xs) some a b = absurd (omega (arith, a))
same_whole (suc m) zero f [] some a b = rw (not_le f 0 some) refl
same_whole (suc m) zero f (x ∷ xs) some a b = absurd (omega (arith, b))
same_whole (suc m) (suc k) f [] some a b = rw (not_le f 0 some) refl
same_whole (suc m) (suc k) f (x ∷ xs) some a b =
    ap (λ (n : ℕ). if nat_le f (length (x ∷ xs)) then n + 1 else 0)
    (same_whole m k f (drop f (x ∷ xs)) some (fewer f x xs m some a) (fewer f x xs k some b))

same_rest : (m k f : ℕ) (xs : List ℕ) → 0 < f → length xs ≤ m → length xs ≤ k → rest_among m f xs ≡ rest_among k f xs
same_rest zero zero f xs some a b = refl
same_rest zero (suc k) f [] some a b = rw (not_le f 0 some) refl
same_rest zero (suc k) f (x ∷ xs) some a b = absurd (omega (arith, a))
same_rest (suc m) zero f [] some a b = rw (not_le f 0 some) refl
same_rest (suc m) zero f (x ∷ xs) some a b = absurd (omega (arith, b))
same_rest (suc m) (suc k) f [] some a b = rw (not_le f 0 some) refl
same_rest (suc m) (suc k) f (x ∷ xs) some a b =
    ap (λ (rest : List ℕ). if nat_le f (length (x ∷ xs)) then rest else (x ∷ xs))
    (same_rest m k f (drop f (x ∷ xs)) some (fewer f x xs m some a) (fewer f x xs k some b))

-- ---- the first fragment

pub cut_first : (f put cut : ℕ) (xs : List ℕ) → 0 < f → f ≤ length xs → (cut == most_fragments) ≡ false
    → feed_intents f put cut xs ≡ Fragment put (cut + 1) (take f xs) ∷ feed_intents f put (cut + 1) (drop f xs)
cut_first f put cut [] some whole few = absurd (omega (arith, some, whole))
cut_first f put cut (x ∷ xs) some whole few =
    same_cuts (length (x ∷ xs)) (suc (length xs)) f put cut (x ∷ xs) some (omega arith) (omega arith)
    ∙ (rw (few, is_le f (length (x ∷ xs)) whole) refl
    ∙ ap (λ (tail : List Intent). Fragment put (cut + 1) (take f (x ∷ xs)) ∷ tail)
    (same_cuts (length xs) (length (drop f (x ∷ xs))) f put (cut + 1) (drop f (x ∷ xs)) some (fewer f x xs (length xs) some (omega arith)) (omega arith)))

pub cut_short : (f put cut : ℕ) (xs : List ℕ) → 0 < f → length xs < f → (0 < length xs → (cut == most_fragments) ≡ false) → feed_intents f put cut xs ≡ []
cut_short f put cut [] some short few = refl
cut_short f put cut (x ∷ xs) some short few =
    same_cuts (length (x ∷ xs)) (suc (length xs)) f put cut (x ∷ xs) some (omega arith) (omega arith)
    ∙ rw (few (omega arith), not_le f (length (x ∷ xs)) short) refl

pub cut_many : (f put cut : ℕ) (xs : List ℕ) → 0 < f → 0 < length xs → (cut == most_fragments) ≡ true → feed_intents f put cut xs ≡ Overflow put ∷ []
cut_many f put cut [] some bytes many = absurd (omega (arith, bytes))
cut_many f put cut (x ∷ xs) some bytes many =
    same_cuts (length (x ∷ xs)) (suc (length xs)) f put cut (x ∷ xs) some (omega arith) (omega arith) ∙ rw many refl

pub whole_first : (f : ℕ) (xs : List ℕ) → 0 < f → f ≤ length xs → whole_fragments f xs ≡ whole_fragments f (drop f xs) + 1
whole_first f [] some whole = absurd (omega (arith, some, whole))
whole_first f (x ∷ xs) some whole =
    same_whole (length (x ∷ xs)) (suc (length xs)) f (x ∷ xs) some (omega arith) (omega arith)
    ∙ (rw (is_le f (length (x ∷ xs)) whole) refl
    ∙ ap (λ n. n + 1) (same_whole (length xs) (length (drop f (x ∷ xs))) f (drop f (x ∷ xs)) some (fewer f x xs (length xs) some (omega arith)) (omega arith)))

pub whole_short : (f : ℕ) (xs : List ℕ) → 0 < f → length xs < f → whole_fragments f xs ≡ 0
whole_short f [] some short = refl
whole_short f (x ∷ xs) some short =
    same_whole (length (x ∷ xs)) (suc (length xs)) f (x ∷ xs) some (omega arith) (omega arith) ∙ rw (not_le f (length (x ∷ xs)) short) refl

pub rest_first : (f : ℕ) (xs : List ℕ) → 0 < f → f ≤ length xs → rest_behind f xs ≡ rest_behind f (drop f xs)
rest_first f [] some whole = absurd (omega (arith, some, whole))
rest_first f (x ∷ xs) some whole =
    same_rest (length (x ∷ xs)) (suc (length xs)) f (x ∷ xs) some (omega arith) (omega arith)
    ∙ (rw (is_le f (length (x ∷ xs)) whole) refl
    ∙ same_rest (length xs) (length (drop f (x ∷ xs))) f (drop f (x ∷ xs)) some (fewer f x xs (length xs) some (omega arith)) (omega arith))

pub rest_short : (f : ℕ) (xs : List ℕ) → 0 < f → length xs < f → rest_behind f xs ≡ xs
rest_short f [] some short = refl
rest_short f (x ∷ xs) some short =
    same_rest (length (x ∷ xs)) (suc (length xs)) f (x ∷ xs) some (omega arith) (omega arith) ∙ rw (not_le f (length (x ∷ xs)) short) refl

-- ---- none of it is done behind a refusal

no_cleanup_by : (most f put cut : ℕ) (x : ℕ) (xs : List ℕ) (rest : List Intent) (a b : Bool)
    → filter is_cleanup (cut_intents most f put (cut + 1) (drop f (x ∷ xs)) ++ rest) ≡ filter is_cleanup rest
    → filter is_cleanup ((if a then Overflow put ∷ [] else if b then Fragment put (cut + 1) (take f (x ∷ xs)) ∷ cut_intents most f put (cut + 1) (drop f (x ∷ xs)) else []) ++ rest) ≡ filter is_cleanup rest
no_cleanup_by most f put cut x xs rest true b h = refl
no_cleanup_by most f put cut x xs rest false true h = h
no_cleanup_by most f put cut x xs rest false false h = refl

pub no_cleanup : (most f put cut : ℕ) (xs : List ℕ) (rest : List Intent) → filter is_cleanup (cut_intents most f put cut xs ++ rest) ≡ filter is_cleanup rest
no_cleanup zero f put cut xs rest = refl
no_cleanup (suc most) f put cut [] rest = refl
no_cleanup (suc most) f put cut (x ∷ xs) rest =
    no_cleanup_by most f put cut x xs rest (cut == most_fragments) (nat_le f (length (x ∷ xs))) (no_cleanup most f put (cut + 1) (drop f (x ∷ xs)) rest)
