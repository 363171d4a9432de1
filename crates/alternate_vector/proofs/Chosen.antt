-- The last match, and the longest end, as the code finds them.
use Rattle.std.proofs.Common.{◌≡◌, ℕ, zero, suc, ◌+◌, ◌<◌, ◌≤◌, Bool, true, false, cond, leb, List, [], ◌∷◌, ◌++◌, length, take, get_or, Option, Some, None, refl, sym, ap, subst, ◌∙◌, arith}
use Rattle.std.specs.Prelude.{not, filter}
use Rattle.std.specs.List.{AllByRecursion}
use Rattle.std.proofs.lemmas.Bool.{and_from, le-leb}
use Rattle.alternate_vector.specs.declared.alternate.Alternate.{Alternate}
use Rattle.alternate_vector.specs.Field.{Field}
use Rattle.alternate_vector.specs.Alternates.{Stored, IsStored, all_stored, chosen, is_match, is_within, longest_within, merged, or_first, stored_of, vector_size, with_new}

one_more : (request : List Field) (alternates : List Alternate) (i : ℕ) (d : Alternate) → i < length alternates
    → chosen request (all_stored (take (suc i) alternates)) ≡ cond (is_match request (stored_of (get_or alternates i d))) (Some i) (chosen request (all_stored (take i alternates)))
one_more request [] i d lt = absurd (omega (arith, lt))
one_more request (x ∷ xs) zero d lt =
    elim (is_match request (stored_of x)) as (λ b. or_first None b ≡ cond b (Some 0) None) [ true ↦ refl | false ↦ refl ]
one_more request (x ∷ xs) (suc i) d lt =
    let rest = one_more request xs i d (omega (arith, lt)) in
    let now : i + 1 ≡ suc i = omega arith in
    ap (λ (found : Option ℕ). or_first found (is_match request (stored_of x))) rest
    ∙ elim (is_match request (stored_of (get_or xs i d))) as (λ b. or_first (cond b (Some i) (chosen request (all_stored (take i xs)))) (is_match request (stored_of x)) ≡ cond b (Some (suc i)) (or_first (chosen request (all_stored (take i xs))) (is_match request (stored_of x)))) [
      | true ↦ ap (λ (n : ℕ). Some n) now
      | false ↦ refl
    ]

-- one alternate further
pub chosen_more : (request : List Field) (alternates : List Alternate) (i : ℕ) (d : Alternate) → i < length alternates
    → chosen request (all_stored (take (i + 1) alternates)) ≡ cond (is_match request (stored_of (get_or alternates i d))) (Some i) (chosen request (all_stored (take i alternates)))
chosen_more request alternates i d lt = ap (λ (k : ℕ). chosen request (all_stored (take k alternates))) (let k : i + 1 ≡ suc i = omega arith in k) ∙ one_more request alternates i d lt

-- what is within the limits is its own longest end
pub longest_is : (most bytes : ℕ) (alternates : List Stored) → is_within most bytes alternates ≡ true → longest_within most bytes alternates ≡ alternates
longest_is most bytes [] h = refl
longest_is most bytes (a ∷ alternates) h = rw h refl

-- ---- what is kept stays valid

each_filter : (p : Stored → Bool) (alternates : List Stored) → AllByRecursion IsStored alternates → AllByRecursion IsStored (filter p alternates)
each_filter p [] each = tt
each_filter p (a ∷ alternates) each =
    elim (p a) as (λ b. AllByRecursion IsStored (cond b (a ∷ filter p alternates) (filter p alternates))) [
      | true ↦ (each.0, each_filter p alternates each.1)
      | false ↦ each_filter p alternates each.1
    ]

each_push : (alternates : List Stored) (a : Stored) → AllByRecursion IsStored alternates → IsStored a → AllByRecursion IsStored (alternates ++ a ∷ [])
each_push [] a each p = (p, tt)
each_push (x ∷ xs) a each p = (each.0, each_push xs a each.1 p)

each_longest : (most bytes : ℕ) (alternates : List Stored) → AllByRecursion IsStored alternates → AllByRecursion IsStored (longest_within most bytes alternates)
each_longest most bytes [] each = tt
each_longest most bytes (a ∷ alternates) each =
    elim (is_within most bytes (a ∷ alternates)) as (λ b. AllByRecursion IsStored (cond b (a ∷ alternates) (longest_within most bytes alternates))) [
      | true ↦ each
      | false ↦ each_longest most bytes alternates each.1
    ]

pub each_merged : (most bytes : ℕ) (before : List Stored) (new : Stored) → AllByRecursion IsStored before → IsStored new → AllByRecursion IsStored (merged most bytes before new)
each_merged most bytes before new each p =
    each_longest most bytes (with_new before new) (each_push (filter (λ a. not (is_match new.request a)) before) new (each_filter (λ a. not (is_match new.request a)) before each) p)

-- ---- the new one stays

some_longest : (most bytes : ℕ) (before : List Stored) (new : Stored) → 1 ≤ most → vector_size (new ∷ []) ≤ bytes → 0 < length (longest_within most bytes (before ++ new ∷ []))
some_longest most bytes [] new some fits =
    let alone : is_within most bytes (new ∷ []) ≡ true = and_from (leb 1 most) (leb (vector_size (new ∷ [])) bytes) (le-leb _ _ some) (le-leb _ _ fits) in
    subst (λ (kept : List Stored). 0 < length kept) (sym (longest_is most bytes (new ∷ []) alone)) (omega arith)
some_longest most bytes (a ∷ before) new some fits =
    elim (is_within most bytes (a ∷ (before ++ new ∷ []))) as (λ b. 0 < length (cond b (a ∷ (before ++ new ∷ [])) (longest_within most bytes (before ++ new ∷ [])))) [
      | true ↦ omega arith
      | false ↦ some_longest most bytes before new some fits
    ]

pub some_merged : (most bytes : ℕ) (before : List Stored) (new : Stored) → 1 ≤ most → vector_size (new ∷ []) ≤ bytes → 0 < length (merged most bytes before new)
some_merged most bytes before new some fits = some_longest most bytes (filter (λ a. not (is_match new.request a)) before) new some fits
