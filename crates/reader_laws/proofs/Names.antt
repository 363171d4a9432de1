-- The numbers of actors, as more of them come.
use Rattle.std.proofs.Common.{◌≡◌, ℕ, ◌+◌, ◌<◌, ◌≤◌, List, [], ◌∷◌, ◌++◌, length, refl, sym, ◌∙◌, ap, arith, Bool, true, false, append-nil, append_assoc, length-append}
use Rattle.std.specs.Prelude.{Option, Some, None, if◌then◌else◌, ◌==◌}
use Rattle.std.proofs.lemmas.Bool.{eqb-false}
use Rattle.std.specs.Cmp.Lexicographic.{same_text, other_text}
use Rattle.actor_table.specs.Table.{number_from, number_of_name, same_name, with_actor}
use Rattle.script_run.specs.Behind.{actors_behind}

-- no number is below the first
least : (n : ℕ) (names : List (List ℕ)) (name : List ℕ) → n ≤ number_from n names name
least n [] name = omega arith
least n (x ∷ names) name = by_test (same_name x name) (least (n + 1) names name)
  where
    by_test : (b : Bool) → n + 1 ≤ number_from (n + 1) names name → n ≤ (if b then n else number_from (n + 1) names name)
    by_test true rest = omega arith
    by_test false rest = omega (arith, rest)

-- two names of one number that is known are one
one_name : (n : ℕ) (names : List (List ℕ)) (a b : List ℕ) → number_from n names a ≡ number_from n names b → number_from n names a < n + length names → a ≡ b
one_name n [] a b same known = absurd (omega (arith, known))
one_name n (x ∷ names) a b same known = by_tests (same_name x a) (same_name x b) refl refl (one_name (n + 1) names a b) (least (n + 1) names a) (least (n + 1) names b) same known
  where
    by_tests : (p q : Bool) → p ≡ same_name x a → q ≡ same_name x b
        → (number_from (n + 1) names a ≡ number_from (n + 1) names b → number_from (n + 1) names a < n + 1 + length names → a ≡ b)
        → n + 1 ≤ number_from (n + 1) names a → n + 1 ≤ number_from (n + 1) names b
        → (if p then n else number_from (n + 1) names a) ≡ (if q then n else number_from (n + 1) names b) → (if p then n else number_from (n + 1) names a) < n + length (x ∷ names) → a ≡ b
    by_tests true true e f rest above above_too is below = sym (same_text x a e) ∙ same_text x b f
    by_tests true false e f rest above above_too is below = absurd (omega (arith, above_too, is))
    by_tests false true e f rest above above_too is below = absurd (omega (arith, above, is))
    by_tests false false e f rest above above_too is below = rest is (omega (arith, below))

-- no number is above the next one
most : (n : ℕ) (names : List (List ℕ)) (name : List ℕ) → number_from n names name ≤ n + length names
most n [] name = omega arith
most n (x ∷ names) name = by_test (same_name x name) (most (n + 1) names name)
  where
    by_test : (b : Bool) → number_from (n + 1) names name ≤ n + 1 + length names → (if b then n else number_from (n + 1) names name) ≤ n + length (x ∷ names)
    by_test true rest = omega arith
    by_test false rest = omega (arith, rest)

-- a name keeps its number as others come, and as it comes itself
kept : (n : ℕ) (names more : List (List ℕ)) (name : List ℕ) → number_from n names name < n + length names → number_from n (names ++ more) name ≡ number_from n names name
kept n [] more name known = absurd (omega (arith, known))
kept n (x ∷ names) more name known = by_test (same_name x name) (kept (n + 1) names more name) known
  where
    by_test : (b : Bool) → (number_from (n + 1) names name < n + 1 + length names → number_from (n + 1) (names ++ more) name ≡ number_from (n + 1) names name)
        → (if b then n else number_from (n + 1) names name) < n + length (x ∷ names) → (if b then n else number_from (n + 1) (names ++ more) name) ≡ (if b then n else number_from (n + 1) names name)
    by_test true rest below = refl
    by_test false rest below = rest (omega (arith, below))

itself : (n : ℕ) (names : List (List ℕ)) (name : List ℕ) → number_from n (names ++ name ∷ []) name ≡ number_from n names name
itself n [] name = by_test (same_name name name) refl
  where
    by_test : (b : Bool) → b ≡ same_name name name → (if b then n else n + 1) ≡ n
    by_test true same = refl
    by_test false other = absurd (other_text name name other refl)
itself n (x ∷ names) name = ap (λ (rest : ℕ). if same_name x name then n else rest) (itself (n + 1) names name)

-- ---- the actors of a run

below : (n m : ℕ) → n ≤ 1 + m → (n ≡ m + 1 → ⊥) → n < 1 + m
below n m most other = omega (arith, most, other)

-- a name that has come is known, by the number that it had
pub record HasCome (names after : List (List ℕ)) (name : List ℕ) : Type 0 where
  pub number : number_of_name after name ≡ number_of_name names name
  pub known : number_of_name after name < 1 + length after

pub come : (names : List (List ℕ)) (name : List ℕ) → HasCome names (with_actor names name) name
come names name = by_test (number_of_name names name == length names + 1) refl
  where
    by_test : (b : Bool) → (number_of_name names name == length names + 1) ≡ b
        → HasCome names (if b then names ++ name ∷ [] else names) name
    by_test true e =
        let number : number_of_name (names ++ name ∷ []) name ≡ number_of_name names name = itself 1 names name in
        record { number = number; known = omega (arith, number, most 1 names name, length-append names (name ∷ [])) }
    by_test false e =
        let other : number_of_name names name ≡ length names + 1 → ⊥ = eqb-false (number_of_name names name) (length names + 1) e in
        let most_of : number_of_name names name ≤ 1 + length names = most 1 names name in
        record { number = refl; known = below (number_of_name names name) (length names) most_of other }

-- others come behind those that are there
abbrev pub Extends : List (List ℕ) → List (List ℕ) → Type 0
Extends names after = (more : List (List ℕ)) × (after ≡ names ++ more)

pub extends_self : (names : List (List ℕ)) → Extends names names
extends_self names = ([], sym (append-nil names))

pub extends_then : (a b c : List (List ℕ)) → Extends a b → Extends b c → Extends a c
extends_then a b c first second = (first.0 ++ second.0, second.1 ∙ (ap (λ (xs : List (List ℕ)). xs ++ second.0) first.1 ∙ append_assoc a first.0 second.0))

pub with_extends : (names : List (List ℕ)) (name : List ℕ) → Extends names (with_actor names name)
with_extends names name = by_test (number_of_name names name == length names + 1)
  where
    by_test : (b : Bool) → Extends names (if b then names ++ name ∷ [] else names)
    by_test true = (name ∷ [], refl)
    by_test false = extends_self names

pub behind_extends : (names : List (List ℕ)) (o : Option (List ℕ)) → Extends names (actors_behind names o)
behind_extends names None = extends_self names
behind_extends names (Some name) = with_extends names name

-- a known name keeps its number
pub known_kept : (names after : List (List ℕ)) (name : List ℕ) → Extends names after → number_of_name names name < 1 + length names
    → (number_of_name after name ≡ number_of_name names name) × (number_of_name after name < 1 + length after)
known_kept names after name more known =
    let same : number_of_name after name ≡ number_of_name names name = ap (λ (xs : List (List ℕ)). number_of_name xs name) more.1 ∙ kept 1 names more.0 name known in
    let count : length after ≡ length names + length more.0 = ap length more.1 ∙ length-append names more.0 in
    (same, omega (arith, same, count, known))

-- so two that have come with one number are one
pub same_number : (names : List (List ℕ)) (a b : List ℕ) → number_of_name names a ≡ number_of_name names b → number_of_name names a < 1 + length names → a ≡ b
same_number names a b same known = one_name 1 names a b same known
