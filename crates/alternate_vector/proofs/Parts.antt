-- The elements of a value, part by part.
use Rattle.std.proofs.Common.{◌≡◌, ℕ, suc, ◌+◌, ◌<◌, ◌≤◌, Bool, true, false, cond, ltb, eqb, List, [], ◌∷◌, length, take, drop, refl, sym, ap, ◌∙◌, arith}
use Rattle.std.specs.Prelude.{not, ◌&&◌, ◌||◌, map, filter, Some, None}
use Rattle.std.specs.List.{flat_map, list_all, position, position_or_len}
use Rattle.std.proofs.lemmas.Bool.{ltb-true, ltb-false}
use Rattle.std.proofs.lemmas.List.Concat.{flat_map-cons}
use Rattle.std.proofs.lemmas.List.Folds.{list_all-append}
use Rattle.alternate_vector.specs.declared.fields.Line.{Line}
use Rattle.alternate_vector.specs.Lines.{fields_of}
use Rattle.alternate_vector.specs.Vary.{IsCommaAt, comma_parts, elements_of, is_empty, onto_first_part, trimmed, values_of}

abbrev pub is_comma : ℕ → Bool
is_comma b = eqb b 44

split_first : (bytes : List ℕ) → position_or_len is_comma bytes < length bytes → comma_parts bytes ≡ take (position_or_len is_comma bytes) bytes ∷ comma_parts (drop (position_or_len is_comma bytes + 1) bytes)
split_first [] lt = absurd (omega (arith, lt))
split_first (b ∷ bytes) lt =
    let n = position_or_len is_comma bytes in
    elim (eqb b 44) as (λ t. cond (not t) (1 + n) 0 < length (b ∷ bytes) → cond t ([] ∷ comma_parts bytes) (onto_first_part b (comma_parts bytes)) ≡ take (cond (not t) (1 + n) 0) (b ∷ bytes) ∷ comma_parts (drop (cond (not t) (1 + n) 0 + 1) (b ∷ bytes))) [
      | true ↦ λ l. refl
      | false ↦ λ l.
          let first : 1 + n ≡ suc n = omega arith in
          let after : 1 + n + 1 ≡ suc (n + 1) = omega arith in
          ap (onto_first_part b) (split_first bytes (omega (arith, l)))
          ∙ ap (λ (k : ℕ). take k (b ∷ bytes) ∷ comma_parts (drop (n + 1) bytes)) (sym first)
          ∙ ap (λ (k : ℕ). take (1 + n) (b ∷ bytes) ∷ comma_parts (drop k (b ∷ bytes))) (sym after)
    ] lt

split_none : (bytes : List ℕ) → length bytes ≤ position_or_len is_comma bytes → comma_parts bytes ≡ bytes ∷ []
split_none [] le = refl
split_none (b ∷ bytes) le =
    let n = position_or_len is_comma bytes in
    elim (eqb b 44) as (λ t. length (b ∷ bytes) ≤ cond (not t) (1 + n) 0 → cond t ([] ∷ comma_parts bytes) (onto_first_part b (comma_parts bytes)) ≡ (b ∷ bytes) ∷ []) [
      | true ↦ λ l. absurd (omega (arith, l))
      | false ↦ λ l. ap (onto_first_part b) (split_none bytes (omega (arith, l)))
    ] le

-- what the place of the first comma tells
pub comma_some : (bytes : List ℕ) (end : ℕ) → position is_comma bytes ≡ Some end → IsCommaAt bytes end
comma_some bytes end h =
    let n = position_or_len is_comma bytes in
    elim (ltb n (length bytes)) as (λ t. ltb n (length bytes) ≡ t → cond t (Some n) None ≡ Some end → IsCommaAt bytes end) [
      | true ↦ λ e f. let same : n ≡ end = cc in rw (← same) (record { within = ltb-true _ _ e; parts = split_first bytes (ltb-true _ _ e) })
      | false ↦ λ e f. absurd cc
    ] refl h

pub comma_none : (bytes : List ℕ) → position is_comma bytes ≡ None → comma_parts bytes ≡ bytes ∷ []
comma_none bytes h =
    let n = position_or_len is_comma bytes in
    elim (ltb n (length bytes)) as (λ t. ltb n (length bytes) ≡ t → cond t (Some n) None ≡ None → comma_parts bytes ≡ bytes ∷ []) [
      | true ↦ λ e f. absurd cc
      | false ↦ λ e f. split_none bytes (ltb-false _ _ e)
    ] refl h

list_all_parts : (p : List ℕ → Bool) (part : List ℕ) (parts : List (List ℕ))
    → list_all p (filter (λ element. not (is_empty element)) (map trimmed (part ∷ parts))) ≡ ((is_empty (trimmed part) || p (trimmed part)) && list_all p (filter (λ element. not (is_empty element)) (map trimmed parts)))
list_all_parts p part parts =
    elim (is_empty (trimmed part)) as (λ b. list_all p (cond (not b) (trimmed part ∷ filter (λ element. not (is_empty element)) (map trimmed parts)) (filter (λ element. not (is_empty element)) (map trimmed parts))) ≡ ((b || p (trimmed part)) && list_all p (filter (λ element. not (is_empty element)) (map trimmed parts)))) [
      | true ↦ refl
      | false ↦ refl
    ]

and_true : (b : Bool) → (b && true) ≡ b
and_true true = refl
and_true false = refl

-- a value with a comma: its first part, and the elements behind the comma
pub more_elements : (p : List ℕ → Bool) (value : List ℕ) (end : ℕ) → comma_parts value ≡ take end value ∷ comma_parts (drop (end + 1) value)
    → list_all p (elements_of value) ≡ ((is_empty (trimmed (take end value)) || p (trimmed (take end value))) && list_all p (elements_of (drop (end + 1) value)))
more_elements p value end split = ap (λ (parts : List (List ℕ)). list_all p (filter (λ element. not (is_empty element)) (map trimmed parts))) split ∙ list_all_parts p (take end value) (comma_parts (drop (end + 1) value))

-- a value without a comma is one part
pub last_element : (p : List ℕ → Bool) (value : List ℕ) → comma_parts value ≡ value ∷ [] → list_all p (elements_of value) ≡ (is_empty (trimmed value) || p (trimmed value))
last_element p value split = ap (λ (parts : List (List ℕ)). list_all p (filter (λ element. not (is_empty element)) (map trimmed parts))) split ∙ list_all_parts p value [] ∙ and_true (is_empty (trimmed value) || p (trimmed value))

pub vary_lines : (p : List ℕ → Bool) (lines : List Line) → list_all (λ line. list_all p (elements_of line.value.bytes)) lines ≡ list_all p (flat_map elements_of (values_of (fields_of lines)))
vary_lines p [] = refl
vary_lines p (x ∷ xs) =
    ap (λ (b : Bool). list_all p (elements_of x.value.bytes) && b) (vary_lines p xs)
    ∙ sym (list_all-append p (elements_of x.value.bytes) (flat_map elements_of (values_of (fields_of xs))))
    ∙ ap (list_all p) (sym (flat_map-cons elements_of x.value.bytes (values_of (fields_of xs))))

-- a part that fails, and one that passes
pub part_fails : (p : List ℕ → Bool) (value : List ℕ) (end : ℕ) (r : Bool) → IsCommaAt value end → r ≡ (is_empty (trimmed (take end value)) || p (trimmed (take end value))) → r ≡ false → list_all p (elements_of value) ≡ false
part_fails p value end r comma told fails =
    more_elements p value end comma.parts ∙ ap (λ (b : Bool). b && list_all p (elements_of (drop (end + 1) value))) (sym told ∙ fails)

pub part_passes : (p : List ℕ → Bool) (value : List ℕ) (end : ℕ) (r : Bool) → IsCommaAt value end → r ≡ (is_empty (trimmed (take end value)) || p (trimmed (take end value))) → r ≡ true → list_all p (elements_of value) ≡ list_all p (elements_of (drop (end + 1) value))
part_passes p value end r comma told passes =
    more_elements p value end comma.parts ∙ ap (λ (b : Bool). b && list_all p (elements_of (drop (end + 1) value))) (sym told ∙ passes)
