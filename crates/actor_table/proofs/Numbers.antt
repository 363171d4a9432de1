-- The numbers of names that are known, and of one more.
use Rattle.std.proofs.Common.{◌≡◌, refl, sym, ap, ◌∙◌, arith, ℕ, Bool, true, false, subst, ◌+◌, ◌<◌, ◌≤◌, nat_eq, if◌then◌else◌, Option, None, Some, List, [], ◌∷◌, ◌++◌, length}
use Rattle.std.specs.Cmp.Lexicographic.{same_text, other_text}
use Rattle.std.proofs.lemmas.Cmp.{nat_list_eq_equiv}
use Rattle.std.proofs.lemmas.List.{length-append, length-map, map-append}
use Rattle.std.specs.Global.{Vec}
use Rattle.std.specs.List.{AllByRecursion, IsDistinct}
use Rattle.std.specs.Map.{lookup, KeepsOthers}
use lib.Pointwise.{pointwise}
use Rattle.actor_table.specs.Index.{IsIndex, known_from, texts_of_names}
use Rattle.actor_table.specs.Table.{number_from, number_of_name, same_name, with_actor}

-- what is known of a name's number
pub record IsKnown (n : ℕ) (names : List (List ℕ)) (name : List ℕ) (k : ℕ) : Type 0 where
  pub number : number_from n names name ≡ k
  pub from : n ≤ k
  pub below : k < n + length names

-- a number that is given to a name, and the names after it
pub record IsGiven (names : List (List ℕ)) (name : List ℕ) (k : ℕ) (after : List (List ℕ)) : Type 0 where
  pub number : k ≡ number_of_name names name
  pub with : after ≡ with_actor names name
  pub some : 0 < k
  pub within : k ≤ length after

pub known_number : (n : ℕ) (names : List (List ℕ)) (name : List ℕ) (k : ℕ) → known_from n names name ≡ Some k → IsKnown n names name k
known_number n [] name k known = let none : None ≡ Some k = known in cc
known_number n (actor ∷ names) name k known = at (same_name actor name) refl (known_number (n + 1) names name k) known
  where
    at : (b : Bool) → b ≡ same_name actor name → (known_from (n + 1) names name ≡ Some k → IsKnown (n + 1) names name k) → (if b then Some n else known_from (n + 1) names name) ≡ Some k → IsKnown n (actor ∷ names) name k
    at true same further here =
        let e : n ≡ k = grind (arith, here) in
        record { number = rw (sym same) e; from = omega (arith, e); below = omega (arith, e) }
    at false other further later =
        let rest = further later in
        record { number = rw (sym other) rest.number; from = omega (arith, rest.from); below = omega (arith, rest.below) }

pub new_number : (n : ℕ) (names : List (List ℕ)) (name : List ℕ) → known_from n names name ≡ None → number_from n names name ≡ n + length names
new_number n [] name new = omega arith
new_number n (actor ∷ names) name new = at (same_name actor name) (new_number (n + 1) names name) new
  where
    at : (b : Bool) → (known_from (n + 1) names name ≡ None → number_from (n + 1) names name ≡ n + 1 + length names) → (if b then Some n else known_from (n + 1) names name) ≡ None → (if b then n else number_from (n + 1) names name) ≡ n + length (actor ∷ names)
    at true further here = let none : Some n ≡ None = here in cc
    at false further later = let e = further later in omega (arith, e)

-- the new name has the next number
known_itself : (n : ℕ) (names : List (List ℕ)) (name : List ℕ) → known_from n names name ≡ None → known_from n (names ++ name ∷ []) name ≡ Some (n + length names)
known_itself n [] name new = at (same_name name name) refl
  where
    at : (b : Bool) → b ≡ same_name name name → (if b then Some n else None) ≡ Some (n + 0)
    at true same = let e : n ≡ n + 0 = omega arith in ap (λ (k : ℕ). Some k) e
    at false other = absurd (other_text name name other refl)
known_itself n (actor ∷ names) name new = at (same_name actor name) (known_itself (n + 1) names name) new
  where
    at : (b : Bool) → (known_from (n + 1) names name ≡ None → known_from (n + 1) (names ++ name ∷ []) name ≡ Some (n + 1 + length names))
        → (if b then Some n else known_from (n + 1) names name) ≡ None
        → (if b then Some n else known_from (n + 1) (names ++ name ∷ []) name) ≡ Some (n + length (actor ∷ names))
    at true further here = let none : Some n ≡ None = here in cc
    at false further later = let e : n + 1 + length names ≡ n + length (actor ∷ names) = omega arith in further later ∙ ap (λ (k : ℕ). Some k) e

-- and the others have what they had
known_others : (n : ℕ) (names : List (List ℕ)) (new name : List ℕ) → same_name new name ≡ false → known_from n (names ++ new ∷ []) name ≡ known_from n names name
known_others n [] new name other = rw other refl
known_others n (actor ∷ names) new name other =
    ap (λ (rest : Option ℕ). if same_name actor name then Some n else rest) (known_others (n + 1) names new name other)

-- an index in which a new name was entered
pub index_more : (names : List (List ℕ)) (new : List ℕ) (before after : List (Vec ℕ × ℕ)) → IsIndex names before
    → lookup (λ key. pointwise nat_eq new key.items) before ≡ None
    → lookup (λ key. pointwise nat_eq new key.items) after ≡ Some (length names + 1)
    → KeepsOthers (λ a b. pointwise nat_eq a.items b.items) (λ key. pointwise nat_eq new key.items) before after
    → IsIndex (names ++ new ∷ []) after
unfolding KeepsOthers
index_more names new before after index absent entered kept name = at (pointwise nat_eq new name) refl
  where
    at : (b : Bool) → b ≡ pointwise nat_eq new name → lookup (λ key. pointwise nat_eq name key.items) after ≡ known_from 1 (names ++ new ∷ []) name
    at true same =
        let e : new ≡ name = same_text new name same in
        let count : length names + 1 ≡ 1 + length names = omega arith in
        subst (λ (text : List ℕ). lookup (λ key. pointwise nat_eq text key.items) after ≡ known_from 1 (names ++ new ∷ []) text) e
        (entered ∙ ap (λ (k : ℕ). Some k) count ∙ sym (known_itself 1 names new (sym (index new) ∙ absent)))
    at false other =
        kept (λ key. pointwise nat_eq name key.items) (λ x y found. nat_list_eq_equiv.congr name x.items y.items found) (λ key found. apart key.items found)
        ∙ index name ∙ sym (known_others 1 names new name (sym other))
      where
        apart : (key : List ℕ) → pointwise nat_eq new key ≡ true → pointwise nat_eq name key ≡ false
        apart key found = nat_list_eq_equiv.symm name key ∙ sym (nat_list_eq_equiv.congr new key name found) ∙ sym other

-- what the actor of a known name has to do with the names
pub known_stays : (names : List (List ℕ)) (name : List ℕ) (k : ℕ) → known_from 1 names name ≡ Some k → IsGiven names name k names
known_stays names name k known =
    let is = known_number 1 names name k known in
    let number = is.number in
    let below = is.below in
    record { number = sym number; with = grind (arith, number, below); some = is.from; within = omega (arith, below) }

pub new_enters : (names : List (List ℕ)) (name : List ℕ) → known_from 1 names name ≡ None → IsGiven names name (length names + 1) (names ++ name ∷ [])
new_enters names name new =
    let e = new_number 1 names name new in
    let number : number_of_name names name ≡ length names + 1 = omega (arith, e) in
    record { number = sym number; with = grind (arith, number); some = omega arith; within = subst (λ (count : ℕ). length names + 1 ≤ count) (sym (length-append names (name ∷ []))) (omega arith) }

texts_more : (names names_after : List (Vec ℕ)) (kept : Vec ℕ) (name : List ℕ) → kept.items ≡ name → names_after ≡ names ++ kept ∷ [] → texts_of_names names_after ≡ texts_of_names names ++ name ∷ []
texts_more names names_after kept name kept_is more =
    ap (λ (all : List (Vec ℕ)). texts_of_names all) more ∙ map-append (λ text. text.items) names (kept ∷ []) ∙ ap (λ (text : List ℕ). texts_of_names names ++ text ∷ []) kept_is

-- the index after a name was entered that is not known
pub index_entered : (names names_after : List (Vec ℕ)) (key kept : Vec ℕ) (name : List ℕ) (number : ℕ) (before after : List (Vec ℕ × ℕ)) → IsIndex (texts_of_names names) before
    → known_from 1 (texts_of_names names) name ≡ None → key.items ≡ name → kept.items ≡ name → names_after ≡ names ++ kept ∷ [] → number ≡ length names + 1
    → lookup (λ stored. pointwise nat_eq key.items stored.items) after ≡ Some number
    → KeepsOthers (λ a b. pointwise nat_eq a.items b.items) (λ stored. pointwise nat_eq key.items stored.items) before after
    → IsIndex (texts_of_names names_after) after
index_entered names names_after key kept name number before after index new key_is kept_is more count entered others =
    let next : number ≡ length (texts_of_names names) + 1 = count ∙ ap (λ (n : ℕ). n + 1) (sym (length-map names (λ text. text.items))) in
    let texts : texts_of_names names_after ≡ texts_of_names names ++ key.items ∷ [] = texts_more names names_after kept key.items (kept_is ∙ sym key_is) more in
    let absent : known_from 1 (texts_of_names names) key.items ≡ None =
    ap (λ (text : List ℕ). known_from 1 (texts_of_names names) text) key_is ∙ new in
    subst (λ (texts : List (List ℕ)). IsIndex texts after) (sym texts)
    (index_more (texts_of_names names) key.items before after index (index key.items ∙ absent)
    (entered ∙ ap (λ (k : ℕ). Some k) next) others)

-- a name that is not known makes no name stand twice
pub distinct_more : (n : ℕ) (names : List (List ℕ)) (new : List ℕ) → IsDistinct same_name names → known_from n names new ≡ None → IsDistinct same_name (names ++ new ∷ [])
unfolding IsDistinct
distinct_more n [] new distinct absent = (tt, tt)
distinct_more n (actor ∷ names) new distinct absent = at (same_name actor new) refl (distinct_more (n + 1) names new distinct.1) absent
  where
    others : (rest : List (List ℕ)) → AllByRecursion (λ name. same_name actor name ≡ false) rest → same_name actor new ≡ false → AllByRecursion (λ name. same_name actor name ≡ false) (rest ++ new ∷ [])
    others [] all other = (other, tt)
    others (name ∷ rest) all other = (all.0, others rest all.1 other)

    at : (b : Bool) → b ≡ same_name actor new → (known_from (n + 1) names new ≡ None → IsDistinct same_name (names ++ new ∷ []))
        → (if b then Some n else known_from (n + 1) names new) ≡ None → IsDistinct same_name (actor ∷ (names ++ new ∷ []))
    at true same further here = let none : Some n ≡ None = here in cc
    at false other further later = (others names distinct.0 (sym other), further later)

pub distinct_entered : (names names_after : List (Vec ℕ)) (kept : Vec ℕ) (name : List ℕ) → IsDistinct same_name (texts_of_names names) → known_from 1 (texts_of_names names) name ≡ None
    → kept.items ≡ name → names_after ≡ names ++ kept ∷ [] → IsDistinct same_name (texts_of_names names_after)
distinct_entered names names_after kept name distinct new kept_is more =
    let texts : texts_of_names names_after ≡ texts_of_names names ++ name ∷ [] = texts_more names names_after kept name kept_is more in
    subst (λ (texts : List (List ℕ)). IsDistinct same_name texts) (sym texts) (distinct_more 1 (texts_of_names names) name distinct new)

pub distinct_none : (names : List (Vec ℕ)) → names ≡ [] → IsDistinct same_name (texts_of_names names)
unfolding IsDistinct
distinct_none names none = subst (λ (all : List (Vec ℕ)). IsDistinct same_name (texts_of_names all)) (sym none) tt
