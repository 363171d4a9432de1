-- Rows under numbers without some of them.
use Rattle.std.proofs.Common.{ℕ, zero, suc, ◌+◌, ◌≡◌, ◌<◌, ◌≤◌, Bool, true, false, cond, not, List, [], ◌∷◌, filter, Option, Some, None, refl, sym, ap, subst, ◌∙◌, nat_eq, nat_le, is_some, inl, inr, arith}
use Rattle.std.proofs.lemmas.Bool.Decides.{nat_tests}
use Rattle.std.proofs.lemmas.List.Sorted.{IsPermutation-refl, IsPermutation-cons, IsPermutation-trans, IsPermutation-middle}
use Rattle.std.specs.Prelude.{IsPermutation}
use Rattle.std.specs.List.{AllByRecursion}
use Rattle.dir_table.specs.declared.rows.StoredRow.{StoredRow}
use Rattle.dir_table.specs.declared.rows.Spot.{Spot}
use Rattle.dir_table.specs.declared.links.Node.{Node}
use Rattle.dir_table.specs.Links.{IsLinkedBy, AllFrom, entries_below, with_entry, row_of_node, rows_of, links_without, stands_from}
use Rattle.dir_table.specs.Wrap.{stored_from}
use Rattle.dir_table.proofs.Numbers.{at_but, below_but, entries_but, same_below, eq_is, nat_order, some_is}
use Rattle.dir_table.proofs.Linked.{rows}

-- nothing goes where nothing stands
pub without_none : (d : ℕ) (at : ℕ → Option StoredRow) (n : ℕ) → at d ≡ None → entries_below at n ≡ links_without d (entries_below at n)
without_none d at n none =
    same_below at (at_but d at) n (λ k h. elim (nat_eq d k) as (λ b. nat_eq d k ≡ b → at k ≡ cond b None (at k)) [
      | true ↦ λ t. sym (ap at (eq_is d k t)) ∙ none
      | false ↦ λ t. refl
    ] refl)
    ∙ entries_but d at n

-- below a number nothing goes
without_above : (d : ℕ) (at : ℕ → Option StoredRow) (n : ℕ) → n ≤ d → entries_below at n ≡ links_without d (entries_below at n)
without_above d at n h = sym (below_but d at n h) ∙ entries_but d at n

-- one row is out, and the others are left
pub permutes_without : (d : ℕ) (at : ℕ → Option StoredRow) (r : StoredRow) → at d ≡ Some r → (n : ℕ) → d < n
    → IsPermutation (rows_of (entries_below at n)) (r ∷ rows_of (links_without d (entries_below at n)))
permutes_without d at r here zero h = absurd (omega arith)
permutes_without d at r here (suc n) h =
    elim (nat_eq d n) as (λ b. nat_eq d n ≡ b → IsPermutation (rows_of (with_entry n (at n) (entries_below at n))) (r ∷ rows_of (links_without d (with_entry n (at n) (entries_below at n))))) [
      | true ↦ λ t.
          let same : d ≡ n = eq_is d n t in
          let is : Some r ≡ at n = sym here ∙ ap at same in
          let P : Option StoredRow → Type 0 = λ o. IsPermutation (rows_of (with_entry n o (entries_below at n))) (r ∷ rows_of (links_without d (with_entry n o (entries_below at n)))) in
          let Q : List (ℕ × StoredRow) → Type 0 = λ es. IsPermutation (r ∷ rows_of (entries_below at n)) (r ∷ rows_of es) in
          let R : Bool → Type 0 = λ b. IsPermutation (r ∷ rows_of (entries_below at n)) (r ∷ rows_of (cond (not b) ((n, r) ∷ links_without d (entries_below at n)) (links_without d (entries_below at n)))) in
          subst P is (subst R (sym t) (subst Q (without_above d at n (omega arith)) (IsPermutation-refl (r ∷ rows_of (entries_below at n)))))
      | false ↦ λ t.
          let less : d < n = grind (arith, nat_tests) in
          let rest = permutes_without d at r here n less in
          elim (at n) as (λ o. IsPermutation (rows_of (with_entry n o (entries_below at n))) (r ∷ rows_of (links_without d (with_entry n o (entries_below at n))))) [
            | None ↦ rest
            | Some x ↦
                let R : Bool → Type 0 = λ b. IsPermutation (x ∷ rows_of (entries_below at n)) (r ∷ rows_of (cond (not b) ((n, x) ∷ links_without d (entries_below at n)) (links_without d (entries_below at n)))) in
                subst R (sym t) (IsPermutation-trans (x ∷ rows_of (entries_below at n)) (x ∷ r ∷ rows_of (links_without d (entries_below at n))) (r ∷ x ∷ rows_of (links_without d (entries_below at n)))
                (IsPermutation-cons x (rows_of (entries_below at n)) (r ∷ rows_of (links_without d (entries_below at n))) rest)
                (IsPermutation-middle (x ∷ []) r (rows_of (links_without d (entries_below at n)))))
          ]
    ] refl

-- what holds of all holds of those that are left
pub all_filter : {X : Type 0} (P : X → Type 0) (q : X → Bool) (xs : List X) → AllByRecursion P xs → AllByRecursion P (filter q xs)
all_filter P q [] all = all
all_filter P q (x ∷ xs) all =
    elim (q x) as (λ b. AllByRecursion P (cond b (x ∷ filter q xs) (filter q xs))) [
      | true ↦ (all.0, all_filter P q xs all.1)
      | false ↦ all_filter P q xs all.1
    ]

pub above_without : (f : ℕ) (es : List (ℕ × StoredRow)) → AllFrom f es → AllFrom (f + 1) (links_without f es)
above_without f [] all = tt
above_without f (e ∷ es) all =
    elim (nat_eq f e.0) as (λ b. nat_eq f e.0 ≡ b → AllByRecursion (λ (x : ℕ × StoredRow). f + 1 ≤ x.0) (cond (not b) (e ∷ links_without f es) (links_without f es))) [
      | true ↦ λ t. above_without f es all.1
      | false ↦ λ t. let least = all.0 in let above : f + 1 ≤ e.0 = grind (arith, nat_tests) in (above, above_without f es all.1)
    ] refl

-- a row below a place is not among those from it on
pub from_without : (low d : ℕ) (at : ℕ → Option StoredRow) → stands_from low (at d) ≡ false → (n : ℕ)
    → stored_from low (rows_of (links_without d (entries_below at n))) ≡ stored_from low (rows_of (entries_below at n))
from_without low d at gone zero = refl
from_without low d at gone (suc n) =
    let rest = from_without low d at gone n in
    elim (at n) as (λ o. at n ≡ o → stored_from low (rows_of (links_without d (with_entry n o (entries_below at n)))) ≡ stored_from low (rows_of (with_entry n o (entries_below at n)))) [
      | None ↦ λ e. rest
      | Some r ↦ λ e. elim (nat_eq d n) as (λ b. nat_eq d n ≡ b → stored_from low (rows_of (cond (not b) ((n, r) ∷ links_without d (entries_below at n)) (links_without d (entries_below at n)))) ≡ stored_from low (r ∷ rows_of (entries_below at n))) [
        | true ↦ λ t.
            let below : nat_le low r.place ≡ false = sym (ap (stands_from low) (ap at (eq_is d n t) ∙ e)) ∙ gone in
            rest ∙ sym (ap (λ b. cond b (r ∷ stored_from low (rows_of (entries_below at n))) (stored_from low (rows_of (entries_below at n)))) below)
        | false ↦ λ t. ap (λ xs. cond (nat_le low r.place) (r ∷ xs) xs) rest
      ] refl
    ] refl

-- what holds of the rows from a number on holds of all, where none stands below
all_above : (Q : StoredRow → Type 0) (f : ℕ) (at : ℕ → Option StoredRow) → ((k : ℕ) (r : StoredRow) → f ≤ k → at k ≡ Some r → Q r) → (n : ℕ)
    → AllFrom f (entries_below at n) → AllByRecursion Q (rows_of (entries_below at n))
all_above Q f at holds zero above = tt
all_above Q f at holds (suc n) above =
    elim (at n) as (λ o. at n ≡ o → AllFrom f (with_entry n o (entries_below at n)) → AllByRecursion Q (rows_of (with_entry n o (entries_below at n)))) [
      | None ↦ λ e rest. all_above Q f at holds n rest
      | Some r ↦ λ e all. (holds n r all.0 e, all_above Q f at holds n all.1)
    ] refl above

from_all : (low : ℕ) (rs : List StoredRow) → AllByRecursion (λ r. low ≤ r.place) rs → rs ≡ stored_from low rs
from_all low [] all = refl
from_all low (r ∷ rs) all =
    let least = all.0 in
    let in_it : nat_le low r.place ≡ true = grind (arith, nat_tests) in
    ap (λ xs. r ∷ xs) (from_all low rs all.1) ∙ sym (ap (λ b. cond b (r ∷ stored_from low rs) (stored_from low rs)) in_it)

record HasNode (o : Option Node) (r : StoredRow) : Type 0 where
  it : Node
  is : o ≡ Some it
  row : it.row ≡ r

has_node : (o : Option Node) (r : StoredRow) → row_of_node o ≡ Some r → HasNode o r
has_node None r h = absurd (cc)
has_node (Some n) r h = record { it = n; is = refl; row = some_is n.row r h }

-- from the first row at or above a place on, all rows are
pub all_left : (low number next : ℕ) (node : ℕ → Option Node) (head : Spot → Option ℕ) → IsLinkedBy node head next → stands_from low (rows node number) ≡ true
    → AllFrom number (entries_below (rows node) next) → rows_of (entries_below (rows node) next) ≡ stored_from low (rows_of (entries_below (rows node) next))
all_left low number next node head linked stands above =
    from_all low (rows_of (entries_below (rows node) next)) (all_above (λ r. low ≤ r.place) number (rows node) (λ k r h is.
    let it = has_node (node k) r is in
    elim (node number) as (λ o. node number ≡ o → stands_from low (row_of_node o) ≡ true → low ≤ r.place) [
      | None ↦ λ e none. absurd (cc)
      | Some m ↦ λ e in_it.
          let least : low ≤ m.row.place = grind (arith, nat_tests) in
          let P : StoredRow → Type 0 = λ x. low ≤ x.place in
          subst P it.row (elim (nat_order number k) [
            | inl less ↦ let rise = linked.rising number k m it.it less e it.is in omega arith
            | inr rest ↦ elim rest [
              | inl same ↦ let one : m ≡ it.it = some_is m it.it (sym e ∙ ap node same ∙ it.is) in let Q : Node → Type 0 = λ x. low ≤ x.row.place in subst Q one least
              | inr more ↦ absurd (omega arith)
            ]
          ])
    ] refl stands) next above)

-- where no number is left, no row is
pub none_left : (low number next : ℕ) (node : ℕ → Option Node) (head : Spot → Option ℕ) → IsLinkedBy node head next → next ≤ number
    → AllFrom number (entries_below (rows node) next) → rows_of (entries_below (rows node) next) ≡ stored_from low (rows_of (entries_below (rows node) next))
none_left low number next node head linked done above =
    from_all low (rows_of (entries_below (rows node) next)) (all_above (λ r. low ≤ r.place) number (rows node) (λ k r h is.
    let it = has_node (node k) r is in
    let less = linked.below k it.it it.is in
    absurd (omega arith)) next above)

pub row_none : (o : Option Node) → is_some o ≡ false → row_of_node o ≡ None
row_none None h = refl
row_none (Some n) h = absurd (cc)

pub row_below : (node : ℕ → Option Node) (head : Spot → Option ℕ) (next : ℕ) → IsLinkedBy node head next → (k : ℕ) (r : StoredRow) → rows node k ≡ Some r → k < next
row_below node head next linked k r is = let it = has_node (node k) r is in linked.below k it.it it.is
