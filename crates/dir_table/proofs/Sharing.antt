-- How many rows of a segment share a place.
use Rattle.std.proofs.Common.{ℕ, ◌+◌, ◌≡◌, ◌<◌, ◌≤◌, Bool, true, false, cond, List, [], ◌∷◌, ◌++◌, filter, refl, sym, ap, subst, ◌∙◌, nat_le, arith}
use Rattle.std.specs.Prelude.{count_by, All, IsPermutation}
use Rattle.std.proofs.lemmas.Bool.Decides.{nat_tests}
use Rattle.std.proofs.lemmas.List.Elements.{All-head, All-tail}
use Rattle.std.proofs.lemmas.List.Sorted.{sum_by-IsPermutation}
use Rattle.std.proofs.lemmas.List.Sums.{sum_by-cons, sum_by-append}
use Rattle.dir_table.specs.declared.rows.DirRow.{DirRow}
use Rattle.dir_table.specs.declared.rows.StoredRow.{StoredRow}
use Rattle.dir_table.specs.declared.window.Window.{Window}
use Rattle.dir_table.specs.Apart.{is_placed, PlacesAreApart}
use Rattle.dir_table.specs.Displacement.{Displacement}
use Rattle.dir_table.specs.Entering.{PieceEntered, Enters}
use Rattle.dir_table.specs.Rows.{LosesPlain}
use Rattle.dir_table.specs.Wrap.{stored_from}

module _ (segment place : ℕ) where
  abbrev one : StoredRow → ℕ
  one r = cond (is_placed segment place r) 1 0

  abbrev shared : List StoredRow → ℕ
  shared rows = count_by (is_placed segment place) rows

  same_shared : (xs ys : List StoredRow) → IsPermutation xs ys → shared xs ≡ shared ys
  same_shared xs ys p = sym (sum_by-IsPermutation one xs ys p)

  first_shared : (r : StoredRow) (rows : List StoredRow) → shared (r ∷ rows) ≡ one r + shared rows
  first_shared r rows = sum_by-cons one r rows

  both_shared : (xs ys : List StoredRow) → shared (xs ++ ys) ≡ shared xs + shared ys
  both_shared xs ys = sum_by-append one xs ys

  none_above : (rows : List StoredRow) → All (λ r. r.place < place) rows → shared rows ≡ 0
  none_above [] all = refl
  none_above (r ∷ rows) all =
      let less = All-head (λ (r : StoredRow). r.place < place) r rows all in
      let other : is_placed segment place r ≡ false = grind (arith, nat_tests) in
      let rest = none_above rows (All-tail (λ (r : StoredRow). r.place < place) r rows all) in
      let nothing : one r ≡ 0 = ap (λ (b : Bool). cond {A = ℕ} b 1 0) other in
      omega (arith, first_shared r rows, nothing, rest)

  fewer_shared : (q : StoredRow → Bool) (rows : List StoredRow) → shared (filter q rows) ≤ shared rows
  fewer_shared q [] = omega arith
  fewer_shared q (r ∷ rows) =
      let rest = fewer_shared q rows in
      elim (q r) as (λ b. shared (cond b (r ∷ filter q rows) (filter q rows)) ≤ shared (r ∷ rows)) [
        | true ↦ omega (arith, rest, first_shared r (filter q rows), first_shared r rows)
        | false ↦ omega (arith, rest, first_shared r rows)
      ]

pub enters_apart : (purges : Bool) (w : Window) (piece : PieceEntered) (d : Displacement) (before after : List StoredRow)
    → Enters purges w piece before d after → All (λ r. r.place < piece.place) before → PlacesAreApart before → PlacesAreApart after
enters_apart purges w piece d before after e below apart segment place =
    let left = e.takes.left in
    let now = same_shared segment place (e.row ∷ left) after e.takes.entered in
    let first = first_shared segment place e.row left in
    let was = same_shared segment place before (e.gone ++ left) e.takes.parted in
    let parts = both_shared segment place e.gone left in
    let few = apart segment place in
    let there : e.row.place ≡ piece.place = ap (λ (r : DirRow). r.place) e.is.there in
    elim (is_placed segment place e.row) as (λ b. is_placed segment place e.row ≡ b → shared segment place after ≤ 1) [
      | true ↦ λ t.
          let here : e.row.place ≡ place = grind (arith, nat_tests) in
          let same : piece.place ≡ place = sym there ∙ here in
          let none = none_above segment place before (subst (λ n. All (λ (r : StoredRow). r.place < n) before) same below) in
          let single : one segment place e.row ≡ 1 = ap (λ (b : Bool). cond {A = ℕ} b 1 0) t in
          omega (arith, now, first, was, parts, none, single)
      | false ↦ λ t.
          let nothing : one segment place e.row ≡ 0 = ap (λ (b : Bool). cond {A = ℕ} b 1 0) t in
          omega (arith, now, first, was, parts, few, nothing)
    ] refl

pub loses_apart : (row : DirRow) (before after : List StoredRow) → LosesPlain row before after → PlacesAreApart before
    → PlacesAreApart after
loses_apart row before after l apart segment place =
    let was = same_shared segment place before (l.it ∷ after) l.left in
    let first = first_shared segment place l.it after in
    let few = apart segment place in
    omega (arith, was, first, few)

pub wraps_apart : (low : ℕ) (before after : List StoredRow) → IsPermutation (stored_from low before) after → PlacesAreApart before → PlacesAreApart after
wraps_apart low before after p apart segment place =
    let now = same_shared segment place (stored_from low before) after p in
    let fewer = fewer_shared segment place (λ r. nat_le low r.place) before in
    let few = apart segment place in
    omega (arith, now, fewer, few)
