-- Lists that have the same rows, each as often, are the same but for their order.
use Rattle.std.proofs.Common.{◌≡◌, ℕ, ◌+◌, ◌<◌, List, [], ◌∷◌, refl, sym, ◌∙◌, ap, subst, arith, Bool, true, false, cond}
use Rattle.std.specs.Prelude.{filter, IsPermutation}
use Rattle.std.proofs.lemmas.Bool.{eq-eqb}
use Rattle.std.proofs.lemmas.List.Sorted.{IsPermutation-refl, IsPermutation-trans, IsPermutation-cons, IsPermutation-middle}
use Rattle.dir_table.specs.declared.rows.DirRow.{DirRow}
use Rattle.held_pieces.specs.Held.{SameRows, same_entry, times}
use Rattle.held_pieces.proofs.Entries.{kept, one_more, same_entry-true, times-permutation}

-- ---- the same rows, in another order

-- a row of a list, and the others
abbrev Parted : DirRow → List DirRow → Type 0
Parted x rows = (left : List DirRow) × IsPermutation (x ∷ left) rows

parted_by : (x row : DirRow) (rows : List DirRow) (b : Bool) → same_entry row x ≡ b → 0 < one_more b (times x rows) → (0 < times x rows → Parted x rows)
    → Parted x (row ∷ rows)
parted_by x row rows true e some rest = (rows, subst (λ r. IsPermutation (r ∷ rows) (row ∷ rows)) (same_entry-true row x e) (IsPermutation-refl (row ∷ rows)))
parted_by x row rows false e some rest =
    let found = rest some in (
      row ∷ found.0,
      IsPermutation-trans (x ∷ row ∷ found.0) (row ∷ x ∷ found.0) (row ∷ rows) (IsPermutation-middle (x ∷ []) row found.0) (IsPermutation-cons row (x ∷ found.0) rows found.1),
    )

parted : (x : DirRow) (rows : List DirRow) → 0 < times x rows → Parted x rows
parted x [] some = absurd (omega (arith, some))
parted x (row ∷ rows) some = parted_by x row rows (same_entry row x) refl some (parted x rows)

times_first : (x : DirRow) (rows : List DirRow) → times x (x ∷ rows) ≡ times x rows + 1
times_first x rows = rw (eq-eqb x.segment x.segment refl, eq-eqb x.bucket x.bucket refl, eq-eqb x.tag x.tag refl, eq-eqb x.place x.place refl) refl

less_one : (b : Bool) (n m : ℕ) → one_more b n ≡ one_more b m → n ≡ m
less_one true n m h = omega (arith, h)
less_one false n m h = h

pub same_rows_permute : (a b : List DirRow) → SameRows a b → IsPermutation a b
same_rows_permute [] [] same = IsPermutation-refl []
same_rows_permute [] (row ∷ b) same = absurd (let none = same row in let some = times_first row b in omega (arith, none, some))
same_rows_permute (x ∷ a) b same =
    let here = same x in
    let one = times_first x a in
    let found = parted x b (omega (arith, here, one)) in
    let rest : SameRows a found.0 = λ y. less_one (same_entry x y) (times y a) (times y found.0) (same y ∙ times-permutation y (x ∷ found.0) b found.1) in
    IsPermutation-trans (x ∷ a) (x ∷ found.0) b (IsPermutation-cons x a found.0 (same_rows_permute a found.0 rest)) found.1

permuted_same : (a b : List DirRow) → IsPermutation a b → SameRows a b
permuted_same a b p = λ x. sym (times-permutation x a b p)

-- ---- rows that pass a test

module _ (test : DirRow → Bool) where
  passed_by : (x row : DirRow) (rows left : List DirRow) (b c : Bool) → same_entry row x ≡ b → test row ≡ c → times x left ≡ kept (test x) (times x rows)
      → times x (cond c (row ∷ left) left) ≡ kept (test x) (one_more b (times x rows))
  passed_by x row rows left true c e f h = by_test c (ap test (sym (same_entry-true row x e)) ∙ f)
    where
      by_test : (d : Bool) → test x ≡ d → times x (cond d (row ∷ left) left) ≡ kept (test x) (times x rows + 1)
      by_test true g = rw (e, g) (ap (λ n. n + 1) (h ∙ ap (λ d. kept d (times x rows)) g))
      by_test false g = rw g (h ∙ ap (λ d. kept d (times x rows)) g)
  passed_by x row rows left false true e f h = rw e h
  passed_by x row rows left false false e f h = h

  none_kept : (b : Bool) → kept b 0 ≡ 0
  none_kept true = refl
  none_kept false = refl

  pub times_passed : (x : DirRow) (rows : List DirRow) → times x (filter test rows) ≡ kept (test x) (times x rows)
  times_passed x [] = sym (none_kept (test x))
  times_passed x (row ∷ rows) = passed_by x row rows (filter test rows) (same_entry row x) (test row) refl refl (times_passed x rows)

  same_passed : (a b : List DirRow) → SameRows a b → SameRows (filter test a) (filter test b)
  same_passed a b same = λ x. times_passed x a ∙ (ap (kept (test x)) (same x) ∙ sym (times_passed x b))

  pub permuted_passed : (a b : List DirRow) → IsPermutation a b → IsPermutation (filter test a) (filter test b)
  permuted_passed a b p = same_rows_permute (filter test a) (filter test b) (same_passed a b (permuted_same a b p))
