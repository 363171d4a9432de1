-- How often rows stand in lists from which some are taken.
use Rattle.std.proofs.Common.{◌≡◌, ℕ, ◌+◌, ◌<◌, ◌≤◌, List, [], ◌∷◌, ◌++◌, refl, sym, ◌∙◌, ap, subst, arith, Bool, true, false, cond, length, suc, slice_index_or}
use Rattle.std.specs.Prelude.{◌&&◌, ◌==◌, not, if◌then◌else◌, map, sum_by, IsPermutation, Some}
use Rattle.std.specs.List.{filter}
use Rattle.std.proofs.lemmas.Bool.{and_parts, eqb-true}
use Rattle.std.proofs.lemmas.List.Sorted.{sum_by-IsPermutation}
use Rattle.std.proofs.lemmas.List.Sums.{sum_by-cons}
use Rattle.tape_base.specs.declared.geometries.Geometry.{Geometry}
use Rattle.tape_base.specs.declared.pieces.PieceId.{PieceId}
use Rattle.tape_base.specs.Piece.{same_piece}
use Rattle.tape_base.proofs.NameLaws.{same_piece-same, same_piece-true}
use Rattle.dir_table.specs.declared.rows.DirRow.{DirRow}
use Rattle.cache_model.specs.State.{Row, row_in, without}
use Rattle.cache_model.specs.Tape.{AreApart, NotAmong}
use Rattle.held_pieces.specs.Held.{entry_of_piece, same_entry, times}

-- how much a row counts
abbrev pub one_if : DirRow → DirRow → ℕ
one_if x row = if same_entry row x then 1 else 0

pub same_entry-true : (a b : DirRow) → same_entry a b ≡ true → a ≡ b
same_entry-true a b h =
    let outer = and_parts (a.segment == b.segment && a.bucket == b.bucket) (a.tag == b.tag && a.place == b.place) h in
    let left = and_parts (a.segment == b.segment) (a.bucket == b.bucket) outer.0 in
    let right = and_parts (a.tag == b.tag) (a.place == b.place) outer.1 in
    let segment = eqb-true a.segment b.segment left.0 in
    let bucket = eqb-true a.bucket b.bucket left.1 in
    let tag = eqb-true a.tag b.tag right.0 in
    let place = eqb-true a.place b.place right.1 in
    λ i. record { segment = segment i; bucket = bucket i; tag = tag i; place = place i }

abbrev pub one_more : Bool → ℕ → ℕ
one_more b n = if b then n + 1 else n

append_by : (b : Bool) (n m k : ℕ) → n ≡ m + k → one_more b n ≡ one_more b m + k
append_by true n m k h = omega arith
append_by false n m k h = h

pub times-append : (x : DirRow) (a b : List DirRow) → times x (a ++ b) ≡ times x a + times x b
times-append x [] b = omega arith
times-append x (row ∷ a) b = append_by (same_entry row x) (times x (a ++ b)) (times x a) (times x b) (times-append x a b)

sum_of_more : (b : Bool) (n m : ℕ) → n ≡ m → one_more b n ≡ (if b then 1 else 0) + m
sum_of_more true n m h = omega arith
sum_of_more false n m h = omega arith

times_is_sum : (x : DirRow) (rows : List DirRow) → times x rows ≡ sum_by (one_if x) rows
times_is_sum x [] = refl
times_is_sum x (row ∷ rows) = sum_of_more (same_entry row x) (times x rows) (sum_by (one_if x) rows) (times_is_sum x rows) ∙ sym (sum_by-cons (one_if x) row rows)

pub times-permutation : (x : DirRow) (a b : List DirRow) → IsPermutation a b → times x b ≡ times x a
times-permutation x a b p = times_is_sum x b ∙ (sum_by-IsPermutation (one_if x) a b p ∙ sym (times_is_sum x a))

-- ---- a test of places

abbrev pub kept : Bool → ℕ → ℕ
kept b n = if b then n else 0

kept_zero : (b : Bool) → kept b 0 ≡ 0
kept_zero true = refl
kept_zero false = refl

module _ (q : ℕ → Bool) (x : DirRow) where
  by_same : (row : DirRow) (rows left : List DirRow) (b c : Bool) → same_entry row x ≡ b → q row.place ≡ c → times x left ≡ kept (q x.place) (times x rows)
      → times x (cond c (row ∷ left) left) ≡ kept (q x.place) (one_more b (times x rows))
  by_same row rows left true c e f h =
      let same : q x.place ≡ c = ap (λ (r : DirRow). q r.place) (sym (same_entry-true row x e)) ∙ f in
      by_test c same
    where
      by_test : (d : Bool) → q x.place ≡ d → times x (cond d (row ∷ left) left) ≡ kept (q x.place) (times x rows + 1)
      by_test true g = rw (e, g) (ap (λ n. n + 1) (h ∙ ap (λ d. kept d (times x rows)) g))
      by_test false g = rw g (h ∙ ap (λ d. kept d (times x rows)) g)
  by_same row rows left false true e f h = rw e h
  by_same row rows left false false e f h = h

  pub times-filter : (rows : List DirRow) → times x (filter (λ r. q r.place) rows) ≡ kept (q x.place) (times x rows)
  times-filter [] = sym (kept_zero (q x.place))
  times-filter (row ∷ rows) = by_same row rows (filter (λ r. q r.place) rows) (same_entry row x) (q row.place) refl refl (times-filter rows)

  -- the same of entries
  entry_by : (g : Geometry) (row : Row) (rows left : List Row) (b c : Bool) → same_entry (entry_of_piece g row) x ≡ b → q row.place ≡ c
      → times x (map (entry_of_piece g) left) ≡ kept (q x.place) (times x (map (entry_of_piece g) rows))
      → times x (map (entry_of_piece g) (cond c (row ∷ left) left)) ≡ kept (q x.place) (one_more b (times x (map (entry_of_piece g) rows)))
  entry_by g row rows left true c e f h =
      let same : q x.place ≡ c = ap (λ (r : DirRow). q r.place) (sym (same_entry-true (entry_of_piece g row) x e)) ∙ f in
      by_test c same
    where
      by_test : (d : Bool) → q x.place ≡ d → times x (map (entry_of_piece g) (cond d (row ∷ left) left)) ≡ kept (q x.place) (times x (map (entry_of_piece g) rows) + 1)
      by_test true k = rw (e, k) (ap (λ n. n + 1) (h ∙ ap (λ d. kept d (times x (map (entry_of_piece g) rows))) k))
      by_test false k = rw k (h ∙ ap (λ d. kept d (times x (map (entry_of_piece g) rows))) k)
  entry_by g row rows left false true e f h = rw e h
  entry_by g row rows left false false e f h = h

  pub times-entries : (g : Geometry) (rows : List Row) → times x (map (entry_of_piece g) (filter (λ (r : Row). q r.place) rows)) ≡ kept (q x.place) (times x (map (entry_of_piece g) rows))
  times-entries g [] = sym (kept_zero (q x.place))
  times-entries g (row ∷ rows) =
      entry_by g row rows (filter (λ (r : Row). q r.place) rows) (same_entry (entry_of_piece g row) x) (q row.place) refl refl (times-entries g rows)

-- ---- rows below a place

none_by : (high : ℕ) (row x : DirRow) (b : Bool) (n : ℕ) → same_entry row x ≡ b → row.place < high → high ≤ x.place → n ≡ 0 → one_more b n ≡ 0
none_by high row x true n e below above h = let same : row.place ≡ x.place = ap (λ (r : DirRow). r.place) (same_entry-true row x e) in absurd (omega arith)
none_by high row x false n e below above h = h

-- a row at or above a place stands nowhere among rows below it
pub times-below : (high : ℕ) (x : DirRow) (rows : List DirRow) → ((k : ℕ) (d : DirRow) → k < length rows → (slice_index_or rows k d).place < high) → high ≤ x.place → times x rows ≡ 0
times-below high x [] all above = refl
times-below high x (row ∷ rows) all above =
    none_by high row x (same_entry row x) (times x rows) refl (all 0 row (omega arith)) above
    (times-below high x rows (λ k d within. all (suc k) d (omega arith)) above)

-- ---- a piece is taken out

not_there_by : (g : Geometry) (id : PieceId) (row : Row) (rows : List Row) (b : Bool) → same_piece row.id id ≡ b → same_piece id row.id ≡ false
    → map (entry_of_piece g) (without id rows) ≡ map (entry_of_piece g) rows → map (entry_of_piece g) (cond (not b) (row ∷ without id rows) (without id rows)) ≡ entry_of_piece g row ∷ map (entry_of_piece g) rows
not_there_by g id row rows false e n rest = ap (λ xs. entry_of_piece g row ∷ xs) rest
not_there_by g id row rows true e n rest =
    let f : true ≡ false = sym (ap (λ i. same_piece i row.id) (sym (same_piece-true row.id id e)) ∙ same_piece-same row.id) ∙ n in cc

not_there : (g : Geometry) (id : PieceId) (rows : List Row) → NotAmong id rows
    → map (entry_of_piece g) (without id rows) ≡ map (entry_of_piece g) rows
not_there g id [] h = refl
not_there g id (row ∷ rows) h = not_there_by g id row rows (same_piece row.id id) refl h.0 (not_there g id rows h.1)

gone_by : (g : Geometry) (id : PieceId) (x : DirRow) (first row : Row) (rows : List Row) (b : Bool) → same_piece first.id id ≡ b → NotAmong first.id rows
    → (row_in rows id ≡ Some row → times x (map (entry_of_piece g) rows) ≡ one_more (same_entry (entry_of_piece g row) x) (times x (map (entry_of_piece g) (without id rows))))
    → (if b then Some first else row_in rows id) ≡ Some row
    → times x (map (entry_of_piece g) (first ∷ rows)) ≡ one_more (same_entry (entry_of_piece g row) x) (times x (map (entry_of_piece g) (cond (not b) (first ∷ without id rows) (without id rows))))
gone_by g id x first row rows true e apart rest h =
    let it : first ≡ row = cc in
    let none : NotAmong id rows = subst (λ i. NotAmong i rows) (same_piece-true first.id id e) apart in
    ap (λ (r : Row). one_more (same_entry (entry_of_piece g r) x) (times x (map (entry_of_piece g) rows))) it
    ∙ ap (λ xs. one_more (same_entry (entry_of_piece g row) x) (times x xs)) (sym (not_there g id rows none))
gone_by g id x first row rows false e apart rest h =
    both (same_entry (entry_of_piece g first) x) (same_entry (entry_of_piece g row) x) _ _ (rest h)
  where
    both : (b c : Bool) (n m : ℕ) → n ≡ one_more c m → one_more b n ≡ one_more c (one_more b m)
    both true true n m k = ap (λ i. i + 1) k
    both true false n m k = ap (λ i. i + 1) k
    both false true n m k = k
    both false false n m k = k

-- a piece that stands among rows that differ stood there once
pub times-without : (g : Geometry) (id : PieceId) (x : DirRow) (row : Row) (rows : List Row) → AreApart rows → row_in rows id ≡ Some row
    → times x (map (entry_of_piece g) rows)
    ≡ one_more (same_entry (entry_of_piece g row) x) (times x (map (entry_of_piece g) (without id rows)))
times-without g id x row [] apart h = cc
times-without g id x row (first ∷ rows) apart h = gone_by g id x first row rows (same_piece first.id id) refl apart.0 (times-without g id x row rows apart.1) h
