-- Which pieces are kept, by what is looked up.
use Rattle.std.proofs.Common.{◌≡◌, ℕ, zero, suc, ◌+◌, ◌≤◌, Bool, true, false, List, [], ◌∷◌, ◌++◌, length, take, drop, reverse, append_assoc, append-nil, slice_get, Some, refl, sym, ap, ◌∙◌, arith}
use Rattle.std.specs.Prelude.{◌&&◌, ◌||◌, if◌then◌else◌}
use Rattle.std.specs.List.{list_all, list_any}
use Rattle.std.proofs.lemmas.List.{reverse-append}
use Rattle.tape_base.specs.declared.keys.Key.{Key}
use Rattle.tape_base.specs.declared.pieces.PieceId.{PieceId}
use Rattle.tape_base.specs.Piece.{is_vector}
use Rattle.fragment_table.specs.Table.{TableRow}
use Rattle.cache_model.specs.declared.findings.FoundRow.{FoundRow}
use Rattle.reopening.specs.declared.later.Measure.{Measure}
use Rattle.reopening.specs.Later.{has_lengths, latest, replaces, with_lengths}
use Rattle.reopening.specs.ByName.{MeasuresApart, has_vector_of, is_measured, is_piece_found, lists_measured, measured, piece_of_row, rows_measured}
use Rattle.reopening.proofs.ByName.{lengths_by_name, replaced_by_name}
use Rattle.device_opening.specs.declared.kept.Names.{Names}
use Rattle.device_opening.specs.Kept.{HasNames}

pub replaced_so : (names : Names) (id : PieceId) (later : List FoundRow) (named vector : Bool) → HasNames names later → named ≡ is_piece_found id later → vector ≡ has_vector_of id.first later
    → (named || (is_vector id && vector)) ≡ list_any (λ y. replaces y.id id) later
replaced_so names id later named vector has n v = (λ i. n i || (is_vector id && v i)) ∙ sym (replaced_by_name id later)

-- ---- the last first

pub reverse_more : (xs : List FoundRow) (x : FoundRow) → reverse (xs ++ x ∷ []) ≡ x ∷ reverse xs
reverse_more xs x = reverse-append xs (x ∷ [])

pub reverse_first : (x : FoundRow) (xs : List FoundRow) → reverse (x ∷ xs) ≡ reverse xs ++ x ∷ []
reverse_first x xs = reverse-append (x ∷ []) xs

module _ (x : FoundRow) (later : List FoundRow) where
  pub latest_kept : list_any (λ y. replaces y.id x.id) later ≡ false → latest (x ∷ later) ≡ x ∷ latest later
  unfolding latest
  latest_kept none = ap (λ b. if b then latest later else x ∷ latest later) none

  pub latest_dropped : list_any (λ y. replaces y.id x.id) later ≡ true → latest (x ∷ later) ≡ latest later
  unfolding latest
  latest_dropped one = ap (λ b. if b then latest later else x ∷ latest later) one

module _ (all : List Measure) (apart : MeasuresApart all) (x : FoundRow) (rest : List FoundRow) where
  by_name : (b : Bool) → b ≡ lists_measured all x.id.first x.alternates → has_lengths all x ≡ b
  by_name b is = lengths_by_name all x apart ∙ sym is

  pub length_kept : true ≡ lists_measured all x.id.first x.alternates → with_lengths all (x ∷ rest) ≡ x ∷ with_lengths all rest
  unfolding with_lengths
  length_kept is = ap (λ b. if b then x ∷ with_lengths all rest else with_lengths all rest) (by_name true is)

  pub length_dropped : false ≡ lists_measured all x.id.first x.alternates → with_lengths all (x ∷ rest) ≡ with_lengths all rest
  unfolding with_lengths
  length_dropped is = ap (λ b. if b then x ∷ with_lengths all rest else with_lengths all rest) (by_name false is)

-- ---- tables

-- the rows from one on, the first of which is that one
drop_next : (table : List TableRow) (i : ℕ) (row : TableRow) → slice_get table i ≡ Some row → drop i table ≡ row ∷ drop (i + 1) table
drop_next [] i row is = absurd cc
drop_next (r ∷ table) zero row is = let same : r ≡ row = cc in ap (λ x. x ∷ table) same
drop_next (r ∷ table) (suc i) row is = drop_next table i row is ∙ ap (λ (k : ℕ). row ∷ drop k (r ∷ table)) (let e : suc (i + 1) ≡ suc i + 1 = omega arith in e)

module _ (all : List Measure) (first : Key) (put : ℕ) (table : List TableRow) (i : ℕ) (row : TableRow) (there : slice_get table i ≡ Some row) where
  one_more : rows_measured all first put (i + 1) (drop i table)
      ≡ (is_measured (measured (piece_of_row first put (i + 1)) all) row.length && rows_measured all first put (i + 1 + 1) (drop (i + 1) table))
  one_more = ap (rows_measured all first put (i + 1)) (drop_next table i row there)

  pub table_goes_on : true ≡ is_measured (measured (piece_of_row first put (i + 1)) all) row.length
      → rows_measured all first put (i + 1) (drop i table) ≡ rows_measured all first put 1 table
      → rows_measured all first put (i + 1 + 1) (drop (i + 1) table) ≡ rows_measured all first put 1 table
  table_goes_on passes so = sym (one_more ∙ ap (λ b. b && rows_measured all first put (i + 1 + 1) (drop (i + 1) table)) (sym passes)) ∙ so

  pub table_stops : false ≡ is_measured (measured (piece_of_row first put (i + 1)) all) row.length
      → rows_measured all first put (i + 1) (drop i table) ≡ rows_measured all first put 1 table
      → false ≡ rows_measured all first put 1 table
  table_stops fails so = sym (one_more ∙ ap (λ b. b && rows_measured all first put (i + 1 + 1) (drop (i + 1) table)) (sym fails)) ∙ so

-- ---- turns of the loops

pub none_latest : [] ≡ reverse (latest [])
unfolding latest
none_latest = refl

module _ (left new later all : List FoundRow) (x : FoundRow) (was : all ≡ left ++ later) (out : left ≡ new ++ x ∷ []) where
  pub one_further : all ≡ new ++ x ∷ later
  one_further = was ∙ (ap (λ l. l ++ later) out ∙ append_assoc new (x ∷ []) later)

module _ (x : FoundRow) (later kept : List FoundRow) (is : kept ≡ reverse (latest later)) where
  pub one_kept : list_any (λ y. replaces y.id x.id) later ≡ false → kept ++ x ∷ [] ≡ reverse (latest (x ∷ later))
  one_kept none = ap (λ l. l ++ x ∷ []) is ∙ sym (ap reverse (latest_kept x later none) ∙ reverse_first x (latest later))

  pub one_dropped : list_any (λ y. replaces y.id x.id) later ≡ true → kept ≡ reverse (latest (x ∷ later))
  one_dropped one = is ∙ sym (ap reverse (latest_dropped x later one))

module _ (all : List Measure) (apart : MeasuresApart all) (x : FoundRow) (left new : List FoundRow) (out : left ≡ new ++ x ∷ []) where
  back_is : reverse left ≡ x ∷ reverse new
  back_is = ap reverse out ∙ reverse_more new x

  pub found_more : (found more whole : List FoundRow) → more ≡ found ++ x ∷ [] → true ≡ lists_measured all x.id.first x.alternates → found ++ with_lengths all (reverse left) ≡ whole
      → more ++ with_lengths all (reverse new) ≡ whole
  found_more found more whole added is so =
      ap (λ l. l ++ with_lengths all (reverse new)) added
      ∙ (append_assoc found (x ∷ []) (with_lengths all (reverse new))
      ∙ (ap (λ l. found ++ l) (sym (ap (with_lengths all) back_is ∙ length_kept all apart x (reverse new) is)) ∙ so))

  pub found_same : (found whole : List FoundRow) → false ≡ lists_measured all x.id.first x.alternates → found ++ with_lengths all (reverse left) ≡ whole
      → found ++ with_lengths all (reverse new) ≡ whole
  found_same found whole is so = ap (λ l. found ++ l) (sym (ap (with_lengths all) back_is ∙ length_dropped all apart x (reverse new) is)) ∙ so

pub none_with : (all : List Measure) → with_lengths all (reverse []) ≡ []
unfolding with_lengths
none_with all = refl

pub all_with : (all : List Measure) (found left whole : List FoundRow) → length left ≡ 0 → found ++ with_lengths all (reverse left) ≡ whole → found ≡ whole
all_with all found [] whole none so = sym (append-nil found) ∙ (ap (λ l. found ++ l) (sym (none_with all)) ∙ so)
all_with all found (x ∷ left) whole none so = absurd (omega (arith, none))

pub all_taken : {X : Type 0} (p : X → Bool) (xs : List X) (i : ℕ) → length xs ≤ i → list_all p (take i xs) ≡ true → list_all p xs ≡ true
all_taken p xs i le so = ap (list_all p) (sym (whole xs i le)) ∙ so where
  whole : {X : Type 0} (xs : List X) (i : ℕ) → length xs ≤ i → take i xs ≡ xs
  whole [] zero le = refl
  whole [] (suc i) le = refl
  whole (x ∷ xs) zero le = absurd (omega (arith, le))
  whole (x ∷ xs) (suc i) le = ap (λ l. x ∷ l) (whole xs i (omega (arith, le)))

pub twice_back : (xs : List FoundRow) → reverse (reverse xs) ≡ xs
twice_back [] = refl
twice_back (x ∷ xs) = ap reverse (reverse_first x xs) ∙ (reverse_more (reverse xs) x ∙ ap (λ l. x ∷ l) (twice_back xs))
