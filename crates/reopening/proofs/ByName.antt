-- What is compared is looked up.
use Rattle.std.proofs.Common.{◌≡◌, ◌<◌, ◌+◌, ℕ, zero, suc, Bool, true, false, List, [], ◌∷◌, map, Option, Some, None, refl, sym, ap, ◌∙◌, arith}
use Rattle.std.specs.Prelude.{◌==◌, ◌&&◌, ◌||◌, not, slice_get, if◌then◌else◌}
use Rattle.std.specs.List.{list_all, list_any}
use Rattle.std.proofs.lemmas.Bool.{and_right, eq-eqb, eqb-true, or_parts, or_right}
use Rattle.tape_base.specs.declared.keys.Key.{Key}
use Rattle.tape_base.specs.declared.pieces.PieceId.{PieceId}
use Rattle.tape_base.specs.Key.{same_key}
use Rattle.tape_base.specs.Piece.{is_vector, same_piece}
use Rattle.tape_base.proofs.NameLaws.{same_piece-true}
use Rattle.fragment_table.specs.Table.{TableRow}
use Rattle.alternate_vector.specs.Alternates.{Stored}
use Rattle.cache_model.specs.declared.findings.FoundRow.{FoundRow}
use Rattle.reopening.specs.declared.later.Measure.{Measure}
use Rattle.reopening.specs.Later.{all_state, has_length, latest, lengths_agree, measure_of, replaces, row_of_fragment, states}
use Rattle.reopening.specs.Kept.{AreAlone}
use Rattle.reopening.specs.ByName.{LatestApart, LengthsByName, MeasuresApart, ReplacedByName, is_piece_found, has_vector_of, is_measured, lists_measured, measured, piece_of_row, rows_measured}
use Rattle.reopening.proofs.Alone.{latest_alone, piece_back}

-- ---- what is replaced

swapped : (x one other : Bool) → (x || (one || other)) ≡ (one || (x || other))
swapped true true other = refl
swapped true false other = refl
swapped false one other = refl

-- of one piece and those behind it
split : (same vector_too vector key one other : Bool)
    → ((same || (vector_too && (vector && key))) || (one || (vector && other))) ≡ ((same || one) || (vector && ((vector_too && key) || other)))
split true vector_too vector key one other = refl
split false true false key one other = refl
split false false false key one other = refl
split false vector_too true key one other = swapped (vector_too && key) one other

pub replaced_by_name : ReplacedByName
replaced_by_name id [] = sym (and_right (is_vector id) false refl)
replaced_by_name id (y ∷ later) =
    ap (λ b. replaces y.id id || b) (replaced_by_name id later)
    ∙ split (same_piece y.id id) (is_vector y.id) (is_vector id) (same_key y.id.first id.first) (is_piece_found id later) (has_vector_of id.first later)

-- ---- those behind the last are apart

alone_apart : (all : List FoundRow) → AreAlone all → MeasuresApart (map measure_of all)
alone_apart [] alone = tt
alone_apart (x ∷ later) alone = (none_named later alone.0, alone_apart later alone.1) where
  none_named : (rest : List FoundRow) → list_any (λ y. replaces y.id x.id) rest ≡ false → list_any (λ z. same_piece x.id z.id) (map measure_of rest) ≡ false
  none_named [] none = refl
  none_named (y ∷ rest) none =
      let e = or_parts (replaces y.id x.id) (list_any (λ z. replaces z.id x.id) rest) none in
      let apart = or_parts (same_piece y.id x.id) (is_vector y.id && (is_vector x.id && same_key y.id.first x.id.first)) e.0 in
      ap (λ b. b || list_any (λ z. same_piece x.id z.id) (map measure_of rest)) (piece_back x.id y.id apart.0) ∙ none_named rest e.1

pub latest_apart : LatestApart
latest_apart all = alone_apart (latest all) (latest_alone all)

-- ---- lists of tests

crossed : (a b c d : Bool) → ((a && b) && (c && d)) ≡ ((a && c) && (b && d))
crossed true true c d = refl
crossed true false c d = sym (and_right c false refl)
crossed false b c d = refl

all_true : {X : Type 0} (list : List X) → list_all (λ x. true) list ≡ true
all_true [] = refl
all_true (x ∷ list) = all_true list

both_all : {X : Type 0} (p q : X → Bool) (list : List X) → list_all (λ x. p x && q x) list ≡ (list_all p list && list_all q list)
both_all p q [] = refl
both_all p q (x ∷ list) =
    ap (λ b. (p x && q x) && b) (both_all p q list) ∙ crossed (p x) (q x) (list_all p list) (list_all q list)

same_all : {X : Type 0} (p q : X → Bool) → ((x : X) → p x ≡ q x) → (list : List X) → list_all p list ≡ list_all q list
same_all p q same [] = refl
same_all p q same (x ∷ list) = λ i. same x i && same_all p q same list i

-- ---- one measure more

unmeasured : (id : PieceId) (all : List Measure) → list_any (λ z. same_piece id z.id) all ≡ false → measured id all ≡ None
unmeasured id [] none = refl
unmeasured id (z ∷ all) none =
    let e = or_parts (same_piece id z.id) (list_any (λ y. same_piece id y.id) all) none in
    ap (λ b. if b then Some z.length else measured id all) e.0 ∙ unmeasured id all e.1

and_true : (b : Bool) → (b && true) ≡ b
and_true true = refl
and_true false = refl

-- the row for an index decides where it is the one that is asked for, and no other does
of_it : (k p l : Bool) → ((not (k && (p && true)) || l) && (not (k && p) || true)) ≡ (not (k && p) || l)
of_it false p l = refl
of_it true false l = refl
of_it true true true = refl
of_it true true false = refl

of_none : (k p l rest : Bool) → ((not (k && (p && false)) || l) && rest) ≡ rest
of_none false p l rest = refl
of_none true false l rest = refl
of_none true true l rest = refl

module _ (y : Measure) (all : List Measure) (first : Key) (apart : list_any (λ z. same_piece y.id z.id) all ≡ false) where
  -- a row states the length of y, where it is one for y
  abbrev row_states : ℕ → ℕ → TableRow → Bool
  row_states put index row = not (same_piece (piece_of_row first put index) y.id) || row.length == y.length

  one_more : (put index : ℕ) (row : TableRow)
      → is_measured (measured (piece_of_row first put index) (y ∷ all)) row.length
      ≡ (row_states put index row && is_measured (measured (piece_of_row first put index) all) row.length)
  one_more put index row = by (same_piece (piece_of_row first put index) y.id) refl where
    by : (b : Bool) → same_piece (piece_of_row first put index) y.id ≡ b
        → is_measured (if b then Some y.length else measured (piece_of_row first put index) all) row.length
        ≡ ((not b || row.length == y.length) && is_measured (measured (piece_of_row first put index) all) row.length)
    by false is = refl
    by true is =
        let here : piece_of_row first put index ≡ y.id = same_piece-true (piece_of_row first put index) y.id is in
        let none : measured (piece_of_row first put index) all ≡ None = unmeasured (piece_of_row first put index) all
        (ap (λ (i : PieceId). list_any (λ z. same_piece i z.id) all) here ∙ apart) in
        sym (ap (λ o. (row.length == y.length) && is_measured o row.length) none ∙ and_true (row.length == y.length))

  abbrev rows_state : ℕ → ℕ → List TableRow → Bool
  rows_state put index [] = true
  rows_state put index (row ∷ rest) = row_states put index row && rows_state put (index + 1) rest

  rows_more : (put index : ℕ) (table : List TableRow)
      → rows_measured (y ∷ all) first put index table ≡ (rows_state put index table && rows_measured all first put index table)
  rows_more put index [] = refl
  rows_more put index (row ∷ rest) =
      let id = piece_of_row first put index in
      (λ i. one_more put index row i && rows_more put (index + 1) rest i)
      ∙ crossed (row_states put index row) (is_measured (measured id all) row.length) (rows_state put (index + 1) rest) (rows_measured all first put (index + 1) rest)

  -- the row of y, in a table of which the first row is for this index
  abbrev row_from : ℕ → List TableRow → Option TableRow
  row_from index [] = None
  row_from index (row ∷ rest) = if index == y.id.index then Some row else row_from (index + 1) rest

  none_from : (index : ℕ) (table : List TableRow) → y.id.index < index → row_from index table ≡ None
  none_from index [] above = refl
  none_from index (row ∷ rest) above =
      ap (λ b. if b then Some row else row_from (index + 1) rest) (let e : (index == y.id.index) ≡ false = grind (arith, above) in e)
      ∙ none_from (index + 1) rest (omega (arith, above))

  from_at : (n index : ℕ) (table : List TableRow) → index + n ≡ y.id.index → row_from index table ≡ slice_get table n
  from_at zero index [] is = refl
  from_at (suc n) index [] is = refl
  from_at zero index (row ∷ rest) is =
      ap (λ b. if b then Some row else row_from (index + 1) rest) (eq-eqb index y.id.index (omega (arith, is)))
  from_at (suc n) index (row ∷ rest) is =
      ap (λ b. if b then Some row else row_from (index + 1) rest) (let e : (index == y.id.index) ≡ false = grind (arith, is) in e)
      ∙ from_at n (index + 1) rest (omega (arith, is))

  from_first : (table : List TableRow) → row_from 1 table ≡ row_of_fragment table y.id.index
  from_first table = by y.id.index refl where
    by : (n : ℕ) → y.id.index ≡ n → row_from 1 table ≡ row_of_fragment table n
    by zero is = none_from 1 table (omega (arith, is))
    by (suc n) is = from_at n 1 table (omega (arith, is))

  abbrev key : Bool
  key = same_key first y.id.first

  rows_are : (put index : ℕ) (table : List TableRow)
      → rows_state put index table ≡ (not (key && put == y.id.put) || has_length y.length (row_from index table))
  rows_are put index [] = sym (or_right (not (key && put == y.id.put)) true refl)
  rows_are put index (row ∷ rest) =
      ap (λ b. row_states put index row && b) (rows_are put (index + 1) rest) ∙ by (index == y.id.index) refl where
        by : (b : Bool) → (index == y.id.index) ≡ b
            → ((not (key && (put == y.id.put && b)) || row.length == y.length) && (not (key && put == y.id.put) || has_length y.length (row_from (index + 1) rest)))
            ≡ (not (key && put == y.id.put) || has_length y.length (if b then Some row else row_from (index + 1) rest))
        by true is =
            ap (λ o. (not (key && (put == y.id.put && true)) || row.length == y.length) && (not (key && put == y.id.put) || has_length y.length o))
            (none_from (index + 1) rest (let same = eqb-true index y.id.index is in omega (arith, same)))
            ∙ of_it key (put == y.id.put) (row.length == y.length)
        by false is = of_none key (put == y.id.put) (row.length == y.length) (not (key && put == y.id.put) || has_length y.length (row_from (index + 1) rest))

  table_states : (s : Stored) → rows_state s.put 1 s.table ≡ (not (key && s.put == y.id.put) || has_length y.length (row_of_fragment s.table y.id.index))
  table_states s = rows_are s.put 1 s.table ∙ ap (λ o. not (key && s.put == y.id.put) || has_length y.length o) (from_first s.table)

  list_states : (list : List Stored) → list_all (λ (s : Stored). rows_state s.put 1 s.table) list ≡ (not key || list_all (states y) list)
  list_states list = same_all (λ (s : Stored). rows_state s.put 1 s.table) (λ (s : Stored). not (key && s.put == y.id.put) || has_length y.length (row_of_fragment s.table y.id.index)) table_states list ∙ by key where
    by : (k : Bool) → list_all (λ (s : Stored). not (k && s.put == y.id.put) || has_length y.length (row_of_fragment s.table y.id.index)) list ≡ (not k || list_all (states y) list)
    by true = refl
    by false = all_true list

  lists_more : (o : Option (List Stored)) → lists_measured (y ∷ all) first o ≡ ((not key || all_state y o) && lists_measured all first o)
  lists_more None = ap (λ b. b && true) (sym (or_right (not key) true refl))
  lists_more (Some list) =
      same_all (λ (s : Stored). rows_measured (y ∷ all) first s.put 1 s.table) (λ (s : Stored). rows_state s.put 1 s.table && rows_measured all first s.put 1 s.table)
      (λ s. rows_more s.put 1 s.table) list
      ∙ (both_all (λ (s : Stored). rows_state s.put 1 s.table) (λ (s : Stored). rows_measured all first s.put 1 s.table) list
      ∙ ap (λ b. b && list_all (λ (s : Stored). rows_measured all first s.put 1 s.table) list) (list_states list))

-- ---- all of them

none_measured : (first : Key) (o : Option (List Stored)) → lists_measured [] first o ≡ true
none_measured first None = refl
none_measured first (Some list) = same_all (λ (s : Stored). rows_measured [] first s.put 1 s.table) (λ s. true) (λ s. each s.put 1 s.table) list ∙ all_true list where
  each : (put index : ℕ) (table : List TableRow) → rows_measured [] first put index table ≡ true
  each put index [] = refl
  each put index (row ∷ rest) = each put (index + 1) rest

pub lengths_by_name : LengthsByName
lengths_by_name [] x apart = sym (none_measured x.id.first x.alternates)
lengths_by_name (y ∷ all) x apart =
    ap (λ b. lengths_agree x y && b) (lengths_by_name all x apart.1)
    ∙ sym (lists_more y all x.id.first apart.0 x.alternates)
