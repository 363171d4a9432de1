-- What is found among the rows where some go out and one is placed.
use Rattle.std.proofs.Common.{◌≡◌, ◌∙◌, refl, sym, ap, Bool, true, false, cond, not, List, [], ◌∷◌, ◌++◌, Option, Some, None}
use Rattle.std.specs.Prelude.{ℕ, map, option_map, option_to_list}
use Rattle.std.specs.HashMap.{HashMap, get}
use Rattle.tape_base.specs.declared.pieces.PieceId.{PieceId}
use Rattle.tape_base.specs.Piece.{same_piece}
use Rattle.tape_base.proofs.NameLaws.{same_piece-true, same_piece-same}
use Rattle.tape_base.specs.declared.digests.Digest.{Digest}
use Rattle.cache_model.specs.State.{Row, moved_row, row_in, without}
use Rattle.cache_model.proofs.Lists.{row_in-copied}
use Rattle.cache_chronicle.specs.declared.pieces.KeptPiece.{KeptPiece}
use Rattle.cache_chronicle.specs.LivePieces.{kept_piece}
use Rattle.cache_chronicle.specs.Tables.{HasRows}

named_by : (rows : List Row) (id : PieceId) (row there : Row) (b : Bool) → same_piece row.id id ≡ b → (row_in rows id ≡ Some there → there.id ≡ id)
    → cond b (Some row) (row_in rows id) ≡ Some there → there.id ≡ id
named_by rows id row there true h known found = let same : row ≡ there = cc in sym (ap (λ (r : Row). r.id) same) ∙ same_piece-true row.id id h
named_by rows id row there false h known found = known found

-- a row that is found has the name
pub row_in-named : (rows : List Row) (id : PieceId) (there : Row) → row_in rows id ≡ Some there → there.id ≡ id
row_in-named [] id there found = let t : None ≡ Some there = found in cc
row_in-named (row ∷ rows) id there found = named_by rows id row there (same_piece row.id id) refl (row_in-named rows id there) found

-- the row goes out
out_here : (id other : PieceId) (row : Row) (found : Option Row) → same_piece row.id id ≡ true → cond (same_piece id other) None found ≡ cond (same_piece id other) None (cond (same_piece row.id other) (Some row) found)
out_here id other row found e = by_tests (same_piece id other) (same_piece row.id other) (ap (λ n. same_piece n other) (same_piece-true row.id id e))
  where
    by_tests : (b c : Bool) → c ≡ b → cond b None found ≡ cond b None (cond c (Some row) found)
    by_tests true c h = refl
    by_tests false c h = rw h refl

-- another one goes out
out_there : (id other : PieceId) (row : Row) (found : Option Row) → same_piece row.id id ≡ false → cond (same_piece row.id other) (Some row) (cond (same_piece id other) None found) ≡ cond (same_piece id other) None (cond (same_piece row.id other) (Some row) found)
out_there id other row found e = by_tests (same_piece row.id other) (same_piece id other) refl refl
  where
    apart : row.id ≡ id → ⊥
    apart same = let t : false ≡ true = sym e ∙ ap (λ n. same_piece n id) same ∙ same_piece-same id in cc

    by_tests : (a b : Bool) → same_piece row.id other ≡ a → same_piece id other ≡ b → cond a (Some row) (cond b None found) ≡ cond b None (cond a (Some row) found)
    by_tests true true h k = absurd (apart (same_piece-true row.id other h ∙ sym (same_piece-true id other k)))
    by_tests true false h k = refl
    by_tests false true h k = refl
    by_tests false false h k = refl

none_either_way : (other : PieceId) (b : Bool) → row_in [] other ≡ cond b None (row_in [] other)
none_either_way other true = refl
none_either_way other false = refl

without_one : (id other : PieceId) (row : Row) (rest : List Row) (found : Option Row) → row_in rest other ≡ cond (same_piece id other) None found
    → (b : Bool) → same_piece row.id id ≡ b → row_in (cond (not b) (row ∷ rest) rest) other ≡ cond (same_piece id other) None (cond (same_piece row.id other) (Some row) found)
without_one id other row rest found known true e = known ∙ out_here id other row found e
without_one id other row rest found known false e = ap (λ left. cond (same_piece row.id other) (Some row) left) known ∙ out_there id other row found e

-- what is found at a name that was taken out, and at others
pub row_in-without : (id other : PieceId) (rows : List Row) → row_in (without id rows) other ≡ cond (same_piece id other) None (row_in rows other)
row_in-without id other [] = none_either_way other (same_piece id other)
row_in-without id other (row ∷ rows) =
    without_one id other row (without id rows) (row_in rows other) (row_in-without id other rows) (same_piece row.id id) refl

-- the first that is found, or else the second
abbrev pub or_else : {X : Type 0} → Option X → Option X → Option X
or_else (Some x) later = Some x
or_else None later = later

first_of_two : (b : Bool) (row : Row) (later found rest : Option Row) → rest ≡ or_else found later → cond b (Some row) rest ≡ or_else (cond b (Some row) found) later
first_of_two true row later found rest h = refl
first_of_two false row later found rest h = h

-- what stands in front is found first
pub row_in-append : (rows more : List Row) (other : PieceId) → row_in (rows ++ more) other ≡ or_else (row_in rows other) (row_in more other)
row_in-append [] more other = refl
row_in-append (row ∷ rows) more other =
    first_of_two (same_piece row.id other) row (row_in more other) (row_in rows other) (row_in (rows ++ more) other) (row_in-append rows more other)

out_and_in : (b : Bool) (row : Row) (found : Option Row) → or_else (cond b None found) (cond b (Some row) None) ≡ cond b (Some row) found
out_and_in true row found = refl
out_and_in false row None = refl
out_and_in false row (Some there) = refl

-- the piece stands anew
pub row_in-anew : (rows : List Row) (row : Row) (other : PieceId) → row_in (without row.id rows ++ row ∷ []) other ≡ cond (same_piece row.id other) (Some row) (row_in rows other)
row_in-anew rows row other =
    row_in-append (without row.id rows) (row ∷ []) other
    ∙ ap (λ found. or_else found (cond (same_piece row.id other) (Some row) None)) (row_in-without row.id other rows)
    ∙ out_and_in (same_piece row.id other) row (row_in rows other)

option_map-cond : {X Y : Type 0} (f : X → Y) (b : Bool) (here there : Option X) → cond b (option_map f here) (option_map f there) ≡ option_map f (cond b here there)
option_map-cond f true here there = refl
option_map-cond f false here there = refl

-- a table that loses a name has the rows without it
pub known_without : {X : Type 0} (f : Row → X) (id other : PieceId) (rows : List Row) → cond (same_piece id other) None (option_map f (row_in rows other)) ≡ option_map f (row_in (without id rows) other)
known_without f id other rows = option_map-cond f (same_piece id other) None (row_in rows other) ∙ ap (option_map f) (sym (row_in-without id other rows))

-- a table that gets a row has it behind the others
pub known_anew : {X : Type 0} (f : Row → X) (row : Row) (other : PieceId) (rows : List Row) → cond (same_piece row.id other) (Some (f row)) (option_map f (row_in rows other)) ≡ option_map f (row_in (without row.id rows ++ row ∷ []) other)
known_anew f row other rows = option_map-cond f (same_piece row.id other) (Some row) (row_in rows other) ∙ ap (option_map f) (sym (row_in-anew rows row other))

-- ---- a piece that is copied

abbrev moved_standing : ℕ → Digest → KeptPiece → KeptPiece
moved_standing place digest standing = record standing { place = place; digest = digest }

copied_known : (place : ℕ) (digest : Digest) (b : Bool) (o : Option Row)
    → cond b (option_map (moved_standing place digest) (option_map kept_piece o)) (option_map kept_piece o) ≡ option_map kept_piece (cond b (option_map (moved_row place digest) o) o)
copied_known place digest true (Some row) = refl
copied_known place digest true None = refl
copied_known place digest false o = refl

at_piece : {S : Type 0} (m : HashMap PieceId KeptPiece S) (piece id : PieceId) (place : ℕ) (digest : Digest) (found : Option KeptPiece) (b : Bool) → get same_piece m piece ≡ found → same_piece piece id ≡ b
    → cond b (option_map (moved_standing place digest) found) (get same_piece m id) ≡ cond b (option_map (moved_standing place digest) (get same_piece m id)) (get same_piece m id)
at_piece m piece id place digest found true h e = ap (option_map (moved_standing place digest)) (sym h ∙ ap (get same_piece m) (same_piece-true piece id e))
at_piece m piece id place digest found false h e = refl

-- a table in which what stands under a name gets another place and digest has the rows with that piece copied
pub known_copied : {S : Type 0} (m : HashMap PieceId KeptPiece S) (piece id : PieceId) (place : ℕ) (digest : Digest) (found : Option KeptPiece) (rows : List Row) → HasRows m rows → get same_piece m piece ≡ found
    → cond (same_piece piece id) (option_map (moved_standing place digest) found) (get same_piece m id)
    ≡ option_map kept_piece (row_in (without piece rows ++ map (moved_row place digest) (option_to_list (row_in rows piece))) id)
known_copied m piece id place digest found rows has h =
    at_piece m piece id place digest found (same_piece piece id) h refl
    ∙ (ap (λ o. cond (same_piece piece id) (option_map (moved_standing place digest) o) o) (has id)
    ∙ (copied_known place digest (same_piece piece id) (row_in rows id)
    ∙ sym (ap (option_map kept_piece) (row_in-copied piece id rows place digest))))

same_where_none : {S : Type 0} (m : HashMap PieceId KeptPiece S) (piece id : PieceId) (b : Bool) → get same_piece m piece ≡ None → same_piece piece id ≡ b
    → get same_piece m id ≡ cond b None (get same_piece m id)
same_where_none m piece id true h e = ap (get same_piece m) (sym (same_piece-true piece id e)) ∙ h
same_where_none m piece id false h e = refl

-- where nothing stands under a name, nothing changes
pub nowhere_copied : {S : Type 0} (m : HashMap PieceId KeptPiece S) (piece id : PieceId) (place : ℕ) (digest : Digest) (rows : List Row) → HasRows m rows → get same_piece m piece ≡ None
    → get same_piece m id ≡ option_map kept_piece (row_in (without piece rows ++ map (moved_row place digest) (option_to_list (row_in rows piece))) id)
nowhere_copied m piece id place digest rows has h =
    same_where_none m piece id (same_piece piece id) h refl ∙ known_copied m piece id place digest None rows has h
