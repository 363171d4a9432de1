-- A live piece is known at its place.
use Rattle.std.proofs.Common.{◌≡◌, ℕ, List, [], ◌∷◌, refl, sym, ◌∙◌, ap, Bool, true, false}
use Rattle.std.specs.Prelude.{Option, Some, None, if◌then◌else◌, ◌==◌, option_and_then}
use Rattle.std.specs.Map.{lookup}
use Rattle.std.proofs.lemmas.Bool.{eq-eqb}
use Rattle.tape_base.specs.declared.pieces.PieceId.{PieceId}
use Rattle.tape_base.specs.Piece.{same_piece}
use Rattle.tape_base.proofs.NameLaws.{same_piece-true}
use Rattle.cache_model.specs.State.{State, Row, is_live, only_live, live_row_of, row_in}
use Rattle.cache_model.specs.Verdict.{piece_at}
use Rattle.cache_model.specs.Tape.{AreKnown, IsSound}

-- a row that was found is that of its piece, and is known
found_by : (places : List (ℕ × PieceId)) (id : PieceId) (first row : Row) (other : Option Row) (b : Bool) → same_piece first.id id ≡ b
    → lookup (λ p. p == first.place) places ≡ Some first.id
    → (other ≡ Some row → lookup (λ p. p == row.place) places ≡ Some id)
    → (if b then Some first else other) ≡ Some row → lookup (λ p. p == row.place) places ≡ Some id
found_by places id first row other true e known rest h =
    let same : first ≡ row = cc in
    ap (λ (r : Row). lookup (λ p. p == r.place) places) (sym same) ∙ (known ∙ ap Some (same_piece-true first.id id e))
found_by places id first row other false e known rest h = rest h

-- so is the place of a row that is found for its piece
pub found_is_known : (places : List (ℕ × PieceId)) (id : PieceId) (rows : List Row) (row : Row) → AreKnown places rows → row_in rows id ≡ Some row → lookup (λ p. p == row.place) places ≡ Some id
found_is_known places id [] row known h = cc
found_is_known places id (first ∷ rows) row known h = found_by places id first row (row_in rows id) (same_piece first.id id) refl known.0 (found_is_known places id rows row known.1) h

stood_by : (s : State) (other row : Row) (b : Bool) → is_live s other ≡ b → (if b then Some other else None) ≡ Some row → other ≡ row
stood_by s other row true e h = cc
stood_by s other row false e h = cc

stood : (s : State) (o : Option Row) (row : Row) → option_and_then (only_live s) o ≡ Some row → o ≡ Some row
stood s None row h = cc
stood s (Some other) row h = ap Some (stood_by s other row (is_live s other) refl h)

-- so is that of a live piece
pub live_place_is_known : (s : State) (id : PieceId) (row : Row) → IsSound s → live_row_of s id ≡ Some row → lookup (λ p. p == row.place) s.places ≡ Some id
live_place_is_known s id row h live = found_is_known s.places id s.rows row h.known (stood s (row_in s.rows id) row live)

pub live_is_known : (s : State) (id : PieceId) (row : Row) → IsSound s → live_row_of s id ≡ Some row → piece_at s row.place ≡ Some id
live_is_known s id row h live =
    let known : lookup (λ p. p == row.place) s.places ≡ Some id = live_place_is_known s id row h live in
    rw (known, live, eq-eqb row.place row.place refl) refl
