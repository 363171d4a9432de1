-- What is looked up by the names of pieces.
use Rattle.std.specs.Prelude.{◌≡◌, ℕ, List}
use Rattle.std.specs.HashMap.{HashMap, get}
use Rattle.std.specs.HashSet.{contains}
use Rattle.tape_base.specs.declared.keys.Key.{Key}
use Rattle.tape_base.specs.declared.pieces.PieceId.{PieceId}
use Rattle.tape_base.specs.Key.{same_key}
use Rattle.tape_base.specs.Piece.{same_piece}
use Rattle.cache_model.specs.declared.findings.FoundRow.{FoundRow}
use Rattle.reopening.specs.declared.later.Measure.{Measure}
use Rattle.reopening.specs.ByName.{has_vector_of, is_piece_found, measured}
use Rattle.device_opening.specs.declared.kept.Names.{Names}

-- the names are those of these pieces, and the objects those of the vectors among them
pub record HasNames (names : Names) (later : List FoundRow) : Type 0 where
  pub pieces : (id : PieceId) → contains same_piece names.pieces id ≡ is_piece_found id later
  pub vectors : (first : Key) → contains same_key names.vectors first ≡ has_vector_of first later

-- of each piece what is measured of it
abbrev pub HasMeasures : {S : Type 0} → HashMap PieceId ℕ S → List Measure → Type 0
HasMeasures m all = (id : PieceId) → get same_piece m id ≡ measured id all
