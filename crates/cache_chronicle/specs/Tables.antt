-- What each table of a `FullChronicle` has: of each piece, place and key what a list of the state says.
use Rattle.std.specs.Prelude.{ℕ, ◌≡◌, ◌==◌, nat_eq, List, Option, option_map}
use Rattle.std.specs.HashMap.{HashMap, get}
use Rattle.std.specs.HashSet.{HashSet, contains}
use Rattle.std.specs.List.{list_any}
use Rattle.std.specs.Map.{lookup}
use Rattle.tape_base.specs.declared.keys.Key.{Key}
use Rattle.tape_base.specs.declared.pieces.PieceId.{PieceId}
use Rattle.tape_base.specs.Key.{same_key}
use Rattle.tape_base.specs.Piece.{same_piece}
use Rattle.fragment_table.specs.Table.{TableRow}
use Rattle.cache_model.specs.declared.cause.Cause.{Cause}
use Rattle.cache_model.specs.State.{Row, row_in}
use Rattle.cache_model.specs.State as state
use Rattle.cache_chronicle.specs.declared.payloads.Payload.{Payload}
use Rattle.cache_chronicle.specs.declared.pieces.KeptPiece.{KeptPiece}
use Rattle.cache_chronicle.specs.declared.vectors.NotedVector.{NotedVector}
use Rattle.cache_chronicle.specs.declared.vectors.NotedVector.TheVariants.{Complete, TakenOut}
use Rattle.cache_chronicle.specs.LivePieces.{kept_payload, kept_piece}

-- what was cut last is that of the state
abbrev pub HasCut : Option Payload → Option TableRow → Type 0
HasCut kept cut = kept ≡ option_map kept_payload cut

-- a row of this name of which this is kept
pub record IsRowOfPiece (piece : PieceId) (standing : KeptPiece) (row : Row) : Type 0 where
  pub name : row.id ≡ piece
  pub stands : standing ≡ kept_piece row

-- the last vector as the state has it
abbrev pub told_vector : NotedVector → state.LastVector
told_vector (Complete put) = state.Complete put
told_vector (TakenOut put) = state.TakenOut put

-- of each piece its row, where it has one
abbrev pub HasRows : {S : Type 0} → HashMap PieceId KeptPiece S → List Row → Type 0
HasRows m rows = (id : PieceId) → get same_piece m id ≡ option_map kept_piece (row_in rows id)

-- of each piece why it was lost last
abbrev pub HasLosses : {S : Type 0} → HashMap PieceId Cause S → List (PieceId × Cause) → Type 0
HasLosses m lost = (id : PieceId) → get same_piece m id ≡ lookup (λ piece. same_piece piece id) lost

-- of each place the piece that was placed there last
abbrev pub HasPlaces : {S : Type 0} → HashMap ℕ PieceId S → List (ℕ × PieceId) → Type 0
HasPlaces m places = (place : ℕ) → get nat_eq m place ≡ lookup (λ p. p == place) places

-- of each place whether a piece there was to be copied ahead and was not
abbrev pub HasUnsaved : {S : Type 0} → HashSet ℕ S → List ℕ → Type 0
HasUnsaved m unsaved = (place : ℕ) → contains nat_eq m place ≡ list_any (λ p. p == place) unsaved

-- of each key its last vector
abbrev pub HasVectors : {S : Type 0} → HashMap Key NotedVector S → List (Key × state.LastVector) → Type 0
HasVectors m vectors = (key : Key) → option_map told_vector (get same_key m key) ≡ lookup (λ k. same_key k key) vectors

-- of each key the put that was given up last
abbrev pub HasAborts : {S : Type 0} → HashMap Key ℕ S → List (Key × ℕ) → Type 0
HasAborts m aborts = (key : Key) → get same_key m key ≡ lookup (λ k. same_key k key) aborts

-- of each vector how many alternates it lists
abbrev pub HasCounts : {S : Type 0} → HashMap PieceId ℕ S → List (PieceId × ℕ) → Type 0
HasCounts m counts = (id : PieceId) → get same_piece m id ≡ lookup (λ i. same_piece i id) counts
