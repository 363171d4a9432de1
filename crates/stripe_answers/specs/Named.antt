-- Which pieces stand: those of puts that have begun, and of an open put only what it has cut. An opening may find pieces of
-- indices that no put cuts: of these nothing is said.
use Rattle.std.specs.Prelude.{◌≡◌, ◌<◌, ◌≤◌, true, length, Option, Some, None}
use Rattle.std.specs.List.{AllByRecursion}
use Rattle.tape_base.specs.declared.pieces.PieceId.{PieceId}
use Rattle.tape_base.specs.Piece.{is_vector}
use Rattle.cache_model.specs.State.{Open, PutRow, Row, State, most_fragments, put_of}

-- a fragment that the put has cut, or its vector, which is pending
pub record IsPieceOf (w : PutRow) (pending : Option PieceId) (id : PieceId) : Type 0 where
  pub cut : id.index ≤ length w.cuts
  pub vector : is_vector id ≡ true → pending ≡ Some id

-- of an open put only such a piece; of one that ended or that is not known, any
abbrev pub IsOwnOf : Option PutRow → Option PieceId → PieceId → Type 0
IsOwnOf None pending id = Unit {0}
IsOwnOf (Some w) pending id = w.writing ≡ Open → IsPieceOf w pending id

-- the put of a piece that may be one has begun; while it is open, the piece is one that it has cut, or its pending vector
pub record IsOwn (s : State) (row : Row) : Type 0 where
  pub begun : row.id.index ≤ most_fragments → row.id.put < s.next_put
  pub own : row.id.index ≤ most_fragments → IsOwnOf (put_of s row.id.put) s.pending row.id

-- so it is of each piece that has a row, also below the floor
abbrev pub IsNamed : State → Type 0
IsNamed s = AllByRecursion (IsOwn s) s.rows
