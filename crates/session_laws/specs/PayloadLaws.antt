-- What the payload of a fragment is: that which its put has cut.
use Rattle.std.specs.Prelude.{◌≡◌, ◌-◌, ◌<◌, ◌≤◌, false, List, Some, None, slice_get}
use Rattle.device_log.specs.Calls.{Call}
use Rattle.tape_base.specs.declared.pieces.PieceId.{PieceId}
use Rattle.tape_base.specs.Piece.{is_vector}
use Rattle.fragment_table.specs.Table.{TableRow}
use Rattle.cache_model.specs.declared.record.Rec.{Rec}
use Rattle.cache_model.specs.State.{State, Row, PutRow, after_all, most_fragments, nothing_yet, put_of, row_of}
use Rattle.cache_model.specs.Permit.{Setting}
use Rattle.cache_model.specs.Legal.{Course, IsLegal}

-- the row has the length and the digest that the put has cut as that fragment
pub record IsCutBy (w : PutRow) (id : PieceId) (row : Row) : Type 0 where
  pub entry : TableRow
  pub cut : slice_get w.cuts (id.index - 1) ≡ Some entry
  pub payload : row.payload ≡ Some entry

-- where the put of a fragment that stands is one of the session, it has cut that; no such put is still to begin; and behind a
-- format each of them is one of the session
pub record AreCut (s : State) : Type 0 where
  pub own : (id : PieceId) (row : Row) (w : PutRow) → is_vector id ≡ false → id.index ≤ most_fragments → row_of s id ≡ Some row
      → put_of s id.put ≡ Some w → IsCutBy w id row
  pub begun : (id : PieceId) (row : Row) → is_vector id ≡ false → id.index ≤ most_fragments → row_of s id ≡ Some row
      → id.put < s.next_put
  pub known : s.opened ≡ None → (id : PieceId) (row : Row) → is_vector id ≡ false → row_of s id ≡ Some row
      → (id.index ≤ most_fragments) × ((w : PutRow) × (put_of s id.put ≡ Some w))

-- in each legal chronicle a fragment of a put of the session has the payload that this has cut
abbrev pub PayloadsAreCut : Type 0
PayloadsAreCut = (setting : Setting) (past : List Call) (courses : List Course) (recs : List Rec) → IsLegal setting past courses recs
    → AreCut (after_all nothing_yet recs)

-- the put of a fragment, which has cut its payload
pub record PutHasCut (s : State) (id : PieceId) (row : Row) : Type 0 where
  pub w : PutRow
  pub put : put_of s id.put ≡ Some w
  pub cut : IsCutBy w id row

-- behind a format each fragment that stands has such a put
abbrev pub FormattedAreCut : Type 0
FormattedAreCut = (setting : Setting) (past : List Call) (courses : List Course) (recs : List Rec) (id : PieceId) (row : Row) → IsLegal setting past courses recs
    → (after_all nothing_yet recs).opened ≡ None → is_vector id ≡ false → row_of (after_all nothing_yet recs) id ≡ Some row
    → PutHasCut (after_all nothing_yet recs) id row
