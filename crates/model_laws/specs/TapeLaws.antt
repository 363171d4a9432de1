-- Each legal chronicle keeps its tape sound, and its places below the limit.
use Rattle.std.specs.Prelude.{◌≡◌, ◌+◌, ◌<◌, ◌≤◌, List, Option, Some, Bool}
use Rattle.std.specs.List.{AllByRecursion}
use Rattle.device_log.specs.Calls.{Call}
use Rattle.tape_base.specs.declared.pieces.PieceId.{PieceId}
use Rattle.cache_model.specs.declared.findings.FoundRow.{FoundRow}
use Rattle.cache_model.specs.declared.record.Rec.{Rec}
use Rattle.cache_model.specs.declared.record.Rec.TheVariants as rec
use Rattle.tape_base.specs.declared.geometries.Geometry.{Geometry}
use Rattle.cache_model.specs.Opening.{Opening}
use Rattle.cache_model.specs.Openings.{IsOpening, opened_records}
use Rattle.cache_model.specs.Room.{limit}
use Rattle.cache_model.specs.State.{State, Row, after_all, blocks_of_row, floor_now, live_row_of, nothing_yet, place_now, row_of, AllAlong}
use Rattle.cache_model.specs.Verdict.{piece_at}
use Rattle.cache_model.specs.Permit.{Setting, Permit, Intent, Reason}
use Rattle.cache_model.specs.Legal.{Course, IsLegal, IsStep}
use Rattle.cache_model.specs.Tape.{IsSound}

-- each legal chronicle is sound
abbrev pub LegalIsSound : Type 0
LegalIsSound = (setting : Setting) (past : List Call) (courses : List Course) (recs : List Rec) → IsLegal setting past courses recs → IsSound (after_all nothing_yet recs)

-- so is what an opening takes up, whatever the session before it was
abbrev pub OpeningsAreSound : Type 0
OpeningsAreSound = (packed : Bool) (s : State) (geometry : Geometry) (o : Opening) → IsOpening packed geometry o → IsSound (after_all s (opened_records geometry o))

-- so is what a step makes of it, and no step lowers the floor
abbrev pub StepsAreSound : Type 0
StepsAreSound = (p : Permit) (s : State) (intents : List Intent) (added : List Rec) (why : Option Reason)
    → IsSound s → IsStep p s intents added why → IsSound (after_all s added) × (floor_now s ≤ floor_now (after_all s added))

-- a live piece is the one that is known at its place
abbrev pub LiveIsKnown : Type 0
LiveIsKnown = (s : State) (id : PieceId) (row : Row) → IsSound s → live_row_of s id ≡ Some row → piece_at s row.place ≡ Some id

-- ---- the limit of places

-- a piece that an opening found ends below the limit
abbrev pub FoundBelow : FoundRow → Type 0
FoundBelow f = f.place + f.blocks < limit

-- so does one that stands, live or not
abbrev pub RowBelow : Row → Type 0
RowBelow row = row.place + row.blocks < limit

-- so does each piece that the record places, copies or finds; and a buffer that it begins begins below it
abbrev pub EndsBelow : State → Rec → Type 0
EndsBelow s (rec.Opened geometry serial cursor floor next_put clean list) = AllByRecursion FoundBelow list
EndsBelow s (rec.Began cursor floor) = cursor < limit
EndsBelow s (rec.Placed piece place blocks digest pin) = place + blocks < limit
EndsBelow s (rec.Moved piece from place digest) = place + blocks_of_row (row_of s piece) < limit
EndsBelow s _ = Unit {0}

-- so it is of each record of a legal chronicle
abbrev pub PlacesStayBelow : Type 0
PlacesStayBelow = (setting : Setting) (past : List Call) (courses : List Course) (recs : List Rec) → IsLegal setting past courses recs
    → AllAlong EndsBelow nothing_yet recs

-- the buffer ends below the limit, and so do all pieces that stand
pub record IsBelow (s : State) : Type 0 where
  pub buffer : place_now s < limit
  pub rows : AllByRecursion RowBelow s.rows

-- so it is behind each legal chronicle
abbrev pub LegalIsBelow : Type 0
LegalIsBelow = (setting : Setting) (past : List Call) (courses : List Course) (recs : List Rec) → IsLegal setting past courses recs
    → IsBelow (after_all nothing_yet recs)
