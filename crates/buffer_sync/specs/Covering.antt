-- The steps of a stripe that syncs in which calls of a device may stand, and that its buffer stands then as the log wrote it.
use Rattle.std.specs.Prelude.{ℕ, ◌≡◌, ◌≤◌, true, List, ◌++◌}
use Rattle.std.specs.List.{AllByRecursion}
use Rattle.device_log.specs.Calls.{Call}
use Rattle.tape_base.specs.Place.{block_of}
use Rattle.write_cursor.specs.Plan.{FitsInLap}
use Rattle.doc_header.specs.Reading.{document_digest}
use Rattle.agg_buffer.specs.Buffer.{Buffer, IsFilled, bytes_at, filled_of}
use Rattle.cache_model.specs.State.{Row, State}
use Rattle.cache_model.specs.Permit.{Permit}
use Rattle.cache_model.specs.Given.{StandsWritten}
use Rattle.buffer_sync.specs.OnDevice.{WroteLast}

-- the step knows each call that the device made between these two moments, in order, those before them, and those before
-- itself; and the stripe syncs
pub record CoversSyncing (p : Permit) (before after : List Call) : Type 0 where
  pub syncs : p.syncs ≡ true
  pub earlier : List Call
  pub later : List Call
  pub began : earlier ++ p.past ≡ before
  pub knows : (made : List Call) → after ≡ made ++ before → p.events ≡ later ++ (made ++ earlier)

-- a piece that is recorded in the buffer stands there with its digest
abbrev pub StandsInBuffer : Buffer → Row → Type 0
StandsInBuffer b row = b.cursor ≤ row.place → IsFilled b row.place row.blocks × (document_digest (bytes_at b row.place row.blocks) ≡ row.digest)

-- the records have this buffer, which lies in one lap, with these pieces
pub record HasPieces (s : State) (b : Buffer) : Type 0 where
  pub cursor : b.cursor ≡ s.cursor
  pub lap : FitsInLap s.geometry b.cursor
  pub few : filled_of b ≤ s.geometry.agg
  pub each : AllByRecursion (StandsInBuffer b) s.rows

-- where the device wrote the whole buffer last by some moment between the two, each piece of it stands as it was written
abbrev pub CoveredStands : Type 0
CoveredStands = (p : Permit) (s : State) (b : Buffer) (before mid after front rest : List Call) → CoversSyncing p before after → mid ≡ front ++ before
    → after ≡ rest ++ mid → HasPieces s b → WroteLast mid (block_of s.geometry b.cursor) (filled_of b) b.bytes → StandsWritten p s
