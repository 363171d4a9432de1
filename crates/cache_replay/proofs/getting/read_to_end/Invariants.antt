use Rattle.std.proofs.Common.{◌≡◌, List, [], length}
use Rattle.cache_model.specs.Permit.{Intent}
use Rattle.cache_calls.specs.Keeping.{state_at}
use Rattle.cache_replay.specs.Getting.{IsHit, IsUnderway, StaysSound, rows_to_give}
use Rattle.cache_replay.specs.ReaderLines.{IsReadyToRead, LeavesReader}
use Rattle.cache_replay.proofs.getting.read_to_end.Given as goal

abbrev pub invariant-loop-body : goal.invariant-loop-body
invariant-loop-body g l = record {
  ready : IsReadyToRead g.S.Calls l.cache l.page;
  hit : IsHit (state_at (g.S.Calls.at l.cache)) (g.S.Calls.reading l.reader) (g.S.Calls.reading l.reader).put;
  put : (g.S.Calls.reading l.reader).put ≡ l.fn.put;
  number : (g.S.Calls.reading l.reader).reader ≡ (g.S.Calls.reading l.fn.reader).reader;
  page : length l.page ≡ length l.fn.page;
  leaves : LeavesReader g.S.Calls l.fn.cache l.cache (g.S.Calls.reading l.fn.reader).reader;
  under : (first : g.row.S.Denot) (asks : List Intent) → IsUnderway g.S.Calls first l.fn.cache asks (g.S.Calls.reading l.fn.reader) []
      → IsUnderway g.S.Calls first l.cache asks (g.S.Calls.reading l.reader) l.body.items;
  sound : (first : g.row.S.Denot) (asks : List Intent) → IsUnderway g.S.Calls first l.fn.cache asks (g.S.Calls.reading l.fn.reader) []
      → StaysSound g.S.Calls first l.fn.cache l.cache asks;
}

abbrev pub decreases-loop-body : goal.decreases-loop-body
decreases-loop-body g l = rows_to_give (g.S.Calls.reading l.reader)
