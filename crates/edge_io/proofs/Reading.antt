-- What holds while a line reader searches for a newline.
use Rattle.std.proofs.Common.{ℕ, ◌<◌, ◌≤◌, List, length, Option}
use Rattle.device_log.specs.Streams.{SourceRead}
use Rattle.edge_io.specs.declared.reader.TheConstants.{MAX_LINES}
use Rattle.edge_io.specs.declared.reader.LineReader.{LineReader}
use Rattle.edge_io.specs.LineBuffer.{IsClear}
use Rattle.edge_io.specs.LineReader.{Waits, lines_given, held}

-- it has only read so far, and found no newline among the first bytes that it holds
pub record Searches {S : Type 0} (reads : S → List SourceRead) (left : S → Option (List ℕ)) (first now : LineReader S) (searched : ℕ) : Type 0 where
  pub waits : Waits reads left first now
  pub within : lines_given now < MAX_LINES
  pub fits : searched ≤ length (held now)
  pub clear : IsClear (held now) searched
