-- What a contract sees of a `SourceLog` and of a `SinkLog`.
use Rattle.std.specs.Prelude.{List}
use Rattle.device_log.specs.Streams.{SourceRead, SinkWrite, reads_of_rows, writes_of_rows}
use Rattle.device_log.specs.declared.streams.SourceLog.{SourceLog}
use Rattle.device_log.specs.declared.streams.SinkLog.{SinkLog}

-- the reads, the newest first
abbrev pub reads_of : SourceLog → List SourceRead
reads_of log = reads_of_rows log.rows.rows

-- the writes, the newest first
abbrev pub writes_of : SinkLog → List SinkWrite
writes_of log = writes_of_rows log.rows.rows
