-- What a contract sees of a `MemSource` and of a `MemSink`.
use Rattle.std.specs.Prelude.{ℕ, List, drop}
use Rattle.device_log.specs.Streams.{SourceRead, SinkWrite}
use Rattle.device_log.specs.StreamLogs.{reads_of, writes_of}
use Rattle.edge_io.specs.declared.memory.MemSource.{MemSource}
use Rattle.edge_io.specs.declared.memory.MemSink.{MemSink}

-- the bytes that are left, and which reads fail
pub record Feed : Type 0 where
  pub left : List ℕ
  -- a read gives at most so many bytes
  pub piece : ℕ
  -- the numbers of the reads that fail, the first being 1
  pub fail_at : List ℕ
  pub reads : List SourceRead

abbrev pub feed_of : MemSource → Feed
feed_of source = record {
  left = drop source.at source.bytes.items;
  piece = source.piece;
  fail_at = source.fail_at.items;
  reads = reads_of source.log;
}

-- the bytes that were taken, and for how many more there is room
pub record Intake : Type 0 where
  pub bytes : List ℕ
  pub room : ℕ
  pub writes : List SinkWrite

abbrev pub intake_of : MemSink → Intake
intake_of sink = record { bytes = sink.bytes.items; room = sink.room; writes = writes_of sink.log }
