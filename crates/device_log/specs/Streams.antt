-- The reads of a source and the writes of a sink, the newest first.
use Rattle.std.specs.Prelude.{ℕ, ◌-◌, ◌^◌, ◌==◌, min, Bool, true, false, if◌then◌else◌, List, [], ◌∷◌, ◌++◌, length, slice_index}
use Rattle.device_log.specs.Row.{CallRow}

-- one read of a source
pub data SourceRead : Type 0 where
  GaveBytes : (bytes : List ℕ) → SourceRead
  -- gave nothing, at the end
  CameToEnd : SourceRead
  -- failed; the count of faults behind it
  RefusedRead : (count : ℕ) → SourceRead

-- one write of a sink
pub data SinkWrite : Type 0 where
  TookBytes : (bytes : List ℕ) → SinkWrite
  -- failed; the front that was taken all the same, and the count of faults behind it
  RefusedWrite : (front : List ℕ) (count : ℕ) → SinkWrite

-- the bytes that the reads gave, in order
unfoldable pub given_by : List SourceRead → List ℕ
given_by [] = []
given_by (GaveBytes bytes ∷ older) = given_by older ++ bytes
given_by (CameToEnd ∷ older) = given_by older
given_by (RefusedRead count ∷ older) = given_by older

-- a read came to the end
unfoldable pub has_ended : List SourceRead → Bool
has_ended [] = false
has_ended (GaveBytes bytes ∷ older) = has_ended older
has_ended (CameToEnd ∷ older) = true
has_ended (RefusedRead count ∷ older) = has_ended older

-- the counts of the reads that failed, in order
unfoldable pub refused_reads : List SourceRead → List ℕ
refused_reads [] = []
refused_reads (GaveBytes bytes ∷ older) = refused_reads older
refused_reads (CameToEnd ∷ older) = refused_reads older
refused_reads (RefusedRead count ∷ older) = refused_reads older ++ count ∷ []

-- the bytes that the sink took, in order
unfoldable pub taken_by : List SinkWrite → List ℕ
taken_by [] = []
taken_by (TookBytes bytes ∷ older) = taken_by older ++ bytes
taken_by (RefusedWrite front count ∷ older) = taken_by older ++ front

-- the counts of the writes that failed, in order
unfoldable pub refused_writes : List SinkWrite → List ℕ
refused_writes [] = []
refused_writes (TookBytes bytes ∷ older) = refused_writes older
refused_writes (RefusedWrite front count ∷ older) = refused_writes older ++ count ∷ []

-- how many reads failed; the count stands still at the end of its type
abbrev pub read_faults : List SourceRead → ℕ
read_faults reads = min (length (refused_reads reads)) (2 ^ 64 - 1)

-- how many writes failed
abbrev pub write_faults : List SinkWrite → ℕ
write_faults writes = min (length (refused_writes writes)) (2 ^ 64 - 1)

-- the read of a row, by its first number
abbrev pub read_of : List ℕ → List ℕ → SourceRead
read_of numbers bytes =
    if slice_index numbers 0 == 0 then GaveBytes bytes
    else (if slice_index numbers 0 == 1 then CameToEnd else RefusedRead (slice_index numbers 1))

-- the write of a row, by its first number
abbrev pub write_of : List ℕ → List ℕ → SinkWrite
write_of numbers bytes =
    if slice_index numbers 0 == 0 then TookBytes bytes
    else RefusedWrite bytes (slice_index numbers 1)

-- the reads of rows, both the newest first
unfoldable pub reads_of_rows : List CallRow → List SourceRead
reads_of_rows [] = []
reads_of_rows (row ∷ rows) = read_of row.0 row.1 ∷ reads_of_rows rows

-- the writes of rows, both the newest first
unfoldable pub writes_of_rows : List CallRow → List SinkWrite
writes_of_rows [] = []
writes_of_rows (row ∷ rows) = write_of row.0 row.1 ∷ writes_of_rows rows
