-- What racing reads did, the newest first: the reads of an eye and the loads of a floor in one order.
use Rattle.std.specs.Prelude.{ℕ, ◌==◌, if◌then◌else◌, List, [], ◌∷◌, slice_index}
use Rattle.device_log.specs.Row.{CallRow}

-- one call of a racing read
pub data RaceCall : Type 0 where
  -- the eye gave these bytes, from a block on
  PeekGave : (block : ℕ) (bytes : List ℕ) → RaceCall
  -- the eye could not read so many bytes, and its count of faults behind it
  PeekFailed : (block bytes count : ℕ) → RaceCall
  -- the published floor was loaded
  FloorLoaded : (floor : ℕ) → RaceCall

-- the call of a row, by its first number
abbrev pub race_call_of : List ℕ → List ℕ → RaceCall
race_call_of numbers bytes =
    if slice_index numbers 0 == 0 then PeekGave (slice_index numbers 1) bytes
    else (if slice_index numbers 0 == 1 then PeekFailed (slice_index numbers 1) (slice_index numbers 2) (slice_index numbers 3)
    else FloorLoaded (slice_index numbers 1))

-- the calls of rows, both the newest first
unfoldable pub race_calls_of_rows : List CallRow → List RaceCall
race_calls_of_rows [] = []
race_calls_of_rows (row ∷ rows) = race_call_of row.0 row.1 ∷ race_calls_of_rows rows
