-- What writes do to the log of a sink.
use Rattle.std.specs.Prelude.{◌≡◌, ℕ, List, ◌∷◌, ◌++◌, Option, Result, MatchResult}
use Rattle.std.specs.Io.KnownBytes.{Appends}
use Rattle.device_log.specs.Faults.{next_count}
use Rattle.device_log.specs.Streams.{SinkWrite, TookBytes, RefusedWrite, taken_by, write_faults}

-- one more write failed and was counted; a front of the piece was taken
pub record FailsToWrite (old new : List SinkWrite) (piece : List ℕ) : Type 0 where
  pub front : List ℕ
  pub rest : List ℕ
  pub split : piece ≡ front ++ rest
  pub is : new ≡ RefusedWrite front (next_count (write_faults old)) ∷ old

-- one more write was made: all of the piece was taken, or it failed
abbrev pub NotesWrite : {T E : Type 0} → (old new : List SinkWrite) → Result T E → (piece : List ℕ)
    → Type 0
NotesWrite old new result piece = MatchResult result
    (λ _. new ≡ TookBytes piece ∷ old)
    (λ _. FailsToWrite old new piece)

-- the log grew
abbrev pub Grows : (old new : List SinkWrite) → Type 0
Grows old new = (more : List SinkWrite) × (new ≡ more ++ old)

-- where a writer tells its contents, they grew by the bytes that the log says were taken
pub record WritesOut (old new : List SinkWrite) (before now : Option (List ℕ)) : Type 0 where
  pub bytes : List ℕ
  pub taken : taken_by new ≡ taken_by old ++ bytes
  pub appends : Appends before now bytes
