-- What stands of the last vector of a key: in the sessions of a script it has its row, or its loss was recorded.
use Rattle.std.specs.Prelude.{◌≡◌, ◌⊎◌, ℕ, ⊤, List, Option, Some, None}
use Rattle.tape_base.specs.declared.keys.Key.{Key}
use Rattle.tape_base.specs.declared.pieces.PieceId.{PieceId}
use Rattle.cache_model.specs.declared.cause.Cause.{Cause}
use Rattle.cache_model.specs.State.{State, Row, Complete, last_vector, row_of, vector_piece}
use Rattle.cache_model.specs.Verdict.{cause_of_loss}
use Rattle.script_run.specs.Run.{fresh}
use Rattle.script_run.specs.Turn.{Turn}
use Rattle.script_run.specs.Takes.{IsRun, run_after}

-- the piece has a row, live or not, or it was recorded why it was lost
abbrev pub IsOnRecord : State → PieceId → Type 0
IsOnRecord s id = ((row : Row) × (row_of s id ≡ Some row)) ⊎ ((why : Cause) × (cause_of_loss s id ≡ Some why))

-- so it is of the last vector of each key, where that was not removed
abbrev pub AreOnRecord : State → Type 0
AreOnRecord s = (key : Key) (put : ℕ) → last_vector s key ≡ Some (Complete put) → IsOnRecord s (vector_piece key put)

-- the same, where there is a session
abbrev pub AreOnRecordWhere : Option State → Type 0
AreOnRecordWhere None = ⊤
AreOnRecordWhere (Some s) = AreOnRecord s

-- so it is behind each line of a script
abbrev pub VectorsAreOnRecord : Type 0
VectorsAreOnRecord = (lines : List (List ℕ)) (turns : List Turn) → IsRun fresh lines turns → AreOnRecordWhere (run_after fresh lines turns).state
