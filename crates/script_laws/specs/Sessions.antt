-- The records of each session of a script are a legal chronicle, so that all that holds of those holds of sessions.
use Rattle.std.specs.Prelude.{ℕ, ◌≡◌, ⊤, List, Option, Some, None}
use Rattle.device_log.specs.Calls.{Call}
use Rattle.cache_model.specs.declared.record.Rec.{Rec}
use Rattle.cache_model.specs.State.{State, after_all, nothing_yet}
use Rattle.cache_model.specs.Legal.{Course, IsLegal}
use Rattle.cache_calls.specs.Keeping.{plain_setting}
use Rattle.script_run.specs.Run.{fresh}
use Rattle.script_run.specs.Turn.{Turn}
use Rattle.script_run.specs.Takes.{IsRun, run_after}

-- the state is what the records of a legal chronicle of that setting come to, whose device has made these calls
pub record IsOfLegal (calls : List Call) (s : State) : Type 0 where
  pub courses : List Course
  pub recs : List Rec
  pub legal : IsLegal plain_setting calls courses recs
  pub comes_to : s ≡ after_all nothing_yet recs

-- where there is a session
abbrev pub IsLegalWhere : List Call → Option State → Type 0
IsLegalWhere calls None = ⊤
IsLegalWhere calls (Some s) = IsOfLegal calls s

-- so is the session behind the lines of each legal script, by the calls that its device made since it was attached
abbrev pub SessionsAreLegal : Type 0
SessionsAreLegal = (lines : List (List ℕ)) (turns : List Turn) → IsRun fresh lines turns
    → IsLegalWhere (run_after fresh lines turns).calls (run_after fresh lines turns).state
