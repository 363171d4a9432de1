-- How many alternates a miss names that none of them answers: in the sessions of a script as many as the key's vector lists.
use Rattle.std.specs.Prelude.{ℕ, ⊤, List, Option, Some, None}
use Rattle.cache_model.specs.State.{State}
use Rattle.step_laws.specs.VectorLaws.{VectorsAreCounted}
use Rattle.script_run.specs.Run.{fresh}
use Rattle.script_run.specs.Turn.{Turn}
use Rattle.script_run.specs.Takes.{IsRun, run_after}

-- what is told of the vectors of a session is what they list, where there is one
abbrev pub IsCountedWhere : Option State → Type 0
IsCountedWhere None = ⊤
IsCountedWhere (Some s) = VectorsAreCounted s

-- so it is behind each line of a script
abbrev pub RunsAreCounted : Type 0
RunsAreCounted = (lines : List (List ℕ)) (turns : List Turn) → IsRun fresh lines turns → IsCountedWhere (run_after fresh lines turns).state
