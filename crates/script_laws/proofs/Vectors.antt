-- In each session of a script the last vector of each key stands, or its loss is recorded.
use Rattle.std.proofs.Common.{ℕ, List}
use Rattle.std.specs.Prelude.{Option, Some, None}
use Rattle.cache_model.specs.State.{State}
use Rattle.script_run.specs.Asked.{asked}
use Rattle.script_run.specs.Run.{fresh}
use Rattle.script_run.specs.Takes.{IsRun, run_after}
use Rattle.script_run.specs.Turn.{Turn}
use Rattle.script_run.proofs.Lift.{states_keep}
use Rattle.script_laws.specs.Vectors.{AreOnRecordWhere}
use Rattle.script_laws.proofs.Recorded.{StandsQuiet, format_stands, step_stands}

abbrev StandsWhere : Option State → Type 0
StandsWhere None = Unit {0}
StandsWhere (Some s) = StandsQuiet s

on_record_where : (o : Option State) → StandsWhere o → AreOnRecordWhere o
on_record_where None h = tt
on_record_where (Some s) h = h.on

pub vectors_are_on_record : (lines : List (List ℕ)) (turns : List Turn) → IsRun fresh lines turns → AreOnRecordWhere (run_after fresh lines turns).state
vectors_are_on_record lines turns is =
    on_record_where (run_after fresh lines turns).state
    (states_keep StandsWhere (λ run s turn asks takes h. step_stands turn.device s (asked run s asks) turn.added turn.refused takes.legal h) format_stands tt lines turns fresh is tt)
