-- In each session of a script what is told of a vector is what it lists.
use Rattle.std.proofs.Common.{ℕ, List}
use Rattle.cache_model.specs.State.{nothing_yet}
use Rattle.model_laws.proofs.Counted.{counted_format, counted_step}
use Rattle.script_run.specs.Asked.{asked}
use Rattle.script_run.specs.Run.{fresh}
use Rattle.script_run.specs.Takes.{IsRun, run_after}
use Rattle.script_run.specs.Turn.{Turn}
use Rattle.script_run.proofs.Lift.{states_keep}
use Rattle.script_laws.specs.Counts.{IsCountedWhere}

pub runs_are_counted : (lines : List (List ℕ)) (turns : List Turn) → IsRun fresh lines turns → IsCountedWhere (run_after fresh lines turns).state
runs_are_counted lines turns is =
    states_keep IsCountedWhere (λ run s turn asks takes counted. counted_step turn.device s (asked run s asks) turn.added turn.refused counted takes.legal)
    (λ g. counted_format nothing_yet g) tt lines turns fresh is tt
