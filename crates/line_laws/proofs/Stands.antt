-- What is said of a run and its session's state, where there is a session, is kept by each kind of step.
use Rattle.std.proofs.Common.{ℕ, List, sym, subst}
use Rattle.std.specs.Prelude.{Option, Some, None}
use Rattle.tape_base.specs.declared.geometries.Geometry.{Geometry}
use Rattle.device_log.specs.Calls.{Call}
use Rattle.cache_model.specs.State.{State, after_all, nothing_yet}
use Rattle.cache_model.specs.Legal.{format_records}
use Rattle.script_grammar.specs.declared.step.Step.{Step}
use Rattle.script_run.specs.Run.{Run}
use Rattle.script_run.specs.Turn.{Turn}
use Rattle.script_run.specs.Behind.{at_moment, in_session, with_calls_of, with_format}
use Rattle.script_run.specs.Takes.{SessionTakes}
use Rattle.script_run.proofs.Lift.{EachKeeps}
use Rattle.line_laws.specs.Along.{StandsWhere}

module _ (Stands : Run → State → Type 0) (moments : (run : Run) (at : ℕ) (s : State) → Stands run s → Stands (at_moment run at) s) where
  pub stands_at : (run : Run) (at : ℕ) (o : Option State) → StandsWhere Stands run o → StandsWhere Stands (at_moment run at) o
  stands_at run at None h = tt
  stands_at run at (Some s) h = moments run at s h

  pub stands_kept : ((run : Run) (s : State) (turn : Turn) (asks : Step) → SessionTakes run s turn asks → Stands run s → Stands (in_session run s (after_all s turn.added) turn asks) (after_all s turn.added))
      → ((run : Run) (name : List ℕ) (calls : List Call) (g : Geometry) → Stands (with_format run name calls (format_records g)) (after_all nothing_yet (format_records g)))
      → EachKeeps (λ run. StandsWhere Stands run run.state)
  stands_kept steps formats = record {
    moments = λ run at h. stands_at run at run.state h;
    steps = λ run s turn asks e takes h. steps run s turn asks takes (subst (StandsWhere Stands run) e h);
    formats = λ run name calls g h. formats run name calls g;
    fails = λ run name calls count h. tt;
    ends = λ run s turn choice e cut h. tt;
    tells = λ run turn e only h. subst (StandsWhere Stands (with_calls_of run turn)) (sym e) tt;
  }
