-- What a line does to a cache, from one moment of it to another, beside a run.
use Rattle.std.specs.Prelude.{◌≡◌, ◌⊎◌, ◌++◌}
use Rattle.logged_disk.specs.Device.{TellsAll}
use Rattle.cache_model.specs.State.{after_all}
use Rattle.call_laws.specs.Moments.{At}
use Rattle.cache_calls.specs.Keeping.{state_at}
use Rattle.script_grammar.specs.declared.step.Step.{Step}
use Rattle.script_grammar.specs.declared.answer.StepAnswer.{StepAnswer}
use Rattle.script_run.specs.Run.{Run}
use Rattle.script_run.specs.Turn.{Turn, calls_in}
use Rattle.script_run.specs.Answers.{session_said}
use Rattle.script_run.specs.Takes.{ShowsBehind, TakesBehind}

-- it did what it must, by the calls that the device made meanwhile, and this is its answer
pub record Moves (run : Run) (step : Step) (old new : At) (said : StepAnswer) : Type 0 where
  pub turn : Turn
  pub takes : TakesBehind old.device.past run (state_at old) turn step
  pub calls : new.device.past ≡ calls_in turn ++ old.device.past
  pub state : state_at new ≡ after_all (state_at old) turn.added
  pub says : session_said run (state_at old) (state_at new) turn step ≡ said

-- it shows two documents of one SHA-256, by those calls, on a device that did not tell its content
pub record ShowsIn (run : Run) (step : Step) (old new : At) : Type 0 where
  pub turn : Turn
  pub calls : new.device.past ≡ calls_in turn ++ old.device.past
  pub shows : ShowsBehind old.device.past run (state_at old) turn step
  pub untold : TellsAll new.device → ⊥

-- the one or the other
abbrev pub MovesOrShows : Run → Step → (old new : At) → StepAnswer → Type 0
MovesOrShows run step old new said = Moves run step old new said ⊎ ShowsIn run step old new
