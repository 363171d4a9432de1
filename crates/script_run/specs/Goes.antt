-- What a step does to a run, whatever its verb.
use Rattle.std.specs.Prelude.{ℕ, ◌≡◌, Bool, false, true, is_none, List, [], ◌∷◌, Some, None}
use Rattle.tape_base.specs.declared.geometries.Geometry.{Geometry}
use Rattle.tape_base.specs.declared.geometries.BadGeometry.{BadGeometry}
use Rattle.tape_base.specs.Limits.{first_refusal}
use Rattle.device_log.specs.declared.choice.CutChoice.{CutChoice}
use Rattle.cache_model.specs.declared.record.Rec.TheVariants as rec
use Rattle.cache_model.specs.State.{State, after_all}
use Rattle.cache_model.specs.Legal.{format_records}
use Rattle.script_grammar.specs.declared.step.Step.{Step}
use Rattle.script_grammar.specs.declared.step.Step.TheVariants as step
use Rattle.script_grammar.specs.declared.answer.StepAnswer.{StepAnswer}
use Rattle.script_grammar.specs.declared.answer.StepAnswer.TheVariants as answer
use Rattle.script_run.specs.Run.{Run}
use Rattle.script_run.specs.Turn.{Turn, no_turn}
use Rattle.script_run.specs.Answers.{bare_said, format_said, session_said, tried_said}
use Rattle.script_run.specs.Behind.{at_moment, cut_off, in_session, with_calls_of, with_format, without_session}
use Rattle.script_run.specs.Takes.{BareTakes, RefusesCall, SessionTakes}
use Rattle.script_run.specs.Switch.{CutsPower, OnlyTells}

-- a format whose numbers are accepted ends the session before it, and begins another where its device refuses no call
abbrev pub begins_session : Step → Bool
begins_session (step.Format name segments buckets content agg reach fragment generation alternates) = is_none (first_refusal segments buckets content agg reach fragment alternates)
begins_session _ = false

-- what a step does to a run in its turn, what it is answered, and the run that it leaves
pub data StepGoes (run : Run) (turn : Turn) : Step → StepAnswer → Run → Type 0 where
  -- a refused geometry leaves all as it is
  stays : {asks : Step} (bad : BadGeometry) → begins_session asks ≡ false → turn.added ≡ []
      → StepGoes run turn asks (format_said turn (Some bad)) run
  -- the moment is set
  waits : {asks : Step} (at : ℕ) → begins_session asks ≡ false → turn ≡ no_turn
      → StepGoes run turn asks (answer.Now at) (at_moment run at)
  -- the session makes one step
  works : {asks : Step} (s : State) → begins_session asks ≡ false → run.state ≡ Some s → SessionTakes run s turn asks
      → StepGoes run turn asks (session_said run s (after_all s turn.added) turn asks) (in_session run s (after_all s turn.added) turn asks)
  -- a cut ends the session, and leaves a bare device
  cuts_off : (choice : CutChoice) (s : State) → run.state ≡ Some s → CutsPower choice turn
      → StepGoes run turn (step.Cut choice) answer.Cut (cut_off run s turn)
  -- a bare device is told something, or has no switch
  tells_bare : {asks : Step} (t : State) → begins_session asks ≡ false → run.state ≡ None → run.last ≡ Some t → BareTakes turn (Some t) asks → OnlyTells turn
      → StepGoes run turn asks (bare_said turn asks) (with_calls_of run turn)
  -- another session begins, on the device of this name
  begins : {asks : Step} (name : List ℕ) (g : Geometry) → begins_session asks ≡ true → turn.added ≡ format_records g
      → StepGoes run turn asks (tried_said turn.added None) (with_format run name turn.device.events turn.added)
  -- or none does, for the device refused a call
  fails : {asks : Step} (name : List ℕ) (count : ℕ) → begins_session asks ≡ true → turn.added ≡ rec.Fault count ∷ [] → RefusesCall turn count
      → StepGoes run turn asks (answer.DeviceFault count None) (without_session run name turn.device.events count)
