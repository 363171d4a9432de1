-- Which steps workers may take.
use Rattle.std.specs.Prelude.{Bool, true, false}
use Rattle.script_grammar.specs.declared.step.Step.{Step}
use Rattle.script_grammar.specs.declared.step.Step.TheVariants as step

-- a step works on a session alone: any but a format, a moment, and a line for the switch of its device
abbrev pub is_on_session : Step → Bool
is_on_session (step.Format name segments buckets content agg reach fragment generation alternates) = false
is_on_session (step.Now moment) = false
is_on_session (step.Fail nth) = false
is_on_session (step.StopAfter calls) = false
is_on_session (step.Flip place byte) = false
is_on_session (step.Cut choice) = false
is_on_session _ = true
