use Rattle.std.proofs.Common.{◌∙◌}
use Rattle.script_run.specs.Run.{fresh}
use Rattle.worked_runs.specs.Script.{key_of_a, script_lines, script_turns}
use Rattle.worked_runs.proofs.Along.{answers_are}
use Rattle.worked_runs.proofs.Script.{are_read, are_said, steps_with}
use Rattle.worked_runs.proofs.the_script_is_answered.Goals as goal

pub returns : goal.returns
returns c = answers_are fresh script_lines (steps_with key_of_a) script_turns are_read ∙ are_said key_of_a
