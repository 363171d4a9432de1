use Rattle.script_run.specs.Run.{fresh}
use Rattle.worked_runs.specs.Script.{key_of_a, script_lines, script_turns}
use Rattle.worked_runs.proofs.Along.{are_run}
use Rattle.worked_runs.proofs.Script.{are_read, are_taken, steps_with}
use Rattle.worked_runs.proofs.the_script_is_a_run.Goals as goal

pub returns : goal.returns
returns c = are_run fresh script_lines (steps_with key_of_a) script_turns are_read (are_taken key_of_a)
