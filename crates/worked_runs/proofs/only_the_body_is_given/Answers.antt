use Rattle.std.proofs.Common.{[], ◌∷◌, ◌++◌}
use Rattle.std.specs.Prelude.{take}
use Rattle.script_run.specs.Run.{fresh}
use Rattle.worked_runs.specs.Script.{get_records, key_of_a, script_lines, script_turns, silent_turn}
use Rattle.worked_runs.proofs.Along.{reads_front, steps_take}
use Rattle.worked_runs.proofs.Script.{are_read, steps_with}
use Rattle.worked_runs.proofs.only_the_body_is_given.Goals as goal

pub returns : goal.returns
returns c = λ bytes is.
    let steps = take 7 (steps_with key_of_a) in
    let turns = take 6 script_turns ++ silent_turn (get_records key_of_a) bytes ∷ [] in
    let takes = steps_take fresh (take 7 script_lines) steps turns (reads_front 7 script_lines (steps_with key_of_a) are_read) is in
    takes.1.1.1.1.1.1.0.own
