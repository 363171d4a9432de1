use Rattle.worked_runs.proofs.Gotten.{piece_is_a_step}
use Rattle.worked_runs.proofs.a_piece_is_a_step.Goals as goal

pub returns : goal.returns
returns c = piece_is_a_step
