use Rattle.step_laws.proofs.Answered.{end_is_whole}
use Rattle.model_laws.proofs.laws.end_is_whole.Goals as goal

pub returns : goal.returns
returns c = end_is_whole
