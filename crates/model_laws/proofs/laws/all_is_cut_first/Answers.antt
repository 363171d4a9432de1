use Rattle.model_laws.proofs.Asked.{all_is_cut_first}
use Rattle.model_laws.proofs.laws.all_is_cut_first.Goals as goal

pub returns : goal.returns
returns c = all_is_cut_first
