use Rattle.model_laws.proofs.Asked.{fragment_is_cut}
use Rattle.model_laws.proofs.laws.fragment_is_cut.Goals as goal

pub returns : goal.returns
returns c = fragment_is_cut
