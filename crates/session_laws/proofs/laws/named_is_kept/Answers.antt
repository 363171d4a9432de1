use Rattle.session_laws.proofs.Forgetting.{named_is_kept}
use Rattle.session_laws.proofs.laws.named_is_kept.Goals as goal

pub returns : goal.returns
returns c = named_is_kept
