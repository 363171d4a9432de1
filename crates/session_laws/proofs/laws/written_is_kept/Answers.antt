use Rattle.session_laws.proofs.Forgetting.{written_is_kept}
use Rattle.session_laws.proofs.laws.written_is_kept.Goals as goal

pub returns : goal.returns
returns c = written_is_kept
