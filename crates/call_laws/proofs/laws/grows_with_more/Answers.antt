use Rattle.call_laws.proofs.Grown.{grows_with}
use Rattle.call_laws.proofs.laws.grows_with_more.Goals as goal

pub returns : goal.returns
returns c = λ p s w after added more before h. grows_with more before h
