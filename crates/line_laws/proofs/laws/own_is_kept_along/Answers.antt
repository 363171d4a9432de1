use Rattle.line_laws.proofs.Standing.{own_is_kept_along}
use Rattle.line_laws.proofs.laws.own_is_kept_along.Goals as goal

pub returns : goal.returns
returns c = own_is_kept_along c.own_is_kept.ensures
