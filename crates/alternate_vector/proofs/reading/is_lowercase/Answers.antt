use Rattle.std.proofs.Common.{ap, ◌∙◌}
use Rattle.std.specs.Ordering.{is_eq}
use Rattle.std.proofs.lemmas.Map.Text.{is_eq-slice_cmp}
use Rattle.http_header.specs.Token.{lowercase}
use Rattle.alternate_vector.proofs.reading.is_lowercase.Goals as goal

pub returns : goal.returns
returns c = c.is_eq.ensures ∙ ap is_eq c.order_of.ensures ∙ is_eq-slice_cmp c.args.name.now (lowercase c.args.name.now)
