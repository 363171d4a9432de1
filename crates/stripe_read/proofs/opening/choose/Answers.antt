use Rattle.std.proofs.Common.{sym, ◌∙◌}
use Rattle.stripe_read.proofs.Choosing.{chosen_within}
use Rattle.stripe_read.proofs.opening.choose.Goals as goal

pub get-alternate-requires : goal.get-alternate-requires
get-alternate-requires c = chosen_within c.args.request.now c.args.list.now c.in-Some.place (sym c.choose.ensures ∙ c.in-Some.is)
