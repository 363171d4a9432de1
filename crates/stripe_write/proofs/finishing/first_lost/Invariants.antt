use Rattle.std.proofs.Common.{◌-◌}
use Rattle.stripe_core.specs.Stripe.{state_in}
use Rattle.stripe_write.specs.Finishing.{AreLive}
use Rattle.stripe_write.proofs.finishing.first_lost.Given as goal

abbrev pub invariant-fragments : goal.invariant-fragments
invariant-fragments g l = AreLive (state_in l.fn.stripe) l.fn.writer (l.index - 1)
