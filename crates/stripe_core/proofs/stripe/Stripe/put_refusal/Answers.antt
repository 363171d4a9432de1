use Rattle.stripe_core.specs.Stripe.{state_in}
use Rattle.stripe_core.proofs.Doings.{refusals_open}
use Rattle.stripe_core.proofs.stripe.Stripe.put_refusal.Goals as goal

pub returns-clause-does : goal.returns-clause-does
returns-clause-does g c = λ quiet. refusals_open (state_in c.args.self.now) c.put_refusal.result quiet (c.put_refusal.ensures (state_in c.args.self.now) c.requires.actors)
