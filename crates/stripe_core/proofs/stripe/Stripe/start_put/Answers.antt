use Rattle.std.proofs.Common.{refl}
use Rattle.stripe_core.specs.Stripe.{state_in}
use Rattle.stripe_core.proofs.Doings.{refused_opens}
use Rattle.stripe_core.proofs.Continuing.{continues_same}
use Rattle.stripe_core.proofs.stripe.Stripe.start_put.Goals as goal

pub returns-in-Some : goal.returns-in-Some
returns-in-Some g c =
    let s = state_in c.args.self.now in
    record {
      continues = continues_same c.args.self.now c.requires.resting.stripe;
      adds = tt;
      err = refl;
      does =
          refused_opens s c.args.actor c.args.key c.args.request c.args.response c.args.pin c.in-Some.refusal c.requires.resting.quiet
          (c.in-Some.ensures s c.requires.resting.stripe.actors);
      still = refl;
      unit = refl;
    }

pub returns-in-None : goal.returns-in-None
returns-in-None g c = c.open_put.ensures
