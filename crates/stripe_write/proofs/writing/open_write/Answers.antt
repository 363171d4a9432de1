use Rattle.std.proofs.Common.{refl}
use Rattle.stripe_core.proofs.Continuing.{rests_same}
use Rattle.stripe_write.proofs.CallsRefused.{open_refused}
use Rattle.stripe_write.proofs.writing.open_write.Goals as goal

pub returns-in-Some : goal.returns-in-Some
returns-in-Some g c =
    open_refused c.args.stripe.now c.args.stripe.now c.args.actor c.args.key c.args.request c.args.response c.args.pin
    c.in-Some.refusal _ refl (rests_same c.args.stripe.now c.requires.resting) refl refl
    (c.in-Some.ensures.does c.requires.resting.quiet c.args.actor c.args.key c.args.request c.args.response c.args.pin)
