use Rattle.std.proofs.Common.{◌<◌, arith, refl, subst, sym}
use Rattle.std.specs.Prelude.{IfSome, OnOk}
use Rattle.stripe_core.specs.Stripe.{room_for}
use Rattle.stripe_core.proofs.Continuing.{continues_beside, continues_same}
use Rattle.stripe_core.proofs.stripe.Stripe.make_row.Goals as goal

pub returns-in-Some : goal.returns-in-Some
returns-in-Some g c =
    let stripe = c.requires.stripe in
    record {
      continues =
          continues_beside c.args.self.now _ stripe refl refl c.reserve_cut.ensures.step stripe.spared
          (omega (arith, stripe.readers, c.reserve_cut.ensures.readers)) stripe.ahead;
      records = refl;
      row = subst (λ o. OnOk c.reserve_cut.result (IfSome o (λ n. 0 < room_for n c.reserve_cut.new.self))) (sym c.in-Some.is)
          c.reserve_cut.ensures.room;
      units = refl;
      still = refl;
    }

pub returns-in-None : goal.returns-in-None
returns-in-None g c = record {
  continues = continues_same c.args.self.now c.requires.stripe;
  records = refl;
  row = subst (λ o. IfSome o (λ n. 0 < room_for n c.args.self.now.actors)) (sym c.in-None.is) tt;
  units = refl;
  still = refl;
}
