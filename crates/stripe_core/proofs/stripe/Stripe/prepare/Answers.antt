use Rattle.std.proofs.Common.{◌∙◌, ap, arith, subst, sym}
use Rattle.std.proofs.lemmas.Result.{err_from_is_err_and}
use Rattle.cyclone.specs.Cyclone.{Seen}
use Rattle.held_pieces.specs.Still.{IsStill}
use Rattle.stripe_core.specs.Calls.{PreparesStripe}
use Rattle.stripe_core.specs.Stripe.{room_for, seen_in}
use Rattle.stripe_core.proofs.Continuing.{continues_then}
use Rattle.stripe_core.proofs.Rowed.{row_stays}
use Rattle.stripe_core.proofs.Stills.{still_as}
use Rattle.stripe_core.proofs.stripe.Stripe.prepare.Goals as goal

pub returns-in_err-make_row : goal.returns-in_err-make_row
returns-in_err-make_row g c =
    let wanting = err_from_is_err_and c.from_residual.result c.from_residual.ensures.1 in
    subst (PreparesStripe c.args.put c.args.units c.args.self.now c.make_row.new.self) (sym wanting.1) (record {
      continues = c.make_row.ensures.continues;
      records = c.make_row.ensures.records;
      units = tt;
      row = tt;
      more = omega (arith, c.make_row.ensures.units);
      still = still_as _ _ (ap (λ (y : Seen). y.device) c.make_row.ensures.still);
    })

pub returns : goal.returns
returns g c = record {
  continues = continues_then _ _ _ c.make_row.ensures.continues c.make_units.ensures.continues;
  records = c.make_units.ensures.records ∙ c.make_row.ensures.records;
  units = c.make_units.ensures.units;
  row = row_stays c.make_units.result c.args.put c.make_row.new.self.actors c.make_units.new.self.actors
      (λ n. ap (room_for n) c.make_units.ensures.actors) c.in_ok-make_row.ensures.row;
  more = omega (arith, c.make_row.ensures.units, c.make_units.ensures.more);
  still = subst (λ (y : Seen). IsStill y.device (seen_in c.make_units.new.self).device) c.make_row.ensures.still c.make_units.ensures.still;
}
