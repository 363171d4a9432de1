use Rattle.std.proofs.Common.{◌≤◌, arith, refl, subst, sym}
use Rattle.std.proofs.lemmas.Result.{err_from_is_err_and}
use Rattle.stripe_core.specs.Calls.{TakesUnit}
use Rattle.stripe_core.specs.Stripe.{IsSpared, flushes_in, seen_in, units_in}
use Rattle.stripe_core.proofs.Doings.{before_last, one_record}
use Rattle.stripe_core.proofs.stripe.Stripe.take_unit.Goals as goal

pub returns-in_err-make_units : goal.returns-in_err-make_units
returns-in_err-make_units g c =
    let wanting = err_from_is_err_and c.from_residual.result c.from_residual.ensures.1 in
    subst (TakesUnit c.args.self.now c.make_units.new.self) (sym wanting.1) (record {
      continues = c.make_units.ensures.continues;
      records = c.make_units.ensures.records;
      spared = tt;
      actors = c.make_units.ensures.actors;
      readers = tt;
      memory = λ some. c.in_err-make_units.ensures.memory (omega (arith, some));
      unit = omega (arith, c.make_units.ensures.more);
      still = c.make_units.ensures.still;
    })

pub returns : goal.returns
returns g c =
    let made = c.make_units.new.self in
    let continues = c.make_units.ensures.continues in
    let some : 1 ≤ units_in made = c.in_ok-make_units.ensures.units in
    record {
      continues = record {
        stripe = record {
          pieces = continues.stripe.pieces;
          actors = continues.stripe.actors;
          spared = one_record (units_in made) (flushes_in made) _ _ (seen_in made) some continues.stripe.spared (omega arith);
          named = continues.stripe.named;
          readers = omega (arith, continues.stripe.readers);
          ahead = continues.stripe.ahead;
          none = continues.stripe.none;
          vectors = continues.stripe.vectors;
          documents = continues.stripe.documents;
          numbered = continues.stripe.numbered;
        };
        between = continues.between;
        contents = continues.contents;
        later = continues.later;
      };
      records = c.make_units.ensures.records;
      spared = subst (λ n. IsSpared n (flushes_in made) (g.C.Chronicle.room made.pieces.chronicle) (seen_in made))
          (before_last (units_in made) some) continues.stripe.spared;
      actors = c.make_units.ensures.actors;
      readers = omega (arith, some, continues.stripe.readers);
      memory = λ some. refl;
      unit = omega (arith, c.make_units.ensures.more);
      still = c.make_units.ensures.still;
    }
