use Rattle.std.proofs.Common.{arith, refl}
use Rattle.std.proofs.lemmas.Grind.{common_steps}
use Rattle.std.proofs.lemmas.Result.{IfOk-from_err}
use Rattle.stripe_pieces.specs.Pieces.{kept_now, seen_now}
use Rattle.held_pieces.proofs.Going.{still_of}
use Rattle.stripe_core.proofs.Between.{between-none}
use Rattle.stripe_core.proofs.Continuing.{continues_beside, continues_same}
use Rattle.stripe_core.proofs.Ready.{grown_device}
use Rattle.stripe_core.proofs.Stills.{still_put}
use Rattle.stripe_core.proofs.stripe.Stripe.make_units.Goals as goal

pub returns-in_err-reserve_readers : goal.returns-in_err-reserve_readers
returns-in_err-reserve_readers g c = record {
  continues =
      continues_beside c.args.self.now _ c.requires refl refl c.reserve_readers.ensures.step c.requires.spared
      (omega (arith, c.requires.readers, c.reserve_readers.ensures.kept)) c.requires.ahead;
  records = refl;
  units = IfOk-from_err c.from_residual.result _ c.from_residual.ensures.0;
  actors = c.reserve_readers.ensures.rest;
  memory = λ few. absurd (omega (arith, few, c.if-units-self.true));
  more = omega arith;
  still = still_put (seen_now c.args.self.now.pieces).device;
}

pub returns-in_err-prepare : goal.returns-in_err-prepare
returns-in_err-prepare g c =
    let still =
    still_of c.prepare.result _ _ (seen_now c.args.self.now.pieces).device (seen_now c.prepare.new.self).device
    c.prepare.ensures.keeps.keeps (grown_device c.prepare.result _ _ c.args.self.now.pieces c.prepare.new.self c.prepare.ensures.grown)
    c.prepare.ensures.none in
    record {
      continues = record {
        stripe = grind (arith, common_steps);
        between = between-none _ _ (kept_now c.args.self.now.pieces) (kept_now c.prepare.new.self) c.prepare.ensures.keeps.records
            still.goes still.past;
        contents = c.prepare.ensures.keeps.pieces.contents;
        later = omega (arith, still.faults);
      };
      records = c.prepare.ensures.keeps.records;
      units = IfOk-from_err c.from_residual-in_err-prepare.result _ c.from_residual-in_err-prepare.ensures.0;
      actors = c.reserve_readers.ensures.rest;
      memory = λ few. absurd (omega (arith, few, c.if-units-self.true));
      more = omega arith;
      still = still;
    }

pub returns-in_ok-prepare : goal.returns-in_ok-prepare
returns-in_ok-prepare g c =
    let still =
    still_of c.prepare.result _ _ (seen_now c.args.self.now.pieces).device (seen_now c.prepare.new.self).device
    c.prepare.ensures.keeps.keeps (grown_device c.prepare.result _ _ c.args.self.now.pieces c.prepare.new.self c.prepare.ensures.grown)
    c.prepare.ensures.none in
    record {
      continues = record {
        stripe = grind (arith, common_steps);
        between = between-none _ _ (kept_now c.args.self.now.pieces) (kept_now c.prepare.new.self) c.prepare.ensures.keeps.records
            still.goes still.past;
        contents = c.prepare.ensures.keeps.pieces.contents;
        later = omega (arith, still.faults);
      };
      records = c.prepare.ensures.keeps.records;
      units = omega arith;
      actors = c.reserve_readers.ensures.rest;
      memory = λ few. refl;
      more = omega (arith, c.if-units-self.true);
      still = still;
    }

pub returns-else-units-self : goal.returns-else-units-self
returns-else-units-self g c = record {
  continues = continues_same c.args.self.now c.requires;
  records = refl;
  units = omega (arith, c.if-units-self.false);
  actors = refl;
  memory = λ few. refl;
  more = omega arith;
  still = still_put (seen_now c.args.self.now.pieces).device;
}
