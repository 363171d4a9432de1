use Rattle.std.proofs.Common.{◌∙◌, [], ◌∷◌, ap, refl}
use Rattle.cache_model.specs.declared.record.Rec.TheVariants as rec
use Rattle.cache_model.specs.Kept.{Kept, with_records}
use Rattle.cache_model.specs.Legal.{DoesStopReading}
use Rattle.stripe_core.specs.Stripe.{kept_in}
use Rattle.stripe_core.proofs.Continuing.{continues_further, continues_still}
use Rattle.stripe_core.proofs.Stills.{still_as, still_then}
use Rattle.stripe_read.proofs.Staying.{closed_quiet}
use Rattle.stripe_read.proofs.closing.close_read.Goals as goal

pub returns-in-Err : goal.returns-in-Err
returns-in-Err g c = record {
  rests = continues_still _ _ c.prepare.ensures.continues c.prepare.ensures.records c.requires.resting;
  adds = tt;
  does = λ p. DoesStopReading.closes c.requires.reader.row c.requires.resting.quiet c.requires.reader.found refl;
  err = c.prepare.ensures.records;
  back = refl;
  still = c.prepare.ensures.still;
}

pub returns : goal.returns
returns g c = record {
  rests =
      continues_further _ _ _ c.prepare.ensures.continues c.end_read.ensures.continues
      (closed_quiet (kept_in c.args.stripe.now) (kept_in c.prepare.new.self) (kept_in c.end_read.new.self) c.args.reader.reader
      c.prepare.ensures.records
      c.end_read.ensures.adds c.requires.resting.quiet);
  adds = c.end_read.ensures.adds ∙ ap (λ (k : Kept). with_records k (rec.ReadClosed c.args.reader.reader ∷ [])) c.prepare.ensures.records;
  does = λ p. DoesStopReading.closes c.requires.reader.row c.requires.resting.quiet c.requires.reader.found refl;
  err = tt;
  back = tt;
  still = still_then _ _ _ c.prepare.ensures.still (still_as _ _ c.end_read.ensures.still);
}
