use Rattle.std.proofs.Common.{refl, sym, subst}
use Rattle.cache_model.specs.Kept.{state_of}
use Rattle.cache_model.specs.Legal.{IsQuiet}
use Rattle.power_cuts.specs.Surviving.{HoldsSyncOn}
use Rattle.power_cuts.proofs.Formatted.{formats_hold}
use Rattle.stripe_core.specs.Stripe.{seen_in}
use Rattle.stripe_calls.proofs.begins.StripeCachePackedDirectoryFullChronicleFormats.format.Goals as goal

pub returns-in-Ok-clause-begins : goal.returns-in-Ok-clause-begins
returns-in-Ok-clause-begins g c = record {
  holds_first = record { stripe = c.in-Ok.ensures.formatted.stripe; quiet = subst (λ k. IsQuiet (state_of k)) (sym c.in-Ok.ensures.formatted.records) refl };
  kept = c.in-Ok.ensures.formatted.records;
  laid = c.in-Ok.ensures.formatted.device;
  contents = c.in-Ok.ensures.formatted.contents;
  setting = refl;
  held = λ generation a of_geometry.
      let t = c.in-Ok.stripe in
      subst (λ k. HoldsSyncOn a (state_of k) (seen_in t).device) (sym c.in-Ok.ensures.formatted.records)
      (formats_hold a c.args.geometry _ (seen_in t).device of_geometry generation (g.met.D.Disk.was_image t.pieces.cyclone.disk)
      (g.met.D.Disk.is_log t.pieces.cyclone.disk) c.in-Ok.ensures.formatted.device);
}
