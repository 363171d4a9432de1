use Rattle.std.proofs.Common.{ℕ, [], ◌∷◌, ◌∙◌, ap, arith, inl, inr, refl}
use Rattle.tape_base.specs.declared.digests.Digest.{Digest}
use Rattle.tape_base.specs.declared.pieces.PieceId.{PieceId}
use Rattle.cache_model.specs.declared.record.Rec.TheVariants as rec
use Rattle.power_cuts.specs.Surviving.{AllLeaveSyncs}
use Rattle.cache_model.specs.Kept.{with_records}
use Rattle.cache_model.specs.State.{live_row_of}
use Rattle.logged_disk.specs.Device.{DeviceState as Device}
use Rattle.stripe_core.specs.Stripe.{kept_in, state_in}
use Rattle.stripe_core.proofs.Between.{accounted_quiet, between_same}
use Rattle.stripe_read.proofs.Comparing.{other_piece, unlike_adds}
use Rattle.stripe_read.proofs.Staying.{found_nothing}
use Rattle.logged_disk.proofs.GoingOn.{stays_as}
use Rattle.stripe_core.proofs.Continuing.{no_less, proceeds_same}
use Rattle.power_cuts.proofs.Surviving.{kept_left, survives_still}
use Rattle.stripe_read.proofs.fetching.compare.Goals as goal

-- a damage is none of a sync
damage_leaves : (piece : PieceId) (place : ℕ) (kept found : Digest) → AllLeaveSyncs (rec.Damaged piece place kept found ∷ [])
damage_leaves piece place kept found = (refl, tt)

pub returns-in-Some : goal.returns-in-Some
returns-in-Some g c =
    let s = state_in c.args.stripe.now in
    let u = c.in-Some.field-0 in
    let adds = c.mark_damaged.ensures.adds u.place c.in-Some.ensures.some.place in
    record {
      stripe = c.mark_damaged.ensures.stripe;
      proceeds = record {
        goes = stays_as _ _ c.mark_damaged.ensures.still;
        accounted = accounted_quiet _ _ _ _ _ (ap (λ (d : Device). d.past) c.mark_damaged.ensures.still) adds refl;
        survives = survives_still _ _ _ _ c.mark_damaged.ensures.still (kept_left (kept_in c.args.stripe.now) (kept_in c.mark_damaged.new.self)
            (rec.Damaged c.args.id u.place c.args.listed u.found ∷ []) adds (damage_leaves c.args.id u.place c.args.listed u.found));
        contents = c.mark_damaged.ensures.contents;
        later = no_less _ _ c.mark_damaged.ensures.still;
      };
      unharmed = inr (other_piece s c.args.id c.args.listed u c.in-Some.ensures.some);
      adds = adds ∙ ap (with_records (kept_in c.args.stripe.now)) (unlike_adds s c.args.id c.args.listed u c.in-Some.ensures.some);
      compares = (u, refl, c.in-Some.ensures.some);
      still = c.mark_damaged.ensures.still;
      unit = omega (arith, c.mark_damaged.ensures.unit);
    }

pub returns-in-None : goal.returns-in-None
returns-in-None g c =
    let s = state_in c.args.stripe.now in
    record {
      stripe = c.requires.stripe;
      proceeds = proceeds_same c.args.stripe.now;
      unharmed = inl (between_same _ _ _ _ refl refl);
      adds = found_nothing (kept_in c.args.stripe.now) (live_row_of s c.args.id) c.args.size;
      compares = (refl, c.mismatch.ensures.none c.in-None.is);
      still = refl;
      unit = omega arith;
    }
