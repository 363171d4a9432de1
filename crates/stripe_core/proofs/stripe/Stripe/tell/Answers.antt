use Rattle.std.proofs.Common.{◌≡◌, ap, sym, subst, ◌∙◌}
use Rattle.logged_disk.specs.Device.{DeviceState as Device}
use Rattle.cache_answers.specs.Orders.{call_of_order}
use Rattle.cache_model.specs.Kept.{Kept, state_of}
use Rattle.cache_model.specs.Legal.{IsQuiet}
use Rattle.cache_model.specs.Contents.{contents_of_vectors}
use Rattle.stripe_core.specs.Stripe.{flushes_in, kept_in, seen_in, state_in, units_in}
use Rattle.piece_answers.proofs.Documents.{documents_stay}
use Rattle.stripe_core.proofs.Switched.{made_one, switched_spared, switched_stays, told_order}
use Rattle.stripe_core.proofs.stripe.Stripe.tell.Goals as goal

pub returns : goal.returns
returns g c =
    let old = c.args.self.now in
    let mid = c.take_unit.new.self in
    let taken = c.take_unit.ensures in
    let switched = c.tell.ensures.switched in
    let stripe = taken.continues.stripe in
    let stays = switched_stays c.args.order (state_in mid) (seen_in mid) _ stripe.pieces switched in
    let same : (seen_in mid).geometry ≡ (state_in old).geometry = stripe.pieces.geometry ∙ ap (λ (k : Kept). (state_of k).geometry) taken.records in
    record {
      resting = record {
        stripe = record {
          pieces = stays.held;
          actors = stripe.actors;
          spared = switched_spared (call_of_order (seen_in mid).geometry c.args.order) (units_in mid) (flushes_in mid) _ (seen_in mid) _ c.in_ok-take_unit.ensures.spared switched;
          named = stripe.named;
          readers = stripe.readers;
          ahead = stripe.ahead;
          none = stripe.none;
          vectors = stays.stands contents_of_vectors stripe.vectors;
          documents = documents_stay stripe.documents stays.stands;
          numbered = stripe.numbered;
        };
        quiet = subst (λ (k : Kept). IsQuiet (state_of k)) (sym taken.records) c.requires.resting.quiet;
      };
      records = taken.records;
      contents = λ contents told stands. stays.stands contents (taken.continues.contents contents tt stands);
      tells = record {
        has = sym c.if-not-has_switch.false ∙ (c.has_switch.ensures ∙ (ap (λ (d : Device). d.has_switch) c.disk.ensures ∙ taken.still.goes.switch));
        made = told_order c.args.order (seen_in mid).geometry (state_in old).geometry (seen_in old).device _
            (made_one (call_of_order (seen_in mid).geometry c.args.order) (seen_in old).device (seen_in mid).device _ taken.still switched.keeps switched.adds) same;
      };
    }
