use Rattle.std.proofs.Common.{arith, refl, [], ◌∷◌}
use Rattle.cache_model.specs.declared.record.Rec.TheVariants as rec
use Rattle.cache_model.specs.Contents.{contents_of_vectors}
use Rattle.stripe_pieces.specs.Pieces.{seen_now}
use Rattle.stripe_core.specs.Stripe.{kept_in, seen_in, state_in}
use Rattle.stripe_core.proofs.Doings.{one_less, removes}
use Rattle.stripe_answers.proofs.Naming.{name_left, named_behind}
use Rattle.stripe_core.proofs.Sparing.{actors_with, made_behind, numbered_others}
use Rattle.stripe_core.proofs.Between.{between-tells}
use Rattle.stripe_core.proofs.Continuing.{no_less}
use Rattle.piece_answers.proofs.NoneDisplaced.{none_behind}
use Rattle.stripe_core.proofs.Ready.{one_record_ready}
use Rattle.piece_answers.proofs.Documents.{documents_stay}
use Rattle.stripe_core.proofs.stripe.Stripe.take_out.Goals as goal

pub returns : goal.returns
returns g c =
    let s = state_in c.args.self.now in
    let kept = kept_in c.args.self.now in
    let told = rec.Removed c.remove-put.result c.args.key in
    record {
      continues = record {
        stripe = record {
          pieces = c.remove-put.ensures.keeps.pieces.held;
          actors = actors_with kept _ c.args.self.now.actors (told ∷ []) c.remove-put.ensures.keeps.adds (refl, tt)
              c.requires.resting.stripe.actors;
          spared = one_less c.args.self.now.units c.args.self.now.flushes _ _ (seen_in c.args.self.now) (seen_now c.remove-put.new.self)
              c.requires.unit c.requires.resting.stripe.spared c.remove-put.ensures.keeps.uses;
          named = named_behind kept _ told c.remove-put.ensures.keeps.adds (name_left s told refl c.requires.resting.stripe.named);
          readers = omega (arith, c.requires.resting.stripe.readers);
          ahead = made_behind kept _ told c.args.self.now.ahead c.remove-put.ensures.keeps.adds refl c.requires.resting.stripe.ahead;
          none = none_behind kept _ told c.remove-put.ensures.keeps.adds refl c.requires.resting.stripe.none;
          vectors = c.remove-put.ensures.keeps.pieces.contents contents_of_vectors tt c.requires.resting.stripe.vectors;
          documents = documents_stay c.requires.resting.stripe.documents (λ contents. c.remove-put.ensures.keeps.pieces.contents contents tt);
          numbered = numbered_others kept _ (told ∷ []) c.remove-put.ensures.keeps.adds (refl, tt) c.requires.resting.stripe.numbered;
        };
        between = between-tells _ _ kept _ (told ∷ []) c.remove-put.ensures.keeps.still c.remove-put.ensures.keeps.adds refl (refl, tt) (refl, tt);
        contents = c.remove-put.ensures.keeps.pieces.contents;
        later = no_less _ _ c.remove-put.ensures.keeps.still;
      };
      adds = c.remove-put.ensures.keeps.adds;
      does = λ p. removes p s c.args.key c.remove-put.result c.requires.resting.quiet c.requires.live c.remove-put.ensures.put;
      still = c.remove-put.ensures.keeps.still;
      unit = omega (arith, c.requires.unit);
    }

pub remove-put-requires-clause-ready : goal.remove-put-requires-clause-ready
remove-put-requires-clause-ready g c =
    one_record_ready c.args.self.now.pieces c.args.self.now.units c.args.self.now.flushes c.requires.resting.stripe.pieces c.requires.unit
    c.requires.resting.stripe.spared
