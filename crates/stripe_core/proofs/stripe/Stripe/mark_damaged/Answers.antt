use Rattle.std.proofs.Common.{◌≡◌, ◌∙◌, Some, ap, arith, refl, sym, [], ◌∷◌}
use Rattle.cache_model.specs.declared.record.Rec.TheVariants as rec
use Rattle.cache_model.specs.Kept.{with_records}
use Rattle.cache_model.specs.Contents.{contents_of_vectors}
use Rattle.stripe_pieces.specs.Pieces.{seen_now}
use Rattle.stripe_core.specs.Stripe.{kept_in, seen_in, state_in}
use Rattle.stripe_core.proofs.Doings.{marks, one_less}
use Rattle.stripe_answers.proofs.Naming.{name_left, named_behind}
use Rattle.stripe_core.proofs.Sparing.{actors_with, made_behind, numbered_others}
use Rattle.piece_answers.proofs.NoneDisplaced.{none_behind}
use Rattle.stripe_core.proofs.Ready.{one_record_ready}
use Rattle.piece_answers.proofs.Documents.{documents_stay}
use Rattle.stripe_core.proofs.stripe.Stripe.mark_damaged.Goals as goal

pub returns : goal.returns
returns g c =
    let s = state_in c.args.self.now in
    let kept = kept_in c.args.self.now in
    let told = rec.Damaged c.args.id c.unwrap-place.result c.args.kept c.args.found in
    record {
      stripe = record {
        pieces = c.damage.ensures.keeps.pieces.held;
        actors = actors_with kept _ c.args.self.now.actors (told ∷ []) c.damage.ensures.keeps.adds (refl, tt) c.requires.stripe.actors;
        spared = one_less c.args.self.now.units c.args.self.now.flushes _ _ (seen_in c.args.self.now) (seen_now c.damage.new.self)
            c.requires.unit c.requires.stripe.spared c.damage.ensures.keeps.uses;
        named = named_behind kept _ told c.damage.ensures.keeps.adds (name_left s told refl c.requires.stripe.named);
        readers = omega (arith, c.requires.stripe.readers);
        ahead = made_behind kept _ told c.args.self.now.ahead c.damage.ensures.keeps.adds refl c.requires.stripe.ahead;
        none = none_behind kept _ told c.damage.ensures.keeps.adds refl c.requires.stripe.none;
        vectors = c.damage.ensures.keeps.pieces.contents contents_of_vectors tt c.requires.stripe.vectors;
        documents = documents_stay c.requires.stripe.documents (λ contents. c.damage.ensures.keeps.pieces.contents contents tt);
        numbered = numbered_others kept _ (told ∷ []) c.damage.ensures.keeps.adds (refl, tt) c.requires.stripe.numbered;
      };
      adds = λ place live.
          let is : Some c.unwrap-place.result ≡ Some place = sym c.unwrap-place.ensures ∙ (c.whereabouts.ensures ∙ live) in
          c.damage.ensures.keeps.adds ∙ ap (λ n. with_records kept (rec.Damaged c.args.id n c.args.kept c.args.found ∷ [])) (cc is);
      contents = c.damage.ensures.keeps.pieces.contents;
      does = marks s c.args.id c.args.kept c.args.found;
      still = c.damage.ensures.keeps.still;
      unit = omega (arith, c.requires.unit);
    }

pub damage-requires-clause-ready : goal.damage-requires-clause-ready
damage-requires-clause-ready g c =
    one_record_ready c.args.self.now.pieces c.args.self.now.units c.args.self.now.flushes c.requires.stripe.pieces c.requires.unit
    c.requires.stripe.spared
