use Rattle.std.proofs.Common.{[], sym, subst, refl, arith}
use Rattle.cache_model.specs.Kept.{state_of}
use Rattle.cache_model.specs.Contents.{contents_of_vectors}
use Rattle.stripe_actors.specs.Actors.{AreActors}
use Rattle.piece_answers.specs.Standing.{contents_of_all}
use Rattle.stripe_core.proofs.stripe.Stripe.format.Goals as goal

pub returns-in-Ok-format-clause-formatted : goal.returns-in-Ok-format-clause-formatted
returns-in-Ok-format-clause-formatted g c = record {
  stripe = record {
    pieces = c.in-Ok-format.ensures.formatted.pieces;
    actors = subst (λ k. AreActors (state_of k) c.new-in-Ok-format.result) (sym c.in-Ok-format.ensures.formatted.records)
        (c.new-in-Ok-format.ensures c.args.g);
    spared = record { for_records = omega arith; entries = omega arith; one_each = omega arith; calls = omega arith; blocks = omega arith };
    named = rw c.in-Ok-format.ensures.formatted.records tt;
    readers = omega arith;
    ahead = rw c.in-Ok-format.ensures.formatted.records c.in-Ok.ensures;
    none = rw c.in-Ok-format.ensures.formatted.records refl;
    vectors = c.in-Ok-format.ensures.formatted.contents contents_of_vectors;
    documents = record {
      content = λ id. record { start = 0; payload = [] };
      stand = c.in-Ok-format.ensures.formatted.contents (contents_of_all (λ id. record { start = 0; payload = [] }));
    };
    numbered = rw c.in-Ok-format.ensures.formatted.records (omega arith);
  };
  records = c.in-Ok-format.ensures.formatted.records;
  contents = c.in-Ok-format.ensures.formatted.contents;
  device = c.in-Ok-format.ensures.formatted.device;
  alloc = refl;
}
