use Rattle.std.proofs.Common.{sym, ◌∙◌, ap, subst, refl, arith, [], ◌∷◌}
use Rattle.cache_model.specs.declared.record.Rec.TheVariants as rec
use Rattle.cache_model.specs.State.{state_after}
use Rattle.cache_model.specs.Kept.{state_of}
use Rattle.cache_model.specs.Contents.{contents_of_vectors}
use Rattle.stripe_actors.specs.Actors.{AreActors}
use Rattle.stripe_core.specs.Stripe.{kept_in, seen_in, state_in}
use Rattle.piece_answers.proofs.RecordsAdded.{state_of-with_records}
use Rattle.stripe_core.proofs.Doings.{LeavesPieces, ends_read, held_behind, one_record, reader_behind, standing_behind}
use Rattle.stripe_core.proofs.Sparing.{made_behind, numbered_by}
use Rattle.stripe_answers.proofs.Naming.{name_left, named_behind}
use Rattle.stripe_core.proofs.Between.{between-tells}
use Rattle.piece_answers.proofs.NoneDisplaced.{none_behind}
use Rattle.piece_answers.proofs.Documents.{documents_stay}
use Rattle.stripe_core.proofs.stripe.Stripe.end_read.Goals as goal

pub returns : goal.returns
returns g c =
    let s = state_in c.args.self.now in
    let kept = kept_in c.args.self.now in
    let before = seen_in c.args.self.now in
    let told = rec.ReadClosed c.args.reader in
    let after = g.C.Chronicle.kept c.read_closed.new.chronicle in
    let reader = reader_behind kept after told c.read_closed.ensures.kept in
    let leaves : LeavesPieces s (state_after s told) =
    record { geometry = refl; cursor = refl; filled = refl; rows = refl; fault = refl } in
    record {
      continues = record {
        stripe = record {
          pieces = held_behind kept after before told c.read_closed.ensures.kept tt leaves c.requires.stripe.pieces;
          actors = subst (λ t. AreActors t c.close_reader.new.self)
              (sym (ap state_of c.read_closed.ensures.kept ∙ state_of-with_records kept (told ∷ [])))
              (c.close_reader.ensures.closes s c.requires.stripe.actors);
          spared = one_record c.args.self.now.units c.args.self.now.flushes _ _ before c.requires.unit c.requires.stripe.spared
              c.read_closed.ensures.room;
          named = named_behind kept _ told c.read_closed.ensures.kept (name_left s told refl c.requires.stripe.named);
          readers = omega (arith, c.requires.stripe.readers, c.close_reader.ensures.readers);
          ahead = made_behind kept _ told c.args.self.now.ahead c.read_closed.ensures.kept refl c.requires.stripe.ahead;
          none = none_behind kept after told c.read_closed.ensures.kept refl c.requires.stripe.none;
          vectors = standing_behind kept after before told c.read_closed.ensures.kept tt leaves c.requires.stripe.pieces
              contents_of_vectors tt c.requires.stripe.vectors;
          documents = documents_stay c.requires.stripe.documents
              (λ contents. standing_behind kept after before told c.read_closed.ensures.kept tt leaves c.requires.stripe.pieces contents tt);
          numbered = numbered_by kept after (told ∷ []) 0 c.read_closed.ensures.kept (omega (arith, reader)) (omega arith)
              c.requires.stripe.numbered;
        };
        between = between-tells _ _ kept after (told ∷ []) refl c.read_closed.ensures.kept refl (refl, tt) (refl, tt);
        contents = standing_behind kept after before told c.read_closed.ensures.kept tt leaves c.requires.stripe.pieces;
        later = omega arith;
      };
      adds = c.read_closed.ensures.kept;
      does = ends_read s c.args.reader;
      still = refl;
      unit = omega (arith, c.requires.unit);
    }
