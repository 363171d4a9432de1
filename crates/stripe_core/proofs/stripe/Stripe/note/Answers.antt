use Rattle.std.proofs.Common.{refl, sym, ◌∙◌, ap, subst, arith, [], ◌∷◌}
use Rattle.cache_model.specs.Legal.{answer_record}
use Rattle.cache_model.specs.Kept.{state_of}
use Rattle.cache_model.specs.Contents.{contents_of_vectors}
use Rattle.stripe_actors.specs.Actors.{AreActors}
use Rattle.stripe_core.specs.Stripe.{kept_in, seen_in, state_in}
use Rattle.piece_answers.proofs.RecordsAdded.{state_of-with_records}
use Rattle.stripe_core.proofs.Doings.{answer_keeps_readers, answer_leaves, answer_leaves_tape, held_behind, notes, one_record, reader_behind, standing_behind}
use Rattle.stripe_core.proofs.Sparing.{made_behind, numbered_by}
use Rattle.stripe_answers.proofs.Naming.{answer_leaves_names, named_behind}
use Rattle.stripe_core.proofs.Between.{answer_tells_no_fault, answer_tells_none, between-tells}
use Rattle.piece_answers.proofs.NoneDisplaced.{answer_displaces, none_behind}
use Rattle.piece_answers.proofs.Documents.{documents_stay}
use Rattle.piece_answers.proofs.SyncsLeft.{answer_left}
use Rattle.stripe_core.proofs.stripe.Stripe.note.Goals as goal

pub returns : goal.returns
returns g c =
    let s = state_in c.args.self.now in
    let kept = kept_in c.args.self.now in
    let before = seen_in c.args.self.now in
    let told = answer_record c.args.reader c.args.answer in
    let reader =
    reader_behind kept (g.C.Chronicle.kept c.answered.new.chronicle) told c.answered.ensures.kept ∙ answer_keeps_readers s c.args.reader
    c.args.answer in
    let leaves = answer_leaves s c.args.reader c.args.answer in
    record {
      continues = record {
        stripe = record {
          pieces = held_behind kept (g.C.Chronicle.kept c.answered.new.chronicle) before told c.answered.ensures.kept
              (answer_leaves_tape c.args.reader c.args.answer) leaves c.requires.stripe.pieces;
          actors = subst (λ t. AreActors t c.go_on.new.actors)
              (sym (ap state_of c.answered.ensures.kept ∙ state_of-with_records kept (told ∷ [])))
              (c.go_on.ensures.keeps s c.requires.stripe.actors);
          spared = one_record c.args.self.now.units c.args.self.now.flushes _ _ before c.requires.unit c.requires.stripe.spared
              c.answered.ensures.room;
          named = named_behind kept _ told c.answered.ensures.kept
              (answer_leaves_names s c.args.reader c.args.answer c.requires.stripe.named);
          readers = omega (arith, c.requires.stripe.readers, c.go_on.ensures.readers);
          ahead = made_behind kept _ told c.args.self.now.ahead c.answered.ensures.kept leaves.geometry c.requires.stripe.ahead;
          none = none_behind kept (g.C.Chronicle.kept c.answered.new.chronicle) told c.answered.ensures.kept
              (answer_displaces c.args.reader c.args.answer) c.requires.stripe.none;
          vectors = standing_behind kept (g.C.Chronicle.kept c.answered.new.chronicle) before told c.answered.ensures.kept
              (answer_leaves_tape c.args.reader c.args.answer) leaves c.requires.stripe.pieces contents_of_vectors tt
              c.requires.stripe.vectors;
          documents = documents_stay c.requires.stripe.documents
              (λ contents. standing_behind kept (g.C.Chronicle.kept c.answered.new.chronicle) before told c.answered.ensures.kept
              (answer_leaves_tape c.args.reader c.args.answer) leaves c.requires.stripe.pieces contents tt);
          numbered = numbered_by kept (g.C.Chronicle.kept c.answered.new.chronicle) (told ∷ []) 0 c.answered.ensures.kept
              (omega (arith, reader)) (omega arith) c.requires.stripe.numbered;
        };
        between = between-tells before.device before.device kept (g.C.Chronicle.kept c.answered.new.chronicle) (told ∷ []) refl
            c.answered.ensures.kept
            (answer_tells_no_fault c.args.reader c.args.answer) (answer_tells_none c.args.reader c.args.answer, tt) (answer_left c.args.reader c.args.answer, tt);
        contents = standing_behind kept (g.C.Chronicle.kept c.answered.new.chronicle) before told c.answered.ensures.kept
            (answer_leaves_tape c.args.reader c.args.answer) leaves c.requires.stripe.pieces;
        later = omega arith;
      };
      adds = c.answered.ensures.kept;
      does = notes c.args.reader c.args.answer;
      still = refl;
      unit = omega (arith, c.requires.unit);
    }
