use Rattle.std.proofs.Common.{◌≡◌, Some, refl, sym, ◌∙◌, ap, subst, arith, [], ◌∷◌}
use Rattle.fragment_table.specs.Table.{total_length}
use Rattle.open_directory.specs.Directory.{Held, kept_cuts}
use Rattle.cache_model.specs.declared.record.Rec.TheVariants as rec
use Rattle.cache_model.specs.State.{vector_piece}
use Rattle.cache_model.specs.Kept.{state_of, with_records}
use Rattle.cache_model.specs.Verdict.{cuts_of}
use Rattle.cache_model.specs.Contents.{contents_of_vectors}
use Rattle.stripe_actors.specs.Actors.{AreActors}
use Rattle.stripe_pieces.specs.Pieces.{seen_now}
use Rattle.stripe_core.specs.Stripe.{kept_in, seen_in, state_in}
use Rattle.piece_answers.proofs.RecordsAdded.{state_of-with_records}
use Rattle.stripe_core.proofs.Doings.{commits, one_less, open_cuts, reader_behind}
use Rattle.stripe_core.proofs.Sparing.{made_behind, numbered_by}
use Rattle.stripe_answers.proofs.Naming.{named_behind, named_committed}
use Rattle.stripe_core.proofs.Between.{between-tells}
use Rattle.stripe_core.proofs.Continuing.{no_less}
use Rattle.piece_answers.proofs.NoneDisplaced.{none_behind}
use Rattle.stripe_core.proofs.Ready.{one_record_ready}
use Rattle.piece_answers.proofs.Documents.{documents_stay}
use Rattle.stripe_core.proofs.stripe.Stripe.commit.Goals as goal

pub returns : goal.returns
returns g c =
    let s = state_in c.args.self.now in
    let kept = kept_in c.args.self.now in
    let told = rec.Committed c.args.put c.args.key c.length-length.result c.args.alternates in
    let after = g.C.Chronicle.kept c.commit.new.self.chronicle in
    let reader = reader_behind kept after told c.commit.ensures.adds in
    let w = c.requires.committing in
    let length : c.length-length.result ≡ total_length (cuts_of s c.args.put) =
    c.length-length.ensures
    ∙ (ap (λ (h : Held). total_length (kept_cuts c.args.put h.puts)) c.open_directory.ensures.same
    ∙ ap total_length (open_cuts s c.args.self.now.actors c.args.put w.w c.requires.stripe.actors w.found w.is_open)) in
    record {
      continues = record {
        stripe = record {
          pieces = c.commit.ensures.pieces.held;
          actors = subst (λ t. AreActors t c.close.new.self)
              (sym (ap state_of c.commit.ensures.adds ∙ state_of-with_records kept (told ∷ [])))
              (c.close.ensures.commits c.args.key c.length-length.result c.args.alternates s c.requires.stripe.actors);
          spared = one_less c.args.self.now.units c.args.self.now.flushes _ _ (seen_in c.args.self.now) (seen_now c.commit.new.self)
              c.requires.unit c.requires.stripe.spared c.commit.ensures.uses;
          named = named_behind kept _ told c.commit.ensures.adds
              (named_committed s c.args.put c.length-length.result c.args.key c.args.alternates
              (c.requires.committing.pending ∙ ap (λ k. Some (vector_piece k c.args.put)) c.requires.committing.key_is)
              c.requires.stripe.named);
          readers = omega (arith, c.requires.stripe.readers, c.close.ensures.readers);
          ahead = made_behind kept after told c.args.self.now.ahead c.commit.ensures.adds refl c.requires.stripe.ahead;
          none = none_behind kept after told c.commit.ensures.adds refl c.requires.stripe.none;
          vectors = c.commit.ensures.pieces.contents contents_of_vectors tt c.requires.stripe.vectors;
          documents = documents_stay c.requires.stripe.documents (λ contents. c.commit.ensures.pieces.contents contents tt);
          numbered = numbered_by kept after (told ∷ []) 0 c.commit.ensures.adds (omega (arith, reader)) (omega arith)
              c.requires.stripe.numbered;
        };
        between = between-tells _ _ kept after (told ∷ []) c.commit.ensures.still c.commit.ensures.adds refl (refl, tt) (refl, tt);
        contents = c.commit.ensures.pieces.contents;
        later = no_less _ _ c.commit.ensures.still;
      };
      adds = c.commit.ensures.adds ∙ ap (λ n. with_records kept (rec.Committed c.args.put c.args.key n c.args.alternates ∷ [])) length;
      does = λ lists p. commits p s c.args.put c.args.key c.args.alternates c.requires.committing lists;
      still = c.commit.ensures.still;
      unit = omega (arith, c.requires.unit);
    }

pub commit-requires : goal.commit-requires
commit-requires g c =
    one_record_ready c.args.self.now.pieces c.args.self.now.units c.args.self.now.flushes c.requires.stripe.pieces c.requires.unit
    c.requires.stripe.spared
