use Rattle.std.proofs.Common.{◌∙◌, ap, arith, [], ◌∷◌}
use Rattle.cache_model.specs.declared.record.Rec.TheVariants as rec
use Rattle.cache_model.specs.Kept.{with_records}
use Rattle.cyclone.specs.Cyclone.{Seen}
use Rattle.stripe_pieces.specs.Pieces.{kept_now, seen_now, state_now}
use Rattle.stripe_pieces.proofs.Standing.{standing_committed}
use Rattle.stripe_pieces.proofs.Telling.{held_behind, stands_behind}
use Rattle.piece_answers.proofs.Uses.{rows_use}
use Rattle.stripe_pieces.proofs.pieces.Pieces.commit.Goals as goal

pub returns : goal.returns
returns g c =
    let s = state_now c.args.self.now in
    let after = seen_now c.take_earlier.new.self in
    let kept = kept_now c.args.self.now in
    let new = g.C.Chronicle.kept c.committed.new.chronicle in
    let recs = rec.Committed c.args.put c.args.key c.args.length c.args.alternates ∷ [] in
    let adds = c.committed.ensures.kept ∙ ap (λ x. with_records (g.C.Chronicle.kept x) recs) c.take_earlier.ensures.chronicle in
    record {
      pieces = record {
        held = held_behind kept new recs after adds (c.take_earlier.ensures.held c.args.length c.args.alternates);
        contents = λ contents told stands.
            stands_behind contents kept new recs after adds
            (standing_committed contents s (seen_now c.args.self.now) after c.args.put c.args.length c.args.key c.args.alternates
            c.take_earlier.ensures.rest stands);
      };
      adds = adds;
      still = ap (λ (y : Seen). y.device) c.take_earlier.ensures.rest.same;
      uses = rows_use 1 _ _ (seen_now c.args.self.now) after c.take_earlier.ensures.rest
          (omega (arith, c.committed.ensures.room, ap (λ x. g.C.Chronicle.room x) c.take_earlier.ensures.chronicle));
    }
