use Rattle.std.proofs.Common.{sym, ◌∙◌, ap, arith, [], ◌∷◌}
use Rattle.cache_model.specs.declared.record.Rec.TheVariants as rec
use Rattle.cache_model.specs.Kept.{with_records}
use Rattle.cache_model.specs.State.{state_after}
use Rattle.cyclone.specs.Cyclone.{Seen}
use Rattle.stripe_pieces.specs.Pieces.{kept_now, seen_now, state_now}
use Rattle.stripe_pieces.proofs.Standing.{standing_without}
use Rattle.held_pieces.proofs.Takings.{removed_without}
use Rattle.stripe_pieces.proofs.Telling.{held_behind, stands_behind}
use Rattle.piece_answers.proofs.Uses.{rows_use}
use Rattle.stripe_pieces.proofs.pieces.Pieces.remove.Goals as goal

pub returns-clause-keeps : goal.returns-clause-keeps
returns-clause-keeps g c =
    let s = state_now c.args.self.now in
    let vector = c.unwrap-vector.result in
    let after = seen_now c.take_entry.new.self in
    let told = rec.Removed vector.put c.args.key in
    let kept = kept_now c.args.self.now in
    let new = g.C.Chronicle.kept c.removed.new.chronicle in
    let adds = c.removed.ensures.kept ∙ ap (λ x. with_records (g.C.Chronicle.kept x) (told ∷ [])) c.take_entry.ensures.chronicle in
    let gone = removed_without s c.args.key vector c.requires.ready.pieces.sound (sym c.vector_of.ensures ∙ c.unwrap-vector.ensures) in
    record {
      pieces = record {
        held = held_behind kept new (told ∷ []) after adds (c.take_entry.ensures.gone (state_after s told) gone);
        contents = λ contents any stands.
            stands_behind contents kept new (told ∷ []) after adds
            (standing_without contents s (state_after s told) (seen_now c.args.self.now) after vector gone c.take_entry.ensures.rest stands);
      };
      adds = adds;
      still = ap (λ (y : Seen). y.device) c.take_entry.ensures.rest.same;
      uses = rows_use 1 _ _ (seen_now c.args.self.now) after c.take_entry.ensures.rest
          (omega (arith, c.removed.ensures.room, ap (λ x. g.C.Chronicle.room x) c.take_entry.ensures.chronicle));
    }
