use Rattle.std.proofs.Common.{[], ◌∷◌, refl, arith}
use Rattle.cache_model.specs.declared.record.Rec.TheVariants as rec
use Rattle.stripe_pieces.specs.Pieces.{kept_now, seen_now, state_now}
use Rattle.stripe_pieces.proofs.Adding.{tells_nothing}
use Rattle.stripe_pieces.proofs.Standing.{standing_unsaved}
use Rattle.stripe_pieces.proofs.Telling.{held_behind, stands_behind, unsaved_is_held}
use Rattle.stripe_pieces.proofs.pieces.Pieces.leave.Goals as goal

pub returns-then-done-clause-keeps : goal.returns-then-done-clause-keeps
returns-then-done-clause-keeps g c =
    let s = state_now c.args.self.now in
    let seen = seen_now c.args.self.now in
    let id = c.args.candidate.id in
    let place = c.args.candidate.place in
    let kept = kept_now c.args.self.now in
    let new = g.C.Chronicle.kept c.unsaved.new.chronicle in
    let recs = rec.Unsaved id place c.args.fault ∷ [] in
    rw c.if-done.true
    (record {
      pieces = record {
        held = held_behind kept new recs seen c.unsaved.ensures.kept (unsaved_is_held s seen id place c.args.fault c.requires.pieces);
        contents = λ contents told stands.
            stands_behind contents kept new recs seen c.unsaved.ensures.kept
            (standing_unsaved contents s seen id place c.args.fault stands);
      };
      adds = c.unsaved.ensures.kept;
      rest = record { same = refl; spare = omega arith };
      room = c.unsaved.ensures.room;
    })

pub returns-else-done-clause-keeps : goal.returns-else-done-clause-keeps
returns-else-done-clause-keeps g c = rw c.if-done.false (tells_nothing c.args.self.now c.requires.pieces)
