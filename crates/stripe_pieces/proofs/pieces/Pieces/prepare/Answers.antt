use Rattle.std.proofs.Common.{sym, subst}
use Rattle.cache_model.specs.Kept.{state_of}
use Rattle.cyclone.specs.Cyclone.{seen_cyclone}
use Rattle.held_pieces.specs.Held.{IsHeld}
use Rattle.stripe_pieces.specs.Pieces.{seen_now, state_now}
use Rattle.piece_answers.specs.Standing.{AreStanding}
use Rattle.held_pieces.proofs.Going.{room_may_grow, steady}
use Rattle.stripe_pieces.proofs.Standing.{standing_grown}
use Rattle.stripe_pieces.proofs.pieces.Pieces.prepare.Goals as goal

pub returns-clause-keeps : goal.returns-clause-keeps
returns-clause-keeps g c =
    let s = state_now c.args.self.now in
    let old = seen_now c.args.self.now in
    let new = seen_cyclone c.prepare.new.self in
    let spares = steady c.prepare.result _ _ old _ c.prepare.ensures.keeps c.prepare.ensures.device c.prepare.ensures.none in
    record {
      pieces = record {
        held = subst (λ k. IsHeld (state_of k) new) (sym c.reserve.ensures.kept)
            (room_may_grow s old new c.requires c.prepare.ensures.same c.prepare.ensures.turns spares);
        contents = λ contents told stands.
            subst (λ k. AreStanding contents (state_of k) new) (sym c.reserve.ensures.kept)
            (standing_grown contents s old new c.requires c.prepare.ensures.same spares stands);
      };
      records = c.reserve.ensures.kept;
      same = c.prepare.ensures.same;
      room = c.reserve.ensures.same;
      keeps = c.prepare.ensures.keeps;
    }
