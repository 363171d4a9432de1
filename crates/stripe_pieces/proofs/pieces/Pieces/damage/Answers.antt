use Rattle.std.proofs.Common.{[], ◌∷◌, ap}
use Rattle.cache_model.specs.declared.record.Rec.TheVariants as rec
use Rattle.cyclone.specs.Cyclone.{Seen, seen_cyclone}
use Rattle.stripe_pieces.specs.Pieces.{kept_now, seen_now, state_now}
use Rattle.stripe_pieces.proofs.Standing.{standing_damaged}
use Rattle.held_pieces.proofs.Takings.{damaged_is_held}
use Rattle.stripe_pieces.proofs.Telling.{held_behind, stands_behind}
use Rattle.piece_answers.proofs.Uses.{rows_use}
use Rattle.stripe_pieces.proofs.pieces.Pieces.damage.Goals as goal

pub returns-clause-keeps : goal.returns-clause-keeps
returns-clause-keeps g c =
    let s = state_now c.args.self.now in
    let old = seen_now c.args.self.now in
    let after = seen_cyclone c.take_out.new.self in
    let id = c.args.id in
    let place = c.args.place in
    let kept = kept_now c.args.self.now in
    let new = g.C.Chronicle.kept c.damaged.new.chronicle in
    let recs = rec.Damaged id place c.args.kept c.args.found ∷ [] in
    record {
      pieces = record {
        held = held_behind kept new recs after c.damaged.ensures.kept
            (damaged_is_held s old after id place c.args.kept c.args.found c.take_out.result c.requires.ready.pieces c.requires.live
            (record {
              turning = c.take_out.ensures.turns;
              found_is = c.take_out.ensures.found;
              same = c.take_out.ensures.same;
              gone = c.take_out.ensures.gone;
            }));
        contents = λ contents told stands.
            stands_behind contents kept new recs after c.damaged.ensures.kept
            (standing_damaged contents s old after id place c.args.kept c.args.found c.requires.ready.pieces c.take_out.ensures.same stands);
      };
      adds = c.damaged.ensures.kept;
      still = ap (λ (y : Seen). y.device) c.take_out.ensures.same.same;
      uses = rows_use 1 _ _ old after c.take_out.ensures.same c.damaged.ensures.room;
    }

pub returns-clause-rest : goal.returns-clause-rest
returns-clause-rest g c = c.take_out.ensures.same
