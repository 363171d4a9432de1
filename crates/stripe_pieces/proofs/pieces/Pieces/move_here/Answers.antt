use Rattle.std.proofs.lemmas.Grind.{common_steps}
use Rattle.std.proofs.Common.{◌≡◌, arith, [], ◌∷◌}
use Rattle.cache_model.specs.Kept.{with_records}
use Rattle.cyclone.specs.Cyclone.{seen_cyclone}
use Rattle.stripe_pieces.specs.Copying.{copied_record}
use Rattle.stripe_pieces.specs.Pieces.{kept_now, seen_now, state_now}
use Rattle.stripe_pieces.proofs.Copied.{copied_is_held}
use Rattle.stripe_pieces.proofs.StandingPlaced.{stands_behind, standing_copied}
use Rattle.stripe_pieces.proofs.Telling.{held_behind}
use Rattle.piece_answers.proofs.Uses.{still_uses}
use Rattle.stripe_pieces.proofs.pieces.Pieces.move_here.Goals as goal

pub returns : goal.returns
returns g c =
    let purges = g.R.Directory.purges in
    let old = kept_now c.args.self.now in
    let last = g.C.Chronicle.kept c.moved.new.chronicle in
    let s = state_now c.args.self.now in
    let before = seen_now c.args.self.now in
    let after = seen_cyclone c.move_piece-digest.new.self in
    let recs = copied_record s c.args.candidate c.args.bytes.now ∷ [] in
    let moved = c.move_piece-digest.ensures.moved in
    let turns = c.move_piece-digest.ensures.turns in
    let adds : last ≡ with_records old recs = grind (arith, common_steps) in
    record {
      pieces = record {
        held = held_behind old last recs after adds
            (copied_is_held purges s before after c.args.candidate c.args.bytes.now c.requires.ready.pieces c.requires.copied moved turns);
        contents = λ contents said stands.
            stands_behind contents old last recs after adds
            (standing_copied contents purges s before after c.args.candidate c.args.bytes.now c.requires.ready.pieces c.requires.copied moved turns said stands);
      };
      adds = adds;
      still = moved.device;
      uses = still_uses 1 1 _ _ before after moved.geometry moved.device c.moved.ensures.room moved.spare;
    }
