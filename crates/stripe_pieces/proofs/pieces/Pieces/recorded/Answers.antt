use Rattle.std.proofs.Common.{◌<◌, ◌≤◌, sym, ◌∙◌, ap, subst}
use Rattle.tape_base.specs.Geometry.{budget_of}
use Rattle.cyclone.specs.Cyclone.{BlocksStand}
use Rattle.cache_chronicle.specs.declared.pieces.KeptPiece.{KeptPiece}
use Rattle.stripe_pieces.specs.Pieces.{seen_now, state_now}
use Rattle.stripe_pieces.proofs.KeptRows.{kept_of_live}
use Rattle.held_pieces.proofs.Lives.{live_at, live_in_lap, live_is_stored, live_within}
use Rattle.stripe_pieces.proofs.pieces.Pieces.recorded.Goals as goal

pub returns : goal.returns
returns g c =
    let s = state_now c.args.self.now in
    let seen = seen_now c.args.self.now in
    let live = live_at s c.args.id c.args.place c.requires.live in
    let piece = kept_of_live s c.args.id live.row _ live.live (sym c.unwrap-piece.ensures ∙ c.live_of.ensures) in
    let blocks = sym (ap (λ (p : KeptPiece). p.blocks) piece) in
    record {
      recorded = record {
        row = live.row;
        live = live.live;
        place_is = live.at;
        blocks_is = blocks;
        digest_is = sym (ap (λ (p : KeptPiece). p.digest) piece);
      };
      some = subst (λ n. 0 < n) blocks (live_within s seen c.args.id live.row c.requires.pieces live.live).0;
      few = subst (λ n. n ≤ budget_of s.geometry) blocks (live_in_lap s seen c.args.id live.row c.requires.pieces live.live).small;
      stored = subst (BlocksStand seen c.args.place) blocks
          (subst (λ p. BlocksStand seen p live.row.blocks) live.at (live_is_stored s seen c.args.id live.row c.requires.pieces live.live));
    }
