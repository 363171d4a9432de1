use Rattle.std.proofs.Common.{◌≡◌, ◌∙◌, arith, [], ◌∷◌}
use Rattle.cache_model.specs.declared.record.Rec.TheVariants as rec
use Rattle.cache_model.specs.Kept.{with_records}
use Rattle.cache_model.specs.State.{cursor_next, floor_next, state_after}
use Rattle.logged_disk.proofs.Moments.{seen_image}
use Rattle.cyclone.specs.Cyclone.{seen_cyclone}
use Rattle.stripe_pieces.specs.Pieces.{kept_now, seen_now, state_now}
use Rattle.held_pieces.specs.Records.{IsWrittenOut}
use Rattle.held_pieces.specs.Held.{IsHeld}
use Rattle.held_pieces.proofs.Beginning.{begun_is_held}
use Rattle.held_pieces.proofs.Holding.{floor_held}
use Rattle.stripe_pieces.proofs.Standing.{standing_begun}
use Rattle.stripe_pieces.proofs.Telling.{held_behind, stands_behind}
use Rattle.piece_answers.proofs.Uses.{still_uses}
use Rattle.stripe_pieces.proofs.pieces.Pieces.begin.Goals as goal

pub returns : goal.returns
returns g c =
    let s = state_now c.args.self.now in
    let disk = c.args.self.now.cyclone.disk in
    let old = seen_now c.args.self.now in
    let after = seen_cyclone c.begin_next.new.self in
    let kept = kept_now c.args.self.now in
    let new = g.C.Chronicle.kept c.began.new.chronicle in
    let began = rec.Began (cursor_next s) (floor_next s) in
    let recs = began ∷ [] in
    let begins = c.begin_next.ensures.begins in
    let image = seen_image (g.D.Disk.state disk) (g.met.D.Disk.was_image disk) (g.met.D.Disk.is_log disk) in
    let out : IsWrittenOut old = record { whole = image.whole; written = c.requires.out.written } in
    let held : IsHeld (state_after s began) after = begun_is_held s old after c.requires.ready.pieces out begins c.begin_next.ensures.turns in
    let floor : c.floor.result ≡ floor_next s = c.floor.ensures ∙ floor_held (state_after s began) after held in
    let adds : new ≡ with_records kept recs =
    c.began.ensures.kept ∙ (λ i. with_records kept (rec.Began (c.requires.out.next i) (floor i) ∷ [])) in
    record {
      pieces = record {
        held = held_behind kept new recs after adds held;
        contents = λ contents told stands.
            stands_behind contents kept new recs after adds (standing_begun contents s old after c.requires.ready.pieces out begins stands);
      };
      adds = adds;
      still = begins.device;
      uses = still_uses 1 0 _ _ old after begins.geometry begins.device c.began.ensures.room (omega (arith, begins.spare));
    }
