use Rattle.std.proofs.Common.{sym}
use Rattle.stripe_pieces.specs.Pieces.{seen_now, state_now}
use Rattle.held_pieces.proofs.Takings.{committed_is_held, committed_without, none_earlier, other_put, own_earlier}
use Rattle.stripe_pieces.proofs.pieces.Pieces.take_earlier.Goals as goal

pub returns-in-Some-clause-held : goal.returns-in-Some-clause-held
returns-in-Some-clause-held g c = λ length list.
    c.take_entry.ensures.gone _
    (committed_without (state_now c.args.self.now) c.args.put length c.args.key list c.in-Some.earlier c.requires.pieces.sound (sym c.in-Some.ensures) (other_put c.in-Some.earlier.put c.args.put c.if-earlier-put.true))

pub returns-else-earlier-put-clause-held : goal.returns-else-earlier-put-clause-held
returns-else-earlier-put-clause-held g c = λ length list.
    let s = state_now c.args.self.now in
    committed_is_held s (seen_now c.args.self.now) c.args.put length c.args.key list c.requires.pieces
    (own_earlier s c.args.key c.args.put c.in-Some.earlier c.in-Some.ensures c.if-earlier-put.false)

pub returns-in-None-clause-held : goal.returns-in-None-clause-held
returns-in-None-clause-held g c = λ length list.
    let s = state_now c.args.self.now in
    committed_is_held s (seen_now c.args.self.now) c.args.put length c.args.key list c.requires.pieces (none_earlier s c.args.key c.args.put c.in-None.ensures)
