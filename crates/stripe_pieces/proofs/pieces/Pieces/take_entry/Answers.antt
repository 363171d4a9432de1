use Rattle.std.proofs.Common.{sym}
use Rattle.cyclone.specs.Cyclone.{seen_cyclone}
use Rattle.stripe_pieces.specs.Pieces.{seen_now, state_now}
use Rattle.held_pieces.proofs.Takings.{live_entry_goes, no_entry_goes}
use Rattle.stripe_pieces.proofs.pieces.Pieces.take_entry.Goals as goal

pub returns-in-Some-clause-gone : goal.returns-in-Some-clause-gone
returns-in-Some-clause-gone g c = λ t without.
    live_entry_goes (state_now c.args.self.now) t (seen_now c.args.self.now) (seen_cyclone c.take_out.new.self) c.args.id c.in-Some.place c.take_out.result c.requires.pieces
    (sym c.in-Some.ensures) (record { turning = c.take_out.ensures.turns; found_is = c.take_out.ensures.found; same = c.take_out.ensures.same; gone = c.take_out.ensures.gone }) without

pub returns-in_default-clause-gone : goal.returns-in_default-clause-gone
returns-in_default-clause-gone g c = λ t without.
    no_entry_goes (state_now c.args.self.now) t (seen_now c.args.self.now) c.args.id c.requires.pieces (sym c.in_default.ensures) without
