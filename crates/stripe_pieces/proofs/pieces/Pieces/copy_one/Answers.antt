use Rattle.stripe_pieces.proofs.Adding.{adds_nothing}
use Rattle.stripe_pieces.proofs.pieces.Pieces.copy_one.Goals as goal

pub move_here-requires : goal.move_here-requires
move_here-requires g c = record { ready = rw c.in-Copied.is at c.requires.ready; copied = rw c.in-Copied.is at c.requires.copied }

pub returns-in-Copied : goal.returns-in-Copied
returns-in-Copied g c = rw c.in-Copied.is c.move_here.ensures

pub returns-in-NoRoom : goal.returns-in-NoRoom
returns-in-NoRoom g c = rw c.in-NoRoom.is (adds_nothing c.args.self.now c.requires.ready.pieces _ 0 0)

pub returns-in-Spoiled : goal.returns-in-Spoiled
returns-in-Spoiled g c = rw c.in-Spoiled.is (adds_nothing c.args.self.now c.requires.ready.pieces _ 0 0)

pub returns-in-Refused : goal.returns-in-Refused
returns-in-Refused g c = rw c.in-Refused.is (adds_nothing c.args.self.now c.requires.ready.pieces _ 0 0)
