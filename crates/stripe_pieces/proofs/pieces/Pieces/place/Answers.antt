use Rattle.stripe_pieces.proofs.Adding.{asks_nothing}
use Rattle.stripe_pieces.proofs.pieces.Pieces.place.Goals as goal

pub put-requires-clause-ready : goal.put-requires-clause-ready
put-requires-clause-ready g c = c.requires.ready

pub put-requires-clause-fits : goal.put-requires-clause-fits
put-requires-clause-fits g c = c.requires.fits

pub returns-clause-keeps : goal.returns-clause-keeps
returns-clause-keeps g c = c.put.ensures.keeps

pub returns-then-end-ge-LIMIT-clause-keeps : goal.returns-then-end-ge-LIMIT-clause-keeps
returns-then-end-ge-LIMIT-clause-keeps g c = asks_nothing c.args.self.now c.requires.ready.pieces _ _ _
