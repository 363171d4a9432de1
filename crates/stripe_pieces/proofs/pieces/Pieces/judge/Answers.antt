use Rattle.stripe_pieces.proofs.Adding.{adds_nothing}
use Rattle.stripe_pieces.proofs.pieces.Pieces.judge.Goals as goal

pub returns-then-eq-clause-keeps : goal.returns-then-eq-clause-keeps
returns-then-eq-clause-keeps g c = adds_nothing c.args.self.now c.requires.ready.pieces _ 1 0

pub returns-else-eq-clause-keeps : goal.returns-else-eq-clause-keeps
returns-else-eq-clause-keeps g c = c.damage.ensures.keeps
