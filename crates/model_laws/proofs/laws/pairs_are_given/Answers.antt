use Rattle.model_laws.proofs.laws.pairs_are_given.Goals as goal

pub returns-clause-bytes : goal.returns-clause-bytes
returns-clause-bytes c = λ p s row pair. (pair.collide.bytes, pair.collide.others)

pub returns-clause-given : goal.returns-clause-given
returns-clause-given c = λ p s row written none pair. none pair.bytes (pair.given written).given
