use Rattle.script_run.proofs.laws.shown_are_given.Goals as goal

pub returns-clause-bytes : goal.returns-clause-bytes
returns-clause-bytes c = λ streams p s row pair. (pair.collide.bytes, pair.collide.others)

pub returns-clause-given : goal.returns-clause-given
returns-clause-given c = λ streams p s row written none pair. none pair.bytes (pair.given written).given
