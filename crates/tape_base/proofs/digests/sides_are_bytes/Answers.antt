use Rattle.tape_base.proofs.DigestLaw.{numbers_show_nothing_lem}
use Rattle.tape_base.proofs.digests.sides_are_bytes.Goals as goal

pub returns-clause-sides : goal.returns-clause-sides
returns-clause-sides c = λ a b collide. (collide.bytes, collide.others)

pub returns-clause-numbers : goal.returns-clause-numbers
returns-clause-numbers c = numbers_show_nothing_lem
