use Rattle.std.proofs.Common.{arith}
use Rattle.sha_words.proofs.Bits.{nested_rotations}
use Rattle.sha_words.proofs.rounds.big_sigma0.Goals as goal

pub returns : goal.returns
returns c = rw (c.rotate_right-3.ensures, c.rotate_right-2.ensures, c.rotate_right.ensures)
    (nested_rotations c.args.x 2 11 9 (omega arith) (omega arith) (omega arith) (omega arith) (omega arith))
