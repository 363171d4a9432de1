use Rattle.std.proofs.Common.{arith}
use Rattle.sha_words.proofs.Bits.{chosen}
use Rattle.sha_twin.specs.Lanes.{word_in}
use Rattle.sha_twin.proofs.rounds.ch.Goals as goal

pub returns : goal.returns
returns c = λ j low.
    rw (c.xor-2.ensures j low, c.and.ensures j low, c.xor.ensures j low)
    (chosen (word_in c.args.x j) (word_in c.args.y j) (word_in c.args.z j) (omega arith) (omega arith) (omega arith))
