use Rattle.sha_words.proofs.Bits.{most}
use Rattle.sha_twin.specs.Lanes.{word_in}
use Rattle.sha_twin.proofs.rounds.maj.Goals as goal

pub returns : goal.returns
returns c = λ j low.
    rw (c.xor-3.ensures j low, c.and.ensures j low, c.xor-2.ensures j low, c.xor.ensures j low)
    (most (word_in c.args.x j) (word_in c.args.y j) (word_in c.args.z j))
