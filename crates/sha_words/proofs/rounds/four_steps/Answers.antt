use Rattle.std.proofs.Common.{◌∙◌, ap, arith}
use Rattle.sha2.specs.Sha256.{rounds, schedule}
use Rattle.sha_words.proofs.rounds.four_steps.Goals as goal

pub returns : goal.returns
returns c = λ b h n low held is.
    let after = rounds h (schedule b 48) in
    let first = c.step-v.ensures b h n (omega arith) held is in
    let second = c.step-v-2.ensures b h n (omega arith) held first in
    let third = c.step-v-3.ensures b h n (omega arith) held (second ∙ ap after (omega arith)) in
    c.step.ensures b h n (omega arith) held (third ∙ ap after (omega arith)) ∙ ap after (omega arith)
