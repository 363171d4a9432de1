use Rattle.std.proofs.Common.{◌∙◌, ap, arith}
use Rattle.sha2.specs.Sha256.{rounds, schedule}
use Rattle.sha_twin.proofs.rounds.four_steps.Goals as goal

pub returns : goal.returns
returns c = λ j b h low held is.
    let after = rounds h (schedule b 48) in
    let first = c.step-v.ensures j b h low held is in
    let second = c.step-v-2.ensures j b h low held first in
    let third = c.step-v-3.ensures j b h low held (second ∙ ap after (omega arith)) in
    c.step.ensures j b h low held (third ∙ ap after (omega arith)) ∙ ap after (omega arith)
