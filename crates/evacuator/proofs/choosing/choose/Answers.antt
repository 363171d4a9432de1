use Rattle.std.proofs.Common.{◌≡◌, arith, ◌∙◌}
use Rattle.std.proofs.lemmas.Grind.{common_steps}
use Rattle.evacuator.specs.Choice.{blocks_of_all, kept_within}
use Rattle.evacuator.proofs.Steps.{walk_on, kept_within-IsChoice}
use Rattle.evacuator.proofs.choosing.choose.Goals as goal
use Rattle.evacuator.proofs.choosing.choose.Goals.{then-fits, else-fits}

pub loop-i-preserved : goal.loop-i-preserved
loop-i-preserved c =
    walk_on _ _ _ _ _ _ _ c.loop-i-test.true (c.loop-i.auto.kept ∙ c.requires.sized)
    c.loop-i.invariant.0 c.loop-i.invariant.1 (grind (arith, common_steps))

pub returns-clause-choice : goal.returns-clause-choice
returns-clause-choice c =
    let walked : c.loop-i.kept ≡ kept_within c.args.budget (blocks_of_all c.args.candidates.now) =
    grind (arith, common_steps) in
    rw walked (kept_within-IsChoice c.args.budget (blocks_of_all c.args.candidates.now))
