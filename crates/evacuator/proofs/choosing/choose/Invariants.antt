use Rattle.std.proofs.Common.{◌≡◌, map, take}
use Rattle.evacuator.specs.Choice.{kept_within}
use Rattle.evacuator.proofs.Steps.{left_within}
use Rattle.evacuator.proofs.choosing.choose.Given as goal

abbrev pub invariant-loop-i : goal.invariant-loop-i
invariant-loop-i l =
    let blocks = map (λ c. c.blocks) (take l.i l.candidates) in
    (take l.i l.kept ≡ kept_within l.budget blocks) × (l.left ≡ left_within l.budget blocks)
