use Rattle.std.proofs.Common.{◌≡◌, ◌++◌, List, length, reverse}
use Rattle.reopening.specs.declared.later.Measure.{Measure}
use Rattle.reopening.specs.Later.{with_lengths}
use Rattle.reopening.specs.ByName.{MeasuresApart}
use Rattle.device_opening.specs.Kept.{HasMeasures}
use Rattle.device_opening.proofs.kept.with_measures.Given as goal

abbrev pub invariant-loop-row : goal.invariant-loop-row
invariant-loop-row l =
    (all : List Measure) → HasMeasures l.measures all → MeasuresApart all → l.found ++ with_lengths all (reverse l.left.items) ≡ with_lengths all (reverse l.fn.back.items)

abbrev pub decreases-loop-row : goal.decreases-loop-row
decreases-loop-row l = length l.left.items
