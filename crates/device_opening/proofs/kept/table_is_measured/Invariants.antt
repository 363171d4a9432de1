use Rattle.std.proofs.Common.{◌≡◌, ◌+◌, ◌-◌, ◌≤◌, List, drop}
use Rattle.reopening.specs.declared.later.Measure.{Measure}
use Rattle.reopening.specs.ByName.{rows_measured}
use Rattle.device_opening.specs.Kept.{HasMeasures}
use Rattle.device_opening.proofs.kept.table_is_measured.Given as goal

abbrev pub invariant-loop-index : goal.invariant-loop-index
invariant-loop-index l =
    (l.index ≤ l.count)
    × ((all : List Measure) → HasMeasures l.measures all
    → rows_measured all l.first l.alternate.put (l.index + 1) (drop l.index l.alternate.table.rows) ≡ rows_measured all l.first l.alternate.put 1 l.alternate.table.rows)

abbrev pub decreases-loop-index : goal.decreases-loop-index
decreases-loop-index l = l.count - l.index
