use Rattle.std.proofs.Common.{◌≡◌, true, List, take}
use Rattle.std.specs.List.{list_all}
use Rattle.reopening.specs.declared.later.Measure.{Measure}
use Rattle.reopening.specs.ByName.{rows_measured}
use Rattle.device_opening.specs.Kept.{HasMeasures}
use Rattle.device_opening.proofs.kept.lists_measured.Given as goal

abbrev pub invariant-loop-i : goal.invariant-loop-i
invariant-loop-i l = (all : List Measure) → HasMeasures l.measures all → list_all (λ s. rows_measured all l.row.id.first s.put 1 s.table) (take l.i l.vector) ≡ true
