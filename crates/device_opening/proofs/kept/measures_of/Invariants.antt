use Rattle.std.proofs.Common.{map, reverse, take}
use Rattle.reopening.specs.Later.{measure_of}
use Rattle.device_opening.specs.Kept.{HasMeasures}
use Rattle.device_opening.proofs.kept.measures_of.Given as goal

abbrev pub invariant-loop-row : goal.invariant-loop-row
invariant-loop-row l = HasMeasures l.measures (map measure_of (reverse (take l.row-index l.back)))
