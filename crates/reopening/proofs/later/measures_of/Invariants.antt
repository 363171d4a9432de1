use Rattle.std.proofs.Common.{◌≡◌, map, take}
use Rattle.reopening.specs.Later.{measure_of}
use Rattle.reopening.proofs.later.measures_of.Given as goal

abbrev pub invariant-loop-row : goal.invariant-loop-row
invariant-loop-row l = l.measures.items ≡ map measure_of (take l.row-index l.all)
