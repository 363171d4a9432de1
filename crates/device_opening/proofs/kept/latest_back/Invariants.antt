use Rattle.std.proofs.Common.{◌≡◌, ◌++◌, List, length, reverse}
use Rattle.cache_model.specs.declared.findings.FoundRow.{FoundRow}
use Rattle.reopening.specs.Later.{latest}
use Rattle.device_opening.specs.Kept.{HasNames}
use Rattle.device_opening.proofs.kept.latest_back.Given as goal

abbrev pub invariant-loop-row : goal.invariant-loop-row
invariant-loop-row l = (later : List FoundRow) × (l.fn.all.items ≡ l.left.items ++ later) × HasNames l.names later × (l.kept.items ≡ reverse (latest later))

abbrev pub decreases-loop-row : goal.decreases-loop-row
decreases-loop-row l = length l.left.items
