use Rattle.std.proofs.Common.{◌≡◌, ◌++◌, ◌-◌}
use Rattle.reopening.specs.Slices.{image_of}
use Rattle.reopening.specs.Tests.{standing_from}
use Rattle.reopening.proofs.standing.standing_from.Given as goal

abbrev pub invariant-loop-place : goal.invariant-loop-place
invariant-loop-place l =
    l.all.items ++ standing_from l.area l.told l.rows (image_of l.image) l.place (l.told.cursor - l.place)
    ≡ standing_from l.area l.told l.rows (image_of l.image) l.low (l.told.cursor - l.low)
