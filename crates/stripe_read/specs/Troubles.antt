-- What a fault rests on that is told as a cause.
use Rattle.std.specs.Prelude.{ℕ, ◌≤◌, Option, IsSome}
use Rattle.cache_model.specs.declared.cause.Cause.{Cause}
use Rattle.cache_model.specs.declared.cause.Cause.TheVariants as cause
use Rattle.cache_model.specs.State.{Row}

-- the device has come to its count, and the piece is live: its trouble is among the records that are added
abbrev pub TroubleIsCounted : ℕ → Option Row → Cause → Type 0
TroubleIsCounted faults o (cause.DeviceFault count) = (count ≤ faults) × IsSome o
TroubleIsCounted faults o _ = Unit {0}
