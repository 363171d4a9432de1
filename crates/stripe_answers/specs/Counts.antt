-- The counts of device faults that calls tell: none is above the one at which the device stands then.
use Rattle.std.specs.Prelude.{ℕ, ◌≤◌}
use Rattle.cache_model.specs.declared.cause.Cause.{Cause}
use Rattle.cache_model.specs.declared.cause.Cause.TheVariants as cause
use Rattle.cache_answers.specs.declared.answers.Refusal.{Refusal}
use Rattle.cache_answers.specs.declared.answers.Refusal.TheVariants as refusal

-- a refusal for the device tells a count that the device has reached
abbrev pub IsCounted : ℕ → Refusal → Type 0
IsCounted faults (refusal.DeviceFault count) = count ≤ faults
IsCounted faults _ = Unit {0}

-- and so does a cause
abbrev pub CauseIsCounted : ℕ → Cause → Type 0
CauseIsCounted faults (cause.DeviceFault count) = count ≤ faults
CauseIsCounted faults _ = Unit {0}
