-- What trouble with a live piece tells of the device's count.
use Rattle.std.proofs.Common.{ℕ, ◌≤◌, arith}
use Rattle.std.specs.Prelude.{Option, IsSome}
use Rattle.cache_model.specs.declared.cause.Cause.{Cause}
use Rattle.cache_model.specs.declared.cause.Cause.TheVariants as cause
use Rattle.cache_model.specs.State.{Row}
use Rattle.stripe_answers.specs.Counts.{CauseIsCounted}
use Rattle.stripe_read.specs.Troubles.{TroubleIsCounted}

pub of_live : (faults : ℕ) (o : Option Row) (why : Cause) → CauseIsCounted faults why → IsSome o → TroubleIsCounted faults o why
of_live faults o (cause.DeviceFault count) counted live = (counted, live)
of_live faults o _ counted live = tt

pub trouble_later : (before after : ℕ) (o : Option Row) (why : Cause) → before ≤ after → TroubleIsCounted before o why
    → TroubleIsCounted after o why
trouble_later before after o (cause.DeviceFault count) h counted = let low : count ≤ before = counted.0 in (omega (arith, low, h), counted.1)
trouble_later before after o _ h counted = tt
