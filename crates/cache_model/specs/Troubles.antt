-- The records of what kept a live piece from being read.
use Rattle.std.specs.Prelude.{List, [], ◌∷◌}
use Rattle.cache_model.specs.declared.cause.Cause.{Cause}
use Rattle.cache_model.specs.declared.cause.Cause.TheVariants as cause
use Rattle.cache_model.specs.declared.record.Rec.{Rec}
use Rattle.cache_model.specs.declared.record.Rec.TheVariants as rec
use Rattle.cache_model.specs.State.{Row}

-- that of a fault, or of bytes that are not its own; for any other cause it was not read
abbrev pub cause_records : Row → Cause → List Rec
cause_records row (cause.DeviceFault count) = rec.Fault count ∷ []
cause_records row (cause.Damaged place kept found) = rec.Damaged row.id row.place kept found ∷ []
cause_records row _ = []
