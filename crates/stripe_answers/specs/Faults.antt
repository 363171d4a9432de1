-- Which record stands for a refusal of the device.
use Rattle.std.specs.Prelude.{ℕ, ◌≡◌, List}
use Rattle.cache_model.specs.declared.record.Rec.{Rec}
use Rattle.cache_model.specs.declared.record.Rec.TheVariants as rec
use Rattle.cache_model.specs.Kept.{Kept, with_records}
use Rattle.cache_model.specs.Permit.{IsAmong}
use Rattle.cache_answers.specs.declared.answers.Refusal.{Refusal}
use Rattle.cache_answers.specs.declared.answers.Refusal.TheVariants as refusal

-- among the records that were added is the fault of a refused call, with this count
pub record RecordsFault (count : ℕ) (old new : Kept) : Type 0 where
  pub added : List Rec
  pub adds : new ≡ with_records old added
  pub among : IsAmong (rec.Fault count) added

-- so it is with the count that a refusal for the device tells
abbrev pub RefusalHasRecord : Kept → Kept → Refusal → Type 0
RefusalHasRecord old new (refusal.DeviceFault count) = RecordsFault count old new
RefusalHasRecord old new _ = Unit {0}
