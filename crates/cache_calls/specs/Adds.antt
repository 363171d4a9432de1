-- Which records a call may add.
use Rattle.std.specs.Prelude.{ℕ, ◌≡◌, ◌≤◌, List}
use Rattle.std.specs.List.{AllByRecursion}
use Rattle.device_log.specs.Calls.{Asked, Call, RefusedCall}
use Rattle.logged_disk.specs.Device.{TellsAll}
use Rattle.cache_model.specs.declared.record.Rec.{Rec}
use Rattle.cache_model.specs.declared.record.Rec.TheVariants as rec
use Rattle.cache_model.specs.Damage.{TellNoDamage}
use Rattle.cache_model.specs.Kept.{with_records}
use Rattle.cache_model.specs.Permit.{IsAmong}
use Rattle.call_laws.specs.Moments.{At}
use Rattle.call_laws.specs.Happens.{Happens}

-- no record was added
abbrev pub IsAsItWas : (old new : At) → Type 0
IsAsItWas old new = new.kept ≡ old.kept

-- these were
abbrev pub AddsAll : List Rec → (old new : At) → Type 0
AddsAll added old new = new.kept ≡ with_records old.kept added

-- all that were are of one kind
pub record AddsOnly (IsOwn : Rec → Type 0) (old new : At) : Type 0 where
  pub added : List Rec
  pub adds : AddsAll added old new
  pub own : AllByRecursion IsOwn added

-- and on a device that tells its content none tells damage
pub record AddsSoundly (IsOwn : Rec → Type 0) (old new : At) : Type 0 where
  pub added : List Rec
  pub adds : AddsAll added old new
  pub own : AllByRecursion IsOwn added
  pub undamaged : TellsAll new.device → TellNoDamage added

-- among those that were is a fault record with this count, to which the device has come; by `Happens` it is of a refused call
pub record AddsFault (count : ℕ) (old new : At) : Type 0 where
  pub reached : count ≤ new.device.faults
  pub added : List Rec
  pub adds : AddsAll added old new
  pub among : IsAmong (rec.Fault count) added

-- it is a call that the device refused between these moments
abbrev pub AddedFaultsAreRefusals : Type 0
AddedFaultsAreRefusals =
    (old new : At) (calls : List Call) (added : List Rec) (count : ℕ)
    → Happens old new calls added → AddsFault count old new
    → (asked : Asked) × IsAmong (RefusedCall asked count) calls
