-- What a caller sees of a cache at a moment, what is known there, and the steps in which a call may stand.
use Rattle.std.specs.Prelude.{ℕ, ◌≡◌, List, ◌++◌}
use Rattle.device_log.specs.Calls.{Call}
use Rattle.logged_disk.specs.Device.{DeviceState as Device}
use Rattle.cache_model.specs.State.{State}
use Rattle.cache_model.specs.Kept.{Kept}
use Rattle.cache_model.specs.Permit.{Permit, Setting}
use Rattle.cache_model.specs.Vectors.{AreTold}

-- the records that were kept, the device with its log, and what the stripe is for the whole of its session
pub record At : Type 0 where
  pub kept : Kept
  pub device : Device
  pub setting : Setting

-- from one moment to the other the device made no call, and nothing was recorded
pub record IsStillAt (old new : At) : Type 0 where
  pub kept : new.kept ≡ old.kept
  pub past : new.device.past ≡ old.device.past
  pub setting : new.setting ≡ old.setting

-- ---- what is known

-- what may be known at a moment of what the records stand for
abbrev pub Facts : Type 1
Facts = State → Type 0

-- nothing is known
abbrev pub NothingKnown : Facts
NothingKnown s = Unit {0}

-- the one and the other
abbrev pub BothFacts : Facts → Facts → Facts
BothFacts first second s = first s × second s

-- ---- steps

-- The step is one at this moment, and it has these calls, right behind those that it made earlier. What the device had made by
-- then are those earlier ones, and all that it made before the step.
pub record Encloses (now : ℕ) (old : At) (p : Permit) (earlier calls : List Call) : Type 0 where
  pub later : List Call
  pub moment : p.now ≡ now
  pub packed : p.packed ≡ old.setting.packed
  pub syncs : p.syncs ≡ old.setting.syncs
  pub past : old.device.past ≡ earlier ++ p.past
  pub events : p.events ≡ later ++ (calls ++ earlier)

-- the step that begins at a moment and has these calls alone
abbrev pub permit_of : (now : ℕ) → At → (calls : List Call) → Permit
permit_of now old calls =
    record { packed = old.setting.packed; syncs = old.setting.syncs; now = now; past = old.device.past; events = calls }
