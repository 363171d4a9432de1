-- The steps in which a call may stand, and what a call uses up.
use Rattle.std.specs.Prelude.{ℕ, ◌≡◌, ◌+◌, ◌-◌, ◌/◌, ◌≤◌, false, List, ◌∷◌, ◌++◌, length, take, Option}
use Rattle.std.specs.List.{AllByRecursion}
use Rattle.device_log.specs.Image.{span}
use Rattle.device_log.specs.Calls.{Call, Read}
use Rattle.logged_disk.specs.Device.{DeviceState as Device, IsAfter, IsTrusted, Keeps, seen as content_of}
use Rattle.power_cuts.specs.Surviving.{LeaveCopies}
use Rattle.cyclone.specs.Cyclone.{Seen}
use Rattle.cache_model.specs.declared.record.Rec.{Rec}
use Rattle.cache_model.specs.State.{State}
use Rattle.cache_model.specs.Permit.{End, Intent, IsAmong, Permit, Reason, work_after}
use Rattle.cache_model.specs.Legal.{MayGrow}

-- the calls between two moments of a log, the newest first
abbrev pub calls_since : (before after : List Call) → List Call
calls_since before after = take (length after - length before) after

-- the step knows each call that the device made between these two moments of its log, and the stripe does not sync
pub record Covers (p : Permit) (before after : List Call) : Type 0 where
  pub unsynced : p.syncs ≡ false
  pub knows : (made : List Call) → after ≡ made ++ before → AllByRecursion (λ call. IsAmong call p.events) made

-- a read gave what is seen there
abbrev pub ReadIsSeen : Device → Call → Type 0
ReadIsSeen device (Read at bytes) = bytes ≡ span (content_of device) at (length bytes / 512)
ReadIsSeen device _ = Unit {0}

-- what was read between two moments is what is seen there, where the device is trusted
abbrev pub AllReadIsSeen : Device → Device → Type 0
AllReadIsSeen old new = (made : List Call) → new.past ≡ made ++ old.past → IsTrusted new → AllByRecursion (ReadIsSeen new) made

-- what is asked first comes to this end, by one group of records or more
abbrev pub SpendsFirst : Permit → State → Intent → List Rec → End → Type 0
SpendsFirst p s i added e = (rest : List Intent) (why : Option Reason) → MayGrow p s (record { intents = i ∷ rest; refused = why }) added (work_after i rest why e)

-- what a call uses up at most: records, entries, and calls of the device with their blocks, each of which leaves the copies
pub record Uses (records entries calls blocks : ℕ) (room left : ℕ) (old new : Seen) : Type 0 where
  pub same : new.geometry ≡ old.geometry
  pub of_records : room ≤ left + records
  pub of_entries : old.spare ≤ new.spare + entries
  pub device : Keeps calls blocks old.device new.device
  pub goes : IsAfter old.device new.device
  pub leaves : LeaveCopies old.geometry old.device.past new.device.past
  pub later : old.device.faults ≤ new.device.faults
