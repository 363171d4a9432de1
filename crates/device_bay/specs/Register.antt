-- What a bay gave and got back, as its register has it.
use Rattle.std.specs.Prelude.{◌≡◌, ℕ, ◌==◌, if◌then◌else◌, List, [], ◌∷◌, Option, None, Some, slice_index, length}
use Rattle.logged_disk.specs.Device.{DeviceState}
use Rattle.device_bay.specs.Entry.{BayEntry}
use Rattle.device_bay.specs.Calls.{BayCall, Gave, RefusedAttach, TookBack, IsBayLog, bay_faults, gifts_of, number_behind}
use Rattle.device_bay.specs.declared.register.Register.{Register}

-- the call of an entry: with a device, it came back; else by the first number
abbrev pub call_of_entry : {D : Type 0} → (D → DeviceState) → List ℕ → List ℕ → Option D → BayCall
call_of_entry state numbers name None =
    if slice_index numbers 0 == 0 then Gave name (slice_index numbers 1)
    else RefusedAttach name (slice_index numbers 1) (slice_index numbers 2)
call_of_entry state numbers name (Some device) = TookBack (state device)

-- the calls of entries, both the newest first
unfoldable pub calls_of_entries : {D : Type 0} → (D → DeviceState) → List (BayEntry D) → List BayCall
calls_of_entries state [] = []
calls_of_entries state (entry ∷ entries) =
    call_of_entry state entry.0 entry.1.0 entry.1.1 ∷ calls_of_entries state entries

-- the calls of a bay that has this register
abbrev pub calls_in : {D : Type 0} → (D → DeviceState) → Register D → List BayCall
calls_in state register = calls_of_entries state register.entries.entries

-- its two counts are those of its log, which is one that a bay can have
pub record IsRegister {D : Type 0} (state : D → DeviceState) (register : Register D) : Type 0 where
  pub is_log : IsBayLog (calls_in state register)
  pub given_is : register.given ≡ number_behind (length (gifts_of (calls_in state register)))
  pub faults_are : register.faults ≡ bay_faults (calls_in state register)
