-- What a check of a device says.
use Rattle.std.specs.Prelude.{◌≡◌, ◌⊎◌, ◌++◌, ℕ, Bool, true, false, List, [], codes, length, Option, Some, None}
use Rattle.std.specs.Fmt.{decimal}
use Rattle.device_log.specs.Image.{Image}
use Rattle.logged_disk.specs.Device.{DeviceState as Device}
use Rattle.stripe_header.specs.declared.area.Area.{Area}
use Rattle.cache_model.specs.Opening.{Opening}
use Rattle.device_reads.specs.declared.reads.ReadFault.{ReadFault}
use Rattle.device_reads.specs.declared.reads.ReadFault.TheVariants as read_faults
use Rattle.device_reads.specs.Reads.{Fails, Reads}
use Rattle.reopening.specs.declared.newest.Newest.{Newest}
use Rattle.reopening.specs.Device.{IsAreaOn}
use Rattle.reopening.specs.Newest.{newest_of}
use Rattle.reopening.specs.Opens.{dropped_at, opens_to}
use Rattle.device_opening.specs.declared.fault.OpeningFault.{OpeningFault}
use Rattle.device_opening.specs.declared.fault.OpeningFault.TheVariants as faults
use Rattle.inspections.specs.Lines.{clean_text, newline}

-- what a device opens to
unfoldable pub opened_line : Opening → List ℕ
opened_line o =
    codes "opened serial " ++ (decimal o.serial ++ (codes " cursor " ++ (decimal o.cursor ++ (codes " floor " ++ (decimal o.floor
    ++ (codes " found " ++ (decimal (length o.found) ++ (clean_text o.clean ++ newline))))))))

-- how many elements of its directory are not kept
unfoldable pub dropped_line : ℕ → List ℕ
dropped_line dropped = codes "dropped " ++ (decimal dropped ++ newline)

-- no stripe lies there, or it opens to nothing: nothing is printed
pub record SaysNoOpening (size : ℕ) (c : Image) (text : List ℕ) (opens : Bool) : Type 0 where
  pub none : (a : Area) → IsAreaOn (c 0) size a → opens_to a c ≡ None
  pub text_is : text ≡ []
  pub shut : opens ≡ false

-- what the stripe that lies there opens to is printed, and how many elements of the newest copy are not kept
pub record SaysOpened (size : ℕ) (c : Image) (text : List ℕ) (opens : Bool) : Type 0 where
  pub area : Area
  pub lies : IsAreaOn (c 0) size area
  pub newest : Newest
  pub newest_is : newest_of area c ≡ Some newest
  pub opening : Opening
  pub opening_is : opens_to area c ≡ Some opening
  pub text_is : text ≡ opened_line opening ++ dropped_line (dropped_at area c newest)
  pub opens_is : opens ≡ true

-- what is printed of a device of so many blocks with this content, and whether it opens
abbrev pub SaysOpening : ℕ → Image → List ℕ → Bool → Type 0
SaysOpening size c text opens = SaysNoOpening size c text opens ⊎ SaysOpened size c text opens

-- a device was only read, each block at most once, and what it gave tells this
abbrev pub ReadsOnce : (old new : Device) → (Image → Type 0) → Type 0
ReadsOnce old new P = (most : ℕ) × Reads 0 old.size most old new P

-- so up to a read that failed, or to where memory was wanting
abbrev pub FailsOnce : (old new : Device) → ReadFault → Type 0
FailsOnce old new fault = (most : ℕ) × Fails 0 old.size most old new fault

-- why a device was not read to the end, where that is why it did not open
abbrev pub stop_of : OpeningFault → Option ReadFault
stop_of (faults.DeviceFault count) = Some (read_faults.DeviceFault count)
stop_of (faults.Memory e) = Some (read_faults.Memory e)
stop_of fault = None
