-- The calls by which a device is laid out for an empty stripe.
use Rattle.std.specs.Prelude.{ℕ, ◌≡◌, ◌+◌, ◌*◌, ◌<◌, false, List, [], ◌∷◌, ◌++◌, length}
use Rattle.tape_base.specs.declared.geometries.Geometry.{Geometry}
use Rattle.tape_base.specs.Place.{directory_blocks_of}
use Rattle.device_log.specs.Calls.{Call, Wrote, Synced}
use Rattle.device_log.specs.Along.{Stopped, Went}
use Rattle.logged_disk.specs.Device.{DeviceState as Device, IsAfter}
use Rattle.stripe_header.specs.declared.states.CopyState.{CopyState}
use Rattle.stripe_header.specs.Spelling.{copy_bytes, numbers_of, span_bytes}
use Rattle.packed_directory.specs.PackedImage.{IsImageOfSegments, means}
use Rattle.dir_sync.specs.SyncCalls.{open_block, shut_block}
use Rattle.stripe_copies.specs.declared.format.FormatFault.{FormatFault}
use Rattle.stripe_copies.specs.declared.format.FormatFault.TheVariants as fault

-- what the first copy says: the sync with serial 1, of a stripe whose second lap begins
abbrev pub first_state : Geometry → CopyState
first_state g = record { serial = 1; cursor = g.content; next_put = 1; clean = false; floor = 0 }

-- the image of a directory without a row
pub record IsEmptyImage (g : Geometry) (image : List ℕ) : Type 0 where
  pub whole : length image ≡ 512 * directory_blocks_of g
  pub sound : IsImageOfSegments g image
  pub rows : means g g.content image ≡ []

-- bytes are the body of the first copy
pub record IsFirstBody (g : Geometry) (body : List ℕ) : Type 0 where
  pub image : List ℕ
  pub empty : IsEmptyImage g image
  pub is : body ≡ copy_bytes 2 (numbers_of g) (first_state g) image

-- the span, which tells all blocks behind its own
abbrev pub first_span : Geometry → List ℕ
first_span g = span_bytes 2 (numbers_of g) (2 * directory_blocks_of g + g.content + 6)

-- both gates are shut before anything tells of the stripe, by one write
abbrev pub shutting_both : List Call
shutting_both = Wrote 1 (shut_block ++ shut_block) ∷ Synced ∷ []

-- the span and the first copy
abbrev pub telling : Geometry → List ℕ → List Call
telling g body = Wrote 0 (first_span g) ∷ Wrote 3 body ∷ Synced ∷ []

-- the gate of the first copy is opened behind it
abbrev pub opening_first : List Call
opening_first = Wrote 1 open_block ∷ Synced ∷ []

-- the calls of a format, in order
abbrev pub format_calls : Geometry → List ℕ → List Call
format_calls g body = shutting_both ++ (telling g body ++ opening_first)

-- these calls were made, and none failed
pub record Goes (calls : List Call) (old new : Device) : Type 0 where
  pub went : Went calls old.past new.past
  pub faults : new.faults ≡ old.faults

-- one of them failed, as the device then counted, and no later one was made
abbrev pub Stops : List Call → (old new : Device) → Type 0
Stops calls old new = Stopped calls new.faults old.past new.past

-- a device was laid out for an empty stripe
pub record IsLaidOut (g : Geometry) (old new : Device) : Type 0 where
  pub body : List ℕ
  pub first : IsFirstBody g body
  pub made : Goes (format_calls g body) old new
  pub goes : IsAfter old new

-- or it refused a call of these, and its count then stood here
pub record IsLeftOff (g : Geometry) (count : ℕ) (old new : Device) : Type 0 where
  pub body : List ℕ
  pub first : IsFirstBody g body
  pub stopped : Stops (format_calls g body) old new
  pub counted : count ≡ new.faults
  pub some : 0 < count

-- why a device was not laid out, and what was done then: without memory nothing
abbrev pub IsUnlaid : Geometry → (old new : Device) → FormatFault → Type 0
IsUnlaid g old new (fault.Memory e) = new.past ≡ old.past
IsUnlaid g old new (fault.Device count) = IsLeftOff g count old new

-- a refused format, behind which the device goes on
pub record IsRefusedFormat (g : Geometry) (old new : Device) (why : FormatFault) : Type 0 where
  pub unlaid : IsUnlaid g old new why
  pub goes : IsAfter old new
