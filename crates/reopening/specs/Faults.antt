-- Why an image does not open, and what the slow reader answers.
use Rattle.std.specs.Prelude.{◌≡◌, ℕ, Some, None}
use Rattle.device_log.specs.Image.{Image}
use Rattle.stripe_header.specs.declared.area.Area.{Area}
use Rattle.stripe_header.specs.declared.area.Side.{Side}
use Rattle.stripe_header.specs.declared.area.Side.TheVariants as sides
use Rattle.stripe_header.specs.declared.states.CopyFault.{CopyFault}
use Rattle.dir_segment.specs.declared.fault.SegmentFault.{SegmentFault}
use Rattle.packed_directory.specs.PackedImage.{IsFirstFault}
use Rattle.packed_directory.specs.declared.fault.ImageFault.{ImageFault}
use Rattle.packed_directory.specs.declared.fault.ImageFault.TheVariants.{Segment, Memory as NoImage}
use Rattle.cache_model.specs.Opening.{Opening}
use Rattle.reopening.specs.declared.newest.Newest.{Newest}
use Rattle.reopening.specs.declared.reader.Opened.{Opened}
use Rattle.reopening.specs.declared.reader.OpenFault.{OpenFault}
use Rattle.reopening.specs.declared.reader.OpenFault.TheVariants.{NoCopy, BadDirectory, Memory}
use Rattle.reopening.specs.Opens.{dropped_at, opens_to}
use Rattle.reopening.specs.Newest.{directory_at, fault_at, newest_of}

-- an answer as an opening
abbrev pub opening_of : Opened → Opening
opening_of o =
    record {
      serial = o.newest.told.serial;
      cursor = o.newest.told.cursor;
      floor = o.floor;
      next_put = o.newest.told.next_put;
      clean = o.newest.told.clean;
      found = o.found;
    }

-- both copies are refused, each with its first fault; or the newest one's directory has a first fault; or
-- memory ran out
abbrev pub IsOpenFault : Area → Image → OpenFault → Type 0
IsOpenFault a c (NoCopy one other) = (fault_at a c sides.A ≡ Some one) × (fault_at a c sides.B ≡ Some other)
IsOpenFault a c (BadDirectory side number fault) =
    (n : Newest) × (newest_of a c ≡ Some n) × (n.side ≡ side) × IsFirstFault a.geometry (directory_at a c side) number fault
IsOpenFault a c (Memory e) = Unit {0}

-- the newest copy is the one of the answer, and so many of its elements were dropped
pub record DroppedAreCounted (a : Area) (c : Image) (o : Opened) : Type 0 where
  pub newest : newest_of a c ≡ Some o.newest
  pub dropped : o.dropped ≡ dropped_at a c o.newest

-- the first fault of a copy's directory as one of the opening
abbrev pub opening_fault : Side → ImageFault → OpenFault
opening_fault side (Segment number fault) = BadDirectory side number fault
opening_fault side (NoImage e) = Memory e

-- what does not open for a fault opens to nothing
abbrev pub FaultsOpenNothing : Type 0
FaultsOpenNothing = (a : Area) (c : Image)
    → ((one other : CopyFault) → IsOpenFault a c (NoCopy one other) → opens_to a c ≡ None)
    × ((side : Side) (number : ℕ) (fault : SegmentFault) → IsOpenFault a c (BadDirectory side number fault) → opens_to a c ≡ None)
