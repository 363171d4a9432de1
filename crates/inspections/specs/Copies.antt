-- What the copies of a directory tell.
use Rattle.std.specs.Prelude.{ℕ, ◌-◌, List, length, Option, Some, None, if◌then◌else◌}
use Rattle.device_log.specs.Image.{Image}
use Rattle.tape_base.specs.declared.geometries.Geometry.{Geometry}
use Rattle.stripe_header.specs.declared.area.Area.{Area}
use Rattle.stripe_header.specs.declared.area.Side.{Side}
use Rattle.stripe_header.specs.declared.states.CopyState.{CopyState}
use Rattle.stripe_header.specs.declared.states.CopyFault.{CopyFault}
use Rattle.stripe_header.specs.Reading.{block_bytes, copy_fault, copy_told}
use Rattle.packed_directory.specs.PackedImage.{entries_in, image_segments}
use Rattle.reopening.specs.Newest.{body_at, directory_at, fault_at}
use Rattle.reopening.specs.Opens.{is_sound}
use Rattle.inspections.specs.declared.copies.CopyRead.{CopyRead}
use Rattle.inspections.specs.declared.copies.CopyRead.TheVariants.{Refused, Told}

-- how many entries stand on the chains of a directory; none where it has a fault
unfoldable pub entries_in_bytes : Geometry → List ℕ → Option ℕ
entries_in_bytes g bytes = if is_sound g bytes then Some (entries_in (image_segments g bytes)) else None

-- a copy by its first fault, what it tells, and its directory
abbrev pub copy_by : Option CopyFault → CopyState → Option ℕ → CopyRead
copy_by None state entries = Told state entries
copy_by (Some fault) state entries = Refused fault

-- what a copy with this gate and this body tells
abbrev pub copy_in : Geometry → List ℕ → List ℕ → CopyRead
copy_in g gate body =
    copy_by (copy_fault g gate body) (copy_told body) (entries_in_bytes g (block_bytes 512 (length body - 1024) body))

-- what a copy of an image tells
abbrev pub copy_of : Area → Image → Side → CopyRead
copy_of a c side =
    copy_by (fault_at a c side) (copy_told (body_at a c side)) (entries_in_bytes a.geometry (directory_at a c side))
