-- What a device may hold behind a format.
use Rattle.std.specs.Prelude.{◌≡◌, ◌<◌, ◌^◌, Bool}
use Rattle.tape_base.specs.declared.geometries.Geometry.{Geometry}
use Rattle.tape_base.specs.Place.{directory_blocks_of}
use Rattle.device_log.specs.Image.{Image, IsImage}
use Rattle.device_log.specs.Faults.{IsLog}
use Rattle.logged_disk.specs.Device.{DeviceState as Device}
use Rattle.stripe_header.specs.declared.area.Area.{Area}
use Rattle.stripe_header.specs.declared.area.Side.TheVariants as sides
use Rattle.stripe_copies.specs.Format.{IsLaidOut, first_state}
use Rattle.cache_model.specs.State.{State, after_all, nothing_yet}
use Rattle.cache_model.specs.Legal.{format_records}
use Rattle.reopening.specs.declared.newest.Newest.{Newest}
use Rattle.reopening.specs.Guards.{AreGuarded, held_at_rest}
use Rattle.reopening.specs.Lasting.{OpensNow, TakesUpOne}

-- the session that a format begins
abbrev pub behind_format : Geometry → State
behind_format g = after_all nothing_yet (format_records g)

-- the only copy that a format opens
abbrev pub first_copy : Geometry → Newest
first_copy g = record { side = sides.A; told = first_state g }

-- the area has the directory that its geometry comes to, and was laid out
pub record IsAreaLaidOut (a : Area) (old new : Device) : Type 0 where
  pub directory : a.directory ≡ directory_blocks_of a.geometry
  pub laid : IsLaidOut a.geometry old new

-- behind a format, all that a cut may leave opens to its sync
abbrev pub FormattedOpensNow : Type 0
FormattedOpensNow = (a : Area) (old new : Device) (settled : Bool) (first : Image)
    → IsAreaLaidOut a old new → OpensNow a (behind_format a.geometry) settled first new.past

-- and the span tells the area, and the first copy is guarded. The field of a span spells a generation below 2 ^ 64, as
-- that of each geometry is by its type, which its numbers do not tell
abbrev pub FormattedIsGuarded : Type 0
FormattedIsGuarded = (a : Area) (old new : Device) (settled : Bool) (first : Image)
    → IsAreaLaidOut a old new → a.geometry.generation < 2 ^ 64 → IsImage first → IsLog new.past
    → AreGuarded a (TakesUpOne (behind_format a.geometry).marks) (held_at_rest (first_copy a.geometry) first new.past)
    settled first new.past
