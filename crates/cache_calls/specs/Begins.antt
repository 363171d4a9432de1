-- How a cache begins.
use Rattle.std.specs.Prelude.{◌≡◌, ◌<◌, ◌^◌}
use Rattle.tape_base.specs.declared.geometries.Geometry.{Geometry}
use Rattle.logged_disk.specs.Device.{DeviceState as Device}
use Rattle.stripe_header.specs.declared.area.Area.{Area}
use Rattle.power_cuts.specs.Surviving.{HoldsSyncOn, IsAreaOf}
use Rattle.cache_model.specs.Kept.{all_of, state_of}
use Rattle.cache_model.specs.Legal.{format_records}
use Rattle.cache_model.specs.Contents.{Contents}
use Rattle.call_laws.specs.Moments.{At}
use Rattle.stripe_copies.specs.Format.{IsLaidOut}
use Rattle.cache_calls.specs.Keeping.{plain_setting}

-- a plain cache that rests on this device, which was laid out for it, with the records of a format alone; it has no piece,
-- so that whatever is told of pieces stands
pub record Begins {S : Type 0} (at : S → At) (holds : S → Type 0) (stands : S → Contents → Type 0) (geometry : Geometry) (device : Device) (cache : S) : Type 0 where
  pub holds_first : holds cache
  pub kept : (at cache).kept ≡ all_of (format_records geometry)
  pub laid : IsLaidOut geometry device (at cache).device
  pub contents : (contents : Contents) → stands cache contents
  pub setting : (at cache).setting ≡ plain_setting
  -- all that a power cut may leave opens to the sync of the format, as the calls to come keep it (`Goes.survives`); each
  -- geometry has such a generation by its type
  pub held : geometry.generation < 2 ^ 64 → (a : Area) → IsAreaOf a geometry → HoldsSyncOn a (state_of (at cache).kept) (at cache).device
