-- What a device opens to, by what its reads say of each image that they agree with.
use Rattle.std.specs.Prelude.{◌≡◌, ℕ, Some}
use Rattle.device_log.specs.Image.{Image}
use Rattle.cache_model.specs.Opening.{Opening}
use Rattle.reopening.specs.Device.{IsAreaOn}
use Rattle.reopening.specs.Opens.{dropped_at, opening_with, opens_to}
use Rattle.device_opening.specs.declared.opening.OpeningRead.{OpeningRead}
use Rattle.device_opening.specs.Copies.{AreRowsOf, IsTaken}

-- what was read as an opening
abbrev pub opening_read : OpeningRead → Opening
opening_read r = opening_with r.area.geometry r.taken.newest.told r.found

-- the stripe that lies on an image of a device of so many blocks, its newest copy with the elements of its directory, what it
-- opens to, and how many elements are not kept
pub record IsOpeningRead (size : ℕ) (r : OpeningRead) (c : Image) : Type 0 where
  pub lies : IsAreaOn (c 0) size r.area
  pub taken : IsTaken r.area c r.taken
  pub rows : AreRowsOf r.area c r.taken r.rows.items
  pub opens : opens_to r.area c ≡ Some (opening_read r)
  pub dropped : r.dropped ≡ dropped_at r.area c r.taken.newest
