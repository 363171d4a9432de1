-- What was read of the copies of a directory, and what it says of an image.
use Rattle.std.specs.Prelude.{◌≡◌, ◌≤◌, ◌*◌, ℕ, Bool, true, false, List, length, Option, Some, None, IsTrue}
use Rattle.std.specs.List.Sorted.{IsPermutation}
use Rattle.device_log.specs.Image.{Image}
use Rattle.tape_base.specs.declared.geometries.Geometry.{Geometry}
use Rattle.stripe_header.specs.declared.area.Area.{Area}
use Rattle.stripe_header.specs.declared.area.Side.{Side}
use Rattle.stripe_header.specs.declared.area.Side.TheVariants as sides
use Rattle.stripe_header.specs.declared.states.CopyFault.{CopyFault}
use Rattle.stripe_header.specs.declared.states.CopyFault.TheVariants as copy_faults
use Rattle.stripe_header.specs.Layout.{body_blocks, device_blocks, other_side}
use Rattle.stripe_header.specs.Reading.{copy_fault, copy_told}
use Rattle.stripe_header.specs.Spelling.{may_say}
use Rattle.dir_table.specs.declared.rows.StoredRow.{StoredRow}
use Rattle.packed_directory.specs.PackedImage.{image_blocks_of}
use Rattle.reopening.specs.Device.{IsAreaOn}
use Rattle.reopening.specs.Newest.{body_at, copy_at, directory_at, fault_at, newest_of, unless_fault}
use Rattle.reopening.specs.Opens.{is_sound, rows_at}
use Rattle.device_opening.specs.declared.copies.Copies.{Copies}
use Rattle.device_opening.specs.declared.copies.CopyRead.{CopyRead}
use Rattle.device_opening.specs.declared.copies.CopyRead.TheVariants.{Refused, Told}
use Rattle.device_opening.specs.declared.device.NewestRead.{NewestRead}
use Rattle.device_opening.specs.declared.newest.Taken.{Taken}
use Rattle.device_opening.specs.declared.newest.Chosen.{Chosen}

-- the stripe has the directory of its geometry, and a device of so many blocks has room for it
pub record IsLaid (size : ℕ) (a : Area) : Type 0 where
  pub directory : a.directory ≡ image_blocks_of a.geometry
  pub room : device_blocks a ≤ size

-- why the copy with this gate and this body is refused, or what it tells
abbrev pub IsCopyIn : Geometry → (gate body : List ℕ) → CopyRead → Type 0
IsCopyIn g gate body (Refused fault) = copy_fault g gate body ≡ Some fault
IsCopyIn g gate body (Told state kept) =
    (unless_fault (copy_fault g gate body) (copy_told body) ≡ Some state) × (kept.items ≡ body)

-- why a copy of an image is refused, or what it tells
abbrev pub IsSideOf : Area → Image → Side → CopyRead → Type 0
IsSideOf a c side (Refused fault) = fault_at a c side ≡ Some fault
IsSideOf a c side (Told state body) = (copy_at a c side ≡ Some state) × (body.items ≡ body_at a c side)

-- so of both
abbrev pub AreCopiesOf : Area → Copies → Image → Type 0
AreCopiesOf a copies c = IsSideOf a c sides.A copies.a × IsSideOf a c sides.B copies.b

-- an accepted copy says what one of the stripe may say, and its body has so many bytes
abbrev pub MaySay : Geometry → ℕ → CopyRead → Type 0
MaySay g bytes (Refused fault) = Unit {0}
MaySay g bytes (Told state body) = IsTrue (may_say g state) × (length body.items ≡ bytes)

-- a copy is refused since its gate is shut
abbrev pub is_shut : CopyFault → Bool
is_shut copy_faults.GateShut = true
is_shut fault = false

-- the first fault of a copy, if it has one, is that
abbrev pub is_shut_at : Option CopyFault → Bool
is_shut_at None = false
is_shut_at (Some fault) = is_shut fault

-- it is the newest copy of an image, with its body, and whether the other one's gate is shut
pub record IsTaken (a : Area) (c : Image) (t : Taken) : Type 0 where
  pub newest : newest_of a c ≡ Some t.newest
  pub body : t.body.items ≡ body_at a c t.newest.side
  pub shut : t.shut ≡ is_shut_at (fault_at a c (other_side t.newest.side))

-- it says what a copy of the stripe may say, and its body is whole
pub record TakenSays (a : Area) (t : Taken) : Type 0 where
  pub says : IsTrue (may_say a.geometry t.newest.told)
  pub whole : length t.body.items ≡ 512 * body_blocks a

-- both copies of an image are refused, each with its first fault
abbrev pub IsRefusal : Area → Image → (one other : CopyFault) → Type 0
IsRefusal a c one other = (fault_at a c sides.A ≡ Some one) × (fault_at a c sides.B ≡ Some other)

-- its directory is sound, and these are its elements at or above the bound, in some order
pub record AreRowsOf (a : Area) (c : Image) (t : Taken) (rows : List StoredRow) : Type 0 where
  pub sound : is_sound a.geometry (directory_at a c t.newest.side) ≡ true
  pub rows_are : IsPermutation (rows_at a c t.newest) rows

-- the newest copy of an image with the elements of its directory
abbrev pub IsChosen : Area → Image → Chosen → Type 0
IsChosen a c chosen = IsTaken a c chosen.taken × AreRowsOf a c chosen.taken chosen.rows.items

-- the stripe that lies on an image of a device of so many blocks, and its newest copy
pub record IsNewestRead (size : ℕ) (r : NewestRead) (c : Image) : Type 0 where
  pub lies : IsAreaOn (c 0) size r.area
  pub chosen : IsChosen r.area c r.chosen
