-- What an inspection of a device says.
use Rattle.std.specs.Prelude.{◌≡◌, ◌⊎◌, ℕ, Bool, false, List, [], string_bytes}
use Rattle.std.specs.Option.{is_some}
use Rattle.device_log.specs.Image.{Image}
use Rattle.stripe_header.specs.declared.area.Area.{Area}
use Rattle.stripe_header.specs.declared.area.Side.TheVariants as sides
use Rattle.stripe_header.specs.Reading.{version_in}
use Rattle.reopening.specs.Opens.{opens_to}
use Rattle.inspections.specs.Head.{LiesAt}
use Rattle.inspections.specs.Copies.{copy_of}
use Rattle.inspections.specs.Lines.{lines_of, opens_by}
use Rattle.inspections.specs.declared.head.Head.{Head}
use Rattle.inspections.specs.declared.device.Inspection.{Inspection}

-- no stripe lies there: nothing is printed
pub record SaysNothing (size : ℕ) (c : Image) (text : List ℕ) (opens : Bool) : Type 0 where
  pub none : (a : Area) → LiesAt (c 0) size a → ⊥
  pub text_is : text ≡ []
  pub shut : opens ≡ false

-- a stripe lies there: its span and its copies are printed, and the entries of the newest where the image opens
pub record SaysStripe (size : ℕ) (c : Image) (text : List ℕ) (opens : Bool) : Type 0 where
  pub area : Area
  pub lies : LiesAt (c 0) size area
  pub text_is : text ≡ lines_of (version_in (c 0)) area (copy_of area c sides.A) (copy_of area c sides.B)
  pub opens_is : opens ≡ is_some (opens_to area c)

-- what is printed of a device of so many blocks with this content, and whether it opens
abbrev pub Says : ℕ → Image → List ℕ → Bool → Type 0
Says size c text opens = SaysNothing size c text opens ⊎ SaysStripe size c text opens

-- what is said of the stripe of a head, by the copies of an image
pub record IsInspected (head : Head) (said : Inspection) (c : Image) : Type 0 where
  pub text_is : string_bytes said.text ≡ lines_of head.version head.area (copy_of head.area c sides.A) (copy_of head.area c sides.B)
  pub opens_is : said.opens ≡ opens_by (copy_of head.area c sides.A) (copy_of head.area c sides.B)
