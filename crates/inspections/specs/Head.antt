-- Where the stripe of a device lies, by its first block and its size.
use Rattle.std.specs.Prelude.{◌≡◌, ◌≤◌, ℕ, List, Option, Some, None}
use Rattle.stripe_header.specs.declared.area.Area.{Area}
use Rattle.stripe_header.specs.Layout.{device_blocks, stripe_blocks}
use Rattle.stripe_header.specs.Spelling.{numbers_of}
use Rattle.stripe_header.specs.Reading.{span_blocks, span_fault, span_numbers, version_in}
use Rattle.packed_directory.specs.PackedImage.{image_blocks_of}
use Rattle.inspections.specs.declared.head.Head.{Head}

-- the stripe has the directory of its geometry, and a device of so many blocks has room for it
pub record IsLaid (size : ℕ) (a : Area) : Type 0 where
  pub directory : a.directory ≡ image_blocks_of a.geometry
  pub room : device_blocks a ≤ size

-- the first block is a span with these numbers, whose stripe has the blocks that they come to with their directory, and
-- the device has room for it
pub record LiesAt (first : List ℕ) (size : ℕ) (a : Area) : Type 0 where
  pub accepted : span_fault first ≡ None
  pub numbers : numbers_of a.geometry ≡ span_numbers first
  pub blocks : span_blocks first ≡ stripe_blocks a
  pub laid : IsLaid size a

-- what is told of a device of so many blocks by its first one: a stripe that lies there, or that none does
abbrev pub HeadIs : List ℕ → ℕ → Option Head → Type 0
HeadIs first size None = (a : Area) → LiesAt first size a → ⊥
HeadIs first size (Some head) = LiesAt first size head.area × (head.version ≡ version_in first)
