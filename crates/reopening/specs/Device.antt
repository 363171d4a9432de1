-- Where the stripe of a device lies, by its first block and its size.
use Rattle.std.specs.Prelude.{◌≡◌, ◌<◌, ◌≤◌, ◌*◌, ◌/◌, ℕ, List, length, take, Some, None}
use Rattle.stripe_header.specs.declared.area.Area.{Area}
use Rattle.stripe_header.specs.declared.states.SpanFault.{SpanFault}
use Rattle.stripe_header.specs.declared.states.SpanFault.TheVariants.{Geometry}
use Rattle.stripe_header.specs.Layout.{device_blocks, stripe_blocks}
use Rattle.stripe_header.specs.Spelling.{numbers_of}
use Rattle.stripe_header.specs.Reading.{span_blocks, span_fault, span_numbers}
use Rattle.packed_directory.specs.PackedImage.{image_blocks_of}

-- a first block tells where this stripe lies: it is a span with the stripe's numbers and blocks
pub record TellsArea (first : List ℕ) (a : Area) : Type 0 where
  pub accepted : span_fault first ≡ None
  pub numbers : numbers_of a.geometry ≡ span_numbers first
  pub blocks : span_blocks first ≡ stripe_blocks a

-- so does that of a device with these bytes, with the directory that its numbers come to, and the device has room
pub record IsArea (bytes : List ℕ) (a : Area) : Type 0 where
  pub tells : TellsArea (take 512 bytes) a
  pub directory : a.directory ≡ image_blocks_of a.geometry
  pub room : 512 * device_blocks a ≤ length bytes

-- the same by the first block and how many blocks the device has
pub record IsAreaOn (first : List ℕ) (size : ℕ) (a : Area) : Type 0 where
  pub tells : TellsArea first a
  pub directory : a.directory ≡ image_blocks_of a.geometry
  pub room : device_blocks a ≤ size

-- which fault a device has: the first one of its span; where the span is accepted, that no stripe of its numbers has its
-- blocks or has room; a device without a whole first block has no room for any
pub record IsDeviceFault (bytes : List ℕ) (fault : SpanFault) : Type 0 where
  pub short : length bytes < 512 → fault ≡ Geometry
  pub faulty : (first : SpanFault) → 512 ≤ length bytes → span_fault (take 512 bytes) ≡ Some first → fault ≡ first
  pub unlaid : 512 ≤ length bytes → span_fault (take 512 bytes) ≡ None → (fault ≡ Geometry) × ((a : Area) → IsArea bytes a → ⊥)

-- the same by the first block and how many blocks the device has
pub record IsSpanFaultOn (first : List ℕ) (size : ℕ) (fault : SpanFault) : Type 0 where
  pub short : size ≡ 0 → fault ≡ Geometry
  pub faulty : (told : SpanFault) → 0 < size → span_fault first ≡ Some told → fault ≡ told
  pub unlaid : 0 < size → span_fault first ≡ None → (fault ≡ Geometry) × ((a : Area) → IsAreaOn first size a → ⊥)

-- the first block and the size decide where a stripe lies
abbrev pub AreasByBlock : Type 0
AreasByBlock = (bytes : List ℕ) (a : Area)
    → (IsArea bytes a → IsAreaOn (take 512 bytes) (length bytes / 512) a)
    × (IsAreaOn (take 512 bytes) (length bytes / 512) a → IsArea bytes a)

-- and which fault it is where none does
abbrev pub FaultsByBlock : Type 0
FaultsByBlock = (bytes : List ℕ) (fault : SpanFault)
    → (IsDeviceFault bytes fault → IsSpanFaultOn (take 512 bytes) (length bytes / 512) fault)
    × (IsSpanFaultOn (take 512 bytes) (length bytes / 512) fault → IsDeviceFault bytes fault)

-- no block tells two stripes
abbrev pub OneArea : Type 0
OneArea = (first : List ℕ) (one other : ℕ) (a b : Area) → IsAreaOn first one a → IsAreaOn first other b → a ≡ b
