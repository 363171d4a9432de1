-- The bytes of a block device, and what writes and flips make of them.
use Rattle.std.specs.Prelude.{◌≡◌, ℕ, zero, suc, ◌+◌, ◌-◌, ◌*◌, ◌/◌, ◌<◌, ◌≤◌, ◌==◌, nat_le, nat_lt, Bool, ◌&&◌, if◌then◌else◌, List, [], ◌++◌, length, take, drop, replicate, slice_index, slice_set, bit_xor}
use Rattle.hex.specs.Hex.{IsBytes}
use Rattle.tape_base.specs.declared.geometries.Geometry.{Geometry}
use Rattle.tape_base.specs.Place.{slot_of}

-- a device's bytes: of each block its 512
abbrev pub Image : Type 0
Image = ℕ → List ℕ

-- each block has 512 bytes, and they are bytes
pub record IsImage (c : Image) : Type 0 where
  pub whole : (j : ℕ) → length (c j) ≡ 512
  pub bytes : (j : ℕ) → IsBytes (c j)

-- a block that was never written
unfoldable pub zeros : List ℕ
zeros = replicate 512 0

-- a device on which nothing was written
abbrev pub blank : Image
blank = λ _. zeros

-- a block in which a write stopped in the middle: the byte A5 throughout
unfoldable pub junk : List ℕ
junk = replicate 512 165

-- the bytes of so many blocks from one on
unfoldable pub span : Image → ℕ → ℕ → List ℕ
span c at zero = []
span c at (suc n) = c at ++ span c (at + 1) n

-- the block is among so many from one on
abbrev pub in_range : ℕ → ℕ → ℕ → Bool
in_range at n j = nat_le at j && nat_lt j (at + n)

-- an image with so many blocks of the bytes, from a block on
abbrev pub put_blocks : ℕ → ℕ → List ℕ → Image → Image
put_blocks at n bytes c j = if in_range at n j then take 512 (drop (512 * (j - at)) bytes) else c j

-- an image with all blocks of the bytes, from a block on
abbrev pub put : ℕ → List ℕ → Image → Image
put at bytes c = put_blocks at (length bytes / 512) bytes c

-- one image, and within so many blocks another
abbrev pub within : ℕ → ℕ → Image → Image → Image
within at n inside c j = if in_range at n j then inside j else c j

-- a block with the lowest bit of one byte turned
abbrev pub turned : ℕ → List ℕ → List ℕ
turned byte block = slice_set block byte (bit_xor (slice_index block byte) 1)

-- an image with that done to one block
abbrev pub flipped : ℕ → ℕ → Image → Image
flipped at byte c j = if j == at then turned byte (c j) else c j

-- the same but for so many blocks from one on
abbrev pub SameBut : ℕ → ℕ → Image → Image → Type 0
SameBut at n old new = (j : ℕ) → (at ≤ j → j < at + n → ⊥) → new j ≡ old j

-- the block of a place of the tape, whose content begins at the block `area`
abbrev pub block_of : ℕ → Geometry → ℕ → ℕ
block_of area g place = area + slot_of g place
