-- The approximate size of a document: `size + 1` units of 512, 4096, 32768 or 262144 bytes (Traffic Server
-- guide, "Cache Architecture").
use Rattle.std.specs.Prelude.{◌≡◌, ℕ, ◌+◌, ◌*◌, ◌^◌, ◌<◌, ◌≤◌, ◌⊎◌}

-- the blocks of a size class
abbrev pub class_blocks : ℕ → ℕ → ℕ
class_blocks big size = (size + 1) * 8 ^ big

-- the least class that holds so many blocks, the unit counting before the number of units
pub record IsLeastClass (blocks big size : ℕ) : Type 0 where
  pub big_fits : big < 4
  pub size_fits : size < 64
  pub holds : blocks ≤ class_blocks big size
  pub least : (b s : ℕ) → s < 64 → blocks ≤ class_blocks b s → (big < b) ⊎ ((big ≡ b) × (size ≤ s))
