-- What is left of segments where entries outside two places go out.
use Rattle.std.specs.Prelude.{ℕ, ◌≡◌, ◌<◌, List, length, filter}
use Rattle.tape_base.specs.declared.geometries.Geometry.{Geometry}
use Rattle.dir_segment.specs.Lists.{Lists}
use Rattle.packed_directory.specs.Entering.{entries_from}
use Rattle.packed_directory.specs.Phases.{stands_between}
use Rattle.packed_directory.specs.Packed.{segment_at}

-- of a segment the entries are left that stand for a place from one place on and below another
pub record IsCleaned (g : Geometry) (cursor low high : ℕ) (before after : Lists) : Type 0 where
  pub entries : entries_from 0 after.chains ≡ filter (λ it. stands_between g cursor low high it.entry) (entries_from 0 before.chains)
  pub width : length after.chains ≡ length before.chains

-- so of each segment
pub record AreCleaned (g : Geometry) (cursor low high : ℕ) (before after : List Lists) : Type 0 where
  pub count : length after ≡ length before
  pub each : (i : ℕ) → i < length before → IsCleaned g cursor low high (segment_at before i) (segment_at after i)
