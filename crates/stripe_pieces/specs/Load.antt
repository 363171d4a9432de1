-- How blocks of a cyclone are read to the front of bytes.
use Rattle.std.specs.Prelude.{ℕ, ◌≡◌, ◌*◌, ◌<◌, ◌≤◌, IsOk, List, Result, length, take}
use Rattle.edge_io.specs.declared.source.Failed.{Failed}
use Rattle.logged_disk.specs.declared.device.Disk.{Ghosts as DiskGhosts}
use Rattle.dir_table.specs.declared.directory.Directory.{Ghosts as DirectoryGhosts}
use Rattle.cyclone.specs.declared.cyclone.Cyclone.{Cyclone}
use Rattle.cyclone.specs.Cyclone.{BlocksStand, IsCyclone, ReadsBlocks, SameTape, seen_cyclone}

module _ {D R : Type 0} {d : DiskGhosts D} {r : DirectoryGhosts R} where
  -- so many blocks from a place on stand there, not none, and the bytes have room for them
  pub record CanLoad (place blocks : ℕ) (into : List ℕ) (c : Cyclone D R d r) : Type 0 where
    pub turns : IsCyclone c
    pub some : 0 < blocks
    pub within : 512 * blocks ≤ length into
    pub stored : BlocksStand (seen_cyclone c) place blocks

  -- they were read into bytes that were these and are those, or a call was refused
  pub record Loads (place blocks : ℕ) (before after : List ℕ) (result : Result (Unit {0}) Failed) (old new : Cyclone D R d r) : Type 0 where
    pub turns : IsCyclone new
    pub same : SameTape (seen_cyclone old) (seen_cyclone new)
    pub reads : ReadsBlocks (seen_cyclone old) (seen_cyclone new) place blocks result (take (512 * blocks) after)
    pub buffered : (seen_cyclone old).buffer.cursor ≤ place → IsOk result
    pub length : length after ≡ length before
