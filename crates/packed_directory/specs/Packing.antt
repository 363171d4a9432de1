-- What the fields of a `PackedDirectory` keep.
use Rattle.std.specs.Prelude.{◌≡◌, ◌≤◌}
use Rattle.dir_segment.specs.Purging.{tenth_of}
use Rattle.packed_directory.specs.Packed.{Packed, IsPacked}
use Rattle.packed_directory.specs.declared.packed.PackedDirectory.TheInside.{Inside}

-- what the fields stand for
abbrev pub packed_of : Inside → Packed
packed_of d = record {
  geometry = d.beside.geometry;
  cursor = d.beside.cursor;
  floor = d.floor;
  end = d.end;
  segments = d.segments.items;
  out = d.displaced.told;
}

-- each entry is the one row of its place, and there is memory for a whole purge
pub record IsPacking (d : Inside) : Type 0 where
  pub packed : IsPacked d.beside.geometry d.beside.cursor d.floor d.end d.segments.items
  pub made : d.purge.buckets ≡ d.beside.geometry.buckets
  pub room : tenth_of d.beside.geometry.buckets ≤ d.displaced.room
