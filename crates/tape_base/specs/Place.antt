-- Places on the endless tape: the content area is written in a circle, a lap at a time, as the
-- Traffic Server guide describes; and the blocks of a device on which they lie.
use Rattle.std.specs.Prelude.{ℕ, ◌+◌, ◌-◌, ◌*◌, ◌/◌, ◌%◌, ◌==◌, min, nat_lt, Bool, if◌then◌else◌}
use Rattle.tape_base.specs.declared.geometries.Geometry.{Geometry}

-- how many laps lie below a place; the first one that is written has the number 1
abbrev pub lap_of : Geometry → ℕ → ℕ
lap_of g place = place / g.content

-- the block of the content area at which a place lies, from 0
abbrev pub slot_of : Geometry → ℕ → ℕ
slot_of g place = place % g.content

-- the blocks of a directory of so many segments: four bytes of each, and forty of each of its buckets
unfoldable pub directory_blocks : (segments buckets : ℕ) → ℕ
directory_blocks segments buckets = (segments * (4 + 40 * buckets) + 511) / 512

-- those of a geometry
abbrev pub directory_blocks_of : Geometry → ℕ
directory_blocks_of g = directory_blocks g.segments g.buckets

-- the first block of the content, behind a span, two gates and two copies of the directory with a block before and behind each
abbrev pub content_block_of : Geometry → ℕ
content_block_of g = 7 + 2 * directory_blocks_of g

-- the block of a device on which a place lies
abbrev pub block_of : Geometry → ℕ → ℕ
block_of g place = content_block_of g + slot_of g place

-- the blocks of a whole device, by the numbers of its stripe
abbrev pub device_blocks : (segments buckets content : ℕ) → ℕ
device_blocks segments buckets content = 7 + 2 * directory_blocks segments buckets + content

abbrev pub device_blocks_of : Geometry → ℕ
device_blocks_of g = device_blocks g.segments g.buckets g.content

-- whether the lap of a place is odd, which one bit can keep: two laps in a row differ in it
abbrev pub phase_of : Geometry → ℕ → Bool
phase_of g place = lap_of g place % 2 == 1

-- the place at which the next lap begins
abbrev pub lap_end_of : Geometry → ℕ → ℕ
lap_end_of g place = g.content * (lap_of g place + 1)

-- the place up to which content may be written while the last sync is at this cursor
abbrev pub reach_of : Geometry → ℕ → ℕ
reach_of g cursor = min (cursor + g.reach) (lap_end_of g cursor)

-- the least place that stays readable while a buffer that begins at this cursor is filled
abbrev pub floor_of : Geometry → ℕ → ℕ
floor_of g cursor = cursor + g.agg - g.content

-- the cursor behind so many filled blocks: the next lap's start where this lap has no room for
-- another buffer
abbrev pub next_cursor_of : Geometry → ℕ → ℕ → ℕ
next_cursor_of g cursor filled =
    let end = lap_end_of g cursor in
    let next = cursor + filled in
    if nat_lt end (next + g.agg) then end else next
