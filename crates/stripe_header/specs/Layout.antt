-- Where the parts of a stripe lie on its device, in blocks of 512 bytes.
use Rattle.std.specs.Prelude.{ℕ, ◌+◌, ◌*◌}
use Rattle.tape_base.specs.Place.{slot_of}
use Rattle.stripe_header.specs.declared.area.Area.{Area}
use Rattle.stripe_header.specs.declared.area.Side.{Side}
use Rattle.stripe_header.specs.declared.area.Side.TheVariants as sides

-- the side of the other copy
abbrev pub other_side : Side → Side
other_side sides.A = sides.B
other_side sides.B = sides.A

-- the block of a copy's gate
abbrev pub gate_of : Side → ℕ
gate_of sides.A = 1
gate_of sides.B = 2

-- the first block of a copy's body
abbrev pub body_of : Area → Side → ℕ
body_of a sides.A = 3
body_of a sides.B = 5 + a.directory

-- the blocks of a body: a header, the directory and a footer
abbrev pub body_blocks : Area → ℕ
body_blocks a = a.directory + 2

-- the first block of the content
abbrev pub content_of : Area → ℕ
content_of a = 7 + 2 * a.directory

-- the block of a place of the tape
abbrev pub block_of_place : Area → ℕ → ℕ
block_of_place a place = content_of a + slot_of a.geometry place

-- the blocks behind the span's header
abbrev pub stripe_blocks : Area → ℕ
stripe_blocks a = 2 * a.directory + a.geometry.content + 6

-- the blocks of the whole device
abbrev pub device_blocks : Area → ℕ
device_blocks a = content_of a + a.geometry.content
