-- Which place an entry stands for beside a cursor, as in the Traffic Server guide, "Cache Architecture": the
-- block of the content area, in the cursor's lap or in the one before, by the entry's phase.
use Rattle.std.specs.Prelude.{ℕ, ◌≡◌, ◌+◌, ◌-◌, ◌*◌, ◌≤◌, ◌<◌, ◌^◌, ◌&&◌, nat_le, nat_lt, Bool, cond}
use mathlib.Core.Bool.{beq}
use Rattle.tape_base.specs.declared.geometries.Geometry.{Geometry}
use Rattle.tape_base.specs.Place.{lap_of, slot_of, phase_of}
use Rattle.dir_entry.specs.declared.entry.Entry.{Entry}

-- how many laps before the cursor's an entry stands: none where it has the phase of the cursor's lap
abbrev pub laps_back : Geometry → ℕ → Entry → ℕ
laps_back g cursor e = cond (beq e.phase (phase_of g cursor)) 0 1

-- the place for which an entry stands while the buffer begins at a cursor
unfoldable pub place_of_entry : Geometry → ℕ → Entry → ℕ
place_of_entry g cursor e = g.content * (lap_of g cursor - laps_back g cursor e) + (e.offset - 1)

-- an entry has a block of the content area
abbrev pub has_block : Geometry → Entry → Bool
has_block g e = nat_lt 0 e.offset && nat_le e.offset g.content

-- and it stands for a place from one place on and below another
abbrev pub stands_between : Geometry → ℕ → ℕ → ℕ → Entry → Bool
stands_between g cursor low high e =
    has_block g e && (nat_le low (place_of_entry g cursor e) && nat_lt (place_of_entry g cursor e) high)

-- an entry has the block and the phase of a place
pub record IsOfPlace (g : Geometry) (place : ℕ) (e : Entry) : Type 0 where
  pub block : e.offset ≡ slot_of g place + 1
  pub phase : e.phase ≡ phase_of g place

-- where the lap before that of a cursor begins: no entry stands for a place below
abbrev pub least_place : Geometry → ℕ → ℕ
least_place g cursor = g.content * (lap_of g cursor - 1)

-- a cursor beside which entries can be read
pub record IsCursor (content cursor : ℕ) : Type 0 where
  pub first : content ≤ cursor
  pub bound : cursor < 2 ^ 62
