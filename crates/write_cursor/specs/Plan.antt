-- What a flush of the buffer at the cursor plans.
use Rattle.std.specs.Prelude.{ℕ, ◌<◌, ◌≤◌, ◌+◌, ◌^◌, ◌==◌, ◌||◌, nat_lt, Bool}
use Rattle.tape_base.specs.declared.geometries.Geometry.{Geometry}
use Rattle.tape_base.specs.Place.{lap_end_of, floor_of, next_cursor_of}

-- the place is one that a stripe uses
pub record IsPlace (g : Geometry) (place : ℕ) : Type 0 where
  pub from : g.content ≤ place
  pub below : place < 2 ^ 62

-- the whole buffer that begins at this cursor lies in one lap
abbrev pub FitsInLap : Geometry → ℕ → Type 0
FitsInLap g cursor = cursor + g.agg ≤ lap_end_of g cursor

-- the next buffer begins a lap
abbrev pub is_wrapped : Geometry → ℕ → ℕ → Bool
is_wrapped g cursor filled = next_cursor_of g cursor filled == lap_end_of g cursor

-- a sync is due with this flush: the next buffer begins a lap, or ends above the reach of the last
-- sync
abbrev pub is_sync_due : Geometry → ℕ → ℕ → ℕ → Bool
is_sync_due g cursor synced filled =
    is_wrapped g cursor filled || nat_lt (synced + g.reach) (next_cursor_of g cursor filled + g.agg)

-- the place is one that may be read or filled while the buffer at this cursor is filled
pub record IsInWindow (g : Geometry) (cursor place : ℕ) : Type 0 where
  pub from : floor_of g cursor ≤ place
  pub below : place < cursor + g.agg
