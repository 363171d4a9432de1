-- Which places of a directory are in range, and where a piece or a buffer may begin.
use Rattle.std.specs.Prelude.{ℕ, ◌≡◌, ◌+◌, ◌≤◌, ◌<◌, ◌^◌, ◌&&◌, nat_le, nat_lt, Bool}
use Rattle.tape_base.specs.declared.geometries.Geometry.{Geometry}
use Rattle.tape_base.specs.Place.{lap_of, floor_of}
use Rattle.dir_table.specs.declared.window.Window.{Window}

-- nothing is entered yet
abbrev pub first_window : Geometry → Window
first_window g = record { geometry = g; cursor = g.content; floor = floor_of g g.content; end = g.content }

-- the place may be read
abbrev pub is_in_range : Window → ℕ → Bool
is_in_range w place = nat_le w.floor place && nat_lt place w.end

-- a piece may begin at this place of the buffer: behind the last piece, and in the cursor's lap
pub record IsNextPlace (w : Window) (place : ℕ) : Type 0 where
  pub behind : w.end ≤ place
  pub below : place < w.cursor + w.geometry.agg
  pub lap : lap_of w.geometry place ≡ lap_of w.geometry w.cursor

-- a buffer may begin at this cursor, with this floor
pub record IsLater (w : Window) (cursor floor : ℕ) : Type 0 where
  pub first : w.geometry.content ≤ cursor
  pub bound : cursor < 2 ^ 62
  pub readable : floor_of w.geometry cursor ≤ floor
  pub low : floor ≤ cursor
