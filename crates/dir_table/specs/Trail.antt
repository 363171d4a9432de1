-- What a walk over numbered rows has left.
use Rattle.std.specs.Prelude.{ℕ, ◌==◌, ◌&&◌, nat_le, Bool, true, List, [], map, filter, length, Option, Some, None}
use Rattle.std.specs.List.{list_any}
use Rattle.dir_table.specs.declared.rows.StoredRow.{StoredRow}
use Rattle.dir_table.specs.declared.rows.Spot.{Spot}
use Rattle.dir_table.specs.declared.rows.Walk.{Walk}
use Rattle.dir_table.specs.declared.window.Window.{Window}
use Rattle.dir_table.specs.Window.{is_in_range}
use Rattle.dir_table.specs.Links.{rows_of, stands_at}

-- the rows of a spot from a number down
abbrev pub rows_down : Spot → Option ℕ → List (ℕ × StoredRow) → List StoredRow
rows_down spot None entries = []
rows_down spot (Some number) entries = filter (stands_at spot) (rows_of (filter (λ e. nat_le e.0 number) entries))

-- the rows that a walk has still to pass, in range or not, the newest first
abbrev pub trail_of : Walk → List (ℕ × StoredRow) → List StoredRow
trail_of walk entries = rows_down walk.spot walk.next entries

-- a row of the spot stands under the number
abbrev pub is_there : Spot → Option ℕ → List (ℕ × StoredRow) → Bool
is_there spot None entries = true
is_there spot (Some number) entries = list_any (λ e. number == e.0 && stands_at spot e.1) entries

-- the walk is at its end, or stands at a row of its spot
abbrev pub is_on : Walk → List (ℕ × StoredRow) → Bool
is_on walk entries = is_there walk.spot walk.next entries

-- the places in range
abbrev pub places_in : Window → List StoredRow → List ℕ
places_in w rows = map (λ r. r.place) (filter (λ r. is_in_range w r.place) rows)

-- the places that a walk has left to give
abbrev pub places_left : Window → Walk → List (ℕ × StoredRow) → List ℕ
places_left w walk entries = places_in w (trail_of walk entries)

-- how many rows it has to pass for them
abbrev pub count_left : Walk → List (ℕ × StoredRow) → ℕ
count_left walk entries = length (trail_of walk entries)
