-- What a walk over the places of a key gives.
use Rattle.std.specs.Prelude.{ℕ, ◌≡◌, ◌+◌, ◌-◌, ◌≤◌, ◌^◌, ◌&&◌, min, List, [], ◌∷◌, map, filter, Option, Some, None, IsSome}
use Rattle.tape_base.specs.declared.keys.Key.{Key}
use Rattle.dir_table.specs.declared.rows.DirRow.{DirRow}
use Rattle.dir_table.specs.declared.rows.Spot.{Spot}
use Rattle.dir_table.specs.Rows.{is_at, spot_of_key}
use Rattle.dir_table.specs.declared.window.Window.{Window}
use Rattle.dir_table.specs.Window.{is_in_range}

-- the places in range of the rows under a segment, a bucket and a tag
abbrev pub places_at : Window → Spot → List DirRow → List ℕ
places_at w spot rows = map (λ r. r.place) (filter (λ r. is_at spot r && is_in_range w r.place) rows)

-- the places in range that a key may have
abbrev pub candidates_of : Window → Key → List DirRow → List ℕ
candidates_of w key rows = places_at w (spot_of_key w.geometry key) rows

-- the first is given and the others are left, or there was none
abbrev pub GivesFirst : {X : Type 0} → List X → Option X → List X → Type 0
GivesFirst before (Some x) after = before ≡ x ∷ after
GivesFirst before None after = (before ≡ []) × (after ≡ [])

-- a step is counted for a place that is given, and none but for rows that are passed: of those that
-- a walk had ahead before, fewer are ahead after. The counter stays at its greatest value
pub record Counts (ahead ahead' : ℕ) (place : Option ℕ) (before after : ℕ) : Type 0 where
  pub later : before ≤ after
  pub given : IsSome place → min (before + 1) (2 ^ 64 - 1) ≤ after
  pub passed : after + ahead' ≤ before + ahead
