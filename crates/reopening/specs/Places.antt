-- Which places an opening has to look at, and which entries at each.
use Rattle.std.specs.Prelude.{◌≡◌, ℕ, ◌+◌, ◌-◌, ◌≤◌, ◌<◌, ◌==◌, Bool, true, List, [], ◌∷◌, filter}
use Rattle.std.specs.List.{filter_map, list_any}
use Rattle.std.specs.List.Sorted.{IsPermutation}
use Rattle.tape_base.specs.declared.geometries.Geometry.{Geometry}
use Rattle.stripe_header.specs.declared.states.CopyState.{CopyState}
use Rattle.dir_table.specs.declared.rows.StoredRow.{StoredRow}
use Rattle.reopening.specs.Tests.{judged}
use Rattle.reopening.specs.Alike.{has_place}
use Rattle.reopening.specs.Given.{all_given, standing_given}

-- places rise, from one up to another
abbrev pub PlacesRise : ℕ → List ℕ → ℕ → Type 0
PlacesRise low [] high = low ≤ high
PlacesRise low (p ∷ rest) high = (low ≤ p) × (p < high) × PlacesRise (p + 1) rest high

-- the place is one of these
abbrev pub is_among_places : List ℕ → ℕ → Bool
is_among_places places place = list_any (λ p. p == place) places

-- where all places of entries are among some that rise, what passes at these is all that passes
abbrev pub PlacesSuffice : Type 0
PlacesSuffice = (g : Geometry) (told : CopyState) (rows : List StoredRow) (docs : ℕ → List ℕ)
    (low high : ℕ) (places : List ℕ) → PlacesRise low places high
    → ((p : ℕ) → low ≤ p → p < high → has_place p rows ≡ true → is_among_places places p ≡ true)
    → all_given g told rows docs low (high - low) ≡ filter_map (standing_given g told rows docs) places

-- at a place its own entries decide, in any order
abbrev pub GroupDecides : Type 0
GroupDecides = (g : Geometry) (told : CopyState) (rows group : List StoredRow) (place : ℕ) (bytes : List ℕ)
    → IsPermutation group (filter (λ r. r.place == place) rows)
    → judged g told group place bytes ≡ judged g told rows place bytes
