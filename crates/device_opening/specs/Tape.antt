-- What was read of the tape, and what stands there.
use Rattle.std.specs.Prelude.{◌≡◌, ◌+◌, ◌-◌, ◌/◌, ◌≤◌, ◌<◌, ◌++◌, ℕ, true, List, [], ◌∷◌, length}
use Rattle.std.specs.List.{AllByRecursion}
use Rattle.device_log.specs.Image.{Image, span}
use Rattle.stripe_header.specs.declared.area.Area.{Area}
use Rattle.stripe_header.specs.declared.states.CopyState.{CopyState}
use Rattle.stripe_header.specs.Layout.{block_of_place, content_of, device_blocks}
use Rattle.dir_table.specs.declared.rows.StoredRow.{StoredRow}
use Rattle.reopening.specs.Newest.{bound_of}
use Rattle.reopening.specs.Tests.{is_inside, standing_from}
use Rattle.device_opening.specs.declared.search.Search.{Search}
use Rattle.device_opening.specs.declared.stretch.Stretch.{Stretch}
use Rattle.device_opening.specs.declared.stretch.Stretches.{Stretches}
use Rattle.device_opening.specs.declared.window.Window.{Window}

-- the block behind those of a window
abbrev pub end_of_window : Window → ℕ
end_of_window w = w.first + length w.bytes.items / 512

-- it has what an image has in its blocks
abbrev pub Shows : Window → Image → Type 0
Shows w c = w.bytes.items ≡ span c w.first (length w.bytes.items / 512)

-- the block behind those of a stretch
abbrev pub end_of_stretch : Stretch → ℕ
end_of_stretch s = s.first + (s.high - s.low)

-- its places lie block behind block on the device, none is above the cursor, and a document that is inside ends with them
pub record IsStretch (s : Stretch) : Type 0 where
  pub order : s.low ≤ s.high
  pub below : s.high ≤ s.told.cursor
  pub blocks : (p : ℕ) → s.low ≤ p → p < s.high → block_of_place s.area p ≡ s.first + (p - s.low)
  pub ends : (p n : ℕ) → s.low ≤ p → p < s.high → is_inside s.area.geometry s.told.cursor p n ≡ true → p + n ≤ s.high
  pub room : end_of_stretch s ≤ device_blocks s.area

-- both stretches of a copy: from its bound up to where the cursor's lap begins, and from there up to the cursor, which lies before
-- the other on the device
pub record AreStretches (a : Area) (told : CopyState) (both : Stretches) : Type 0 where
  pub area : (both.here.area ≡ a) × (both.before.area ≡ a)
  pub told_is : (both.here.told ≡ told) × (both.before.told ≡ told)
  pub here : IsStretch both.here
  pub before : IsStretch both.before
  pub order : (content_of a ≤ both.here.first) × (end_of_stretch both.here ≤ both.before.first)
  pub bound : both.before.low ≡ bound_of a.geometry told
  pub seam : both.before.high ≡ both.here.low
  pub cursor : both.here.high ≡ told.cursor

-- elements stand in rising place, from one on
abbrev pub Ascend : ℕ → List StoredRow → Type 0
Ascend low [] = Unit {0}
Ascend low (r ∷ rest) = (low ≤ r.place) × Ascend r.place rest

-- all of them stand below a place
abbrev pub StandBelow : ℕ → List StoredRow → Type 0
StandBelow high rows = AllByRecursion (λ r. r.place < high) rows

-- or at or above it
abbrev pub StandFrom : ℕ → List StoredRow → Type 0
StandFrom low rows = AllByRecursion (λ r. low ≤ r.place) rows

-- the next place of a search is one of the stretch, and its window begins not behind it and ends with the stretch at most
pub record IsSearch (s : Stretch) (search : Search) : Type 0 where
  pub next : (s.low ≤ search.next) × (search.next ≤ s.high)
  pub rising : search.window.first ≤ s.first + (search.next - s.low)
  pub limit : end_of_window search.window ≤ end_of_stretch s

-- a search has found what stands at the places below its next one, and what is left are these elements
pub record IsUnderWay (s : Stretch) (rows rest : List StoredRow) (search : Search) (c : Image) : Type 0 where
  pub shows : Shows search.window c
  pub found : search.found.items ++ standing_from s.area s.told rest c search.next (s.high - search.next)
      ≡ standing_from s.area s.told rows c s.low (s.high - s.low)
