-- What walks over a packed directory have left.
use Rattle.std.specs.Prelude.{ℕ, ◌≡◌, ◌-◌, ◌<◌, ◌≤◌, ◌^◌, ◌==◌, true, cond, List, [], map, filter, Option, Some, None, IfSome}
use Rattle.tape_base.specs.declared.geometries.Geometry.{Geometry}
use Rattle.tape_base.specs.declared.keys.Key.{Key}
use Rattle.dir_segment.specs.Lists.{SlotRow, chain_of, all_or_behind, has_slot, steps_to}
use Rattle.dir_table.specs.declared.rows.StoredRow.{StoredRow}
use Rattle.dir_table.specs.declared.rows.Walk.{Walk}
use Rattle.packed_directory.specs.Phases.{place_of_entry}
use Rattle.packed_directory.specs.StoredRows.{is_under}
use Rattle.packed_directory.specs.Packed.{Packed, segment_at}

-- the slot behind which a walk goes on, none where it begins: they are told from 1 on
abbrev pub slot_before : ℕ → Option ℕ
slot_before next = cond (next == 0) None (Some (next - 1))

-- the rows of a chain that a walk has still to look at; none where it is over
abbrev pub rows_on : Option ℕ → List SlotRow → List SlotRow
rows_on None chain = []
rows_on (Some next) chain = all_or_behind (slot_before next) chain

-- those of its own chain
abbrev pub chain_ahead : Packed → Walk → List SlotRow
chain_ahead d w = rows_on w.next (chain_of (segment_at d.segments w.spot.segment) w.spot.bucket)

-- the places that a walk has left
abbrev pub places_ahead : Packed → Walk → List ℕ
places_ahead d w =
    map (λ r. place_of_entry d.geometry d.cursor r.entry)
    (filter (λ r. r.entry.tag == w.spot.tag) (chain_ahead d w))

-- how many entries it looks at before it gives the next place
abbrev pub steps_ahead : Packed → Walk → ℕ
steps_ahead d w = steps_to w.spot.tag (chain_ahead d w)

-- a walk goes on in a chain: at its beginning, or behind one of its slots
pub record GoesOnInChain (next : ℕ) (chain : List SlotRow) : Type 0 where
  pub small : next ≤ 2 ^ 16
  pub stands : IfSome (slot_before next) (λ slot. has_slot slot chain ≡ true)

-- a walk was made of this state
pub record IsWalk (d : Packed) (w : Walk) : Type 0 where
  pub within : w.spot.segment < d.geometry.segments
  pub below : w.spot.bucket < d.geometry.buckets
  pub on : IfSome w.next (λ next.
      GoesOnInChain next (chain_of (segment_at d.segments w.spot.segment) w.spot.bucket))

-- the places of the rows under the segment, the bucket and the tag of a key
abbrev pub places_under : Geometry → Key → List StoredRow → List ℕ
places_under g key rows = map (λ r. r.place) (filter (is_under g key) rows)
