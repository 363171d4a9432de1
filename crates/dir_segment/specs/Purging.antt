-- Which entries a purge takes out, and what is left.
use Rattle.std.specs.Prelude.{ℕ, zero, suc, ◌+◌, ◌*◌, ◌/◌, ◌-◌, ◌==◌, Bool, true, false, not, cond, List, [], ◌∷◌, ◌++◌, length, drop, filter, slice_index_or, slice_set, Option, Some, None}
use Rattle.dir_entry.specs.declared.entry.Entry.{Entry}
use Rattle.dir_segment.specs.Lists.{SlotRow, Lists, chain_of, with_chain, has_slot, slots_behind_roots}
use Rattle.dir_segment.specs.Cleaning.{freed_by, each_bucket}

-- the rows behind the roots of all chains
abbrev pub behind_roots : List (List SlotRow) → List SlotRow
behind_roots [] = []
behind_roots (chain ∷ chains) = drop 1 chain ++ behind_roots chains

-- the row of a slot
abbrev pub find_slot : ℕ → List SlotRow → Option SlotRow
find_slot slot [] = None
find_slot slot (r ∷ rows) = cond (r.slot == slot) (Some r) (find_slot slot rows)

-- a row, if there is one, and then others
abbrev pub onto : Option SlotRow → List SlotRow → List SlotRow
onto None rows = rows
onto (Some r) rows = r ∷ rows

-- the rows of these slots, in the order of the slots
abbrev pub rows_of_slots : List ℕ → List SlotRow → List SlotRow
rows_of_slots [] rows = []
rows_of_slots (slot ∷ slots) rows = onto (find_slot slot rows) (rows_of_slots slots rows)

-- behind so many rows, every tenth from the next on
abbrev pub tenths : ℕ → List SlotRow → List SlotRow
tenths skip [] = []
tenths zero (r ∷ rows) = r ∷ tenths 9 rows
tenths (suc skip) (r ∷ rows) = tenths skip rows

-- the first, the eleventh and so on of the rows behind the roots, in slot order
abbrev pub purged : Lists → List SlotRow
purged lists = tenths 0 (rows_of_slots (slots_behind_roots 0 (length lists.chains)) (behind_roots lists.chains))

-- a tenth of the slots behind so many roots, rounded up
abbrev pub tenth_of : ℕ → ℕ
tenth_of buckets = (3 * buckets + 9) / 10

-- the row stands in another slot than all that go
abbrev pub is_left : List SlotRow → SlotRow → Bool
is_left gone r = not (has_slot r.slot gone)

-- the row's slot has no mark; slots behind the last mark have none
abbrev pub is_unmarked : List Bool → SlotRow → Bool
is_unmarked marks r = not (slice_index_or marks r.slot false)

-- a chain without the rows behind its root that fail, whose slots are freed along the chain
abbrev pub thin_chain : (SlotRow → Bool) → Lists → ℕ → List SlotRow → Lists
thin_chain test lists bucket [] = lists
thin_chain test lists bucket (root ∷ rows) = with_chain lists bucket (root ∷ filter test rows) (freed_by test rows lists.free)

-- the same by the chain that the bucket has
unfoldable pub thin_bucket : (SlotRow → Bool) → Lists → ℕ → Lists
thin_bucket test lists bucket = thin_chain test lists bucket (chain_of lists bucket)

-- the lists without the purged rows, bucket by bucket in rising order
abbrev pub after_purge : Lists → Lists
after_purge lists = each_bucket (thin_bucket (is_left (purged lists))) 0 (length lists.chains) lists

-- what a list for a purge holds: entries, marks of their slots, and how many rows go by before the next is taken
pub record Purge : Type 0 where
  pub buckets : ℕ
  pub skip : ℕ
  pub entries : List Entry
  pub marks : List Bool

-- a row comes by: every tenth is taken
abbrev pub offer : Purge → SlotRow → Purge
offer out r =
    cond (out.skip == 0)
    (record { buckets = out.buckets; skip = 9; entries = out.entries ++ r.entry ∷ []; marks = slice_set out.marks r.slot true })
    (record { buckets = out.buckets; skip = out.skip - 1; entries = out.entries; marks = out.marks })

-- a row comes by, where a slot has one; a slot that has none is not counted
abbrev pub offer_found : Option SlotRow → Purge → Purge
offer_found None out = out
offer_found (Some r) out = offer out r

-- the rows of these slots come by
abbrev pub offer_slots : List ℕ → List SlotRow → Purge → Purge
offer_slots [] rows out = out
offer_slots (slot ∷ slots) rows out = offer_slots slots rows (offer_found (find_slot slot rows) out)
