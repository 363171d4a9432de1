-- How the slots of a segment hold its lists: by links that lead from slot to slot and end at 0.
use Rattle.std.specs.Prelude.{◌≡◌, ℕ, zero, suc, ◌+◌, ◌*◌, ◌%◌, ◌<◌, ◌≤◌, ◌==◌, nat_lt, if◌then◌else◌, false, cond, List, [], ◌∷◌, ◌++◌, length, map, slice_index_or}
use Rattle.dir_entry.specs.declared.entry.Entry.{Entry}
use Rattle.dir_segment.specs.Lists.{SlotRow, Lists, row, entry_count}

-- the entry of a slot that holds none and links to none
abbrev pub empty : Entry
empty = record { offset = 0; big = 0; size = 0; tag = 0; phase = false; head = false; pinned = false; token = false; next = 0 }

-- the entry of a slot; behind the last one an empty entry
abbrev pub at : List Entry → ℕ → Entry
at slots slot = slice_index_or slots slot empty

-- the used entries that links lead through, from a slot on
abbrev pub IsChain : List Entry → ℕ → List SlotRow → Type 0
IsChain slots slot [] = slot ≡ 0
IsChain slots slot (r ∷ rows) =
    (0 < slot) × (0 < (at slots slot).offset) × (r ≡ row slot (at slots slot)) × IsChain slots (at slots slot).next rows

-- the chain of a bucket: its root, which is slot four times the bucket, and what that links to
abbrev pub IsBucket : List Entry → ℕ → List SlotRow → Type 0
IsBucket slots bucket [] = ((at slots (4 * bucket)).offset ≡ 0) × ((at slots (4 * bucket)).next ≡ 0)
IsBucket slots bucket (r ∷ rows) =
    (0 < (at slots (4 * bucket)).offset) × (r ≡ row (4 * bucket) (at slots (4 * bucket)))
    × IsChain slots (at slots (4 * bucket)).next rows

-- the empty slots that links lead through, from a slot on
abbrev pub IsFreeList : List Entry → ℕ → List ℕ → Type 0
IsFreeList slots slot [] = slot ≡ 0
IsFreeList slots slot (s ∷ free) =
    (0 < slot) × ((at slots slot).offset ≡ 0) × (s ≡ slot) × IsFreeList slots (at slots slot).next free

-- the slots of a chain behind its root
abbrev pub followers : List SlotRow → List ℕ
followers [] = []
followers (root ∷ rows) = map (λ r. r.slot) rows

-- the slots of the chains from a bucket on, empty roots among them
abbrev pub lines : ℕ → List (List SlotRow) → List ℕ
lines bucket [] = []
lines bucket (chain ∷ chains) = 4 * bucket ∷ (followers chain ++ lines (suc bucket) chains)

-- the slots of all lists
abbrev pub all_slots : Lists → List ℕ
all_slots lists = lists.free ++ lines 0 lists.chains

-- 1 where two slots are the same, and else 0
abbrev pub slot_hits : ℕ → ℕ → ℕ
slot_hits slot other = cond (slot == other) 1 0

-- how often a slot stands in a list
abbrev pub occurrences : ℕ → List ℕ → ℕ
occurrences slot [] = 0
occurrences slot (s ∷ slots) = slot_hits s slot + occurrences slot slots

-- every slot is in exactly one of the lists, and the counts agree
pub record IsSegment (slots : List Entry) (head spare taken buckets : ℕ) (lists : Lists) : Type 0 where
  pub some : 0 < buckets
  pub few : buckets ≤ 16383
  pub size : length slots ≡ 4 * buckets
  pub width : length lists.chains ≡ buckets
  pub chains : (b : ℕ) → b < buckets → IsBucket slots b (slice_index_or lists.chains b [])
  pub free : IsFreeList slots head lists.free
  pub once : (s : ℕ) → occurrences s (all_slots lists) ≡ cond (nat_lt s (4 * buckets)) 1 0
  pub total : length (all_slots lists) ≡ 4 * buckets
  pub free_count : spare ≡ length lists.free
  pub used_count : taken ≡ entry_count lists.chains

-- the rows that links lead through from a slot on, at most so many
abbrev pub rows_linked_from : List Entry → ℕ → ℕ → List SlotRow
rows_linked_from slots zero slot = []
rows_linked_from slots (suc most) slot = cond (slot == 0) [] (row slot (at slots slot) ∷ rows_linked_from slots most (at slots slot).next)

-- a bucket's chain, the root first; no more links are followed than there are slots, so that a loop ends
abbrev pub bucket_rows : List Entry → ℕ → List SlotRow
bucket_rows slots bucket =
    cond ((at slots (4 * bucket)).offset == 0) []
    (row (4 * bucket) (at slots (4 * bucket)) ∷ rows_linked_from slots (length slots) (at slots (4 * bucket)).next)

-- the chains of so many buckets from one on
abbrev pub chains_from : List Entry → ℕ → ℕ → List (List SlotRow)
chains_from slots bucket zero = []
chains_from slots bucket (suc buckets) = bucket_rows slots bucket ∷ chains_from slots (suc bucket) buckets

-- the slots that links lead through from one on, at most so many, whatever stands in them
abbrev pub free_from : List Entry → ℕ → ℕ → List ℕ
free_from slots zero slot = []
free_from slots (suc most) slot = cond (slot == 0) [] (slot ∷ free_from slots most (at slots slot).next)

-- the lists that the slots hold, by the first free slot and the number of buckets
unfoldable pub lists_of : List Entry → ℕ → ℕ → Lists
lists_of slots head buckets = record { chains = chains_from slots 0 buckets; free = free_from slots (length slots) head }

-- what a slot of a new segment links to: the next that is no root, 0 at the end; a root to nothing
abbrev pub fresh_link : ℕ → ℕ → ℕ
fresh_link end slot =
    if slot % 4 == 0 then 0 else (if slot % 4 == 3 then (if nat_lt (slot + 2) end then slot + 2 else 0) else slot + 1)
