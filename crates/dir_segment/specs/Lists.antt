-- What a segment stands for: one list of entries for each bucket, and the list of the free slots. Segments,
-- buckets of four and chains are those of the Traffic Server guide, "Cache Architecture".
use Rattle.std.specs.Prelude.{◌≡◌, ◌≢◌, ℕ, zero, suc, ◌+◌, ◌-◌, ◌*◌, ◌^◌, min, ◌&&◌, ◌||◌, ◌==◌, Bool, true, false, cond, List, [], ◌∷◌, length, drop, Option, Some, None, slice_index_or, slice_set}
use Rattle.std.specs.List.{list_any}
use mathlib.Core.Bool.{beq}
use Rattle.dir_entry.specs.declared.entry.Entry.{Entry}

-- an entry, and the slot that it stands in
pub record SlotRow : Type 0 where
  pub slot : ℕ
  pub entry : Entry

-- the chain of each bucket from its root on, and the free slots in the order in which they are taken
pub record Lists : Type 0 where
  pub chains : List (List SlotRow)
  pub free : List ℕ

-- an entry without its link to the next
abbrev pub unlinked : Entry → Entry
unlinked e = record e { next = 0 }

-- a row of an entry, whose link is dropped: the order of the chain has it
abbrev pub row : ℕ → Entry → SlotRow
row slot e = record { slot = slot; entry = unlinked e }

-- the chain of a bucket; behind the last bucket an empty one
abbrev pub chain_of : Lists → ℕ → List SlotRow
chain_of lists bucket = slice_index_or lists.chains bucket []

-- the lists with another chain of one bucket and other free slots
abbrev pub with_chain : Lists → ℕ → List SlotRow → List ℕ → Lists
with_chain lists bucket chain free = record { chains = slice_set lists.chains bucket chain; free = free }

-- an entry goes into the empty root, else into the first free slot and right behind the root
abbrev pub insert_at : Lists → ℕ → Entry → List SlotRow → List ℕ → Lists
insert_at lists bucket e [] free = with_chain lists bucket (row (4 * bucket) e ∷ []) free
insert_at lists bucket e (root ∷ rest) [] = lists
insert_at lists bucket e (root ∷ rest) (slot ∷ free) = with_chain lists bucket (root ∷ row slot e ∷ rest) free

-- an entry goes into a bucket; where that is full, nothing changes
abbrev pub inserted : Lists → ℕ → Entry → Lists
inserted lists bucket e = insert_at lists bucket e (chain_of lists bucket) lists.free

-- the root is used, and no slot is free
abbrev pub IsFull : Lists → ℕ → Type 0
IsFull lists bucket = (chain_of lists bucket ≢ []) × (lists.free ≡ [])

-- how many entries stand on all chains
abbrev pub entry_count : List (List SlotRow) → ℕ
entry_count [] = 0
entry_count (chain ∷ chains) = length chain + entry_count chains

-- a row of the chain stands in the slot
abbrev pub has_slot : ℕ → List SlotRow → Bool
has_slot slot [] = false
has_slot slot (r ∷ rows) = (r.slot == slot) || has_slot slot rows

-- the rows behind the one in a slot
abbrev pub behind_slot : ℕ → List SlotRow → List SlotRow
behind_slot slot [] = []
behind_slot slot (r ∷ rows) = cond (r.slot == slot) rows (behind_slot slot rows)

-- all rows, or those behind the one in a slot
abbrev pub all_or_behind : Option ℕ → List SlotRow → List SlotRow
all_or_behind None rows = rows
all_or_behind (Some slot) rows = behind_slot slot rows

-- the first row goes out: the next moves into the root, and its slot is freed
abbrev pub take_root : Lists → ℕ → List SlotRow → Lists
take_root lists bucket [] = lists
take_root lists bucket (root ∷ []) = with_chain lists bucket [] lists.free
take_root lists bucket (root ∷ r ∷ rows) = with_chain lists bucket (row root.slot r.entry ∷ rows) (r.slot ∷ lists.free)

-- the row behind the one in a slot goes out
abbrev pub without_next : ℕ → List SlotRow → List SlotRow
without_next slot [] = []
without_next slot (r ∷ rows) = r ∷ cond (r.slot == slot) (drop 1 rows) (without_next slot rows)

-- the slot of the first row is free, before the others
abbrev pub with_first_free : List SlotRow → List ℕ → List ℕ
with_first_free [] free = free
with_first_free (r ∷ rows) free = r.slot ∷ free

-- the same of the lists: the slot of that row is the first free one then
abbrev pub take_next : Lists → ℕ → ℕ → List SlotRow → Lists
take_next lists bucket slot chain = with_chain lists bucket (without_next slot chain) (with_first_free (behind_slot slot chain) lists.free)

-- an answer is the first of the rows behind, and the chain goes on behind its slot
abbrev pub GivesNext : Option (ℕ × Entry) → List SlotRow → List SlotRow → Type 0
GivesNext None rest chain = rest ≡ []
GivesNext (Some found) rest chain =
    (rest ≡ row found.0 found.1 ∷ behind_slot found.0 chain) × (has_slot found.0 chain ≡ true)

-- the first row of a tag, from the root on
abbrev pub first_of_tag : ℕ → List SlotRow → Option SlotRow
first_of_tag tag [] = None
first_of_tag tag (r ∷ rows) = cond (r.entry.tag == tag) (Some r) (first_of_tag tag rows)

-- the rows behind the first of a tag
abbrev pub rest_of_tag : ℕ → List SlotRow → List SlotRow
rest_of_tag tag [] = []
rest_of_tag tag (r ∷ rows) = cond (r.entry.tag == tag) rows (rest_of_tag tag rows)

-- how many rows are looked at up to the first of a tag, that one included
abbrev pub steps_to : ℕ → List SlotRow → ℕ
steps_to tag [] = 0
steps_to tag (r ∷ rows) = suc (cond (r.entry.tag == tag) 0 (steps_to tag rows))

-- a counter after so many steps, each of which adds one until 2^64 - 1
abbrev pub ticked : ℕ → ℕ → ℕ
ticked zero count = count
ticked (suc steps) count = ticked steps (min (count + 1) (2 ^ 64 - 1))

-- an entry is one of this tag, offset and phase
abbrev pub is_that : ℕ → ℕ → Bool → Entry → Bool
is_that tag offset phase e = (e.tag == tag) && (e.offset == offset) && beq e.phase phase

-- a test of entries, of a row: its slot plays no part
abbrev pub passes : (Entry → Bool) → SlotRow → Bool
passes test r = test r.entry

-- without the first row that passes
abbrev pub removed : (Entry → Bool) → List SlotRow → List SlotRow
removed test [] = []
removed test (r ∷ rows) = cond (test r.entry) rows (r ∷ removed test rows)

-- with the slot of the first row that passes as the first free one
abbrev pub freed : (Entry → Bool) → List SlotRow → List ℕ → List ℕ
freed test [] free = free
freed test (r ∷ rows) free = cond (test r.entry) (r.slot ∷ free) (freed test rows free)

-- the first entry that passes goes out of a chain
abbrev pub delete_at : Lists → ℕ → (Entry → Bool) → List SlotRow → Lists
delete_at lists bucket test [] = lists
delete_at lists bucket test (root ∷ rows) =
    cond (test root.entry) (take_root lists bucket (root ∷ rows))
    (with_chain lists bucket (root ∷ removed test rows) (freed test rows lists.free))

-- the first entry of a bucket that passes goes out; where none does, nothing changes
abbrev pub deleted : Lists → ℕ → (Entry → Bool) → Lists
deleted lists bucket test = delete_at lists bucket test (chain_of lists bucket)

-- the first row that passes stands right behind a slot
pub record IsBeforeFirst (test : Entry → Bool) (slot : ℕ) (chain : List SlotRow) : Type 0 where
  pub held : has_slot slot chain ≡ true
  pub some : behind_slot slot chain ≢ []
  pub found : list_any (passes test) chain ≡ true
  pub taken : without_next slot chain ≡ removed test chain
  pub free : (free : List ℕ) → with_first_free (behind_slot slot chain) free ≡ freed test chain free

-- a chain begins in a slot with a row that fails
abbrev pub IsRoot : ℕ → (Entry → Bool) → List SlotRow → Type 0
IsRoot slot test [] = ⊥
IsRoot slot test (r ∷ rows) = (r.slot ≡ slot) × (test r.entry ≡ false)

-- so many empty chains
abbrev pub empty_chains : ℕ → List (List SlotRow)
empty_chains zero = []
empty_chains (suc buckets) = [] ∷ empty_chains buckets

-- the slots of so many buckets from one on that are no roots, in rising order
abbrev pub slots_behind_roots : ℕ → ℕ → List ℕ
slots_behind_roots bucket zero = []
slots_behind_roots bucket (suc buckets) =
    (4 * bucket + 1) ∷ (4 * bucket + 2) ∷ (4 * bucket + 3) ∷ slots_behind_roots (suc bucket) buckets

-- a segment of so many buckets in which no slot is used
abbrev pub new_lists : ℕ → Lists
new_lists buckets = record { chains = empty_chains buckets; free = slots_behind_roots 0 buckets }
