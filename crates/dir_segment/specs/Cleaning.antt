-- What is left where each entry that fails a test goes out, along the chain of one bucket after another.
use Rattle.std.specs.Prelude.{◌≡◌, ℕ, zero, suc, Bool, true, cond, List, [], ◌∷◌, filter}
use Rattle.dir_entry.specs.declared.entry.Entry.{Entry}
use Rattle.dir_entry.specs.Layout.{EntryFits}
use Rattle.dir_segment.specs.Lists.{SlotRow, Lists, row, chain_of, with_chain, passes}

-- an answer of a closure at an entry is that of a test
abbrev pub Computes : (Entry → Bool → Type 0) → (Entry → Bool) → Type 0
Computes returns test = (e : Entry) (b : Bool) → EntryFits e → returns e b → b ≡ test e

-- the slots of the rows that fail are free, each before the earlier ones
abbrev pub freed_by : (SlotRow → Bool) → List SlotRow → List ℕ → List ℕ
freed_by test [] free = free
freed_by test (r ∷ rows) free = freed_by test rows (cond (test r) free (r.slot ∷ free))

-- a root that fails gives way to the next entry, whose slot is freed
abbrev pub clean_from : (Entry → Bool) → Lists → ℕ → SlotRow → List SlotRow → List ℕ → Lists
clean_from test lists bucket root [] free = cond (test root.entry) (with_chain lists bucket (root ∷ []) free) (with_chain lists bucket [] free)
clean_from test lists bucket root (r ∷ rows) free =
    cond (test root.entry)
    (with_chain lists bucket (root ∷ filter (passes test) (r ∷ rows)) (freed_by (passes test) (r ∷ rows) free))
    (clean_from test lists bucket (row root.slot r.entry) rows (r.slot ∷ free))

-- a bucket whose chain is this one is cleaned; where the chain is empty, nothing changes
abbrev pub clean_chain : (Entry → Bool) → Lists → ℕ → List SlotRow → Lists
clean_chain test lists bucket [] = lists
clean_chain test lists bucket (root ∷ rows) = clean_from test lists bucket root rows lists.free

-- the same by the chain that the bucket has
unfoldable pub clean_bucket : (Entry → Bool) → Lists → ℕ → Lists
clean_bucket test lists bucket = clean_chain test lists bucket (chain_of lists bucket)

-- the same done to so many buckets from one on
abbrev pub each_bucket : (Lists → ℕ → Lists) → ℕ → ℕ → Lists → Lists
each_bucket step bucket zero lists = lists
each_bucket step bucket (suc buckets) lists = each_bucket step (suc bucket) buckets (step lists bucket)

-- so many buckets from one on are cleaned in rising order: what later ones free stands before the earlier
abbrev pub clean_buckets : (Entry → Bool) → ℕ → ℕ → Lists → Lists
clean_buckets test = each_bucket (clean_bucket test)

-- a chain begins in a slot
abbrev pub BeginsAt : ℕ → List SlotRow → Type 0
BeginsAt slot [] = ⊥
BeginsAt slot (r ∷ rows) = r.slot ≡ slot

-- the first entry of a chain passes
abbrev pub FirstPasses : (Entry → Bool) → List SlotRow → Type 0
FirstPasses test [] = ⊥
FirstPasses test (r ∷ rows) = test r.entry ≡ true
