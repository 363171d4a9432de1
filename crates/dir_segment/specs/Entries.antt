-- What the lists of a segment say of entries alone: what each bucket has, and how many there may be.
use Rattle.std.specs.Prelude.{◌≡◌, ◌≢◌, ℕ, suc, ◌+◌, ◌*◌, ◌<◌, Bool, true, false, cond, List, [], ◌∷◌, ◌++◌, length, map, filter}
use Rattle.std.specs.List.{All, list_any}
use Rattle.std.specs.List.Sorted.{IsPermutation}
use Rattle.dir_entry.specs.declared.entry.Entry.{Entry}
use Rattle.dir_entry.specs.Layout.{EntryFits}
use Rattle.dir_segment.specs.Lists.{SlotRow, Lists, unlinked, chain_of, entry_count, inserted, deleted, IsFull}
use Rattle.dir_segment.specs.Cleaning.{clean_buckets}
use Rattle.dir_segment.specs.Purging.{purged, is_left, after_purge}

-- the entries of a bucket, along its chain
abbrev pub bucket_entries : Lists → ℕ → List Entry
bucket_entries lists bucket = map (λ r. r.entry) (chain_of lists bucket)

-- how many chains have a root
abbrev pub used_roots : List (List SlotRow) → ℕ
used_roots [] = 0
used_roots ([] ∷ chains) = used_roots chains
used_roots ((root ∷ rows) ∷ chains) = suc (used_roots chains)

-- the entries and the free slots are together the slots behind the roots and the used roots
abbrev pub AreCounted : Lists → Type 0
AreCounted lists =
    entry_count lists.chains + length lists.free ≡ 3 * length lists.chains + used_roots lists.chains

-- an entry that stands in a slot, told without its link
pub record IsStoredEntry (e : Entry) : Type 0 where
  pub fits : EntryFits e
  pub some : 0 < e.offset
  pub unlinked : unlinked e ≡ e

-- each row of each chain has an entry that stands in a slot
abbrev pub EntriesAreStored : Lists → Type 0
EntriesAreStored lists = (bucket : ℕ) → All (λ r. IsStoredEntry r.entry) (chain_of lists bucket)

-- one bucket has these entries, and all others have what they had
pub record SetsEntries (bucket : ℕ) (entries : List Entry) (old new : Lists) : Type 0 where
  pub here : bucket_entries new bucket ≡ entries
  pub others : (b : ℕ) → b ≢ bucket → bucket_entries new b ≡ bucket_entries old b
  pub width : length new.chains ≡ length old.chains

-- an entry goes right behind the root, or becomes it
abbrev pub with_entry_behind_root : Entry → List Entry → List Entry
with_entry_behind_root e [] = e ∷ []
with_entry_behind_root e (root ∷ rest) = root ∷ e ∷ rest

-- without the first entry that passes
abbrev pub without_first : (Entry → Bool) → List Entry → List Entry
without_first test [] = []
without_first test (e ∷ entries) = cond (test e) entries (e ∷ without_first test entries)

-- where a bucket is not full, it has one entry more
abbrev pub InsertEnters : Type 0
InsertEnters = (lists : Lists) (bucket : ℕ) (e : Entry) → bucket < length lists.chains
    → (IsFull lists bucket → ⊥)
    → SetsEntries bucket (with_entry_behind_root (unlinked e) (bucket_entries lists bucket))
    lists (inserted lists bucket e)

-- a full bucket takes no entry, and nothing changes
abbrev pub FullStays : Type 0
FullStays = (lists : Lists) (bucket : ℕ) (e : Entry) → IsFull lists bucket → inserted lists bucket e ≡ lists

-- the first entry that passes is gone
abbrev pub DeleteTakes : Type 0
DeleteTakes = (lists : Lists) (bucket : ℕ) (test : Entry → Bool) → EntriesAreStored lists
    → bucket < length lists.chains
    → SetsEntries bucket (without_first test (bucket_entries lists bucket))
    lists (deleted lists bucket test)

-- where no entry passes, nothing changes
abbrev pub MissedStays : Type 0
MissedStays = (lists : Lists) (bucket : ℕ) (test : Entry → Bool)
    → list_any test (bucket_entries lists bucket) ≡ false
    → deleted lists bucket test ≡ lists

-- each bucket keeps the entries that pass, in their order
abbrev pub CleanKeeps : Type 0
CleanKeeps = (lists : Lists) (test : Entry → Bool) (bucket : ℕ) → EntriesAreStored lists
    → bucket_entries (clean_buckets test 0 (length lists.chains) lists) bucket
    ≡ filter test (bucket_entries lists bucket)

-- where all entries pass, nothing changes
abbrev pub PassedStay : Type 0
PassedStay = (lists : Lists) (test : Entry → Bool)
    → ((bucket : ℕ) → All (λ e. test e ≡ true) (bucket_entries lists bucket))
    → clean_buckets test 0 (length lists.chains) lists ≡ lists

-- the root stays, and of the rows behind it those that pass
abbrev pub kept_behind : (SlotRow → Bool) → List SlotRow → List SlotRow
kept_behind test [] = []
kept_behind test (root ∷ rows) = root ∷ filter test rows

-- a row, and the bucket in whose chain it stands
pub record Housed : Type 0 where
  pub bucket : ℕ
  pub row : SlotRow

-- each row of the chains from a bucket on, by bucket and along each chain
abbrev pub housed : ℕ → List (List SlotRow) → List Housed
housed bucket [] = []
housed bucket (chain ∷ chains) =
    map (λ r. record { bucket = bucket; row = r }) chain ++ housed (suc bucket) chains

-- what a purge takes and leaves are together the rows that were there, each in its bucket
pub record PurgeTakes (lists : Lists) : Type 0 where
  pub left : (bucket : ℕ)
      → chain_of (after_purge lists) bucket ≡ kept_behind (is_left (purged lists)) (chain_of lists bucket)
  pub width : length (after_purge lists).chains ≡ length lists.chains
  pub gone : List Housed
  pub taken : map (λ h. h.row) gone ≡ purged lists
  pub all : IsPermutation (housed 0 lists.chains) (gone ++ housed 0 (after_purge lists).chains)
