-- What an entry that goes into a segment pushes out.
use Rattle.std.specs.Prelude.{ℕ, ◌≡◌, Bool, true, false, List, [], ◌∷◌, ◌++◌, length, map}
use Rattle.std.specs.List.Sorted.{IsPermutation}
use Rattle.dir_entry.specs.declared.entry.Entry.{Entry}
use Rattle.dir_segment.specs.Lists.{SlotRow, Lists, IsFull}
use Rattle.dir_segment.specs.Entries.{housed}
use Rattle.dir_segment.specs.Purging.{purged, tenth_of}

-- an entry of a bucket
pub record BucketEntry : Type 0 where
  pub bucket : ℕ
  pub entry : Entry

-- the entries of the chains from a bucket on, by bucket and along each chain
abbrev pub entries_from : ℕ → List (List SlotRow) → List BucketEntry
entries_from bucket chains = map (λ h. record { bucket = h.bucket; entry = h.row.entry }) (housed bucket chains)

-- a segment takes an entry in, and these entries go out
pub record EntersSegment (it : BucketEntry) (gone : List BucketEntry) (before after : Lists) : Type 0 where
  pub left : List BucketEntry
  pub parted : IsPermutation (entries_from 0 before.chains) (gone ++ left)
  pub entered : IsPermutation (it ∷ left) (entries_from 0 after.chains)
  pub width : length after.chains ≡ length before.chains

-- only where its bucket is full entries go out: of those behind the roots the first, the eleventh and so
-- on in slot order, a tenth of all that can stand there
abbrev pub GoOut : Bool → List BucketEntry → Lists → ℕ → Type 0
GoOut true gone before bucket =
    IsFull before bucket × (length gone ≡ tenth_of (length before.chains))
    × (map (λ g. g.entry) gone ≡ map (λ r. r.entry) (purged before))
GoOut false gone before bucket = (IsFull before bucket → ⊥) × (gone ≡ [])

-- a segment takes an entry in: what goes out, and whether anything does
pub record TakesIn (it : BucketEntry) (purged : Bool) (out : List Entry) (before after : Lists) : Type 0 where
  pub gone : List BucketEntry
  pub told : map (λ g. g.entry) gone ≡ out
  pub enters : EntersSegment it gone before after
  pub due : GoOut purged gone before it.bucket
