-- What the bytes of a segment say: the first free slot and the number of free slots, in two bytes
-- each and the lowest first, and then the entries in slot order.
use Rattle.std.specs.Prelude.{◌≡◌, ℕ, zero, suc, ◌+◌, ◌-◌, ◌*◌, ◌%◌, ◌==◌, not, nat_lt, Bool, true, false, cond, if◌then◌else◌, List, [], ◌∷◌, length, take, drop, Result, Ok, Err, slice_index_or, slice_set}
use Rattle.std.specs.Int.{w16, from_le_bytes}
use Rattle.dir_entry.specs.declared.entry.Entry.{Entry}
use Rattle.dir_entry.specs.Layout.{entry_of_bytes}
use Rattle.dir_segment.specs.declared.fault.SegmentFault.{SegmentFault}
use Rattle.dir_segment.specs.declared.fault.SegmentFault.TheVariants.{BadLink, Loop, FreeListCount, Memory}
use Rattle.dir_segment.specs.Lists.{Lists}
use Rattle.dir_segment.specs.Links.{at, lists_of}

-- so many entries, ten bytes each
abbrev pub entries_in_bytes : ℕ → List ℕ → List Entry
entries_in_bytes zero bytes = []
entries_in_bytes (suc count) bytes = entry_of_bytes (take 10 bytes) ∷ entries_in_bytes count (drop 10 bytes)

-- the entries behind the first four bytes: four of each bucket, its root first
abbrev pub image_slots : ℕ → List ℕ → List Entry
image_slots buckets bytes = entries_in_bytes (4 * buckets) (drop 4 bytes)

-- bytes 0 and 1: the first free slot, 0 where none is
abbrev pub image_head : List ℕ → ℕ
image_head bytes = from_le_bytes w16 (take 2 bytes)

-- bytes 2 and 3: how many slots are free, as the segment kept it
abbrev pub image_count : List ℕ → ℕ
image_count bytes = from_le_bytes w16 (take 2 (drop 2 bytes))

-- the lists of the segment that the bytes spell
abbrev pub image_lists : ℕ → List ℕ → Lists
image_lists buckets bytes = lists_of (image_slots buckets bytes) (image_head bytes) buckets

-- a mark for each slot that a walk has reached
abbrev pub Marks : Type 0
Marks = List Bool

-- so many slots, of which none was reached
abbrev pub unmarked : ℕ → Marks
unmarked zero = []
unmarked (suc slots) = false ∷ unmarked slots

-- how many slots were reached
abbrev pub marked : Marks → ℕ
marked [] = 0
marked (m ∷ marks) = cond m 1 0 + marked marks

-- the next walk begins with the marks of the one before, unless that met a fault
infixl 10 ◌>>=◌
abbrev pub ◌>>=◌ : Result Marks SegmentFault → (Marks → Result Marks SegmentFault) → Result Marks SegmentFault
(Ok marks) >>= next = next marks
(Err fault) >>= next = Err fault

-- a link leads to no slot, to a root, to an empty slot of a chain or to a used one of the free list
abbrev pub is_bad_link : Bool → List Entry → ℕ → Bool
is_bad_link used slots slot =
    if nat_lt slot (length slots)
    then (if slot % 4 == 0 then true else (if used then (at slots slot).offset == 0 else not ((at slots slot).offset == 0)))
    else true

-- a walk along the links from a slot on, over used or free slots, at most so many
abbrev pub walk : Bool → List Entry → ℕ → ℕ → Marks → Result Marks SegmentFault
walk used slots zero slot marks = if slot == 0 then Ok marks else Err (Loop slot)
walk used slots (suc most) slot marks =
    if slot == 0 then Ok marks
    else (if is_bad_link used slots slot then Err (BadLink slot)
    else (if slice_index_or marks slot false then Err (Loop slot)
    else walk used slots most (at slots slot).next (slice_set marks slot true)))

-- a bucket's chain from its root on; an empty root links to nothing
abbrev pub walk_bucket : List Entry → ℕ → Marks → Result Marks SegmentFault
walk_bucket slots bucket marks =
    if (at slots (4 * bucket)).offset == 0
    then (if (at slots (4 * bucket)).next == 0 then Ok (slice_set marks (4 * bucket) true) else Err (BadLink (4 * bucket)))
    else walk true slots (length slots) (at slots (4 * bucket)).next (slice_set marks (4 * bucket) true)

-- the chains of so many buckets from one on
abbrev pub walk_buckets : List Entry → ℕ → ℕ → Marks → Result Marks SegmentFault
walk_buckets slots bucket zero marks = Ok marks
walk_buckets slots bucket (suc buckets) marks = walk_bucket slots bucket marks >>= walk_buckets slots (suc bucket) buckets

-- the free list has as many slots as are kept, and with the chains all slots were reached
abbrev pub counts : ℕ → ℕ → Marks → Marks → Result Marks SegmentFault
counts kept slots before after =
    if kept == marked after - marked before
    then (if marked after == slots then Ok after else Err (FreeListCount slots (marked after)))
    else Err (FreeListCount kept (marked after - marked before))

-- the walks of all chains and then of the free list, and their counts: what was reached, or the first fault
abbrev pub walk_all : List Entry → ℕ → ℕ → ℕ → Result Marks SegmentFault
walk_all slots head kept buckets =
    walk_buckets slots 0 buckets (unmarked (4 * buckets)) >>= λ chains.
    walk false slots (length slots) head chains >>= counts kept (4 * buckets) chains

-- all walks over the bytes of a segment of so many buckets
unfoldable pub image_walk : ℕ → List ℕ → Result Marks SegmentFault
image_walk buckets bytes = walk_all (image_slots buckets bytes) (image_head bytes) (image_count bytes) buckets

-- an answer is the fault of a walk, or memory ran out
abbrev pub IsFault : SegmentFault → Result Marks SegmentFault → Type 0
IsFault (Memory e) found = Unit {0}
IsFault fault found = found ≡ Err fault

-- an answer is the end of a walk with its marks, or its fault
abbrev pub Walks : {A : Type 0} → Result A SegmentFault → Marks → Result Marks SegmentFault → Type 0
Walks (Ok a) marks found = found ≡ Ok marks
Walks (Err fault) marks found = IsFault fault found

-- how many of so many buckets from one on have an empty root
abbrev pub empty_roots : List Entry → ℕ → ℕ → ℕ
empty_roots slots bucket zero = 0
empty_roots slots bucket (suc buckets) = cond ((at slots (4 * bucket)).offset == 0) 1 0 + empty_roots slots (suc bucket) buckets

-- a walk ended with no fault
abbrev pub WalkIsSound : Result Marks SegmentFault → Type 0
WalkIsSound (Ok marks) = Unit {0}
WalkIsSound (Err fault) = ⊥
