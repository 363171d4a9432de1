-- Which blocks an opening rests on, and images that open alike.
use Rattle.std.specs.Prelude.{◌≡◌, ℕ, ◌+◌, ◌≤◌, ◌<◌, ◌==◌, ◌⊎◌, Bool, false, true, List, Some, None}
use Rattle.std.specs.List.{list_any}
use Rattle.device_log.specs.Image.{Image, IsImage}
use Rattle.device_log.specs.Calls.{Call}
use Rattle.device_log.specs.Seen.{MayLeave, is_pending, seen_of}
use Rattle.tape_base.specs.Blocks.{blocks_of}
use Rattle.stripe_header.specs.declared.area.Area.{Area}
use Rattle.stripe_header.specs.declared.area.Side.{Side}
use Rattle.stripe_header.specs.Layout.{block_of_place, body_blocks, body_of, gate_of, other_side}
use Rattle.dir_sync.specs.Moments.{IsShut}
use Rattle.doc_header.specs.Reading.{length_of}
use Rattle.dir_table.specs.declared.rows.StoredRow.{StoredRow}
use Rattle.reopening.specs.declared.newest.Newest.{Newest}
use Rattle.reopening.specs.Newest.{IsBeaten, bound_of, copy_at, newest_of}
use Rattle.reopening.specs.Tests.{is_inside}
use Rattle.reopening.specs.Opens.{opens_to, rows_at}

-- the block is one of a copy's body
abbrev pub IsInBody : Area → Side → ℕ → Type 0
IsInBody a side j = (body_of a side ≤ j) × (j < body_of a side + body_blocks a)

-- it is that of a place from the bound of a copy up to an end
abbrev pub IsBlockNamed : Area → Newest → ℕ → ℕ → Type 0
IsBlockNamed a n end j = (p : ℕ) × (bound_of a.geometry n.told ≤ p) × (p < end) × (j ≡ block_of_place a p)

-- a copy rests on the block: it is one of its body, or of what it names up to an end
abbrev pub RestsOnOne : Area → Newest → ℕ → ℕ → Type 0
RestsOnOne a n end j = IsInBody a n.side j ⊎ IsBlockNamed a n end j

-- so does an opening: it is that of a gate, or of a body, or of what the copy names
abbrev pub IsRestedOn : Area → Newest → ℕ → ℕ → Type 0
IsRestedOn a n end j =
    ((side : Side) × (j ≡ gate_of side)) ⊎ (((side : Side) × IsInBody a side j) ⊎ IsBlockNamed a n end j)

-- the blocks that the first one at a place tells
abbrev pub blocks_told : Area → Image → ℕ → ℕ
blocks_told a c place = blocks_of (length_of (c (block_of_place a place)))

-- an element is one for this place
abbrev pub has_place : ℕ → List StoredRow → Bool
has_place place rows = list_any (λ r. r.place == place) rows

-- what the copy names stands below an end: each document that may be kept ends there
abbrev pub EndsBy : Area → Image → Newest → ℕ → Type 0
EndsBy a c n end = (p : ℕ) → p < n.told.cursor → has_place p (rows_at a c n) ≡ true
    → (p < end) × (is_inside a.geometry n.told.cursor p (blocks_told a c p) ≡ true → p + blocks_told a c p ≤ end)

-- a cut cannot lose what an opening rests on, and it is seen as this image has it
abbrev pub StandsAs : Area → Newest → ℕ → Image → Bool → Image → List Call → Type 0
StandsAs a n end c settled first past = (j : ℕ) → IsRestedOn a n end j
    → (is_pending settled past j ≡ false) × (seen_of first past j ≡ c j)

-- what a cut may leave then opens as this image does
abbrev pub OpensAlike : Type 0
OpensAlike = (a : Area) (n : Newest) (end : ℕ) (c d : Image) (settled : Bool) (first : Image) (past : List Call)
    → IsImage c → newest_of a c ≡ Some n → EndsBy a c n end
    → StandsAs a n end c settled first past → MayLeave settled first past d
    → opens_to a d ≡ opens_to a c

-- all that a copy names stands below its cursor
abbrev pub AllEndByCursor : Type 0
AllEndByCursor = (a : Area) (c : Image) (n : Newest) → EndsBy a c n n.told.cursor

-- an accepted copy is the newest where the other one does not count
abbrev pub NewestWins : Type 0
NewestWins = (a : Area) (c : Image) (n : Newest) → copy_at a c n.side ≡ Some n.told
    → IsBeaten (copy_at a c (other_side n.side)) n.side n.told.serial → newest_of a c ≡ Some n

-- and the newest copy is such a one
abbrev pub NewestWon : Type 0
NewestWon = (a : Area) (c : Image) (n : Newest) → newest_of a c ≡ Some n
    → (copy_at a c n.side ≡ Some n.told) × IsBeaten (copy_at a c (other_side n.side)) n.side n.told.serial

-- a copy behind a shut gate is refused
abbrev pub ShutIsNoCopy : Type 0
ShutIsNoCopy = (a : Area) (c : Image) (side : Side) → IsShut side c → copy_at a c side ≡ None

-- images with one newest copy open alike where they have the same in the blocks of its body and in what it names
abbrev pub OpensByOne : Type 0
OpensByOne = (a : Area) (n : Newest) (end : ℕ) (c d : Image)
    → IsImage c → newest_of a c ≡ Some n → newest_of a d ≡ Some n → EndsBy a c n end
    → ((j : ℕ) → RestsOnOne a n end j → c j ≡ d j) → opens_to a d ≡ opens_to a c
