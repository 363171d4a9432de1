-- What the first block of a document decides, before the rest of it is read.
use Rattle.std.specs.Prelude.{◌≡◌, ℕ, ◌==◌, ◌&&◌, nat_le, Bool, true, false, List, take, codes, None}
use Rattle.std.specs.Int.{w32}
use Rattle.std.specs.Str.{bytes_eq}
use Rattle.device_log.specs.Image.{Image, IsImage, span}
use Rattle.tape_base.specs.declared.geometries.Geometry.{Geometry}
use Rattle.tape_base.specs.Blocks.{blocks_of}
use Rattle.stripe_header.specs.declared.area.Area.{Area}
use Rattle.stripe_header.specs.declared.states.CopyState.{CopyState}
use Rattle.stripe_header.specs.Layout.{block_of_place}
use Rattle.doc_header.specs.Reading.{doc_number, doc_of, length_of, slice_at}
use Rattle.dir_table.specs.declared.rows.StoredRow.{StoredRow}
use Rattle.reopening.specs.Documents.{document_at}
use Rattle.reopening.specs.Tests.{is_inside, judged, standing_at}
use Rattle.reopening.specs.Alike.{blocks_told}

-- the block begins a document of this generation and place, with as many blocks as belong to its length
abbrev pub is_head : Geometry → ℕ → List ℕ → Bool
is_head g place head =
    bytes_eq (slice_at 0 8 head) (codes "TSCDOCM1")
    && (doc_number w32 8 head == 1
    && (doc_number w32 44 head == blocks_of (length_of head)
    && ((doc_of head).generation == g.generation && (doc_of head).place == place)))

-- and that document is at a place of the tape, and inside
abbrev pub head_passes : Geometry → ℕ → ℕ → List ℕ → Bool
head_passes g cursor place head =
    nat_le g.content place && (is_head g place head && is_inside g cursor place (blocks_of (length_of head)))

-- where the first block does not pass, nothing does that begins with it
abbrev pub HeadsDecide : Type 0
HeadsDecide = (g : Geometry) (told : CopyState) (rows : List StoredRow) (place : ℕ) (bytes : List ℕ)
    → head_passes g told.cursor place (take 512 bytes) ≡ false → judged g told rows place bytes ≡ None

-- so it is of the first block at a place
abbrev pub FirstBlocksDecide : Type 0
FirstBlocksDecide = (a : Area) (told : CopyState) (rows : List StoredRow) (c : Image) (place : ℕ)
    → IsImage c → head_passes a.geometry told.cursor place (c (block_of_place a place)) ≡ false
    → standing_at a told rows c place ≡ None

-- where that passes, the document there is as many blocks as it tells
abbrev pub HeadsTellBlocks : Type 0
HeadsTellBlocks = (a : Area) (cursor : ℕ) (c : Image) (place : ℕ)
    → head_passes a.geometry cursor place (c (block_of_place a place)) ≡ true
    → document_at a c place ≡ span c (block_of_place a place) (blocks_told a c place)
