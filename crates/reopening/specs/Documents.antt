-- What stands at a place of the tape.
use Rattle.std.specs.Prelude.{ℕ, ◌-◌, min, List, Option, None, if◌then◌else◌}
use Rattle.std.specs.Result.{result_ok}
use Rattle.device_log.specs.Image.{Image, span}
use Rattle.tape_base.specs.declared.pieces.PieceId.{PieceId}
use Rattle.tape_base.specs.Blocks.{blocks_of}
use Rattle.tape_base.specs.Piece.{is_vector}
use Rattle.tape_base.specs.Place.{slot_of}
use Rattle.stripe_header.specs.declared.area.Area.{Area}
use Rattle.stripe_header.specs.Layout.{block_of_place}
use Rattle.doc_header.specs.Reading.{doc_of, document_digest, kept_digest, length_of, payload_of}
use Rattle.alternate_vector.specs.Alternates.{Stored}
use Rattle.alternate_vector.specs.Reading.{read_vector}
use Rattle.cache_model.specs.declared.findings.FoundRow.{FoundRow}

-- how many blocks are read at a place: as many as its first block tells, at most to the end of the lap
abbrev pub blocks_read : Area → Image → ℕ → ℕ
blocks_read a c place = min (blocks_of (length_of (c (block_of_place a place)))) (a.geometry.content - slot_of a.geometry place)

-- the bytes that are read there
unfoldable pub document_at : Area → Image → ℕ → List ℕ
document_at a c place = span c (block_of_place a place) (blocks_read a c place)

-- what a payload lists, where it is a vector
abbrev pub listed_in : List ℕ → Option (List Stored)
listed_in payload = result_ok (read_vector payload)

-- what a piece lists: none where it is no vector
abbrev pub alternates_in : PieceId → List ℕ → Option (List Stored)
alternates_in id payload = if is_vector id then listed_in payload else None

-- the row of the document that these bytes are
abbrev pub standing_of : ℕ → List ℕ → FoundRow
standing_of place bytes =
    record {
      id = (doc_of bytes).id;
      place = place;
      blocks = blocks_of (length_of bytes);
      digest = document_digest bytes;
      length = length_of bytes;
      payload = kept_digest bytes;
      pin = (doc_of bytes).pin;
      alternates = alternates_in (doc_of bytes).id (payload_of bytes);
    }
