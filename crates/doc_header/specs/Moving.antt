-- What the bytes of a document are at another place: a copy of the same document, block by block.
use Rattle.std.specs.Prelude.{ℕ, ◌≡◌, ◌≤◌, ◌<◌, ◌^◌, ◌+◌, ◌⊎◌, List, ◌++◌, length, take, drop}
use Rattle.std.specs.Int.{to_le_bytes, w64}
use Rattle.hex.specs.Hex.{IsBytes}
use Rattle.tape_base.specs.Digest.{Collide}
use Rattle.doc_header.specs.declared.documents.Doc.{Doc}
use Rattle.doc_header.specs.Document.{header_bytes, check_of, digest_of_document}
use Rattle.doc_header.specs.Reading.{slice_at, length_of, extent_of, payload_of, document_digest}

-- the same document at another place
abbrev pub doc_moved_to : ℕ → Doc → Doc
doc_moved_to place doc = record doc { place = place }

-- bytes 0 to 111, with this place where the old one stood
unfoldable pub moved_fields : ℕ → List ℕ → List ℕ
moved_fields place bytes = take 48 bytes ++ to_le_bytes w64 place ++ slice_at 56 56 bytes

-- the check of the header is made anew, and what stands behind the header stays
unfoldable pub moved_to : ℕ → List ℕ → List ℕ
moved_to place bytes = moved_fields place bytes ++ check_of (moved_fields place bytes) ++ drop 128 bytes

-- a copy has as many bytes, and tells the same payload
pub record KeepsPayload (place : ℕ) (bytes : List ℕ) : Type 0 where
  pub as_many : length (moved_to place bytes) ≡ length bytes
  pub told : length_of (moved_to place bytes) ≡ length_of bytes
  pub payload : payload_of (moved_to place bytes) ≡ payload_of bytes

-- bytes that have a header are moved with their payload
abbrev pub MovesKeep : Type 0
MovesKeep = (place : ℕ) (bytes : List ℕ) → 128 ≤ length bytes → KeepsPayload place bytes

-- bytes begin with this document, its header and its payload
abbrev pub BeginsWith : List ℕ → Doc → List ℕ → Type 0
BeginsWith bytes doc payload = take (length payload + 128) bytes ≡ header_bytes doc payload ++ payload

-- a copy of bytes that begin with a document begins with that document at the other place
abbrev pub MovedIsSpelled : Type 0
MovedIsSpelled = (place : ℕ) (bytes : List ℕ) (doc : Doc) (payload : List ℕ)
    → BeginsWith bytes doc payload → BeginsWith (moved_to place bytes) (doc_moved_to place doc) payload

-- and is recorded as that document
abbrev pub MovedIsRecorded : Type 0
MovedIsRecorded = (place : ℕ) (bytes : List ℕ) (doc : Doc) (payload : List ℕ) → length payload < 2 ^ 32
    → BeginsWith bytes doc payload → document_digest (moved_to place bytes) ≡ digest_of_document (doc_moved_to place doc) payload

-- the copy is the document at the other place, or what was copied and the document collide
abbrev pub IsMovedOrCollides : ℕ → List ℕ → Doc → List ℕ → Type 0
IsMovedOrCollides place bytes doc payload =
    (document_digest (moved_to place bytes) ≡ digest_of_document (doc_moved_to place doc) payload)
    ⊎ Collide (take (extent_of bytes) bytes) (header_bytes doc payload ++ payload)

-- bytes whose digest is that of a document are copied as that document, unless they collide
abbrev pub MovedIsSame : Type 0
MovedIsSame = (place : ℕ) (bytes : List ℕ) (doc : Doc) (payload : List ℕ) → IsBytes bytes → IsBytes payload → length payload < 2 ^ 32
    → document_digest bytes ≡ digest_of_document doc payload → IsMovedOrCollides place bytes doc payload

-- bytes of one length that are the same as far as they are looked at have copies of one digest, whatever
-- stands behind that
abbrev pub MovedAlike : Type 0
MovedAlike = (place : ℕ) (one other : List ℕ) → length one ≡ length other → take (extent_of one) one ≡ take (extent_of other) other
    → document_digest (moved_to place one) ≡ document_digest (moved_to place other)
