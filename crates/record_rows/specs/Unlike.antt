-- A fragment that an opening finds has another payload than the one that the vector of its put lists: a reader that comes to
-- it is told both digests, and is not given it.
use Rattle.std.specs.Prelude.{ℕ, ◌≡◌, ◌≢◌, false, List, [], ◌∷◌, Some, None, length}
use Rattle.std.specs.List.{repeat}
use Rattle.hex.specs.Hex.{IsBytes}
use Rattle.tape_base.specs.declared.digests.Digest.{Digest}
use Rattle.tape_base.specs.declared.pieces.PieceId.{PieceId}
use Rattle.tape_base.specs.Digest.{digest_of}
use Rattle.device_log.specs.Calls.{Read}
use Rattle.doc_header.specs.declared.documents.Doc.{Doc}
use Rattle.doc_header.specs.Document.{digest_of_document}
use Rattle.doc_header.specs.Reading.{document_digest}
use Rattle.fragment_table.specs.Table.{made_row}
use Rattle.alternate_vector.specs.Alternates.{Stored}
use Rattle.alternate_vector.specs.Spelling.{vector_bytes}
use Rattle.cache_model.specs.declared.cause.Cause.TheVariants as cause
use Rattle.cache_model.specs.declared.answer.ReadAnswer.TheVariants as read
use Rattle.cache_model.specs.declared.findings.FoundRow.{FoundRow}
use Rattle.cache_model.specs.declared.record.Rec.{Rec}
use Rattle.cache_model.specs.declared.record.Rec.TheVariants as rec
use Rattle.cache_model.specs.Legal.{IsStep}
use Rattle.cache_model.specs.Opening.{Opening}
use Rattle.cache_model.specs.Openings.{IsOpening}
use Rattle.cache_model.specs.Permit.{ReadOn}
use Rattle.cache_model.specs.State.{State, fragment_piece, vector_piece}
use Rattle.cache_model.specs.Verdict.{lookup_verdict}
use Rattle.record_rows.specs.Steps.{with_calls}
use Rattle.record_rows.specs.Worked.{a, behind_opening, no_digest, small}

-- ---- what is found

-- the digest of the payload that is listed
abbrev pub listed_digest : Digest
listed_digest = record { 0 = repeat 32 (1 ∷ []) }

-- the payload that is there: as many bytes, and others
pub record AreOthers (there : List ℕ) : Type 0 where
  pub four : length there ≡ 4
  pub of_bytes : IsBytes there
  pub differ : listed_digest ≢ digest_of there

-- the alternate of a put of four bytes
abbrev pub four_bytes : Stored
four_bytes = record { put = 1; pin = 0; length = 4; request = []; response = []; table = made_row 4 listed_digest.0 ∷ [] }

abbrev pub fragment : PieceId
fragment = fragment_piece a 1 1

-- the document as which its fragment stands
abbrev pub doc_of_fragment : Doc
doc_of_fragment = record { id = fragment; place = 64; generation = 7; pin = 0; start = 0 }

-- the fragment, with the payload that is there
abbrev pub fragment_of : List ℕ → FoundRow
fragment_of there = record {
  id = fragment;
  place = 64;
  blocks = 1;
  digest = digest_of_document doc_of_fragment there;
  length = 4;
  payload = digest_of there;
  pin = 0;
  alternates = None;
}

-- its vector, and the document as which that stands
abbrev pub doc_of_vector : Doc
doc_of_vector = record { id = vector_piece a 1; place = 65; generation = 7; pin = 0; start = 0 }

abbrev pub found_vector_row : FoundRow
found_vector_row = record {
  id = vector_piece a 1;
  place = 65;
  blocks = 1;
  digest = digest_of_document doc_of_vector (vector_bytes (four_bytes ∷ []));
  length = length (vector_bytes (four_bytes ∷ []));
  payload = digest_of (vector_bytes (four_bytes ∷ []));
  pin = 0;
  alternates = Some (four_bytes ∷ []);
}

abbrev pub both_found : List ℕ → Opening
both_found there =
    record { serial = 9; cursor = 66; floor = 18; next_put = 2; clean = false; found = fragment_of there ∷ found_vector_row ∷ [] }

-- an opening may take them up, and a lookup hits that put
abbrev pub AnUnlikePayloadMayBeFound : Type 0
AnUnlikePayloadMayBeFound = (there : List ℕ) → AreOthers there → IsOpening false small (both_found there)
    × (lookup_verdict (behind_opening (both_found there) []) a [] ≡ read.Hit 1)

-- ---- what a reader is told

abbrev pub hit_record : Rec
hit_record = rec.ReadOpened 1 (record { 0 = 0 }) a [] (read.Hit 1)

-- damage at a place, with both digests
abbrev pub damaged_at : List ℕ → ℕ → List Rec
damaged_at there place =
    rec.Damaged fragment place listed_digest (digest_of there) ∷ rec.Broke 1 (cause.Damaged place listed_digest (digest_of there)) ∷ []

-- the fragment was hit, and has still to be read
abbrev pub before_reading : List ℕ → State
before_reading there = behind_opening (both_found there) (hit_record ∷ [])

-- a block of the device has its document
pub record IsItsBlock (there block : List ℕ) : Type 0 where
  pub whole : length block ≡ 512
  pub of_bytes : IsBytes block
  pub digest : digest_of_document doc_of_fragment there ≡ document_digest block

-- the device gives its document, which has the recorded digest: it is damaged for its payload
abbrev pub AnUnlikePayloadIsDamage : Type 0
AnUnlikePayloadIsDamage = (there block : List ℕ) → AreOthers there → IsItsBlock there block
    → IsStep (with_calls (Read 19 block ∷ [])) (before_reading there) (ReadOn 1 ∷ []) (damaged_at there 64) None

-- and is not given
abbrev pub AnUnlikePayloadIsNotGiven : Type 0
AnUnlikePayloadIsNotGiven = (there block : List ℕ) → AreOthers there
    → IsStep (with_calls (Read 19 block ∷ [])) (before_reading there) (ReadOn 1 ∷ []) (rec.Gave 1 1 4 ∷ []) None → ⊥

-- it was copied ahead meanwhile, into a buffer that is not written out
abbrev pub once_copied : List ℕ → State
once_copied there = behind_opening (both_found there) (hit_record ∷ rec.Began 128 72 ∷ rec.Moved fragment 64 128 no_digest ∷ [])

-- so it is in the buffer, where the device is asked nothing
abbrev pub ACopyOfItIsDamage : Type 0
ACopyOfItIsDamage = (there : List ℕ) → AreOthers there → IsStep (with_calls []) (once_copied there) (ReadOn 1 ∷ []) (damaged_at there 128) None
