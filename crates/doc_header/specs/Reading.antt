-- What bytes are read as a document, and the first fault of bytes that are none.
use Rattle.std.specs.Prelude.{ℕ, ◌≡◌, ◌+◌, ◌*◌, ◌==◌, ◌&&◌, Bool, not, nat_lt, List, length, take, drop, codes, Option, Some, None, Result, Ok, Err, if◌then◌else◌}
use Rattle.std.specs.Int.{Width, byte_len, from_le_bytes, w32, w64}
use Rattle.std.specs.Option.{option_or}
use Rattle.std.specs.Str.{bytes_eq}
use Rattle.sha2.specs.Sha256.{sha256}
use Rattle.tape_base.specs.declared.digests.Digest.{Digest}
use Rattle.tape_base.specs.Digest.{digest_of}
use Rattle.tape_base.specs.Key.{key_of_bytes}
use Rattle.tape_base.specs.Blocks.{blocks_of}
use Rattle.doc_header.specs.declared.documents.Doc.{Doc}
use Rattle.doc_header.specs.declared.documents.DocRef.{DocRef}
use Rattle.doc_header.specs.declared.documents.DocFault.{DocFault}
use Rattle.doc_header.specs.declared.documents.DocFault.TheVariants as faults
use Rattle.doc_header.specs.Document.{check_of}

-- so many bytes from a place on
unfoldable pub slice_at : ℕ → ℕ → List ℕ → List ℕ
slice_at at count bytes = take count (drop at bytes)

-- the number that stands at a place
unfoldable pub doc_number : Width → ℕ → List ℕ → ℕ
doc_number w at bytes = from_le_bytes w (slice_at at (byte_len w) bytes)

-- the length that bytes tell of their payload: bytes 12 to 15
abbrev pub length_of : List ℕ → ℕ
length_of bytes = doc_number w32 12 bytes

-- how many bytes are looked at: the header and a payload of that length, without the zeros behind it
abbrev pub extent_of : List ℕ → ℕ
extent_of bytes = length_of bytes + 128

-- the digest of what bytes spell as a document
abbrev pub document_digest : List ℕ → Digest
document_digest bytes = digest_of (take (extent_of bytes) bytes)

-- what the fields of a header tell, before any of them is judged
abbrev pub doc_of : List ℕ → Doc
doc_of bytes =
    record {
      id = record { first = key_of_bytes (slice_at 16 16 bytes); put = doc_number w64 32 bytes; index = doc_number w32 40 bytes };
      place = doc_number w64 48 bytes;
      generation = doc_number w64 56 bytes;
      pin = doc_number w64 64 bytes;
      start = doc_number w64 72 bytes;
    }

-- the bytes behind the header, as many as the header tells; all there are where these are fewer
abbrev pub payload_of : List ℕ → List ℕ
payload_of bytes = slice_at 128 (length_of bytes) bytes

-- the digest of its payload that a header keeps
abbrev pub kept_digest : List ℕ → Digest
kept_digest bytes = record { 0 = slice_at 80 32 bytes }

-- the blocks are those of the length, and as many are given
abbrev pub has_blocks : List ℕ → Bool
has_blocks bytes =
    doc_number w32 44 bytes == blocks_of (length_of bytes)
    && not (nat_lt (length bytes) (512 * blocks_of (length_of bytes)))

-- the first fault of a header that is there
unfoldable pub header_fault : List ℕ → Option DocFault
header_fault bytes =
    if not (bytes_eq (slice_at 0 8 bytes) (codes "TSCDOCM1")) then Some faults.Magic
    else if not (doc_number w32 8 bytes == 1) then Some faults.Version
    else if not (has_blocks bytes) then Some faults.Length
    else if not (bytes_eq (slice_at 112 16 bytes) (check_of (slice_at 0 112 bytes))) then Some faults.HeaderCheck
    else None

-- the fault of a document of another generation or place than those that are asked for
unfoldable pub address_fault : Doc → ℕ → ℕ → Option DocFault
address_fault doc generation place =
    if not (doc.generation == generation) then Some (faults.Generation doc.generation)
    else if not (doc.place == place) then Some (faults.Place doc.place)
    else None

-- the fault of a payload that is not the one whose digest is kept
unfoldable pub payload_fault : Digest → List ℕ → Option DocFault
payload_fault kept payload =
    if bytes_eq kept.0 (sha256 payload) then None
    else Some (faults.Digest kept (digest_of payload))

-- the first fault of given bytes
abbrev pub first_fault : List ℕ → ℕ → ℕ → Option DocFault
first_fault bytes generation place =
    if nat_lt (length bytes) 128 then Some faults.Short
    else option_or (header_fault bytes)
    (option_or (address_fault (doc_of bytes) generation place) (payload_fault (kept_digest bytes) (payload_of bytes)))

-- the document and the payload were read, where there is no fault; else the fault was answered
abbrev pub AnswersDocument : Result DocRef DocFault → Option DocFault → Doc → List ℕ → Type 0
AnswersDocument (Ok read) fault doc payload = (fault ≡ None) × (read.doc ≡ doc) × (read.payload.now ≡ payload)
AnswersDocument (Err found) fault doc payload = fault ≡ Some found
