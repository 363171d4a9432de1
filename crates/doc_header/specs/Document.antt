-- What the bytes of a document are. Numbers are written low bytes first; SHA-256 is that of FIPS 180-4.
use Rattle.std.specs.Prelude.{ℕ, ◌≡◌, ◌≤◌, ◌<◌, ◌^◌, ◌+◌, ◌-◌, ◌*◌, List, ◌++◌, length, replicate, take, codes}
use Rattle.std.specs.Int.{to_le_bytes, w32, w64}
use Rattle.sha2.specs.Sha256.{sha256}
use Rattle.tape_base.specs.declared.digests.Digest.{Digest}
use Rattle.tape_base.specs.Digest.{digest_of}
use Rattle.tape_base.specs.Key.{key_bytes, key_of_bytes}
use Rattle.tape_base.specs.Blocks.{blocks_of}
use Rattle.doc_header.specs.declared.documents.Doc.{Doc}

-- bytes 0 to 47: what the document is, and of which piece
unfoldable pub name_bytes : Doc → ℕ → List ℕ
name_bytes doc length =
    codes "TSCDOCM1" ++ to_le_bytes w32 1 ++ to_le_bytes w32 length ++ key_bytes doc.id.first
    ++ to_le_bytes w64 doc.id.put ++ to_le_bytes w32 doc.id.index ++ to_le_bytes w32 (blocks_of length)

-- bytes 0 to 111: all fields before the check of the header
abbrev pub doc_fields : Doc → List ℕ → List ℕ
doc_fields doc payload =
    name_bytes doc (length payload) ++ to_le_bytes w64 doc.place ++ to_le_bytes w64 doc.generation
    ++ to_le_bytes w64 doc.pin ++ to_le_bytes w64 doc.start ++ sha256 payload

-- the check of a header whose fields are these bytes
abbrev pub check_of : List ℕ → List ℕ
check_of fields = take 16 (sha256 fields)

-- bytes 0 to 127
unfoldable pub header_bytes : Doc → List ℕ → List ℕ
header_bytes doc payload = doc_fields doc payload ++ check_of (doc_fields doc payload)

-- how many zeros fill the last block
abbrev pub padding_of : ℕ → ℕ
padding_of length = 512 * blocks_of length - (128 + length)

-- the one document of these fields and this payload
abbrev pub document_bytes : Doc → List ℕ → List ℕ
document_bytes doc payload = header_bytes doc payload ++ payload ++ replicate (padding_of (length payload)) 0

-- the digest by which a document is recorded: of its header and its payload, without the zeros
abbrev pub digest_of_document : Doc → List ℕ → Digest
digest_of_document doc payload = digest_of (header_bytes doc payload ++ payload)

-- the put and the index fit fields of eight and of four bytes, and the key is the one that its 16 bytes spell
pub record HasName (doc : Doc) : Type 0 where
  pub is_key : key_of_bytes (key_bytes doc.id.first) ≡ doc.id.first
  pub put_fits : doc.id.put < 2 ^ 64
  pub index_fits : doc.id.index < 2 ^ 32

-- the place, the generation, the pin and the start fit fields of eight bytes each
pub record NumbersFit (doc : Doc) : Type 0 where
  pub place_fits : doc.place < 2 ^ 64
  pub generation_fits : doc.generation < 2 ^ 64
  pub pin_fits : doc.pin < 2 ^ 64
  pub start_fits : doc.start < 2 ^ 64

-- a header can spell this document and its payload, whose length has a field of four bytes
pub record Fits (doc : Doc) (payload : List ℕ) : Type 0 where
  pub name : HasName doc
  pub position : NumbersFit doc
  pub size_fits : length payload < 2 ^ 32

-- the bytes are this document, of this generation and at this place, in as many blocks as it has;
-- what stands behind the payload is free
pub record IsDocument (bytes : List ℕ) (generation place : ℕ) (doc : Doc) (payload : List ℕ) : Type 0 where
  pub fits : Fits doc payload
  pub of_generation : doc.generation ≡ generation
  pub at_place : doc.place ≡ place
  pub is_whole : 512 * blocks_of (length payload) ≤ length bytes
  pub is_spelled : take (length payload + 128) bytes ≡ header_bytes doc payload ++ payload
