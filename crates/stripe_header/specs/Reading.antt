-- What bytes are read as a span or a copy, and the first fault of bytes that are none.
use Rattle.std.specs.Prelude.{ℕ, ◌≡◌, ◌+◌, ◌-◌, ◌==◌, ◌&&◌, ◌||◌, Bool, not, nat_lt, List, length, take, drop, codes, Option, Some, None, Result, Ok, Err, if◌then◌else◌}
use Rattle.std.specs.Int.{Width, byte_len, from_le_bytes, w32, w64}
use Rattle.std.specs.Option.{option_or, is_none}
use Rattle.std.specs.List.{slice_index}
use Rattle.std.specs.Str.{bytes_eq}
use Rattle.sha2.specs.Sha256.{sha256}
use Rattle.tape_base.specs.declared.digests.Digest.{Digest}
use Rattle.tape_base.specs.Digest.{digest_of}
use Rattle.tape_base.specs.declared.geometries.Geometry.{Geometry}
use Rattle.tape_base.specs.Limits.{first_refusal}
use Rattle.stripe_header.specs.declared.states.CopyState.{CopyState}
use Rattle.stripe_header.specs.declared.states.Span.{Span}
use Rattle.stripe_header.specs.declared.states.SpanFault.{SpanFault}
use Rattle.stripe_header.specs.declared.states.SpanFault.TheVariants as span_faults
use Rattle.stripe_header.specs.declared.states.CopyFault.{CopyFault}
use Rattle.stripe_header.specs.declared.states.CopyFault.TheVariants as copy_faults
use Rattle.stripe_header.specs.Spelling.{Numbers, numbers_of, span_bytes, head_bytes, foot_bytes, may_say}

-- so many bytes from a place on
unfoldable pub block_bytes : ℕ → ℕ → List ℕ → List ℕ
block_bytes at count bytes = take count (drop at bytes)

-- the number that is spelled at a place
unfoldable pub block_number : Width → ℕ → List ℕ → ℕ
block_number w at bytes = from_le_bytes w (block_bytes at (byte_len w) bytes)

-- the versions of spans and of copies that are read
abbrev pub is_version : ℕ → Bool
is_version version = version == 1 || version == 2

-- the version that bytes tell
abbrev pub version_in : List ℕ → ℕ
version_in bytes = block_number w32 8 bytes

-- the digest that bytes keep at a place
abbrev pub block_digest : ℕ → List ℕ → Digest
block_digest at bytes = record { 0 = block_bytes at 32 bytes }

-- what the fields of a span tell, before any of them is judged; a span of version 1 means five alternates
abbrev pub span_numbers : List ℕ → Numbers
span_numbers bytes =
    record {
      segments = block_number w32 12 bytes;
      buckets = block_number w32 16 bytes;
      agg = block_number w32 20 bytes;
      fragment = block_number w32 24 bytes;
      alternates = if version_in bytes == 1 then 5 else block_number w32 28 bytes;
      content = block_number w64 32 bytes;
      reach = block_number w64 40 bytes;
      generation = block_number w64 48 bytes;
    }

-- the blocks of the stripe that a span tells
abbrev pub span_blocks : List ℕ → ℕ
span_blocks bytes = block_number w64 64 bytes

-- the geometry that has these numbers is not refused
abbrev pub are_accepted : Numbers → Bool
are_accepted n = is_none (first_refusal n.segments n.buckets n.content n.agg n.reach n.fragment n.alternates)

-- the first fault of a span's fields by themselves
unfoldable pub seal_fault : List ℕ → Option SpanFault
seal_fault bytes =
    if not (bytes_eq (block_bytes 0 8 bytes) (codes "TSCSPAN1")) then Some span_faults.Magic
    else if not (is_version (version_in bytes)) then Some span_faults.Version
    else if not (bytes_eq (block_bytes 72 32 bytes) (sha256 (block_bytes 0 72 bytes)))
    then Some (span_faults.Digest (block_digest 72 bytes) (digest_of (block_bytes 0 72 bytes)))
    else None

-- beside the content the stripe has room for what a device has at least, and the block is spelled as what it
-- tells is spelled
abbrev pub is_laid : List ℕ → Bool
is_laid bytes =
    not (nat_lt (span_blocks bytes) ((span_numbers bytes).content + 6))
    && bytes_eq bytes (span_bytes (version_in bytes) (span_numbers bytes) (span_blocks bytes))

-- the first fault of a span
unfoldable pub span_fault : List ℕ → Option SpanFault
span_fault bytes =
    option_or (seal_fault bytes) (if are_accepted (span_numbers bytes) && is_laid bytes then None else Some span_faults.Geometry)

-- the span was read, where there is no fault; else the fault was answered
abbrev pub SpanAnswers : Result Span SpanFault → Option SpanFault → Numbers → ℕ → Type 0
SpanAnswers (Ok span) fault n blocks = (fault ≡ None) × (numbers_of span.geometry ≡ n) × (span.blocks ≡ blocks)
SpanAnswers (Err found) fault n blocks = fault ≡ Some found

-- the bytes of a body but for its last block
abbrev pub covered_of : List ℕ → List ℕ
covered_of body = take (length body - 512) body

-- the last block of a body
abbrev pub footer_of : List ℕ → List ℕ
footer_of body = drop (length body - 512) body

-- what a copy of version 2 tells of its mark; one of version 1 is not clean
abbrev pub copy_told : List ℕ → CopyState
copy_told body =
    record {
      serial = block_number w64 56 body;
      cursor = block_number w64 64 body;
      next_put = block_number w64 72 body;
      clean = version_in body == 2 && block_number w64 80 body == 1;
      floor = if version_in body == 2 then block_number w64 88 body else 0;
    }

-- the serial in the footer
abbrev pub foot_serial : List ℕ → ℕ
foot_serial body = block_number w64 8 (footer_of body)

-- header and footer begin as they have to
abbrev pub has_magics : List ℕ → Bool
has_magics body =
    bytes_eq (block_bytes 0 8 body) (codes "TSCHEAD1") && bytes_eq (block_bytes 0 8 (footer_of body)) (codes "TSCFOOT1")

-- header and footer are spelled for this geometry as what they tell is spelled
abbrev pub are_spelled : Geometry → List ℕ → Bool
are_spelled g body =
    bytes_eq (block_bytes 0 512 body) (head_bytes (version_in body) (numbers_of g) (copy_told body))
    && bytes_eq (footer_of body) (foot_bytes (foot_serial body) (block_bytes 16 32 (footer_of body)))

-- the first fault of a body's header and footer by themselves
unfoldable pub form_fault : List ℕ → Option CopyFault
form_fault body =
    if not (has_magics body) then Some copy_faults.Magic
    else if not (is_version (version_in body)) then Some copy_faults.Version
    else if not (block_number w64 56 body == foot_serial body)
    then Some (copy_faults.Serials (block_number w64 56 body) (foot_serial body))
    else None

-- the fault of a body whose bytes are not those whose digest its footer keeps
unfoldable pub digest_fault : List ℕ → Option CopyFault
digest_fault body =
    if bytes_eq (block_bytes 16 32 (footer_of body)) (sha256 (covered_of body)) then None
    else Some (copy_faults.Digest (block_digest 16 (footer_of body)) (digest_of (covered_of body)))

-- the fault of a body that no stripe of this geometry has
unfoldable pub geometry_fault : Geometry → List ℕ → Option CopyFault
geometry_fault g body = if are_spelled g body && may_say g (copy_told body) then None else Some copy_faults.Geometry

-- the first fault of a copy
unfoldable pub copy_fault : Geometry → List ℕ → List ℕ → Option CopyFault
copy_fault g gate body =
    if not (slice_index gate 0 == 1) then Some copy_faults.GateShut
    else option_or (form_fault body) (option_or (digest_fault body) (geometry_fault g body))

-- the state was read, where there is no fault; else the fault was answered
abbrev pub CopyAnswers : Result CopyState CopyFault → Option CopyFault → CopyState → Type 0
CopyAnswers (Ok state) fault told = (fault ≡ None) × (state ≡ told)
CopyAnswers (Err found) fault told = fault ≡ Some found
