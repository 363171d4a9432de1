-- What is copied to another place keeps its payload, and stays the document that it was.
use Rattle.std.proofs.Common.{◌≡◌, ◌≤◌, ◌<◌, ◌^◌, ◌+◌, ℕ, List, [], ◌∷◌, ◌++◌, length, take, drop, refl, sym, ap, ◌∙◌, append_assoc, arith, inl, inr, subst}
use Rattle.std.specs.Prelude.{codes}
use Rattle.std.specs.Int.{w32, w64, to_le_bytes}
use Rattle.std.specs.List.{AllByRecursion}
use Rattle.std.proofs.Math.Seq.{take-append-add}
use Rattle.std.proofs.lemmas.Slice.{drop-append-drop}
use Rattle.std.proofs.lemmas.List.{take-append-drop, take_at, drop-take, drop_at, length-append, length-take, length-drop}
use Rattle.sha2.specs.Sha256.{sha256}
use Rattle.tape_base.specs.Key.{key_bytes}
use Rattle.tape_base.specs.Blocks.{blocks_of}
use Rattle.tape_base.specs.Digest.{digest_of, IsSame}
use Rattle.hex.specs.Hex.{IsBytes}
use Rattle.tape_base.proofs.Bytes.{IsBytes-append, IsBytes-nil, IsBytes-take, bytes_by_test, key_bytes-small, le_bytes-small, sha256-small}
use Rattle.tape_base.proofs.NameLaws.{length-key_bytes}
use Rattle.tape_base.proofs.DigestLaw.{digests_tell_lem}
use Rattle.doc_header.specs.declared.documents.Doc.{Doc}
use Rattle.doc_header.specs.Document.{name_bytes, doc_fields, header_bytes, check_of, digest_of_document, IsDocument}
use Rattle.doc_header.specs.Reading.{slice_at, length_of, extent_of, payload_of, document_digest}
use Rattle.doc_header.specs.Moving.{doc_moved_to, moved_fields, moved_to, MovesKeep, BeginsWith, MovedIsSpelled, MovedIsRecorded, IsMovedOrCollides, MovedIsSame}
use Rattle.doc_header.proofs.Stands.{joined, AreWide, joined-front, length-joined, length-field, field_behind, number_32_again, number_32_in_front}
use Rattle.doc_header.proofs.ReadingLaws.{length-sha256, fields_joined, fields_of, header_is, length-header, apart}

-- ---- what two writes into the bytes make of them

length-front : (bytes field : List ℕ) → 128 ≤ length bytes → length field ≡ 8 → length (take 48 bytes ++ field) ≡ 56
length-front bytes field long wide = omega (arith, length-append (take 48 bytes) field, length-take 48 bytes, long, wide)

fields_placed : (bytes field : List ℕ) → 128 ≤ length bytes → length field ≡ 8
    → take 112 (take 48 bytes ++ field ++ drop 56 bytes) ≡ take 48 bytes ++ field ++ slice_at 56 56 bytes
unfolding slice_at
fields_placed bytes field long wide =
    let front = take 48 bytes ++ field in
    let end : 112 ≡ length front + 56 = omega (arith, length-front bytes field long wide) in
    ap (λ n. take n (front ++ drop 56 bytes)) end ∙ take-append-add front (drop 56 bytes) 56

payload_behind : (bytes field : List ℕ) → 128 ≤ length bytes → length field ≡ 8
    → drop 128 (take 48 bytes ++ field ++ drop 56 bytes) ≡ drop 128 bytes
payload_behind bytes field long wide = drop-append-drop 56 bytes (take 48 bytes ++ field) 128 (omega arith) (length-front bytes field long wide)

-- the place is written, and then the check of what stands before it
pub moved_in_two : (place : ℕ) (bytes placed : List ℕ) → 128 ≤ length bytes → placed ≡ take 48 bytes ++ to_le_bytes w64 place ++ drop 56 bytes
    → take 112 placed ++ check_of (take 112 placed) ++ drop 128 placed ≡ moved_to place bytes
unfolding moved_to moved_fields
moved_in_two place bytes placed long h =
    let fields = ap (take 112) h ∙ fields_placed bytes (to_le_bytes w64 place) long refl in
    let behind = ap (drop 128) h ∙ payload_behind bytes (to_le_bytes w64 place) long refl in
    rw (fields, behind) refl

-- ---- a copy keeps its payload

length-moved_fields : (place : ℕ) (bytes : List ℕ) → 128 ≤ length bytes → length (moved_fields place bytes) ≡ 112
unfolding moved_fields
length-moved_fields place bytes long =
    let front = take 48 bytes ++ to_le_bytes w64 place in
    omega (arith, length-append front (slice_at 56 56 bytes), length-front bytes (to_le_bytes w64 place) long refl, length-field 56 56 bytes (omega arith))

-- bytes 0 to 127 of a copy
abbrev pub moved_header : ℕ → List ℕ → List ℕ
moved_header place bytes = moved_fields place bytes ++ check_of (moved_fields place bytes)

length-check_of : (fields : List ℕ) → length (check_of fields) ≡ 16
length-check_of fields = omega (arith, length-take 16 (sha256 fields), length-sha256 fields)

pub length-moved_header : (place : ℕ) (bytes : List ℕ) → 128 ≤ length bytes → length (moved_header place bytes) ≡ 128
length-moved_header place bytes long =
    let fields = moved_fields place bytes in
    omega (arith, length-append fields (check_of fields), length-moved_fields place bytes long, length-check_of fields)

behind_stays : (place : ℕ) (bytes : List ℕ) → 128 ≤ length bytes → drop 128 (moved_to place bytes) ≡ drop 128 bytes
unfolding moved_to
behind_stays place bytes long =
    drop_at (moved_header place bytes) (drop 128 bytes) 128 (length-moved_header place bytes long)

-- the front of the front of bytes that others follow
front_of_three : (n : ℕ) (front a b c : List ℕ) → length front ≡ n → take n (((front ++ a) ++ b) ++ c) ≡ front
front_of_three n front a b c wide =
    let nested : ((front ++ a) ++ b) ++ c ≡ front ++ (a ++ (b ++ c)) = append_assoc (front ++ a) b c ∙ append_assoc front a (b ++ c) in
    ap (take n) nested ∙ take_at front (a ++ (b ++ c)) n wide

name_stays : (place : ℕ) (bytes : List ℕ) → 128 ≤ length bytes → take 48 (moved_to place bytes) ≡ take 48 bytes
unfolding moved_to moved_fields
name_stays place bytes long =
    let place_bytes = to_le_bytes w64 place in
    let behind = slice_at 56 56 bytes in
    let fields = take 48 bytes ++ place_bytes ++ behind in
    let rest = check_of fields ++ drop 128 bytes in
    let nested : fields ++ check_of fields ++ drop 128 bytes ≡ fields ++ rest = append_assoc fields (check_of fields) (drop 128 bytes) in
    ap (take 48) nested ∙ front_of_three 48 (take 48 bytes) place_bytes behind rest (omega (arith, length-take 48 bytes, long))

as_many_bytes : (place : ℕ) (bytes : List ℕ) → 128 ≤ length bytes → length (moved_to place bytes) ≡ length bytes
unfolding moved_to
as_many_bytes place bytes long =
    let header = moved_header place bytes in
    omega (arith, length-append header (drop 128 bytes), length-moved_header place bytes long, length-drop 128 bytes, long)

length_stays : (place : ℕ) (bytes : List ℕ) → 128 ≤ length bytes → length_of (moved_to place bytes) ≡ length_of bytes
length_stays place bytes long = number_32_in_front 48 12 36 (moved_to place bytes) bytes (omega arith) (omega arith) (name_stays place bytes long)

payload_stays : (place : ℕ) (bytes : List ℕ) → 128 ≤ length bytes → payload_of (moved_to place bytes) ≡ payload_of bytes
unfolding slice_at
payload_stays place bytes long =
    ap (λ n. take n (drop 128 (moved_to place bytes))) (length_stays place bytes long) ∙ ap (take (length_of bytes)) (behind_stays place bytes long)

pub moves_keep_lem : MovesKeep
moves_keep_lem place bytes long =
    record { as_many = as_many_bytes place bytes long; told = length_stays place bytes long; payload = payload_stays place bytes long }

-- ---- a document is bytes where its payload is

joined_small : (front : List ℕ) (fs : List (ℕ × List ℕ)) → IsBytes front → AllByRecursion (λ f. IsBytes f.1) fs → IsBytes (joined front fs)
joined_small front [] small each = small
joined_small front (f ∷ fs) small each = joined_small (front ++ f.1) fs (IsBytes-append front f.1 small each.0) each.1

magic_small : IsBytes (codes "TSCDOCM1")
magic_small = bytes_by_test (codes "TSCDOCM1") refl

fields_small : (doc : Doc) (payload : List ℕ) → AllByRecursion (λ f. IsBytes f.1) (fields_of doc payload)
fields_small doc payload = (
  magic_small,
  (
    le_bytes-small w32 1,
    (
      le_bytes-small w32 (length payload),
      (
        key_bytes-small doc.id.first,
        (
          le_bytes-small w64 doc.id.put,
          (
            le_bytes-small w32 doc.id.index,
            (
              le_bytes-small w32 (blocks_of (length payload)),
              (
                le_bytes-small w64 doc.place,
                (
                  le_bytes-small w64 doc.generation,
                  (
                    le_bytes-small w64 doc.pin,
                    (
                      le_bytes-small w64 doc.start,
                      (sha256-small payload, tt),
                    ),
                  ),
                ),
              ),
            ),
          ),
        ),
      ),
    ),
  ),
)

header_small : (doc : Doc) (payload : List ℕ) → IsBytes (header_bytes doc payload)
header_small doc payload =
    let fields = doc_fields doc payload in
    let small : IsBytes fields = subst IsBytes (sym (fields_joined doc payload)) (joined_small [] (fields_of doc payload) IsBytes-nil (fields_small doc payload)) in
    subst IsBytes (sym (header_is doc payload)) (IsBytes-append fields (check_of fields) small (IsBytes-take 16 (sha256 fields) (sha256-small fields)))

-- what is digested of a document
pub document_small : (doc : Doc) (payload : List ℕ) → IsBytes payload → IsBytes (header_bytes doc payload ++ payload)
document_small doc payload few = IsBytes-append (header_bytes doc payload) payload (header_small doc payload) few

-- ---- a copy of a document is a document

-- the fields before the place, and those behind it
abbrev fields_before : Doc → List ℕ → List (ℕ × List ℕ)
fields_before doc payload =
    (8, codes "TSCDOCM1") ∷ (4, to_le_bytes w32 1) ∷ (4, to_le_bytes w32 (length payload)) ∷ (16, key_bytes doc.id.first)
    ∷ (8, to_le_bytes w64 doc.id.put) ∷ (4, to_le_bytes w32 doc.id.index) ∷ (4, to_le_bytes w32 (blocks_of (length payload))) ∷ []

abbrev fields_behind : Doc → List ℕ → List (ℕ × List ℕ)
fields_behind doc payload =
    (8, to_le_bytes w64 doc.generation) ∷ (8, to_le_bytes w64 doc.pin) ∷ (8, to_le_bytes w64 doc.start) ∷ (32, sha256 payload) ∷ []

behind_wide : (doc : Doc) (payload : List ℕ) → AreWide (fields_behind doc payload)
behind_wide doc payload = (refl, (refl, (refl, (length-sha256 payload, tt))))

before_wide : (doc : Doc) (payload : List ℕ) → AreWide (fields_before doc payload)
before_wide doc payload = (refl, (refl, (refl, (length-key_bytes doc.id.first, (refl, (refl, (refl, tt)))))))

length-name : (doc : Doc) (payload : List ℕ) → length (name_bytes doc (length payload)) ≡ 48
unfolding name_bytes
length-name doc payload = length-joined [] (fields_before doc payload) 0 refl (before_wide doc payload)

-- the fields behind the place, joined
abbrev behind_place : Doc → List ℕ → List ℕ
behind_place doc payload = joined [] (fields_behind doc payload)

length-behind : (doc : Doc) (payload : List ℕ) → length (behind_place doc payload) ≡ 56
length-behind doc payload = length-joined [] (fields_behind doc payload) 0 refl (behind_wide doc payload)

fields_in_three : (doc : Doc) (payload : List ℕ)
    → doc_fields doc payload ≡ (name_bytes doc (length payload) ++ to_le_bytes w64 doc.place) ++ behind_place doc payload
fields_in_three doc payload = joined-front (name_bytes doc (length payload) ++ to_le_bytes w64 doc.place) (fields_behind doc payload)

name_at : (place : ℕ) (doc : Doc) (n : ℕ) → name_bytes (doc_moved_to place doc) n ≡ name_bytes doc n
unfolding name_bytes
name_at place doc n = refl

-- three lists, of which the middle one is replaced
three_apart : (bytes name place behind rest : List ℕ) → bytes ≡ ((name ++ place) ++ behind) ++ rest → length name ≡ 48 → length place ≡ 8 → length behind ≡ 56
    → (take 48 bytes ≡ name) × (slice_at 56 56 bytes ≡ behind)
three_apart bytes name place behind rest h short eight wide =
    let nested : bytes ≡ (name ++ place) ++ (behind ++ rest) = h ∙ append_assoc (name ++ place) behind rest in
    let front : length (name ++ place) ≡ 56 = omega (arith, length-append name place, short, eight) in
    (ap (take 48) h ∙ front_of_three 48 name place behind rest short, ap (slice_at 56 56) nested ∙ field_behind (name ++ place) behind rest 56 56 front wide)

fields_moved : (place : ℕ) (bytes : List ℕ) (doc : Doc) (payload rest : List ℕ) → bytes ≡ doc_fields doc payload ++ rest
    → moved_fields place bytes ≡ doc_fields (doc_moved_to place doc) payload
unfolding moved_fields
fields_moved place bytes doc payload rest h =
    let name = name_bytes doc (length payload) in
    let parts = three_apart bytes name (to_le_bytes w64 doc.place) (behind_place doc payload) rest
    (h ∙ ap (λ l. l ++ rest) (fields_in_three doc payload)) (length-name doc payload) refl (length-behind doc payload) in
    let moved : take 48 bytes ++ to_le_bytes w64 place ++ slice_at 56 56 bytes ≡ name ++ to_le_bytes w64 place ++ behind_place doc payload =
    ap (λ l. l ++ to_le_bytes w64 place ++ slice_at 56 56 bytes) parts.0 ∙ ap (λ l. name ++ to_le_bytes w64 place ++ l) parts.1 in
    moved ∙ (ap (λ l. l ++ to_le_bytes w64 place ++ behind_place doc payload) (sym (name_at place doc (length payload))) ∙ sym (fields_in_three (doc_moved_to place doc) payload))

-- a document, and what stands behind it
begun : (bytes : List ℕ) (doc : Doc) (payload : List ℕ) → BeginsWith bytes doc payload
    → bytes ≡ (header_bytes doc payload ++ payload) ++ drop (length payload + 128) bytes
begun bytes doc payload h =
    sym (take-append-drop (length payload + 128) bytes) ∙ ap (λ l. l ++ drop (length payload + 128) bytes) h

header_there : (bytes : List ℕ) (doc : Doc) (payload : List ℕ) → BeginsWith bytes doc payload → 128 ≤ length bytes
header_there bytes doc payload h =
    let taken : length (take (length payload + 128) bytes) ≡ length (header_bytes doc payload ++ payload) = ap length h in
    omega (arith, taken, length-take (length payload + 128) bytes, length-append (header_bytes doc payload) payload, length-header doc payload)

header_moved : (place : ℕ) (bytes : List ℕ) (doc : Doc) (payload : List ℕ) → BeginsWith bytes doc payload
    → moved_header place bytes ≡ header_bytes (doc_moved_to place doc) payload
header_moved place bytes doc payload h =
    let early = doc_fields doc payload in
    let check = check_of early in
    let rest = drop (length payload + 128) bytes in
    let split : bytes ≡ (early ++ check) ++ (payload ++ rest) =
    begun bytes doc payload h ∙ (append_assoc (header_bytes doc payload) payload rest ∙ ap (λ l. l ++ (payload ++ rest)) (header_is doc payload)) in
    let fields = fields_moved place bytes doc payload (check ++ (payload ++ rest)) (split ∙ append_assoc early check (payload ++ rest)) in
    ap (λ l. l ++ check_of l) fields ∙ sym (header_is (doc_moved_to place doc) payload)

payload_there : (bytes : List ℕ) (doc : Doc) (payload : List ℕ) → BeginsWith bytes doc payload → take (length payload) (drop 128 bytes) ≡ payload
payload_there bytes doc payload h =
    let n = length payload in
    let order : 128 + n ≡ n + 128 = omega arith in
    sym (drop-take 128 n bytes) ∙ (ap (λ k. drop 128 (take k bytes)) order ∙ (ap (drop 128) h ∙ drop_at (header_bytes doc payload) payload 128 (length-header doc payload)))

pub moved_is_spelled_lem : MovedIsSpelled
unfolding moved_to
moved_is_spelled_lem place bytes doc payload h =
    let n = length payload in
    let header = header_bytes (doc_moved_to place doc) payload in
    let moved : moved_to place bytes ≡ header ++ drop 128 bytes = ap (λ l. l ++ drop 128 bytes) (header_moved place bytes doc payload h) in
    let end : n + 128 ≡ length header + n = omega (arith, length-header (doc_moved_to place doc) payload) in
    ap (take (n + 128)) moved ∙ (ap (λ k. take k (header ++ drop 128 bytes)) end
    ∙ (take-append-add header (drop 128 bytes) n ∙ ap (λ l. header ++ l) (payload_there bytes doc payload h)))

-- ---- and is recorded as that document

length_told : (bytes : List ℕ) (doc : Doc) (payload : List ℕ) → length payload < 2 ^ 32 → BeginsWith bytes doc payload → length_of bytes ≡ length payload
length_told bytes doc payload fits h =
    let a = apart bytes doc payload (drop (length payload + 128) bytes) (begun bytes doc payload h) in
    number_32_again 12 (length payload) bytes fits a.fields.1.1.0

digest_told : (bytes : List ℕ) (doc : Doc) (payload : List ℕ) → length payload < 2 ^ 32 → BeginsWith bytes doc payload
    → document_digest bytes ≡ digest_of_document doc payload
digest_told bytes doc payload fits h = ap digest_of (ap (λ n. take (n + 128) bytes) (length_told bytes doc payload fits h) ∙ h)

pub moved_is_recorded_lem : MovedIsRecorded
moved_is_recorded_lem place bytes doc payload fits h =
    digest_told (moved_to place bytes) (doc_moved_to place doc) payload fits (moved_is_spelled_lem place bytes doc payload h)

-- bytes that are looked at as far as a document goes begin with it
pub extent_begins : (bytes : List ℕ) (doc : Doc) (payload : List ℕ) → length payload < 2 ^ 32
    → take (extent_of bytes) bytes ≡ header_bytes doc payload ++ payload → BeginsWith bytes doc payload
extent_begins bytes doc payload fits h =
    let rest = drop (extent_of bytes) bytes in
    let parts : bytes ≡ (header_bytes doc payload ++ payload) ++ rest = sym (take-append-drop (extent_of bytes) bytes) ∙ ap (λ l. l ++ rest) h in
    let a = apart bytes doc payload rest parts in
    let told : length_of bytes ≡ length payload = number_32_again 12 (length payload) bytes fits a.fields.1.1.0 in
    ap (λ n. take (n + 128) bytes) (sym told) ∙ h

same_or_collides : (place : ℕ) (bytes : List ℕ) (doc : Doc) (payload : List ℕ) → length payload < 2 ^ 32
    → IsSame (take (extent_of bytes) bytes) (header_bytes doc payload ++ payload) → IsMovedOrCollides place bytes doc payload
same_or_collides place bytes doc payload fits (inl same) = inl (moved_is_recorded_lem place bytes doc payload fits (extent_begins bytes doc payload fits same))
same_or_collides place bytes doc payload fits (inr collide) = inr collide

pub moved_is_same_lem : MovedIsSame
moved_is_same_lem place bytes doc payload small few fits h =
    same_or_collides place bytes doc payload fits
    (digests_tell_lem (take (extent_of bytes) bytes) (header_bytes doc payload ++ payload) (IsBytes-take (extent_of bytes) bytes small) (document_small doc payload few) h)

-- what was read at one place is read at the other
pub moved_document : (place : ℕ) (bytes : List ℕ) (generation before : ℕ) (doc : Doc) (payload : List ℕ) → place < 2 ^ 64
    → IsDocument bytes generation before doc payload → IsDocument (moved_to place bytes) generation place (doc_moved_to place doc) payload
moved_document place bytes generation before doc payload fits d =
    let long = header_there bytes doc payload d.is_spelled in
    record {
      fits = record {
        name = record { is_key = d.fits.name.is_key; put_fits = d.fits.name.put_fits; index_fits = d.fits.name.index_fits };
        position = record { place_fits = fits; generation_fits = d.fits.position.generation_fits; pin_fits = d.fits.position.pin_fits; start_fits = d.fits.position.start_fits };
        size_fits = d.fits.size_fits;
      };
      of_generation = d.of_generation;
      at_place = refl;
      is_whole = omega (arith, as_many_bytes place bytes long, d.is_whole);
      is_spelled = moved_is_spelled_lem place bytes doc payload d.is_spelled;
    }
