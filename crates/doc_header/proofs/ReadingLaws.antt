-- What is read is spelled so, and what is spelled so is read.
use Rattle.std.proofs.Common.{◌≡◌, ◌≤◌, ◌+◌, ◌*◌, ℕ, Bool, true, false, cond, List, [], ◌∷◌, ◌++◌, length, take, drop, Option, Some, None, Result, Ok, Err, refl, sym, ap, subst, ◌∙◌, append_assoc, arith}
use Rattle.std.specs.Prelude.{codes, not, nat_lt, ◌==◌, IfOk}
use Rattle.std.specs.Int.{w32, w64, to_le_bytes}
use Rattle.std.specs.Option.{option_or}
use Rattle.std.specs.Str.{bytes_eq}
use Rattle.std.proofs.lemmas.Slice.Eq.{bytes_eq-Decides}
use Rattle.std.proofs.lemmas.Bool.{eqb-true, eq-eqb, and_parts, ltb-false, le-ltb}
use Rattle.std.proofs.lemmas.List.{take-append-drop, take_at, drop-take, drop_at, length-append, length-take}
use Rattle.sha2.specs.Sha256.{sha256, digest_bytes}
use Rattle.hex.specs.Hex.{IsBytes}
use Rattle.tape_base.specs.Key.{key_bytes, key_of_bytes}
use Rattle.tape_base.specs.Blocks.{blocks_of}
use Rattle.tape_base.specs.declared.digests.Digest.{Digest}
use Rattle.tape_base.specs.Digest.{digest_of}
use Rattle.tape_base.proofs.NameLaws.{length-key_bytes}
use Rattle.doc_header.specs.declared.documents.Doc.{Doc}
use Rattle.doc_header.specs.declared.documents.DocRef.{DocRef}
use Rattle.doc_header.specs.declared.documents.DocFault.{DocFault}
use Rattle.doc_header.specs.Document.{name_bytes, doc_fields, header_bytes, document_bytes, check_of, digest_of_document, Fits, IsDocument}
use Rattle.doc_header.specs.Reading.{slice_at, doc_number, length_of, extent_of, doc_of, payload_of, kept_digest, has_blocks, header_fault, address_fault, payload_fault, first_fault, document_digest, AnswersDocument}
use Rattle.doc_header.proofs.Stands.{Stands, joined, AreWide, take-field, length-joined, joined_as_they_stand, stand_as_joined, field_behind, length-field, spelled_32, spelled_64, below_32, below_64, number_32_again, number_64_again, field_in_front, number_32_in_front, number_64_in_front}

pub length-sha256 : (m : List ℕ) → length (sha256 m) ≡ 32
unfolding sha256 digest_bytes
length-sha256 m = refl

-- the fields before the check of a header, each with its width
abbrev pub fields_of : Doc → List ℕ → List (ℕ × List ℕ)
fields_of doc payload =
    (8, codes "TSCDOCM1") ∷ (4, to_le_bytes w32 1) ∷ (4, to_le_bytes w32 (length payload)) ∷ (16, key_bytes doc.id.first)
    ∷ (8, to_le_bytes w64 doc.id.put) ∷ (4, to_le_bytes w32 doc.id.index) ∷ (4, to_le_bytes w32 (blocks_of (length payload)))
    ∷ (8, to_le_bytes w64 doc.place) ∷ (8, to_le_bytes w64 doc.generation) ∷ (8, to_le_bytes w64 doc.pin)
    ∷ (8, to_le_bytes w64 doc.start) ∷ (32, sha256 payload) ∷ []

pub fields_joined : (doc : Doc) (payload : List ℕ) → doc_fields doc payload ≡ joined [] (fields_of doc payload)
unfolding name_bytes
fields_joined doc payload = refl

fields_wide : (doc : Doc) (payload : List ℕ) → AreWide (fields_of doc payload)
fields_wide doc payload =
    (refl, (refl, (refl, (length-key_bytes doc.id.first, (refl, (refl, (refl, (refl, (refl, (refl, (refl, (length-sha256 payload, tt))))))))))))

length-fields : (doc : Doc) (payload : List ℕ) → length (doc_fields doc payload) ≡ 112
length-fields doc payload = ap length (fields_joined doc payload) ∙ length-joined [] (fields_of doc payload) 0 refl (fields_wide doc payload)

length-check : (doc : Doc) (payload : List ℕ) → length (check_of (doc_fields doc payload)) ≡ 16
length-check doc payload = omega (arith, length-take 16 (sha256 (doc_fields doc payload)), length-sha256 (doc_fields doc payload))

pub header_is : (doc : Doc) (payload : List ℕ) → header_bytes doc payload ≡ doc_fields doc payload ++ check_of (doc_fields doc payload)
unfolding header_bytes
header_is doc payload = refl

pub length-header : (doc : Doc) (payload : List ℕ) → length (header_bytes doc payload) ≡ 128
length-header doc payload =
    let wide : length (doc_fields doc payload ++ check_of (doc_fields doc payload)) ≡ 128 =
    omega (arith, length-append (doc_fields doc payload) (check_of (doc_fields doc payload)), length-fields doc payload, length-check doc payload) in
    ap length (header_is doc payload) ∙ wide

-- bytes that are those of a document, as far as they are looked at, tell its payload
pub payload_told : (bytes : List ℕ) (doc : Doc) (payload : List ℕ) → take (extent_of bytes) bytes ≡ header_bytes doc payload ++ payload → payload_of bytes ≡ payload
unfolding slice_at
payload_told bytes doc payload same =
    let extent : 128 + length_of bytes ≡ extent_of bytes = omega arith in
    sym (drop-take 128 (length_of bytes) bytes)
    ∙ (ap (λ n. drop 128 (take n bytes)) extent ∙ (ap (drop 128) same ∙ drop_at (header_bytes doc payload) payload 128 (length-header doc payload)))

-- ---- what passed, and what passes

not_none : (b : Bool) (fault : DocFault) (rest : Option DocFault) → cond (not b) (Some fault) rest ≡ None → (b ≡ true) × (rest ≡ None)
not_none true fault rest h = (refl, h)
not_none false fault rest h = absurd cc

neither : (a b : Option DocFault) → option_or a b ≡ None → (a ≡ None) × (b ≡ None)
neither None b h = (refl, h)
neither (Some fault) b h = absurd cc

long_enough : (short : Bool) (fault : DocFault) (rest : Option DocFault) → cond short (Some fault) rest ≡ None → (short ≡ false) × (rest ≡ None)
long_enough true fault rest h = absurd cc
long_enough false fault rest h = (refl, h)

kept_none : (b : Bool) (fault : DocFault) → cond b None (Some fault) ≡ None → b ≡ true
kept_none true fault h = refl
kept_none false fault h = absurd cc

same : (a b : List ℕ) → bytes_eq a b ≡ true → a ≡ b
same a b h = (bytes_eq-Decides a b).0 h

equal : (a b : List ℕ) → a ≡ b → bytes_eq a b ≡ true
equal a b h = (bytes_eq-Decides a b).1 h

-- what a header without a fault has
record Passes (bytes : List ℕ) : Type 0 where
  magic : slice_at 0 8 bytes ≡ codes "TSCDOCM1"
  version : doc_number w32 8 bytes ≡ 1
  blocks : has_blocks bytes ≡ true
  check : slice_at 112 16 bytes ≡ check_of (slice_at 0 112 bytes)

passed : (bytes : List ℕ) → header_fault bytes ≡ None → Passes bytes
unfolding header_fault
passed bytes h =
    let a = not_none _ _ _ h in
    let b = not_none _ _ _ a.1 in
    let c = not_none _ _ _ b.1 in
    let d = not_none _ _ _ c.1 in
    record { magic = same _ _ a.0; version = eqb-true _ _ b.0; blocks = c.0; check = same _ _ d.0 }

passes : (bytes : List ℕ) → Passes bytes → header_fault bytes ≡ None
unfolding header_fault
passes bytes p = rw (equal _ _ p.magic, eq-eqb _ _ p.version, p.blocks, equal _ _ p.check) refl

addressed : (doc : Doc) (generation place : ℕ) → address_fault doc generation place ≡ None → (doc.generation ≡ generation) × (doc.place ≡ place)
unfolding address_fault
addressed doc generation place h =
    let a = not_none _ _ _ h in
    let b = not_none _ _ _ a.1 in
    (eqb-true _ _ a.0, eqb-true _ _ b.0)

is_addressed : (doc : Doc) (generation place : ℕ) → doc.generation ≡ generation → doc.place ≡ place → address_fault doc generation place ≡ None
unfolding address_fault
is_addressed doc generation place g p = rw (eq-eqb _ _ g, eq-eqb _ _ p) refl

digest_kept : (kept : Digest) (payload : List ℕ) → payload_fault kept payload ≡ None → kept.0 ≡ sha256 payload
unfolding payload_fault
digest_kept kept payload h = same _ _ (kept_none _ _ h)

-- what is read without a fault keeps the digest of its payload
pub kept_is : (bytes : List ℕ) (generation place : ℕ) → first_fault bytes generation place ≡ None → kept_digest bytes ≡ digest_of (payload_of bytes)
kept_is bytes generation place h =
    let first = long_enough _ _ _ h in
    let groups = neither _ _ first.1 in
    let others = neither _ _ groups.1 in
    ap (λ x. let kept : Digest = record { 0 = x } in kept) (digest_kept (kept_digest bytes) (payload_of bytes) others.1)

is_kept : (kept : Digest) (payload : List ℕ) → kept.0 ≡ sha256 payload → payload_fault kept payload ≡ None
unfolding payload_fault
is_kept kept payload h = rw (equal _ _ h) refl

-- ---- what is read is spelled so

not_false : (b : Bool) → not b ≡ true → b ≡ false
not_false true h = absurd cc
not_false false h = refl

-- the blocks of a length, and room for them
record HasRoom (bytes : List ℕ) : Type 0 where
  counted : doc_number w32 44 bytes ≡ blocks_of (length_of bytes)
  there : 512 * blocks_of (length_of bytes) ≤ length bytes

room : (bytes : List ℕ) → has_blocks bytes ≡ true → HasRoom bytes
room bytes h =
    let both = and_parts (doc_number w32 44 bytes == blocks_of (length_of bytes)) (not (nat_lt (length bytes) (512 * blocks_of (length_of bytes)))) h in
    record { counted = eqb-true _ _ both.0; there = ltb-false _ _ (not_false _ both.1) }

fields_spelled : (bytes payload : List ℕ) → IsBytes bytes → 128 ≤ length bytes → key_bytes (key_of_bytes (slice_at 16 16 bytes)) ≡ slice_at 16 16 bytes
    → length payload ≡ length_of bytes → slice_at 80 32 bytes ≡ sha256 payload → Passes bytes → HasRoom bytes → take 112 bytes ≡ doc_fields (doc_of bytes) payload
fields_spelled bytes payload small long key size kept p r =
    let doc = doc_of bytes in
    let version = spelled_32 8 bytes small (omega arith) ∙ ap (to_le_bytes w32) p.version in
    let sized = spelled_32 12 bytes small (omega arith) ∙ ap (to_le_bytes w32) (sym size) in
    let blocks = spelled_32 44 bytes small (omega arith) ∙ ap (to_le_bytes w32) (r.counted ∙ ap blocks_of (sym size)) in
    let put = spelled_64 32 bytes small (omega arith) in
    let index = spelled_32 40 bytes small (omega arith) in
    let place = spelled_64 48 bytes small (omega arith) in
    let generation = spelled_64 56 bytes small (omega arith) in
    let pin = spelled_64 64 bytes small (omega arith) in
    let start = spelled_64 72 bytes small (omega arith) in
    let stands : Stands 0 (fields_of doc payload) bytes =
    (p.magic, (version, (sized, (sym key, (put, (index, (blocks, (place, (generation, (pin, (start, (kept, tt)))))))))))) in
    joined_as_they_stand 0 (fields_of doc payload) bytes [] refl stands ∙ sym (fields_joined doc payload)

header_spelled : (bytes payload : List ℕ) (doc : Doc) → slice_at 112 16 bytes ≡ check_of (slice_at 0 112 bytes) → take 112 bytes ≡ doc_fields doc payload → take 128 bytes ≡ header_bytes doc payload
unfolding slice_at header_bytes
header_spelled bytes payload doc check fields =
    take-field 112 16 bytes ∙ (ap (λ l. take 112 bytes ++ l) check ∙ ap (λ l. l ++ check_of l) fields)

pub spelled : (bytes : List ℕ) (generation place : ℕ) → IsBytes bytes → key_bytes (key_of_bytes (slice_at 16 16 bytes)) ≡ slice_at 16 16 bytes
    → first_fault bytes generation place ≡ None → IsDocument bytes generation place (doc_of bytes) (payload_of bytes)
spelled bytes generation place small key h =
    let m = length_of bytes in
    let payload = payload_of bytes in
    let doc = doc_of bytes in
    let first = long_enough _ _ _ h in
    let long : 128 ≤ length bytes = ltb-false _ _ first.0 in
    let groups = neither _ _ first.1 in
    let p = passed bytes groups.0 in
    let r = room bytes p.blocks in
    let others = neither _ _ groups.1 in
    let address = addressed doc generation place others.0 in
    let kept = digest_kept (kept_digest bytes) payload others.1 in
    let size : length payload ≡ m = length-field 128 m bytes (omega (arith, r.there)) in
    let fields = fields_spelled bytes payload small long key size kept p r in
    let header = header_spelled bytes payload doc p.check fields in
    let whole : take (128 + m) bytes ≡ header_bytes doc payload ++ payload = take-field 128 m bytes ∙ ap (λ l. l ++ payload) header in
    let extent : length payload + 128 ≡ 128 + m = omega (arith, size) in
    record {
      fits = record {
        name = record { is_key = ap key_of_bytes key; put_fits = below_64 32 bytes small; index_fits = below_32 40 bytes small };
        position = record { place_fits = below_64 48 bytes small; generation_fits = below_64 56 bytes small; pin_fits = below_64 64 bytes small; start_fits = below_64 72 bytes small };
        size_fits = rw size (below_32 12 bytes small);
      };
      of_generation = address.0;
      at_place = address.1;
      is_whole = rw size r.there;
      is_spelled = ap (λ n. take n bytes) extent ∙ whole;
    }

pub is_found : (bytes : List ℕ) (generation place : ℕ) (r : Result DocRef DocFault) → IsBytes bytes → IfOk r (λ _. key_bytes (key_of_bytes (slice_at 16 16 bytes)) ≡ slice_at 16 16 bytes)
    → AnswersDocument r (first_fault bytes generation place) (doc_of bytes) (payload_of bytes) → IfOk r (λ read. IsDocument bytes generation place read.doc read.payload.now)
is_found bytes generation place (Ok read) small key given =
    let law = spelled bytes generation place small key given.0 in
    subst (λ (payload : List ℕ). IsDocument bytes generation place read.doc payload) (sym given.2) (subst (λ (doc : Doc). IsDocument bytes generation place doc (payload_of bytes)) (sym given.1) law)
is_found bytes generation place (Err fault) small key given = tt

-- ---- what is spelled so is read

-- a document taken apart
pub record Apart (bytes : List ℕ) (doc : Doc) (payload : List ℕ) : Type 0 where
  pub fields : Stands 0 (fields_of doc payload) bytes
  pub front : slice_at 0 112 bytes ≡ doc_fields doc payload
  pub check : slice_at 112 16 bytes ≡ check_of (doc_fields doc payload)
  pub payload_is : slice_at 128 (length payload) bytes ≡ payload

pub apart : (bytes : List ℕ) (doc : Doc) (payload rest : List ℕ) → bytes ≡ (header_bytes doc payload ++ payload) ++ rest → Apart bytes doc payload
apart bytes doc payload rest h =
    let early = doc_fields doc payload in
    let check = check_of early in
    let in_two : bytes ≡ (early ++ check) ++ (payload ++ rest) = h ∙ (append_assoc (header_bytes doc payload) payload rest ∙ ap (λ l. l ++ (payload ++ rest)) (header_is doc payload)) in
    let in_three : bytes ≡ early ++ (check ++ (payload ++ rest)) = in_two ∙ append_assoc early check (payload ++ rest) in
    let wide : length (early ++ check) ≡ 128 = omega (arith, length-append early check, length-fields doc payload, length-check doc payload) in
    record {
      fields = stand_as_joined 0 (fields_of doc payload) bytes [] (check ++ (payload ++ rest)) refl (fields_wide doc payload) (in_three ∙ ap (λ l. l ++ (check ++ (payload ++ rest))) (fields_joined doc payload));
      front = ap (slice_at 0 112) in_three ∙ field_behind [] early (check ++ (payload ++ rest)) 0 112 refl (length-fields doc payload);
      check = ap (slice_at 112 16) in_three ∙ field_behind early check (payload ++ rest) 112 16 (length-fields doc payload) (length-check doc payload);
      payload_is = ap (slice_at 128 (length payload)) in_two ∙ field_behind (early ++ check) payload rest 128 (length payload) wide refl;
    }

has_room : (bytes : List ℕ) → HasRoom bytes → has_blocks bytes ≡ true
has_room bytes r = rw (eq-eqb _ _ r.counted, le-ltb _ _ r.there) refl

doc_again : (bytes : List ℕ) (doc : Doc) (payload : List ℕ) → Fits doc payload → Apart bytes doc payload → doc_of bytes ≡ doc
doc_again bytes doc payload fits a =
    let key = ap key_of_bytes a.fields.1.1.1.0 ∙ fits.name.is_key in
    let put = number_64_again 32 doc.id.put bytes fits.name.put_fits a.fields.1.1.1.1.0 in
    let index = number_32_again 40 doc.id.index bytes fits.name.index_fits a.fields.1.1.1.1.1.0 in
    let place = number_64_again 48 doc.place bytes fits.position.place_fits a.fields.1.1.1.1.1.1.1.0 in
    let generation = number_64_again 56 doc.generation bytes fits.position.generation_fits a.fields.1.1.1.1.1.1.1.1.0 in
    let pin = number_64_again 64 doc.pin bytes fits.position.pin_fits a.fields.1.1.1.1.1.1.1.1.1.0 in
    let start = number_64_again 72 doc.start bytes fits.position.start_fits a.fields.1.1.1.1.1.1.1.1.1.1.0 in
    λ i. record { id = record { first = key i; put = put i; index = index i }; place = place i; generation = generation i; pin = pin i; start = start i }

-- reading meets no fault, and gives the document
pub record IsRead (bytes : List ℕ) (generation place : ℕ) (doc : Doc) (payload : List ℕ) : Type 0 where
  pub faultless : first_fault bytes generation place ≡ None
  pub doc_read : doc_of bytes ≡ doc
  pub payload_read : payload_of bytes ≡ payload
  pub sized : length_of bytes ≡ length payload

pub again : (bytes : List ℕ) (generation place : ℕ) (doc : Doc) (payload : List ℕ) → IsDocument bytes generation place doc payload → IsRead bytes generation place doc payload
again bytes generation place doc payload d =
    let n = length payload in
    let rest = drop (n + 128) bytes in
    let parts : bytes ≡ (header_bytes doc payload ++ payload) ++ rest = sym (take-append-drop (n + 128) bytes) ∙ ap (λ l. l ++ rest) d.is_spelled in
    let a = apart bytes doc payload rest parts in
    let size : length_of bytes ≡ n = number_32_again 12 n bytes d.fits.size_fits a.fields.1.1.0 in
    let version : doc_number w32 8 bytes ≡ 1 = number_32_again 8 1 bytes (omega arith) a.fields.1.0 in
    let counted : doc_number w32 44 bytes ≡ blocks_of n = number_32_again 44 (blocks_of n) bytes (omega (arith, d.fits.size_fits)) a.fields.1.1.1.1.1.1.0 in
    let r : HasRoom bytes = record { counted = counted ∙ ap blocks_of (sym size); there = rw size d.is_whole } in
    let p : Passes bytes = record { magic = a.fields.0; version = version; blocks = has_room bytes r; check = a.check ∙ ap check_of (sym a.front) } in
    let doc_is = doc_again bytes doc payload d.fits a in
    let payload_is : payload_of bytes ≡ payload = ap (λ k. slice_at 128 k bytes) size ∙ a.payload_is in
    let addressed_so : address_fault (doc_of bytes) generation place ≡ None = ap (λ x. address_fault x generation place) doc_is ∙ is_addressed doc generation place d.of_generation d.at_place in
    let kept : payload_fault (kept_digest bytes) (payload_of bytes) ≡ None = is_kept (kept_digest bytes) (payload_of bytes) (a.fields.1.1.1.1.1.1.1.1.1.1.1.0 ∙ ap sha256 (sym payload_is)) in
    let long : nat_lt (length bytes) 128 ≡ false = le-ltb _ _ (omega (arith, d.is_whole)) in
    record {
      faultless = rw (long, passes bytes p, addressed_so, kept) refl;
      doc_read = doc_is;
      payload_read = payload_is;
      sized = size;
    }

-- a document is recorded by the digest of its header and its payload
pub recorded : (bytes : List ℕ) (generation place : ℕ) (doc : Doc) (payload : List ℕ) → IsDocument bytes generation place doc payload
    → document_digest bytes ≡ digest_of_document doc payload
recorded bytes generation place doc payload d =
    ap digest_of (ap (λ n. take (n + 128) bytes) (again bytes generation place doc payload d).sized ∙ d.is_spelled)

pub is_again : (bytes : List ℕ) (generation place : ℕ) (r : Result DocRef DocFault) → AnswersDocument r (first_fault bytes generation place) (doc_of bytes) (payload_of bytes)
    → (doc : Doc) (payload : List ℕ) → IsDocument bytes generation place doc payload → AnswersDocument r None doc payload
is_again bytes generation place r given doc payload d =
    let read = again bytes generation place doc payload d in
    subst (λ (p : List ℕ). AnswersDocument r None doc p) read.payload_read
    (subst (λ (x : Doc). AnswersDocument r None x (payload_of bytes)) read.doc_read
    (subst (λ (f : Option DocFault). AnswersDocument r f (doc_of bytes) (payload_of bytes)) read.faultless given))

-- ---- what stands behind the payload is free

record IsAlike (a b : List ℕ) : Type 0 where
  as_many : length a ≡ length b
  header : header_fault a ≡ header_fault b
  doc : doc_of a ≡ doc_of b
  kept : kept_digest a ≡ kept_digest b
  payload : payload_of a ≡ payload_of b

header_alike : (m : ℕ) (a b : List ℕ) → length a ≡ length b → take (m + 128) a ≡ take (m + 128) b → header_fault a ≡ header_fault b
unfolding header_fault
header_alike m a b as_many front =
    rw (
      field_in_front (m + 128) 0 8 (m + 128) a b (omega arith) (omega arith) front,
      number_32_in_front (m + 128) 8 (m + 120) a b (omega arith) (omega arith) front,
      number_32_in_front (m + 128) 44 (m + 84) a b (omega arith) (omega arith) front,
      number_32_in_front (m + 128) 12 (m + 116) a b (omega arith) (omega arith) front,
      as_many,
      field_in_front (m + 128) 112 16 (m + 16) a b (omega arith) (omega arith) front,
      field_in_front (m + 128) 0 112 (m + 128) a b (omega arith) (omega arith) front,
    ) refl

doc_alike : (m : ℕ) (a b : List ℕ) → take (m + 128) a ≡ take (m + 128) b → doc_of a ≡ doc_of b
doc_alike m a b front =
    let key = ap key_of_bytes (field_in_front (m + 128) 16 16 (m + 112) a b (omega arith) (omega arith) front) in
    let put = number_64_in_front (m + 128) 32 (m + 96) a b (omega arith) (omega arith) front in
    let index = number_32_in_front (m + 128) 40 (m + 88) a b (omega arith) (omega arith) front in
    let place = number_64_in_front (m + 128) 48 (m + 80) a b (omega arith) (omega arith) front in
    let generation = number_64_in_front (m + 128) 56 (m + 72) a b (omega arith) (omega arith) front in
    let pin = number_64_in_front (m + 128) 64 (m + 64) a b (omega arith) (omega arith) front in
    let start = number_64_in_front (m + 128) 72 (m + 56) a b (omega arith) (omega arith) front in
    λ i. record { id = record { first = key i; put = put i; index = index i }; place = place i; generation = generation i; pin = pin i; start = start i }

alike : (m : ℕ) (a b : List ℕ) → m ≡ length_of b → length a ≡ length b → take (m + 128) a ≡ take (m + 128) b → IsAlike a b
alike m a b length_is as_many front =
    let size : length_of a ≡ m = number_32_in_front (m + 128) 12 (m + 116) a b (omega arith) (omega arith) front ∙ sym length_is in
    let kept = field_in_front (m + 128) 80 32 (m + 48) a b (omega arith) (omega arith) front in
    record {
      as_many = as_many;
      header = header_alike m a b as_many front;
      doc = doc_alike m a b front;
      kept = λ i. record { 0 = kept i };
      payload = ap (λ k. slice_at 128 k a) size ∙ (field_in_front (m + 128) 128 m m a b (omega arith) (omega arith) front ∙ ap (λ k. slice_at 128 k b) length_is);
    }

pub reads_alike : (a b : List ℕ) (generation place : ℕ) (r : Result DocRef DocFault) → length a ≡ length b → take (extent_of b) a ≡ take (extent_of b) b
    → AnswersDocument r (first_fault b generation place) (doc_of b) (payload_of b) → AnswersDocument r (first_fault a generation place) (doc_of a) (payload_of a)
reads_alike a b generation place r as_many front given =
    let like = alike (length_of b) a b refl as_many front in
    let faults_alike : first_fault a generation place ≡ first_fault b generation place = rw (like.as_many, like.header, like.doc, like.kept, like.payload) refl in
    subst (λ (p : List ℕ). AnswersDocument r (first_fault a generation place) (doc_of a) p) (sym like.payload)
    (subst (λ (x : Doc). AnswersDocument r (first_fault a generation place) x (payload_of b)) (sym like.doc)
    (subst (λ (f : Option DocFault). AnswersDocument r f (doc_of b) (payload_of b)) (sym faults_alike) given))

-- ---- what is written is a document

pub written : (bytes : List ℕ) (doc : Doc) (payload : List ℕ) → Fits doc payload → length bytes ≡ 512 * blocks_of (length payload) → bytes ≡ document_bytes doc payload
    → IsDocument bytes doc.generation doc.place doc payload
written bytes doc payload fits sized h =
    let header = header_bytes doc payload in
    let header_wide : length header ≡ 128 = ap length (header_is doc payload) ∙ omega (arith, length-append (doc_fields doc payload) (check_of (doc_fields doc payload)), length-fields doc payload, length-check doc payload) in
    let wide : length (header ++ payload) ≡ length payload + 128 = omega (arith, length-append header payload, header_wide) in
    record {
      fits = fits;
      of_generation = refl;
      at_place = refl;
      is_whole = omega (arith, sized);
      is_spelled = ap (take (length payload + 128)) h ∙ take_at (header ++ payload) _ (length payload + 128) wide;
    }
