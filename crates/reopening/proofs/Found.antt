-- What is found stands, and what stands as the records have it is found.
use Rattle.std.proofs.Common.{◌≡◌, ◌≤◌, ◌<◌, ◌+◌, ◌-◌, ◌/◌, ◌%◌, ℕ, suc, Bool, true, false, List, [], ◌∷◌, length, map, Option, Some, None, refl, sym, ap, subst, ◌∙◌, arith}
use Rattle.std.specs.Prelude.{IfSome, option_map, if◌then◌else◌}
use Rattle.std.specs.List.{AllByRecursion}
use Rattle.std.specs.Result.{result_ok}
use Rattle.std.proofs.Math.Nat.{mod-add-div, mod-lt, mul-suc}
use Rattle.hex.specs.Hex.{IsBytes}
use Rattle.device_log.specs.Image.{Image, IsImage, span}
use Rattle.device_log.proofs.Spans.{length-span, span_first}
use Rattle.tape_base.specs.declared.digests.Digest.{Digest}
use Rattle.tape_base.specs.declared.geometries.Geometry.{Geometry}
use Rattle.tape_base.specs.declared.pieces.PieceId.{PieceId}
use Rattle.tape_base.specs.Blocks.{blocks_of}
use Rattle.tape_base.specs.Digest.{digest_of}
use Rattle.tape_base.specs.Piece.{is_vector}
use Rattle.tape_base.specs.Place.{lap_end_of, slot_of}
use Rattle.stripe_header.specs.declared.area.Area.{Area}
use Rattle.stripe_header.specs.Layout.{block_of_place}
use Rattle.doc_header.specs.declared.documents.Doc.{Doc}
use Rattle.doc_header.specs.Document.{IsDocument}
use Rattle.doc_header.specs.Reading.{doc_of, document_digest, kept_digest, length_of, payload_of}
use Rattle.doc_header.proofs.ReadingLaws.{again, kept_is, recorded}
use Rattle.fragment_table.specs.Table.{made_row}
use Rattle.alternate_vector.specs.Alternates.{Stored}
use Rattle.alternate_vector.specs.Reading.{read_vector}
use Rattle.alternate_vector.proofs.Again.{vector_again}
use Rattle.cache_model.specs.declared.findings.FoundRow.{FoundRow}
use Rattle.cache_model.specs.Contents.{Content, contents_of_vectors, doc_of_row, spelled_content}
use Rattle.cache_model.specs.Opening.{Opening}
use Rattle.cache_model.specs.State.{Row, row_of_found}
use Rattle.reopening.specs.declared.newest.Newest.{Newest}
use Rattle.reopening.specs.Newest.{bound_of, directory_at, newest_of}
use Rattle.reopening.specs.Documents.{alternates_in, blocks_read, document_at, listed_in, standing_of}
use Rattle.reopening.specs.Tests.{standing_from}
use Rattle.reopening.specs.Later.{latest, measure_of}
use Rattle.reopening.specs.Opens.{found_of, is_sound, opened, opening_at, opens_to, rows_at}
use Rattle.reopening.specs.Found.{FoundStand, IsFoundAsRecorded, IsFoundAt, RecordedIsFound, StandsRecorded, TellsFound, TellFound}
use Rattle.reopening.proofs.Alike.{first_block, number_ahead}
use Rattle.reopening.proofs.Beginning.{document_bytes, opened_is}
use Rattle.reopening.proofs.Bounds.{some_content}
use Rattle.reopening.proofs.Holding.{each_kept, each_latest, each_standing}
use Rattle.reopening.proofs.Pieces.{Passed, passed_all}
use Rattle.reopening.proofs.Storing.{vector_spelled}
use Rattle.reopening.proofs.Vectoring.{field_small, is_document, read_ok}

-- ---- the blocks of a document

-- what ends with its lap is not above the blocks that are left of it
left_of_lap : (g : Geometry) (p n : ℕ) → p + n ≤ lap_end_of g p → n ≤ g.content - slot_of g p
left_of_lap g p n lap =
    let small : p % g.content < g.content = mod-lt p (some_content g) in
    omega (arith, lap, small, mod-add-div p g.content, mul-suc g.content (p / g.content))

-- as many blocks are read as the first one tells, where these end with the lap
pub spans_so : (a : Area) (c : Image) (p n : ℕ) → blocks_of (length_of (c (block_of_place a p))) ≡ n → p + n ≤ lap_end_of a.geometry p
    → document_at a c p ≡ span c (block_of_place a p) n
unfolding document_at
spans_so a c p n told lap =
    let few = left_of_lap a.geometry p n lap in
    let so : blocks_read a c p ≡ n = omega (arith, told, few) in
    ap (span c (block_of_place a p)) so

-- ---- what is found stands

tells_one : (vector : Bool) (payload : List ℕ) (start : ℕ) → IsBytes payload
    → IfSome (option_map spelled_content (if vector then listed_in payload else None)) (λ x. (x.payload ≡ payload) × (vector ≡ false → x.start ≡ start))
tells_one false payload start small = tt
tells_one true payload start small = listed (listed_in payload) refl where
  listed : (r : Option (List Stored)) → listed_in payload ≡ r → IfSome (option_map spelled_content r) (λ x. (x.payload ≡ payload) × (true ≡ false → x.start ≡ start))
  listed None is = tt
  listed (Some list) is = (sym (vector_spelled payload list small (read_ok (read_vector payload) list is)).1, λ e. absurd cc)

module _ (a : Area) (c : Image) (image : IsImage c) (n : Newest) where
  each_at : (p : ℕ) → Passed a.geometry n.told (rows_at a c n) p (document_at a c p)
      → IsFoundAt a c (standing_of p (document_at a c p)) × TellsFound contents_of_vectors a c (standing_of p (document_at a c p))
  each_at p passed =
      let bytes = document_at a c p in
      let small : IsBytes bytes = document_bytes a c p image.bytes in (
        record {
          from = passed.first;
          row = refl;
          document = is_document a.geometry p bytes small passed.sound;
          spans = spans_so a c p (blocks_of (length_of bytes)) (sym (ap blocks_of (first_block a c p (image.whole (block_of_place a p))))) passed.lap;
        },
        tells_one (is_vector (doc_of bytes).id) (payload_of bytes) (doc_of bytes).start (field_small 128 (length_of bytes) bytes small),
      )

  both : (all : List FoundRow) → AllByRecursion (λ (f : FoundRow). IsFoundAt a c f × TellsFound contents_of_vectors a c f) all
      → AllByRecursion (IsFoundAt a c) all × TellFound contents_of_vectors a c all
  both [] each = (tt, tt)
  both (f ∷ all) each = let rest = both all each.1 in ((each.0.0, rest.0), (each.0.1, rest.1))

  all_stand : AllByRecursion (λ (f : FoundRow). IsFoundAt a c f × TellsFound contents_of_vectors a c f) (opening_at a c n).found
  unfolding found_of
  all_stand =
      let told = n.told in
      let rows = rows_at a c n in
      let bound = bound_of a.geometry told in
      let all = standing_from a told rows c bound (told.cursor - bound) in
      let P = λ (f : FoundRow). IsFoundAt a c f × TellsFound contents_of_vectors a c f in
      each_kept P (map measure_of (latest all)) (latest all) (each_latest P all
      (each_standing P a.geometry told rows (document_at a c) bound (told.cursor - bound) (λ p low high h. each_at p (passed_all a.geometry told rows p (document_at a c p) h))))

by_newest : (a : Area) (c : Image) (o : Opening) → IsImage c → (n : Option Newest) → newest_of a c ≡ n → opened a c n ≡ Some o
    → AllByRecursion (IsFoundAt a c) o.found × TellFound contents_of_vectors a c o.found
by_newest a c o image None newest h = absurd cc
by_newest a c o image (Some n) newest h =
    let e = opened_is (is_sound a.geometry (directory_at a c n.side)) (opening_at a c n) o h in
    subst (λ (x : Opening). AllByRecursion (IsFoundAt a c) x.found × TellFound contents_of_vectors a c x.found) e.1
    (both a c image n (opening_at a c n).found (all_stand a c image n))

pub found_stand : FoundStand
unfolding opens_to
found_stand a c o image h = by_newest a c o image (newest_of a c) refl h

-- ---- what stands as the records have it is found

-- the first block of a span tells what the span tells
length_in_front : (c : Image) (at n : ℕ) → length (c at) ≡ 512 → 0 < n → length_of (c at) ≡ length_of (span c at n)
length_in_front c at n whole some =
    let more : n ≡ suc (n - 1) = omega (arith, some) in
    sym (ap (λ k. length_of (span c at k)) more ∙ (ap length_of (span_first c at (n - 1)) ∙ number_ahead 12 (c at) (span c (at + 1) (n - 1)) (omega (arith, whole))))

module _ (a : Area) (c : Image) (row : Row) (x : Content) (image : IsImage c) (is : StandsRecorded a c row x) where
  abbrev g : Geometry
  g = a.geometry

  abbrev at : ℕ
  at = block_of_place a row.place

  abbrev doc : Doc
  doc = doc_of_row g row x.start

  there : IsDocument (span c at row.blocks) g.generation row.place doc x.payload
  there = record {
    fits = is.fits;
    of_generation = refl;
    at_place = refl;
    is_whole = omega (arith, length-span c at row.blocks image.whole, is.recorded.blocks);
    is_spelled = is.begins;
  }

  spans : document_at a c row.place ≡ span c at row.blocks
  spans =
      let read = again (span c at row.blocks) g.generation row.place doc x.payload there in
      let some : 0 < row.blocks = omega (arith, is.recorded.blocks) in
      spans_so a c row.place row.blocks (ap blocks_of (length_in_front c at row.blocks (image.whole at) some ∙ read.sized) ∙ sym is.recorded.blocks) is.lap

  abbrev bytes : List ℕ
  bytes = document_at a c row.place

  document : IsDocument bytes g.generation row.place doc x.payload
  document = subst (λ l. IsDocument l g.generation row.place doc x.payload) (sym spans) there

  payload_row : (vector : Bool) → is_vector row.id ≡ vector → (if vector then None else Some (made_row (length x.payload) (digest_of x.payload).0)) ≡ row.payload
  payload_row true e = sym (is.vector e).payload
  payload_row false e = sym (is.fragment e).payload

  lists_row : (vector : Bool) → is_vector row.id ≡ vector → (if vector then listed_in x.payload else None) ≡ row.alternates
  lists_row false e = sym (is.fragment e).lists
  lists_row true e =
      let v = is.vector e in
      ap result_ok (ap read_vector v.spelled.spelled ∙ vector_again v.list v.spelled.some v.spelled.stored) ∙ sym v.lists

  found : row_of_found (standing_of row.place bytes) ≡ row
  found =
      let read = again bytes g.generation row.place doc x.payload document in
      let id : (doc_of bytes).id ≡ row.id = ap (λ (d : Doc). d.id) read.doc_read in
      let kept : kept_digest bytes ≡ digest_of x.payload = kept_is bytes g.generation row.place read.faultless ∙ ap digest_of read.payload_read in
      let blocks : blocks_of (length_of bytes) ≡ row.blocks = ap blocks_of read.sized ∙ sym is.recorded.blocks in
      let digest : document_digest bytes ≡ row.digest = recorded bytes g.generation row.place doc x.payload document ∙ sym is.recorded.digest in
      let pin : (doc_of bytes).pin ≡ row.pin = ap (λ (d : Doc). d.pin) read.doc_read in
      let payload : (if is_vector (doc_of bytes).id then None else Some (made_row (length_of bytes) (kept_digest bytes).0)) ≡ row.payload =
      ap (λ (i : PieceId). if is_vector i then None else Some (made_row (length_of bytes) (kept_digest bytes).0)) id
      ∙ (ap (λ n. if is_vector row.id then None else Some (made_row n (kept_digest bytes).0)) read.sized
      ∙ (ap (λ (d : Digest). if is_vector row.id then None else Some (made_row (length x.payload) d.0)) kept
      ∙ payload_row (is_vector row.id) refl)) in
      let alternates : alternates_in (doc_of bytes).id (payload_of bytes) ≡ row.alternates =
      ap (λ (i : PieceId). if is_vector i then listed_in (payload_of bytes) else None) id
      ∙ (ap (λ l. if is_vector row.id then listed_in l else None) read.payload_read
      ∙ lists_row (is_vector row.id) refl) in
      λ i. record {
        id = id i;
        place = row.place;
        blocks = blocks i;
        digest = digest i;
        payload = payload i;
        pin = pin i;
        alternates = alternates i;
      }

  pub as_recorded : IsFoundAsRecorded a c row x
  as_recorded = record { spans = spans; document = document; found = found }

pub recorded_found : RecordedIsFound
recorded_found a c row x image is = as_recorded a c row x image is
