-- A vector that passed stands as the document that spells what it lists.
use Rattle.std.proofs.Common.{◌≡◌, ◌≤◌, ℕ, Bool, true, false, cond, List, length, drop, Option, Some, None, Result, Ok, Err, refl, ap, ◌∙◌, arith}
use Rattle.std.specs.Prelude.{nat_lt, if◌then◌else◌}
use Rattle.std.specs.Result.{result_ok}
use Rattle.std.proofs.lemmas.Bool.{ltb-false}
use Rattle.hex.specs.Hex.{IsBytes}
use Rattle.tape_base.specs.declared.geometries.Geometry.{Geometry}
use Rattle.tape_base.specs.Blocks.{blocks_of}
use Rattle.tape_base.specs.Piece.{is_vector}
use Rattle.tape_base.proofs.Bytes.{IsBytes-drop, IsBytes-take}
use Rattle.stripe_header.specs.declared.states.CopyState.{CopyState}
use Rattle.doc_header.specs.declared.documents.Doc.{Doc}
use Rattle.doc_header.specs.declared.documents.DocFault.{DocFault}
use Rattle.doc_header.specs.Document.{IsDocument, digest_of_document}
use Rattle.doc_header.specs.Reading.{doc_of, first_fault, length_of, payload_of, slice_at}
use Rattle.doc_header.proofs.ReadingLaws.{again, kept_is, recorded, spelled}
use Rattle.doc_header.proofs.Stands.{length-field}
use Rattle.dir_table.specs.declared.rows.StoredRow.{StoredRow}
use Rattle.alternate_vector.specs.declared.fault.VectorFault.{VectorFault}
use Rattle.alternate_vector.specs.Alternates.{Stored}
use Rattle.alternate_vector.specs.Reading.{read_vector}
use Rattle.cache_model.specs.Opening.{Opening}
use Rattle.cache_model.specs.Openings.{IsFoundDocument}
use Rattle.cache_model.specs.State.{Row, State, row_of_found, state_of_opening}
use Rattle.cache_model.specs.Vectors.{IsListed, IsVectorRow, vector_doc}
use Rattle.reopening.specs.Documents.{listed_in, standing_of}
use Rattle.reopening.specs.Tests.{lists_begun}
use Rattle.reopening.proofs.KeyBytes.{key_back}
use Rattle.reopening.proofs.Pieces.{Passed}
use Rattle.reopening.proofs.Storing.{vector_spelled}

-- ---- what stands is a document

long_enough : (short : Bool) (fault : DocFault) (rest : Option DocFault) → cond short (Some fault) rest ≡ None → short ≡ false
long_enough true fault rest h = absurd cc
long_enough false fault rest h = refl

pub field_small : (at n : ℕ) (bytes : List ℕ) → IsBytes bytes → IsBytes (slice_at at n bytes)
unfolding slice_at
field_small at n bytes fits = IsBytes-take n (drop at bytes) (IsBytes-drop at bytes fits)

pub is_document : (g : Geometry) (p : ℕ) (bytes : List ℕ) → IsBytes bytes → first_fault bytes g.generation p ≡ None → IsDocument bytes g.generation p (doc_of bytes) (payload_of bytes)
is_document g p bytes fits sound =
    let long : 128 ≤ length bytes = ltb-false _ _ (long_enough (nat_lt (length bytes) 128) _ _ sound) in
    let sixteen : length (slice_at 16 16 bytes) ≡ 16 = length-field 16 16 bytes (omega (arith, long)) in
    spelled bytes g.generation p fits (key_back (slice_at 16 16 bytes) sixteen (field_small 16 16 bytes fits)) sound

-- ---- a vector

pub read_ok : (r : Result (List Stored) VectorFault) (list : List Stored) → result_ok r ≡ Some list → r ≡ Ok list
read_ok (Ok x) list is = let same : x ≡ list = cc is in ap Ok same
read_ok (Err fault) list is = absurd cc

is_listed : (next : ℕ) (vector : Bool) (read : Option (List Stored)) → (if vector then lists_begun next read else true) ≡ true → vector ≡ true → (list : List Stored) × (read ≡ Some list)
is_listed next false read h is = absurd cc
is_listed next true None h is = absurd cc
is_listed next true (Some list) h is = (list, refl)

module _ (g : Geometry) (told : CopyState) (rows : List StoredRow) (p : ℕ) (bytes : List ℕ) (fits : IsBytes bytes) (is : Passed g told rows p bytes) (o : Opening) where
  abbrev row : Row
  row = row_of_found (standing_of p bytes)

  abbrev s : State
  s = state_of_opening g o

  document : IsDocument bytes g.generation p (doc_of bytes) (payload_of bytes)
  document = is_document g p bytes fits is.sound

  as_found : doc_of bytes ≡ record { id = (doc_of bytes).id; place = p; generation = g.generation; pin = (doc_of bytes).pin; start = (doc_of bytes).start }
  as_found = λ i. record {
    id = (doc_of bytes).id;
    place = document.at_place i;
    generation = document.of_generation i;
    pin = (doc_of bytes).pin;
    start = (doc_of bytes).start;
  }

  pub found_document : IsFoundDocument g (standing_of p bytes)
  found_document =
      let payload = payload_of bytes in
      record {
        start = (doc_of bytes).start;
        payload = payload;
        of_bytes = field_small 128 (length_of bytes) bytes fits;
        digest = recorded bytes g.generation p (doc_of bytes) payload document ∙ ap (λ (d : Doc). digest_of_document d payload) as_found;
        length_is = (again bytes g.generation p (doc_of bytes) payload document).sized;
        payload_is = kept_is bytes g.generation p is.sound;
      }

  as_placed : doc_of bytes ≡ vector_doc s row (doc_of bytes).start
  as_placed = λ i. record {
    id = (doc_of bytes).id;
    place = document.at_place i;
    generation = document.of_generation i;
    pin = (doc_of bytes).pin;
    start = (doc_of bytes).start;
  }

  vector_row : (list : List Stored) → is_vector (doc_of bytes).id ≡ true → listed_in (payload_of bytes) ≡ Some list → IsVectorRow s row list
  vector_row list vector listed =
      let payload = payload_of bytes in
      let read = vector_spelled payload list (field_small 128 (length_of bytes) bytes fits) (read_ok (read_vector payload) list listed) in
      let size : length_of bytes ≡ length payload = (again bytes g.generation p (doc_of bytes) payload document).sized in
      record {
        start = (doc_of bytes).start;
        lists = ap (λ b. if b then listed_in payload else None) vector ∙ listed;
        spelled = read.0;
        digest = recorded bytes g.generation p (doc_of bytes) payload document
            ∙ (ap (λ (d : Doc). digest_of_document d payload) as_placed
            ∙ ap (digest_of_document (vector_doc s row (doc_of bytes).start)) read.1);
        blocks = ap blocks_of (size ∙ ap length read.1);
        small = is.small;
      }

  -- so its row lists what the payload spells
  pub listed_row : IsListed s row
  listed_row vector =
      let list = is_listed told.next_put (is_vector (doc_of bytes).id) (listed_in (payload_of bytes)) is.lists vector in
      (list.0, vector_row list.0 vector list.1)
