-- Documents pass.
use Rattle.std.proofs.Common.{◌≡◌, ℕ, Bool, true, List, Some, None, ap, ◌∙◌, arith}
use Rattle.std.specs.Prelude.{nat_le, ◌&&◌, if◌then◌else◌}
use Rattle.std.specs.Option.{is_none}
use Rattle.tape_base.specs.declared.geometries.Geometry.{Geometry}
use Rattle.tape_base.specs.Blocks.{blocks_of}
use Rattle.stripe_header.specs.declared.states.CopyState.{CopyState}
use Rattle.doc_header.specs.declared.documents.Doc.{Doc}
use Rattle.doc_header.specs.Reading.{doc_of, first_fault, length_of, payload_of}
use Rattle.doc_header.proofs.ReadingLaws.{again}
use Rattle.dir_table.specs.declared.rows.StoredRow.{StoredRow}
use Rattle.reopening.specs.Documents.{document_at, standing_of}
use Rattle.reopening.specs.Tests.{has_put, is_document, is_entered, is_inside, judged, lists_puts}
use Rattle.reopening.specs.Kept.{DocumentsPass}

all_true : (a b c d e : Bool) → a ≡ true → b ≡ true → c ≡ true → d ≡ true → e ≡ true → (a && (b && (c && (d && e)))) ≡ true
all_true a b c d e p q r s t =
    ap (λ x. x && (b && (c && (d && e)))) p ∙ (ap (λ x. x && (c && (d && e))) q ∙ (ap (λ x. x && (d && e)) r ∙ (ap (λ x. x && e) s ∙ t)))

passed : (g : Geometry) (told : CopyState) (rows : List StoredRow) (place : ℕ) (bytes : List ℕ) → is_document g place bytes ≡ true
    → is_inside g told.cursor place (blocks_of (length_of bytes)) ≡ true → is_entered g rows place (doc_of bytes).id ≡ true
    → has_put told.next_put (doc_of bytes).id ≡ true → lists_puts told.next_put (doc_of bytes).id (payload_of bytes) ≡ true
    → judged g told rows place bytes ≡ Some (standing_of place bytes)
unfolding judged
passed g told rows place bytes p q r s t =
    let id = (doc_of bytes).id in
    ap (λ b. if b then Some (standing_of place bytes) else None)
    (all_true (is_document g place bytes) (is_inside g told.cursor place (blocks_of (length_of bytes))) (is_entered g rows place id)
    (has_put told.next_put id) (lists_puts told.next_put id (payload_of bytes)) p q r s t)

pub documents_pass : DocumentsPass
documents_pass a told rows c place doc payload first is inside entered begun lists =
    let g = a.geometry in
    let bytes = document_at a c place in
    let read = again bytes g.generation place doc payload is in
    let high : nat_le g.content place ≡ true = grind (arith, first) in
    let here : is_document g place bytes ≡ true = ap (λ b. b && is_none (first_fault bytes g.generation place)) high ∙ ap is_none read.faultless in
    let id : (doc_of bytes).id ≡ doc.id = ap (λ (d : Doc). d.id) read.doc_read in (
      passed g told rows place bytes here
          (ap (λ n. is_inside g told.cursor place (blocks_of n)) read.sized ∙ inside)
          (ap (is_entered g rows place) id ∙ entered)
          (ap (has_put told.next_put) id ∙ begun)
          (ap (λ i. lists_puts told.next_put i (payload_of bytes)) id ∙ (ap (lists_puts told.next_put doc.id) read.payload_read ∙ lists)),
      id,
    )
