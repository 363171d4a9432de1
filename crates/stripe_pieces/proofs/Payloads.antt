-- The payload of a piece that stands: bytes that begin with its document tell it.
use Rattle.std.proofs.Common.{◌≡◌, ℕ, ◌+◌, ◌<◌, ◌≤◌, ◌^◌, ◌⊎◌, List, ◌++◌, sym, ◌∙◌, ap, subst, arith, length, take, drop, inl, inr}
use Rattle.std.specs.Prelude.{IfSome, Some, Ok}
use Rattle.std.proofs.lemmas.Bool.{leb-true}
use Rattle.std.proofs.lemmas.List.{take-append-drop}
use Rattle.std.proofs.lemmas.Option.{IfSome_then}
use Rattle.tape_base.specs.declared.geometries.Geometry.{Geometry}
use Rattle.tape_base.specs.declared.pieces.PieceId.{PieceId}
use Rattle.tape_base.specs.Place.{block_of}
use Rattle.device_log.specs.Image.{span}
use Rattle.logged_disk.specs.Device.{TellsAll, seen as content_of}
use Rattle.logged_disk.proofs.GoingOn.{told_before}
use Rattle.doc_header.specs.declared.documents.Doc.{Doc}
use Rattle.doc_header.specs.Document.{header_bytes}
use Rattle.doc_header.specs.Moving.{BeginsWith}
use Rattle.doc_header.specs.Reading.{length_of, payload_of, slice_at}
use Rattle.doc_header.proofs.ReadingLaws.{apart}
use Rattle.doc_header.proofs.Stands.{number_32_again}
use Rattle.cyclone.specs.Cyclone.{ReadsBlocks, Seen}
use Rattle.cyclone.proofs.Calls.{reads_go_on}
use Rattle.cache_model.specs.State.{Row, State, floor_now, live_row_of, row_in}
use Rattle.cache_model.proofs.Lists.{found_row}
use Rattle.cache_model.specs.Contents.{Contents}
use Rattle.piece_answers.specs.declared.answer.Found.{Found}
use Rattle.piece_answers.specs.declared.answer.Found.TheVariants as found
use Rattle.piece_answers.specs.Find.{HasPayload, IsJudged}
use Rattle.held_pieces.specs.Held.{IsHeld}
use Rattle.piece_answers.specs.Standing.{AreStanding, HasContent, StandsInBuffer, StandsOnDevice}
use Rattle.held_pieces.proofs.Candidates.{live_is}

pub payload_told : (bytes : List ℕ) (doc : Doc) (payload : List ℕ) → length payload < 2 ^ 32 → BeginsWith bytes doc payload → payload_of bytes ≡ payload
payload_told bytes doc payload few begins =
    let rest : List ℕ = drop (length payload + 128) bytes in
    let parts : bytes ≡ (header_bytes doc payload ++ payload) ++ rest =
    sym (take-append-drop (length payload + 128) bytes) ∙ ap (λ l. l ++ rest) begins in
    let a = apart bytes doc payload rest parts in
    let size : length_of bytes ≡ length payload = number_32_again 12 (length payload) bytes few a.fields.1.1.0 in
    ap (λ n. slice_at 128 n bytes) size ∙ a.payload_is

-- what is told of the piece is the payload of its bytes
pub has_payload : (contents : Contents) (g : Geometry) (row : Row) (bytes into : List ℕ) (size : ℕ) → HasContent contents g row bytes
    → size ≡ length (payload_of bytes) → take size into ≡ payload_of bytes
    → IfSome (contents row.id row.alternates) (λ c. (size ≡ length c.payload) × (take size into ≡ c.payload))
has_payload contents g row bytes into size stands size_is front =
    IfSome_then (contents row.id row.alternates) stands (λ c begins.
    let told : payload_of bytes ≡ c.payload = payload_told bytes _ c.payload begins.few begins.begins in
    (size_is ∙ ap length told, front ∙ told))

-- a live piece that was read, from the buffer or from a device that tells its content, is what is told of it
pub content_by : (s : State) (c new : Seen) (id : PieceId) (row : Row) (bytes : List ℕ) → IsHeld s c → live_row_of s id ≡ Some row
    → ReadsBlocks c new row.place row.blocks (Ok tt) bytes → ((s.cursor ≤ row.place) ⊎ (row.place < s.cursor)) → TellsAll new.device
    → (contents : Contents) → AreStanding contents s c → HasContent contents s.geometry row bytes
content_by s c new id row bytes held live read (inl above) told contents stands =
    let before : TellsAll c.device = told_before c.device new.device (reads_go_on c new row.place row.blocks (Ok tt) bytes read) told in
    let from : c.buffer.cursor ≤ row.place = omega (arith, above, held.cursor) in
    let here = found_row (StandsInBuffer contents s.geometry c.buffer) id s.rows row (stands.buffered before) (live_is s (row_in s.rows id) row live).0 in
    subst (HasContent contents s.geometry row) (sym (read.buffered from)) (here from)
content_by s c new id row bytes held live read (inr below) told contents stands =
    let before : TellsAll c.device = told_before c.device new.device (reads_go_on c new row.place row.blocks (Ok tt) bytes read) told in
    let at = live_is s (row_in s.rows id) row live in
    let here = found_row (StandsOnDevice contents s (content_of c.device)) id s.rows row (stands.written before) at.0 (leb-true (floor_now s) row.place at.1) below in
    let shown : bytes ≡ span (content_of c.device) (block_of s.geometry row.place) row.blocks =
    read.given (omega (arith, below, held.cursor)) told.trusted ∙ ap (λ g. span (content_of c.device) (block_of g row.place) row.blocks) held.geometry in
    subst (HasContent contents s.geometry row) (sym shown) here

-- so what was found of it is the payload
pub found_content : (contents : Contents) (g : Geometry) (place : ℕ) (row : Row) (bytes into : List ℕ) (answer : Found) → HasContent contents g row bytes
    → IsJudged place row.digest bytes answer into → HasPayload contents (Some row) answer into
found_content contents g place row bytes into (found.Found size) stands j = has_payload contents g row bytes into size stands j.1 j.2
found_content contents g place row bytes into (found.Missing why) stands j = tt
