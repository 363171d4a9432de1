-- The first block of a document decides whether the rest is read.
use Rattle.std.proofs.Common.{◌≡◌, ◌≤◌, ◌+◌, ◌-◌, ℕ, suc, Bool, true, false, List, length, take, Option, Some, None, inl, inr, refl, sym, ap, ◌∙◌, arith}
use Rattle.std.specs.Prelude.{codes, nat_le, not, ◌==◌, ◌&&◌, ◌||◌, if◌then◌else◌}
use Rattle.std.specs.Int.{w32}
use Rattle.std.specs.Option.{option_or}
use Rattle.std.specs.Str.{bytes_eq}
use Rattle.std.proofs.lemmas.Bool.{and_from, and_parts, cases_Bool, true≢false}
use Rattle.std.proofs.lemmas.List.{take_at, take-take}
use Rattle.device_log.specs.Image.{Image, span}
use Rattle.device_log.proofs.Spans.{span_first}
use Rattle.tape_base.specs.declared.geometries.Geometry.{Geometry}
use Rattle.tape_base.specs.Blocks.{blocks_of}
use Rattle.tape_base.specs.Geometry.{budget_of}
use Rattle.tape_base.specs.Place.{lap_end_of, lap_of}
use Rattle.stripe_header.specs.declared.area.Area.{Area}
use Rattle.stripe_header.specs.declared.states.CopyState.{CopyState}
use Rattle.stripe_header.specs.Layout.{block_of_place}
use Rattle.doc_header.specs.declared.documents.Doc.{Doc}
use Rattle.doc_header.specs.declared.documents.DocFault.{DocFault}
use Rattle.doc_header.specs.Reading.{address_fault, doc_number, doc_of, first_fault, has_blocks, header_fault, length_of, slice_at}
use Rattle.doc_header.proofs.Stands.{field_in_front, number_32_in_front, number_64_in_front}
use Rattle.dir_table.specs.declared.rows.StoredRow.{StoredRow}
use Rattle.reopening.specs.Documents.{blocks_read, document_at, standing_of}
use Rattle.reopening.specs.Tests.{is_inside, judged, passes_tests}
use Rattle.reopening.specs.Alike.{blocks_told}
use Rattle.reopening.specs.Heads.{FirstBlocksDecide, HeadsDecide, HeadsTellBlocks, head_passes, is_head}
use Rattle.reopening.proofs.Alike.{inside_parts, some_read}
use Rattle.reopening.proofs.Found.{spans_so}
use Rattle.reopening.proofs.Pieces.{passed_all}

-- ---- what a document without a fault begins with

past_fault : (b : Bool) (fault : DocFault) (rest : Option DocFault) → (if b then Some fault else rest) ≡ None → (b ≡ false) × (rest ≡ None)
past_fault true fault rest h = absurd cc
past_fault false fault rest h = (refl, h)

neither : (x y : Option DocFault) → option_or x y ≡ None → (x ≡ None) × (y ≡ None)
neither None y h = (refl, h)
neither (Some fault) y h = absurd cc

so_it_is : (b : Bool) → not b ≡ false → b ≡ true
so_it_is true h = refl
so_it_is false h = absurd cc

three_header : (bytes : List ℕ) → header_fault bytes ≡ None
    → (bytes_eq (slice_at 0 8 bytes) (codes "TSCDOCM1") ≡ true) × ((doc_number w32 8 bytes == 1) ≡ true) × (has_blocks bytes ≡ true)
unfolding header_fault
three_header bytes h =
    let a = past_fault _ _ _ h in
    let b = past_fault _ _ _ a.1 in
    let c = past_fault _ _ _ b.1 in
    (so_it_is _ a.0, so_it_is _ b.0, so_it_is _ c.0)

two_address : (doc : Doc) (generation place : ℕ) → address_fault doc generation place ≡ None
    → ((doc.generation == generation) ≡ true) × ((doc.place == place) ≡ true)
unfolding address_fault
two_address doc generation place h =
    let a = past_fault _ _ _ h in
    let b = past_fault _ _ _ a.1 in
    (so_it_is _ a.0, so_it_is _ b.0)

faultless_head : (g : Geometry) (place : ℕ) (bytes : List ℕ) → first_fault bytes g.generation place ≡ None → is_head g place bytes ≡ true
faultless_head g place bytes h =
    let long = past_fault _ _ _ h in
    let parts = neither _ _ long.1 in
    let others = neither _ _ parts.1 in
    let header = three_header bytes parts.0 in
    let address = two_address (doc_of bytes) g.generation place others.0 in
    let blocks = and_parts (doc_number w32 44 bytes == blocks_of (length_of bytes)) _ header.2 in
    and_from _ _ header.0 (and_from _ _ header.1 (and_from _ _ blocks.0 (and_from _ _ address.0 address.1)))

-- ---- it stands in the first block

module _ (bytes : List ℕ) where
  abbrev head : List ℕ
  head = take 512 bytes

  front : take 512 head ≡ take 512 bytes
  front = take-take 512 512 bytes (omega arith)

  length_same : length_of head ≡ length_of bytes
  length_same = number_32_in_front 512 12 500 head bytes refl (omega arith) front

  head_same : (g : Geometry) (place : ℕ) → is_head g place head ≡ is_head g place bytes
  head_same g place =
      let magic : slice_at 0 8 head ≡ slice_at 0 8 bytes = field_in_front 512 0 8 512 head bytes refl (omega arith) front in
      let version : doc_number w32 8 head ≡ doc_number w32 8 bytes = number_32_in_front 512 8 504 head bytes refl (omega arith) front in
      let blocks : doc_number w32 44 head ≡ doc_number w32 44 bytes = number_32_in_front 512 44 468 head bytes refl (omega arith) front in
      let at : (doc_of head).place ≡ (doc_of bytes).place = number_64_in_front 512 48 464 head bytes refl (omega arith) front in
      let generation : (doc_of head).generation ≡ (doc_of bytes).generation = number_64_in_front 512 56 456 head bytes refl (omega arith) front in
      λ i. bytes_eq (magic i) (codes "TSCDOCM1")
      && (version i == 1 && (blocks i == blocks_of (length_same i) && (generation i == g.generation && at i == place)))

judged_none : (g : Geometry) (told : CopyState) (rows : List StoredRow) (place : ℕ) (bytes : List ℕ)
    → passes_tests g told rows place bytes ≡ false → judged g told rows place bytes ≡ None
unfolding judged
judged_none g told rows place bytes h = ap (λ b. if b then Some (standing_of place bytes) else None) h

inside_is : (g : Geometry) (cursor place blocks : ℕ) → blocks ≤ budget_of g → place + blocks ≤ lap_end_of g place
    → (not (lap_of g place == lap_of g cursor) || nat_le (place + blocks) cursor) ≡ true → is_inside g cursor place blocks ≡ true
inside_is g cursor place blocks small lap below =
    let half : nat_le blocks (budget_of g) ≡ true = grind (arith, small) in
    let end : nat_le (place + blocks) (lap_end_of g place) ≡ true = grind (arith, lap) in
    and_from (nat_le blocks (budget_of g)) _ half (and_from (nat_le (place + blocks) (lap_end_of g place)) _ end below)

head_is : (g : Geometry) (cursor place : ℕ) (head : List ℕ) → nat_le g.content place ≡ true → is_head g place head ≡ true
    → is_inside g cursor place (blocks_of (length_of head)) ≡ true → head_passes g cursor place head ≡ true
head_is g cursor place head from begins inside =
    and_from (nat_le g.content place) _ from (and_from (is_head g place head) _ begins inside)

pub heads_decide : HeadsDecide
heads_decide g told rows place bytes none = elim (cases_Bool (passes_tests g told rows place bytes)) [
  | inr fails ↦ judged_none g told rows place bytes fails
  | inl passes ↦
      let is = passed_all g told rows place bytes passes in
      let from : nat_le g.content place ≡ true = grind (arith, is.first) in
      let begins : is_head g place (take 512 bytes) ≡ true = head_same bytes g place ∙ faultless_head g place bytes is.sound in
      let inside : is_inside g told.cursor place (blocks_of (length_of (take 512 bytes))) ≡ true =
      ap (λ n. is_inside g told.cursor place (blocks_of n)) (length_same bytes) ∙ inside_is g told.cursor place (blocks_of (length_of bytes)) is.small is.lap is.inside in
      absurd (true≢false (sym (head_is g told.cursor place (take 512 bytes) from begins inside) ∙ none))
]

-- ---- of an image

first_of_document : (a : Area) (c : Image) (place : ℕ) → length (c (block_of_place a place)) ≡ 512 → take 512 (document_at a c place) ≡ c (block_of_place a place)
unfolding document_at
first_of_document a c place whole =
    let at = block_of_place a place in
    let some = some_read a c place in
    let n : blocks_read a c place ≡ suc (blocks_read a c place - 1) = omega (arith, some) in
    ap (λ k. take 512 (span c at k)) n
    ∙ (ap (take 512) (span_first c at (blocks_read a c place - 1)) ∙ take_at (c at) (span c (at + 1) (blocks_read a c place - 1)) 512 whole)

pub first_blocks_decide : FirstBlocksDecide
first_blocks_decide a told rows c place image none =
    heads_decide a.geometry told rows place (document_at a c place)
    (ap (head_passes a.geometry told.cursor place) (first_of_document a c place (image.whole (block_of_place a place))) ∙ none)

pub heads_tell : HeadsTellBlocks
heads_tell a cursor c place passes =
    let head = c (block_of_place a place) in
    let rest = and_parts (nat_le a.geometry.content place) _ passes in
    let inside = and_parts (is_head a.geometry place head) _ rest.1 in
    let lap = inside_parts a.geometry cursor place (blocks_told a c place) inside.1 in
    spans_so a c place (blocks_told a c place) refl lap.0
