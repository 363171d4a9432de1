-- What an opening looks at.
use Rattle.std.proofs.Common.{◌≡◌, ◌≤◌, ◌<◌, ◌+◌, ◌-◌, ◌*◌, ◌/◌, ◌%◌, inl, inr, ℕ, zero, suc, Bool, true, false, List, [], ◌∷◌, ◌++◌, length, take, drop, length-drop, Some, None, refl, sym, ap, subst, ◌∙◌, arith}
use Rattle.std.specs.Prelude.{min, not, nat_le, ◌&&◌, ◌||◌, ◌==◌, if◌then◌else◌}
use Rattle.std.specs.Int.{w32, from_le_bytes}
use Rattle.std.specs.List.{list_any, cons_option}
use Rattle.std.proofs.lemmas.Bool.{cases_Bool, and_parts, and_right, or_parts}
use Rattle.std.proofs.Math.Nat.{mod-add-div, mod-eq_of_lt, add-mul-mod_self_left, mod-lt}
use lib.Seq.{take-append-le, drop-append-le}
use Rattle.device_log.specs.Image.{Image, IsImage, span}
use Rattle.device_log.proofs.Spans.{span_first, span_same}
use Rattle.tape_base.specs.declared.geometries.Geometry.{Geometry}
use Rattle.tape_base.specs.Blocks.{blocks_of}
use Rattle.tape_base.specs.Geometry.{budget_of}
use Rattle.tape_base.specs.Piece.{key_of_piece}
use Rattle.tape_base.specs.Place.{lap_of, lap_end_of, slot_of}
use Rattle.stripe_header.specs.declared.area.Area.{Area}
use Rattle.stripe_header.specs.declared.area.Side.{Side}
use Rattle.stripe_header.specs.declared.area.Side.TheVariants as sides
use Rattle.stripe_header.specs.declared.states.CopyState.{CopyState}
use Rattle.stripe_header.specs.Layout.{block_of_place, body_blocks, body_of, gate_of}
use Rattle.stripe_header.specs.Reading.{copy_fault, copy_told}
use Rattle.doc_header.specs.Reading.{doc_number, doc_of, length_of, payload_of, slice_at}
use Rattle.dir_table.specs.declared.rows.StoredRow.{StoredRow}
use Rattle.packed_directory.specs.StoredRows.{is_under}
use Rattle.reopening.specs.declared.newest.Newest.{Newest}
use Rattle.reopening.specs.Newest.{body_at, bound_of, copy_at, directory_at, newer, newest_of, unless_fault}
use Rattle.reopening.specs.Documents.{blocks_read, document_at, standing_of}
use Rattle.reopening.specs.Tests.{has_put, is_document, is_entered, is_inside, judged, lists_puts, standing_at, standing_from}
use Rattle.reopening.specs.Later.{kept_rows}
use Rattle.reopening.specs.Opens.{found_of, is_sound, opened, opening_with, opens_to, rows_at, rows_told}
use Rattle.reopening.specs.Alike.{AllEndByCursor, EndsBy, IsInBody, IsRestedOn, OpensAlike, OpensByOne, RestsOnOne, blocks_told, has_place}
use Rattle.reopening.proofs.Bounds.{some_content}
use Rattle.reopening.proofs.Pieces.{ends_by}

-- a number in front is that of the front
pub number_ahead : (at : ℕ) (xs ys : List ℕ) → at + 4 ≤ length xs → doc_number w32 at (xs ++ ys) ≡ doc_number w32 at xs
unfolding doc_number slice_at
number_ahead at xs ys within =
    ap (λ l. from_le_bytes w32 (take 4 l)) (drop-append-le at xs ys (omega (arith, within)))
    ∙ ap (from_le_bytes w32) (take-append-le 4 (drop at xs) ys (omega (arith, within, length-drop at xs)))

pub some_read : (a : Area) (c : Image) (p : ℕ) → 0 < blocks_read a c p
some_read a c p =
    let small : p % a.geometry.content < a.geometry.content = mod-lt p (some_content a.geometry) in
    omega (arith, small)

-- a document tells the length that its first block tells
pub first_block : (a : Area) (c : Image) (p : ℕ) → length (c (block_of_place a p)) ≡ 512 → length_of (document_at a c p) ≡ length_of (c (block_of_place a p))
unfolding document_at
first_block a c p whole =
    let at = block_of_place a p in
    let some = some_read a c p in
    let n : blocks_read a c p ≡ suc (blocks_read a c p - 1) = omega (arith, some) in
    ap (λ k. length_of (span c at k)) n
    ∙ (ap length_of (span_first c at (blocks_read a c p - 1))
    ∙ number_ahead 12 (c at) (span c (at + 1) (blocks_read a c p - 1)) (omega (arith, whole)))

-- what is not inside does not pass, whatever its bytes are
outside_none : (g : Geometry) (told : CopyState) (rows : List StoredRow) (p : ℕ) (bytes : List ℕ) → is_inside g told.cursor p (blocks_of (length_of bytes)) ≡ false → judged g told rows p bytes ≡ None
unfolding judged
outside_none g told rows p bytes out =
    let id = (doc_of bytes).id in
    let rest = is_entered g rows p id && (has_put told.next_put id && lists_puts told.next_put id (payload_of bytes)) in
    ap (λ b. if is_document g p bytes && (b && rest) then Some (standing_of p bytes) else None) out
    ∙ ap (λ b. if b then Some (standing_of p bytes) else None) (and_right (is_document g p bytes) false refl)

no_row : (test : StoredRow → Bool) (p : ℕ) (rows : List StoredRow) → has_place p rows ≡ false → list_any (λ (r : StoredRow). r.place == p && test r) rows ≡ false
no_row test p [] none = refl
no_row test p (r ∷ rows) none =
    let e = or_parts (r.place == p) (has_place p rows) none in
    ap (λ b. (b && test r) || list_any (λ (s : StoredRow). s.place == p && test s) rows) e.0 ∙ no_row test p rows e.1

-- nor does what no element names
pub rowless_none : (g : Geometry) (told : CopyState) (rows : List StoredRow) (p : ℕ) (bytes : List ℕ) → has_place p rows ≡ false → judged g told rows p bytes ≡ None
unfolding judged
rowless_none g told rows p bytes none =
    let id = (doc_of bytes).id in
    let rest = has_put told.next_put id && lists_puts told.next_put id (payload_of bytes) in
    let inside = is_inside g told.cursor p (blocks_of (length_of bytes)) in
    ap (λ b. if is_document g p bytes && (inside && (b && rest)) then Some (standing_of p bytes) else None) (no_row (is_under g (key_of_piece id)) p rows none)
    ∙ (ap (λ b. if is_document g p bytes && b then Some (standing_of p bytes) else None) (and_right inside false refl)
    ∙ ap (λ b. if b then Some (standing_of p bytes) else None) (and_right (is_document g p bytes) false refl))

-- places of a lap stand block by block
in_row : (a : Area) (p i : ℕ) → i < a.geometry.content - slot_of a.geometry p → block_of_place a (p + i) ≡ block_of_place a p + i
in_row a p i lt =
    let n = a.geometry.content in
    let same = mod-add-div p n in
    let small : p % n + i < n = omega (arith, lt) in
    let e : (p + i) % n ≡ p % n + i = ap (λ x. x % n) (let f : p + i ≡ p % n + i + n * (p / n) = omega (arith, same) in f) ∙ add-mul-mod_self_left (p % n + i) n (p / n) ∙ mod-eq_of_lt small in
    omega (arith, e)

document_same : (a : Area) (c d : Image) (p : ℕ) → c (block_of_place a p) ≡ d (block_of_place a p)
    → ((i : ℕ) → i < blocks_read a c p → c (block_of_place a p + i) ≡ d (block_of_place a p + i)) → document_at a c p ≡ document_at a d p
unfolding document_at
document_same a c d p first each =
    let at = block_of_place a p in
    span_same c d at (blocks_read a c p) (λ j low high.
    let e : at + (j - at) ≡ j = omega (arith, low) in
    subst (λ k. c k ≡ d k) e (each (j - at) (omega (arith, low, high))))
    ∙ ap (λ b. span d at (min (blocks_of (length_of b)) (a.geometry.content - slot_of a.geometry p))) first

standing_alike : (a : Area) (told : CopyState) (rows : List StoredRow) (c d : Image) (low n : ℕ)
    → ((p : ℕ) → low ≤ p → p < low + n → standing_at a told rows c p ≡ standing_at a told rows d p)
    → standing_from a told rows c low n ≡ standing_from a told rows d low n
standing_alike a told rows c d low zero each = refl
standing_alike a told rows c d low (suc n) each =
    ap (λ s. cons_option s (standing_from a told rows c (low + 1) n)) (each low (omega arith) (omega arith))
    ∙ ap (cons_option (standing_at a told rows d low)) (standing_alike a told rows c d (low + 1) n (λ p from to. each p (omega (arith, from)) (omega (arith, to))))

module _ (a : Area) (n : Newest) (end : ℕ) (c d : Image) (whole : IsImage c)
    (agree : (p : ℕ) → bound_of a.geometry n.told ≤ p → p < end → c (block_of_place a p) ≡ d (block_of_place a p)) (ends : EndsBy a c n end) where
  abbrev wg : Geometry
  wg = a.geometry

  abbrev wtold : CopyState
  wtold = n.told

  abbrev wrows : List StoredRow
  wrows = rows_at a c n

  there_alike : (p : ℕ) → bound_of wg wtold ≤ p → (p < end) × (is_inside wg wtold.cursor p (blocks_told a c p) ≡ true → p + blocks_told a c p ≤ end)
      → standing_at a wtold wrows c p ≡ standing_at a wtold wrows d p
  there_alike p low e =
      let first : c (block_of_place a p) ≡ d (block_of_place a p) = agree p low e.0 in
      elim (cases_Bool (is_inside wg wtold.cursor p (blocks_told a c p))) [
        | inl inside ↦ ap (judged wg wtold wrows p) (document_same a c d p first (λ i lt.
            let to = e.1 inside in
            let at = in_row a p i (omega (arith, lt)) in
            subst (λ j. c j ≡ d j) at
            (agree (p + i) (omega (arith, low)) (omega (arith, lt, to)))))
        | inr out ↦
            outside_none wg wtold wrows p (document_at a c p) (ap (λ l. is_inside wg wtold.cursor p (blocks_of l)) (first_block a c p (whole.whole (block_of_place a p))) ∙ out)
            ∙ sym (outside_none wg wtold wrows p (document_at a d p)
            (ap (λ l. is_inside wg wtold.cursor p (blocks_of l)) (first_block a d p (sym (ap length first) ∙ whole.whole (block_of_place a p)) ∙ ap length_of (sym first)) ∙ out))
      ]

  place_alike : (p : ℕ) → bound_of wg wtold ≤ p → p < wtold.cursor → standing_at a wtold wrows c p ≡ standing_at a wtold wrows d p
  place_alike p low lt = elim (cases_Bool (has_place p wrows)) [
    | inl there ↦ there_alike p low (ends p lt there)
    | inr none ↦ rowless_none wg wtold wrows p (document_at a c p) none ∙ sym (rowless_none wg wtold wrows p (document_at a d p) none)
  ]

  pub found_alike : found_of a wtold wrows c ≡ found_of a wtold wrows d
  unfolding found_of
  found_alike = ap kept_rows (standing_alike a wtold wrows c d (bound_of wg wtold) (wtold.cursor - bound_of wg wtold) (λ p low high. place_alike p low (omega (arith, low, high))))

-- ---- images with one newest copy

pub one_decides : OpensByOne
unfolding opens_to
one_decides a n end c d whole is other ends agree =
    let g = a.geometry in
    let told = n.told in
    let found : found_of a told (rows_at a c n) c ≡ found_of a told (rows_at a c n) d =
    found_alike a n end c d whole (λ p low high. agree (block_of_place a p) (inr (p, low, high, refl))) ends in
    let directory : directory_at a c n.side ≡ directory_at a d n.side =
    span_same c d (body_of a n.side + 1) a.directory (λ j low high. agree j (inl (omega (arith, low), omega (arith, high)))) in
    ap (opened a d) other
    ∙ (ap (λ b. if is_sound g b then Some (opening_with g told (found_of a told (rows_told g told b) d)) else None) (sym directory)
    ∙ (ap (λ f. if is_sound g (directory_at a c n.side) then Some (opening_with g told f) else None) (sym found)
    ∙ sym (ap (opened a c) is)))

-- ---- images whose gates and bodies are the same

module _ (a : Area) (c d : Image) (gates : (side : Side) → c (gate_of side) ≡ d (gate_of side))
    (bodies : (side : Side) (j : ℕ) → IsInBody a side j → c j ≡ d j) where
  copy_alike : (side : Side) → copy_at a c side ≡ copy_at a d side
  copy_alike side =
      ap (λ b. unless_fault (copy_fault a.geometry (c (gate_of side)) b) (copy_told b))
      (span_same c d (body_of a side) (body_blocks a) (λ j low high. bodies side j (low, high)))
      ∙ ap (λ x. unless_fault (copy_fault a.geometry x (body_at a d side)) (copy_told (body_at a d side))) (gates side)

  newest_alike : newest_of a c ≡ newest_of a d
  newest_alike = ap (λ x. newer x (copy_at a c sides.B)) (copy_alike sides.A) ∙ ap (newer (copy_at a d sides.A)) (copy_alike sides.B)

pub images_alike : OpensAlike
images_alike a n end c d settled first past whole is ends stands may =
    let agree : (j : ℕ) → IsRestedOn a n end j → c j ≡ d j = λ j on. let e = stands j on in sym (may.still j e.0 ∙ e.1) in
    let newest = newest_alike a c d (λ side. agree (gate_of side) (inl (side, refl))) (λ side j is. agree j (inr (inl (side, is)))) in
    one_decides a n end c d whole is (sym newest ∙ is) ends (rests agree) where
      rests : ((j : ℕ) → IsRestedOn a n end j → c j ≡ d j) → (j : ℕ) → RestsOnOne a n end j → c j ≡ d j
      rests agree j (inl body) = agree j (inr (inl (n.side, body)))
      rests agree j (inr named) = agree j (inr (inr named))

pub inside_parts : (g : Geometry) (c p blocks : ℕ) → is_inside g c p blocks ≡ true → (p + blocks ≤ lap_end_of g p) × ((not (lap_of g p == lap_of g c) || nat_le (p + blocks) c) ≡ true)
inside_parts g c p blocks h =
    let e = and_parts (nat_le (p + blocks) (lap_end_of g p)) (not (lap_of g p == lap_of g c) || nat_le (p + blocks) c)
    (and_parts (nat_le blocks (budget_of g)) (nat_le (p + blocks) (lap_end_of g p) && (not (lap_of g p == lap_of g c) || nat_le (p + blocks) c)) h).1 in
    (grind (arith, e.0), e.1)

pub end_by_cursor : AllEndByCursor
end_by_cursor a c n p lt there = (
  lt,
  λ inside.
      let e = inside_parts a.geometry n.told.cursor p (blocks_told a c p) inside in
      ends_by a.geometry n.told.cursor p (blocks_told a c p) lt e.0 e.1,
)
