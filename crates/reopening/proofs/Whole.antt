-- What the newest copy opens to, also by its elements in another order.
use Rattle.std.proofs.Common.{◌≡◌, ◌≤◌, ◌<◌, ◌+◌, ◌-◌, ℕ, zero, suc, Bool, true, false, List, length, Some, None, inl, inr, refl, sym, ap, subst, ◌∙◌, arith}
use Rattle.std.specs.Prelude.{◌&&◌, ◌==◌, if◌then◌else◌, Result, Ok, Err}
use Rattle.std.specs.Result.{is_ok}
use Rattle.std.specs.List.{list_all, range_with_len, cons_option}
use Rattle.std.specs.List.Sorted.{IsPermutation}
use Rattle.std.proofs.lemmas.List.Sorted.{list_any-IsPermutation, length_permutation}
use Rattle.device_log.specs.Image.{Image}
use Rattle.tape_base.specs.declared.geometries.Geometry.{Geometry}
use Rattle.tape_base.specs.Blocks.{blocks_of}
use Rattle.tape_base.specs.Piece.{key_of_piece}
use Rattle.stripe_header.specs.declared.area.Area.{Area}
use Rattle.stripe_header.specs.declared.states.CopyState.{CopyState}
use Rattle.doc_header.specs.Reading.{doc_of, length_of, payload_of}
use Rattle.dir_segment.specs.Image.{Marks, image_walk, WalkIsSound}
use Rattle.dir_segment.specs.declared.fault.SegmentFault.{SegmentFault}
use Rattle.dir_table.specs.declared.rows.StoredRow.{StoredRow}
use Rattle.packed_directory.specs.StoredRows.{is_under}
use Rattle.packed_directory.specs.PackedImage.{segment_image, IsFirstFault, IsImageOfSegments}
use Rattle.stripe_header.specs.declared.area.Side.TheVariants as sides
use Rattle.stripe_header.specs.Reading.{copy_told}
use Rattle.std.proofs.lemmas.Bool.{cases_lt}
use Rattle.reopening.specs.Faults.{FaultsOpenNothing}
use Rattle.reopening.specs.declared.newest.Newest.{Newest}
use Rattle.reopening.specs.Newest.{body_at, bound_of, copy_at, directory_at, newer, newest_of, unless_fault}
use Rattle.reopening.specs.Documents.{document_at, standing_of}
use Rattle.reopening.specs.Tests.{has_put, is_document, is_inside, judged, lists_puts, standing_at, standing_from}
use Rattle.reopening.specs.Later.{kept_rows}
use Rattle.reopening.specs.Opens.{found_of, is_sound, opened, opening_at, opens_to}

sound_ok : (walk : Result Marks SegmentFault) → WalkIsSound walk → is_ok walk ≡ true
sound_ok (Ok marks) sound = refl
sound_ok (Err fault) sound = absurd sound

all_in_range : (p : ℕ → Bool) (from n : ℕ) → ((k : ℕ) → from ≤ k → k < from + n → p k ≡ true) → list_all p (range_with_len from n) ≡ true
all_in_range p from zero each = refl
all_in_range p from (suc n) each =
    ap (λ b. b && list_all p (range_with_len (from + 1) n)) (each from (omega arith) (omega arith))
    ∙ all_in_range p (from + 1) n (λ k low high. each k (omega (arith, low)) (omega (arith, high)))

nothing : (b : Bool) → (b && false) ≡ false
nothing true = refl
nothing false = refl

-- an image is sound
pub image_is_sound : (g : Geometry) (bytes : List ℕ) → IsImageOfSegments g bytes → is_sound g bytes ≡ true
image_is_sound g bytes image =
    all_in_range (λ n. is_ok (image_walk g.buckets (segment_image g n bytes))) 0 g.segments
    (λ k low high. sound_ok (image_walk g.buckets (segment_image g k bytes)) (image k (omega (arith, high))))

-- what the newest copy opens to is what the image does
pub opens_newest : (a : Area) (c : Image) (n : Newest) → newest_of a c ≡ Some n → is_sound a.geometry (directory_at a c n.side) ≡ true → opens_to a c ≡ Some (opening_at a c n)
unfolding opens_to
opens_newest a c n newest sound = ap (opened a c) newest ∙ ap (λ b. if b then Some (opening_at a c n) else None) sound

one_stops : (p : ℕ → Bool) (from n k : ℕ) → from ≤ k → k < from + n → p k ≡ false → list_all p (range_with_len from n) ≡ false
one_stops p from zero k low high fails = absurd (omega (arith, low, high))
one_stops p from (suc n) k low high fails = elim (cases_lt from k) [
  | inl less ↦ ap (λ b. p from && b) (one_stops p (from + 1) n k (omega (arith, less)) (omega (arith, high)) fails) ∙ nothing (p from)
  | inr le ↦
      let here : k ≡ from = omega (arith, le, low) in
      ap (λ b. b && list_all p (range_with_len (from + 1) n)) (subst (λ j. p j ≡ false) here fails)
]

-- what has a first fault is not
pub fault_is_unsound : (g : Geometry) (bytes : List ℕ) (number : ℕ) (fault : SegmentFault) → IsFirstFault g bytes number fault → is_sound g bytes ≡ false
fault_is_unsound g bytes number fault first =
    one_stops (λ n. is_ok (image_walk g.buckets (segment_image g n bytes))) 0 g.segments number (omega arith) (omega (arith, first.within)) (ap is_ok first.is)

pub faults_open : FaultsOpenNothing
unfolding opens_to
faults_open a c = (
  λ one other is. ap (λ x. opened a c (newer (unless_fault x (copy_told (body_at a c sides.A))) (copy_at a c sides.B))) is.0
      ∙ ap (λ x. opened a c (newer None (unless_fault x (copy_told (body_at a c sides.B))))) is.1,
  λ side number fault is.
      let n = is.0 in
      let first : IsFirstFault a.geometry (directory_at a c n.side) number fault = subst (λ s. IsFirstFault a.geometry (directory_at a c s) number fault) (sym is.2) is.3 in
      ap (opened a c) is.1 ∙ ap (λ b. if b then Some (opening_at a c n) else None) (fault_is_unsound a.geometry (directory_at a c n.side) number fault first),
)

module _ (rows all : List StoredRow) (same : IsPermutation rows all) where
  entered_same : (g : Geometry) (told : CopyState) (place : ℕ) (bytes : List ℕ) → judged g told rows place bytes ≡ judged g told all place bytes
  unfolding judged
  entered_same g told place bytes =
      let id = (doc_of bytes).id in
      ap (λ b. if is_document g place bytes && (is_inside g told.cursor place (blocks_of (length_of bytes)) && (b && (has_put told.next_put id && lists_puts told.next_put id (payload_of bytes)))) then Some (standing_of place bytes) else None)
      (list_any-IsPermutation (λ (r : StoredRow). r.place == place && is_under g (key_of_piece id) r) rows all same)

  standing_same : (a : Area) (told : CopyState) (c : Image) (low n : ℕ) → standing_from a told rows c low n ≡ standing_from a told all c low n
  standing_same a told c low zero = refl
  standing_same a told c low (suc n) =
      ap (λ s. cons_option s (standing_from a told rows c (low + 1) n)) (entered_same a.geometry told low (document_at a c low))
      ∙ ap (cons_option (standing_at a told all c low)) (standing_same a told c (low + 1) n)

  -- the order of the elements plays no part
  pub found_same : (a : Area) (told : CopyState) (c : Image) → found_of a told rows c ≡ found_of a told all c
  unfolding found_of
  found_same a told c = ap kept_rows (standing_same a told c (bound_of a.geometry told) (told.cursor - bound_of a.geometry told))

  pub as_many : length rows ≡ length all
  as_many = sym (length_permutation rows all same)
