-- A copy of an image by its gate and its body as they were read.
use Rattle.std.proofs.Common.{◌≡◌, ℕ, ◌+◌, ◌-◌, ◌*◌, ◌/◌, List, ◌++◌, length, take, drop, Some, None, sym, ap, ◌∙◌, arith}
use Rattle.std.specs.Prelude.{◌≢◌, if◌then◌else◌}
use Rattle.std.specs.List.{slice_index}
use Rattle.std.proofs.Math.Seq.{take-append_seam, drop-append_seam}
use Rattle.device_log.specs.Image.{Image, IsImage, span}
use Rattle.device_log.proofs.Spans.{length-span, span_first, span_more, span_one}
use Rattle.stripe_header.specs.declared.area.Area.{Area}
use Rattle.stripe_header.specs.declared.area.Side.{Side}
use Rattle.stripe_header.specs.declared.states.CopyFault.TheVariants as copy_faults
use Rattle.stripe_header.specs.Layout.{body_blocks, body_of, gate_of}
use Rattle.stripe_header.specs.Reading.{block_bytes, copy_fault, copy_told}
use Rattle.stripe_header.proofs.CopyLaws.{shut_refused}
use Rattle.tape_base.specs.declared.geometries.Geometry.{Geometry}
use Rattle.dir_segment.specs.declared.fault.SegmentFault.{SegmentFault}
use Rattle.packed_directory.specs.PackedImage.{IsFirstFault, IsImageOfSegments, entries_in, image_segments}
use Rattle.reopening.proofs.Whole.{fault_is_unsound, image_is_sound}
use Rattle.reopening.specs.Newest.{body_at, directory_at}
use Rattle.inspections.specs.declared.copies.CopyRead.TheVariants.{Refused}
use Rattle.inspections.specs.Copies.{copy_by, copy_in, copy_of, entries_in_bytes}

middle : (a b d : List ℕ) (n : ℕ) → length a ≡ 512 → length b ≡ n → block_bytes 512 n (a ++ (b ++ d)) ≡ b
unfolding block_bytes
middle a b d n first second =
    ap (λ m. take n (drop m (a ++ (b ++ d)))) (sym first)
    ∙ (ap (take n) (drop-append_seam a (b ++ d))
    ∙ (ap (λ m. take m (b ++ d)) (sym second) ∙ take-append_seam b d))

module _ (a : Area) (c : Image) (image : IsImage c) (side : Side) where
  -- the blocks between the first and the last of a body are its directory
  directory_of_body : block_bytes 512 (length (body_at a c side) - 1024) (body_at a c side) ≡ directory_at a c side
  directory_of_body =
      let b = body_of a side in
      let d = a.directory in
      let front = span c b 1 in
      let inner = span c (b + 1) d in
      let last = span c (b + 1 + d) 1 in
      let blocks : d + 2 ≡ 1 + (d + 1) = omega arith in
      let parts : body_at a c side ≡ front ++ (inner ++ last) = ap (span c b) blocks ∙ (span_more c b 1 (d + 1) ∙ ap (λ l. front ++ l) (span_more c (b + 1) d 1)) in
      let whole : length (body_at a c side) ≡ 512 * (d + 2) = length-span c b (d + 2) image.whole in
      let long : length (body_at a c side) - 1024 ≡ 512 * d = omega (arith, whole) in
      ap (λ m. block_bytes 512 m (body_at a c side)) long
      ∙ (ap (block_bytes 512 (512 * d)) parts
      ∙ middle front inner last (512 * d) (length-span c b 1 image.whole) (length-span c (b + 1) d image.whole))

  pub copy_as_read : (gate body : List ℕ) → gate ≡ c (gate_of side) → body ≡ span c (body_of a side) (body_blocks a) → copy_in a.geometry gate body ≡ copy_of a c side
  copy_as_read gate body g b =
      let block = c (gate_of side) in
      ap (λ x. copy_in a.geometry x body) g
      ∙ (ap (copy_in a.geometry block) b
      ∙ ap (λ l. copy_by (copy_fault a.geometry block (body_at a c side)) (copy_told (body_at a c side)) (entries_in_bytes a.geometry l)) directory_of_body)

  pub shut_as_read : (gate : List ℕ) → gate ≡ c (gate_of side) → slice_index gate 0 ≢ 1 → Refused copy_faults.GateShut ≡ copy_of a c side
  shut_as_read gate g shut =
      let refused = shut_refused a.geometry (c (gate_of side)) (body_at a c side) (λ is. shut (ap (λ l. slice_index l 0) g ∙ is)) in
      sym (ap (λ f. copy_by f (copy_told (body_at a c side)) (entries_in_bytes a.geometry (directory_at a c side))) refused)

-- the gates are the two blocks behind the first
pub gates_as_read : (c : Image) → IsImage c → (blocks a b : List ℕ) → length blocks ≡ 1024 → blocks ≡ span c 1 (length blocks / 512) → a ≡ take 512 blocks → b ≡ drop 512 blocks
    → (a ≡ c 1) × (b ≡ c 2)
gates_as_read c image blocks a b long is one other =
    let both : blocks ≡ c 1 ++ span c 2 1 = is ∙ (ap (λ n. span c 1 (n / 512)) long ∙ span_first c 1 1) in (
      one ∙ (ap (take 512) both ∙ (ap (λ m. take m (c 1 ++ span c 2 1)) (sym (image.whole 1)) ∙ take-append_seam (c 1) (span c 2 1))),
      other ∙ (ap (drop 512) both ∙ (ap (λ m. drop m (c 1 ++ span c 2 1)) (sym (image.whole 1)) ∙ (drop-append_seam (c 1) (span c 2 1) ∙ span_one c 2))),
    )

-- ---- the entries of a directory

pub sound_entries : (g : Geometry) (bytes : List ℕ) (n : ℕ) → n ≡ entries_in (image_segments g bytes) → IsImageOfSegments g bytes → Some n ≡ entries_in_bytes g bytes
unfolding entries_in_bytes
sound_entries g bytes n is sound =
    ap Some is ∙ sym (ap (λ b. if b then Some (entries_in (image_segments g bytes)) else None) (image_is_sound g bytes sound))

pub faulty_entries : (g : Geometry) (bytes : List ℕ) (number : ℕ) (fault : SegmentFault) → IsFirstFault g bytes number fault → None ≡ entries_in_bytes g bytes
unfolding entries_in_bytes
faulty_entries g bytes number fault first =
    sym (ap (λ b. if b then Some (entries_in (image_segments g bytes)) else None) (fault_is_unsound g bytes number fault first))
