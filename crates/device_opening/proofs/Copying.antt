-- A copy of an image by its gate and its body as they were read.
use Rattle.std.proofs.Common.{◌≡◌, ℕ, ◌+◌, ◌-◌, ◌*◌, ◌/◌, List, ◌++◌, length, take, drop, sym, ap, ◌∙◌, arith}
use Rattle.std.specs.Prelude.{◌≢◌}
use Rattle.std.specs.List.{slice_index}
use Rattle.std.proofs.Math.Seq.{take-append_seam, drop-append_seam}
use Rattle.device_log.specs.Image.{Image, IsImage, span}
use Rattle.device_log.proofs.Spans.{length-span, span_first, span_more, span_one}
use Rattle.stripe_header.specs.declared.area.Area.{Area}
use Rattle.stripe_header.specs.declared.area.Side.{Side}
use Rattle.stripe_header.specs.declared.states.CopyFault.TheVariants as copy_faults
use Rattle.stripe_header.specs.Layout.{body_of, gate_of}
use Rattle.stripe_header.specs.Reading.{block_bytes, copy_fault, copy_told}
use Rattle.stripe_header.proofs.CopyLaws.{shut_refused}
use Rattle.reopening.specs.Newest.{body_at, directory_at, unless_fault}
use Rattle.device_opening.specs.declared.copies.CopyRead.{CopyRead}
use Rattle.device_opening.specs.declared.copies.CopyRead.TheVariants.{Refused, Told}
use Rattle.device_opening.specs.Copies.{IsCopyIn, IsSideOf}

middle : (a b d : List ℕ) (n : ℕ) → length a ≡ 512 → length b ≡ n → block_bytes 512 n (a ++ (b ++ d)) ≡ b
unfolding block_bytes
middle a b d n first second =
    ap (λ m. take n (drop m (a ++ (b ++ d)))) (sym first)
    ∙ (ap (take n) (drop-append_seam a (b ++ d))
    ∙ (ap (λ m. take m (b ++ d)) (sym second) ∙ take-append_seam b d))

module _ (a : Area) (c : Image) (image : IsImage c) (side : Side) where
  -- the blocks between the first and the last of a body are its directory
  pub directory_of_body : block_bytes 512 (length (body_at a c side) - 1024) (body_at a c side) ≡ directory_at a c side
  directory_of_body =
      let b = body_of a side in
      let d = a.directory in
      let front = span c b 1 in
      let inner = span c (b + 1) d in
      let last = span c (b + 1 + d) 1 in
      let blocks : d + 2 ≡ 1 + (d + 1) = omega arith in
      let parts : body_at a c side ≡ front ++ (inner ++ last) = ap (span c b) blocks ∙ (span_more c b 1 (d + 1) ∙ ap (λ l. front ++ l) (span_more c (b + 1) d 1)) in
      let whole : length (body_at a c side) ≡ 512 * (d + 2) = length-span c b (d + 2) image.whole in
      let long : length (body_at a c side) - 1024 ≡ 512 * d = omega (arith, whole) in
      ap (λ m. block_bytes 512 m (body_at a c side)) long
      ∙ (ap (block_bytes 512 (512 * d)) parts
      ∙ middle front inner last (512 * d) (length-span c b 1 image.whole) (length-span c (b + 1) d image.whole))

-- what is told by a gate and a body is told by the copy that they are of
pub side_as_read : (a : Area) (c : Image) (side : Side) (gate body : List ℕ) (copy : CopyRead) → gate ≡ c (gate_of side) → body ≡ body_at a c side
    → IsCopyIn a.geometry gate body copy → IsSideOf a c side copy
side_as_read a c side gate body (Refused fault) g b is = sym (λ i. copy_fault a.geometry (g i) (b i)) ∙ is
side_as_read a c side gate body (Told state kept) g b is = (
  sym (λ i. unless_fault (copy_fault a.geometry (g i) (b i)) (copy_told (b i))) ∙ is.0,
  is.1 ∙ b,
)

pub shut_as_read : (a : Area) (c : Image) (side : Side) (gate : List ℕ) → gate ≡ c (gate_of side) → slice_index gate 0 ≢ 1
    → IsSideOf a c side (Refused copy_faults.GateShut)
shut_as_read a c side gate g shut =
    shut_refused a.geometry (c (gate_of side)) (body_at a c side) (λ is. shut (ap (λ l. slice_index l 0) g ∙ is))

-- the gates are the two blocks behind the first
pub gates_as_read : (c : Image) → IsImage c → (blocks a b : List ℕ) → length blocks ≡ 1024 → blocks ≡ span c 1 (length blocks / 512) → a ≡ take 512 blocks → b ≡ drop 512 blocks
    → (a ≡ c 1) × (b ≡ c 2)
gates_as_read c image blocks a b long is one other =
    let both : blocks ≡ c 1 ++ span c 2 1 = is ∙ (ap (λ n. span c 1 (n / 512)) long ∙ span_first c 1 1) in (
      one ∙ (ap (take 512) both ∙ (ap (λ m. take m (c 1 ++ span c 2 1)) (sym (image.whole 1)) ∙ take-append_seam (c 1) (span c 2 1))),
      other ∙ (ap (drop 512) both ∙ (ap (λ m. drop m (c 1 ++ span c 2 1)) (sym (image.whole 1)) ∙ (drop-append_seam (c 1) (span c 2 1) ∙ span_one c 2))),
    )
