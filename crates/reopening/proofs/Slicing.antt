-- Blocks of bytes in memory, as those of an image.
use Rattle.std.proofs.Common.{◌≡◌, ℕ, zero, suc, ◌+◌, ◌*◌, List, ◌++◌, take, drop, sym, ap, ◌∙◌, arith, take-add, drop-drop}
use Rattle.device_log.specs.Image.{Image, span}
use Rattle.device_log.proofs.Spans.{span_none, span_first}
use Rattle.stripe_header.specs.declared.area.Area.{Area}
use Rattle.stripe_header.specs.Layout.{block_of_place}
use Rattle.reopening.specs.Slices.{image_of}
use Rattle.reopening.specs.Documents.{blocks_read, document_at}

-- blocks that stand together are one stretch of the bytes
pub span_image : (bytes : List ℕ) (at n : ℕ) → span (image_of bytes) at n ≡ take (512 * n) (drop (512 * at) bytes)
span_image bytes at zero = span_none (image_of bytes) at
span_image bytes at (suc n) =
    let m : 512 * suc n ≡ 512 + 512 * n = omega arith in
    let k : 512 * (at + 1) ≡ 512 * at + 512 = omega arith in
    span_first (image_of bytes) at n
    ∙ (ap (λ l. take 512 (drop (512 * at) bytes) ++ l) (span_image bytes (at + 1) n)
    ∙ (ap (λ i. take 512 (drop (512 * at) bytes) ++ take (512 * n) (drop i bytes)) k
    ∙ (ap (λ l. take 512 (drop (512 * at) bytes) ++ take (512 * n) l) (sym (drop-drop 512 (512 * at) bytes))
    ∙ (sym (take-add 512 (512 * n) (drop (512 * at) bytes))
    ∙ ap (λ i. take i (drop (512 * at) bytes)) (sym m)))))

-- blocks from that of a place on, as many as are read there
pub document_spans : (a : Area) (c : Image) (place at n : ℕ) → at ≡ block_of_place a place → n ≡ blocks_read a c place → span c at n ≡ document_at a c place
unfolding document_at
document_spans a c place at n here count = ap (λ k. span c k n) here ∙ ap (span c (block_of_place a place)) count
