-- What is seen behind the calls of a format: the span, a gate that is open and one that is shut, and the first copy.
use Rattle.std.proofs.Common.{◌≡◌, ◌≢◌, ◌<◌, ◌+◌, ◌*◌, ◌/◌, ◌%◌, ℕ, Bool, false, List, ◌∷◌, ◌++◌, length, take, drop, slice_index, refl, sym, ap, ◌∙◌, append_assoc, arith}
use Rattle.std.proofs.lemmas.List.{take_at, drop_at}
use Rattle.sha2.specs.Sha256.{sha256}
use Rattle.device_log.specs.Image.{Image, IsImage, span}
use Rattle.device_log.specs.Calls.{Call, Wrote, Synced}
use Rattle.device_log.specs.Seen.{is_pending, seen_of}
use Rattle.device_log.proofs.Puts.{put_here}
use Rattle.device_log.proofs.Spans.{length-span, span_more, span_same}
use Rattle.device_log.proofs.SeenLaws.{wrote_others, wrote_puts}
use Rattle.stripe_header.specs.declared.area.Side.TheVariants as sides
use Rattle.stripe_header.specs.declared.states.CopyState.{CopyState}
use Rattle.stripe_header.specs.Spelling.{Numbers, copy_bytes, covered_bytes, foot_bytes, head_bytes}
use Rattle.stripe_header.proofs.CopyLaws.{length-head}
use Rattle.dir_sync.specs.Moments.{IsOpen, IsShut}
use Rattle.dir_sync.specs.SyncCalls.{open_block, shut_block}
use Rattle.dir_sync.proofs.Stages.{block_put, one_open, open_length}

both_length : length (shut_block ++ shut_block) ≡ 1024
unfolding shut_block
both_length = refl

second_shut : take 512 (drop (512 * 1) (shut_block ++ shut_block)) ≡ shut_block
unfolding shut_block
second_shut = refl

first_byte : slice_index shut_block 0 ≡ 0
unfolding shut_block
first_byte = refl

module _ (first : Image) (told body : List ℕ) (old : List Call) where
  abbrev shut : List Call
  shut = Synced ∷ Wrote 1 (shut_block ++ shut_block) ∷ old

  abbrev spanned : List Call
  spanned = Wrote 0 told ∷ shut

  abbrev written : List Call
  written = Synced ∷ Wrote 3 body ∷ spanned

  -- the calls of a format were made
  abbrev pub formatted : List Call
  formatted = Synced ∷ Wrote 1 open_block ∷ written

  pub none_pending : (settled : Bool) (j : ℕ) → is_pending settled formatted j ≡ false
  unfolding is_pending
  none_pending settled j = refl

  -- but for the gate the last write leaves all
  but_gate : (j : ℕ) → j ≢ 1 → seen_of first formatted j ≡ seen_of first written j
  unfolding seen_of
  but_gate j other =
      wrote_others first written 1 open_block j (λ low high. other (omega (arith, low, high, open_length)))

  below_body : (j : ℕ) → j < 3 → seen_of first written j ≡ seen_of first spanned j
  unfolding seen_of
  below_body j few = wrote_others first spanned 3 body j (λ low high. absurd (omega (arith, low, few)))

  pub span_seen : length told ≡ 512 → seen_of first formatted 0 ≡ told
  span_seen size = but_gate 0 (λ e. absurd (omega (arith, e))) ∙ (below_body 0 (omega arith) ∙ block_put first shut 0 told size)

  pub first_open : IsOpen sides.A (seen_of first formatted)
  unfolding seen_of
  first_open = one_open sides.A (seen_of first formatted) (block_put first written 1 open_block open_length)

  second_seen : length told ≡ 512 → seen_of first formatted 2 ≡ shut_block
  unfolding seen_of
  second_seen size =
      but_gate 2 (λ e. absurd (omega (arith, e)))
      ∙ (below_body 2 (omega arith)
      ∙ (wrote_others first shut 0 told 2 (λ low high. absurd (omega (arith, high, size)))
      ∙ (put_here 1 1 (shut_block ++ shut_block) (seen_of first old) (omega (arith, both_length)) ∙ second_shut)))

  pub second_is_shut : length told ≡ 512 → IsShut sides.B (seen_of first formatted)
  second_is_shut size is =
      let none : slice_index (seen_of first formatted 2) 0 ≡ 0 =
      ap (λ (l : List ℕ). slice_index l 0) (second_seen size) ∙ first_byte in
      omega (arith, none, is)

  pub body_seen : (n : ℕ) → length body ≡ 512 * n → span (seen_of first formatted) 3 n ≡ body
  unfolding seen_of
  body_seen n size =
      let blocks : n ≡ length body / 512 = omega (arith, size) in
      let whole : length body % 512 ≡ 0 = omega (arith, size) in
      span_same (seen_of first formatted) (seen_of first written) 3 n (λ j low high. but_gate j (λ e. omega (arith, low, e)))
      ∙ (ap (span (seen_of first written) 3) blocks ∙ wrote_puts first spanned 3 body whole)

-- ---- the parts of a body

inner : (x y z : List ℕ) (n : ℕ) → length x ≡ 512 → length y ≡ n → take n (drop 512 (x ++ (y ++ z))) ≡ y
inner x y z n front size = ap (take n) (drop_at x (y ++ z) 512 front) ∙ take_at y z n size

-- behind the first block of a body stands its directory
pub directory_seen : (c : Image) → IsImage c → (n : Numbers) (s : CopyState) (directory : List ℕ) (at d : ℕ)
    → length directory ≡ 512 * d → span c at (d + 2) ≡ copy_bytes 2 n s directory → span c (at + 1) d ≡ directory
directory_seen c image n s directory at d size is =
    let head = head_bytes 2 n s in
    let foot = foot_bytes s.serial (sha256 (covered_bytes 2 n s directory)) in
    let blocks : d + 2 ≡ 1 + (d + 1) = omega arith in
    let parts : span c at (d + 2) ≡ span c at 1 ++ (span c (at + 1) d ++ span c (at + 1 + d) 1) =
    ap (span c at) blocks ∙ (span_more c at 1 (d + 1) ∙ ap (λ l. span c at 1 ++ l) (span_more c (at + 1) d 1)) in
    let one = length-span c at 1 image.whole in
    let between = length-span c (at + 1) d image.whole in
    sym (inner (span c at 1) (span c (at + 1) d) (span c (at + 1 + d) 1) (512 * d) one between)
    ∙ (ap (λ l. take (512 * d) (drop 512 l)) (sym parts ∙ (is ∙ append_assoc head directory foot))
    ∙ inner head directory foot (512 * d) (length-head 2 n s) size)
