-- The copy that a sync writes, laid over what is seen before it.
use Rattle.std.proofs.Common.{◌≡◌, ◌≢◌, ◌≤◌, ◌<◌, ◌+◌, ◌*◌, ◌/◌, ◌%◌, ℕ, List, [], length, Some, refl, sym, ap, subst, ◌∙◌, arith}
use Rattle.hex.specs.Hex.{IsBytes}
use Rattle.tape_base.proofs.Bytes.{bytes_by_test}
use Rattle.tape_base.specs.declared.geometries.Geometry.{Geometry}
use Rattle.tape_base.specs.Place.{directory_blocks_of}
use Rattle.device_log.specs.Image.{Image, IsImage, put, span}
use Rattle.device_log.specs.Seen.{seen_of}
use Rattle.device_log.proofs.Puts.{put_is_image, put_others, put_span}
use Rattle.device_log.proofs.Spans.{span_same}
use Rattle.stripe_header.specs.declared.area.Area.{Area}
use Rattle.stripe_header.specs.declared.area.Side.{Side}
use Rattle.stripe_header.specs.declared.area.Side.TheVariants as sides
use Rattle.stripe_header.specs.declared.states.CopyState.{CopyState}
use Rattle.stripe_header.specs.Layout.{body_blocks, body_of, content_of, gate_of}
use Rattle.stripe_header.specs.Reading.{copy_told}
use Rattle.stripe_header.specs.Spelling.{IsCopy, numbers_of}
use Rattle.stripe_header.proofs.CopyLaws.{again}
use Rattle.dir_table.specs.declared.rows.StoredRow.{StoredRow}
use Rattle.dir_sync.specs.Moments.{IsOpen}
use Rattle.dir_sync.specs.SyncCalls.{open_block}
use Rattle.dir_sync.proofs.Stages.{block_put, one_open, open_length}
use Rattle.stripe_copies.specs.Copies.{CopiesState, IsBodyOf, target_of}
use Rattle.reopening.specs.Newest.{body_at, copy_at, directory_at, unless_fault}
use Rattle.reopening.specs.Guards.{told_by_body}
use Rattle.reopening.proofs.Winning.{copy_open}
use Rattle.stripe_copies.proofs.Copy.{body_length}
use Rattle.format_laws.proofs.Standing.{directory_seen}
use Rattle.sync_laws.specs.KnownCopies.{with_copy}
use Rattle.sync_laws.proofs.Watching.{body_high, gate_few}

open_bytes : IsBytes open_block
unfolding open_block
open_bytes = bytes_by_test open_block refl

-- content lies behind both bodies
pub behind_body : (a : Area) (side : Side) (j : ℕ) → j < body_of a side + body_blocks a → content_of a ≤ j → ⊥
behind_body a sides.A j to from = omega (arith, to, from)
behind_body a sides.B j to from = omega (arith, to, from)

module _ (k : CopiesState) (s : CopyState) (stored : List StoredRow) (body : List ℕ) (of : IsBodyOf k.area.geometry s stored body)
    (directory : k.area.directory ≡ directory_blocks_of k.area.geometry) (c : Image) where
  abbrev a : Area
  a = k.area

  abbrev g : Geometry
  g = a.geometry

  abbrev side : Side
  side = target_of k

  abbrev put_body : Image
  put_body = put (body_of a side) body c

  abbrev there : Image
  there = with_copy a side body c

  size : length of.image ≡ 512 * a.directory
  size = of.of.whole ∙ ap (λ n. 512 * n) (sym directory)

  pub long : length body ≡ 512 * body_blocks a
  long = ap length of.copy.spelled ∙ body_length (numbers_of g) s of.image a.directory size

  pub off_gate : (j : ℕ) → j ≢ gate_of side → there j ≡ put_body j
  off_gate j other = put_others (gate_of side) open_block put_body j (λ low high. other (omega (arith, low, high, open_length)))

  -- off the gate and the body nothing is changed
  pub off_copy : (j : ℕ) → j ≢ gate_of side → (body_of a side ≤ j → j < body_of a side + body_blocks a → ⊥) → there j ≡ c j
  off_copy j other out =
      off_gate j other ∙ put_others (body_of a side) body c j (λ low high. out low (omega (arith, high, long)))

  gate_there : there (gate_of side) ≡ open_block
  unfolding seen_of
  gate_there = block_put put_body [] (gate_of side) open_block open_length

  opened : IsOpen side there
  opened = one_open side there gate_there

  pub has_body : body_at a there side ≡ body
  has_body =
      let blocks : body_blocks a ≡ length body / 512 = omega (arith, long) in
      let even : length body % 512 ≡ 0 = omega (arith, long) in
      span_same there put_body (body_of a side) (body_blocks a)
      (λ j low high. off_gate j (λ e. let few = gate_few side in let high = body_high a side in omega (arith, e, few, high, low)))
      ∙ (ap (span put_body (body_of a side)) blocks ∙ put_span (body_of a side) body c even)

  pub tells : told_by_body a (body_at a there side) ≡ Some s
  tells =
      let copy : IsCopy (body_at a there side) 2 g s of.image = subst (λ (b : List ℕ). IsCopy b 2 g s of.image) (sym has_body) of.copy in
      let read = again g (there (gate_of side)) (body_at a there side) 2 s of.image opened copy in
      let accepted : copy_at a there side ≡ Some s = ap (λ f. unless_fault f (copy_told (body_at a there side))) read.0 ∙ ap Some read.1 in
      sym (copy_open a there side opened) ∙ accepted

  module _ (image : IsImage c) (bytes : IsBytes body) where
    pub there_is_image : IsImage there
    there_is_image = put_is_image (gate_of side) open_block put_body open_bytes (put_is_image (body_of a side) body c bytes image)

    pub directory_is : directory_at a there side ≡ of.image
    directory_is = directory_seen there there_is_image (numbers_of g) s of.image (body_of a side) a.directory size (has_body ∙ of.copy.spelled)
