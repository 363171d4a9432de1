use Rattle.std.proofs.Common.{◌≡◌, ℕ, ◌*◌, ◌-◌, List, length, take, drop, ◌∙◌, ap, arith}
use Rattle.std.proofs.lemmas.List.{length-drop}
use borrow.Rule.Slice.PartMut.{put_mid}
use Rattle.edge_io.proofs.Ranges.{behind_put}
use Rattle.tape_base.specs.declared.geometries.Geometry.{Geometry}
use Rattle.tape_base.specs.Place.{directory_blocks_of}
use Rattle.stripe_header.specs.declared.states.CopyState.{CopyState}
use Rattle.stripe_header.specs.Reading.{block_bytes}
use Rattle.stripe_header.specs.Spelling.{copy_bytes, numbers_of}
use Rattle.stripe_copies.specs.Format.{first_state}
use Rattle.stripe_copies.proofs.format.fill.Goals as goal

pub returns-clause-body : goal.returns-clause-body
unfolding block_bytes
returns-clause-body c =
    let g : Geometry = c.args.g.now in
    let body : List ℕ = c.args.body.now in
    let behind : List ℕ = c.put_image.new.behind in
    let all : List ℕ = put_mid 512 (length body - 512) body behind in
    let same : drop 512 all ≡ behind = behind_put body behind 512 (omega (arith, c.requires.room)) in
    let long : length (drop 512 all) ≡ length all - 512 = length-drop 512 all in
    let count : length all - 1024 ≡ 512 * directory_blocks_of g = omega (arith, long, ap length same, c.put_image.ensures.len) in
    let image : take (length all - 1024) (drop 512 all) ≡ take (512 * directory_blocks_of g) behind =
    ap (λ n. take n (drop 512 all)) count ∙ ap (take (512 * directory_blocks_of g)) same in
    record {
      image = take (512 * directory_blocks_of g) behind;
      empty = c.put_image.ensures.image;
      is = c.write_body.ensures.bytes
          ∙ (ap (λ (s : CopyState). copy_bytes 2 (numbers_of g) s (take (length all - 1024) (drop 512 all))) c.first_state.ensures
          ∙ ap (copy_bytes 2 (numbers_of g) (first_state g)) image);
    }
