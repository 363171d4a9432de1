use Rattle.std.proofs.Common.{◌≡◌, ◌<◌, ℕ, length}
use Rattle.dir_segment.specs.Image.{image_lists, image_walk, WalkIsSound}
use Rattle.packed_directory.specs.PackedImage.{segment_image}
use Rattle.packed_directory.specs.Packed.{segment_at}
use Rattle.packed_directory.proofs.image.write_segments.Given as goal

abbrev pub invariant-loop-i : goal.invariant-loop-i
invariant-loop-i l = record {
  size : length l.into ≡ length l.fn.into;
  lists : (n : ℕ) → n < l.i → image_lists l.g.buckets (segment_image l.g n l.into) ≡ segment_at l.segments n;
  sound : (n : ℕ) → n < l.i → WalkIsSound (image_walk l.g.buckets (segment_image l.g n l.into));
}
