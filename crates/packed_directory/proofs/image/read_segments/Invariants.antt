use Rattle.std.proofs.Common.{◌≡◌, ◌<◌, ℕ, length, map}
use Rattle.std.specs.Prelude.{All}
use Rattle.std.specs.List.{range_with_len}
use Rattle.dir_segment.specs.Lists.{Lists}
use Rattle.dir_segment.specs.Image.{image_lists, image_walk, WalkIsSound}
use Rattle.packed_directory.specs.PackedImage.{segment_image}
use Rattle.packed_directory.proofs.image.read_segments.Given as goal

abbrev pub invariant-loop-number : goal.invariant-loop-number
invariant-loop-number l = record {
  segments : l.segments.items ≡ map (λ n. image_lists l.g.buckets (segment_image l.g n l.bytes)) (range_with_len 0 l.number);
  sound : (n : ℕ) → n < l.number → WalkIsSound (image_walk l.g.buckets (segment_image l.g n l.bytes));
  widths : All (λ (s : Lists). length s.chains ≡ l.g.buckets) l.segments.items;
}
