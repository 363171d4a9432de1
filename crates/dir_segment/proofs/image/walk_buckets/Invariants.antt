use Rattle.std.proofs.Common.{◌≡◌, ◌-◌, length}
use Rattle.dir_segment.specs.Image.{walk_buckets}
use Rattle.dir_segment.proofs.image.walk_buckets.Given as goal

abbrev pub invariant-loop-bucket : goal.invariant-loop-bucket
invariant-loop-bucket l = record {
  size : length l.reached ≡ length l.slots;
  walks : walk_buckets l.slots l.bucket (l.buckets - l.bucket) l.reached ≡ walk_buckets l.slots 0 l.buckets l.initial.reached;
}
