use Rattle.std.proofs.Common.{◌≡◌, ◌-◌, ◌+◌, ◌≤◌}
use Rattle.dir_segment.specs.Image.{empty_roots}
use Rattle.dir_segment.proofs.image.empty_roots.Given as goal

abbrev pub invariant-loop-bucket : goal.invariant-loop-bucket
invariant-loop-bucket l = record {
  few : l.count ≤ l.bucket;
  counted : l.count + empty_roots l.slots l.bucket (l.buckets - l.bucket) ≡ empty_roots l.slots 0 l.buckets;
}
