use Rattle.std.proofs.Common.{◌≡◌, ◌-◌, length}
use Rattle.dir_segment.specs.Cleaning.{each_bucket}
use Rattle.dir_segment.specs.Purging.{thin_bucket, is_unmarked}
use Rattle.dir_segment.proofs.segment.Segment.purge_tenth.Given as goal

abbrev pub invariant-loop-bucket : goal.invariant-loop-bucket
invariant-loop-bucket l = record {
  width : length l.self.chains ≡ length l.initial.self.chains;
  lists : each_bucket (thin_bucket (is_unmarked l.initial.out.marks)) l.bucket (length l.initial.self.chains - l.bucket) l.self
      ≡ each_bucket (thin_bucket (is_unmarked l.initial.out.marks)) 0 (length l.initial.self.chains) l.initial.self;
}
