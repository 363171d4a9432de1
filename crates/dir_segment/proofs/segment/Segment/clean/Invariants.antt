use Rattle.std.proofs.Common.{◌≡◌, ◌≤◌, ◌-◌, Bool, length}
use Rattle.std.specs.Fn.{FnReturnsAt}
use Rattle.dir_entry.specs.declared.entry.Entry.{Entry}
use Rattle.dir_segment.specs.Lists.{entry_count}
use Rattle.dir_segment.specs.Cleaning.{Computes, clean_buckets}
use Rattle.dir_segment.proofs.segment.Segment.clean.Given as goal

abbrev pub invariant-loop-bucket : goal.invariant-loop-bucket
invariant-loop-bucket g l = record {
  width : length l.self.chains ≡ length l.initial.self.chains;
  fewer : entry_count l.self.chains ≤ entry_count l.initial.self.chains;
  lists : (test : Entry → Bool) → Computes (FnReturnsAt g.T.Fn l.keep) test
      → clean_buckets test l.bucket (length l.initial.self.chains - l.bucket) l.self ≡ clean_buckets test 0 (length l.initial.self.chains) l.initial.self;
}
