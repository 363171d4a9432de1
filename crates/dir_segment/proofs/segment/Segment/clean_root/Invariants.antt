use Rattle.std.proofs.Common.{◌≡◌, ◌≤◌, Bool, length}
use Rattle.std.specs.Fn.{FnReturnsAt}
use Rattle.dir_entry.specs.declared.entry.Entry.{Entry}
use Rattle.dir_segment.specs.Lists.{chain_of, entry_count}
use Rattle.dir_segment.specs.Cleaning.{Computes, clean_bucket}
use Rattle.dir_segment.proofs.segment.Segment.clean_root.Given as goal

abbrev pub invariant-loop-slot : goal.invariant-loop-slot
invariant-loop-slot g l = record {
  width : length l.self.chains ≡ length l.initial.self.chains;
  fewer : entry_count l.self.chains ≤ entry_count l.initial.self.chains;
  lists : (test : Entry → Bool) → Computes (FnReturnsAt g.T.Fn l.keep) test → clean_bucket test l.self l.bucket ≡ clean_bucket test l.initial.self l.bucket;
}

abbrev pub decreases-loop-slot : goal.decreases-loop-slot
decreases-loop-slot g l = length (chain_of l.self l.bucket)
