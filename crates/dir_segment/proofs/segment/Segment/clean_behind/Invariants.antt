use Rattle.std.proofs.Common.{◌≡◌, ◌≤◌, Bool, true, length}
use Rattle.std.specs.Fn.{FnReturnsAt}
use Rattle.dir_entry.specs.declared.entry.Entry.{Entry}
use Rattle.dir_segment.specs.Lists.{chain_of, entry_count, has_slot, behind_slot, passes}
use Rattle.dir_segment.specs.Cleaning.{Computes}
use Rattle.dir_segment.proofs.Sweeping.{swept}
use Rattle.dir_segment.proofs.segment.Segment.clean_behind.Given as goal

abbrev pub invariant-loop-slot : goal.invariant-loop-slot
invariant-loop-slot g l = record {
  width : length l.self.chains ≡ length l.initial.self.chains;
  fewer : entry_count l.self.chains ≤ entry_count l.initial.self.chains;
  held : has_slot l.before (chain_of l.self l.bucket) ≡ true;
  lists : (test : Entry → Bool) → Computes (FnReturnsAt g.T.Fn l.keep) test → swept (passes test) l.self l.bucket l.before ≡ swept (passes test) l.initial.self l.bucket l.root;
}

abbrev pub decreases-loop-slot : goal.decreases-loop-slot
decreases-loop-slot g l = length (behind_slot l.before (chain_of l.self l.bucket))
