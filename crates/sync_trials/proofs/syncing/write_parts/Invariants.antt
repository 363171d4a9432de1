use Rattle.std.proofs.Common.{◌≡◌}
use Rattle.logged_disk.specs.MemDisk.{mem_state}
use Rattle.dir_sync.specs.Runs.{left_of}
use Rattle.sync_trials.proofs.syncing.write_parts.Given as goal

abbrev pub invariant-loop-disk : goal.invariant-loop-disk
invariant-loop-disk l =
    record {
      size : (mem_state l.disk).size ≡ (mem_state l.fn.disk).size;
      area : l.run.area ≡ l.fn.run.area;
    }

abbrev pub decreases-loop-disk : goal.decreases-loop-disk
decreases-loop-disk l = left_of l.run
