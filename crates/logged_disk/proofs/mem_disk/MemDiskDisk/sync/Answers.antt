use Rattle.std.proofs.Common.{List, refl, sym, subst}
use Rattle.device_log.specs.Calls.{Call}
use Rattle.device_log.specs.DeviceLog.{calls_of}
use Rattle.logged_disk.specs.Memory.{IsMemory}
use Rattle.device_log.specs.Seen.{seen_of}
use Rattle.logged_disk.proofs.MemoryLemmas.{memory_refused, memory_synced}
use Rattle.logged_disk.proofs.mem_disk.MemDiskDisk.sync.Goals as goal

pub invariant_of-self-clause-is_memory : goal.invariant_of-self-clause-is_memory
unfolding seen_of
invariant_of-self-clause-is_memory c =
    let disk = c.args.self.now in
    subst (λ (p : List Call). IsMemory disk.written disk.pending c.fails.new.switch c.fails.new.faults p) (sym c.refused_sync.ensures)
    (memory_refused disk.written disk.pending disk.switch disk.faults (calls_of disk.log) disk.is_memory
    c.fails.new.switch c.fails.new.faults c.fails.result c.fails.ensures.counts _ _ (λ j. refl) c.if-fails.true)

pub invariant_of-self-2-clause-is_memory : goal.invariant_of-self-2-clause-is_memory
invariant_of-self-2-clause-is_memory c =
    let disk = c.args.self.now in
    subst (λ (p : List Call). IsMemory disk.written c.settle.new.pending c.fails.new.switch c.fails.new.faults p) (sym c.synced.ensures)
    (memory_synced disk.written disk.pending disk.switch disk.faults (calls_of disk.log) disk.is_memory
    c.fails.new.switch c.fails.new.faults c.fails.result c.fails.ensures.counts c.settle.new.pending
    c.settle.ensures.none c.if-fails.false)
