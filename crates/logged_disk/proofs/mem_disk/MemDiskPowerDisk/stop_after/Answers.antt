use Rattle.std.proofs.Common.{List, refl, sym, subst}
use Rattle.device_log.specs.Calls.{Call}
use Rattle.device_log.specs.DeviceLog.{calls_of}
use Rattle.logged_disk.specs.Memory.{IsMemory}
use Rattle.logged_disk.proofs.MemoryLemmas.{memory_told_stop}
use Rattle.logged_disk.proofs.mem_disk.MemDiskPowerDisk.stop_after.Goals as goal

pub invariant_of-self-clause-is_memory : goal.invariant_of-self-clause-is_memory
invariant_of-self-clause-is_memory c =
    let disk = c.args.self.now in
    subst (λ (p : List Call). IsMemory disk.written disk.pending c.stop_after.new.self disk.faults p) (sym c.told_stop.ensures)
    (memory_told_stop disk.written disk.pending disk.switch disk.faults (calls_of disk.log) disk.is_memory
    c.stop_after.new.self _ disk.faults c.stop_after.ensures.armed c.stop_after.ensures.stop refl)
