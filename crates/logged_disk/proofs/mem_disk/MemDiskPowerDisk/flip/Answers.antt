use Rattle.std.proofs.Common.{List, refl, sym, subst}
use Rattle.device_log.specs.Calls.{Call}
use Rattle.device_log.specs.DeviceLog.{calls_of}
use Rattle.logged_disk.specs.Memory.{IsMemory}
use Rattle.logged_disk.proofs.MemoryLemmas.{memory_flipped, flip_ends_trust}
use Rattle.logged_disk.proofs.mem_disk.MemDiskPowerDisk.flip.Goals as goal

pub invariant_of-self-clause-is_memory : goal.invariant_of-self-clause-is_memory
invariant_of-self-clause-is_memory c =
    let disk = c.args.self.now in
    let turned = c.flip_block.ensures in
    subst (λ (p : List Call). IsMemory c.flip_block.new.written c.flip_block.new.pending disk.switch disk.faults p) (sym c.flipped.ensures)
    (memory_flipped disk.written disk.pending disk.switch disk.faults (calls_of disk.log) disk.is_memory
    c.flip_block.new.written c.flip_block.new.pending _ _ disk.faults turned.seen turned.kept turned.over turned.stored refl)

pub returns-clause-trust : goal.returns-clause-trust
returns-clause-trust c = flip_ends_trust _ _ (calls_of c.args.self.now.log) (calls_of c.flipped.new.self) c.flipped.ensures
