use Rattle.std.proofs.Common.{List, sym, subst}
use Rattle.device_log.specs.Calls.{Call}
use Rattle.device_log.specs.DeviceLog.{calls_of}
use Rattle.logged_disk.specs.Memory.{IsMemory}
use Rattle.device_log.specs.Image.{blank}
use Rattle.device_log.proofs.SeenLaws.{refused_nothing}
use Rattle.logged_disk.proofs.MemoryLemmas.{memory_refused, memory_wrote}
use Rattle.logged_disk.proofs.mem_disk.MemDiskDisk.write.Goals as goal

pub invariant_of-self-clause-is_memory : goal.invariant_of-self-clause-is_memory
invariant_of-self-clause-is_memory c =
    let disk = c.args.self.now in
    let past = calls_of disk.log in
    subst (λ (p : List Call). IsMemory disk.written disk.pending c.fails-refused.new.switch c.fails-refused.new.faults p) (sym c.refused_write.ensures)
    (memory_refused disk.written disk.pending disk.switch disk.faults past disk.is_memory
    c.fails-refused.new.switch c.fails-refused.new.faults c.fails-refused.result c.fails-refused.ensures.counts _ _ (λ j. refused_nothing blank past _ _ _ j) c.if-refused.true)

pub invariant_of-self-2-clause-is_memory : goal.invariant_of-self-2-clause-is_memory
invariant_of-self-2-clause-is_memory c =
    let disk = c.args.self.now in
    let put = c.write_blocks.ensures in
    subst (λ (p : List Call). IsMemory c.write_blocks.new.written c.write_blocks.new.pending c.fails-refused.new.switch c.fails-refused.new.faults p) (sym c.wrote.ensures)
    (memory_wrote disk.written disk.pending disk.switch disk.faults (calls_of disk.log) disk.is_memory
    c.fails-refused.new.switch c.fails-refused.new.faults c.fails-refused.result c.fails-refused.ensures.counts
    c.write_blocks.new.written c.write_blocks.new.pending _ _ put.seen put.kept put.over put.stored c.if-refused.false)
