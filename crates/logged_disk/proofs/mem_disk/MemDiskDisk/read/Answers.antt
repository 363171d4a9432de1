use Rattle.std.proofs.Common.{ℕ, ◌/◌, ◌∙◌, List, ap, refl, sym, subst}
use Rattle.device_log.specs.Image.{blank, span}
use Rattle.device_log.specs.Calls.{Call}
use Rattle.device_log.specs.DeviceLog.{calls_of}
use Rattle.logged_disk.specs.Memory.{IsMemory}
use Rattle.device_log.specs.Seen.{seen_of}
use Rattle.logged_disk.proofs.MemoryLemmas.{memory_refused, memory_read, memory_gives}
use Rattle.logged_disk.proofs.mem_disk.MemDiskDisk.read.Goals as goal

pub invariant_of-self-clause-is_memory : goal.invariant_of-self-clause-is_memory
unfolding seen_of
invariant_of-self-clause-is_memory c =
    let disk = c.args.self.now in
    subst (λ (p : List Call). IsMemory disk.written disk.pending c.fails.new.switch c.fails.new.faults p) (sym c.refused_read.ensures)
    (memory_refused disk.written disk.pending disk.switch disk.faults (calls_of disk.log) disk.is_memory
    c.fails.new.switch c.fails.new.faults c.fails.result c.fails.ensures.counts _ _ (λ j. refl) c.if-fails.true)

pub invariant_of-self-2-clause-is_memory : goal.invariant_of-self-2-clause-is_memory
invariant_of-self-2-clause-is_memory c =
    let disk = c.args.self.now in
    let past = calls_of disk.log in
    subst (λ (p : List Call). IsMemory disk.written disk.pending c.fails.new.switch c.fails.new.faults p) (sym c.read.ensures)
    (memory_read disk.written disk.pending disk.switch disk.faults past disk.is_memory
    c.fails.new.switch c.fails.new.faults c.fails.result c.fails.ensures.counts _ _
    (c.read_blocks.ensures
    ∙ (memory_gives disk.written disk.pending disk.switch disk.faults past disk.is_memory _ _
    ∙ ap (λ (n : ℕ). span (seen_of blank past) c.args.block (n / 512)) (sym c.read_blocks.auto.into)))
    c.if-fails.false)
