use Rattle.std.proofs.Common.{List, true, ap, refl, sym, subst, ◌∙◌}
use Rattle.device_log.specs.Image.{blank}
use Rattle.device_log.specs.Calls.{Call}
use Rattle.device_log.specs.Seen.{seen_of, MayLeave}
use Rattle.device_log.specs.DeviceLog.{calls_of}
use Rattle.device_log.proofs.Puts.{blank_is_image}
use Rattle.device_log.proofs.LeftLaws.{cut_may_leave, cut_shows}
use Rattle.logged_disk.specs.Memory.{IsMemory}
use Rattle.logged_disk.proofs.MemoryLemmas.{memory_cut}
use Rattle.logged_disk.proofs.mem_disk.MemDiskPowerDisk.cut.Goals as goal

pub invariant_of-self-clause-is_memory : goal.invariant_of-self-clause-is_memory
invariant_of-self-clause-is_memory c =
    let disk = c.args.self.now in
    subst (λ (p : List Call). IsMemory c.cut_blocks.new.written c.settle.new.pending c.lift.new.self disk.faults p) (sym c.cut_in_memory.ensures)
    (memory_cut disk.written disk.pending disk.switch disk.faults (calls_of disk.log) disk.is_memory
    c.cut_blocks.new.written c.settle.new.pending c.lift.new.self c.args.choice disk.size disk.faults disk.log.is_log
    c.cut_blocks.ensures.seen c.settle.ensures.none
    c.lift.ensures.armed c.lift.ensures.stop refl)

pub returns-clause-leaves : goal.returns-clause-leaves
returns-clause-leaves c honest =
    let disk = c.args.self.now in
    let past = calls_of disk.log in
    subst (λ (p : List Call). MayLeave true blank past (seen_of blank p)) (sym c.cut_in_memory.ensures)
    (cut_may_leave c.args.choice blank disk.size past blank_is_image disk.log.is_log.entries)

pub returns-clause-exact : goal.returns-clause-exact
returns-clause-exact c j low =
    let disk = c.args.self.now in
    let past = calls_of disk.log in
    ap (λ (p : List Call). seen_of blank p j) c.cut_in_memory.ensures
    ∙ cut_shows c.args.choice blank disk.size past blank_is_image disk.log.is_log.entries j low
