use Rattle.std.proofs.Common.{ℕ, ◌+◌, ◌/◌, length, Ok, Err, sym, subst}
use Rattle.device_reads.specs.declared.reads.ReadFault.TheVariants.{DeviceFault}
use Rattle.device_reads.specs.Reads.{Fails}
use Rattle.device_reads.proofs.Telling.{read_fails, read_tells}
use Rattle.device_reads.proofs.reads.read.Goals as goal

pub returns-in-Ok-clause-reads : goal.returns-in-Ok-clause-reads
returns-in-Ok-clause-reads g c =
    read_tells (Ok c.in-Ok.field-0) (g.D.Disk.state c.args.disk.now) (g.D.Disk.state c.read.new.self) c.args.at c.read.new.into c.in-Ok.ensures.keeps c.in-Ok.ensures.logs

pub returns-in-Err-clause-fails : goal.returns-in-Err-clause-fails
returns-in-Err-clause-fails g c =
    let old = g.D.Disk.state c.args.disk.now in
    let new = g.D.Disk.state c.read.new.self in
    subst (λ (count : ℕ). Fails c.args.at (c.args.at + length c.read.new.into / 512) 1 old new (DeviceFault count)) (sym c.faults.ensures)
    (read_fails (Err c.in-Err.field-0) old new c.args.at c.read.new.into c.in-Err.ensures.keeps c.in-Err.ensures.logs)
