use Rattle.std.proofs.Common.{◌∙◌, ◌≤◌, Bool, if◌then◌else◌, subst, sym, arith}
use Rattle.device_log.specs.DeviceLog.{calls_of}
use Rattle.device_log.proofs.FaultLaws.{untold_has_none}
use Rattle.logged_disk.specs.Memory.{memory_trust}
use Rattle.logged_disk.proofs.mem_disk.MemDisk.obeys.Goals as goal

pub returns-clause-obeys : goal.returns-clause-obeys
returns-clause-obeys c = c.args.self.now.is_memory.obeys

pub returns-clause-untold : goal.returns-clause-untold
returns-clause-untold c none =
    let is = c.args.self.now.is_memory in
    is.counted ∙ untold_has_none (calls_of c.args.self.now.log) none is.obeys

pub returns-clause-honest : goal.returns-clause-honest
unfolding memory_trust
returns-clause-honest c none = subst (λ (b : Bool). 2 ≤ (if b then 1 else 2)) (sym none) (omega arith)
