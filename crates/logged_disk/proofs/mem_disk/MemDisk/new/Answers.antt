use Rattle.std.proofs.Common.{List, ap, sym, subst}
use Rattle.std.specs.Map.{lookup}
use lib.Dec.{eqb}
use Rattle.device_log.specs.Calls.{Call}
use Rattle.device_log.specs.DeviceLog.{calls_of}
use Rattle.logged_disk.specs.Memory.{IsMemory}
use Rattle.logged_disk.proofs.MemoryLemmas.{memory_at_first, trust_at_first}
use Rattle.logged_disk.proofs.mem_disk.MemDisk.new.Goals as goal

pub invariant_of-result-clause-is_memory : goal.invariant_of-result-clause-is_memory
invariant_of-result-clause-is_memory c =
    subst (λ (p : List Call). IsMemory c.new.result c.new-2.result c.new-3.result 0 p) (sym c.new-4.ensures)
    (memory_at_first c.new.result c.new-2.result c.new-3.result
    (λ j. ap (λ entries. lookup (eqb j) entries) c.new.ensures.empty) (λ j. ap (λ entries. lookup (eqb j) entries) c.new-2.ensures.empty)
    c.new-3.ensures.armed c.new-3.ensures.stop)

pub returns-clause-honest : goal.returns-clause-honest
returns-clause-honest c = trust_at_first (calls_of c.new-4.result) c.new-4.ensures
