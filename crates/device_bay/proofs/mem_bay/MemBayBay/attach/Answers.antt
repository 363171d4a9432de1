use Rattle.std.proofs.Common.{◌∙◌, ◌≤◌, ℕ, sym, subst}
use Rattle.device_bay.specs.MemBay.{mem_calls}
use Rattle.device_bay.proofs.BayLemmas.{new_memory}
use Rattle.device_bay.proofs.mem_bay.MemBayBay.attach.Goals as goal

pub returns-clause-device : goal.returns-clause-device
returns-clause-device c =
    new_memory c.args.blocks (mem_calls c.args.self.now) c.new-device.result
    (subst (λ (n : ℕ). c.args.blocks ≤ n) (sym c.new-device.ensures.size) c.size_for.ensures.enough) (c.new-device.ensures.number ∙ c.number.ensures) c.new-device.ensures.past
