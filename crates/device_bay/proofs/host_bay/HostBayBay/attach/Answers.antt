use Rattle.std.proofs.Common.{◌∙◌, ◌≤◌, ℕ, sym, subst}
use Rattle.device_bay.specs.HostDisk.{host_state}
use Rattle.device_bay.specs.Register.{calls_in}
use Rattle.device_bay.proofs.BayLemmas.{new_memory}
use Rattle.device_bay.proofs.host_bay.HostBayBay.attach.Goals as goal

pub returns-then-starts_with-clause-device : goal.returns-then-starts_with-clause-device
returns-then-starts_with-clause-device g c =
    new_memory c.args.blocks (calls_in (host_state {S = g.row.S.Denot} g.S.FileStart.first) c.args.self.now.register) c.new-device.result
    (subst (λ (n : ℕ). c.args.blocks ≤ n) (sym c.new-device.ensures.size) c.size_for.ensures.enough) (c.new-device.ensures.number ∙ c.number.ensures) c.new-device.ensures.past
