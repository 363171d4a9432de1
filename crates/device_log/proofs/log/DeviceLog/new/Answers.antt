use Rattle.std.proofs.Common.{sym, subst}
use Rattle.device_log.specs.Faults.{IsLog}
use Rattle.device_log.specs.Rows.{calls_of_rows}
use Rattle.device_log.proofs.LogLemmas.{nothing_noted}
use Rattle.device_log.proofs.log.DeviceLog.new.Goals as goal

pub invariant_of-result : goal.invariant_of-result
unfolding calls_of_rows
invariant_of-result c = record { is_log = subst (λ rows. IsLog (calls_of_rows rows)) (sym c.new.ensures) nothing_noted }
