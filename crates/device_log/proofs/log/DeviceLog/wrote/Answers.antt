use Rattle.device_log.proofs.LogLemmas.{noted}
use Rattle.device_log.proofs.log.DeviceLog.wrote.Goals as goal

pub invariant_of-self : goal.invariant_of-self
invariant_of-self c = record { is_log = noted _ _ c.args.self.now.rows.rows c.note.new.self.rows c.note.ensures c.args.self.now.is_log (record { bytes = λ i. (c.type_inv.bytes i).fits; whole = c.requires }) tt }
