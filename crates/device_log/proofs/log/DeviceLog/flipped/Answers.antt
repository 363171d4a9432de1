use Rattle.std.proofs.Common.{refl}
use Rattle.device_log.proofs.LogLemmas.{noted, no_bytes}
use Rattle.device_log.proofs.log.DeviceLog.flipped.Goals as goal

pub invariant_of-self : goal.invariant_of-self
invariant_of-self c = record { is_log = noted _ _ c.args.self.now.rows.rows c.note.new.self.rows c.note.ensures c.args.self.now.is_log (no_bytes _ refl) tt }
