use Rattle.device_log.specs.Rows.{calls_of_rows}
use Rattle.device_log.proofs.LogLemmas.{cut_noted, cut_is_log}
use Rattle.device_log.proofs.log.DeviceLog.cut_in_memory.Goals as goal

pub invariant_of-self : goal.invariant_of-self
invariant_of-self c =
    let old = c.args.self.now.rows.rows in
    let new = c.note.new.self.rows in
    record {
      is_log = cut_is_log c.args.choice c.args.blocks (calls_of_rows old) (calls_of_rows new)
          (cut_noted c.args.choice c.number.result c.args.blocks old new c.number.ensures c.note.ensures) c.args.self.now.is_log;
    }
