use Rattle.device_log.proofs.StreamLemmas.{write_noted}
use Rattle.device_log.proofs.streams.SinkLog.refused.Goals as goal

pub invariant_of-self : goal.invariant_of-self
invariant_of-self c = record { are_bytes = write_noted _ _ c.args.self.now.rows.rows c.note.new.self.rows c.note.ensures (λ i. (c.type_inv.front i).fits) c.args.self.now.are_bytes }
