use Rattle.tape_base.proofs.Bytes.{IsBytes-nil}
use Rattle.device_log.proofs.StreamLemmas.{read_noted}
use Rattle.device_log.proofs.streams.SourceLog.refused.Goals as goal

pub invariant_of-self : goal.invariant_of-self
invariant_of-self c = record { are_bytes = read_noted _ _ c.args.self.now.rows.rows c.note.new.self.rows c.note.ensures (IsBytes-nil) c.args.self.now.are_bytes }
