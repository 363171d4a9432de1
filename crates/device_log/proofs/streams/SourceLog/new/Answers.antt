use Rattle.device_log.proofs.StreamLemmas.{nothing_given}
use Rattle.device_log.proofs.streams.SourceLog.new.Goals as goal

pub invariant_of-result : goal.invariant_of-result
invariant_of-result c = record { are_bytes = nothing_given c.new.result.rows c.new.ensures }
