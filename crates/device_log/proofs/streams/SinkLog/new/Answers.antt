use Rattle.device_log.proofs.StreamLemmas.{nothing_taken}
use Rattle.device_log.proofs.streams.SinkLog.new.Goals as goal

pub invariant_of-result : goal.invariant_of-result
invariant_of-result c = record { are_bytes = nothing_taken c.new.result.rows c.new.ensures }
