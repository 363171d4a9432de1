use Rattle.std.proofs.Common.{◌≡◌, ◌+◌, ◌-◌, ◌^◌, ◌∷◌, min, take, arith}
use Rattle.std.proofs.lemmas.Grind.{common_steps}
use Rattle.device_log.specs.Streams.{RefusedWrite}
use Rattle.device_log.specs.StreamLogs.{writes_of}
use Rattle.edge_io.proofs.Writes.{fails_front}
use Rattle.edge_io.proofs.memory.MemSinkSink.write_all.Goals as goal

pub returns-clause-logs : goal.returns-clause-logs
returns-clause-logs c =
    let old = writes_of c.args.self.now.log in
    let bytes = c.args.bytes.now in
    let is : writes_of c.refused.new.self ≡ RefusedWrite (take c.if-fits.len bytes) (min (c.args.self.now.faults + 1) (2 ^ 64 - 1)) ∷ old = grind (arith, common_steps) in
    fails_front old (writes_of c.refused.new.self) bytes c.if-fits.len c.args.self.now.faults is c.args.self.now.failed
