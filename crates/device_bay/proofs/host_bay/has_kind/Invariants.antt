use Rattle.std.proofs.Common.{◌≡◌, drop}
use Rattle.device_bay.specs.Bay.{has_kind}
use Rattle.device_bay.proofs.host_bay.has_kind.Given as goal

abbrev pub invariant-loop-byte : goal.invariant-loop-byte
invariant-loop-byte l = has_kind l.name ≡ has_kind (drop l.byte-index l.name)
