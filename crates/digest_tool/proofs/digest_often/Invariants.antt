use Rattle.std.proofs.Common.{◌≡◌}
use Rattle.tape_base.specs.Digest.{digest_of}
use Rattle.digest_tool.proofs.digest_often.Given as goal

abbrev pub invariant-loop : goal.invariant-loop
invariant-loop l = l.digest ≡ digest_of l.initial.bytes
