use Rattle.std.proofs.Common.{◌≡◌, ◌+◌, drop}
use Rattle.sha2.specs.Sha256.{hash_after, initial_hash_256}
use Rattle.sha_twin.specs.Lanes.{state_of_lane}
use Rattle.sha_twin.proofs.digests.digest_document.Given as goal

abbrev pub invariant-both : goal.invariant-both
invariant-both l = record {
  payload : state_of_lane 0 l.states ≡ hash_after initial_hash_256 (drop 128 l.bytes) l.i;
  document : state_of_lane 1 l.states ≡ hash_after initial_hash_256 l.bytes (l.i + 2);
}
