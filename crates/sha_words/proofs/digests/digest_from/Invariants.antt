use Rattle.std.proofs.Common.{◌≡◌, ◌+◌, ◌/◌, length}
use Rattle.sha2.specs.Sha256.{hash_after, initial_hash_256, padded_message}
use Rattle.sha_words.proofs.digests.digest_from.Given as goal

abbrev pub invariant-whole : goal.invariant-whole
invariant-whole l = l.state ≡ hash_after initial_hash_256 l.message l.i

abbrev pub invariant-last : goal.invariant-last
invariant-last l = l.state ≡ hash_after initial_hash_256 (padded_message l.message) (length l.message / 64 + l.i)
