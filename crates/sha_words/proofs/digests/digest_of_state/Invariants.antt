use Rattle.std.proofs.Common.{◌≡◌, ◌*◌, length, take}
use Rattle.sha2.specs.Sha256.{digest_bytes}
use Rattle.sha_words.proofs.digests.digest_of_state.Given as goal

abbrev pub invariant-words : goal.invariant-words
invariant-words l = record {
  size : length l.out ≡ 32;
  words : take (4 * l.i) l.out ≡ digest_bytes l.state l.i;
}
