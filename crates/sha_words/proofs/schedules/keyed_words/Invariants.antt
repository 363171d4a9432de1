use Rattle.std.proofs.Common.{◌+◌, ◌*◌}
use Rattle.sha2.specs.Sha256.{schedule}
use Rattle.sha_words.proofs.schedules.keyed_words.Given as goal
use Rattle.sha_words.specs.Words.{AreSixteenFrom, IsKeyedBelow}

abbrev pub invariant-turns : goal.invariant-turns
invariant-turns l = record {
  words : AreSixteenFrom l.w0 l.w1 l.w2 l.w3 (schedule l.block 48) (16 * l.turn);
  keyed : IsKeyedBelow (16 * l.turn + 16) l.keyed (schedule l.block 48);
}
