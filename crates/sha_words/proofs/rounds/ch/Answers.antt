use Rattle.std.proofs.Common.{arith}
use Rattle.sha_words.proofs.Bits.{chosen}
use Rattle.sha_words.proofs.rounds.ch.Goals as goal

pub returns : goal.returns
returns c = chosen c.args.x c.args.y c.args.z (omega arith) (omega arith) (omega arith)
