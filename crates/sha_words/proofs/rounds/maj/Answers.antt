use Rattle.sha_words.proofs.Bits.{most}
use Rattle.sha_words.proofs.rounds.maj.Goals as goal

pub returns : goal.returns
returns c = most c.args.x c.args.y c.args.z
