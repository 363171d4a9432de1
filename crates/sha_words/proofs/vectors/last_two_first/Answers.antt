use Rattle.sha_words.proofs.Lanes.{picks_last_two}
use Rattle.sha_words.proofs.vectors.last_two_first.Goals as goal

pub returns : goal.returns
returns c = picks_last_two c.args.x c.fits-x.0
