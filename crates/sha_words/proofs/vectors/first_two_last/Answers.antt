use Rattle.sha_words.proofs.Lanes.{picks_first_two}
use Rattle.sha_words.proofs.vectors.first_two_last.Goals as goal

pub returns : goal.returns
returns c = picks_first_two c.args.x c.fits-x.0
