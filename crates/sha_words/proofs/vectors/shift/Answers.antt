use Rattle.sha_words.proofs.Lanes.{shifts}
use Rattle.sha_words.proofs.vectors.shift.Goals as goal

pub returns : goal.returns
returns c = shifts c.args.by c.args.x c.fits-x.0
