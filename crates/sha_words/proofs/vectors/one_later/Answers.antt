use Rattle.sha_words.proofs.Lanes.{picks_one_later}
use Rattle.sha_words.proofs.vectors.one_later.Goals as goal

pub returns : goal.returns
returns c = picks_one_later c.args.a c.fits-a.0 c.args.b c.fits-b.0
