use Rattle.sha_words.proofs.Lanes.{rotates}
use Rattle.sha_words.proofs.vectors.rotate.Goals as goal

pub returns : goal.returns
returns c = rotates c.args.by c.requires.above c.requires.below c.args.x c.fits-x.0
