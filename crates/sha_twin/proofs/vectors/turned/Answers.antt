use Rattle.sha_twin.proofs.Turns.{turns}
use Rattle.sha_twin.proofs.vectors.turned.Goals as goal

pub returns : goal.returns
returns c = turns c.args.by c.requires.above c.requires.below c.args.doubled c.fits-doubled.0
