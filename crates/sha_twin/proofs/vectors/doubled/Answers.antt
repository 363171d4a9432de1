use Rattle.sha_twin.proofs.Lanes.{doubles}
use Rattle.sha_twin.proofs.vectors.doubled.Goals as goal

pub returns : goal.returns
returns c = doubles c.args.x c.fits-x.0
