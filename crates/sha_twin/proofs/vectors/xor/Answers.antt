use Rattle.sha_twin.proofs.Lanes.{xors}
use Rattle.sha_twin.proofs.vectors.xor.Goals as goal

pub returns : goal.returns
returns c = xors c.args.a c.args.b c.fits-a.0 c.fits-b.0
