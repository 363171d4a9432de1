use Rattle.sha_twin.proofs.Lanes.{ands}
use Rattle.sha_twin.proofs.vectors.and.Goals as goal

pub returns : goal.returns
returns c = ands c.args.a c.args.b c.fits-a.0 c.fits-b.0
