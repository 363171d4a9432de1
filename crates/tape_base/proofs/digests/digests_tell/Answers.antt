use Rattle.tape_base.proofs.DigestLaw.{digests_tell_lem}
use Rattle.tape_base.proofs.digests.digests_tell.Goals as goal

pub returns : goal.returns
returns c = digests_tell_lem
