use Rattle.std.proofs.Common.{refl}
use Rattle.logged_disk.proofs.GoingOn.{stays_put}
use Rattle.cyclone.proofs.cyclone.Cyclone.format.Goals as goal

pub returns-in-Err-clause-back : goal.returns-in-Err-clause-back
returns-in-Err-clause-back g c = record { unlaid = refl; goes = stays_put _ }
