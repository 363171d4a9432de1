use Rattle.std.proofs.Common.{refl}
use Rattle.cyclone.proofs.Turning.{made_turns}
use Rattle.cyclone.proofs.cyclone.Cyclone.of_parts.Goals as goal

pub returns-in-Ok-clause-ok : goal.returns-in-Ok-clause-ok
returns-in-Ok-clause-ok g c =
    made_turns c.args.g c.args.cursor c.args.least (g.R.Directory.rows c.args.directory) (g.D.Disk.state c.args.disk) _
    (record { geometry = refl; least = refl; buffer = c.in-Ok.ensures; stored = refl; rows = refl; device = refl })
    c.requires.begins c.requires.window c.requires.sized c.rows_fit.ensures.ended
