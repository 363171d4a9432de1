use Rattle.std.proofs.Common.{arith}
use Rattle.std.proofs.lemmas.Grind.{common_steps}
use Rattle.dir_sync.proofs.Others.{comes_back}
use Rattle.dir_sync.proofs.run.SyncRun.begin.Goals as goal

pub returns-in-Err-clause-back : goal.returns-in-Err-clause-back
returns-in-Err-clause-back g c =
    comes_back c.args.area.now c.args.state c.args.body.items _ c.requires.whole
    (grind (arith, common_steps)) (grind (arith, common_steps))
