use Rattle.std.proofs.Common.{rules, ◌≡◌, ◌<◌, length, refl}
use Rattle.lock_workers.proofs.Hiring.{all_removed}
use Rattle.lock_workers.proofs.Joining.{gathers_more}
use Rattle.lock_workers.proofs.all.gather.Goals as goal

pub loop-preserved : goal.loop-preserved
loop-preserved g c =
    let i = c.loop.invariant in
    let some : 0 < length c.loop.workers.items = search rules in
    record {
      lock = search rules;
      left = search rules;
      each = rw c.remove-other.ensures.items (all_removed (λ w. w.pass.lock ≡ c.args.lock.now.lock) c.loop.workers.items i.each);
      gathers = λ chronicle own jobs begun.
          rw (c.remove-other.ensures.items, c.either-missed.ensures)
          (gathers_more g.J.Job.number g.J.Job.fits g.T.KeptState c.args.lock.now.lock chronicle own jobs c.loop.pass c.remove-other.result.pass c.join.new.pass c.remove-other.result c.loop.workers.items c.loop.missed
          some c.remove-other.ensures.value refl c.join.ensures (i.gathers chronicle own jobs begun));
    }
