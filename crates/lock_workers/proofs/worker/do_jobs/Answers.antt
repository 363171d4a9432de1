use Rattle.std.proofs.Common.{rules, ◌<◌, length}
use Rattle.stripe_lock.specs.History.{first_number}
use Rattle.lock_workers.proofs.Fronts.{left_same, job_more, front_short}
use Rattle.lock_workers.proofs.worker.do_jobs.Goals as goal

pub returns-in-Err-clause-done : goal.returns-in-Err-clause-done
returns-in-Err-clause-done g c =
    front_short g.T.KeptState g.J.Job.number g.J.Job.fits (first_number c.args.pass.now.owned) c.args.jobs.now c.loop-place.pass c.with.new.pass c.loop-place.place c.loop-place.invariant.4 c.in-Err.ensures.short

pub loop-place-preserved : goal.loop-place-preserved
loop-place-preserved g c =
    let i = c.loop-place.invariant in
    let within : c.loop-place.place < length c.args.jobs.now = search rules in (
      search rules,
      search rules,
      left_same c.loop-place.place c.loop-place.jobs c.args.jobs.now c.with.new.job i.2,
      search rules,
      job_more g.T.KeptState g.J.Job.number g.J.Job.fits (first_number c.args.pass.now.owned) c.args.jobs.now c.loop-place.pass c.with.new.pass c.loop-place.place c.loop-place.jobs _ c.with.new.job _ _ within i.2 (search rules) i.4 c.in-Ok.ensures.turned,
    )
