use Rattle.std.proofs.Common.{◌≡◌, take, drop, length}
use Rattle.stripe_lock.specs.History.{first_number}
use Rattle.lock_workers.specs.Jobs.{HasDone}
use Rattle.lock_workers.proofs.worker.do_jobs.Given as goal

abbrev pub invariant-loop-place : goal.invariant-loop-place
invariant-loop-place g l = (l.pass.lock ≡ l.lock.lock) × (l.pass.chronicle ≡ l.fn.pass.chronicle) × (drop l.place l.jobs ≡ drop l.place l.fn.jobs)
    × (length l.jobs ≡ length l.fn.jobs) × HasDone g.J.Job.number g.J.Job.fits (first_number l.fn.pass.owned) (take l.place l.fn.jobs) l.pass
