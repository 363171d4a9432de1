use Rattle.std.proofs.Common.{◌≡◌, ◌+◌, false, ℕ, List, All, vec_len}
use Rattle.lock_workers.specs.Workers.{Gathers}
use Rattle.lock_workers.proofs.all.gather.Given as goal

abbrev pub invariant-loop : goal.invariant-loop
invariant-loop g l = record {
  lock : l.pass.lock ≡ l.lock.lock;
  left : vec_len l.workers + l.counter ≡ vec_len l.fn.workers;
  each : All (λ w. w.pass.lock ≡ l.lock.lock) l.workers.items;
  gathers : (chronicle : List _) (own : ℕ) (jobs : List (List _)) → Gathers g.J.Job.number g.J.Job.fits l.lock.lock chronicle own jobs l.fn.pass l.fn.workers.items false
      → Gathers g.J.Job.number g.J.Job.fits l.lock.lock chronicle own jobs l.pass l.workers.items l.missed;
}
