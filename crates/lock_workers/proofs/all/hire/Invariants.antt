use Rattle.std.proofs.Common.{◌≡◌, ◌+◌, ◌-◌, ◌≤◌, ℕ, List, map, take, drop, vec_len, vec_capacity}
use Rattle.atomic_table.specs.Seated.{TableId}
use Rattle.stripe_lock.specs.Passes.{dealt}
use Rattle.lock_workers.specs.Workers.{AreHired}
use Rattle.lock_workers.proofs.all.hire.Given as goal

abbrev pub invariant-loop : goal.invariant-loop
invariant-loop g l = record {
  jobs : l.jobs.items ≡ drop l.counter l.fn.jobs.items;
  jobs_left : vec_len l.jobs + l.counter ≡ vec_len l.fn.jobs;
  passes_left : vec_len l.passes + l.counter ≡ vec_len l.fn.passes;
  workers : vec_len l.workers ≡ l.counter;
  room : vec_len l.fn.jobs ≤ vec_capacity l.workers;
  hired : (lock : TableId) (chronicle : List _) (floor : ℕ) → l.fn.passes.items ≡ dealt lock chronicle floor 0 (vec_len l.fn.jobs + 1)
      → (l.passes.items ≡ dealt lock chronicle floor l.counter (vec_len l.fn.jobs + 1 - l.counter)) × AreHired lock chronicle 0 l.workers.items (take l.counter (map (λ js. js.items) l.fn.jobs.items));
}
