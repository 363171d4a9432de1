use Rattle.std.proofs.Common.{◌≡◌, ◌≤◌, ◌-◌, ◌∷◌, [], map, vec_len, vec_capacity}
use Rattle.stripe_lock.specs.History.{first_number}
use Rattle.lock_trials.specs.Standing.{TurnsStandFrom}
use Rattle.lock_trials.proofs.ticking.tick_all.Given as goal

abbrev pub invariant-loop-job : goal.invariant-loop-job
invariant-loop-job g l = let n = first_number l.fn.pass.owned in (l.pass.lock ≡ l.lock.lock) × (vec_len l.numbers ≡ l.job) × (l.ticks ≤ vec_capacity l.numbers)
    × TurnsStandFrom l.pass.seen n 0 l.numbers.items × (l.pass.owned ≡ record { number = n; places = map (λ m. m - 1) l.numbers.items } ∷ [])
