use Rattle.std.proofs.Common.{◌≡◌, ℕ, suc, ◌+◌, ◌≤◌, [], vec_len, vec_capacity}
use Rattle.stripe_lock.specs.Passes.{dealt}
use Rattle.stripe_lock.proofs.Dealing.{dealer}
use Rattle.stripe_lock.proofs.lock.Gate.deal.Given as goal

abbrev pub invariant-loop-number : goal.invariant-loop-number
invariant-loop-number g l = let first = l.fn.seat.me.0 in
    (l.seat.table_id ≡ l.self.table.shared.table_id) × ((n : ℕ) × (l.number + suc n ≡ l.self.seats) × (l.seat.me ≡ (dealer first.sight.chronicle first.sight.floor l.number (suc n), [])))
    × (l.passes.items ≡ dealt l.self.table.shared.table_id first.sight.chronicle first.sight.floor 0 l.number) × (vec_len l.passes ≡ l.number) × (l.self.seats ≤ vec_capacity l.passes)
