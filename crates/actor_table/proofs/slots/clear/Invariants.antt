use Rattle.std.proofs.Common.{◌≡◌, ℕ, ◌<◌, None}
use Rattle.actor_table.specs.Table.{slot_at}
use Rattle.actor_table.proofs.slots.clear.Given as goal

abbrev pub invariant-loop-slot : goal.invariant-loop-slot
invariant-loop-slot g l = (place : ℕ) → place < l.slot-index → slot_at l.slots place ≡ None
