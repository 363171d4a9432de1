use Rattle.std.proofs.Common.{◌≡◌, ℕ, ◌<◌, ◌*◌}
use Rattle.sha2.specs.Sha256.{rounds, schedule}
use Rattle.sha_twin.specs.Lanes.{state_of_lane}
use Rattle.sha_twin.proofs.rounds.compress_both.Given as goal

abbrev pub invariant-turns : goal.invariant-turns
invariant-turns l = (j : ℕ) → j < 2 → state_of_lane j l.v ≡ rounds (state_of_lane j l.states) (schedule l.block 48) (4 * l.turn)
