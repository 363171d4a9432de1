-- What a memory device keeps, and what its log says.
use Rattle.std.proofs.Common.{◌≡◌, ℕ, ◌≤◌, Bool, true, false, if◌then◌else◌, List, arith}
use Rattle.device_log.specs.Image.{blank}
use Rattle.device_log.specs.Calls.{Call}
use Rattle.device_log.specs.Seen.{seen_of, kept_of, ReadsAreSeen}
use Rattle.device_log.specs.Cuts.{write_over}
use Rattle.device_log.specs.Faults.{faults_of, obeys_switch}
use Rattle.logged_disk.specs.Blocks.{Written, Pending, AreStored, written_image, synced_image, over_in}
use Rattle.logged_disk.specs.Device.{has_flip}
use Rattle.logged_disk.specs.Honest.{CutsAreHonest}
use Rattle.logged_disk.specs.Switch.{Obeys}
use Rattle.logged_disk.specs.declared.switch.Switch.{Switch}

-- The blocks hold what the log says, the calls fail where it says, its reads gave what was seen, and its cuts left what they may.
pub record IsMemory (written : Written) (pending : Pending) (switch : Switch) (faults : ℕ)
    (past : List Call) : Type 0 where
  pub seen : (j : ℕ) → written_image written j ≡ seen_of blank past j
  pub kept : (j : ℕ) → synced_image written pending j ≡ kept_of blank past j
  pub over : (j : ℕ) → over_in pending j ≡ write_over past j
  pub stored : AreStored written pending
  pub obeyed : Obeys switch past
  pub obeys : obeys_switch past ≡ true
  pub counted : faults ≡ faults_of past
  pub reads : ReadsAreSeen blank past
  pub cuts : CutsAreHonest true blank past

-- the highest trust, until a bit is flipped
unfoldable pub memory_trust : List Call → ℕ
memory_trust past = if has_flip past then 1 else 2

some_of : (flipped : Bool) → 1 ≤ (if flipped then 1 else 2)
some_of true = omega arith
some_of false = omega arith

-- so a read always gives what is seen
pub memory_is_trusted : (past : List Call) → 1 ≤ memory_trust past
unfolding memory_trust
memory_is_trusted past = some_of (has_flip past)
