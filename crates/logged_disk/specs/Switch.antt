-- What a `Switch` makes of a device's calls.
use Rattle.std.specs.Prelude.{◌≡◌, ℕ, ◌+◌, Bool, ◌||◌, if◌then◌else◌, List}
use Rattle.device_log.specs.Calls.{Call}
use Rattle.device_log.specs.Faults.{is_fail_due, is_stopped, next_count}
use Rattle.logged_disk.specs.Counting.{is_among, counted_down, is_past, one_less}
use Rattle.logged_disk.specs.declared.switch.Switch.{Switch}

-- The switch makes those calls fail that the log says.
pub record Obeys (switch : Switch) (past : List Call) : Type 0 where
  pub due : (made : ℕ) → is_among switch.armed.items (made + 1) ≡ is_fail_due made past
  pub stopped : (made : ℕ) → is_past switch.stop made ≡ is_stopped made past

-- The switch counted one call, which fails or not, and so did the count of faults.
pub record CountsCall (old : Switch) (before : ℕ) (new : Switch) (after : ℕ) (fails : Bool)
    : Type 0 where
  pub decided : fails ≡ (is_among old.armed.items 1 || is_past old.stop 0)
  pub armed : new.armed.items ≡ counted_down old.armed.items
  pub stop : new.stop ≡ one_less old.stop
  pub counted : after ≡ (if fails then next_count before else before)
