-- What happened between two moments: the calls that the device made, the records that were added, and that each call which
-- has to be told has its record.
use Rattle.std.specs.Prelude.{◌≡◌, false, List, ◌++◌}
use Rattle.device_log.specs.Calls.{Call}
use Rattle.cache_model.specs.declared.record.Rec.{Rec}
use Rattle.cache_model.specs.Kept.{with_records}
use Rattle.cache_model.specs.Given.{denials, effects_in, effects_told}
use Rattle.call_laws.specs.Moments.{At}

-- The device made these calls meanwhile, the newest first, and these records were added. Each call that failed has its fault,
-- in order, and no other fault is there; of a stripe that does not sync each call that was no read has its record.
pub record Happens (old new : At) (calls : List Call) (added : List Rec) : Type 0 where
  pub setting : new.setting ≡ old.setting
  pub past : new.device.past ≡ calls ++ old.device.past
  pub adds : new.kept ≡ with_records old.kept added
  pub faults : denials (effects_told added) ≡ denials (effects_in calls)
  pub effects : old.setting.syncs ≡ false → effects_told added ≡ effects_in calls
