-- Whether a piece was told as damaged, on a device that tells its content.
use Rattle.std.specs.Prelude.{◌≡◌, false}
use Rattle.logged_disk.specs.Device.{TellsAll, DeviceState as Device}
use Rattle.cache_model.specs.State.{State}
use Rattle.cache_model.specs.Damage.{has_damage}

-- where the device tells its content, no piece was told as damaged
pub record StripeIsUnharmed (device : Device) (s : State) : Type 0 where
  pub unharmed : TellsAll device → has_damage s ≡ false
