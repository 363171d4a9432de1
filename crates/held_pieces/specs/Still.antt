-- A device that was not asked, or that shows what it showed.
use Rattle.std.specs.Prelude.{◌≡◌}
use Rattle.logged_disk.specs.Device.{DeviceState as Device, IsAfter, SeenStays}

-- the device made no call
pub record IsStill (old new : Device) : Type 0 where
  pub goes : IsAfter old new
  pub past : new.past ≡ old.past
  pub seen : SeenStays old new
  pub faults : new.faults ≡ old.faults

-- the device shows what it showed; its count of faults may have risen
pub record IsUnwritten (old new : Device) : Type 0 where
  pub goes : IsAfter old new
  pub seen : SeenStays old new
