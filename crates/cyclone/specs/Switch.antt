-- What the switch of a cyclone's device is told.
use Rattle.std.specs.Prelude.{◌≤◌, IsTrue}
use Rattle.device_log.specs.Calls.{Call}
use Rattle.logged_disk.specs.Device.{Adds, Keeps}
use Rattle.cyclone.specs.Cyclone.{SameTape, Seen}

-- the device has a switch, and room for a call of one block
pub record HasSwitch (c : Seen) : Type 0 where
  pub has : IsTrue c.device.has_switch
  pub calls : 1 ≤ c.device.calls
  pub blocks : 1 ≤ c.device.blocks

-- the device made this call, and nothing else changed
pub record IsSwitched (call : Call) (old new : Seen) : Type 0 where
  pub same : SameTape old new
  pub keeps : Keeps 1 1 old.device new.device
  pub adds : Adds call old.device new.device
