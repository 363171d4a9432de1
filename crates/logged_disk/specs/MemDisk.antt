-- What a contract sees of a `MemDisk`.
use Rattle.std.specs.Prelude.{true}
use Rattle.device_log.specs.Image.{blank}
use Rattle.device_log.specs.DeviceLog.{calls_of}
use Rattle.logged_disk.specs.Device.{DeviceState}
use Rattle.logged_disk.specs.Memory.{memory_trust}
use Rattle.logged_disk.specs.declared.mem_disk.MemDisk.{MemDisk}

-- the device at this moment
abbrev pub mem_state : MemDisk → DeviceState
mem_state disk = record {
  size = disk.size;
  trust = memory_trust (calls_of disk.log);
  number = disk.number;
  has_switch = true;
  settled = true;
  first = blank;
  past = calls_of disk.log;
  faults = disk.faults;
  calls = disk.calls;
  blocks = disk.blocks;
}
