use Rattle.device_log.specs.Image.{blank}
use Rattle.device_log.specs.DeviceLog.{calls_of}
use Rattle.logged_disk.specs.FileTrust.{none_is_honest}
use Rattle.top_trials.proofs.tests.FaultyPowerDisk.cut.Goals as goal

pub returns-clause-leaves : goal.returns-clause-leaves
returns-clause-leaves c = none_is_honest blank (calls_of c.cut_in_memory.new.self) _
