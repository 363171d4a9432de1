-- What a contract sees of a `DeviceLog`.
use Rattle.std.specs.Prelude.{List}
use Rattle.device_log.specs.Calls.{Call}
use Rattle.device_log.specs.Rows.{calls_of_rows}
use Rattle.device_log.specs.declared.log.DeviceLog.{DeviceLog}

-- the calls, the newest first
abbrev pub calls_of : DeviceLog → List Call
calls_of log = calls_of_rows log.rows.rows
