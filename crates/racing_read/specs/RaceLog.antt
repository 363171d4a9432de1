-- What a contract sees of a `RaceLog`.
use Rattle.std.specs.Prelude.{List}
use Rattle.racing_read.specs.RaceCalls.{RaceCall, race_calls_of_rows}
use Rattle.racing_read.specs.declared.log.RaceLog.{RaceLog}

-- the calls, the newest first
abbrev pub race_calls : RaceLog → List RaceCall
race_calls log = race_calls_of_rows log.rows.rows
