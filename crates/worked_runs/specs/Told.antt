-- What the run of the script is known by, and its account: the source gave the text in one read, the sink took an answer in
-- each write, and the one device came back as it was given.
use Rattle.std.specs.Prelude.{◌≡◌, true, List, [], ◌∷◌, codes}
use Rattle.device_log.specs.Image.{blank}
use Rattle.device_log.specs.Streams.{SourceRead, GaveBytes, CameToEnd, SinkWrite, TookBytes}
use Rattle.tape_base.specs.Place.{device_blocks_of}
use Rattle.edge_io.specs.Text.{spelled}
use Rattle.logged_disk.specs.Device.{DeviceState as Device}
use Rattle.run_promise.specs.declared.status.Status.TheVariants as status
use Rattle.headline.specs.Account.{Account, IsConcluded, RunLogs}
use Rattle.headline.specs.Endings.{IsAccountOf}
use Rattle.worked_runs.specs.Script.{calls_of_format, script_geometry, script_lines, script_turns}
use Rattle.worked_runs.specs.History.{script_answers}

-- a device in memory of 83 blocks, which made the calls of the format alone
abbrev pub script_device : Device
script_device = record {
  size = device_blocks_of script_geometry;
  trust = 2;
  number = 0;
  has_switch = true;
  settled = true;
  first = blank;
  past = calls_of_format;
  faults = 0;
  calls = 0;
  blocks = 0;
}

-- the text of the script, and then its end
abbrev pub script_reads : List SourceRead
script_reads = CameToEnd ∷ GaveBytes (spelled script_lines) ∷ []

-- the answers, the last one first
abbrev pub script_writes : List SinkWrite
script_writes =
    TookBytes (codes "miss removed\n")
    ∷ TookBytes (codes "removed 1\n")
    ∷ TookBytes (codes "got 1 length 1 61\n")
    ∷ TookBytes (codes "end 1\n")
    ∷ TookBytes (codes "piece 1 1 61\n")
    ∷ TookBytes (codes "hit 1 length 1\n")
    ∷ TookBytes (codes "put 1 length 1 fragments 1\n")
    ∷ TookBytes (codes "miss never-put\n")
    ∷ TookBytes (codes "formatted serial 1 cursor 64 floor 8\n")
    ∷ []

-- nothing was read, written or attached before
abbrev pub script_logs : RunLogs
script_logs = record {
  first = [];
  read = script_reads;
  old = [];
  new = script_writes;
  bay = record { before = []; now = [] };
  before = record { names = []; returned = [] };
  now = record { names = codes "mem:a" ∷ []; returned = script_device ∷ [] };
}

-- its lines are those of the script, with their answers, and its legal history has them all, with the turns that were worked
-- by hand
pub record TellsScript (a : Account script_logs) : Type 0 where
  pub lines_are : a.lines ≡ script_lines
  pub answers_are : a.answers ≡ script_answers
  pub told_are : a.told ≡ script_lines
  pub turns_are : a.turns ≡ script_turns

-- the run has such an account, which is tied to it with the status Done
abbrev pub TheScriptHasAnAccount : Type 0
TheScriptHasAnAccount = (a : Account script_logs) × TellsScript a × IsAccountOf script_logs status.Done a

-- what `cache_main` concludes with the status Done holds of it
abbrev pub TheScriptIsConcluded : Type 0
TheScriptIsConcluded = IsConcluded script_logs status.Done
