-- What the program promises of a run: its status, its output and its devices.
use Rattle.std.specs.Prelude.{◌≡◌, ℕ, ◌⊎◌, true, List, [], ◌∷◌, ◌++◌, map, codes, string_bytes, ⊤}
use Rattle.std.specs.declared.string.String.{String}
use Rattle.device_log.specs.Streams.{SourceRead, SinkWrite}
use Rattle.edge_io.specs.Source.{LastReadFailed, NoReadFailed}
use Rattle.logged_disk.specs.Device.{DeviceState as Device, TellsAll}
use Rattle.device_bay.specs.Calls.{AttachRefusal}
use Rattle.script_grammar.specs.declared.last_line.LastLine.{LastLine}
use Rattle.script_grammar.specs.declared.last_line.LastLine.TheVariants as last
use Rattle.script_grammar.specs.Texts.{last_line}
use Rattle.script_run.specs.Ledger.{Ledger, Deals, IsLeftAlone}
use Rattle.run_promise.specs.declared.status.Status.{Status}
use Rattle.run_promise.specs.declared.status.Status.TheVariants as status
use Rattle.run_promise.specs.Story.{Because, IsReadThrough, Refusals, SendsAll, SendsFront, CutsLast, GaveBack, StoryUpTo, DevicesTold, SinkTook, WantsInLine, WantsMemory, all_in, own_loosened}

-- the one word `replay`
abbrev pub IsReplay : {A : Type 0} → List (String A) → Type 0
IsReplay words = map string_bytes words ≡ codes "replay" ∷ []

-- the status of a run that ends early
abbrev pub status_of : LastLine → Status
status_of last.Usage = status.Usage
status_of (last.BadScript line fault) = status.BadScript
status_of last.ReadFault = status.ReadFault
status_of last.BayFault = status.BayFault
status_of (last.LineTooLong line) = status.LineTooLong
status_of last.TooManyLines = status.TooManyLines
status_of (last.NoCache line) = status.NoCache

-- the number with which the program exits
abbrev pub exit_code : Status → ℕ
exit_code status.Done = 0
exit_code status.Usage = 2
exit_code status.BadScript = 3
exit_code status.ReadFault = 4
exit_code status.WriteFault = 5
exit_code status.BayFault = 6
exit_code status.LineTooLong = 7
exit_code status.NoCache = 8
exit_code status.OutOfMemory = 9
exit_code status.TooManyLines = 10

-- The last line went out behind these bytes, or its write failed and a front of it did.
abbrev pub WentOut : (old new : List SinkWrite) → (before text : List ℕ) → Type 0
WentOut old new before text = SinkTook old new (before ++ text) ⊎ SendsFront old new before text

-- the devices that were attached have the names of the lines that asked for them, in order, and as many came back, the
-- n-th with a count that none told in the n-th session exceeds, and with a log that is the calls of the lines of the n-th
-- session, one behind the other, as their turns have them, and no other (it begins with them where no records tell of later
-- lines); where it told its content to the end no piece was told as damaged in that session
abbrev pub EachBack : Ledger → Ledger → DevicesTold → Type 0
EachBack before now t = Deals before now (all_in t) t.names

-- so it is; or the next line works on the session and wanted memory, and may have made calls of the last device; or it is a
-- format that gave back one device more
abbrev pub EachBackOrMore : Ledger → Ledger → (held : List ℕ) → ℕ → DevicesTold → Type 0
EachBackOrMore before now held given t =
    EachBack before now t
    ⊎ WantsInLine held given (EachBack before now (own_loosened t))
    ⊎ GaveBack before now held given t

-- a run that ended early: the answers of the lines before went out, and behind them the last line or a front of it
pub record EndsEarly (first read : List SourceRead) (old new : List SinkWrite) (bay : Refusals) (before now : Ledger) (s : Status) : Type 0 where
  pub why : LastLine
  pub said : s ≡ status_of why
  pub upto : StoryUpTo first read (λ _ all. WentOut old new all (last_line why)) (λ held given. EachBack before now) (λ held given o. Because bay held given o why)

-- What each status says of a run, by the logs of the source and of the sink before it and behind it. Done: the script was
-- read to its end, and the output is the answers of all its lines. Usage: nothing was read, and the last line alone went
-- out. WriteFault: a write failed, and no line was taken behind the one whose answer was cut. OutOfMemory: whole answers
-- went out, of all lines that were taken, or of all but the last, for whose text memory was wanting. The others name the
-- cause that ended the run. All of that stands also where a line showed two documents of one SHA-256 (`ShownAlong`): what
-- is lost then is that the records are legal, that the answers from that line on are theirs, and which calls its device
-- made behind that line (`Recorded`).
abbrev pub Concludes : (first read : List SourceRead) → (old new : List SinkWrite) → (bay : Refusals) → (before now : Ledger) → Status → Type 0
Concludes first read old new bay before now status.Done = StoryUpTo first read (SendsAll old new) (λ held given. EachBack before now) (λ held given o. IsReadThrough read held)
Concludes first read old new bay before now status.Usage = WentOut old new [] (last_line last.Usage) × (read ≡ first) × (now ≡ before)
Concludes first read old new bay before now status.WriteFault = StoryUpTo first read (CutsLast old new) (λ held given. EachBack before now) (λ held given o. ⊤)
Concludes first read old new bay before now status.OutOfMemory = WantsMemory first read old new (EachBack before now) (EachBackOrMore before now)
Concludes first read old new bay before now s = EndsEarly first read old new bay before now s

-- Which reads failed in a run: with ReadFault the last one alone, by the next count; with OutOfMemory no other; else none.
abbrev pub ReadsFailed : (first read : List SourceRead) → Status → Type 0
ReadsFailed first read status.ReadFault = (count : ℕ) × LastReadFailed first read count
ReadsFailed first read status.OutOfMemory = NoReadFailed first read ⊎ ((count : ℕ) × LastReadFailed first read count)
ReadsFailed first read _ = NoReadFailed first read

-- one attach more was refused
abbrev pub RefusedOne : (before now : List AttachRefusal) → Type 0
RefusedOne before now = (refusal : AttachRefusal) × (now ≡ before ++ refusal ∷ [])

-- Which attaches were refused in a run: with BayFault the one that ended it; with OutOfMemory no other; else none.
abbrev pub AttachesRefused : (before now : List AttachRefusal) → Status → Type 0
AttachesRefused before now status.BayFault = RefusedOne before now
AttachesRefused before now status.OutOfMemory = (now ≡ before) ⊎ RefusedOne before now
AttachesRefused before now _ = now ≡ before

-- a device told its content to the end, and refused nothing
pub record IsSteady (device : Device) : Type 0 where
  pub tells : TellsAll device
  pub unfaulted : device.faults ≡ 0

-- so did each of these that has a switch which was told nothing, and of which no bit was turned
abbrev pub AreSteadyBySwitch : List Device → Type 0
AreSteadyBySwitch [] = ⊤
AreSteadyBySwitch (device ∷ devices) = (device.has_switch ≡ true → IsLeftAlone device.past → IsSteady device) × AreSteadyBySwitch devices

-- so did each of those that came back since
pub record ComeBackSteady (old new : List Device) : Type 0 where
  pub devices : List Device
  pub returned : new ≡ old ++ devices
  pub steady : AreSteadyBySwitch devices
