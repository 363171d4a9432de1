-- Completeness: how a run ends, by the text that the source gave and the calls that were refused; and what ties an account
-- to its run.
use Rattle.std.specs.Prelude.{◌≡◌, ◌≢◌, ℕ, ◌+◌, ◌<◌, ◌≤◌, ◌⊎◌, false, List, [], ◌∷◌, ◌++◌, length, Option, ⊤}
use Rattle.logged_disk.specs.Device.{DeviceState as Device}
use Rattle.device_log.specs.Faults.{next_count}
use Rattle.device_log.specs.Streams.{SourceRead, SinkWrite, RefusedWrite, refused_writes, write_faults}
use Rattle.edge_io.specs.declared.reader.TheConstants.{MAX_LINE_BYTES, MAX_LINES}
use Rattle.edge_io.specs.Source.{IsEnded, LastReadFailed, NoReadFailed}
use Rattle.edge_io.specs.Text.{spelled, text_read}
use Rattle.edge_io.specs.Lines.{AreLines, IsLine, IsTooLong, IsTooMany, first_line}
use Rattle.script_grammar.specs.declared.line.BadLine.{BadLine}
use Rattle.script_grammar.specs.declared.line.LineAnswer.{LineAnswer}
use Rattle.script_grammar.specs.declared.line.LineAnswer.TheVariants as line
use Rattle.device_log.specs.declared.choice.CutChoice.{CutChoice}
use Rattle.script_grammar.specs.declared.step.Step.{Step}
use Rattle.script_grammar.specs.declared.step.Step.TheVariants as step
use Rattle.script_grammar.specs.declared.last_line.LastLine.{LastLine}
use Rattle.script_grammar.specs.declared.answer.StepAnswer.{StepAnswer}
use Rattle.script_grammar.specs.Texts.{last_line}
use Rattle.script_grammar.specs.Grammar.{reading_of}
use Rattle.script_run.specs.Run.{fresh}
use Rattle.script_run.specs.Switch.{is_of_device}
use Rattle.line_laws.specs.Along.{AreOfSession}
use Rattle.script_run.specs.Takes.{run_after}
use Rattle.run_promise.specs.Outline.{blank_outline}
use Rattle.run_promise.specs.Lines.{outline_of, texts_before, texts_of}
use Rattle.run_promise.specs.Needs.{NeedsSession}
use Rattle.run_promise.specs.declared.status.Status.{Status}
use Rattle.run_promise.specs.declared.status.Status.TheVariants as status
use Rattle.run_promise.specs.Story.{Because, CutsLast, HoldsNoLine, IsBadLine, IsNextLine, MeetsBayFault, SendsAll, SendsBefore}
use Rattle.run_promise.specs.Story.{Taken, DevicesTold, told_by, told_by_records}
use Rattle.run_promise.specs.Top.{EachBack, EachBackOrMore, ReadsFailed, WentOut, status_of}
use Rattle.headline.specs.Account.{Account, IsConcluded, IsDeviceBehind, RunLogs, begun_in, sessions_begun}

-- ---- lines that may be taken

-- the line is in the grammar, and where it needs a session a format was accepted
abbrev pub MayBeTaken : (sessions : ℕ) → LineAnswer → Type 0
MayBeTaken sessions (line.Step step) = NeedsSession step → 0 < sessions
MayBeTaken sessions line.Nothing = ⊤
MayBeTaken sessions (line.Bad fault) = ⊥

-- so it is of each of these, where so many formats were accepted before them
abbrev pub AreTakeable : (sessions : ℕ) → List (List ℕ) → Type 0
AreTakeable sessions [] = ⊤
AreTakeable sessions (bytes ∷ lines) =
    MayBeTaken sessions (reading_of bytes) × AreTakeable (sessions + begun_in (reading_of bytes)) lines

-- behind these lines the text goes on with what may be taken: the next line is not too long, nor one too many, and where
-- it is whole it is in the grammar and has its session
pub record GoesOnWith (lines : List (List ℕ)) (behind : List ℕ) : Type 0 where
  pub short : length (first_line behind) ≤ MAX_LINE_BYTES
  pub few : MAX_LINES ≤ length lines → behind ≡ []
  pub next : (bytes more : List ℕ) → IsLine bytes → behind ≡ bytes ++ 10 ∷ more → MayBeTaken (sessions_begun lines) (reading_of bytes)

-- behind each front of it that is lines which may be taken, the text goes on so
abbrev pub IsFine : (text : List ℕ) → Type 0
IsFine text = (lines : List (List ℕ)) (behind : List ℕ)
    → text ≡ spelled lines ++ behind → AreLines lines → AreTakeable 0 lines → GoesOnWith lines behind

-- ---- laws

-- the device that these lines attached last refused a call
pub record FormatFailed (l : RunLogs) (lines : List (List ℕ)) : Type 0 where
  pub device : Device
  pub behind : IsDeviceBehind l lines device
  pub faulted : 0 < device.faults

-- a run ended for want of a session behind a format that failed
pub record LostItsFormat (l : RunLogs) (s : Status) : Type 0 where
  pub is : s ≡ status.NoCache
  pub lines : List (List ℕ)
  pub failed : FormatFailed l lines

-- one of these lines cuts the power of its device, and no line behind it begins a session
pub record CutSince (lines : List (List ℕ)) : Type 0 where
  pub before : List (List ℕ)
  pub bytes : List ℕ
  pub later : List (List ℕ)
  pub are : lines ≡ before ++ bytes ∷ later
  pub choice : CutChoice
  pub cuts : reading_of bytes ≡ line.Step (step.Cut choice)
  pub same_session : AreOfSession later

-- a run ended for want of a session behind a cut, in one of the lines that it took
pub record LostItsPower (l : RunLogs) (s : Status) : Type 0 where
  pub is : s ≡ status.NoCache
  pub reads : List SourceRead
  pub since : l.read ≡ reads ++ l.first
  pub lines : List (List ℕ)
  pub held : List ℕ
  pub taken : Taken (text_read reads) lines held
  pub cut : CutSince lines

-- The status is Done where the words were the command, memory was not wanting, no read, no write and no attach was refused,
-- and the text that was read is fine; or a device refused a call of its format, or a line cut its power.
abbrev pub DoneWhereFine : Type 0
DoneWhereFine = (l : RunLogs) (s : Status) → IsConcluded l s → ReadsFailed l.first l.read s → s ≢ status.Usage → s ≢ status.OutOfMemory
    → NoReadFailed l.first l.read → refused_writes l.new ≡ refused_writes l.old → l.bay.now ≡ l.bay.before
    → ((reads : List SourceRead) → l.read ≡ reads ++ l.first → IsFine (text_read reads)) → (s ≡ status.Done) ⊎ LostItsFormat l s ⊎ LostItsPower l s

-- the next line needs a session, and none was begun, or the last format failed; or it works on a session, and a line cut the
-- power of its device
pub record HasNoSession (l : RunLogs) (lines : List (List ℕ)) (held : List ℕ) : Type 0 where
  pub bytes : List ℕ
  pub next : IsNextLine (length lines) held bytes
  pub step : Step
  pub asks : reading_of bytes ≡ line.Step step
  pub needs : NeedsSession step
  pub none : (sessions_begun lines ≡ 0) ⊎ FormatFailed l lines ⊎ ((is_of_device step ≡ false) × CutSince lines)

-- the last write failed, by the next count, and no other one of the run did
pub record LastWriteFailed (old new : List SinkWrite) : Type 0 where
  pub older : List SinkWrite
  pub front : List ℕ
  pub is : new ≡ RefusedWrite front (next_count (write_faults old)) ∷ older
  pub others : refused_writes older ≡ refused_writes old

-- What ends a run behind these lines, where these bytes of the text are in none.
abbrev pub EndsHere : (l : RunLogs) (lines : List (List ℕ)) (held : List ℕ) → Status → Type 0
EndsHere l lines held status.Done = IsEnded l.read × (held ≡ [])
EndsHere l lines held status.Usage = ⊥
EndsHere l lines held status.BadScript = (fault : BadLine) × IsBadLine (length lines) held fault
EndsHere l lines held status.ReadFault = HoldsNoLine (length lines) held × ((count : ℕ) × LastReadFailed l.first l.read count)
EndsHere l lines held status.WriteFault = LastWriteFailed l.old l.new
EndsHere l lines held status.BayFault = MeetsBayFault (length lines) held l.bay.before l.bay.now
EndsHere l lines held status.LineTooLong = IsTooLong (length lines) held
EndsHere l lines held status.NoCache = HasNoSession l lines held
EndsHere l lines held status.OutOfMemory = ⊤
EndsHere l lines held status.TooManyLines = IsTooMany (length lines) held

-- the lines that were taken, none of which had a cause to end the run, and what ended it behind them
pub record EndsFirst (l : RunLogs) (s : Status) : Type 0 where
  pub reads : List SourceRead
  pub since : l.read ≡ reads ++ l.first
  pub lines : List (List ℕ)
  pub held : List ℕ
  pub taken : Taken (text_read reads) lines held
  pub takeable : AreTakeable 0 lines
  pub ends : EndsHere l lines held s

-- each status of a run that was begun has its cause, at the first line that has one
abbrev pub EndsAreCaused : Type 0
EndsAreCaused = (l : RunLogs) (s : Status) → IsConcluded l s → ReadsFailed l.first l.read s → s ≢ status.Usage → EndsFirst l s

-- ---- the account of a run

-- the status is that of a last line, whose cause stands behind these lines; it went out behind the answers, or a front of it
pub record EndsWithStatus (l : RunLogs) (s : Status) (lines : List (List ℕ)) (held : List ℕ) (answers : List (Option StepAnswer)) : Type 0 where
  pub why : LastLine
  pub is : s ≡ status_of why
  pub because : Because l.bay held (length lines) (outline_of blank_outline lines answers) why
  pub out : WentOut l.old l.new (texts_of answers) (last_line why)

-- what the sink took is the text of these answers, as far as the status says
abbrev pub WentOutBy : (l : RunLogs) → Status → (lines : List (List ℕ)) → (held : List ℕ) → (answers : List (Option StepAnswer)) → Type 0
WentOutBy l status.Done lines held answers = SendsAll l.old l.new (texts_before answers) (texts_of answers)
WentOutBy l status.Usage lines held answers = ⊥
WentOutBy l status.WriteFault lines held answers = CutsLast l.old l.new (texts_before answers) (texts_of answers)
WentOutBy l status.OutOfMemory lines held answers =
    SendsAll l.old l.new (texts_before answers) (texts_of answers) ⊎ SendsBefore l.old l.new (texts_before answers) (texts_of answers)
WentOutBy l s lines held answers = EndsWithStatus l s lines held answers

-- the devices that were attached came back, as was told of them, and no other; where memory was wanting, the line behind
-- these may have made more calls, or given back one device more
abbrev pub CameBackBy : (l : RunLogs) → Status → (lines : List (List ℕ)) → (held : List ℕ) → DevicesTold → Type 0
CameBackBy l status.OutOfMemory lines held t = EachBackOrMore l.before l.now held (length lines) t
CameBackBy l s lines held t = EachBack l.before l.now t

-- what ties an account to a run with this status
pub record IsAccountOf (l : RunLogs) (s : Status) (a : Account l) : Type 0 where
  -- its answers went out, and its lines are all that were taken: none of them had a cause to end the run, and this one did
  pub sent : WentOutBy l s a.lines a.held a.answers
  pub takeable : AreTakeable 0 a.lines
  pub ends : EndsHere l a.lines a.held s
  -- all devices came back, by the answers; where the legal history has all lines, its calls are all that they made
  pub back : CameBackBy l s a.lines a.held (told_by (outline_of blank_outline a.lines a.answers))
  pub alone : a.left ≡ [] → CameBackBy l s a.lines a.held (told_by_records (run_after fresh a.told a.turns))

-- whatever ends a run that was begun, what is concluded of it gives its account
abbrev pub RunsAreTold : Type 0
RunsAreTold = (l : RunLogs) (s : Status) → IsConcluded l s → ReadsFailed l.first l.read s → s ≢ status.Usage
    → (a : Account l) × IsAccountOf l s a
