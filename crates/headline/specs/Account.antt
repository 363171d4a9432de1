-- What a run that was begun tells: its lines, the answer of each, which of them a legal history has, and the devices that
-- came back. The laws of this crate speak of accounts. What `cache_main` concludes gives one of what the sink took
-- (`RunsAreTold`).
use Rattle.std.specs.Prelude.{◌≡◌, ℕ, ◌+◌, ◌⊎◌, if◌then◌else◌, List, [], ◌∷◌, ◌++◌, length, map, true, Option, Some, ⊤}
use Rattle.std.specs.List.{AllByRecursion}
use Rattle.device_log.specs.Streams.{SourceRead, SinkWrite}
use Rattle.edge_io.specs.Text.{text_read}
use Rattle.logged_disk.specs.Device.{DeviceState as Device, TellsAll}
use Rattle.script_grammar.specs.declared.step.Step.{Step}
use Rattle.script_grammar.specs.declared.line.LineAnswer.{LineAnswer}
use Rattle.script_grammar.specs.declared.line.LineAnswer.TheVariants as line
use Rattle.script_grammar.specs.declared.answer.StepAnswer.{StepAnswer}
use Rattle.script_grammar.specs.Grammar.{reading_of}
use Rattle.script_run.specs.Run.{Harm, Run, fresh, loosened}
use Rattle.script_run.specs.Turn.{Turn}
use Rattle.script_run.specs.Behind.{harms_of, own_harm, with_calls_of}
use Rattle.script_run.specs.Takes.{IsRun, LineShows, run_after}
use Rattle.script_run.specs.Ledger.{IsReached, Ledger}
use Rattle.script_run.specs.Goes.{begins_session}
use Rattle.run_promise.specs.Outline.{all_told, blank_outline}
use Rattle.run_promise.specs.Lines.{AreAnswered, answers_of, outline_of}
use Rattle.run_promise.specs.declared.status.Status.{Status}
use Rattle.run_promise.specs.Story.{Refusals, Taken}
use Rattle.run_promise.specs.Top.{Concludes}

-- ---- the second case

-- The one place where a pair is let pass, which is two different byte strings of one SHA-256: a sentence holds, or a pair
-- is shown.
abbrev pub OrShown : (Holds Shown : Type 0) → Type 0
OrShown Holds Shown = Holds ⊎ Shown

-- ---- logs

-- what a run is known by: the reads of its source, the writes of its sink, the attaches that its bay refused, and what
-- the bay tells of its devices, each before the run and behind it
pub record RunLogs : Type 0 where
  pub first : List SourceRead
  pub read : List SourceRead
  pub old : List SinkWrite
  pub new : List SinkWrite
  pub bay : Refusals
  pub before : Ledger
  pub now : Ledger

-- what `cache_main` concludes of them
abbrev pub IsConcluded : RunLogs → Status → Type 0
IsConcluded l s = Concludes l.first l.read l.old l.new l.bay l.before l.now s

-- ---- devices

-- of each of these devices, in order, so much was told; more may have come back behind them
abbrev pub AreBack : List Harm → List Device → Type 0
AreBack [] devices = ⊤
AreBack (harm ∷ harms) [] = ⊥
AreBack (harm ∷ harms) (device ∷ devices) = IsReached (loosened harm) device × AreBack harms devices

-- devices came back since, and of the first of them so much was told
pub record ComeBackFrom (l : RunLogs) (harms : List Harm) : Type 0 where
  pub devices : List Device
  pub returned : l.now.returned ≡ l.before.returned ++ devices
  pub told : AreBack harms devices

-- what was told of devices, of which the one at hand is doubted: it did not tell its content to the end
abbrev pub doubted_harms : Run → List Harm
doubted_harms run = run.ended ++ map (λ (harm : Harm). record harm { damaged = true }) (own_harm run)

-- each device that came back since told its content to the end
abbrev pub AllTell : RunLogs → Type 0
AllTell l = (devices : List Device) → l.now.returned ≡ l.before.returned ++ devices → AllByRecursion TellsAll devices

-- how many devices a line attaches: a format whose numbers are accepted attaches one
abbrev pub begun_in : LineAnswer → ℕ
begun_in (line.Step step) = if begins_session step then 1 else 0
begun_in line.Nothing = 0
begun_in (line.Bad fault) = 0

-- how many devices these lines attach, by their bytes alone
abbrev pub sessions_begun : List (List ℕ) → ℕ
sessions_begun [] = 0
sessions_begun (bytes ∷ lines) = begun_in (reading_of bytes) + sessions_begun lines

-- of the devices that came back since, the one that was attached as the nth
pub record IsDeviceAt (l : RunLogs) (n : ℕ) (device : Device) : Type 0 where
  pub earlier : List Device
  pub later : List Device
  pub returned : l.now.returned ≡ l.before.returned ++ (earlier ++ device ∷ later)
  pub which : n ≡ length earlier + 1

-- the device of a line behind these: that which they attached last
abbrev pub IsDeviceBehind : RunLogs → List (List ℕ) → Device → Type 0
IsDeviceBehind l lines device = IsDeviceAt l (sessions_begun lines) device

-- the device of which a step behind these lines is answered: an accepted format attaches its own
abbrev pub IsDeviceOf : RunLogs → List (List ℕ) → Step → Device → Type 0
IsDeviceOf l lines asks device = IsDeviceAt l (sessions_begun lines + begun_in (line.Step asks)) device

-- ---- accounts

-- the first of these lines shows a pair, in the run that the lines before them left; the calls of the turn that shows it are
-- in the log of the session's device, which did not tell its content to the end
abbrev pub ShowsNext : RunLogs → Run → List (List ℕ) → Type 0
ShowsNext l run [] = ⊥
ShowsNext l run (bytes ∷ lines) = (turn : Turn) × LineShows run turn bytes × ComeBackFrom l (doubted_harms (with_calls_of run turn))

-- what a run tells
pub record Account (l : RunLogs) : Type 0 where
  -- its reads, the newest first
  pub reads : List SourceRead
  pub since : l.read ≡ reads ++ l.first
  -- the lines that were taken of the text of these reads, and the bytes that are in none
  pub lines : List (List ℕ)
  pub held : List ℕ
  pub taken : Taken (text_read reads) lines held
  -- the answer of each line that is a step
  pub answers : List (Option StepAnswer)
  pub each : AreAnswered blank_outline lines answers
  -- the lines that a legal history has, what each of them did, and what they were answered
  pub told : List (List ℕ)
  pub left : List (List ℕ)
  pub are : lines ≡ told ++ left
  pub turns : List Turn
  pub legal : IsRun fresh told turns
  pub rest : List (Option StepAnswer)
  pub says : answers ≡ answers_of fresh told turns ++ rest
  -- they are all of them, or the next one shows a pair
  pub whole : OrShown (left ≡ []) (ShowsNext l (run_after fresh told turns) left)
  -- what the answers of all lines, and the records of these, tell of the devices that came back
  pub answered : ComeBackFrom l (all_told (outline_of blank_outline lines answers))
  pub recorded : ComeBackFrom l (harms_of (run_after fresh told turns))

-- where each device told its content to the end no line shows a pair: the legal history has all of them
abbrev pub HonestRunsAreWhole : Type 0
HonestRunsAreWhole = (l : RunLogs) → AllTell l → (a : Account l) → a.left ≡ []

-- the device of a line behind these came back, and did not tell its content to the end
pub record IsDoubtedBehind (l : RunLogs) (lines : List (List ℕ)) : Type 0 where
  pub device : Device
  pub behind : IsDeviceBehind l lines device
  pub none_tells : (other : Device) → IsDeviceBehind l lines other → TellsAll other → ⊥

-- where the legal history stops before a line, the device of the session in which that line stands did not tell its content,
-- whatever the others did
abbrev pub PairsAreDoubted : Type 0
PairsAreDoubted = (l : RunLogs) (a : Account l) (bytes : List ℕ) (later : List (List ℕ)) → a.left ≡ bytes ∷ later
    → IsDoubtedBehind l a.told

-- a line behind these asked for this step and was answered so
pub record IsAnsweredBehind (lines : List (List ℕ)) (answers : List (Option StepAnswer)) (before : List (List ℕ))
    (asks : Step) (said : StepAnswer) : Type 0 where
  pub bytes : List ℕ
  pub reading : reading_of bytes ≡ line.Step asks
  pub later : List (List ℕ)
  pub lines_are : lines ≡ before ++ bytes ∷ later
  pub front : List (Option StepAnswer)
  pub rest : List (Option StepAnswer)
  pub answers_are : answers ≡ front ++ Some said ∷ rest
  pub as_many : length front ≡ length before

module _ {l : RunLogs} where
  -- any line of the run
  abbrev pub RunAnswers : Account l → (lines : List (List ℕ)) → Step → StepAnswer → Type 0
  RunAnswers a lines asks said = IsAnsweredBehind a.lines a.answers lines asks said

  -- one of those that the legal history has
  abbrev pub HistoryTells : Account l → (lines : List (List ℕ)) → Step → StepAnswer → Type 0
  HistoryTells a lines asks said = IsAnsweredBehind a.told (answers_of fresh a.told a.turns) lines asks said
