-- How far a run has come, and how it may end.
use Rattle.std.specs.Prelude.{◌≡◌, ℕ, ◌+◌, ◌≤◌, ◌⊎◌, List, [], ◌∷◌, ◌++◌, length, map, Option, ⊤}
use Rattle.device_log.specs.Faults.{next_count}
use Rattle.device_log.specs.Streams.{SourceRead, SinkWrite, RefusedWrite, taken_by, refused_writes, write_faults}
use Rattle.edge_io.specs.declared.reader.TheConstants.{MAX_LINES}
use Rattle.edge_io.specs.Source.{IsEnded}
use Rattle.edge_io.specs.Text.{spelled, text_read}
use Rattle.edge_io.specs.Lines.{AreLines, IsTooLong, IsTooMany, GivesLine}
use Rattle.edge_io.specs.LineReader.{IsDecided}
use Rattle.script_grammar.specs.declared.line.BadLine.{BadLine}
use Rattle.script_grammar.specs.declared.line.LineAnswer.TheVariants as line
use Rattle.script_grammar.specs.declared.step.Step.{Step}
use Rattle.script_grammar.specs.declared.last_line.LastLine.{LastLine}
use Rattle.script_grammar.specs.declared.last_line.LastLine.TheVariants as last
use Rattle.script_grammar.specs.declared.answer.StepAnswer.{StepAnswer}
use Rattle.script_grammar.specs.Texts.{answer_line}
use Rattle.script_grammar.specs.Grammar.{reading_of}
use Rattle.script_run.specs.Run.{Harm, Run, fresh, loosened, no_harm}
use Rattle.script_run.specs.Turn.{Turn}
use Rattle.script_run.specs.Behind.{own_harm, with_calls_of}
use Rattle.script_run.specs.Takes.{IsRun, run_after, LineShows}
use Rattle.run_promise.specs.Outline.{Outline, blank_outline, doubted, Lacks, outline_in, told_of}
use Rattle.run_promise.specs.Lines.{AreAnswered, answers_of, outline_of, texts_before, texts_of}
use Rattle.script_run.specs.Ledger.{Ledger, Deals}
use Rattle.device_bay.specs.Calls.{AttachRefusal}
use Rattle.run_promise.specs.Needs.{NeedsSession, AttachesAs, AttachesWith}

-- A text is these lines, no more than may be, each with its newline, and then these bytes.
pub record Taken (text : List ℕ) (lines : List (List ℕ)) (held : List ℕ) : Type 0 where
  pub all : text ≡ spelled lines ++ held
  pub each : AreLines lines
  pub within : length lines ≤ MAX_LINES

-- ---- what was told of devices

-- of those that were given back, of the one at hand, where there is one, and the names of all that were attached
pub record DevicesTold : Type 0 where
  pub ended : List Harm
  pub own : List Harm
  pub names : List (List ℕ)

-- by an outline: of answers alone, counts of faults, and what the records told before it, as they did
abbrev pub told_by : Outline → DevicesTold
told_by o = record { ended = o.ended; own = told_of o.session; names = o.names }

-- by the records: counts of faults, damage, and of each session all calls that its lines made
abbrev pub told_by_records : Run → DevicesTold
told_by_records run = record { ended = run.ended; own = own_harm run; names = run.names }

-- the same, where the session's own device may have made more calls
abbrev pub own_loosened : DevicesTold → DevicesTold
own_loosened t = record { ended = t.ended; own = map loosened t.own; names = t.names }

-- of all devices, once the last one is given back
abbrev pub all_in : DevicesTold → List Harm
all_in t = t.ended ++ t.own

-- ---- lines and answers

-- each line did what it must, these are its answers, and what was told of the devices, and the run behind them, keep this
pub record Recorded (lines : List (List ℕ)) (answers : List (Option StepAnswer)) (Devices : DevicesTold → Type 0) (Known : Run → Type 0) : Type 0 where
  pub turns : List Turn
  pub legal : IsRun fresh lines turns
  pub says : answers ≡ answers_of fresh lines turns
  pub devices : Devices (told_by_records (run_after fresh lines turns))
  pub known : Known (run_after fresh lines turns)

-- from this outline on each step is answered where it can be, and this is what the outline behind the lines keeps
pub record AnsweredFrom (o : Outline) (lines : List (List ℕ)) (answers : List (Option StepAnswer)) (Devices : DevicesTold → Type 0) (Behind : Outline → Type 0) : Type 0 where
  pub each : AreAnswered o lines answers
  pub devices : Devices (told_by (outline_of o lines answers))
  pub behind : Behind (outline_of o lines answers)

-- Or so it was up to some line, which shows two documents of one SHA-256: that as which a piece was placed that the line
-- reads, and other bytes. Both are bytes, and the piece is live, so that numbers above 255, a line without a session, and
-- equal strings show nothing. What the records told of devices up to that line stands, with the calls of the turn that shows the
-- pair, which the session's device made, and with what the answers tell from that line on. That device did not tell its content to
-- the end: what is told of it is doubted.
pub record ShownAlong (lines : List (List ℕ)) (answers : List (Option StepAnswer)) (Devices : DevicesTold → Type 0) (Behind : Outline → Type 0) : Type 0 where
  pub before : List (List ℕ)
  pub bytes : List ℕ
  pub after : List (List ℕ)
  pub is : lines ≡ before ++ bytes ∷ after
  pub earlier : List Turn
  pub legal : IsRun fresh before earlier
  pub rest : List (Option StepAnswer)
  pub says : answers ≡ answers_of fresh before earlier ++ rest
  pub turn : Turn
  pub shows : LineShows (run_after fresh before earlier) turn bytes
  pub outline : AnsweredFrom (doubted (outline_in (with_calls_of (run_after fresh before earlier) turn))) (bytes ∷ after) rest
      Devices Behind

-- Lines were taken from what the source gave since the first of these logs, and these bytes are in no line. Each step
-- among them was answered, and this is what the text of their answers (of all but the last, and of all), what was told of
-- their devices, and the outline behind them keep. Where SHA-256 fails, only the records are lost, and with them which
-- answers follow.
pub record Story (first now : List SourceRead) (held : List ℕ) (given : ℕ) (Text : (before all : List ℕ) → Type 0) (Devices : DevicesTold → Type 0) (Behind : Outline → Type 0) (Known : Run → Type 0) : Type 0 where
  pub reads : List SourceRead
  pub since : now ≡ reads ++ first
  pub lines : List (List ℕ)
  pub answers : List (Option StepAnswer)
  pub taken : Taken (text_read reads) lines held
  pub counted : given ≡ length lines
  pub text : Text (texts_before answers) (texts_of answers)
  pub outline : AnsweredFrom blank_outline lines answers Devices Behind
  pub records : Recorded lines answers Devices Known ⊎ ShownAlong lines answers Devices Behind

-- ---- how a run ends

-- these are the bytes of the next line, which is not too long nor one too many
abbrev pub IsNextLine : ℕ → List ℕ → List ℕ → Type 0
IsNextLine given held bytes = (behind : List ℕ) × GivesLine given held bytes behind

-- the source came to its end, and no byte is in no line
pub record IsReadThrough (now : List SourceRead) (held : List ℕ) : Type 0 where
  pub ended : IsEnded now
  pub none : held ≡ []

-- The bytes in no line decide nothing: each whole line that the source gave is among those that were taken.
pub record HoldsNoLine (given : ℕ) (held : List ℕ) : Type 0 where
  pub undecided : IsDecided given held → ⊥

-- a line is not in the grammar
pub record IsBadLine (given : ℕ) (held : List ℕ) (fault : BadLine) : Type 0 where
  pub bytes : List ℕ
  pub next : IsNextLine given held bytes
  pub bad : reading_of bytes ≡ line.Bad fault

-- a line needs a session or a device, and there is none
pub record LacksCache (o : Outline) (given : ℕ) (held : List ℕ) : Type 0 where
  pub bytes : List ℕ
  pub next : IsNextLine given held bytes
  pub step : Step
  pub asks : reading_of bytes ≡ line.Step step
  pub needs : NeedsSession step
  pub lacks : Lacks o step

-- the next line is a format whose attach was refused, as the bay's log has it, and no other was
pub record MeetsBayFault (given : ℕ) (held : List ℕ) (before now : List AttachRefusal) : Type 0 where
  pub bytes : List ℕ
  pub next : IsNextLine given held bytes
  pub step : Step
  pub asks : reading_of bytes ≡ line.Step step
  pub refusal : AttachRefusal
  pub attaches : AttachesWith refusal.name refusal.blocks step
  pub refused : now ≡ before ++ refusal ∷ []

-- the attaches that a bay refused, before and now
pub record Refusals : Type 0 where
  pub before : List AttachRefusal
  pub now : List AttachRefusal

-- the two lists, the earlier one first
abbrev pub refusals_around : List AttachRefusal → List AttachRefusal → Refusals
refusals_around before now = record { before = before; now = now }

-- why a run ends with this last line, behind so many lines
abbrev pub Because : (bay : Refusals) → (held : List ℕ) → ℕ → Outline → LastLine → Type 0
Because bay held given o last.Usage = ⊥
Because bay held given o (last.BadScript number fault) = (number ≡ given + 1) × IsBadLine given held fault
Because bay held given o last.ReadFault = HoldsNoLine given held
Because bay held given o last.BayFault = MeetsBayFault given held bay.before bay.now
Because bay held given o (last.LineTooLong number) = (number ≡ given + 1) × IsTooLong given held
Because bay held given o last.TooManyLines = IsTooMany given held
Because bay held given o (last.NoCache number) = (number ≡ given + 1) × LacksCache o given held

-- the sink took these bytes, and no write failed
pub record SinkTook (old new : List SinkWrite) (bytes : List ℕ) : Type 0 where
  pub taken : taken_by new ≡ taken_by old ++ bytes
  pub unfailed : refused_writes new ≡ refused_writes old

-- the answers of all lines went out
abbrev pub SendsAll : (old new : List SinkWrite) → (before all : List ℕ) → Type 0
SendsAll old new before all = SinkTook old new all

-- those of all lines but the last did
abbrev pub SendsBefore : (old new : List SinkWrite) → (before all : List ℕ) → Type 0
SendsBefore old new before all = SinkTook old new before

-- These bytes went out, and behind them a front of a text: the write of the text failed, the last one and no other, and
-- it has the next count.
pub record SendsFront (old new : List SinkWrite) (before text : List ℕ) : Type 0 where
  pub front : List ℕ
  pub rest : List ℕ
  pub split : text ≡ front ++ rest
  pub older : List SinkWrite
  pub sent : SinkTook old older before
  pub failed : new ≡ RefusedWrite front (next_count (write_faults old)) ∷ older

-- the answers of all lines but the last went out, and behind them a front of that of the last
pub record CutsLast (old new : List SinkWrite) (before all : List ℕ) : Type 0 where
  pub said : StepAnswer
  pub split : all ≡ before ++ answer_line said
  pub cut : SendsFront old new before (answer_line said)

-- a story up to some line, and what stands at that line
pub record StoryUpTo (first now : List SourceRead) (Text : (before all : List ℕ) → Type 0) (Devices : (held : List ℕ) → ℕ → DevicesTold → Type 0) (Here : (held : List ℕ) → ℕ → Outline → Type 0) : Type 0 where
  pub held : List ℕ
  pub given : ℕ
  pub story : Story first now held given Text (Devices held given) (Here held given) (λ run. ⊤)

-- memory was wanting for the next line, and the answers of all lines before it went out; or it was for the text of the
-- last answer, which alone is left out
abbrev pub WantsMemory : (first now : List SourceRead) (taken_old taken_new : List SinkWrite) (Devices : DevicesTold → Type 0) (Wanting : (held : List ℕ) → ℕ → DevicesTold → Type 0) → Type 0
WantsMemory first now old new Devices Wanting =
    StoryUpTo first now (SendsAll old new) Wanting (λ held given o. ⊤)
    ⊎ StoryUpTo first now (SendsBefore old new) (λ held given. Devices) (λ held given o. ⊤)

-- ---- between two lines

-- The run goes on: it attached the devices of its lines, those that it ended came back, and the session is as its outline
-- has it, and as the run.
abbrev pub GoesOn : (first : List SourceRead) → (taken_first : List SinkWrite) → Ledger → (now : List SourceRead) → (held : List ℕ) → ℕ → (taken : List SinkWrite) → Ledger → (Outline → Type 0) → (Run → Type 0) → Type 0
GoesOn first taken_first ledger_first now held given taken ledger Outlined Plays =
    Story first now held given (SendsAll taken_first taken) (λ t. Deals ledger_first ledger t.ended t.names) Outlined Plays

-- what a session owes once the run has ended: its devices were attached, those that it ended came back, and its own has
-- counted as far as was told, and its log is the calls that were told, or begins with them where not all were
pub record Owes (ledger_first ledger : Ledger) (Reached : List Harm → Type 0) (t : DevicesTold) : Type 0 where
  pub deals : Deals ledger_first ledger t.ended t.names
  pub reached : Reached t.own

-- the format of the next line wanted memory: it attached a device of its name, and gave it back behind that of the session
pub record GaveBack (ledger_first ledger : Ledger) (held : List ℕ) (given : ℕ) (t : DevicesTold) : Type 0 where
  pub bytes : List ℕ
  pub next : IsNextLine given held bytes
  pub step : Step
  pub asks : reading_of bytes ≡ line.Step step
  pub name : List ℕ
  pub attaches : AttachesAs name step
  pub deals : Deals ledger_first ledger (all_in t ++ no_harm ∷ []) (t.names ++ name ∷ [])

-- memory was wanting in the next line, which works on the session, and this stands of the devices
pub record WantsInLine (held : List ℕ) (given : ℕ) (Devices : Type 0) : Type 0 where
  pub bytes : List ℕ
  pub next : IsNextLine given held bytes
  pub step : Step
  pub asks : reading_of bytes ≡ line.Step step
  pub needs : NeedsSession step
  pub devices : Devices

-- What is owed where memory was wanting, by a session that has so many devices: where a line on it wanted memory, its own
-- may have made calls meanwhile.
abbrev pub OwesOrGave : (ledger_first ledger : Ledger) → ℕ → (List Harm → Type 0) → (held : List ℕ) → ℕ → DevicesTold → Type 0
OwesOrGave ledger_first ledger devices Reached held given t =
    Owes ledger_first ledger Reached t
    ⊎ WantsInLine held given (Owes ledger_first ledger Reached (own_loosened t))
    ⊎ ((devices ≡ 0) × GaveBack ledger_first ledger held given t)
