-- What the status of `work` says.
use Rattle.std.specs.Prelude.{◌≡◌, ℕ, ◌+◌, false, ◌≤◌, ◌⊎◌, List, ◌∷◌, ◌++◌, length, None, Some, ⊤}
use Rattle.device_log.specs.Streams.{SourceRead, SinkWrite}
use Rattle.edge_io.specs.declared.reader.TheConstants.{MAX_LINES}
use Rattle.edge_io.specs.Lines.{AreLines}
use Rattle.edge_io.specs.Text.{spelled}
use Rattle.script_grammar.specs.declared.last_line.LastLine.{LastLine}
use Rattle.script_grammar.specs.declared.last_line.LastLine.TheVariants as last
use Rattle.script_grammar.specs.Texts.{last_line}
use Rattle.script_run.specs.Run.{Run}
use Rattle.script_run.specs.Ledger.{Ledger}
use Rattle.run_promise.specs.declared.status.Status.{Status}
use Rattle.run_promise.specs.declared.status.Status.TheVariants as status
use Rattle.run_promise.specs.Outline.{Outline}
use Rattle.run_promise.specs.Story.{CutsLast, GoesOn, IsReadThrough, Refusals, SendsAll, SendsFront, SinkTook, Story, StoryUpTo, WantsMemory, own_loosened}
use Rattle.run_promise.specs.Top.{EachBack, EachBackOrMore, WentOut, status_of}
use Rattle.job_lines.specs.Lanes.{AreJobLines, AreLanes, Lane, first_job}
use Rattle.job_lines.specs.Reading.{JobsBecause}
use Rattle.work_script.specs.Before.{BeforeBecause, reading_before}
use Rattle.work_script.specs.Turns.{WorkTurn, turn_text, turn_texts}
use Rattle.work_script.specs.Jobs.{AnswersOn, AreJobsOf, RunsOn}

-- The next line is `split`, and so many lines behind it are jobs of so many workers. This holds of these, of the bytes that are
-- in no line, and of how many lines there are with them.
pub record HasJobs (workers given : ℕ) (held : List ℕ) (Here : List (List ℕ) → List ℕ → ℕ → Type 0) : Type 0 where
  pub bytes : List ℕ
  pub splits : reading_before bytes ≡ None
  pub lines : List (List ℕ)
  pub unread : List ℕ
  pub all : held ≡ spelled (bytes ∷ lines) ++ unread
  pub each : AreLines (bytes ∷ lines)
  pub within : given + 1 + length lines ≤ MAX_LINES
  pub jobs : AreJobLines workers lines
  pub here : Here lines unread (given + 1 + length lines)

-- all lines were read, and there is a job, but no cache
pub record LacksCacheForJobs (workers given : ℕ) (read : List SourceRead) (o : Outline) (lines : List (List ℕ)) (unread : List ℕ) (number : ℕ) : Type 0 where
  pub through : IsReadThrough read unread
  pub first : first_job workers (given + 1) lines ≡ Some number
  pub none : o.stands ≡ false

-- why a run ends behind its line `split` with this last line
abbrev pub BehindBecause : (workers given : ℕ) → (read : List SourceRead) → Outline → LastLine → (lines : List (List ℕ)) → (unread : List ℕ) → ℕ → Type 0
BehindBecause workers given read o (last.NoCache number) lines unread count = LacksCacheForJobs workers given read o lines unread number
BehindBecause workers given read o why lines unread count = JobsBecause workers unread count why

-- why a run of `work` ends with this last line
abbrev pub WorkBecause : (workers : ℕ) → (bay : Refusals) → (read : List SourceRead) → (held : List ℕ) → ℕ → Outline → LastLine → Type 0
WorkBecause workers bay read held given o why =
    BeforeBecause bay held given o why ⊎ HasJobs workers given held (BehindBecause workers given read o why)

-- All lines were read, and workers did these jobs.
abbrev pub AreDone : (workers given : ℕ) → (held : List ℕ) → (read : List SourceRead) → List WorkTurn → Type 0
AreDone workers given held read turns = HasJobs workers given held (λ lines unread count. IsReadThrough read unread × AreJobsOf workers lines turns)

-- The lines before `split` were answered as in a run of `replay`, and the turns of the jobs behind it, in their order, are lines
-- behind them. What went out is as this says.
pub record Works (workers : ℕ) (first read : List SourceRead) (before now : Ledger) (Text : List WorkTurn → List ℕ → Type 0) : Type 0 where
  pub held : List ℕ
  pub given : ℕ
  pub turns : List WorkTurn
  pub done : AreDone workers given held read turns
  pub story : Story first read held given (λ _ all. Text turns all) (λ t. ⊤)
      (λ o. AnswersOn o turns (EachBack before now)) (λ run. RunsOn run turns (EachBack before now))

-- The run has come to the end of its script: the lines before `split` went on as in a run of `replay`, and those behind it ask for
-- these jobs.
pub record ComesToJobs (workers : ℕ) (first : List SourceRead) (taken_first : List SinkWrite) (ledger_first : Ledger) (read : List SourceRead) (taken : List SinkWrite) (ledger : Ledger) (Outlined : Outline → Type 0) (Plays : Run → Type 0) (lanes : List Lane) : Type 0 where
  pub held : List ℕ
  pub given : ℕ
  pub goes : GoesOn first taken_first ledger_first read held given taken ledger Outlined Plays
  pub jobs : HasJobs workers given held (λ lines unread count. IsReadThrough read unread × AreLanes workers 1 lines lanes)

-- all turns went out behind the answers of the lines before
abbrev pub SendsTurns : (old new : List SinkWrite) → List WorkTurn → List ℕ → Type 0
SendsTurns old new turns all = SinkTook old new (all ++ turn_texts 1 turns)

-- those before this one did, and a front of it
pub record CutsTurn (old new : List SinkWrite) (turns : List WorkTurn) (all : List ℕ) : Type 0 where
  pub earlier : List WorkTurn
  pub turn : WorkTurn
  pub later : List WorkTurn
  pub is : turns ≡ earlier ++ turn ∷ later
  pub cut : SendsFront old new (all ++ turn_texts 1 earlier) (turn_text (length earlier + 1) turn)

-- some of them did, and memory was wanting for the next
pub record SendsSome (old new : List SinkWrite) (turns : List WorkTurn) (all : List ℕ) : Type 0 where
  pub earlier : List WorkTurn
  pub turn : WorkTurn
  pub later : List WorkTurn
  pub is : turns ≡ earlier ++ turn ∷ later
  pub sent : SinkTook old new (all ++ turn_texts 1 earlier)

-- all lines were read, memory was wanting for a job, and none went out; the device of the session may have made calls
abbrev pub WantsInTurns : (workers : ℕ) → (first read : List SourceRead) → (old new : List SinkWrite) → (before now : Ledger) → Type 0
WantsInTurns workers first read old new before now =
    StoryUpTo first read (SendsAll old new) (λ held given t. EachBack before now (own_loosened t)) (λ held given o. HasJobs workers given held (λ lines unread count. IsReadThrough read unread))

-- a run that ended early: the answers of the lines before went out, and behind them the last line or a front of it
pub record WorkEndsEarly (workers : ℕ) (first read : List SourceRead) (old new : List SinkWrite) (bay : Refusals) (before now : Ledger) (s : Status) : Type 0 where
  pub why : LastLine
  pub said : s ≡ status_of why
  pub upto : StoryUpTo first read (λ _ all. WentOut old new all (last_line why)) (λ held given. EachBack before now) (λ held given o. WorkBecause workers bay read held given o why)

-- What each status of `work` says, by the logs of the source and of the sink. Done: the script was read to its end; without a
-- line `split` it was run as `replay` does, and else the turns of its jobs are lines behind those before it, whose answers went
-- out in their order. The others are as of `replay` (`Concludes`), for lines before the jobs, for the reading of these, and for
-- what is printed of them.
abbrev pub ConcludesWork : (workers : ℕ) → (first read : List SourceRead) → (old new : List SinkWrite) → (bay : Refusals) → (before now : Ledger) → Status → Type 0
ConcludesWork workers first read old new bay before now status.Done =
    StoryUpTo first read (SendsAll old new) (λ held given. EachBack before now) (λ held given o. IsReadThrough read held)
    ⊎ Works workers first read before now (SendsTurns old new)
ConcludesWork workers first read old new bay before now status.Usage = ⊥
ConcludesWork workers first read old new bay before now status.WriteFault =
    StoryUpTo first read (CutsLast old new) (λ held given. EachBack before now) (λ held given o. ⊤)
    ⊎ Works workers first read before now (CutsTurn old new)
ConcludesWork workers first read old new bay before now status.OutOfMemory =
    WantsMemory first read old new (EachBack before now) (EachBackOrMore before now)
    ⊎ WantsInTurns workers first read old new before now
    ⊎ Works workers first read before now (SendsSome old new)
ConcludesWork workers first read old new bay before now s = WorkEndsEarly workers first read old new bay before now s
