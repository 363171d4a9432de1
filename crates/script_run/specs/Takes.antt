-- What a line may do: all that it must, and no more.
use Rattle.std.specs.Prelude.{ℕ, ◌≡◌, ◌<◌, ◌+◌, ◌*◌, ◌⊎◌, ⊤, false, true, if◌then◌else◌, List, [], ◌∷◌, ◌++◌, Option, Some, None, length}
use Rattle.tape_base.specs.declared.geometries.Geometry.{Geometry}
use Rattle.tape_base.specs.declared.geometries.BadGeometry.{BadGeometry}
use Rattle.tape_base.specs.Geometry.{HasNumbers}
use Rattle.tape_base.specs.Limits.{first_refusal}
use Rattle.tape_base.specs.Place.{directory_blocks_of}
use Rattle.device_log.specs.declared.choice.CutChoice.{CutChoice}
use Rattle.device_log.specs.Calls.{Call}
use Rattle.device_log.specs.Along.{Stopped, Went}
use Rattle.stripe_copies.specs.Format.{format_calls}
use Rattle.cache_model.specs.declared.answer.ReadAnswer.{ReadAnswer}
use Rattle.cache_model.specs.declared.answer.ReadAnswer.TheVariants as read
use Rattle.cache_model.specs.declared.record.Rec.{Rec}
use Rattle.cache_model.specs.declared.record.Rec.TheVariants as rec
use Rattle.cache_model.specs.Permit.{Faulted, Reason}
use Rattle.step_laws.specs.StepLaws.{IsRefusalCount}
use Rattle.cache_model.specs.State.{State, ReaderRow, reader_of}
use Rattle.cache_model.specs.Legal.{IsStep, format_records}
use Rattle.cache_model.specs.Pair.{ShowsPair}
use Rattle.cache_answers.specs.declared.answers.SwitchOrder.TheVariants as order
use Rattle.script_grammar.specs.declared.step.Step.{Step}
use Rattle.script_grammar.specs.declared.step.Step.TheVariants as step
use Rattle.script_grammar.specs.declared.line.LineAnswer.{LineAnswer}
use Rattle.script_grammar.specs.declared.line.LineAnswer.TheVariants as line
use Rattle.script_grammar.specs.Grammar.{reading_of}
use Rattle.script_grammar.specs.Texts.{answer_line}
use Rattle.script_run.specs.Run.{Run, Stream, put_written_by, reader_by, with_value}
use Rattle.script_run.specs.Asked.{asked}
use Rattle.script_run.specs.Ledger.{IsLeftAlone}
use Rattle.script_run.specs.Turn.{Turn, lookup_in, no_turn, told_in}
use Rattle.script_run.specs.Switch.{CutsNothing, CutsPower, OnlyTells, TreatsSwitch, order_of_step}
use Rattle.script_run.specs.Answers.{step_answer}
use Rattle.script_run.specs.Behind.{Streams, after_line, of_put, with_bytes}
use Rattle.script_run.specs.Own.{IsPlacedAs, piece_of}

-- ---- the bytes that are given

-- a fragment is that of what the writer of the reader's put took
abbrev pub IsPiece : Run → State → ℕ → List ℕ → Option Rec → Type 0
IsPiece run s reader given (Some (rec.Gave number index size)) =
    (r : ReaderRow) × (reader_of s reader ≡ Some r) × (given ≡ piece_of s.geometry.fragment (run.streams r.put).bytes index)
IsPiece run s reader given _ = given ≡ []

-- an actor without a reader is given nothing
abbrev pub IsNextPiece : Run → State → Turn → Option ℕ → Type 0
IsNextPiece run s turn None = turn.given ≡ []
IsNextPiece run s turn (Some reader) = IsPiece run s reader turn.given (told_in turn.added)

-- a whole body is all that the writer of the put took that was hit
abbrev pub IsBody : Run → List ℕ → Option Rec → Option ReadAnswer → Type 0
IsBody run given (Some (rec.Ended reader size)) (Some (read.Hit put)) = given ≡ (run.streams put).bytes
IsBody run given _ _ = given ≡ []

-- a `get` gives a whole body and a `next` a fragment; no other line gives bytes
abbrev pub GivesOwn : Run → State → Turn → Step → Type 0
GivesOwn run s turn (step.Get key request) = IsBody run turn.given (told_in turn.added) (lookup_in turn.added)
GivesOwn run s turn (step.Next actor) = IsNextPiece run s turn (reader_by run actor)
GivesOwn run s turn _ = turn.given ≡ []

-- ---- lines

-- the device refused a call of the turn, and its count then stood here
abbrev pub RefusesCall : Turn → ℕ → Type 0
RefusesCall turn count = IsRefusalCount turn.device count × (0 < count)

-- the bytes have the blocks of a copy of the directory: its header, its segments and its footer
abbrev pub HasBlocksOfCopy : Geometry → List ℕ → Type 0
HasBlocksOfCopy g body = length body ≡ 512 * (directory_blocks_of g + 2)

-- a device that made no call before made those of a format, in order, and refused none
abbrev pub LaysOut : Geometry → List Call → Type 0
LaysOut g made = (body : List ℕ) × HasBlocksOfCopy g body × Went (format_calls g body) [] made

-- or it refused one of them with this count, and made no later one
abbrev pub StopsFormat : Geometry → ℕ → List Call → Type 0
StopsFormat g count made = (body : List ℕ) × HasBlocksOfCopy g body × Stopped (format_calls g body) count [] made

-- the records of a session begin with the geometry of its line; of a device that refuses a call of the format that alone is
-- recorded; and the turn has no call but those of the format
abbrev pub FormatsOn : Turn → Geometry → Option Reason → Type 0
FormatsOn turn g None = (turn.added ≡ format_records g) × LaysOut g turn.device.events
FormatsOn turn g (Some (Faulted count)) = (turn.added ≡ rec.Fault count ∷ []) × (0 < count) × StopsFormat g count turn.device.events
FormatsOn turn g (Some _) = ⊥

-- an accepted format is tried on its device, and a refused one does nothing; neither tells a switch anything
abbrev pub FormatTakes : Turn → ℕ → ℕ → ℕ → ℕ → ℕ → ℕ → ℕ → ℕ → Option BadGeometry → Type 0
FormatTakes turn segments buckets content agg reach fragment generation alternates (Some bad) = (turn.added ≡ []) × (turn.told ≡ [])
FormatTakes turn segments buckets content agg reach fragment generation alternates None =
    (g : Geometry) × HasNumbers g segments buckets content agg reach fragment generation alternates
    × FormatsOn turn g turn.refused × (turn.told ≡ [])

-- A line on a session whose device had made these calls is one step of its records behind them, with a directory that
-- displaces and a stripe that does not sync, in which pins are weighed by the moment of the run; the bytes that it gives are
-- those that were put; and the switch of the device is told what the line says.
pub record TakesBehind (calls : List Call) (run : Run) (s : State) (turn : Turn) (step : Step) : Type 0 where
  pub packs : turn.device.packed ≡ true
  pub unsynced : turn.device.syncs ≡ false
  pub moment : turn.device.now ≡ run.now
  pub past : turn.device.past ≡ calls
  pub legal : IsStep turn.device s (asked run s step) turn.added turn.refused
  pub own : GivesOwn run s turn step
  pub switch : TreatsSwitch s.geometry (order_of_step step) turn

-- these are the calls of the run
abbrev pub SessionTakes : Run → State → Turn → Step → Type 0
SessionTakes run = TakesBehind run.calls run

-- a cut of a device that has no switch does nothing, and the session goes on; else it ends
abbrev pub CutTakes : Run → State → Turn → CutChoice → Type 0
CutTakes run s turn choice = (SessionTakes run s turn (step.Cut choice) × CutsNothing turn) ⊎ CutsPower choice turn

-- where a cut left a device, by what its session stood for
abbrev pub IfBare : Option State → (State → Type 0) → Type 0
IfBare None takes = ⊥
IfBare (Some t) takes = takes t

-- what is for the switch alone goes to a bare device too
abbrev pub BareTakes : Turn → Option State → Step → Type 0
BareTakes turn last (step.Fail nth) = IfBare last (λ t. OnlyTells turn × TreatsSwitch t.geometry (Some (order.Fail nth)) turn)
BareTakes turn last (step.StopAfter calls) = IfBare last (λ t. OnlyTells turn × TreatsSwitch t.geometry (Some (order.StopAfter calls)) turn)
BareTakes turn last (step.Cut choice) = IfBare last (λ t. CutsPower choice turn ⊎ CutsNothing turn)
BareTakes turn last step = ⊥

-- a format and a moment need no session; all other steps work on one, or on a bare device
abbrev pub Takes : Run → Turn → Option State → Step → Type 0
Takes run turn state (step.Format name segments buckets content agg reach fragment generation alternates) =
    FormatTakes turn segments buckets content agg reach fragment generation alternates (first_refusal segments buckets content agg reach fragment alternates)
Takes run turn state (step.Now moment) = turn ≡ no_turn
Takes run turn (Some s) (step.Cut choice) = CutTakes run s turn choice
Takes run turn (Some s) step = SessionTakes run s turn step
Takes run turn None step = BareTakes turn run.last step

-- a step does all that it must, and no more
abbrev pub StepTakes : Run → Turn → Step → Type 0
StepTakes run turn step = Takes run turn run.state step

-- what is passed over does nothing; no run goes on behind a line that is not in the grammar
abbrev pub ReadingTakes : Run → Turn → LineAnswer → Type 0
ReadingTakes run turn (line.Step s) = StepTakes run turn s
ReadingTakes run turn line.Nothing = turn ≡ no_turn
ReadingTakes run turn (line.Bad fault) = ⊥

-- the same of the bytes of a line
abbrev pub LineTakes : Run → Turn → List ℕ → Type 0
LineTakes run turn bytes = ReadingTakes run turn (reading_of bytes)

-- a step is answered with one line, and nothing else is answered
abbrev pub reading_text : Run → Turn → LineAnswer → List ℕ
reading_text run turn (line.Step s) = answer_line (step_answer run turn s)
reading_text run turn line.Nothing = []
reading_text run turn (line.Bad fault) = []

-- what a line of a script prints, the newline included
abbrev pub line_text : Run → Turn → List ℕ → List ℕ
line_text run turn bytes = reading_text run turn (reading_of bytes)

-- ---- where SHA-256 fails

-- a writer with all of these bytes
abbrev pub offered : Stream → List ℕ → Stream
offered stream body = record { bytes = stream.bytes ++ body; sealed = stream.sealed }

-- a sealed writer takes none
abbrev pub streams_offered : Run → List ℕ → ℕ → Streams
streams_offered run body put =
    if (run.streams put).sealed then run.streams
    else with_value run.streams put (offered (run.streams put) body)

-- what writers have once all is taken that a line gives: what is cut in the line lies within that, and
-- what was cut before it is the same in it
abbrev pub streams_with : Run → State → Step → Streams
streams_with run s (step.Put key body request response) = with_bytes run.streams s.next_put body
streams_with run s (step.Feed actor body) = of_put run (put_written_by run actor) (streams_offered run body)
streams_with run s _ = run.streams

-- some way into the turn of a step on a session two documents of one SHA-256 are shown for a piece that the step
-- reads there: the one as which it was placed, and other bytes, which the device gave in that turn. The line told the switch
-- of the device what it is to, and nothing else was told, cut or turned.
pub record ShowsBehind (calls : List Call) (run : Run) (s : State) (turn : Turn) (step : Step) : Type 0 where
  pub packs : turn.device.packed ≡ true
  pub unsynced : turn.device.syncs ≡ false
  pub moment : turn.device.now ≡ run.now
  pub past : turn.device.past ≡ calls
  pub alone : IsLeftAlone turn.device.events
  pub switch : TreatsSwitch s.geometry (order_of_step step) turn
  pub shows : ShowsPair (IsPlacedAs (streams_with run s step)) turn.device s (asked run s step) turn.added

abbrev pub SessionShows : Run → State → Turn → Step → Type 0
SessionShows run = ShowsBehind run.calls run

-- without a session there is no piece that could be
abbrev pub StepShows : Run → Turn → Option State → Step → Type 0
StepShows run turn None step = ⊥
StepShows run turn (Some s) step = SessionShows run s turn step

-- only a line that is a step can show a pair
abbrev pub ReadingShows : Run → Turn → LineAnswer → Type 0
ReadingShows run turn (line.Step s) = StepShows run turn run.state s
ReadingShows run turn line.Nothing = ⊥
ReadingShows run turn (line.Bad fault) = ⊥

-- the same of the bytes of a line
abbrev pub LineShows : Run → Turn → List ℕ → Type 0
LineShows run turn bytes = ReadingShows run turn (reading_of bytes)

-- ---- a whole script

-- each line did what it must, in the run that the lines before it left
abbrev pub IsRun : Run → List (List ℕ) → List Turn → Type 0
IsRun run [] [] = ⊤
IsRun run [] (turn ∷ turns) = ⊥
IsRun run (bytes ∷ lines) [] = ⊥
IsRun run (bytes ∷ lines) (turn ∷ turns) = LineTakes run turn bytes × IsRun (after_line run turn bytes) lines turns

-- the run behind these lines
abbrev pub run_after : Run → List (List ℕ) → List Turn → Run
run_after run [] turns = run
run_after run (bytes ∷ lines) [] = run
run_after run (bytes ∷ lines) (turn ∷ turns) = run_after (after_line run turn bytes) lines turns

-- their answers
abbrev pub output_of : Run → List (List ℕ) → List Turn → List ℕ
output_of run [] turns = []
output_of run (bytes ∷ lines) [] = []
output_of run (bytes ∷ lines) (turn ∷ turns) = line_text run turn bytes ++ output_of (after_line run turn bytes) lines turns
