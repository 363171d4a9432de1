-- What a line answers, by what it did.
use Rattle.std.specs.Prelude.{ℕ, ◌-◌, if◌then◌else◌, List, [], ◌∷◌, length, Option, Some, None, option_and_then, option_map, unwrap_or}
use Rattle.tape_base.specs.declared.keys.Key.{Key}
use Rattle.tape_base.specs.declared.geometries.BadGeometry.{BadGeometry}
use Rattle.tape_base.specs.declared.geometries.BadGeometry.TheVariants.{Segments, Buckets, Agg, Content, Reach, Fragment, Alternates}
use Rattle.tape_base.specs.Limits.{first_refusal}
use Rattle.tape_base.specs.Place.{floor_of}
use Rattle.fragment_table.specs.Table.{total_length}
use Rattle.device_log.specs.Calls.{Call}
use Rattle.cache_model.specs.declared.cause.Cause.{Cause}
use Rattle.cache_model.specs.declared.cause.Cause.TheVariants as cause
use Rattle.cache_model.specs.declared.answer.ReadAnswer.{ReadAnswer}
use Rattle.cache_model.specs.declared.answer.ReadAnswer.TheVariants as read
use Rattle.cache_model.specs.declared.record.Rec.{Rec}
use Rattle.cache_model.specs.declared.record.Rec.TheVariants as rec
use Rattle.cache_model.specs.State.{State, PutRow, ReaderRow, after_all, floor_now, fragment_piece, put_of, reader_of}
use Rattle.cache_model.specs.Verdict.{cause_of_miss, cause_of_piece, cuts_of}
use Rattle.cache_model.specs.Permit.{Reason, ManyWriters, Exhausted, ManyFragments, TooLarge, Lost, Faulted, SyncRuns, NoSync, StillOpen, StillMoving}
use Rattle.script_grammar.specs.declared.step.Step.{Step}
use Rattle.script_grammar.specs.declared.step.Step.TheVariants as step
use Rattle.script_grammar.specs.declared.answer.Refused.TheVariants as refused
use Rattle.script_grammar.specs.declared.answer.StepAnswer.{StepAnswer}
use Rattle.script_grammar.specs.declared.answer.StepAnswer.TheVariants as answer
use Rattle.script_run.specs.Run.{Run, Holding, held_by, put_written_by, reader_by}
use Rattle.script_run.specs.Turn.{Turn, lookup_in, told_in}

-- ---- a format

-- the numbers of a geometry, in the order in which they are tested
abbrev pub number_of_bad : BadGeometry → ℕ
number_of_bad Segments = 1
number_of_bad Buckets = 2
number_of_bad Agg = 3
number_of_bad Content = 4
number_of_bad Reach = 5
number_of_bad Fragment = 6
number_of_bad Alternates = 7

-- the cursor behind a format: N, the content blocks of the geometry, where the first lap begins
abbrev pub first_cursor : List Rec → ℕ
first_cursor (rec.Formatted g ∷ more) = g.content
first_cursor _ = 0

-- the floor behind a format: A, the blocks of a buffer, below all places of the session
abbrev pub first_floor : List Rec → ℕ
first_floor (rec.Formatted g ∷ more) = floor_of g g.content
first_floor _ = 0

-- the serial of a session is 1; a device that refused a call has none
abbrev pub tried_said : List Rec → Option Reason → StepAnswer
tried_said added None = answer.Formatted 1 (first_cursor added) (first_floor added)
tried_said added (Some (Faulted count)) = answer.DeviceFault count None
tried_said added (Some _) = answer.Done

-- the first number outside refuses the geometry
abbrev pub format_said : Turn → Option BadGeometry → StepAnswer
format_said turn (Some bad) = answer.Refused (refused.Geometry (number_of_bad bad)) None
format_said turn None = tried_said turn.added turn.refused

-- ---- refusals

-- the cause of a fragment's loss, by what the records stand for then
abbrev pub cause_of_lost : State → ℕ → ℕ → Cause
cause_of_lost t put index = unwrap_or (option_map (λ (w : PutRow). cause_of_piece t (fragment_piece w.key put index)) (put_of t put)) cause.NeverPut

-- a refusal, with how many bytes were taken where that is told
abbrev pub refusal_said : State → Option ℕ → Reason → StepAnswer
refusal_said t took ManyWriters = answer.Refused refused.TooManyWriters took
refusal_said t took Exhausted = answer.Refused refused.Exhausted took
refusal_said t took (ManyFragments put) = answer.Refused refused.TooManyFragments took
refusal_said t took (TooLarge put bytes) = answer.Refused (refused.VectorTooLarge bytes) took
refusal_said t took (Lost put index) = answer.Refused (refused.Lost index (cause_of_lost t put index)) took
refusal_said t took (Faulted count) = answer.DeviceFault count took
refusal_said t took (SyncRuns serial) = answer.Refused (refused.SyncRunning serial) took
refusal_said t took NoSync = answer.Refused refused.NoSync took
refusal_said t took (StillOpen writers readers) = answer.Refused (refused.StillOpen writers readers) took
refusal_said t took (StillMoving blocks) = answer.Refused (refused.StillMoving blocks) took

-- done, or refused
abbrev pub said : State → Option ℕ → Option Reason → StepAnswer → StepAnswer
said t took None whole = whole
said t took (Some why) whole = refusal_said t took why

-- an actor opens that has a writer or a reader
abbrev pub busy : StepAnswer
busy = answer.Refused refused.Busy None

-- the actor lacks the writer or the reader that its line needs
abbrev pub idle : StepAnswer
idle = answer.Refused refused.Idle None

-- only an actor that has nothing may open; any other is busy
abbrev pub if_free : Option Holding → StepAnswer → StepAnswer
if_free None free = free
if_free (Some holding) free = busy

-- by the put or the reader of the actor; one that lacks it is idle
abbrev pub if_has : Option ℕ → (ℕ → StepAnswer) → StepAnswer
if_has None has = idle
if_has (Some n) has = has n

-- ---- writers

-- a put that is complete
abbrev pub put_said : State → ℕ → StepAnswer
put_said t put = answer.Put put (total_length (cuts_of t put)) (length (cuts_of t put))

-- how many bytes of a line a writer took that was refused: those of the fragments that were cut
abbrev pub took_of : Run → State → ℕ → ℕ
took_of run t put = total_length (cuts_of t put) - length (run.streams put).bytes

-- a sealed writer is refused also where the line has no bytes; else all were taken, or what a refusal left
abbrev pub feed_said : Run → State → List ℕ → Option Reason → ℕ → StepAnswer
feed_said run t body why put =
    if (run.streams put).sealed then answer.Refused refused.Sealed (Some 0)
    else said t (Some (took_of run t put)) why (answer.Took (length body))

-- ---- readers

-- a device's fault is an answer of its own, and no miss
abbrev pub miss_said : Cause → StepAnswer
miss_said (cause.DeviceFault count) = answer.DeviceFault count None
miss_said why = answer.Miss why

-- a device's fault breaks no reader: the piece may be read later
abbrev pub broken_said : Cause → StepAnswer
broken_said (cause.DeviceFault count) = answer.DeviceFault count None
broken_said why = answer.Broken why

-- the length of the body that a reader hit
abbrev pub hit_length : State → ℕ → ℕ
hit_length t reader = total_length (unwrap_or (option_and_then (λ (r : ReaderRow). r.table) (reader_of t reader)) [])

-- of a lookup; each one is answered
abbrev pub lookup_said : State → ℕ → Option ReadAnswer → StepAnswer
lookup_said t reader (Some (read.Hit put)) = answer.Hit put (hit_length t reader)
lookup_said t reader (Some (read.Follow put)) = answer.Follow put
lookup_said t reader (Some (read.Miss why)) = miss_said why
lookup_said t reader None = answer.Done

-- of a reader that reads on; each one is told something
abbrev pub next_said : List ℕ → Option Rec → StepAnswer
next_said given (Some (rec.Gave reader index size)) = answer.Piece index (length given) given
next_said given (Some (rec.Ended reader size)) = answer.End size
next_said given (Some (rec.Waited reader cut)) = answer.NotYet cut
next_said given (Some (rec.Broke reader why)) = broken_said why
next_said given _ = answer.Done

-- of a put that is read to its end
abbrev pub end_said : ℕ → List ℕ → Option Rec → StepAnswer
end_said put given (Some (rec.Ended reader size)) = answer.Got put size given
end_said put given (Some (rec.Broke reader why)) = broken_said why
end_said put given _ = answer.Done

-- of a whole read: what was hit to its end, the put that would have to be followed, or the miss
abbrev pub get_said : List ℕ → Option Rec → Option ReadAnswer → StepAnswer
get_said given told (Some (read.Hit put)) = end_said put given told
get_said given told (Some (read.Follow put)) = answer.Follow put
get_said given told (Some (read.Miss why)) = miss_said why
get_said given told None = answer.Done

-- ---- other lines

-- what was live was removed
abbrev pub remove_said : State → Key → List Rec → StepAnswer
remove_said s key (rec.Removed put k ∷ recs) = answer.Removed put
remove_said s key _ = answer.Absent (cause_of_miss s key)

-- the blocks that were filled before it, and cursor and floor behind it; no sync is told
abbrev pub flush_said : State → State → Option Reason → StepAnswer
flush_said s t why = said t None why (answer.Flushed s.filled t.cursor (floor_now t) None)

-- a device without a switch was told nothing
abbrev pub switch_said : List Call → StepAnswer → StepAnswer
switch_said [] told = answer.Refused refused.NoSwitch None
switch_said (call ∷ calls) told = told

-- what a step answers that works on a session, by what its records stood for before and stand for behind it
abbrev pub session_said : Run → State → State → Turn → Step → StepAnswer
session_said run s t turn (step.Format name segments buckets content agg reach fragment generation alternates) = answer.Done
session_said run s t turn (step.Put key body request response) = said t None turn.refused (put_said t s.next_put)
session_said run s t turn (step.Get key request) = get_said turn.given (told_in turn.added) (lookup_in turn.added)
session_said run s t turn (step.OpenWrite actor key pin request response) = if_free (held_by run actor) (said t None turn.refused (answer.Writer s.next_put))
session_said run s t turn (step.Feed actor body) = if_has (put_written_by run actor) (feed_said run t body turn.refused)
session_said run s t turn (step.Close actor) = if_has (put_written_by run actor) (λ put. said t None turn.refused (put_said t put))
session_said run s t turn (step.Abort actor) = if_has (put_written_by run actor) answer.Aborted
session_said run s t turn (step.OpenRead actor key request) = if_free (held_by run actor) (lookup_said t s.next_reader (lookup_in turn.added))
session_said run s t turn (step.Next actor) = if_has (reader_by run actor) (λ reader. next_said turn.given (told_in turn.added))
session_said run s t turn (step.Done actor) = if_has (reader_by run actor) (λ reader. answer.Done)
session_said run s t turn (step.Remove key) = remove_said s key turn.added
session_said run s t turn step.Flush = flush_said s t turn.refused
session_said run s t turn (step.Now moment) = answer.Now moment
session_said run s t turn (step.Fail nth) = switch_said turn.told answer.Armed
session_said run s t turn (step.StopAfter calls) = switch_said turn.told answer.Armed
session_said run s t turn (step.Flip place byte) = switch_said turn.told answer.Flipped
session_said run s t turn (step.Cut choice) = switch_said turn.told answer.Cut

-- what a step answers on a bare device
abbrev pub bare_said : Turn → Step → StepAnswer
bare_said turn (step.Fail nth) = switch_said turn.told answer.Armed
bare_said turn (step.StopAfter calls) = switch_said turn.told answer.Armed
bare_said turn (step.Cut choice) = switch_said turn.told answer.Cut
bare_said turn _ = answer.Done

-- the same; without a session only a format and a moment are answered, and on a bare device what is for its switch
abbrev pub step_said : Run → Turn → Option State → Step → StepAnswer
step_said run turn state (step.Format name segments buckets content agg reach fragment generation alternates) =
    format_said turn (first_refusal segments buckets content agg reach fragment alternates)
step_said run turn state (step.Now moment) = answer.Now moment
step_said run turn (Some s) step = session_said run s (after_all s turn.added) turn step
step_said run turn None step = bare_said turn step

-- what a line answers that is a step, with the session that stands before it
abbrev pub step_answer : Run → Turn → Step → StepAnswer
step_answer run turn step = step_said run turn run.state step
