-- What a line makes of what stands between the lines.
use Rattle.std.specs.Prelude.{ℕ, Bool, true, false, if◌then◌else◌, List, [], ◌∷◌, ◌++◌, length, take, Option, Some, None, is_some}
use Rattle.tape_base.specs.declared.geometries.BadGeometry.{BadGeometry}
use Rattle.tape_base.specs.Limits.{first_refusal}
use Rattle.cache_model.specs.declared.record.Rec.{Rec}
use Rattle.cache_model.specs.State.{State, after_all, nothing_yet, reader_of}
use Rattle.cache_model.specs.Permit.{Reason, Exhausted, Faulted}
use Rattle.cache_model.specs.Legal.{is_writing}
use Rattle.script_grammar.specs.declared.step.Step.{Step}
use Rattle.script_grammar.specs.declared.step.Step.TheVariants as step
use Rattle.script_grammar.specs.declared.line.LineAnswer.{LineAnswer}
use Rattle.script_grammar.specs.declared.line.LineAnswer.TheVariants as line
use Rattle.script_grammar.specs.Grammar.{reading_of}
use Rattle.device_log.specs.declared.choice.CutChoice.{CutChoice}
use Rattle.device_log.specs.Calls.{Call}
use Rattle.actor_table.specs.Table.{number_of_name, with_actor}
use Rattle.cache_model.specs.Damage.{has_damage}
use Rattle.script_run.specs.Run.{Harm, Run, Stream, Holding, HoldsWriter, HoldsReader, at_hand, no_stream, with_value, put_written_by, held_by, actor_of}
use Rattle.script_run.specs.Turn.{Turn, calls_in}
use Rattle.script_run.specs.Answers.{took_of}

-- ---- streams

-- what the writer of each put took, by the put's number
abbrev pub Streams : Type 0
Streams = ℕ → Stream

-- the put's writer took these bytes and no others, and is not sealed
abbrev pub with_bytes : Streams → ℕ → List ℕ → Streams
with_bytes streams put bytes = with_value streams put (record { bytes = bytes; sealed = false })

-- a writer that took so many of these bytes
abbrev pub fed : Stream → List ℕ → ℕ → Stream
fed stream body n = record { bytes = stream.bytes ++ take n body; sealed = stream.sealed }

-- of a line that is not refused all bytes are taken
abbrev pub taken_in_line : Run → State → List ℕ → Option Reason → ℕ → ℕ
taken_in_line run t body None put = length body
taken_in_line run t body (Some why) put = took_of run t put

-- a sealed writer takes none
abbrev pub streams_fed : Run → State → List ℕ → Option Reason → ℕ → Streams
streams_fed run t body why put =
    if (run.streams put).sealed then run.streams
    else with_value run.streams put (fed (run.streams put) body (taken_in_line run t body why put))

-- a writer that the device, or the end of the tape, kept from closing is sealed
abbrev pub seals : Option Reason → Bool
seals (Some Exhausted) = true
seals (Some (Faulted count)) = true
seals _ = false

-- the stream behind a close: its bytes stay, and it is sealed or as it was
abbrev pub sealed_by : Option Reason → Stream → Stream
sealed_by why stream = if seals why then record { bytes = stream.bytes; sealed = true } else stream

-- a close takes no bytes, and seals no other writer
abbrev pub streams_closed : Run → Option Reason → ℕ → Streams
streams_closed run why put = with_value run.streams put (sealed_by why (run.streams put))

-- with what a step gives to the actor's put, where it has one
abbrev pub of_put : Run → Option ℕ → (ℕ → Streams) → Streams
of_put run None f = run.streams
of_put run (Some put) f = f put

-- an actor opens a writer where it has nothing
abbrev pub streams_opened : Run → State → Option Holding → Streams
streams_opened run s None = with_value run.streams s.next_put no_stream
streams_opened run s (Some holding) = run.streams

-- what writers took behind a line; a `put` took its whole body, also where it is refused
abbrev pub streams_behind : Run → State → State → Turn → Step → Streams
streams_behind run s t turn (step.Put key body request response) = with_bytes run.streams s.next_put body
streams_behind run s t turn (step.OpenWrite actor key pin request response) = streams_opened run s (held_by run actor)
streams_behind run s t turn (step.Feed actor body) = of_put run (put_written_by run actor) (streams_fed run t body turn.refused)
streams_behind run s t turn (step.Close actor) = of_put run (put_written_by run actor) (streams_closed run turn.refused)
streams_behind run s t turn _ = run.streams

-- ---- what actors have

-- an open writer
abbrev pub writer_at : State → ℕ → Option Holding
writer_at t put = if is_writing t put then Some (HoldsWriter put) else None

-- an open reader
abbrev pub open_reader_at : State → ℕ → Option Holding
open_reader_at t reader = if is_some (reader_of t reader) then Some (HoldsReader reader) else None

-- what was held, where it is still open
abbrev pub still_open : State → Option Holding → Option Holding
still_open t None = None
still_open t (Some (HoldsWriter put)) = writer_at t put
still_open t (Some (HoldsReader reader)) = open_reader_at t reader

-- what an actor had, or else what it opened
abbrev pub or_else : Option Holding → Option Holding → Option Holding
or_else None opened = opened
or_else (Some holding) opened = Some holding

-- what the actor of a step has behind it
abbrev pub holds_behind : Run → State → State → Step → List ℕ → Option Holding
holds_behind run s t (step.OpenWrite actor key pin request response) name = or_else (held_by run name) (writer_at t s.next_put)
holds_behind run s t (step.OpenRead actor key request) name = or_else (held_by run name) (open_reader_at t s.next_reader)
holds_behind run s t _ name = still_open t (held_by run name)

-- only the actor of the step may have something else behind it
abbrev pub held_behind : Run → State → State → Step → Option (List ℕ) → ℕ → Option Holding
held_behind run s t step None = run.held
held_behind run s t step (Some name) = with_value run.held (number_of_name run.actors name) (holds_behind run s t step name)

-- an actor counts from its first line on, whatever that is answered
abbrev pub actors_behind : List (List ℕ) → Option (List ℕ) → List (List ℕ)
actors_behind actors None = actors
actors_behind actors (Some name) = with_actor actors name

-- ---- steps

-- what was told of a session's device, which made these calls
abbrev pub harm_in : List Call → State → Harm
harm_in calls s = record { fault = s.fault; damaged = has_damage s; calls = calls; whole = true; switches = [] }

-- of the device of a session, where there is one
abbrev pub harm_of : List Call → Option State → List Harm
harm_of calls None = []
harm_of calls (Some s) = harm_in calls s ∷ []

-- what was told of the device at hand, where there is one
abbrev pub own_harm : Run → List Harm
own_harm run = harm_of run.calls (at_hand run.state run.last)

-- what was told of all devices, once the last one is given back
abbrev pub harms_of : Run → List Harm
harms_of run = run.ended ++ own_harm run

-- a format ends the session before it, with its writers and readers, and attaches the device of its name, which has made
-- these calls since
abbrev pub with_format : Run → List ℕ → List Call → List Rec → Run
with_format run name calls added = record {
  state = Some (after_all nothing_yet added);
  streams = λ put. no_stream;
  actors = run.actors;
  held = λ actor. None;
  calls = calls;
  last = None;
  ended = harms_of run;
  names = run.names ++ name ∷ [];
  now = run.now;
}

-- what was told of a device that was given back with this count, for it refused one of these calls
abbrev pub harm_of_format : List Call → ℕ → Harm
harm_of_format calls count = record { fault = count; damaged = false; calls = calls; whole = true; switches = [] }

-- a format ends the session before it also where its device refuses a call; that is given back, and no session stands
abbrev pub without_session : Run → List ℕ → List Call → ℕ → Run
without_session run name calls count = record {
  state = None;
  streams = λ put. no_stream;
  actors = run.actors;
  held = λ actor. None;
  calls = [];
  last = None;
  ended = harms_of run ++ harm_of_format calls count ∷ [];
  names = run.names ++ name ∷ [];
  now = run.now;
}

-- by what the device refused in the turn
abbrev pub tried_format : Run → Turn → List ℕ → Option Reason → Run
tried_format run turn name None = with_format run name turn.device.events turn.added
tried_format run turn name (Some (Faulted count)) = without_session run name turn.device.events count
tried_format run turn name (Some _) = run

-- a refused geometry leaves the run as it is: the session before it goes on
abbrev pub after_format : Run → Turn → List ℕ → Option BadGeometry → Run
after_format run turn name (Some bad) = run
after_format run turn name None = tried_format run turn name turn.refused

-- a step other than a format or a moment: the session goes on, on the same device
abbrev pub in_session : Run → State → State → Turn → Step → Run
in_session run s t turn step = record {
  state = Some t;
  streams = streams_behind run s t turn step;
  actors = actors_behind run.actors (actor_of step);
  held = held_behind run s t step (actor_of step);
  calls = calls_in turn ++ run.calls;
  last = run.last;
  ended = run.ended;
  names = run.names;
  now = run.now;
}

-- a cut ends the session, with its writers and readers, and its device stays at hand
abbrev pub cut_off : Run → State → Turn → Run
cut_off run s turn = record {
  state = None;
  streams = run.streams;
  actors = run.actors;
  held = λ actor. None;
  calls = calls_in turn ++ run.calls;
  last = Some s;
  ended = run.ended;
  names = run.names;
  now = run.now;
}

-- where the device was told nothing the session goes on
abbrev pub after_cut : Run → State → Turn → CutChoice → List Call → Run
after_cut run s turn choice [] = in_session run s (after_all s turn.added) turn (step.Cut choice)
after_cut run s turn choice (call ∷ calls) = cut_off run s turn

-- a run of which behind a turn only this is known: that the device at hand made the calls of that turn
abbrev pub with_calls_of : Run → Turn → Run
with_calls_of run turn = record run { calls = calls_in turn ++ run.calls }

-- the moment is set, and all else stays
abbrev pub at_moment : Run → ℕ → Run
at_moment run at = record run { now = at }

-- a format and a moment need no session; without one any other step is at most a call of a bare device
abbrev pub behind : Run → Turn → Option State → Step → Run
behind run turn state (step.Format name segments buckets content agg reach fragment generation alternates) =
    after_format run turn name (first_refusal segments buckets content agg reach fragment alternates)
behind run turn state (step.Now moment) = at_moment run moment
behind run turn (Some s) (step.Cut choice) = after_cut run s turn choice turn.told
behind run turn (Some s) step = in_session run s (after_all s turn.added) turn step
behind run turn None step = with_calls_of run turn

-- the run behind a step, by the session that it has before it
abbrev pub after_step : Run → Turn → Step → Run
after_step run turn step = behind run turn run.state step

-- only a step changes a run: no comment, and no line that is not in the grammar
abbrev pub after_reading : Run → Turn → LineAnswer → Run
after_reading run turn (line.Step s) = after_step run turn s
after_reading run turn line.Nothing = run
after_reading run turn (line.Bad fault) = run

-- the run that the next line finds
abbrev pub after_line : Run → Turn → List ℕ → Run
after_line run turn bytes = after_reading run turn (reading_of bytes)
