-- What stands between two lines of a script.
use Rattle.std.specs.Prelude.{ℕ, ◌≡◌, ◌==◌, Bool, true, false, if◌then◌else◌, List, [], drop, Option, Some, None, option_and_then}
use Rattle.device_log.specs.Calls.{Call}
use Rattle.actor_table.specs.Table.{number_of_name}
use Rattle.script_grammar.specs.declared.step.Step.{Step}
use Rattle.script_grammar.specs.declared.step.Step.TheVariants as step
use Rattle.fragment_table.specs.Table.{total_length}
use Rattle.cache_model.specs.State.{State}
use Rattle.cache_model.specs.Verdict.{cuts_of}

-- what an actor has: the writer of a put, or a reader
pub data Holding : Type 0 where
  HoldsWriter : (put : ℕ) → Holding
  HoldsReader : (reader : ℕ) → Holding

-- what the writer of a put took; a sealed one takes no more
pub record Stream : Type 0 where
  pub bytes : List ℕ
  pub sealed : Bool

-- what was told of a device: its count at the last fault, whether a piece on it was damaged, the calls that its lines
-- made, the newest first, whether it made no other, and for each line that was for its switch whether it has one
pub record Harm : Type 0 where
  pub fault : ℕ
  pub damaged : Bool
  pub calls : List Call
  pub whole : Bool
  pub switches : List Bool

-- a device of which nothing was told, and which made no call
abbrev pub no_harm : Harm
no_harm = record { fault = 0; damaged = false; calls = []; whole = true; switches = [] }

-- the same of a device that may have made more calls
abbrev pub loosened : Harm → Harm
loosened harm = record harm { whole = false }

-- no fault and no damage was told of a device, whatever calls its lines made
pub record IsHarmless (harm : Harm) : Type 0 where
  pub faultless : harm.fault ≡ 0
  pub undamaged : harm.damaged ≡ false

-- the session, where there is one, and what outlives it: actors, names of devices, their harm, the moment
pub record Run : Type 0 where
  -- what the records of the session stand for, where there is a session
  pub state : Option State
  -- of each put of the session, what its writer took
  pub streams : ℕ → Stream
  -- the actors, in the order of their first steps
  pub actors : List (List ℕ)
  -- what each actor has, by its number
  pub held : ℕ → Option Holding
  -- the calls that the device at hand made since it was attached, the newest first
  pub calls : List Call
  -- what the records of a session stood for that a cut ended, whose device is at hand, with no session on it
  pub last : Option State
  -- what was told of each device that was given back
  pub ended : List Harm
  -- the name of each device that was attached
  pub names : List (List ℕ)
  -- the moment for pins, of whatever session
  pub now : ℕ

-- of a writer that took nothing yet, and of each number that no put has
abbrev pub no_stream : Stream
no_stream = record { bytes = []; sealed = false }

-- before the first line: no session, no actor, no device, and the moment 0
abbrev pub fresh : Run
fresh = record { state = None; streams = λ put. no_stream; actors = []; held = λ actor. None; calls = []; last = None; ended = []; names = []; now = 0 }

-- what the records stand for of the session, or of the last one on a bare device
abbrev pub at_hand : Option State → Option State → Option State
at_hand None last = last
at_hand (Some s) last = Some s

-- a function with another value at one number
abbrev pub with_value : {X : Type 0} → (ℕ → X) → ℕ → X → ℕ → X
with_value f n x m = if m == n then x else f m

-- ---- actors

-- the name of the actor of a step
abbrev pub actor_of : Step → Option (List ℕ)
actor_of (step.OpenWrite actor object pin request response) = Some actor
actor_of (step.Feed actor body) = Some actor
actor_of (step.Close actor) = Some actor
actor_of (step.Abort actor) = Some actor
actor_of (step.OpenRead actor object request) = Some actor
actor_of (step.Next actor) = Some actor
actor_of (step.Done actor) = Some actor
actor_of _ = None

-- ---- what an actor has

-- what the actor of this name has; a name that is not known has the next number
abbrev pub held_by : Run → List ℕ → Option Holding
held_by run name = run.held (number_of_name run.actors name)

-- the put of a writer; none of a reader
abbrev pub put_in : Holding → Option ℕ
put_in (HoldsWriter put) = Some put
put_in (HoldsReader reader) = None

-- the number of a reader; none of a writer
abbrev pub reader_in : Holding → Option ℕ
reader_in (HoldsWriter put) = None
reader_in (HoldsReader reader) = Some reader

-- the put that an actor writes; none where it reads or has nothing
abbrev pub put_written_by : Run → List ℕ → Option ℕ
put_written_by run name = option_and_then put_in (held_by run name)

-- the reader with which an actor reads; none where it writes or has nothing
abbrev pub reader_by : Run → List ℕ → Option ℕ
reader_by run name = option_and_then reader_in (held_by run name)

-- the bytes of a put that are in no fragment yet
abbrev pub gathered_of : Run → State → ℕ → List ℕ
gathered_of run s put = drop (total_length (cuts_of s put)) (run.streams put).bytes
