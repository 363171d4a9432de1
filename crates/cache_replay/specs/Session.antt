-- What holds of a session between lines, whatever its device gave.
use Rattle.std.specs.Prelude.{ℕ, ◌≡◌, ◌*◌, ◌≤◌, ⊤, true, List, [], ◌∷◌, length, Option, Some, None, IfSome, option_map}
use Rattle.tape_base.specs.Geometry.{budget_of}
use Rattle.device_log.specs.Calls.{Call}
use Rattle.logged_disk.specs.Device.{DeviceState as Device, TellsAll}
use Rattle.cache_model.specs.State.{State, put_of, reader_of}
use Rattle.cache_model.specs.Legal.{is_writing}
use Rattle.call_laws.specs.Moments.{At}
use Rattle.cache_calls.specs.declared.calls.Calls.{Ghosts as CallsGhosts}
use Rattle.cache_calls.specs.Actors.{IsOpenReader, IsWriterOf, ReaderSeen, WriterSeen}
use Rattle.cache_calls.specs.Keeping.{IsAtRest, plain_setting, state_at}
use Rattle.actor_table.specs.Table.{TableSeen, slot_of_actor}
use Rattle.script_grammar.specs.declared.answer.StepAnswer.{StepAnswer}
use Rattle.script_run.specs.Ledger.{GoesOnFrom}
use Rattle.script_run.specs.Losses.{NoLossIsAFault}
use Rattle.cache_replay.specs.declared.session.ActorHolding.{ActorHolding}
use Rattle.cache_replay.specs.declared.session.ActorHolding.TheVariants as holding
use Rattle.cache_replay.specs.declared.session.Part.{Part}
use Rattle.cache_replay.specs.declared.session.Session.{Session}
use Rattle.run_promise.specs.Outline.{count_in}

-- ---- what actors have

-- what an actor has, as contracts see it
pub data HoldingSeen : Type 0 where
  WriterHeld : (w : WriterSeen) → HoldingSeen
  ReaderHeld : (r : ReaderSeen) → HoldingSeen

-- the put of an open writer, which is what the records say of it
pub record IsOpenWriter (s : State) (w : WriterSeen) : Type 0 where
  pub writing : is_writing s w.put ≡ true
  pub writer : IsWriterOf s w

-- what an actor has is open
abbrev pub IsHeldByActor : State → HoldingSeen → Type 0
IsHeldByActor s (WriterHeld w) = IsOpenWriter s w
IsHeldByActor s (ReaderHeld r) = IsOpenReader s r

-- so it is of each actor that has something
abbrev pub AreHeld : State → (ℕ → Option HoldingSeen) → Type 0
AreHeld s slots = (n : ℕ) → IfSome (slots n) (IsHeldByActor s)

-- two of them are writers of two puts, or two readers, or one of each
abbrev pub Differ : HoldingSeen → HoldingSeen → Type 0
Differ (WriterHeld w) (WriterHeld v) = w.put ≡ v.put → ⊥
Differ (ReaderHeld r) (ReaderHeld q) = r.reader ≡ q.reader → ⊥
Differ _ _ = ⊤

-- no two actors have the same
abbrev pub ActorsAreApart : (ℕ → Option HoldingSeen) → Type 0
ActorsAreApart slots = (m n : ℕ) (a b : HoldingSeen) → (m ≡ n → ⊥) → slots m ≡ Some a → slots n ≡ Some b → Differ a b

-- ---- a session

module _ {S W R : Type 0} (c : CallsGhosts S W R) where
  -- what an actor has, by what its cache tells of writers and readers
  abbrev pub holding_seen : ActorHolding W R → HoldingSeen
  holding_seen (holding.Writer w) = WriterHeld (c.written w)
  holding_seen (holding.Reader r) = ReaderHeld (c.reading r)

  -- what the actor of a number has, from 1; nothing where there is no such actor
  abbrev pub slots_of : TableSeen (ActorHolding W R) → ℕ → Option HoldingSeen
  slots_of actors n = option_map holding_seen (slot_of_actor actors.slots n)

module _ {S W R : Type 0} {c : CallsGhosts S W R} where
  -- the records of a part and its device
  abbrev pub at_in : Part S W R c → At
  at_in part = c.at part.cache

  -- what these records stand for
  abbrev pub state_in_part : Part S W R c → State
  state_in_part part = state_at (at_in part)

  -- the calls that the device of a part made since its attach, the newest first
  abbrev pub past_of : Part S W R c → List Call
  past_of part = (at_in part).device.past

  -- the names of the actors, in the order of their first steps
  abbrev pub names_in : Session S W R c → List (List ℕ)
  names_in session = session.actors.names

  -- what the actor of a number has in a session
  abbrev pub slots_in : Session S W R c → ℕ → Option HoldingSeen
  slots_in session n = slots_of c session.actors n

  -- a plain cache at rest, none of whose pieces was lost by a fault of the device, and a page that takes any piece
  pub record IsPart (part : Part S W R c) : Type 0 where
    pub holds : c.holds part.cache
    pub rest : IsAtRest (at_in part)
    pub plain : (at_in part).setting ≡ plain_setting
    pub losses : NoLossIsAFault (state_in_part part)
    pub page : length part.page.items ≡ 512 * budget_of (state_in_part part).geometry

  -- a part beside what the actors have, which is open in it, and no two have the same
  pub record IsActive (part : Part S W R c) (slots : ℕ → Option HoldingSeen) : Type 0 where
    pub part_is : IsPart part
    pub held : AreHeld (state_in_part part) slots
    pub apart : ActorsAreApart slots

  -- without a cache no actor has anything
  abbrev pub IsAt : Option (Part S W R c) → (ℕ → Option HoldingSeen) → Type 0
  IsAt None slots = (n : ℕ) → slots n ≡ None
  IsAt (Some part) slots = IsActive part slots

  -- what holds of a session between lines
  abbrev pub IsSession : Session S W R c → Type 0
  IsSession session = IsAt session.part (slots_in session)

  -- the device of a part, as it would be given back
  abbrev pub return_of : Option (Part S W R c) → List Device
  return_of None = []
  return_of (Some part) = (at_in part).device ∷ []

  -- and of a session
  abbrev pub return_in : Session S W R c → List Device
  return_in session = return_of session.part

  -- how many devices a session has: that of its part, once a format began one
  abbrev pub devices_of : Session S W R c → ℕ
  devices_of session = length (return_in session)

  -- the count of a fault that an answer tells is no higher than that of the session's device
  abbrev pub AnswerTellsCount : Option (Part S W R c) → StepAnswer → Type 0
  AnswerTellsCount None said = ⊥
  AnswerTellsCount (Some part) said = count_in said ≤ (at_in part).device.faults

-- ---- a device that goes on

-- it is the same device, behind more calls: it counts no less than before, and tells its content only where it did before
pub record IsLaterDevice (old new : Device) : Type 0 where
  pub faults : old.faults ≤ new.faults
  pub number : new.number ≡ old.number
  pub switch : new.has_switch ≡ old.has_switch
  pub made : GoesOnFrom old.past new.past
  pub tells : TellsAll new → TellsAll old

-- so it is of the device of a session, where there is one
abbrev pub AreLater : List Device → List Device → Type 0
AreLater [] [] = ⊤
AreLater [] (new ∷ others) = ⊥
AreLater (old ∷ devices) [] = ⊥
AreLater (old ∷ devices) (new ∷ others) = IsLaterDevice old new × AreLater devices others

-- ---- what a call leaves

-- all puts but one and all readers but one are as they were, and no piece was lost by a fault of the device
pub record LeavesBut (put reader : Option ℕ) (s t : State) : Type 0 where
  pub puts : (q : ℕ) → (put ≡ Some q → ⊥) → put_of t q ≡ put_of s q
  pub readers : (n : ℕ) → (reader ≡ Some n → ⊥) → reader_of t n ≡ reader_of s n
  pub geometry : t.geometry ≡ s.geometry
  pub losses : NoLossIsAFault s → NoLossIsAFault t
