-- What a step is about: what it is asked to do, how each ask ends, and what the device did in it.
use Rattle.std.specs.Prelude.{ℕ, ◌≡◌, ◌⊎◌, ◌+◌, ◌*◌, Bool, true, false, List, [], ◌∷◌, filter, Option, Some, None}
use Rattle.tape_base.specs.declared.keys.Key.{Key}
use Rattle.device_log.specs.Calls.{Call}
use Rattle.alternate_vector.specs.Field.{Field}

-- what a step is asked to do, one after the other
pub data Intent : Type 0 where
  -- it writes out the buffer, and syncs where that is due
  Flush : Intent
  -- it writes out the buffer, and syncs
  Sync : Intent
  -- it does so with a sync that later steps write in parts
  SyncBegin : Intent
  -- it writes the next part of that sync, which may be the last one
  SyncStep : (last : Bool) → Intent
  -- nobody writes or reads any more: it empties the buffer with a sync, which may leave copies in the next one
  Drain : Intent
  -- it syncs an empty buffer, and promises that nothing is placed before a sync that is not clean has finished
  CleanSync : Intent
  -- it opens a writer
  Write : (actor : ℕ) (key : Key) (request response : List Field) (pin : ℕ) → Intent
  -- it cuts these bytes as that fragment, and places it
  Fragment : (put index : ℕ) (payload : List ℕ) → Intent
  -- it has bytes behind the last fragment that a put may have
  Overflow : (put : ℕ) → Intent
  -- it begins to close, with so many bytes that are not cut yet
  Weigh : (put rest : ℕ) → Intent
  -- it places the vector of a put that has so many fragments
  Finish : (put fragments : ℕ) → Intent
  Commit : (put : ℕ) → Intent
  -- it aborts the writer, where that is open
  GiveUp : (put : ℕ) → Intent
  -- it removes an object, where there is one
  Remove : (key : Key) → Intent
  -- it looks a key up
  Look : (actor : ℕ) (key : Key) (request : List Field) → Intent
  -- it asks for the next fragment
  ReadOn : (reader : ℕ) → Intent
  -- it asks for fragments up to the end, where something was hit
  ReadAll : (reader : ℕ) → Intent
  -- it closes the reader, where that is open
  StopReading : (reader : ℕ) → Intent

-- why a step does less than it was asked
pub data Reason : Type 0 where
  -- as many writers are open as may be
  ManyWriters : Reason
  -- a place or the number of a put would reach the limit
  Exhausted : Reason
  ManyFragments : (put : ℕ) → Reason
  -- the vector of the new alternate alone has so many bytes
  TooLarge : (put bytes : ℕ) → Reason
  -- the fragment of this index is not live
  Lost : (put index : ℕ) → Reason
  -- the device refused a call, and its count then stood here
  Faulted : (count : ℕ) → Reason
  -- the sync of this serial is written in parts
  SyncRuns : (serial : ℕ) → Reason
  -- none is
  NoSync : Reason
  -- so many writers and readers are open
  StillOpen : (writers readers : ℕ) → Reason
  -- so many blocks were copied into the next buffer
  StillMoving : (blocks : ℕ) → Reason

-- what a group of records makes of what was asked first
pub data End : Type 0 where
  -- it is still to be done
  Stays : End
  Done : End
  Fails : (why : Reason) → End

-- what is left of a step, and why it does less
pub record Work : Type 0 where
  pub intents : List Intent
  pub refused : Option Reason

-- a step before its first group of records: all is left, and nothing is refused
abbrev pub to_do : List Intent → Work
to_do intents = record { intents = intents; refused = None }

-- what is done behind a refusal too
abbrev pub is_cleanup : Intent → Bool
is_cleanup (GiveUp put) = true
is_cleanup (StopReading reader) = true
is_cleanup _ = false

-- what is left when the first intent came to this end
abbrev pub work_after : Intent → List Intent → Option Reason → End → Work
work_after i rest why Stays = record { intents = i ∷ rest; refused = why }
work_after i rest why Done = record { intents = rest; refused = why }
work_after i rest why (Fails reason) = record { intents = filter is_cleanup rest; refused = Some reason }

-- what a stripe is for the whole of its session: whether its directory displaces entries, and whether it syncs
pub record Setting : Type 0 where
  pub packed : Bool
  pub syncs : Bool

-- the same of a step, with the moment that pins are weighed by, the calls that its device made before it, and those that the
-- device made in the step itself, the newest first
pub record Permit : Type 0 where
  pub packed : Bool
  pub syncs : Bool
  pub now : ℕ
  pub past : List Call
  pub events : List Call

-- the step is one of such a session, whose device has made these calls before it
pub record IsSetBy (setting : Setting) (calls : List Call) (p : Permit) : Type 0 where
  pub packed : p.packed ≡ setting.packed
  pub syncs : p.syncs ≡ setting.syncs
  pub past : p.past ≡ calls

-- the value stands in the list, once or more often
abbrev pub IsAmong : {X : Type 0} → X → List X → Type 0
IsAmong x [] = ⊥
IsAmong x (y ∷ ys) = (x ≡ y) ⊎ IsAmong x ys
