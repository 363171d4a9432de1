-- Whose record it is.
use Rattle.std.specs.Prelude.{ℕ, ◌≡◌, Bool, true, false}
use Rattle.cache_model.specs.declared.record.Rec.{Rec}
use Rattle.cache_model.specs.declared.record.Rec.TheVariants as rec

-- whom a record speaks of
pub data Subject : Type 0 where
  -- a session, which begins
  OfSession : Subject
  -- the put of this number
  OfPut : (put : ℕ) → Subject
  -- the reader of this number
  OfReader : (reader : ℕ) → Subject
  -- no actor: pieces and buffers as they are written, removed and synced
  OfNoActor : Subject
  -- the device: a call that it refused, or bytes that it gave for others
  OfDevice : Subject

abbrev pub subject_of : Rec → Subject
subject_of (rec.Formatted geometry) = OfSession
subject_of (rec.Opened geometry serial cursor floor next_put clean list) = OfSession
subject_of (rec.Began cursor floor) = OfNoActor
subject_of (rec.Placed piece place blocks digest pin) = OfNoActor
subject_of (rec.Moved piece from place digest) = OfNoActor
subject_of (rec.Unsaved piece place fault) = OfNoActor
subject_of (rec.Displaced piece segment live) = OfNoActor
subject_of (rec.Damaged piece place kept found) = OfDevice
subject_of (rec.WriteOpened actor put key request response pin) = OfPut put
subject_of (rec.Cut put index length digest) = OfPut put
subject_of (rec.Committed put key length list) = OfPut put
subject_of (rec.Aborted put key) = OfPut put
subject_of (rec.Removed put key) = OfNoActor
subject_of (rec.ReadOpened reader actor key request answer) = OfReader reader
subject_of (rec.Gave reader index length) = OfReader reader
subject_of (rec.Ended reader length) = OfReader reader
subject_of (rec.Waited reader cut) = OfReader reader
subject_of (rec.Broke reader why) = OfReader reader
subject_of (rec.ReadClosed reader) = OfReader reader
subject_of (rec.SyncBegun serial cursor clean in_parts) = OfNoActor
subject_of (rec.SyncDone serial) = OfNoActor
subject_of (rec.Fault count) = OfDevice

-- of a put and a reader, this put alone; and no session
abbrev pub IsPutOrNone : ℕ → Subject → Type 0
IsPutOrNone put OfSession = ⊥
IsPutOrNone put (OfPut q) = q ≡ put
IsPutOrNone put (OfReader reader) = ⊥
IsPutOrNone put OfNoActor = Unit {0}
IsPutOrNone put OfDevice = Unit {0}

-- this reader, or the device
abbrev pub IsReaderOrDevice : ℕ → Subject → Type 0
IsReaderOrDevice reader OfSession = ⊥
IsReaderOrDevice reader (OfPut put) = ⊥
IsReaderOrDevice reader (OfReader n) = n ≡ reader
IsReaderOrDevice reader OfNoActor = ⊥
IsReaderOrDevice reader OfDevice = Unit {0}

-- a put, a reader, or all of them where a session begins
abbrev pub is_of_actors : Subject → Bool
is_of_actors OfSession = true
is_of_actors (OfPut put) = true
is_of_actors (OfReader reader) = true
is_of_actors OfNoActor = false
is_of_actors OfDevice = false

-- a record of a put: it speaks of no other put and of no reader, and begins no session
abbrev pub IsOfPut : ℕ → Rec → Type 0
IsOfPut put r = IsPutOrNone put (subject_of r)

-- a record of a reader: it speaks of no other reader and of no put, places nothing, and begins no session; a fault or a damaged
-- piece may have been met on the way
abbrev pub IsOfReader : ℕ → Rec → Type 0
IsOfReader reader r = IsReaderOrDevice reader (subject_of r)

-- a record of a flush: it speaks of pieces and of the device alone
abbrev pub IsOfFlush : Rec → Type 0
IsOfFlush (rec.Began cursor floor) = Unit {0}
IsOfFlush (rec.Moved piece from place digest) = Unit {0}
IsOfFlush (rec.Unsaved piece place fault) = Unit {0}
IsOfFlush (rec.Damaged piece place kept found) = Unit {0}
IsOfFlush (rec.Fault count) = Unit {0}
IsOfFlush _ = ⊥
