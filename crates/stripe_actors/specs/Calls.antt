-- What each call makes of the actors, as the records say it.
use Rattle.std.specs.Prelude.{ℕ, ◌≡◌, ◌+◌, ◌<◌, ◌≤◌, true, List, Result, Ok, Err}
use Rattle.tape_base.specs.declared.keys.Key.{Key}
use Rattle.tape_base.specs.declared.actors.Actor.{Actor}
use Rattle.tape_base.specs.declared.digests.Digest.{Digest}
use Rattle.tape_base.specs.declared.geometries.Geometry.{Geometry}
use Rattle.alternate_vector.specs.Field.{Field}
use Rattle.alternate_vector.specs.Alternates.{Stored}
use Rattle.cache_model.specs.declared.cause.Cause.{Cause}
use Rattle.cache_model.specs.declared.answer.ReadAnswer.TheVariants as read
use Rattle.cache_model.specs.declared.record.Rec.{Rec}
use Rattle.cache_model.specs.declared.record.Rec.TheVariants as rec
use Rattle.cache_model.specs.State.{State, after_all, nothing_yet, state_after}
use Rattle.cache_model.specs.Opening.{Opening}
use Rattle.cache_model.specs.Openings.{opened_records}
use Rattle.cache_model.specs.Legal.{format_records, most_writers, open_writers}
use Rattle.cache_model.specs.Room.{limit}
use Rattle.open_directory.specs.Directory.{is_kept_open, with_reader_room, with_room}
use Rattle.stripe_actors.specs.declared.refusal.OpenPutRefusal.{OpenPutRefusal}
use Rattle.stripe_actors.specs.declared.refusal.OpenPutRefusal.TheVariants.{TooManyWriters, Exhausted, Memory}
use Rattle.stripe_actors.specs.Actors.{ActorsSeen, AreActors}

-- actors that were in step with any state are in step with what the record makes of it
abbrev pub KeepUpWith : Rec → ActorsSeen → ActorsSeen → Type 0
KeepUpWith r old new = (s : State) → AreActors s old → AreActors (state_after s r) new

-- actors that were in step with any state still are
abbrev pub StayInStep : ActorsSeen → ActorsSeen → Type 0
StayInStep old new = (s : State) → AreActors s old → AreActors s new

-- nothing but the room of a put is another
abbrev pub with_room_of : ℕ → ℕ → ActorsSeen → ActorsSeen
with_room_of put room a = record a { held = record a.held { puts = with_room put room a.held.puts } }

-- nothing but the room for readers is another
abbrev pub with_room_of_readers : ℕ → ActorsSeen → ActorsSeen
with_room_of_readers room a = record a { held = with_reader_room room a.held }

-- nobody, at the beginning of a session that a format began
abbrev pub BeginInStep : ActorsSeen → Type 0
BeginInStep new = (geometry : Geometry) → AreActors (after_all nothing_yet (format_records geometry)) new

-- nobody, at the beginning of a session that an opening began, whose copy tells this next put number
abbrev pub BeginBehind : ℕ → ActorsSeen → Type 0
BeginBehind next_put new = (geometry : Geometry) (o : Opening) → o.next_put ≡ next_put
    → AreActors (after_all nothing_yet (opened_records geometry o)) new

-- the put has the number that was next, and its writer is open
pub record OpensPut (key : Key) (request response : List Field) (old new : ActorsSeen) (put : ℕ) : Type 0 where
  pub number : put ≡ old.next_put
  pub opened : (who : Actor) (pin : ℕ) → KeepUpWith (rec.WriteOpened who put key request response pin) old new

-- fewer writers are open than may be, and the number behind the next is one that a put may have
pub record HasPutNumber (s : State) : Type 0 where
  pub few : open_writers s < most_writers
  pub below : s.next_put + 1 < limit

-- fewer writers are open than may be, and the number behind the next is this one, which no put may have
pub record IsExhausted (s : State) (number : ℕ) : Type 0 where
  pub few : open_writers s < most_writers
  pub above : limit ≤ number
  pub next : number ≡ s.next_put + 1

-- when each answer comes
abbrev pub OpensWhere : State → Result ℕ OpenPutRefusal → Type 0
OpensWhere s (Ok put) = HasPutNumber s
OpensWhere s (Err TooManyWriters) = most_writers ≤ open_writers s
OpensWhere s (Err (Exhausted number)) = IsExhausted s number
OpensWhere s (Err (Memory e)) = HasPutNumber s

-- the answer is that of each state that the actors are in step with
abbrev pub AnswersPut : ActorsSeen → Result ℕ OpenPutRefusal → Type 0
AnswersPut old answer = (s : State) → AreActors s old → OpensWhere s answer

-- the next fragment of the put is cut
abbrev pub CutsNext : ℕ → ℕ → Digest → ActorsSeen → ActorsSeen → Type 0
CutsNext put length digest old new = (index : ℕ) → KeepUpWith (rec.Cut put index length digest) old new

-- the put is complete
abbrev pub Commits : ℕ → ActorsSeen → ActorsSeen → Type 0
Commits put old new = (key : Key) (length : ℕ) (list : List Stored) → KeepUpWith (rec.Committed put key length list) old new

-- the put is given up
abbrev pub PutIsGivenUp : ℕ → ActorsSeen → ActorsSeen → Type 0
PutIsGivenUp put old new = (key : Key) → KeepUpWith (rec.Aborted put key) old new

-- the reader has the number that was next, and reads a put that was hit, or follows one that is open
pub record ReaderOpens (put : ℕ) (old new : ActorsSeen) (reader : ℕ) : Type 0 where
  pub number : reader ≡ old.next_reader
  pub hit : (who : Actor) (key : Key) (request : List Field) → KeepUpWith (rec.ReadOpened reader who key request (read.Hit put)) old new
  pub follow : is_kept_open put old.held.puts ≡ true → (who : Actor) (key : Key) (request : List Field) → KeepUpWith (rec.ReadOpened reader who key request (read.Follow put)) old new

-- the number that was next is that of a lookup that opened no reader
pub record Misses (old new : ActorsSeen) (reader : ℕ) : Type 0 where
  pub number : reader ≡ old.next_reader
  pub missed : (who : Actor) (key : Key) (request : List Field) (why : Cause) → KeepUpWith (rec.ReadOpened reader who key request (read.Miss why)) old new

-- the reader was given the fragment of an index
abbrev pub GaveFragment : ℕ → ℕ → ActorsSeen → ActorsSeen → Type 0
GaveFragment reader index old new = (length : ℕ) → KeepUpWith (rec.Gave reader index length) old new
