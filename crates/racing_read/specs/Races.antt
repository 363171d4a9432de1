-- What a racing read answers: by the bytes that it read, and by the floor that it loaded behind that.
use Rattle.std.specs.Prelude.{◌≡◌, ◌≢◌, ℕ, ◌*◌, ◌<◌, ◌≤◌, List, ◌∷◌, Result, Ok, Err, length}
use Rattle.hex.specs.Hex.{IsBytes}
use Rattle.tape_base.specs.declared.digests.Digest.{Digest}
use Rattle.tape_base.specs.Blocks.{blocks_of}
use Rattle.device_log.specs.Faults.{next_count}
use Rattle.doc_header.specs.Reading.{document_digest}
use Rattle.stripe_lock.specs.declared.kept.KeptState.{Ghosts}
use Rattle.stripe_lock.specs.Passes.{PassState}
use Rattle.stripe_lock.specs.Turns.{SeesFloor}
use Rattle.racing_read.specs.RaceCalls.{RaceCall, PeekGave, PeekFailed, FloorLoaded}
use Rattle.racing_read.specs.declared.ticket.Ticket.{Ticket}
use Rattle.racing_read.specs.declared.ticket.Raced.{Raced}
use Rattle.racing_read.specs.declared.ticket.Raced.TheVariants as raced

-- an eye gave what lies in the place, or it failed and counts that
abbrev pub Peeks : {T E : Type 0} → ℕ → List ℕ → ℕ → ℕ → List RaceCall → List RaceCall → Result T E → Type 0
Peeks block bytes missed now before after (Ok x) = (after ≡ PeekGave block bytes ∷ before) × (now ≡ missed)
Peeks block bytes missed now before after (Err e) = (after ≡ PeekFailed block (length bytes) now ∷ before) × (now ≡ next_count missed)

-- a moment of a racing read: what the pass knows, the calls so far, and how many reads of the eye have failed
pub record RaceMoment (R : Type 0) : Type 0 where
  pub pass : PassState R
  pub calls : List RaceCall
  pub missed : ℕ

module _ {T R : Type 0} (k : Ghosts T R) (ticket : Ticket) (old new : RaceMoment R) (bytes : List ℕ) where
  -- the ticket's blocks were read, and behind that the floor was loaded from its word, each once
  pub record ReadsThenLoads (floor : ℕ) : Type 0 where
    pub order : new.calls ≡ FloorLoaded floor ∷ PeekGave ticket.block bytes ∷ old.calls
    pub sees : SeesFloor k old.pass new.pass floor
    pub missed : new.missed ≡ old.missed

  -- the floor isn't above the place, and the bytes have the ticket's digest
  pub record RaceGave (length : ℕ) : Type 0 where
    pub floor : ℕ
    pub reads : ReadsThenLoads floor
    pub above : floor ≤ ticket.place
    pub bytes_are : IsBytes bytes
    pub same : document_digest bytes ≡ ticket.digest
    pub length_is : length ≡ ticket.length

  -- the floor is above the place, whatever the bytes are
  pub record RacePassed (place floor : ℕ) : Type 0 where
    pub reads : ReadsThenLoads floor
    pub place_is : place ≡ ticket.place
    pub below : ticket.place < floor

  -- the floor isn't above the place, and the bytes have another digest
  pub record RaceDamaged (kept found : Digest) : Type 0 where
    pub floor : ℕ
    pub reads : ReadsThenLoads floor
    pub above : floor ≤ ticket.place
    pub bytes_are : IsBytes bytes
    pub kept_is : kept ≡ ticket.digest
    pub found_is : found ≡ document_digest bytes
    pub differ : kept ≢ found

  -- the eye could not read and counts that, and the floor was not loaded
  pub record RaceFailed (count : ℕ) : Type 0 where
    pub order : new.calls ≡ PeekFailed ticket.block (512 * blocks_of ticket.length) count ∷ old.calls
    pub pass : new.pass ≡ old.pass
    pub missed : new.missed ≡ next_count old.missed
    pub count_is : count ≡ new.missed

  -- what a racing read of a ticket answers
  abbrev pub RacesAs : Raced → Type 0
  RacesAs (raced.Given length) = RaceGave length
  RacesAs (raced.Passed place floor) = RacePassed place floor
  RacesAs (raced.Damaged kept found) = RaceDamaged kept found
  RacesAs (raced.DeviceFault count) = RaceFailed count
