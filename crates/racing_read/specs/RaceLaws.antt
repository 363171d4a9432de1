-- What the answers of a racing read are worth.
use Rattle.std.specs.Prelude.{◌≡◌, ◌⊎◌, ℕ, ◌*◌, ◌<◌, ◌≤◌, List, ◌++◌, length, take}
use mathlib.Core.List.{IsPrefix}
use Rattle.hex.specs.Hex.{IsBytes}
use Rattle.tape_base.specs.Blocks.{blocks_of}
use Rattle.tape_base.specs.Digest.{Collide}
use Rattle.doc_header.specs.declared.documents.Doc.{Doc}
use Rattle.doc_header.specs.Document.{header_bytes, digest_of_document, Fits, IsDocument}
use Rattle.doc_header.specs.Reading.{extent_of}
use Rattle.stripe_lock.specs.declared.kept.KeptState.{Ghosts}
use Rattle.stripe_lock.specs.declared.view.StripeTurn.{StripeTurn}
use Rattle.stripe_lock.specs.Passes.{PassState}
use Rattle.stripe_lock.specs.Turns.{LockEnds}
use Rattle.racing_read.specs.declared.ticket.Ticket.{Ticket}
use Rattle.racing_read.specs.declared.ticket.Raced.{Raced}
use Rattle.racing_read.specs.declared.ticket.Raced.TheVariants as raced
use Rattle.racing_read.specs.Races.{RaceMoment, ReadsThenLoads, RacesAs}

-- the ticket is of this document
pub record IsTicketOf (ticket : Ticket) (doc : Doc) (payload : List ℕ) : Type 0 where
  pub place_is : doc.place ≡ ticket.place
  pub length_is : length payload ≡ ticket.length
  pub digest_is : ticket.digest ≡ digest_of_document doc payload
  pub fits : Fits doc payload
  pub bytes_are : IsBytes payload

-- the bytes are the document, or what they spell and the document collide
abbrev pub IsDocumentOrCollides : List ℕ → Doc → List ℕ → Type 0
IsDocumentOrCollides bytes doc payload =
    IsDocument bytes doc.generation doc.place doc payload
    ⊎ Collide (take (extent_of bytes) bytes) (header_bytes doc payload ++ payload)

module _ {T R : Type 0} (k : Ghosts T R) where
  -- what is given to the ticket of a document is that document, also where the read was torn, unless they collide
  abbrev pub GivenIsDocument : Type 0
  GivenIsDocument = (ticket : Ticket) (old new : RaceMoment R) (bytes : List ℕ) (n : ℕ) (doc : Doc) (payload : List ℕ)
      → length bytes ≡ 512 * blocks_of ticket.length → IsTicketOf ticket doc payload
      → RacesAs k ticket old new bytes (raced.Given n) → IsDocumentOrCollides bytes doc payload

  -- one read and one floor have one answer
  abbrev pub RaceIsDecided : Type 0
  RaceIsDecided = (ticket : Ticket) (old new : RaceMoment R) (bytes : List ℕ) (one other : Raced)
      → RacesAs k ticket old new bytes one → RacesAs k ticket old new bytes other → one ≡ other

  -- the floor that was loaded is the one behind a history in which the turns before the read stand
  pub record LoadsLaterFloor (before : List (StripeTurn R)) (new : PassState R) (floor : ℕ) : Type 0 where
    pub has_turns : IsPrefix before new.told
    pub floor_is : floor ≡ k.floor_of new.chronicle new.told

  -- Where the pass was told of all turns that it has seen, as behind each turn, the turn that looked the ticket up among them,
  -- the loaded floor is not one from before these.
  abbrev pub RacesSeeLaterFloors : Type 0
  RacesSeeLaterFloors = (ticket : Ticket) (old new : RaceMoment R) (bytes : List ℕ) (floor : ℕ)
      → old.pass.told ≡ old.pass.seen → ReadsThenLoads k ticket old new bytes floor
      → LoadsLaterFloor old.pass.seen new.pass floor

  -- what was passed lies below the floor of the state that the lock gives in the end
  abbrev pub PassedStaysPassed : Type 0
  PassedStaysPassed = (ticket : Ticket) (old new : RaceMoment R) (bytes : List ℕ) (place floor : ℕ) (later : PassState R) (x : T)
      → RacesAs k ticket old new bytes (raced.Passed place floor) → new.pass.floor ≤ later.floor → LockEnds k later x
      → ticket.place < k.floor_of (k.chronicle x) (k.turns x)
