-- What contracts see of a stripe: its pieces and its actors, in step with the records, and the memory
-- that is made for calls to come.
use Rattle.std.specs.Prelude.{ℕ, ◌≡◌, ◌*◌, ◌<◌, ◌≤◌, false, [], Result, Ok, Err}
use Rattle.tape_base.specs.declared.pieces.PieceId.{PieceId}
use Rattle.tape_base.specs.Piece.{is_vector}
use Rattle.logged_disk.specs.declared.device.Disk.{Ghosts as DiskGhosts}
use Rattle.dir_table.specs.declared.directory.Directory.{Ghosts as DirectoryGhosts}
use Rattle.cyclone.specs.Cyclone.{Seen}
use Rattle.cache_model.specs.State.{State}
use Rattle.cache_model.specs.Kept.{Kept, count_of}
use Rattle.cache_chronicle.specs.declared.chronicle.Chronicle.{Ghosts as ChronicleGhosts}
use Rattle.open_directory.specs.Directory.{room_for_fragments}
use Rattle.stripe_actors.specs.Actors.{AreActors, reader_room_of, ActorsSeen as Actors}
use Rattle.cache_answers.specs.declared.answers.Refusal.{Refusal}
use Rattle.cache_answers.specs.declared.answers.Refusal.TheVariants as refusal
use Rattle.piece_answers.specs.declared.answer.Stop.{Stop}
use Rattle.piece_answers.specs.declared.answer.Stop.TheVariants as stop
use Rattle.stripe_core.specs.declared.stripe.Stripe.{Stripe}
use Rattle.std.specs.declared.alloc.Global.{Global}
use Rattle.cache_model.specs.Contents.{contents_of_vectors}
use Rattle.piece_answers.specs.Ahead.{IsMadeFor}
use Rattle.piece_answers.specs.Standing.{AreDocuments, AreStanding}
use Rattle.stripe_answers.specs.Named.{IsNamed}
use Rattle.stripe_pieces.specs.Units.{entries_of_unit, records_of_unit}
use Rattle.stripe_pieces.specs.Pieces.{ArePieces, kept_now, seen_now, state_now}

module _ {D R C : Type 0} {d : DiskGhosts D} {r : DirectoryGhosts R} {c : ChronicleGhosts C} where
  -- the records of a stripe, as its chronicle keeps them
  abbrev pub kept_in : Stripe D R C d r c → Kept
  kept_in t = kept_now t.pieces

  -- what these records stand for
  abbrev pub state_in : Stripe D R C d r c → State
  state_in t = state_now t.pieces

  -- the cyclone of a stripe, as contracts see it
  abbrev pub seen_in : Stripe D R C d r c → Seen
  seen_in t = seen_now t.pieces

  -- where its memory comes from
  abbrev pub alloc_in : Stripe D R C d r c → Global
  alloc_in t = t.alloc

  -- for how many calls memory is made
  abbrev pub units_in : Stripe D R C d r c → ℕ
  units_in t = t.units

  -- for how many flushes the device has room
  abbrev pub flushes_in : Stripe D R C d r c → ℕ
  flushes_in t = t.flushes

-- memory is made for so many calls: of each a flush, a piece, and their records; `IsStripe` has the readers
pub record IsSpared (units flushes room : ℕ) (c : Seen) : Type 0 where
  pub for_records : records_of_unit c.geometry * units ≤ room
  pub entries : entries_of_unit c.geometry * units ≤ c.spare
  pub one_each : units ≤ flushes
  pub calls : flushes ≤ c.device.calls
  pub blocks : flushes * c.geometry.agg ≤ c.device.blocks

-- how many fragments of a put can be cut without more memory
abbrev pub room_for : ℕ → Actors → ℕ
room_for put a = room_for_fragments put a.held.puts

-- a fragment can be cut without more memory; a vector is no fragment
abbrev pub RowIsMade : PieceId → Actors → Type 0
RowIsMade id a = is_vector id ≡ false → 0 < room_for id.put a

-- what holds of a stripe between calls
pub record IsStripe {D R C : Type 0} {d : DiskGhosts D} {r : DirectoryGhosts R} {c : ChronicleGhosts C} (t : Stripe D R C d r c) : Type 0 where
  pub pieces : ArePieces t.pieces
  pub actors : AreActors (state_in t) t.actors
  pub spared : IsSpared t.units t.flushes (c.room t.pieces.chronicle) (seen_in t)
  -- each piece of an index that a put may have is one of a put that has begun, and of an open put one that it has cut
  pub named : IsNamed (state_in t)
  -- a call may open a reader
  pub readers : t.units ≤ reader_room_of t.actors
  -- there is memory for what a flush copies
  pub ahead : IsMadeFor (state_in t).geometry t.ahead
  -- no insert goes on
  pub none : (state_in t).displaced ≡ []
  -- where the device tells its content each vector spells what it lists
  pub vectors : AreStanding contents_of_vectors (state_in t) (seen_in t)
  -- and each piece stands as some document
  pub documents : AreDocuments (state_in t) (seen_in t)
  -- each reader has a record
  pub numbered : (state_in t).next_reader < count_of (kept_in t)

-- what a call answers that the tape may stop: what holds of the answer, and what holds where memory is
-- wanting
abbrev pub AnswersOrWants : {X : Type 0} → Result X Refusal → (Result X Stop → Type 0) → Type 0 → Type 0
AnswersOrWants (Ok x) answers wanting = answers (Ok x)
AnswersOrWants (Err (refusal.DeviceFault count)) answers wanting = answers (Err (stop.DeviceFault count))
AnswersOrWants (Err (refusal.Exhausted number)) answers wanting = answers (Err (stop.Exhausted number))
AnswersOrWants (Err (refusal.Memory e)) answers wanting = wanting
AnswersOrWants (Err _) answers wanting = ⊥

-- memory is not wanting
abbrev pub HasMemory : {X : Type 0} → Result X Refusal → Type 0
HasMemory (Err (refusal.Memory e)) = ⊥
HasMemory _ = Unit {0}

-- what holds where memory is wanting
abbrev pub Wanting : {X : Type 0} → Result X Refusal → Type 0 → Type 0
Wanting (Err (refusal.Memory e)) holds = holds
Wanting _ holds = Unit {0}

-- what is wanting is memory
abbrev pub IsWanting : Refusal → Type 0
IsWanting (refusal.Memory e) = Unit {0}
IsWanting _ = ⊥

-- what holds where a call is refused, but not by the tape
abbrev pub Unstopped : {X : Type 0} → Result X Refusal → Type 0 → Type 0
Unstopped (Ok x) holds = Unit {0}
Unstopped (Err (refusal.DeviceFault count)) holds = Unit {0}
Unstopped (Err (refusal.Exhausted number)) holds = Unit {0}
Unstopped (Err _) holds = holds
