-- What writers are answered, and what is recorded.
use Rattle.std.specs.Prelude.{ℕ, ◌≡◌, ◌+◌, ◌-◌, ◌*◌, ◌==◌, ◌<◌, ◌≤◌, ◌⊎◌, min, Bool, true, false, if◌then◌else◌, List, [], ◌∷◌, ◌++◌, length, take, IfOk, IfErr, OnOk, OnErr, IfSome, Some, None, Result, Ok, Err, MatchBool}
use Rattle.std.specs.List.{AllByRecursion}
use Rattle.tape_base.specs.declared.actors.Actor.{Actor}
use Rattle.tape_base.specs.declared.geometries.Geometry.{Geometry}
use Rattle.tape_base.specs.declared.keys.Key.{Key}
use Rattle.tape_base.specs.declared.pieces.PieceId.{PieceId}
use Rattle.tape_base.specs.Digest.{digest_of}
use Rattle.fragment_table.specs.Table.{made_row, total_length}
use Rattle.alternate_vector.specs.Field.{Field}
use Rattle.cache_model.specs.declared.record.Rec.{Rec}
use Rattle.cache_model.specs.declared.record.Rec.TheVariants as rec
use Rattle.cache_model.specs.State.{Open, PutRow, State, fragment_piece, put_of, most_fragments}
use Rattle.cache_model.specs.Kept.{Kept, state_of, with_records}
use Rattle.cache_model.specs.Permit.{Done, Fails, Fragment, GiveUp, Intent, ManyFragments, Overflow, Permit}
use Rattle.cache_model.specs.Legal.{Does, is_writing}
use Rattle.device_log.specs.Calls.{Call}
use Rattle.logged_disk.specs.Device.{DeviceState as Device, TellsAll}
use Rattle.logged_disk.specs.declared.device.Disk.{Ghosts as DiskGhosts}
use Rattle.dir_table.specs.declared.directory.Directory.{Ghosts as DirectoryGhosts}
use Rattle.cache_chronicle.specs.declared.chronicle.Chronicle.{Ghosts as ChronicleGhosts}
use Rattle.cache_model.specs.Contents.{Contents}
use Rattle.piece_answers.specs.declared.answer.Placed.{Placed}
use Rattle.cache_answers.specs.declared.answers.Refusal.{Refusal}
use Rattle.cache_answers.specs.declared.answers.Refusal.TheVariants as refusal
use Rattle.piece_answers.specs.declared.answer.Stop.{Stop}
use Rattle.piece_answers.specs.declared.answer.Stop.TheVariants as stop
use Rattle.piece_answers.specs.Covers.{Covers, SpendsFirst}
use Rattle.cache_model.specs.Damage.{TellNoDamage}
use Rattle.piece_answers.specs.Place.{CutsAsAsked, IsCutOrStoppedAs, place_end}
use Rattle.held_pieces.specs.Still.{IsStill}
use Rattle.stripe_core.specs.declared.stripe.Stripe.{Stripe}
use Rattle.stripe_answers.specs.Acts.{OpensAsAsked, write_opened_record}
use Rattle.stripe_core.specs.Between.{Rests, RestsWith}
use Rattle.stripe_answers.specs.Counts.{IsCounted}
use Rattle.stripe_core.specs.Stripe.{AnswersOrWants, HasMemory, Unstopped, kept_in, room_for, seen_in, state_in, units_in}
use Rattle.stripe_write.specs.declared.writer.Writer.{Writer}
use Rattle.stripe_answers.specs.Numbers.{StopsExhausted}
use Rattle.cache_model.specs.Subjects.{IsOfPut}
use Rattle.cache_calls.specs.Actors.{IsWriterOf}
use Rattle.cache_calls.specs.Asked.{taken_of, gathered_with, fills_fragment, next_payload, cuts_next}
use Rattle.cache_calls.specs.Writers.{IsTaking, IsCutting, piece_cut_next, HasTaken}
use Rattle.cache_calls.specs.Standing.{IsToldNext, IsToldWritten}
use Rattle.stripe_write.specs.Writers.{written_as}

-- ---- a writer opens

-- the answer as it is recorded: a writer by the number of its put
abbrev pub number_of_opened : Result Writer Refusal → Result ℕ Refusal
number_of_opened (Ok w) = Ok w.put
number_of_opened (Err why) = Err why

-- ---- a writer is given up

-- that the put was given up; nothing where that was refused
abbrev pub abort_adds : Key → Result ℕ Refusal → List Rec
abort_adds key (Ok put) = rec.Aborted put key ∷ []
abort_adds key (Err why) = []

-- it is open; or it is not, or memory is wanting
abbrev pub AbortsWhere : State → ℕ → Result ℕ Refusal → Type 0
AbortsWhere s put (Ok number) = (number ≡ put) × (is_writing s put ≡ true)
AbortsWhere s put (Err refusal.NoSuchWriter) = is_writing s put ≡ false
AbortsWhere s put (Err (refusal.Memory e)) = is_writing s put ≡ true
AbortsWhere s put (Err _) = ⊥

-- where memory is wanting nothing was done
abbrev pub AbortsAsAsked : State → ℕ → Key → Result ℕ Refusal → Type 0
AbortsAsAsked s put key (Err (refusal.Memory e)) = Unit {0}
AbortsAsAsked s put key answer = (p : Permit) → Does p s (GiveUp put) (abort_adds key answer) Done

-- ---- a writer takes bytes

-- where that one begins in the body
abbrev pub next_start : Writer → ℕ
next_start w = total_length w.table.rows

-- the bytes that stay gathered: none behind a cut
abbrev pub left_gathered : Geometry → Writer → List ℕ → ℕ → List ℕ
left_gathered g w bytes n = if fills_fragment g (written_as w) n then [] else gathered_with (written_as w) bytes n

-- when each answer comes; a fragment more is begun only where there may be one more
abbrev pub WritesWhere : State → Writer → List ℕ → Result ℕ Refusal → Type 0
WritesWhere s w bytes (Ok n) = IsTaking s (written_as w) × (n ≡ taken_of s.geometry (written_as w) bytes)
    × (0 < length bytes → length w.table.rows < most_fragments)
WritesWhere s w bytes (Err refusal.NoSuchWriter) = is_writing s w.put ≡ false
WritesWhere s w bytes (Err refusal.Sealed) = (is_writing s w.put ≡ true) × (w.sealed ≡ true)
WritesWhere s w bytes (Err refusal.TooManyFragments) = IsTaking s (written_as w) × (0 < length bytes) × (length w.table.rows ≡ most_fragments)
WritesWhere s w bytes (Err (refusal.DeviceFault count)) = IsCutting s (written_as w) bytes
WritesWhere s w bytes (Err (refusal.Exhausted number)) = IsCutting s (written_as w) bytes
WritesWhere s w bytes (Err (refusal.Memory e)) = IsTaking s (written_as w)
WritesWhere s w bytes (Err _) = ⊥

-- the records of the next fragment, which is cut or cannot be, in any step at that moment that covers
-- the call
pub record CutsNextAsAsked (packed : Bool) (now : ℕ) (s : State) (before : List Call) (after : Device) (w : Writer) (payload : List ℕ) (added : List Rec) (result : Result Placed Stop) : Type 0 where
  pub shape : IsCutOrStoppedAs packed s after.faults (piece_cut_next (written_as w)) w.pin (next_start w) payload added result
  pub does : (p : Permit) → p.packed ≡ packed → p.now ≡ now → Covers p before after.past → SpendsFirst p s (cuts_next (written_as w) payload) added (place_end result)

-- the next fragment is cut, where it has gathered, or cannot be; or there would be one too many
abbrev pub WritesAs : Bool → ℕ → State → List Call → Device → Writer → List ℕ → Result ℕ Refusal → List Rec → Type 0
WritesAs packed now s before after w bytes (Ok n) added = MatchBool (fills_fragment s.geometry (written_as w) n)
    ((placed : Placed) × CutsNextAsAsked packed now s before after w (gathered_with (written_as w) bytes n) added (Ok placed)) (added ≡ [])
WritesAs packed now s before after w bytes (Err (refusal.DeviceFault count)) added =
    CutsNextAsAsked packed now s before after w (next_payload s (written_as w) bytes) added (Err (stop.DeviceFault count))
WritesAs packed now s before after w bytes (Err (refusal.Exhausted number)) added =
    CutsNextAsAsked packed now s before after w (next_payload s (written_as w) bytes) added (Err (stop.Exhausted number))
WritesAs packed now s before after w bytes (Err refusal.TooManyFragments) added =
    (added ≡ rec.Aborted w.put w.key ∷ []) × ((p : Permit) → Does p s (Overflow w.put) added (Fails (ManyFragments w.put)))
WritesAs packed now s before after w bytes (Err _) added = added ≡ []

-- a write at a moment, over a device that had made these calls before, and that stands so then: the records that it
-- added, which are its put's own, and what is asked of them
pub record WritesAsAsked (packed : Bool) (now : ℕ) (old new : Kept) (before : List Call) (after : Device) (w : Writer) (bytes : List ℕ) (result : Result ℕ Refusal) : Type 0 where
  pub added : List Rec
  pub adds : new ≡ with_records old added
  pub own : AllByRecursion (IsOfPut w.put) added
  -- a device that tells its content shows each piece as it was placed
  pub unharmed : TellsAll after → TellNoDamage added
  pub does : WritesAs packed now (state_of old) before after w bytes result added

-- a writer as it was
pub record SameWriter (old new : Writer) : Type 0 where
  pub put : new.put ≡ old.put
  pub key : new.key ≡ old.key
  pub request : new.request ≡ old.request
  pub response : new.response ≡ old.response
  pub pin : new.pin ≡ old.pin
  pub gathered : new.gathered.items ≡ old.gathered.items
  pub rows : new.table.rows ≡ old.table.rows
  pub sealed : new.sealed ≡ old.sealed

-- a writer as it was but for its bytes, gathered and cut
pub record SameButBytes (old new : Writer) : Type 0 where
  pub put : new.put ≡ old.put
  pub key : new.key ≡ old.key
  pub request : new.request ≡ old.request
  pub response : new.response ≡ old.response
  pub pin : new.pin ≡ old.pin
  pub sealed : new.sealed ≡ old.sealed

-- what is at hand of an open put whose next fragment is gathered: a short one is the last
pub record IsReady (s : State) (w : Writer) : Type 0 where
  pub row : PutRow
  pub found : put_of s w.put ≡ Some row
  pub is_open : row.writing ≡ Open
  pub key_is : row.key ≡ w.key
  pub request_is : row.request ≡ w.request
  pub response_is : row.response ≡ w.response
  pub pin_is : row.pin ≡ w.pin
  pub cuts_are : row.cuts ≡ w.table.rows
  pub whole : total_length row.cuts ≡ length row.cuts * s.geometry.fragment
  pub few : length w.table.rows < most_fragments
  pub some : 0 < length w.gathered.items
  pub small : length w.gathered.items ≤ s.geometry.fragment
  pub last : (w.sealed ≡ true) ⊎ (length w.gathered.items ≡ s.geometry.fragment)
  pub room : 0 < w.table.room

-- one fragment too many, or memory is wanting
abbrev pub IsOverflow : Result ℕ Refusal → Type 0
IsOverflow (Err refusal.TooManyFragments) = Unit {0}
IsOverflow (Err (refusal.Memory e)) = Unit {0}
IsOverflow _ = ⊥

-- the put is given up where there is one too many; where memory is wanting nothing is recorded
abbrev pub overflow_adds : Writer → Result ℕ Refusal → List Rec
overflow_adds w (Err refusal.TooManyFragments) = rec.Aborted w.put w.key ∷ []
overflow_adds w _ = []

-- one fragment too many gives the put up, in any step, and what was asked fails for that
abbrev pub OverflowsAsAsked : State → Writer → Type 0
OverflowsAsAsked s w = (p : Permit) → Does p s (Overflow w.put) (rec.Aborted w.put w.key ∷ []) (Fails (ManyFragments w.put))

-- ---- what a stripe makes of it

module _ {D R C : Type 0} {d : DiskGhosts D} {r : DirectoryGhosts R} {c : ChronicleGhosts C} where
  -- what opening a writer comes to, which has taken nothing
  pub record OpensInStripe (old new : Stripe D R C d r c) (who : Actor) (key : Key) (request response : List Field) (pin : ℕ)
      (result : Result Writer Refusal) : Type 0 where
    pub rests : Rests old new
    pub adds : OnOk result (kept_in new ≡ with_records (kept_in old) (write_opened_record (state_in old) who key request response pin ∷ []))
    pub err : OnErr result (kept_in new ≡ kept_in old)
    pub does : OpensAsAsked (state_in old) who key request response pin (number_of_opened result)
    pub writer : IfOk result (λ w. IsWriterOf (state_in new) (written_as w))
    pub empty : IfOk result (λ w. w.gathered.items ≡ [])
    pub unsealed : IfOk result (λ w. w.sealed ≡ false)
    pub still : (seen_in new).device ≡ (seen_in old).device

  -- what giving up comes to, for a writer that was so and is so then
  pub record AbortsInStripe (old new : Stripe D R C d r c) (was later : Writer) (result : Result ℕ Refusal) : Type 0 where
    pub rests : Rests old new
    pub adds : kept_in new ≡ with_records (kept_in old) (abort_adds was.key result)
    pub aborts : AbortsWhere (state_in old) was.put result
    pub does : AbortsAsAsked (state_in old) was.put was.key result
    pub writer : IsWriterOf (state_in new) (written_as later)
    pub same : later ≡ was
    pub still : IsStill (seen_in old).device (seen_in new).device

  -- what taking these bytes comes to at a moment, for a writer that was so and is so then
  pub record WritesInStripe (packed : Bool) (now : ℕ) (old new : Stripe D R C d r c) (was later : Writer) (bytes : List ℕ)
      (result : Result ℕ Refusal) : Type 0 where
    pub rests : RestsWith (IsToldWritten (state_in old) (written_as was) bytes result) old new
    pub writes : WritesWhere (state_in old) was bytes result
    pub number : IfErr result (StopsExhausted (state_in new) (state_in old).geometry.fragment)
    pub does : WritesAsAsked packed now (kept_in old) (kept_in new) (seen_in old).device.past (seen_in new).device was bytes result
    pub writer : IsWriterOf (state_in new) (written_as later)
    pub gathers : IfOk result (λ n. HasTaken (state_in old).geometry (written_as was) bytes n (written_as later))
    pub same : OnErr result (SameWriter was later)
    pub untouched : Unstopped result (IsStill (seen_in old).device (seen_in new).device)

  -- what one fragment too many comes to
  pub record OverflowsInStripe (old new : Stripe D R C d r c) (w : Writer) (result : Result ℕ Refusal) : Type 0 where
    pub rests : Rests old new
    pub refused : IsOverflow result
    pub adds : kept_in new ≡ with_records (kept_in old) (overflow_adds w result)
    pub does : OverflowsAsAsked (state_in old) w
    pub writer : IsWriterOf (state_in new) (written_as w)
    pub still : IsStill (seen_in old).device (seen_in new).device

  -- what cutting the fragment that has gathered comes to at a moment, for a writer that was so and is so then
  pub record CutsNextInStripe (packed : Bool) (now : ℕ) (old new : Stripe D R C d r c) (was later : Writer)
      (result : Result Placed Refusal) : Type 0 where
    pub rests : RestsWith (λ contents. OnOk result (IsToldNext (written_as was) was.gathered.items contents)) old new
    pub does : AnswersOrWants result
        (CutsAsAsked packed now (kept_in old) (kept_in new) (seen_in old).device.past (seen_in new).device
        (piece_cut_next (written_as was)) was.pin (next_start was) was.gathered.items)
        (kept_in new ≡ kept_in old)
    pub number : IfErr result (StopsExhausted (state_in new) (length was.gathered.items))
    pub writer : OnOk result (IsWriterOf (state_in new) (written_as later))
    pub rest : OnOk result (SameButBytes was later)
    pub rows : OnOk result (later.table.rows ≡ was.table.rows ++ made_row (length was.gathered.items) (digest_of was.gathered.items).0 ∷ [])
    pub empty : OnOk result (later.gathered.items ≡ [])
    pub same : OnErr result (later ≡ was)
    pub untouched : Unstopped result (IsStill (seen_in old).device (seen_in new).device)
    pub counts : IfErr result (IsCounted (seen_in new).device.faults)
    pub memory : 0 < units_in old → 0 < room_for was.put old.actors → HasMemory result
    pub unit : units_in old ≤ units_in new + 1
