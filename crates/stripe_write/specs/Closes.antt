-- What a writer that closes is answered, and what is recorded.
use Rattle.std.specs.Prelude.{ℕ, ◌≡◌, ◌<◌, ◌≤◌, ◌==◌, ◌⊎◌, Bool, true, false, if◌then◌else◌, List, [], ◌∷◌, ◌++◌, length, Result, Ok, Err, IfErr, OnOk}
use Rattle.std.specs.declared.alloc.AllocError.{AllocError}
use Rattle.tape_base.specs.Blocks.{blocks_of}
use Rattle.tape_base.specs.Geometry.{budget_of}
use Rattle.fragment_table.specs.Table.{total_length}
use Rattle.device_log.specs.Calls.{Call}
use Rattle.logged_disk.specs.Device.{DeviceState as Device}
use Rattle.logged_disk.specs.declared.device.Disk.{Ghosts as DiskGhosts}
use Rattle.dir_table.specs.declared.directory.Directory.{Ghosts as DirectoryGhosts}
use Rattle.cache_model.specs.declared.record.Rec.{Rec}
use Rattle.cache_model.specs.State.{State, fragment_piece}
use Rattle.cache_model.specs.Kept.{Kept, state_of, with_records}
use Rattle.cache_model.specs.Verdict.{cause_of_piece, cuts_of}
use Rattle.cache_model.specs.Permit.{Commit, Done, Finish, Intent, End, Exhausted, Fails, Faulted, Lost, Permit, Stays, TooLarge, Weigh}
use Rattle.cache_model.specs.Legal.{is_writing, vector_length}
use Rattle.cache_model.specs.Room.{limit}
use Rattle.cache_model.specs.Vectors.{AreTold, IsVectorAs}
use Rattle.cache_chronicle.specs.declared.chronicle.Chronicle.{Ghosts as ChronicleGhosts}
use Rattle.call_laws.specs.Untold.{Untold}
use Rattle.cache_model.specs.Contents.{Contents, TellsVectors}
use Rattle.cache_answers.specs.declared.answers.Refusal.{Refusal}
use Rattle.cache_answers.specs.declared.answers.Refusal.TheVariants as refusal
use Rattle.stripe_core.specs.declared.stripe.Stripe.{Stripe}
use Rattle.stripe_core.specs.Between.{Continues, RestsWith}
use Rattle.stripe_answers.specs.Counts.{IsCounted}
use Rattle.stripe_core.specs.Stripe.{Wanting, kept_in, room_for, seen_in, state_in, units_in}
use Rattle.piece_answers.specs.Covers.{Covers, SpendsFirst}
use Rattle.held_pieces.specs.Still.{IsStill, IsUnwritten}
use Rattle.cache_model.specs.Pair.{IsKeyPair}
use Rattle.cache_answers.specs.declared.answers.Receipt.{Receipt}
use Rattle.stripe_write.specs.declared.weighing.Vectors.{Vectors}
use Rattle.stripe_write.specs.declared.writer.Writer.{Writer}
use Rattle.stripe_answers.specs.Faults.{RefusalHasRecord}
use Rattle.stripe_write.specs.Others.{AddsOfPut}
use Rattle.stripe_write.specs.Closing.{IsReadFor, SpendsAll}
use Rattle.stripe_answers.specs.Numbers.{StopsExhausted}
use Rattle.stripe_write.specs.Writes.{SameWriter}
use Rattle.cache_calls.specs.Actors.{IsWriterOf}
use Rattle.cache_calls.specs.Asked.{rows_at_close, rest_asks, ending_asks}
use Rattle.cache_calls.specs.Writers.{TellsComplete, size_at_close, bytes_next, KeepsRest, CutsRest}
use Rattle.cache_calls.specs.Standing.{IsToldClosed}
use Rattle.stripe_write.specs.Writers.{written_as}

-- ---- when each answer comes

-- once the vector is weighed
abbrev pub EndsWhere : State → Writer → Result Receipt Refusal → Type 0
EndsWhere t w (Ok receipt) = TellsComplete (written_as w) receipt
EndsWhere t w (Err (refusal.Lost index why)) = why ≡ cause_of_piece t (fragment_piece w.key w.put index)
EndsWhere t w (Err (refusal.DeviceFault count)) = Unit {0}
EndsWhere t w (Err (refusal.Exhausted number)) = limit ≤ number
EndsWhere t w (Err _) = ⊥

-- the same of all of closing: `s` is the state before it, and `t` the one behind it
abbrev pub ClosesWhere : State → State → Writer → Result Receipt Refusal → Type 0
ClosesWhere s t w (Ok receipt) = (is_writing s w.put ≡ true) × TellsComplete (written_as w) receipt
ClosesWhere s t w (Err refusal.NoSuchWriter) = is_writing s w.put ≡ false
ClosesWhere s t w (Err (refusal.VectorTooLarge bytes)) = (is_writing s w.put ≡ true) × (bytes ≡ size_at_close (written_as w)) × (budget_of s.geometry < blocks_of bytes)
ClosesWhere s t w (Err (refusal.Lost index why)) = (is_writing s w.put ≡ true) × (why ≡ cause_of_piece t (fragment_piece w.key w.put index))
ClosesWhere s t w (Err (refusal.DeviceFault count)) = is_writing s w.put ≡ true
ClosesWhere s t w (Err (refusal.Exhausted number)) = (is_writing s w.put ≡ true) × (limit ≤ number)
ClosesWhere s t w (Err (refusal.Memory e)) = is_writing s w.put ≡ true
ClosesWhere s t w (Err _) = ⊥

-- ---- what is recorded, and which number is told

-- the end to which each answer brings what is asked; behind any other refusal it is still to be done
abbrev pub close_end : Writer → Result Receipt Refusal → End
close_end w (Ok receipt) = Done
close_end w (Err (refusal.VectorTooLarge bytes)) = Fails (TooLarge w.put bytes)
close_end w (Err (refusal.Lost index why)) = Fails (Lost w.put index)
close_end w (Err (refusal.DeviceFault count)) = Fails (Faulted count)
close_end w (Err (refusal.Exhausted number)) = Fails Exhausted
close_end w (Err _) = Stays

-- what is left of closing once the vector is weighed
abbrev pub end_intents : Writer → List Intent
end_intents w = rest_asks (written_as w) w.gathered.items ++ Finish w.put (length (rows_at_close (written_as w))) ∷ Commit w.put ∷ []

-- what that makes of the records, and the number that it tells at the end of the tape
pub record EndsInStripe (p : Permit) (old new : Kept) (w : Writer) (result : Result Receipt Refusal) : Type 0 where
  pub added : List Rec
  pub adds : new ≡ with_records old added
  pub does : SpendsAll p (state_of old) (end_intents w) added (close_end w result)
  pub number : IfErr result (StopsExhausted (state_of new) (bytes_next (state_of new) (written_as w)))

-- what came of it, as `FinishesAsRead`
pub record EndsAsAsked (packed : Bool) (now : ℕ) (before after : List Call) (old new : Kept) (w : Writer) (v : Vectors) (result : Result Receipt Refusal) : Type 0 where
  pub does : (p : Permit) → p.packed ≡ packed → p.now ≡ now → Covers p before after → (state_of old).displaced ≡ [] → IsReadFor (state_of old) w v → EndsInStripe p old new w result

-- all that closing is asked is done, or fails; where memory is wanting it is still to be weighed; where
-- there is no such writer nothing is
abbrev pub Spent : Permit → State → Writer → Result Receipt Refusal → List Rec → Type 0
Spent p s w (Err (refusal.Memory e)) added = SpendsFirst p s (Weigh w.put (length w.gathered.items)) added Stays
Spent p s w (Err refusal.NoSuchWriter) added = added ≡ []
Spent p s w result added = SpendsAll p s (ending_asks (written_as w)) added (close_end w result)

-- what closing makes of the records, and the number that it tells at the end of the tape
pub record ClosesInStripe (p : Permit) (old new : Kept) (w : Writer) (result : Result Receipt Refusal) : Type 0 where
  pub added : List Rec
  pub adds : new ≡ with_records old added
  pub does : Spent p (state_of old) w result added
  pub number : IfErr result (StopsExhausted (state_of new) (bytes_next (state_of new) (written_as w)))

-- what came of it in any step at that moment that covers the call; or two documents of one SHA-256 are shown, on a device that
-- did not tell its content
pub record ClosesAsAsked (packed : Bool) (now : ℕ) (before : List Call) (after : Device) (old new : Kept) (w : Writer) (result : Result Receipt Refusal) : Type 0 where
  pub does : (p : Permit) → p.packed ≡ packed → p.now ≡ now → Covers p before after.past → AreTold (state_of old)
      → ClosesInStripe p old new w result ⊎ IsKeyPair (Untold after IsVectorAs) p (state_of old) w.key

-- a writer that was refused by the device, or by the end of the tape, takes no more bytes; one whose rest was not come to is
-- as it was
abbrev pub SealsInStripeWhere : Writer → Writer → Result Receipt Refusal → Type 0
SealsInStripeWhere old new (Err (refusal.DeviceFault count)) = new.sealed ≡ true
SealsInStripeWhere old new (Err (refusal.Exhausted number)) = new.sealed ≡ true
SealsInStripeWhere old new (Err (refusal.Memory e)) = SameWriter old new
SealsInStripeWhere old new (Err (refusal.VectorTooLarge bytes)) = SameWriter old new
SealsInStripeWhere old new (Err refusal.NoSuchWriter) = SameWriter old new
SealsInStripeWhere old new _ = Unit {0}

-- what a writer has at hand once it was closed
abbrev pub IsRested : Writer → Writer → Type 0
IsRested old new = KeepsRest (written_as old) (written_as new) ⊎ CutsRest (written_as old) (written_as new)

-- while the vector is weighed only the device seals
abbrev pub is_sealed_by : Refusal → Bool → Bool
is_sealed_by (refusal.DeviceFault count) sealed = true
is_sealed_by _ sealed = sealed

-- where the rest was not come to, the device was asked for the key's vector at most; for nothing, where there is no such writer
abbrev pub UntouchedWhere : Device → Device → Result Receipt Refusal → Type 0
UntouchedWhere old new (Err refusal.NoSuchWriter) = IsStill old new
UntouchedWhere old new (Err (refusal.Memory e)) = IsUnwritten old new
UntouchedWhere old new (Err (refusal.VectorTooLarge bytes)) = IsUnwritten old new
UntouchedWhere old new _ = Unit {0}

-- ---- what a stripe makes of it

module _ {D R C : Type 0} {d : DiskGhosts D} {r : DirectoryGhosts R} {c : ChronicleGhosts C} where
  -- what closing a writer comes to
  pub record ClosesWriterInStripe (packed : Bool) (now : ℕ) (old new : Stripe D R C d r c) (was later : Writer)
      (result : Result Receipt Refusal) : Type 0 where
    pub rests : RestsWith (IsToldClosed (state_in new) (written_as was)) old new
    pub closes : ClosesWhere (state_in old) (state_in new) was result
    pub does : ClosesAsAsked packed now (seen_in old).device.past (seen_in new).device (kept_in old) (kept_in new) was result
    pub writer : IsWriterOf (state_in new) (written_as later)
    pub seals : SealsInStripeWhere was later result
    pub rested : IsRested was later
    pub untouched : UntouchedWhere (seen_in old).device (seen_in new).device result
    pub counts : IfErr result (IsCounted (seen_in new).device.faults)
    pub wanting : Wanting result (kept_in new ≡ kept_in old)
    pub own : AddsOfPut was.put (kept_in old) (kept_in new)
    pub recorded : IfErr result (RefusalHasRecord (kept_in old) (kept_in new))

  -- what is left of it once the vector is weighed: the writer takes no more bytes
  pub record EndsWriterInStripe (packed : Bool) (now : ℕ) (old new : Stripe D R C d r c) (was later : Writer) (v : Vectors)
      (result : Result Receipt Refusal) : Type 0 where
    pub rests : RestsWith (IsToldClosed (state_in new) (written_as was)) old new
    pub ends : EndsWhere (state_in new) was result
    pub does : EndsAsAsked packed now (seen_in old).device.past (seen_in new).device.past (kept_in old) (kept_in new) was v result
    pub writer : IsWriterOf (state_in new) (written_as later)
    pub sealed : later.sealed ≡ true
    pub rested : IsRested was later
    pub counts : IfErr result (IsCounted (seen_in new).device.faults)
    pub own : AddsOfPut was.put (kept_in old) (kept_in new)
    pub recorded : IfErr result (RefusalHasRecord (kept_in old) (kept_in new))

  -- what making memory for it comes to: records, device and writer are as they were
  pub record MakesMemoryToClose (old new : Stripe D R C d r c) (was later : Writer) (result : Result (Unit {0}) AllocError) : Type 0 where
    pub continues : Continues old new
    pub records : kept_in new ≡ kept_in old
    pub still : IsStill (seen_in old).device (seen_in new).device
    pub units : OnOk result (5 ≤ units_in new)
    pub row : OnOk result (0 < room_for was.put new.actors)
    pub table : OnOk result (0 < later.table.room)
    pub same : SameWriter was later
