-- The rest that a writer gathered is cut as its last fragment.
use Rattle.std.specs.Prelude.{ℕ, ◌≡◌, ◌+◌, ◌<◌, ◌≤◌, Bool, true, List, [], ◌∷◌, length, Result, Ok, Err, IfErr, OnOk, OnErr}
use Rattle.device_log.specs.Calls.{Call}
use Rattle.logged_disk.specs.Device.{DeviceState as Device}
use Rattle.logged_disk.specs.declared.device.Disk.{Ghosts as DiskGhosts}
use Rattle.dir_table.specs.declared.directory.Directory.{Ghosts as DirectoryGhosts}
use Rattle.cache_chronicle.specs.declared.chronicle.Chronicle.{Ghosts as ChronicleGhosts}
use Rattle.cache_model.specs.declared.record.Rec.{Rec}
use Rattle.cache_model.specs.State.{State}
use Rattle.cache_model.specs.Kept.{Kept, state_of, with_records}
use Rattle.cache_model.specs.Legal.{is_writing}
use Rattle.cache_model.specs.Permit.{Done, End, Permit}
use Rattle.piece_answers.specs.declared.answer.Placed.{Placed}
use Rattle.piece_answers.specs.declared.answer.Stop.{Stop}
use Rattle.piece_answers.specs.Covers.{Covers}
use Rattle.piece_answers.specs.Flush.{stop_end}
use Rattle.piece_answers.specs.Place.{IsCutAs, IsStoppedAs}
use Rattle.cache_answers.specs.declared.answers.Refusal.{Refusal}
use Rattle.stripe_core.specs.declared.stripe.Stripe.{Stripe}
use Rattle.stripe_core.specs.Between.{RestsWith}
use Rattle.stripe_answers.specs.Counts.{IsCounted}
use Rattle.stripe_core.specs.Stripe.{AnswersOrWants, kept_in, seen_in, state_in, units_in}
use Rattle.stripe_write.specs.declared.writer.Writer.{Writer}
use Rattle.stripe_write.specs.Closing.{SpendsAll}
use Rattle.stripe_answers.specs.Numbers.{StopsExhausted}
use Rattle.stripe_write.specs.Writes.{SameButBytes, SameWriter, next_start}
use Rattle.cache_calls.specs.Actors.{IsWriterOf}
use Rattle.cache_calls.specs.Asked.{rows_at_close, rest_asks}
use Rattle.cache_calls.specs.Writers.{piece_cut_next}
use Rattle.cache_calls.specs.Standing.{IsToldNext}
use Rattle.stripe_write.specs.Writers.{written_as}

-- the records of these bytes, where there are some: a cut, or why there is none
abbrev pub IsRestAs : Bool → State → ℕ → Writer → List ℕ → List Rec → Result (Unit {0}) Stop → Type 0
IsRestAs packed s faults w [] added result = added ≡ []
IsRestAs packed s faults w (byte ∷ bytes) added (Ok u) = (placed : Placed) × IsCutAs packed s (piece_cut_next (written_as w)) w.pin (next_start w) (byte ∷ bytes) added placed
IsRestAs packed s faults w (byte ∷ bytes) added (Err why) = IsStoppedAs s faults (byte ∷ bytes) added why

-- the rest is cut, or there was none; or the tape stopped it
abbrev pub rest_end : Result (Unit {0}) Stop → End
rest_end (Ok u) = Done
rest_end (Err why) = stop_end why

-- the rest is cut at a moment, over a device that had made these calls before, and that stands so then, or why it
-- is not
pub record RestsAsAsked (packed : Bool) (now : ℕ) (old new : Kept) (before : List Call) (after : Device) (w : Writer) (result : Result (Unit {0}) Stop) : Type 0 where
  pub added : List Rec
  pub adds : new ≡ with_records old added
  pub shape : IsRestAs packed (state_of old) after.faults w w.gathered.items added result
  pub does : (p : Permit) → p.packed ≡ packed → p.now ≡ now → Covers p before after.past → SpendsAll p (state_of old) (rest_asks (written_as w) w.gathered.items) added (rest_end result)

-- ---- what a stripe makes of it

module _ {D R C : Type 0} {d : DiskGhosts D} {r : DirectoryGhosts R} {c : ChronicleGhosts C} where
  -- what cutting the rest comes to at a moment, for a writer that was so and is so then
  pub record CutsLastInStripe (packed : Bool) (now : ℕ) (old new : Stripe D R C d r c) (was later : Writer)
      (result : Result (Unit {0}) Refusal) : Type 0 where
    pub rests : RestsWith (λ contents. OnOk result
        (0 < length was.gathered.items → IsToldNext (written_as was) was.gathered.items contents)) old new
    pub counts : IfErr result (IsCounted (seen_in new).device.faults)
    pub unit : units_in old ≤ units_in new + 1
    -- memory is not wanting, and no other refusal comes
    pub does : AnswersOrWants result
        (RestsAsAsked packed now (kept_in old) (kept_in new) (seen_in old).device.past (seen_in new).device was) ⊥
    pub some : OnErr result (0 < length was.gathered.items)
    pub number : IfErr result (StopsExhausted (state_in new) (length was.gathered.items))
    pub writer : IsWriterOf (state_in new) (written_as later)
    pub is_open : OnOk result (is_writing (state_in new) later.put ≡ true)
    pub rows : OnOk result (later.table.rows ≡ rows_at_close (written_as was))
    pub empty : OnOk result (later.gathered.items ≡ [])
    pub rest : SameButBytes was later
    pub same : OnErr result (SameWriter was later)
