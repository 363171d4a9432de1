-- An object is removed, and the buffer is written out.
use Rattle.std.proofs.Common.{◌≡◌, ℕ, Bool, ◌≤◌, true, List, [], ◌∷◌, refl, sym, ◌∙◌, subst, arith, Result, Ok, Err}
use Rattle.std.specs.Prelude.{IfErr, IfOk, OnErr, OnOk}
use Rattle.std.specs.declared.alloc.AllocError.{AllocError}
use Rattle.tape_base.specs.declared.keys.Key.{Key}
use Rattle.tape_base.specs.Geometry.{budget_of}
use Rattle.logged_disk.specs.Device.{DeviceState as Device}
use Rattle.cache_model.specs.declared.record.Rec.{Rec}
use Rattle.cache_model.specs.Kept.{Kept, state_of, with_records}
use Rattle.cache_model.specs.Legal.{IsQuiet}
use Rattle.cache_model.specs.Permit.{Done, Exhausted, Fails, Faulted, Flush, Remove}
use Rattle.cache_model.specs.Room.{is_flush_exhausted}
use Rattle.cache_model.specs.Vectors.{AreTold}
use Rattle.call_laws.specs.Serves.{ServesTold}
use Rattle.call_laws.proofs.Joined.{state_behind}
use Rattle.cache_answers.specs.declared.answers.Flushed.{Flushed}
use Rattle.cache_answers.specs.declared.answers.Refusal.{Refusal}
use Rattle.cache_answers.specs.declared.answers.Refusal.TheVariants as refusal
use Rattle.piece_answers.specs.declared.answer.Stop.{Stop}
use Rattle.piece_answers.specs.Faults.{IsAccounted}
use Rattle.piece_answers.specs.Flush as flush
use Rattle.piece_answers.specs.Flush.{AreOfFlush, FlushesAsAsked, StopsWith}
use Rattle.held_pieces.specs.Still.{IsStill}
use Rattle.stripe_core.specs.Stripe.{AnswersOrWants, Wanting}
use Rattle.cache_answers.specs.declared.answers.Removal.{Removal}
use Rattle.cache_answers.specs.declared.answers.Removal.TheVariants as removal
use Rattle.stripe_write.specs.Removals.{RemovesAsIsAsked, RemovesWhere, removal_adds}
use Rattle.stripe_write.proofs.Faulted.{alone, covers_alone, flush_recorded}
use Rattle.stripe_write.proofs.Flushed.{flush_leaves}
use Rattle.stripe_write.proofs.Spending.{nothing_more}
use Rattle.cache_model.specs.Subjects.{IsOfFlush}
use Rattle.cache_calls.specs.Adds.{AddsSoundly}
use Rattle.cache_calls.specs.Asked.{progress_at, unless_wanting}
use Rattle.cache_calls.specs.Plain.{Flushes, FlushesAs, Removes}
use Rattle.stripe_calls.specs.Seen.{at_by}
use Rattle.stripe_calls.proofs.Serving.{adds_none, all_left, group_serves}
use Rattle.stripe_calls.proofs.Words.{is_idle}

-- ---- an object is removed

module _ (packed : Bool) (k l : Kept) (d e : Device) (key : Key) where
  abbrev Added : Result Removal AllocError → Type 0
  Added result = IfOk result (λ answer. l ≡ with_records k (removal_adds key answer))

  pub remove_serves : (now : ℕ) → IsAccounted d.past e.past k l → (result : Result Removal AllocError) → Added result
      → IfOk result (RemovesAsIsAsked (state_of k) key) → OnErr result (l ≡ k)
      → ServesTold now (at_by packed k d) (at_by packed l e) (Remove key ∷ []) (unless_wanting (Remove key ∷ []) result)
  remove_serves now accounted (Ok answer) adds does same =
      group_serves accounted (Remove key) Done AreTold (removal_adds key answer) adds (λ p packs moment step. does p)
  remove_serves now accounted (Err error) adds does same = all_left accounted (Remove key ∷ []) AreTold same tt

  pub remove_gives : (result : Result Removal AllocError) → Added result → IfOk result (RemovesWhere (state_of k) key) → OnErr result (l ≡ k)
      → Removes (at_by packed k d) (at_by packed l e) key result
  remove_gives (Ok (removal.Removed put)) adds is same = (is, adds)
  remove_gives (Ok (removal.Absent why)) adds is same = (is.0, is.1, adds ∙ nothing_more k)
  remove_gives (Err error) adds is same = same

-- ---- the buffer is written out

module _ (packed : Bool) (k l : Kept) (d e : Device) (now : ℕ) where
  abbrev Does : Result Flushed Refusal → Type 0
  Does result = AnswersOrWants result (FlushesAsAsked now k l d.past e) (l ≡ k)

  abbrev Stops : Result Flushed Refusal → Type 0
  Stops result = AnswersOrWants result (λ r. IfErr r (StopsWith (state_of k) e.faults)) (Unit {0})

  pub flush_serves : IsAccounted d.past e.past k l → (result : Result Flushed Refusal) → Does result
      → ServesTold now (at_by packed k d) (at_by packed l e) (Flush ∷ []) (progress_at 0 (Flush ∷ []) result)
  flush_serves accounted (Ok flushed) h = group_serves accounted Flush Done AreTold h.added h.adds (λ p packs. h.does p)
  flush_serves accounted (Err (refusal.DeviceFault count)) h = group_serves accounted Flush (Fails (Faulted count)) AreTold h.added h.adds (λ p packs. h.does p)
  flush_serves accounted (Err (refusal.Exhausted number)) h = group_serves accounted Flush (Fails Exhausted) AreTold h.added h.adds (λ p packs. h.does p)
  flush_serves accounted (Err (refusal.Memory error)) h = all_left accounted (Flush ∷ []) AreTold h tt
  flush_serves accounted (Err _) h = absurd h

  sound : (r : Result Flushed Stop) → FlushesAsAsked now k l d.past e r → AddsSoundly IsOfFlush (at_by packed k d) (at_by packed l e)
  sound r h = record { added = h.added; adds = h.adds; own = h.kinds; undamaged = h.unharmed }

  pub flush_owns : (result : Result Flushed Refusal) → Does result → AddsSoundly IsOfFlush (at_by packed k d) (at_by packed l e)
  flush_owns (Ok flushed) h = sound _ h
  flush_owns (Err (refusal.DeviceFault count)) h = sound _ h
  flush_owns (Err (refusal.Exhausted number)) h = sound _ h
  flush_owns (Err (refusal.Memory error)) h = record { added = []; adds = adds_none k l h; own = tt; undamaged = λ told. tt }
  flush_owns (Err _) h = absurd h

  answers : (result : Result Flushed Refusal) → Does result → IfOk result (flush.TellsFlush (state_of k) (state_of l))
      → OnOk result ((state_of l).filled ≤ budget_of (state_of l).geometry) → Stops result → Wanting result (IsStill d e)
      → FlushesAs (at_by packed k d) (at_by packed l e) result
  answers (Ok flushed) h tells room stops still =
      (record { blocks = tells.blocks; cursor = tells.cursor; floor = tells.floor; room = room }, h.live)
  answers (Err (refusal.DeviceFault count)) h tells room stops still = record {
    count_is = stops;
    told = record {
      reached = omega (arith, stops);
      added = h.added;
      adds = h.adds;
      among = flush_recorded count refl refl (h.does (alone packed now d.past e.past) refl (covers_alone packed now d.past e.past));
    };
    stops = record {
      flush = record { added = h.added; adds = h.adds; own = h.kinds };
      live = h.live;
    };
  }
  answers (Err (refusal.Exhausted number)) h tells room stops still = (stops.0, stops.1, h.live)
  answers (Err (refusal.Memory error)) h tells room stops still = (h, is_idle still)
  answers (Err _) h tells room stops still = absurd h

  pub flush_gives : (result : Result Flushed Refusal) → Does result → IfOk result (flush.TellsFlush (state_of k) (state_of l))
      → OnOk result ((state_of l).filled ≤ budget_of (state_of l).geometry) → Stops result → Wanting result (IsStill d e)
      → ((state_of k).filled ≡ 0 → IsStill d e) → (is_flush_exhausted (state_of k) ≡ true → IsStill d e)
      → Flushes (at_by packed k d) (at_by packed l e) result
  flush_gives result h tells room stops wanting still ended = record {
    answers = answers result h tells room stops wanting;
    still = λ empty. is_idle (still empty);
    ended = λ over. is_idle (ended over);
  }

  -- no vector waits behind it
  quiet_behind : (added : List Rec) → l ≡ with_records k added → AreOfFlush added → IsQuiet (state_of k) → IsQuiet (state_of l)
  quiet_behind added adds kinds quiet =
      subst IsQuiet (sym (state_behind k l added adds)) ((flush_leaves (state_of k) added kinds).pending ∙ quiet)

  pub flush_quiet : (result : Result Flushed Refusal) → Does result → IsQuiet (state_of k) → IsQuiet (state_of l)
  flush_quiet (Ok flushed) h quiet = quiet_behind h.added h.adds h.kinds quiet
  flush_quiet (Err (refusal.DeviceFault count)) h quiet = quiet_behind h.added h.adds h.kinds quiet
  flush_quiet (Err (refusal.Exhausted number)) h quiet = quiet_behind h.added h.adds h.kinds quiet
  flush_quiet (Err (refusal.Memory error)) h quiet = subst (λ (x : Kept). IsQuiet (state_of x)) (sym h) quiet
  flush_quiet (Err _) h quiet = absurd h
