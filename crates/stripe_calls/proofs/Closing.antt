-- A writer closes.
use Rattle.std.proofs.Common.{◌≡◌, ℕ, ◌==◌, true, false, Bool, List, [], ◌∷◌, ◌++◌, refl, sym, ◌∙◌, ap, subst, Result, Ok, Err, inl, inr, length}
use Rattle.std.specs.Prelude.{IfErr, Some, if◌then◌else◌, option_and_then}
use Rattle.alternate_vector.specs.Alternates.{Stored, vector_size}
use Rattle.fragment_table.specs.Table.{TableRow, total_length}
use Rattle.logged_disk.specs.Device.{DeviceState as Device}
use Rattle.cache_model.specs.declared.record.Rec.{Rec}
use Rattle.cache_model.specs.State.{PutRow, Row, State, put_of}
use Rattle.cache_model.specs.Kept.{Kept, state_of}
use Rattle.cache_model.specs.Legal.{is_writing, vector_length}
use Rattle.cache_model.specs.Permit.{Commit, Exhausted, Faulted, Finish, Intent, Lost, Permit, TooLarge, Weigh}
use Rattle.cache_model.specs.ToRead.{to_read}
use Rattle.cache_model.specs.Vectors.{AreTold, IsVectorAs}
use Rattle.cache_model.specs.Verdict.{cuts_of, live_vector_of}
use Rattle.call_laws.specs.Untold.{Untold}
use Rattle.cache_model.specs.Contents.{Contents}
use Rattle.call_laws.specs.Moments.{At}
use Rattle.call_laws.specs.Progress.{AllDone, Leaves, Progress, Spends, Stops}
use Rattle.call_laws.specs.Serves.{ServesFrom}
use Rattle.cache_answers.specs.declared.answers.Refusal.{Refusal}
use Rattle.cache_answers.specs.declared.answers.Refusal.TheVariants as refusal
use Rattle.stripe_answers.specs.Counts.{IsCounted}
use Rattle.piece_answers.specs.Faults.{IsAccounted}
use Rattle.cache_answers.specs.declared.answers.Receipt.{Receipt}
use Rattle.stripe_write.specs.declared.writer.Writer.{Writer}
use Rattle.stripe_write.specs.Closes as closes
use Rattle.stripe_write.specs.Closes.{ClosesAsAsked, ClosesWhere}
use Rattle.stripe_write.specs.Closing as closing
use Rattle.stripe_answers.specs.Faults.{RefusalHasRecord}
use Rattle.stripe_answers.specs.Numbers as numbers
use Rattle.stripe_write.specs.Writers as writers
use Rattle.stripe_core.proofs.Between.{accounted_none}
use Rattle.stripe_write.proofs.Ended.{open_put}
use Rattle.stripe_write.proofs.Spending.{nothing_more}
use Rattle.cache_model.specs.Subjects.{IsOfPut}
use Rattle.cache_calls.specs.Adds.{AddsOnly}
use Rattle.cache_calls.specs.Asked.{close_asks, ending_asks, progress_at}
use Rattle.cache_calls.specs.Writers.{Closes, NumberAtClose, SealsWhere, StopsAtLimit, WriterCloses, bytes_next}
use Rattle.stripe_calls.specs.Seen.{at_by}
use Rattle.stripe_calls.proofs.Serving.{all_left, one_stays, same_added, serves_by, shows_asked, spends_done, spends_fails}
use Rattle.cache_calls.specs.Actors.{IsWriterOf}
use Rattle.stripe_write.specs.Writers.{written_as}

-- ---- the number at the end of the tape

abbrev Numbered : State → Writer → Result Receipt Refusal → Type 0
Numbered t w result = IfErr result (StopsAtLimit t (bytes_next t (written_as w)))

number_at : (t : State) (w : Writer) (result : Result Receipt Refusal)
    → IfErr result (numbers.StopsExhausted t (bytes_next t (written_as w)))
    → Numbered t w result
number_at t w (Ok given) h = tt
number_at t w (Err (refusal.Exhausted number)) h = h
number_at t w (Err refusal.TooManyWriters) h = tt
number_at t w (Err refusal.TooManyFragments) h = tt
number_at t w (Err (refusal.VectorTooLarge bytes)) h = tt
number_at t w (Err (refusal.Lost index why)) h = tt
number_at t w (Err (refusal.DeviceFault count)) h = tt
number_at t w (Err refusal.Sealed) h = tt
number_at t w (Err refusal.NoSuchWriter) h = tt
number_at t w (Err (refusal.Memory error)) h = tt

-- ---- what it serves

-- the key's vector is read for what is asked first
weighs : (s : State) (w : Writer) (row : PutRow) (rest : ℕ) → put_of s w.put ≡ Some row → row.key ≡ w.key → (vector : Row)
    → live_vector_of s w.key ≡ Some vector → to_read s (Weigh w.put rest) ≡ Some vector
weighs s w row rest found key vector live =
    ap (λ o. option_and_then (λ (x : PutRow). live_vector_of s x.key) o) found ∙ (ap (live_vector_of s) key ∙ live)

module _ (packed : Bool) (k l : Kept) (d e : Device) (now : ℕ) (w : Writer) (accounted : IsAccounted d.past e.past k l) where
  abbrev Served : List Intent → Progress → Result Receipt Refusal → Type 0
  Served asked o result =
      ServesFrom (Untold e IsVectorAs) now (at_by packed k d) (at_by packed l e) asked o AreTold (NumberAtClose (written_as w) result)

  -- what is asked of an open put comes there, in each step that covers the call; or a pair is shown
  comes : (o : Progress) (result : Result Receipt Refusal) → IsWriterOf (state_of k) (written_as w) → is_writing (state_of k) w.put ≡ true
      → ((p : Permit) (added : List Rec) → closes.Spent p (state_of k) w result added → Spends p (state_of k) (ending_asks (written_as w)) added o)
      → ClosesAsAsked packed now d.past e k l w result → Served (ending_asks (written_as w)) o result
  comes o result own writing law h =
      let row = open_put (put_of (state_of k) w.put) writing in
      serves_by accounted (ending_asks (written_as w)) o AreTold accounted.added accounted.adds
      (λ p packs moment step told. elim (h.does p packs moment step told) [
        | inl closed ↦ inl (
          law p accounted.added (subst (closes.Spent p (state_of k) w result) (same_added k l closed.added accounted.added closed.adds accounted.adds) closed.does),
          number_at (state_of l) w result closed.number,
        )
        | inr pair ↦ inr (shows_asked _ accounted.added
            (λ vector live. weighs (state_of k) w row.0 (length w.gathered.items) row.1 (own row.0 row.1 row.2).key_is vector live) pair)
      ])

  abbrev own_asks : List Intent
  own_asks = close_asks (state_of k) (written_as w)

  -- of a put that is open
  opened : (o : Progress) (result : Result Receipt Refusal) → is_writing (state_of k) w.put ≡ true → Served (ending_asks (written_as w)) o result
      → Served own_asks o result
  opened o result writing h = subst (λ is. Served is o result) (ap (λ b. if b then ending_asks (written_as w) else []) (sym writing)) h

  -- want of memory leaves all of it
  wanting : (result : Result Receipt Refusal) → is_writing (state_of k) w.put ≡ true → Served (ending_asks (written_as w)) (Leaves (ending_asks (written_as w))) result
      → Served own_asks (Leaves own_asks) result
  wanting result writing h =
      let first : ending_asks (written_as w) ≡ own_asks = ap (λ b. if b then ending_asks (written_as w) else []) (sym writing) in
      subst (λ left. Served own_asks (Leaves left) result) first (opened (Leaves (ending_asks (written_as w))) result writing h)

  pub close_serves : (result : Result Receipt Refusal) → IsWriterOf (state_of k) (written_as w) → is_writing (state_of k) w.put ≡ true
      → ClosesWhere (state_of k) (state_of l) w result → ClosesAsAsked packed now d.past e k l w result
      → Served own_asks (progress_at w.put own_asks result) result
  close_serves (Ok given) own writing is h =
      opened AllDone (Ok given) writing (comes AllDone (Ok given) own writing (λ p added. spends_done p (state_of k) (ending_asks (written_as w)) added) h)
  close_serves (Err (refusal.VectorTooLarge bytes)) own writing is h =
      opened (Stops (TooLarge w.put bytes)) (Err (refusal.VectorTooLarge bytes)) writing (comes (Stops (TooLarge w.put bytes)) (Err (refusal.VectorTooLarge bytes)) own writing (λ p added. spends_fails (TooLarge w.put bytes)) h)
  close_serves (Err (refusal.Lost index why)) own writing is h =
      opened (Stops (Lost w.put index)) (Err (refusal.Lost index why)) writing (comes (Stops (Lost w.put index)) (Err (refusal.Lost index why)) own writing (λ p added. spends_fails (Lost w.put index)) h)
  close_serves (Err (refusal.DeviceFault count)) own writing is h =
      opened (Stops (Faulted count)) (Err (refusal.DeviceFault count)) writing (comes (Stops (Faulted count)) (Err (refusal.DeviceFault count)) own writing (λ p added. spends_fails (Faulted count)) h)
  close_serves (Err (refusal.Exhausted number)) own writing is h =
      opened (Stops Exhausted) (Err (refusal.Exhausted number)) writing (comes (Stops Exhausted) (Err (refusal.Exhausted number)) own writing (λ p added. spends_fails Exhausted) h)
  close_serves (Err (refusal.Memory error)) own writing is h =
      wanting (Err (refusal.Memory error)) writing (comes (Leaves (ending_asks (written_as w))) (Err (refusal.Memory error)) own writing (λ p added. one_stays _) h)
  close_serves (Err refusal.NoSuchWriter) own writing is h = let clash : true ≡ false = sym writing ∙ is in cc
  close_serves (Err _) own writing is h = absurd is

  -- of one that is not nothing is asked
  pub not_open_serves : is_writing (state_of k) w.put ≡ false → l ≡ k → Served own_asks (Leaves own_asks) (Err refusal.NoSuchWriter)
  not_open_serves none same = all_left accounted own_asks AreTold same tt

-- nothing was done
pub nothing_closed : (k : Kept) (d : Device) → IsAccounted d.past d.past k k
nothing_closed k d = accounted_none d.past d.past k k refl refl

pub none_added : (put : ℕ) (a : At) → AddsOnly (IsOfPut put) a a
none_added put a = record { added = []; adds = sym (nothing_more a.kept); own = tt }

-- ---- what it gives

module _ (packed : Bool) (k l : Kept) (d e : Device) (w : Writer) where
  pub close_gives : (result : Result Receipt Refusal) → is_writing (state_of k) w.put ≡ true → ClosesWhere (state_of k) (state_of l) w result
      → IfErr result (IsCounted e.faults) → IfErr result (RefusalHasRecord k l) → Closes (at_by packed k d) (at_by packed l e) (written_as w) result
  close_gives (Ok given) writing is counts recorded = (is.0, is.1)
  close_gives (Err (refusal.VectorTooLarge bytes)) writing is counts recorded = (is.0, (is.1, is.2))
  close_gives (Err (refusal.Lost index why)) writing is counts recorded = (is.0, is.1)
  close_gives (Err (refusal.DeviceFault count)) writing is counts recorded =
      (is, record { reached = counts; added = recorded.added; adds = recorded.adds; among = recorded.among })
  close_gives (Err (refusal.Exhausted number)) writing is counts recorded = (is.0, is.1)
  close_gives (Err (refusal.Memory error)) writing is counts recorded = (is, tt)
  close_gives (Err refusal.NoSuchWriter) writing is counts recorded = let clash : true ≡ false = sym writing ∙ is in cc
  close_gives (Err _) writing is counts recorded = absurd is

-- ---- the writer

seals_as : (old new : Writer) (result : Result Receipt Refusal) → closes.SealsInStripeWhere old new result
    → SealsWhere (written_as old) (written_as new) result
seals_as old new (Ok given) h = tt
seals_as old new (Err (refusal.DeviceFault count)) h = h
seals_as old new (Err (refusal.Exhausted number)) h = h
seals_as old new (Err (refusal.Memory error)) h = h.sealed
seals_as old new (Err refusal.TooManyWriters) h = tt
seals_as old new (Err refusal.TooManyFragments) h = tt
seals_as old new (Err (refusal.VectorTooLarge bytes)) h = tt
seals_as old new (Err (refusal.Lost index why)) h = tt
seals_as old new (Err refusal.Sealed) h = tt
seals_as old new (Err refusal.NoSuchWriter) h = tt

pub writer_closes : (t : State) (old new : Writer) (result : Result Receipt Refusal) → IsWriterOf t (written_as new) → closes.SealsInStripeWhere old new result
    → closes.IsRested old new → WriterCloses (written_as old) result t (written_as new)
writer_closes t old new result own seals rested = record {
  seals = seals_as old new result seals;
  rested = rested;
  writer = own;
}

-- one that does not close is as it was
pub writer_stays : (t : State) (w : Writer) → IsWriterOf t (written_as w)
    → WriterCloses (written_as w) (Err refusal.NoSuchWriter) t (written_as w)
writer_stays t w own = record { seals = tt; rested = inl (record { put = refl; gathered = refl; cuts = refl }); writer = own }
