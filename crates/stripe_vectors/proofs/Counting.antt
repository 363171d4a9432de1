-- The count that trouble with a piece tells: behind its record it is the count of the last fault.
use Rattle.std.proofs.Common.{◌≡◌, ℕ, ◌≤◌, ◌∙◌, ap, subst}
use Rattle.std.specs.Prelude.{Option, Some, None}
use Rattle.tape_base.specs.declared.keys.Key.{Key}
use Rattle.logged_disk.specs.Device.{DeviceState as Device}
use Rattle.cache_model.specs.declared.cause.Cause.{Cause}
use Rattle.cache_model.specs.declared.cause.Cause.TheVariants as cause
use Rattle.cache_model.specs.State.{Row, State, after_all}
use Rattle.cache_model.specs.Kept.{Kept, state_of, with_records}
use Rattle.cache_model.specs.Verdict.{live_vector_of}
use Rattle.cache_model.proofs.Steps.{after_all-append}
use Rattle.stripe_answers.specs.Counts.{CauseIsCounted}
use Rattle.cache_model.specs.Troubles.{cause_records}
use Rattle.piece_answers.proofs.Covering.{own_covers, own_permit}
use Rattle.stripe_vectors.specs.declared.reading.KeyVector.TheVariants as answer
use Rattle.stripe_vectors.specs.Reading.{FindsVector, IsVectorFound, trouble_records, vector_adds}

pub cause_counted : (s : State) (row : Row) (why : Cause) (faults : ℕ) → (after_all s (cause_records row why)).fault ≤ faults → CauseIsCounted faults why
cause_counted s row (cause.DeviceFault count) faults reached = reached
cause_counted s row _ faults reached = tt

-- so it is of a vector, where the device has come to the count of the last fault
pub missed_counted : (k new : Kept) (before after : Device) (key : Key) (why : Cause) → new ≡ with_records k (vector_adds (state_of k) key (answer.Trouble why)) → (state_of new).fault ≤ after.faults
    → FindsVector (state_of k) before after key (answer.Trouble why) → CauseIsCounted after.faults why
missed_counted k new before after key why adds reached finds =
    by (live_vector_of (state_of k) key)
    (subst (λ (t : State). t.fault ≤ after.faults) (ap state_of adds ∙ after_all-append k.base k.since (vector_adds (state_of k) key (answer.Trouble why))) reached)
    (finds.answers (own_permit 0 before.past after.past) (own_covers 0 before.past after.past))
  where
    by : (o : Option Row) → (after_all (state_of k) (trouble_records o (answer.Trouble why))).fault ≤ after.faults → IsVectorFound (own_permit 0 before.past after.past) (state_of k) o (answer.Trouble why)
        → CauseIsCounted after.faults why
    by None last h = absurd h
    by (Some row) last h = cause_counted (state_of k) row why after.faults last
