-- The words of a stripe, as those of a cache.
use Rattle.std.proofs.Common.{◌≡◌, ℕ, Bool, List, refl, sym, ◌∙◌, inl, inr}
use Rattle.std.specs.Prelude.{IsSome, Option}
use Rattle.device_log.specs.Calls.{Call, Read}
use Rattle.logged_disk.specs.Device.{DeviceState as Device}
use Rattle.cache_model.specs.declared.cause.Cause.{Cause}
use Rattle.cache_model.specs.declared.cause.Cause.TheVariants as cause
use Rattle.cache_model.specs.declared.record.Rec.{Rec}
use Rattle.cache_model.specs.declared.record.Rec.TheVariants as rec
use Rattle.cache_model.specs.State.{Row, State}
use Rattle.cache_model.specs.Kept.{Kept, state_of}
use Rattle.cache_model.specs.Permit.{IsAmong}
use Rattle.cache_model.proofs.Steps.{all_as}
use Rattle.stripe_core.specs.Between.{IsBetween}
use Rattle.piece_answers.specs.Covers as covers
use Rattle.held_pieces.specs.Still.{IsStill}
use Rattle.stripe_answers.specs.Unharmed as unharmed
use Rattle.stripe_write.specs.Others as puts
use Rattle.stripe_write.specs.Writers as writers
use Rattle.stripe_read.specs.Troubles.{TroubleIsCounted}
use Rattle.call_laws.specs.Moments.{At}
use Rattle.cache_model.specs.Subjects.{IsOfPut}
use Rattle.cache_calls.specs.Adds.{AddsAll, AddsOnly}
use Rattle.cache_calls.specs.Keeping.{AreSeen, IsIdle, IsSeenOn, IsUnharmed, StaysUnharmed}
use Rattle.cache_calls.specs.Readers.{IsCountedCause}
use Rattle.stripe_calls.specs.Seen.{at_by}

-- ---- whose records there are

pub put_adds : {packed : Bool} {k l : Kept} {d e : Device} (put : ℕ) → puts.AddsOfPut put k l → AddsOnly (IsOfPut put) (at_by packed k d) (at_by packed l e)
put_adds put h = record { added = h.added; adds = h.adds; own = h.own }

-- ---- the frame

unharmed_as : {packed : Bool} {k : Kept} {d : Device} → unharmed.StripeIsUnharmed d (state_of k) → IsUnharmed (at_by packed k d)
unharmed_as h = record { unharmed = h.unharmed }

unharmed_is : {packed : Bool} {k : Kept} {d : Device} → IsUnharmed (at_by packed k d) → unharmed.StripeIsUnharmed d (state_of k)
unharmed_is h = record { unharmed = h.unharmed }

pub stays_unharmed : {packed : Bool} {k l : Kept} {d e : Device} → IsBetween d e k l → StaysUnharmed (at_by packed k d) (at_by packed l e)
stays_unharmed {packed} {k} {l} {d} {e} h = λ (u : IsUnharmed (at_by packed k d)). unharmed_as (h.unharmed (unharmed_is u))

pub is_idle : {packed : Bool} {k l : Kept} {d e : Device} → IsStill d e → IsIdle (at_by packed k d) (at_by packed l e)
is_idle h = record { past = h.past; faults = h.faults }

-- ---- what is seen

seen_on : (device : Device) (call : Call) → covers.ReadIsSeen device call → IsSeenOn device call
seen_on device (Read at bytes) h = h
seen_on device _ h = tt

pub are_seen : (packed : Bool) (k l : Kept) (d e : Device) → covers.AllReadIsSeen d e → AreSeen (at_by packed k d) (at_by packed l e)
are_seen packed k l d e h = λ made past trusted. all_as (covers.ReadIsSeen e) (IsSeenOn e) (seen_on e) made (h made past trusted)

-- ---- causes

-- a fault with a live piece is told, where these records were added, and it stands among them
pub counted_cause : (old new : At) (o : Option Row) (why : Cause) (added : Cause → List Rec) → TroubleIsCounted new.device.faults o why
    → AddsAll (added why) old new → ((count : ℕ) → IsSome o → IsAmong (rec.Fault count) (added (cause.DeviceFault count)))
    → IsCountedCause old new why
counted_cause old new o (cause.DeviceFault count) added counted adds among = record {
  reached = counted.0;
  added = added (cause.DeviceFault count);
  adds = adds;
  among = among count counted.1;
}
counted_cause old new o _ added counted adds among = tt
