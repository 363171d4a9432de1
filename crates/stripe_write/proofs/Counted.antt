-- What a refusal of the device tells of its count.
use Rattle.std.proofs.Common.{◌≡◌, ℕ, ◌≤◌, List, subst, arith}
use Rattle.std.specs.Prelude.{Bool, Some, Result, Ok, Err, IfErr}
use Rattle.tape_base.specs.declared.keys.Key.{Key}
use Rattle.tape_base.specs.declared.pieces.PieceId.{PieceId}
use Rattle.device_log.specs.Calls.{Call}
use Rattle.logged_disk.specs.Device.{DeviceState as Device}
use Rattle.cache_model.specs.declared.cause.Cause.TheVariants as cause
use Rattle.cache_model.specs.State.{State}
use Rattle.cache_model.specs.Kept.{Kept, state_of, with_records}
use Rattle.piece_answers.specs.declared.answer.Placed.{Placed}
use Rattle.cache_answers.specs.declared.answers.Refusal.{Refusal}
use Rattle.cache_answers.specs.declared.answers.Refusal.TheVariants as refusal
use Rattle.stripe_answers.specs.Counts.{IsCounted}
use Rattle.piece_answers.specs.Flush.{StopsWith}
use Rattle.piece_answers.specs.Place.{CutsAsAsked, PlacesVector}
use Rattle.stripe_core.specs.Stripe.{AnswersOrWants}
use Rattle.stripe_vectors.specs.declared.reading.KeyVector.{KeyVector}
use Rattle.stripe_vectors.specs.declared.reading.KeyVector.TheVariants as found
use Rattle.stripe_vectors.specs.Reading.{FindsVector, vector_adds}
use Rattle.stripe_vectors.proofs.Counting.{missed_counted}
use Rattle.stripe_write.specs.Weighing.{fault_in}

-- of a flush for room
pub stops_counted : (s : State) (faults : ℕ) (r : Result (Unit {0}) Refusal) → AnswersOrWants r (λ x. IfErr x (StopsWith s faults)) ⊥ → IfErr r (IsCounted faults)
stops_counted s faults (Ok x) h = tt
stops_counted s faults (Err (refusal.DeviceFault count)) h = omega (arith, h)
stops_counted s faults (Err _) h = tt

-- of a fragment
pub cut_counted : (packed : Bool) (now : ℕ) (old new : Kept) (before : List Call) (after : Device) (id : PieceId) (pin start : ℕ) (payload : List ℕ) (wanting : Type 0) (r : Result Placed Refusal)
    → AnswersOrWants r (CutsAsAsked packed now old new before after id pin start payload) wanting → IfErr r (IsCounted after.faults)
cut_counted packed now old new before after id pin start payload wanting (Ok x) h = tt
cut_counted packed now old new before after id pin start payload wanting (Err (refusal.DeviceFault count)) h = let is : count ≡ after.faults = h.shape.why_is.0 in omega (arith, is)
cut_counted packed now old new before after id pin start payload wanting (Err _) h = tt

-- of a vector, for which the device is not asked
pub vector_counted : (packed : Bool) (old new : Kept) (before after : List Call) (faults : ℕ) (id : PieceId) (pin start : ℕ) (payload : List ℕ) (wanting : Type 0) (r : Result Placed Refusal)
    → AnswersOrWants r (PlacesVector packed old new before after id pin start payload) wanting → IfErr r (IsCounted faults)
vector_counted packed old new before after faults id pin start payload wanting (Ok x) h = tt
vector_counted packed old new before after faults id pin start payload wanting (Err (refusal.DeviceFault count)) h = absurd h.places.at
vector_counted packed old new before after faults id pin start payload wanting (Err _) h = tt

-- of a key's vector that was read
pub read_counted : (k new : Kept) (before after : Device) (key : Key) (found : KeyVector) (count : ℕ) → fault_in found ≡ Some count → new ≡ with_records k (vector_adds (state_of k) key found)
    → (state_of new).fault ≤ after.faults → FindsVector (state_of k) before after key found → count ≤ after.faults
read_counted k new before after key (found.Trouble (cause.DeviceFault n)) count is adds reached f =
    let same : n ≡ count = cc in
    let counted : n ≤ after.faults = missed_counted k new before after key (cause.DeviceFault n) adds reached f in
    subst (λ m. m ≤ after.faults) same counted
read_counted k new before after key (found.Trouble _) count is adds reached f = cc
read_counted k new before after key (found.Read list) count is adds reached f = cc
read_counted k new before after key found.Absent count is adds reached f = cc
