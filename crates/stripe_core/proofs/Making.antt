-- A flush that is asked for where a piece has no room, and that is refused, is refused as making room is.
use Rattle.std.proofs.Common.{◌≡◌, ℕ, List, false, Err}
use Rattle.std.specs.Prelude.{IfErr}
use Rattle.device_log.specs.Calls.{Call}
use Rattle.logged_disk.specs.Device.{DeviceState as Device}
use Rattle.cache_model.specs.State.{State}
use Rattle.cache_model.specs.Kept.{Kept, state_of}
use Rattle.cache_model.specs.Room.{has_room}
use Rattle.cache_answers.specs.declared.answers.Flushed.{Flushed}
use Rattle.cache_answers.specs.declared.answers.Refusal.{Refusal}
use Rattle.cache_answers.specs.declared.answers.Refusal.TheVariants as refusal
use Rattle.piece_answers.specs.declared.answer.Stop.TheVariants as stop
use Rattle.piece_answers.specs.Flush.{FlushesAsAsked, StopsWith}
use Rattle.piece_answers.specs.Place.{RoomsAsAsked}
use Rattle.stripe_core.specs.Stripe.{AnswersOrWants, HasMemory, Wanting}
use Rattle.piece_answers.proofs.Making.{stop_makes_none}

pub refusal_makes_none : (now : ℕ) (old new : Kept) (before : List Call) (after : Device) (bytes : ℕ) → has_room (state_of old) bytes ≡ false → (why : Refusal) (same : Type 0)
    → AnswersOrWants {X = Flushed} (Err why) (FlushesAsAsked now old new before after) same → AnswersOrWants {X = Unit {0}} (Err why) (RoomsAsAsked now old new before after bytes) same
refusal_makes_none now old new before after bytes none (refusal.DeviceFault count) same h = stop_makes_none now old new before after bytes none (stop.DeviceFault count) h
refusal_makes_none now old new before after bytes none (refusal.Exhausted number) same h = stop_makes_none now old new before after bytes none (stop.Exhausted number) h
refusal_makes_none now old new before after bytes none _ same h = h

-- why it stops says nothing of what it would have answered
pub stops_alike : (s : State) (faults : ℕ) (why : Refusal)
    → AnswersOrWants {X = Flushed} (Err why) (λ r. IfErr r (StopsWith s faults)) (Unit {0})
    → AnswersOrWants {X = Unit {0}} (Err why) (λ r. IfErr r (StopsWith s faults)) (Unit {0})
stops_alike s faults (refusal.DeviceFault count) stops = stops
stops_alike s faults (refusal.Exhausted number) stops = stops
stops_alike s faults (refusal.Memory e) stops = stops
stops_alike s faults refusal.TooManyWriters stops = stops
stops_alike s faults refusal.TooManyFragments stops = stops
stops_alike s faults (refusal.VectorTooLarge size) stops = stops
stops_alike s faults (refusal.Lost index why) stops = stops
stops_alike s faults refusal.Sealed stops = stops
stops_alike s faults refusal.NoSuchWriter stops = stops

-- and so does want of memory
pub wanting_alike : (why : Refusal) (P : Type 0) → Wanting {X = Flushed} (Err why) P → Wanting {X = Unit {0}} (Err why) P
wanting_alike (refusal.Memory e) P h = h
wanting_alike _ P h = tt

pub memory_alike : (why : Refusal) → HasMemory {X = Flushed} (Err why) → HasMemory {X = Unit {0}} (Err why)
memory_alike (refusal.Memory e) h = h
memory_alike _ h = tt
