-- What a call answers, behind the unit of memory that it takes first.
use Rattle.std.proofs.Common.{◌≡◌, List, Result, Ok, Err, subst}
use Rattle.device_log.specs.Calls.{Call}
use Rattle.cache_model.specs.Kept.{Kept}
use Rattle.piece_answers.specs.declared.answer.Stop.{Stop}
use Rattle.piece_answers.specs.declared.answer.Stop.TheVariants as stop
use Rattle.cache_answers.specs.declared.answers.Refusal.{Refusal}
use Rattle.cache_answers.specs.declared.answers.Refusal.TheVariants as refusal
use Rattle.piece_answers.specs.Refusals.{refusal_of}
use Rattle.stripe_core.specs.Stripe.{AnswersOrWants, HasMemory, Wanting}

-- a unit that is taken leaves the records, and asks no device
pub behind_unit : (P : Kept → List Call → Type 0) (taken old : Kept) (before first : List Call) → taken ≡ old → before ≡ first → P taken before → P old first
behind_unit P taken old before first records past h = subst (λ k. P k first) records (subst (P taken) past h)

-- where the tape stops a call, memory is not wanting
pub stop_has_memory : (X : Type 0) (why : Stop) → HasMemory {X = X} (Err (refusal_of why))
stop_has_memory X (stop.DeviceFault count) = tt
stop_has_memory X (stop.Exhausted number) = tt

pub stop_wants_none : (X : Type 0) (why : Stop) (holds : Type 0) → Wanting {X = X} (Err (refusal_of why)) holds
stop_wants_none X (stop.DeviceFault count) holds = tt
stop_wants_none X (stop.Exhausted number) holds = tt

-- nor where nothing may hold then
pub never_wants : {X : Type 0} (r : Result X Refusal) (answers : Result X Stop → Type 0) → AnswersOrWants r answers ⊥ → HasMemory r
never_wants (Err (refusal.Memory e)) answers h = absurd h
never_wants (Ok x) answers h = tt
never_wants (Err _) answers h = tt
