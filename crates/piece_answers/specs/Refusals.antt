-- How a call is refused that the tape stopped.
use Rattle.piece_answers.specs.declared.answer.Stop.{Stop}
use Rattle.piece_answers.specs.declared.answer.Stop.TheVariants as stop
use Rattle.cache_answers.specs.declared.answers.Refusal.{Refusal}
use Rattle.cache_answers.specs.declared.answers.Refusal.TheVariants as refusal

-- the refusal of a call that the tape stopped
abbrev pub refusal_of : Stop → Refusal
refusal_of (stop.DeviceFault count) = refusal.DeviceFault count
refusal_of (stop.Exhausted number) = refusal.Exhausted number
