-- Which number a call tells, where a piece has no place any more.
use Rattle.std.specs.Prelude.{ℕ}
use Rattle.cache_model.specs.State.{State}
use Rattle.cache_answers.specs.declared.answers.Refusal.{Refusal}
use Rattle.cache_answers.specs.declared.answers.Refusal.TheVariants as refusal
use Rattle.cache_model.specs.Limits.{ReachesLimit}

-- a call that stops at the limit, when a piece of so many bytes was to be placed, tells that number
abbrev pub StopsExhausted : State → ℕ → Refusal → Type 0
StopsExhausted t bytes (refusal.Exhausted number) = ReachesLimit t bytes number
StopsExhausted t bytes _ = Unit {0}
