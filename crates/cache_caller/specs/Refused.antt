-- What is left of a put that is refused.
use Rattle.std.specs.Prelude.{ℕ, ◌≡◌, false}
use Rattle.cache_model.specs.State.{State}
use Rattle.cache_model.specs.Legal.{is_writing}
use Rattle.cache_answers.specs.declared.answers.Refusal.{Refusal}
use Rattle.cache_answers.specs.declared.answers.Refusal.TheVariants as refusal

-- it is not open, unless memory was wanting
abbrev pub RefusedIsOver : State → ℕ → Refusal → Type 0
RefusedIsOver t put (refusal.Memory e) = Unit {0}
RefusedIsOver t put why = is_writing t put ≡ false
