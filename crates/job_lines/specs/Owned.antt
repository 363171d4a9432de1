-- The steps of workers: an actor's name belongs to its worker.
use Rattle.std.specs.Prelude.{ℕ, List, ◌∷◌}
use Rattle.script_grammar.specs.declared.step.Step.{Step}
use Rattle.script_grammar.specs.declared.step.Step.TheVariants as step

-- The worker's number stands before the name. It is below 33, so no name of a script begins with it.
abbrev pub own_name : ℕ → List ℕ → List ℕ
own_name worker name = worker ∷ name

-- a step whose actor is the worker's own
abbrev pub own_step : ℕ → Step → Step
own_step worker (step.OpenWrite actor object pin request response) = step.OpenWrite (own_name worker actor) object pin request response
own_step worker (step.Feed actor body) = step.Feed (own_name worker actor) body
own_step worker (step.Close actor) = step.Close (own_name worker actor)
own_step worker (step.Abort actor) = step.Abort (own_name worker actor)
own_step worker (step.OpenRead actor object request) = step.OpenRead (own_name worker actor) object request
own_step worker (step.Next actor) = step.Next (own_name worker actor)
own_step worker (step.Done actor) = step.Done (own_name worker actor)
own_step worker s = s
