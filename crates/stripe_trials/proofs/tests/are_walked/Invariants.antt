use Rattle.stripe_core.specs.Between.{IsResting}
use Rattle.stripe_trials.proofs.tests.are_walked.Given as goal

abbrev pub invariant-loop-number : goal.invariant-loop-number
invariant-loop-number l = IsResting l.stripe
