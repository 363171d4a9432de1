use Rattle.std.proofs.Common.{sym, subst}
use Rattle.cache_model.specs.Legal.{answer_record}
use Rattle.cache_model.specs.State.{state_after}
use Rattle.stripe_actors.specs.Actors.{AreActors}
use Rattle.stripe_core.proofs.acting.go_on.Goals as goal

pub returns-in-Gave-clause-keeps : goal.returns-in-Gave-clause-keeps
returns-in-Gave-clause-keeps c = λ s a.
    subst (λ answer. AreActors (state_after s (answer_record c.args.reader answer)) c.gave.new.self) (sym c.in-Gave.is) (c.gave.ensures.gave c.in-Gave.length s a)
