use Rattle.std.proofs.Common.{sym, subst}
use Rattle.cache_model.specs.State.{GivenUp}
use Rattle.stripe_actors.specs.Actors.{ActorsSeen, AreActors, phase_of_put}
use Rattle.stripe_actors.proofs.Closing.{ended_numbered}
use Rattle.stripe_actors.proofs.InStep.{aborted_in_step}
use Rattle.stripe_actors.proofs.actors.Actors.abort.Goals as goal

pub invariant_of-self : goal.invariant_of-self
invariant_of-self c =
    let is = rw c.unwrap.ensures at c.abort.ensures.ok in
    ended_numbered c.self.inside.open c.abort.new.self c.self.inside.next_put c.self.inside.next_reader c.args.put (phase_of_put GivenUp) is c.self.invariant

pub returns-clause-ends : goal.returns-clause-ends
returns-clause-ends c key s h =
    let is = rw c.unwrap.ensures at c.abort.ensures.ok in
    aborted_in_step s c.self.inside.open c.abort.new.self c.self.inside.next_put c.self.inside.next_reader c.args.put key c.self.invariant.puts is
    (subst (λ (a : ActorsSeen). AreActors s a) (sym c.self.view_is) h)
