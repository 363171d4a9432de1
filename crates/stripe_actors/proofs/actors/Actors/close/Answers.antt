use Rattle.std.proofs.Common.{sym, subst}
use Rattle.cache_model.specs.State.{Closed}
use Rattle.stripe_actors.specs.Actors.{ActorsSeen, AreActors, phase_of_put}
use Rattle.stripe_actors.proofs.Closing.{ended_numbered}
use Rattle.stripe_actors.proofs.InStep.{closed_in_step}
use Rattle.stripe_actors.proofs.actors.Actors.close.Goals as goal

pub invariant_of-self : goal.invariant_of-self
invariant_of-self c =
    let is = rw c.unwrap.ensures at c.close.ensures.ok in
    ended_numbered c.self.inside.open c.close.new.self c.self.inside.next_put c.self.inside.next_reader c.args.put (phase_of_put Closed) is c.self.invariant

pub returns-clause-commits : goal.returns-clause-commits
returns-clause-commits c key length list s h =
    let is = rw c.unwrap.ensures at c.close.ensures.ok in
    closed_in_step s c.self.inside.open c.close.new.self c.self.inside.next_put c.self.inside.next_reader c.args.put key length list c.self.invariant.puts is
    (subst (λ (a : ActorsSeen). AreActors s a) (sym c.self.view_is) h)
