use Rattle.std.proofs.Common.{ap, sym, subst}
use Rattle.stripe_actors.specs.Actors.{ActorsSeen, AreActors}
use Rattle.stripe_actors.proofs.Closing.{missed_numbered}
use Rattle.stripe_actors.proofs.InStep.{missed_in_step}
use Rattle.stripe_actors.proofs.actors.Actors.miss.Goals as goal

pub invariant_of-self : goal.invariant_of-self
invariant_of-self c = missed_numbered c.self.inside.open c.self.inside.next_put c.self.inside.next_reader c.self.invariant

pub returns-clause-misses : goal.returns-clause-misses
returns-clause-misses c = record {
  number = ap (λ (a : ActorsSeen). a.next_reader) c.self.view_is;
  missed = λ who key request why s h.
      missed_in_step s c.self.inside.open c.self.inside.next_put c.self.inside.next_reader who key request why (subst (λ (a : ActorsSeen). AreActors s a) (sym c.self.view_is) h);
}
