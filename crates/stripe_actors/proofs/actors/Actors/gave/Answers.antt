use Rattle.std.proofs.Common.{sym, subst}
use Rattle.stripe_actors.specs.Actors.{ActorsSeen, AreActors}
use Rattle.stripe_actors.proofs.Closing.{moved_numbered}
use Rattle.stripe_actors.proofs.InStep.{gave_in_step}
use Rattle.stripe_actors.proofs.actors.Actors.gave.Goals as goal

pub invariant_of-self : goal.invariant_of-self
invariant_of-self c = moved_numbered c.self.inside.open c.set_reader.new.self c.self.inside.next_put c.self.inside.next_reader c.args.reader _ c.set_reader.ensures.moved c.self.invariant

pub returns-clause-gave : goal.returns-clause-gave
returns-clause-gave c length s h =
    gave_in_step s c.self.inside.open c.set_reader.new.self c.self.inside.next_put c.self.inside.next_reader c.args.reader c.args.index length c.set_reader.ensures.moved
    (subst (λ (a : ActorsSeen). AreActors s a) (sym c.self.view_is) h)
