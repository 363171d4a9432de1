use Rattle.std.proofs.Common.{sym, subst}
use Rattle.stripe_actors.specs.Actors.{ActorsSeen, AreActors}
use Rattle.stripe_actors.proofs.Closing.{left_numbered}
use Rattle.stripe_actors.proofs.InStep.{left_in_step}
use Rattle.stripe_actors.proofs.actors.Actors.close_reader.Goals as goal

pub invariant_of-self : goal.invariant_of-self
invariant_of-self c = left_numbered c.self.inside.open c.drop_reader.new.self c.self.inside.next_put c.self.inside.next_reader c.args.reader c.drop_reader.new.self.reader_room c.drop_reader.ensures.gone c.self.invariant

pub returns-clause-closes : goal.returns-clause-closes
returns-clause-closes c s h =
    left_in_step s c.self.inside.open c.drop_reader.new.self c.self.inside.next_put c.self.inside.next_reader c.args.reader c.drop_reader.new.self.reader_room c.self.invariant.puts c.self.invariant.readers c.drop_reader.ensures.gone
    (subst (λ (a : ActorsSeen). AreActors s a) (sym c.self.view_is) h)
