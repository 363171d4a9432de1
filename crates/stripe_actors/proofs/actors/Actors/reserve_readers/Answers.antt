use Rattle.std.proofs.Common.{sym, subst}
use Rattle.stripe_actors.specs.Actors.{ActorsSeen, AreActors}
use Rattle.stripe_actors.proofs.Closing.{reader_room_numbered}
use Rattle.stripe_actors.proofs.InStep.{reader_room_in_step}
use Rattle.stripe_actors.proofs.actors.Actors.reserve_readers.Goals as goal

pub invariant_of-self : goal.invariant_of-self
invariant_of-self c =
    let new = c.reserve_readers.new.self in
    reader_room_numbered c.self.inside.open new c.self.inside.next_put c.self.inside.next_reader new.reader_room c.reserve_readers.ensures.rest c.self.invariant

pub returns-clause-step : goal.returns-clause-step
returns-clause-step c s h =
    let new = c.reserve_readers.new.self in
    reader_room_in_step s c.self.inside.open new c.self.inside.next_put c.self.inside.next_reader new.reader_room c.reserve_readers.ensures.rest
    (subst (λ (a : ActorsSeen). AreActors s a) (sym c.self.view_is) h)
