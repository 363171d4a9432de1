use Rattle.std.proofs.Common.{sym, subst}
use Rattle.open_directory.specs.Directory.{room_for_fragments}
use Rattle.stripe_actors.specs.Actors.{ActorsSeen, AreActors}
use Rattle.stripe_actors.proofs.Closing.{room_numbered}
use Rattle.stripe_actors.proofs.InStep.{room_in_step}
use Rattle.stripe_actors.proofs.actors.Actors.reserve_cut.Goals as goal

pub invariant_of-self : goal.invariant_of-self
invariant_of-self c =
    let new = c.reserve_cut.new.self in
    room_numbered c.self.inside.open new c.self.inside.next_put c.self.inside.next_reader c.args.put (room_for_fragments c.args.put new.puts) c.reserve_cut.ensures.rest c.self.invariant

pub returns-clause-step : goal.returns-clause-step
returns-clause-step c s h =
    let new = c.reserve_cut.new.self in
    room_in_step s c.self.inside.open new c.self.inside.next_put c.self.inside.next_reader c.args.put (room_for_fragments c.args.put new.puts) c.reserve_cut.ensures.rest
    (subst (λ (a : ActorsSeen). AreActors s a) (sym c.self.view_is) h)
