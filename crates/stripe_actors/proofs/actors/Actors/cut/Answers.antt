use Rattle.std.proofs.Common.{sym, subst}
use Rattle.fragment_table.specs.Table.{made_row}
use Rattle.open_directory.specs.Directory.{room_for_fragments}
use Rattle.stripe_actors.specs.Actors.{ActorsSeen, AreActors}
use Rattle.stripe_actors.proofs.Closing.{cut_numbered}
use Rattle.stripe_actors.proofs.InStep.{cut_in_step}
use Rattle.stripe_actors.proofs.actors.Actors.cut.Goals as goal

pub invariant_of-self : goal.invariant_of-self
invariant_of-self c =
    let new = c.cut_fragment-cut.new.self in
    let is = rw c.unwrap.ensures at c.cut_fragment-cut.ensures.ok in
    cut_numbered c.self.inside.open new c.self.inside.next_put c.self.inside.next_reader c.args.put (room_for_fragments c.args.put new.puts) (made_row c.args.length c.args.digest.0) is c.self.invariant

pub returns-clause-cuts : goal.returns-clause-cuts
returns-clause-cuts c index s h =
    let new = c.cut_fragment-cut.new.self in
    let is = rw c.unwrap.ensures at c.cut_fragment-cut.ensures.ok in
    cut_in_step s c.self.inside.open new c.self.inside.next_put c.self.inside.next_reader c.args.put index c.args.length (room_for_fragments c.args.put new.puts) c.args.digest is
    (subst (λ (a : ActorsSeen). AreActors s a) (sym c.self.view_is) h)
