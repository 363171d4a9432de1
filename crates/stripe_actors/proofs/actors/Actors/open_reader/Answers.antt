use Rattle.std.proofs.Common.{◌≡◌, true, ap, sym, subst, arith}
use Rattle.open_directory.specs.Directory.{is_kept_open}
use Rattle.stripe_actors.specs.Actors.{ActorsSeen, AreActors}
use Rattle.stripe_actors.proofs.Closing.{reader_room_numbered, reading_numbered}
use Rattle.stripe_actors.proofs.InStep.{follow_in_step, hit_in_step, on_err, reader_room_in_step}
use Rattle.stripe_actors.proofs.Numbered.{absent_above}
use Rattle.stripe_actors.proofs.actors.Actors.open_reader.Goals as goal

pub add_reader-requires : goal.add_reader-requires
add_reader-requires c = absent_above c.self.inside.next_reader 1 c.self.inside.next_reader c.self.inside.open.readers (omega arith) c.self.invariant.readers

pub invariant_of-self-2 : goal.invariant_of-self-2
invariant_of-self-2 c = reading_numbered c.self.inside.open c.add_reader.new.self c.self.inside.next_put c.self.inside.next_reader c.args.put c.add_reader.new.self.reader_room c.in_ok-add_reader.ensures.ok c.self.invariant

pub returns-clause-ok : goal.returns-clause-ok
returns-clause-ok c = record {
  number = ap (λ (a : ActorsSeen). a.next_reader) c.self.view_is;
  hit = λ who key request s h.
      hit_in_step s c.self.inside.open c.add_reader.new.self c.self.inside.next_put c.self.inside.next_reader c.args.put c.add_reader.new.self.reader_room who key request c.in_ok-add_reader.ensures.ok
      (subst (λ (a : ActorsSeen). AreActors s a) (sym c.self.view_is) h);
  follow = λ open_now who key request s h.
      follow_in_step s c.self.inside.open c.add_reader.new.self c.self.inside.next_put c.self.inside.next_reader c.args.put c.add_reader.new.self.reader_room who key request
      (subst (λ (a : ActorsSeen). is_kept_open c.args.put a.held.puts ≡ true) (sym c.self.view_is) open_now)
      c.in_ok-add_reader.ensures.ok
      (subst (λ (a : ActorsSeen). AreActors s a) (sym c.self.view_is) h);
}

pub invariant_of-self : goal.invariant_of-self
invariant_of-self c =
    reader_room_numbered c.self.inside.open c.add_reader.new.self c.self.inside.next_put c.self.inside.next_reader c.add_reader.new.self.reader_room c.in_err-add_reader.ensures.err c.self.invariant

pub returns-in_err-add_reader-clause-stays : goal.returns-in_err-add_reader-clause-stays
returns-in_err-add_reader-clause-stays c =
    on_err c.from_residual.result (λ s h. reader_room_in_step s c.self.inside.open c.add_reader.new.self c.self.inside.next_put c.self.inside.next_reader c.add_reader.new.self.reader_room c.in_err-add_reader.ensures.err
    (subst (λ (a : ActorsSeen). AreActors s a) (sym c.self.view_is) h))
