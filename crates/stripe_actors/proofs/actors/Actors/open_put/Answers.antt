use Rattle.std.proofs.Common.{◌≡◌, ◌<◌, length, refl, ap, sym, subst, arith}
use Rattle.std.specs.Prelude.{option_map}
use Rattle.open_directory.specs.Directory.{put_state_of, room_for_fragments}
use Rattle.stripe_actors.specs.Actors.{ActorsSeen, AreActors}
use Rattle.stripe_actors.proofs.Closing.{opened_numbered}
use Rattle.stripe_actors.proofs.InStep.{new_writer, opened_in_step}
use Rattle.stripe_actors.proofs.Numbered.{absent_above}
use Rattle.stripe_actors.proofs.Refusing.{has_number, is_exhausted, many_writers}
use Rattle.stripe_actors.proofs.actors.Actors.open_put.Goals as goal

pub returns-then-writers-eq-MAX_WRITERS-clause-exact :
    goal.returns-then-writers-eq-MAX_WRITERS-clause-exact
returns-then-writers-eq-MAX_WRITERS-clause-exact c s h =
    let all : length c.self.inside.open.writers ≡ 64 = omega (arith, c.writers.ensures.count, c.if-writers-eq-MAX_WRITERS.true) in
    many_writers s _ _ c.self.view_is h all

pub returns-then-put-ge-LIMIT-clause-exact : goal.returns-then-put-ge-LIMIT-clause-exact
returns-then-put-ge-LIMIT-clause-exact c s h =
    let few : length c.self.inside.open.writers < 64 = omega (arith, c.writers.ensures.count, c.writers.ensures.few, c.if-writers-eq-MAX_WRITERS.false) in
    is_exhausted s _ _ c.self.view_is h few c.if-put-ge-LIMIT.true

pub open_writer-requires : goal.open_writer-requires
open_writer-requires c =
    ap (option_map put_state_of) (absent_above c.self.inside.next_put 1 c.self.inside.next_put c.self.inside.open.puts (omega arith) c.self.invariant.puts)

pub invariant_of-self : goal.invariant_of-self
invariant_of-self c =
    let new = c.open_writer.new.self in
    opened_numbered c.self.inside.open new c.self.inside.next_put c.self.inside.next_reader
    (room_for_fragments c.self.inside.next_put new.puts)
    (new_writer c.self.inside.next_put c.args.key c.args.request c.args.response) refl c.if-put-ge-LIMIT.false c.in-Ok.ensures.ok c.self.invariant

pub returns-in-Ok-clause-exact : goal.returns-in-Ok-clause-exact
returns-in-Ok-clause-exact c s h =
    let few : length c.self.inside.open.writers < 64 = omega (arith, c.writers.ensures.count, c.writers.ensures.few, c.if-writers-eq-MAX_WRITERS.false) in
    has_number s _ _ c.self.view_is h few c.if-put-ge-LIMIT.false

pub returns-in-Ok-clause-ok : goal.returns-in-Ok-clause-ok
returns-in-Ok-clause-ok c =
    let new = c.open_writer.new.self in
    record {
      number = ap (λ (a : ActorsSeen). a.next_put) c.self.view_is;
      opened = λ who pin s h.
          opened_in_step s c.self.inside.open new c.self.inside.next_put c.self.inside.next_reader (room_for_fragments c.self.inside.next_put new.puts) who c.args.key c.args.request c.args.response pin
          c.in-Ok.ensures.ok
          (subst (λ (a : ActorsSeen). AreActors s a) (sym c.self.view_is) h);
    }

pub returns-in-Err-Memory-clause-exact : goal.returns-in-Err-Memory-clause-exact
returns-in-Err-Memory-clause-exact c s h =
    let few : length c.self.inside.open.writers < 64 = omega (arith, c.writers.ensures.count, c.writers.ensures.few, c.if-writers-eq-MAX_WRITERS.false) in
    has_number s _ _ c.self.view_is h few c.if-put-ge-LIMIT.false
