use Rattle.std.proofs.Common.{◌≡◌, arith, length}
use Rattle.cache_model.specs.Legal.{open_writers}
use Rattle.stripe_actors.proofs.Refusing.{writers_counted}
use Rattle.stripe_core.proofs.acting.put_refusal.Goals as goal

pub returns-then-writers-ge-MAX_WRITERS : goal.returns-then-writers-ge-MAX_WRITERS
returns-then-writers-ge-MAX_WRITERS c = λ s a.
    let counted : length c.args.actors.now.held.writers ≡ open_writers s = writers_counted s c.args.actors.now a in
    omega (arith, counted, c.writers.ensures, c.if-writers-ge-MAX_WRITERS.true)

pub overflow_add-number : goal.overflow_add-number
overflow_add-number c = omega (arith, c.next_put-number.ensures.below)

pub returns-then-number-ge-LIMIT : goal.returns-then-number-ge-LIMIT
returns-then-number-ge-LIMIT c = λ s a.
    let counted : length c.args.actors.now.held.writers ≡ open_writers s = writers_counted s c.args.actors.now a in
    let next : c.args.actors.now.next_put ≡ s.next_put = a.next_put in
    (omega (arith, counted, c.writers.ensures, c.if-writers-ge-MAX_WRITERS.false), omega (arith, next, c.next_put-number.ensures.number, c.if-number-ge-LIMIT.true), omega (arith, next, c.next_put-number.ensures.number))

pub returns : goal.returns
returns c = λ s a.
    let counted : length c.args.actors.now.held.writers ≡ open_writers s = writers_counted s c.args.actors.now a in
    let next : c.args.actors.now.next_put ≡ s.next_put = a.next_put in
    record {
      few = omega (arith, counted, c.writers.ensures, c.if-writers-ge-MAX_WRITERS.false);
      below = omega (arith, next, c.next_put-number.ensures.number, c.if-number-ge-LIMIT.false);
    }
