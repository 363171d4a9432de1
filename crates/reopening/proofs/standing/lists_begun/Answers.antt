use Rattle.std.proofs.Common.{◌≡◌, ◌<◌, length, true, false, sym, arith}
use Rattle.alternate_vector.specs.Alternates.{Stored, stored_of}
use Rattle.reopening.specs.Tests.{is_begun}
use Rattle.reopening.proofs.Turns.{all_goes_on, all_stops}
use Rattle.reopening.proofs.standing.lists_begun.Goals as goal

pub returns-then-not-is_begun : goal.returns-then-not-is_begun
returns-then-not-is_begun c =
    let x = stored_of c.get.result.now in
    let within : c.loop-i.i < length c.args.vector.now = grind (arith, c.loop-i-test.true, c.len-i-end.ensures.len) in
    let fails : is_begun c.args.next x.put ≡ false = grind (arith, c.is_begun.ensures, c.if-not-is_begun.ensures) in
    sym (all_stops (λ (y : Stored). is_begun c.args.next y.put) c.args.vector.now c.loop-i.i x within c.get.ensures fails)

pub loop-i-preserved : goal.loop-i-preserved
loop-i-preserved c =
    let x = stored_of c.get.result.now in
    let within : c.loop-i.i < length c.args.vector.now = grind (arith, c.loop-i-test.true, c.len-i-end.ensures.len) in
    let passes : is_begun c.args.next x.put ≡ true = grind (arith, c.is_begun.ensures, c.if-not-is_begun.ensures) in
    all_goes_on (λ (y : Stored). is_begun c.args.next y.put) c.args.vector.now c.loop-i.i x within c.get.ensures c.loop-i.invariant passes
