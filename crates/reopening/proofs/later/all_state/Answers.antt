use Rattle.std.proofs.Common.{◌≡◌, ◌<◌, length, true, false, sym, arith}
use Rattle.alternate_vector.specs.Alternates.{stored_of}
use Rattle.reopening.specs.Later.{states}
use Rattle.reopening.proofs.Turns.{all_goes_on, all_stops}
use Rattle.reopening.proofs.later.all_state.Goals as goal

pub returns-then-not-states : goal.returns-then-not-states
returns-then-not-states c =
    let x = stored_of c.get.result.now in
    let within : c.loop-i.i < length c.args.vector.now = grind (arith, c.loop-i-test.true, c.len-i-end.ensures.len) in
    let fails : states c.args.y x ≡ false = grind (arith, c.states.ensures, c.if-not-states.ensures) in
    sym (all_stops (states c.args.y) c.args.vector.now c.loop-i.i x within c.get.ensures fails)

pub loop-i-preserved : goal.loop-i-preserved
loop-i-preserved c =
    let x = stored_of c.get.result.now in
    let within : c.loop-i.i < length c.args.vector.now = grind (arith, c.loop-i-test.true, c.len-i-end.ensures.len) in
    let passes : states c.args.y x ≡ true = grind (arith, c.states.ensures, c.if-not-states.ensures) in
    all_goes_on (states c.args.y) c.args.vector.now c.loop-i.i x within c.get.ensures c.loop-i.invariant passes
