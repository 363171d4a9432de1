use Rattle.std.proofs.Common.{◌≡◌, ◌+◌, ◌++◌, ◌∷◌, [], length, ap, ◌∙◌, arith, length-append}
use Rattle.std.proofs.lemmas.List.{map_push}
use Rattle.std.proofs.lemmas.Result.{err_from_is_err_and}
use Rattle.alternate_vector.specs.Alternates.{IsStored, all_stored, stored_of}
use Rattle.alternate_vector.specs.Reading.{alternates_at}
use Rattle.alternate_vector.proofs.Loops.{alternates_go_on, alternates_end, alternates_done, each_push}
use Rattle.alternate_vector.proofs.reading.alternates_of.Goals as goal

pub returns-in_err-alternate-clause-alternates : goal.returns-in_err-alternate-clause-alternates
returns-in_err-alternate-clause-alternates c =
    let p = err_from_is_err_and c.from_residual.result c.from_residual.ensures.1 in
    rw (p.1, p.2) (alternates_end c.in_err-alternate.field-0.0 (all_stored c.loop.alternates.items) c.args.count c.loop.counter c.loop.rest.now (alternates_at c.args.count c.args.bytes.now) c.loop-test.true c.in_err-alternate.ensures.alternate c.loop.invariant.0)

pub loop-preserved : goal.loop-preserved
loop-preserved c =
    let front = all_stored c.loop.alternates.items in
    let a = stored_of c.in_ok-alternate.alternate in
    let pushed : all_stored c.push.new.self.items ≡ front ++ a ∷ [] = ap all_stored c.in_ok-push.ensures.items ∙ map_push stored_of c.loop.alternates.items c.in_ok-alternate.alternate in
    let count : length (front ++ a ∷ []) ≡ c.loop.counter + 1 = length-append front (a ∷ []) ∙ omega (arith, c.loop.invariant.1) in
    rw pushed (
      alternates_go_on front c.args.count c.loop.counter c.loop.rest.now a c.in_ok-alternate.after.now (alternates_at c.args.count c.args.bytes.now) c.loop-test.true c.in_ok-alternate.ensures.alternate c.loop.invariant.0,
      count,
      each_push IsStored front a c.loop.invariant.2 c.in_ok-alternate.ensures.stored,
    )

pub returns-clause-alternates : goal.returns-clause-alternates
returns-clause-alternates c = alternates_done (all_stored c.loop.alternates.items) c.args.count c.loop.counter c.loop.rest.now (alternates_at c.args.count c.args.bytes.now) c.loop-test.false c.loop.invariant.0
