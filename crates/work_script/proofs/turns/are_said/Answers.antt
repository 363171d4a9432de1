use Rattle.std.proofs.Common.{◌∙◌, ap, arith}
use Rattle.work_script.proofs.Rows.{Row, is_said, said_more}
use Rattle.work_script.proofs.turns.are_said.Goals as goal

pub loop-place-preserved : goal.loop-place-preserved
loop-place-preserved c =
    said_more c.args.rows.now c.loop-place.place c.index-rows-place.result (omega (arith, c.loop-place-test.true)) c.index-rows-place.is (is_said c.index-rows-place.result.taken c.in-Said.field-0 (ap (λ (r : Row). r.taken) c.index-rows-place.is ∙ c.in-Said.is)) c.loop-place.invariant
