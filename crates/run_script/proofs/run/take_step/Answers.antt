use Rattle.std.proofs.Common.{[], refl}
use Rattle.run_script.proofs.Halts.{OnOk-map, IfErr-map, unwritten_halts}
use Rattle.run_script.proofs.run.take_step.Goals as goal

pub returns-in-Err-clause-halted : goal.returns-in-Err-clause-halted
returns-in-Err-clause-halted g c = (c.in-Err.ensures.answers.left, refl, c.in-Err.ensures.answers.stop)

pub returns-in-Ok-clause-done : goal.returns-in-Ok-clause-done
returns-in-Ok-clause-done g c =
    OnOk-map c.write_answer.result _ _ (λ appends. record { said = c.in-Ok.said; outlines = c.in-Ok.ensures.answers.outline; ends = c.in-Ok.ensures.answers.ends; text = appends }) c.write_answer.ensures.written

pub returns-in-Ok-clause-halted : goal.returns-in-Ok-clause-halted
returns-in-Ok-clause-halted g c =
    IfErr-map c.write_answer.result _ _
    (λ halt unwritten. unwritten_halts c.args.replay.now c.args.asked c.step.new.replay c.in-Ok.said _ _ _ _
    (g.B.Bay.past c.args.bay.now) (g.B.Bay.past c.step.new.bay) c.in-Ok.ensures.answers.outline c.in-Ok.ensures.answers.ends halt unwritten)
    c.write_answer.ensures.failed

pub returns-in-Err-clause-sink : goal.returns-in-Err-clause-sink
returns-in-Err-clause-sink g c = ([], refl)
