use Rattle.std.proofs.Common.{[], ◌∷◌, List, ap, sym, subst}
use Rattle.stripe_lock.specs.declared.view.StripeTurn.{StripeTurn}
use Rattle.shared_steps.specs.declared.shared.StepRow.{StepRow}
use Rattle.shared_steps.specs.declared.shared.StepRecord.{StepRecord}
use Rattle.shared_steps.specs.declared.shared.StepRecord.TheVariants.{Took}
use Rattle.shared_steps.specs.Histories.{IsKept, turn_of, turns_of}
use Rattle.shared_steps.proofs.Going.{kept_more, rows-snoc}
use Rattle.shared_steps.proofs.job.StepJobJobSharedSteps.run.Goals as goal

pub returns-clause-sound : goal.returns-clause-sound
returns-clause-sound g c =
    let takes = g.S.TakesSteps.takes in
    let stands = g.S.TakesSteps.stands in
    let old = c.args.state.now in
    let next = c.take_next-taken.new.self in
    let taken = c.take_next-taken.result in
    let row : StepRow g.row.X.Denot g.row.S-Answer.Denot g.row.S-Stop.Denot = record { worker = c.args.worker; job = c.args.self.now.number; step = c.of-step.result; taken = taken } in
    let records = ap (λ (x : g.row.X.Denot). Took x taken ∷ []) c.of-step.ensures in
    let more = kept_more takes stands old.first.value (turns_of old.rows.items) (turn_of row) c.args.self.now.step taken old.stopped next.stopped old.state next.state records c.requires.sound c.take_next-taken.ensures.takes c.take_next-taken.ensures.stands in
    rw (c.take_next-taken.ensures.first, c.push_reserved.ensures.items, c.take_next-taken.ensures.rows)
    (subst (λ (ts : List (StripeTurn (StepRecord g.row.S.Denot g.row.X.Denot g.row.S-Answer.Denot g.row.S-Stop.Denot))). IsKept takes stands old.first.value ts next.stopped next.state) (sym (rows-snoc old.rows.items row)) more)
