use Rattle.stripe_lock.proofs.Rising.{step_keeps_floor, floor_never_falls}
use Rattle.stripe_lock.proofs.steps.Line.floor_never_falls.Goals as goal

pub returns-clause-step : goal.returns-clause-step
returns-clause-step g c = step_keeps_floor g.T.KeptState c.args.about.now.seats (g.T.KeptState.chronicle c.args.about.now.first.value)

pub returns-clause-steps : goal.returns-clause-steps
returns-clause-steps g c = floor_never_falls g.T.KeptState c.args.about.now.seats (g.T.KeptState.chronicle c.args.about.now.first.value)
