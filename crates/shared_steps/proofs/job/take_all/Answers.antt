use Rattle.shared_steps.proofs.job.take_all.Goals as goal

pub returns-in-Ok-clause-order : goal.returns-in-Ok-clause-order
returns-in-Ok-clause-order g c = rw (← c.new-shared.ensures.first) c.in-Ok.ensures.shared
