use Rattle.lock_trials.proofs.any.once.Goals as goal

pub returns-clause-turned : goal.returns-clause-turned
returns-clause-turned g c = (c.with-answer.new.job, c.with-answer.ensures.turned)
