use Rattle.reopening.proofs.Guarded.{images_open, open_now, rest_guarded, run_opens}
use Rattle.reopening.proofs.laws.guarded_images_open.Goals as goal

pub returns-clause-opens : goal.returns-clause-opens
returns-clause-opens c = images_open

pub returns-clause-now : goal.returns-clause-now
returns-clause-now c = open_now

pub returns-clause-rest : goal.returns-clause-rest
returns-clause-rest c = rest_guarded

pub returns-clause-replaced : goal.returns-clause-replaced
returns-clause-replaced c = run_opens
