use Rattle.power_cuts.proofs.Surviving.{calls_survive, opens_held, survives_on}
use Rattle.power_cuts.proofs.Formatted.{formats_hold}
use Rattle.power_cuts.proofs.laws.sessions_survive.Goals as goal

pub returns-clause-format : goal.returns-clause-format
returns-clause-format c = formats_hold

pub returns-clause-calls : goal.returns-clause-calls
returns-clause-calls c = calls_survive

pub returns-clause-on : goal.returns-clause-on
returns-clause-on c = survives_on

pub returns-clause-opens : goal.returns-clause-opens
returns-clause-opens c = opens_held
