use Rattle.run_laws.proofs.Accounts.{runs_are_told}
use Rattle.run_laws.proofs.laws.runs_are_told.Goals as goal

pub returns : goal.returns
returns c = runs_are_told
