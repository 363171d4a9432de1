use Rattle.script_laws.proofs.Counts.{runs_are_counted}
use Rattle.script_laws.proofs.laws.runs_are_counted.Goals as goal

pub returns : goal.returns
returns c = runs_are_counted
