use Rattle.script_laws.proofs.Parting.{lines_agree_before_trouble}
use Rattle.script_laws.proofs.laws.lines_agree_before_trouble.Goals as goal

pub returns : goal.returns
returns c = lines_agree_before_trouble c.steps_agree.ensures c.displacements_agree.ensures
