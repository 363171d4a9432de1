use Rattle.script_laws.proofs.Agreeing.{output_is_fixed}
use Rattle.script_laws.proofs.laws.output_is_fixed.Goals as goal

pub returns : goal.returns
returns c = output_is_fixed c.lines_agree_before_trouble.ensures
