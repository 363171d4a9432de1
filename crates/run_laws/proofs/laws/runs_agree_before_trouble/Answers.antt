use Rattle.run_laws.proofs.Parting.{runs_agree_before_trouble}
use Rattle.run_laws.proofs.laws.runs_agree_before_trouble.Goals as goal

pub returns : goal.returns
returns c = runs_agree_before_trouble c.lines_agree_before_trouble.ensures c.turns_tell_refusals.ensures c.undamaged_turns.ensures c.texts_are_output.ensures c.texts_have_lines.ensures.spelled
