use Rattle.script_lang.proofs.OneLine.{last_lines_are_lines}
use Rattle.script_lang.proofs.laws.last_lines_are_lines.Goals as goal

pub returns : goal.returns
returns c = last_lines_are_lines
