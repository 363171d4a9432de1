use Rattle.script_lang.proofs.OneLine.{answers_are_lines}
use Rattle.script_lang.proofs.laws.answers_are_lines.Goals as goal

pub returns : goal.returns
returns c = answers_are_lines
