use Rattle.edge_io.proofs.LineLaws.{spelled_are_lines, text_is_given}
use Rattle.edge_io.proofs.laws.texts_have_lines.Goals as goal

pub returns-clause-spelled : goal.returns-clause-spelled
returns-clause-spelled c = spelled_are_lines

pub returns-clause-given : goal.returns-clause-given
returns-clause-given c = text_is_given
