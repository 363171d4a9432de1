use Rattle.dir_segment.proofs.Entering.{clean_keeps_lem, passed_stay_lem}
use Rattle.dir_segment.proofs.laws.clean_keeps.Goals as goal

pub returns-clause-keeps : goal.returns-clause-keeps
returns-clause-keeps c = clean_keeps_lem

pub returns-clause-passed : goal.returns-clause-passed
returns-clause-passed c = passed_stay_lem
