use Rattle.reopening.proofs.Areas.{areas_by_block, faults_by_block, one_area}
use Rattle.reopening.proofs.laws.areas_by_first_block.Goals as goal

pub returns-clause-areas : goal.returns-clause-areas
returns-clause-areas c = areas_by_block

pub returns-clause-faults : goal.returns-clause-faults
returns-clause-faults c = faults_by_block

pub returns-clause-one : goal.returns-clause-one
returns-clause-one c = one_area
