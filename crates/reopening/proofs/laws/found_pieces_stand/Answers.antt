use Rattle.reopening.proofs.Found.{found_stand, recorded_found}
use Rattle.reopening.proofs.laws.found_pieces_stand.Goals as goal

pub returns-clause-stand : goal.returns-clause-stand
returns-clause-stand c = found_stand

pub returns-clause-recorded : goal.returns-clause-recorded
returns-clause-recorded c = recorded_found
