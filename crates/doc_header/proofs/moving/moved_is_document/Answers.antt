use Rattle.doc_header.proofs.MovingLaws.{moved_is_spelled_lem, moved_is_recorded_lem}
use Rattle.doc_header.proofs.moving.moved_is_document.Goals as goal

pub returns-clause-spelled : goal.returns-clause-spelled
returns-clause-spelled c = moved_is_spelled_lem

pub returns-clause-recorded : goal.returns-clause-recorded
returns-clause-recorded c = moved_is_recorded_lem
