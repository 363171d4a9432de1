use Rattle.doc_header.proofs.MovingLaws.{moved_is_same_lem}
use Rattle.doc_header.proofs.moving.moved_is_same.Goals as goal

pub returns : goal.returns
returns c = moved_is_same_lem
