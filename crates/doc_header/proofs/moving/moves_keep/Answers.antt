use Rattle.doc_header.proofs.MovingLaws.{moves_keep_lem}
use Rattle.doc_header.proofs.moving.moves_keep.Goals as goal

pub returns : goal.returns
returns c = moves_keep_lem
