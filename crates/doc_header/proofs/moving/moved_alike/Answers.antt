use Rattle.doc_header.proofs.SameCopies.{moved_alike_lem}
use Rattle.doc_header.proofs.moving.moved_alike.Goals as goal

pub returns : goal.returns
returns c = moved_alike_lem
