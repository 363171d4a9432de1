use Rattle.std.proofs.Common.{◌∙◌, None, ap, cond}
use Rattle.tape_base.specs.Piece.{same_piece}
use Rattle.cache_chronicle.specs.LivePieces.{kept_piece}
use Rattle.cache_chronicle.proofs.RowLemmas.{known_without}
use Rattle.cache_chronicle.proofs.pieces.take_out.Goals as goal

pub returns-clause-has : goal.returns-clause-has
returns-clause-has c = λ rows has id.
    c.remove.ensures.updates.0 id
    ∙ ap (λ found. cond (same_piece c.args.piece id) None found) (has id)
    ∙ known_without kept_piece c.args.piece id rows
