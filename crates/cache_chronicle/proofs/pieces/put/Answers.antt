use Rattle.std.proofs.Common.{◌∙◌, Some, ap, cond}
use Rattle.tape_base.specs.Piece.{same_piece}
use Rattle.cache_chronicle.specs.LivePieces.{kept_piece}
use Rattle.cache_chronicle.proofs.RowLemmas.{known_anew}
use Rattle.cache_chronicle.proofs.pieces.put.Goals as goal

pub returns-clause-has : goal.returns-clause-has
returns-clause-has c = λ rows row is has id.
    let updates = rw c.unwrap.ensures at c.insert-noted.ensures.updates in
    updates.0 id
    ∙ ap (λ found. cond (same_piece c.args.piece id) (Some c.args.standing) found) (has id)
    ∙ rw (← is.name, is.stands) (known_anew kept_piece row id rows)
