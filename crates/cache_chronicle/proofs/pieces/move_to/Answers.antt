use Rattle.std.proofs.Common.{◌∙◌, sym, Some}
use Rattle.cache_chronicle.proofs.RowLemmas.{known_copied, nowhere_copied}
use Rattle.cache_chronicle.proofs.pieces.move_to.Goals as goal

pub returns-in-Some-clause-has : goal.returns-in-Some-clause-has
returns-in-Some-clause-has c = λ rows has id.
    let updates = rw c.unwrap.ensures at c.insert-noted.ensures.updates in
    let there = sym c.get.ensures.value ∙ sym c.copied.ensures ∙ c.in-Some.is in
    updates.0 id ∙ known_copied c.args.pieces.now c.args.piece id c.args.place c.args.digest (Some c.in-Some.standing) rows has there

pub returns-in-None-clause-has : goal.returns-in-None-clause-has
returns-in-None-clause-has c = λ rows has id.
    let there = sym c.get.ensures.value ∙ sym c.copied.ensures ∙ c.in-None.is in
    nowhere_copied c.args.pieces.now c.args.piece id c.args.place c.args.digest rows has there
