use Rattle.std.proofs.Common.{inl}
use Rattle.std.proofs.lemmas.Result.{err_from_is_err_and}
use Rattle.stripe_core.proofs.Continuing.{continues_proceeds}
use Rattle.stripe_read.proofs.Nexts.{next_prepared, next_wanting, still_open}
use Rattle.stripe_read.proofs.reading.read_next.Goals as goal

pub next_row-requires-clause-reader : goal.next_row-requires-clause-reader
next_row-requires-clause-reader g c =
    (still_open c.args.stripe.now _ _ c.prepare.ensures.continues.stripe c.prepare.ensures.records c.requires.open).reader

pub give-requires-clause-open : goal.give-requires-clause-open
give-requires-clause-open g c =
    still_open c.args.stripe.now _ _ c.prepare.ensures.continues.stripe c.prepare.ensures.records c.requires.open

pub stop-requires-clause-open : goal.stop-requires-clause-open
stop-requires-clause-open g c =
    still_open c.args.stripe.now _ _ c.prepare.ensures.continues.stripe c.prepare.ensures.records c.requires.open

pub returns-in_err-prepare : goal.returns-in_err-prepare
returns-in_err-prepare g c =
    let wanting = err_from_is_err_and c.from_residual.result c.from_residual.ensures.1 in
    next_wanting c.args.stripe.now _ c.args.reader.now c.from_residual.result _ wanting.0 wanting.1 c.requires.open
    c.prepare.ensures.continues.stripe (continues_proceeds _ _ c.prepare.ensures.continues) (inl c.prepare.ensures.continues.between)
    c.prepare.ensures.records c.prepare.ensures.still

pub returns-in-Some : goal.returns-in-Some
returns-in-Some g c =
    next_prepared _ _ _ _ _ _ _ c.prepare.ensures.continues c.prepare.ensures.records c.prepare.ensures.still c.give.ensures

pub returns-in-None : goal.returns-in-None
returns-in-None g c =
    next_prepared _ _ _ _ _ _ _ c.prepare.ensures.continues c.prepare.ensures.records c.prepare.ensures.still
    (c.stop.ensures.reads c.args.into.now)
