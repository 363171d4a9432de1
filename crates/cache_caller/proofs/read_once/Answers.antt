use Rattle.std.proofs.Common.{◌∙◌, ap, subst, Ok}
use Rattle.cache_calls.specs.Readers.{ReadsNext}
use Rattle.cache_calls.proofs.Keeping.{goes_then}
use Rattle.cache_caller.proofs.Pieces.{stands_in}
use Rattle.cache_caller.proofs.read_once.Goals as goal

pub returns-in_err-length-in-Ok-clause-goes : goal.returns-in_err-length-in-Ok-clause-goes
returns-in_err-length-in-Ok-clause-goes g c = goes_then c.read_next-next.ensures.keeps c.close_read.ensures.keeps.goes_on

pub returns-in-Piece-clause-goes : goal.returns-in-Piece-clause-goes
returns-in-Piece-clause-goes g c = goes_then c.read_next-next.ensures.keeps c.close_read.ensures.keeps.goes_on

pub returns-in-Piece-clause-within : goal.returns-in-Piece-clause-within
returns-in-Piece-clause-within g c =
    let old = g.S.Calls.at c.args.cache.now in
    let new = g.S.Calls.at c.read_next-next.new.self in
    let into = c.read_next-next.new.into in
    stands_in old new (g.S.Calls.reading c.args.reader) c.in-Piece.index c.in-Piece.length into c.read_next-next.ensures.keeps.goes
    (subst (λ r. ReadsNext old new (g.S.Calls.reading c.args.reader) r into) (c.in_ok-length-in-Ok.was ∙ ap Ok c.in-Piece.is) c.read_next-next.ensures.gives)

pub returns-in_default : goal.returns-in_default
returns-in_default g c = record { goes = goes_then c.read_next-next.ensures.keeps c.close_read.ensures.keeps.goes_on; within = tt }

pub returns-in-Err-clause-goes : goal.returns-in-Err-clause-goes
returns-in-Err-clause-goes g c = goes_then c.read_next-next.ensures.keeps c.close_read.ensures.keeps.goes_on
