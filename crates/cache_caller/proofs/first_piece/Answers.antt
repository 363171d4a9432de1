use Rattle.cache_calls.proofs.Keeping.{goes_then}
use Rattle.cache_caller.proofs.first_piece.Goals as goal

pub returns-in-Hit-clause-goes : goal.returns-in-Hit-clause-goes
returns-in-Hit-clause-goes g c = goes_then c.open_read.ensures.keeps.goes_on c.read_once.ensures.goes

pub returns-in-Follow-clause-goes : goal.returns-in-Follow-clause-goes
returns-in-Follow-clause-goes g c = goes_then c.open_read.ensures.keeps.goes_on c.read_once-in-Follow.ensures.goes
