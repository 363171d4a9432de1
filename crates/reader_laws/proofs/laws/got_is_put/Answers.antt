use Rattle.reader_laws.proofs.Hits.{got_is_put}
use Rattle.reader_laws.proofs.laws.got_is_put.Goals as goal

pub returns : goal.returns
returns c = got_is_put
