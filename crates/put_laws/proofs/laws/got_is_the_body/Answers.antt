use Rattle.put_laws.proofs.Bodies.{got_is_the_body}
use Rattle.put_laws.proofs.laws.got_is_the_body.Goals as goal

pub returns : goal.returns
returns c = got_is_the_body c.got_is_whole.ensures c.put_took_its_body.ensures
