use Rattle.put_laws.proofs.Bodies.{put_took_its_body}
use Rattle.put_laws.proofs.laws.put_took_its_body.Goals as goal

pub returns : goal.returns
returns c = put_took_its_body c.legal_is_kept.ensures c.put_is_measured.ensures c.numbers_follow.ensures
