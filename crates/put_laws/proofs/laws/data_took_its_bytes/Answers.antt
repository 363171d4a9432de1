use Rattle.put_laws.proofs.Bodies.{data_took_its_bytes}
use Rattle.put_laws.proofs.laws.data_took_its_bytes.Goals as goal

pub returns : goal.returns
returns c = data_took_its_bytes
