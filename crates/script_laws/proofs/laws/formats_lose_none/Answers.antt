use Rattle.script_run.proofs.Losses.{formats_lose_none}
use Rattle.script_laws.proofs.laws.formats_lose_none.Goals as goal

pub returns : goal.returns
returns c = formats_lose_none
