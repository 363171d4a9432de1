use Rattle.script_lang.proofs.ReadAgain.{spelled_is_read}
use Rattle.script_lang.proofs.laws.spelled_is_read.Goals as goal

pub returns : goal.returns
returns c = spelled_is_read
