use Rattle.cache_calls.proofs.Others.{reads_leave_others}
use Rattle.cache_calls.proofs.laws.reads_leave_others.Goals as goal

pub returns : goal.returns
returns c = reads_leave_others
