use Rattle.device_log.proofs.LeftLaws.{wrote_torn, refused_torn, synced_settles, sync_refused_may, seen_may_stay, kept_still, left_by_may}
use Rattle.device_log.proofs.laws.cuts_leave.Goals as goal

pub returns-clause-tears : goal.returns-clause-tears
returns-clause-tears c = wrote_torn

pub returns-clause-refused : goal.returns-clause-refused
returns-clause-refused c = refused_torn

pub returns-clause-settles : goal.returns-clause-settles
returns-clause-settles c = synced_settles

pub returns-clause-unsettled : goal.returns-clause-unsettled
returns-clause-unsettled c = sync_refused_may

pub returns-clause-stays : goal.returns-clause-stays
returns-clause-stays c = seen_may_stay

pub returns-clause-kept : goal.returns-clause-kept
returns-clause-kept c = kept_still

pub returns-clause-memory : goal.returns-clause-memory
returns-clause-memory c choice settled first past is log = left_by_may choice settled first past is log.entries
