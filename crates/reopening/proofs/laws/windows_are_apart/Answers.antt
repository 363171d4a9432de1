use Rattle.reopening.proofs.Apart.{windows_apart, clean_windows_apart}
use Rattle.reopening.proofs.laws.windows_are_apart.Goals as goal

pub returns-clause-written : goal.returns-clause-written
returns-clause-written c = windows_apart

pub returns-clause-clean : goal.returns-clause-clean
returns-clause-clean c = clean_windows_apart
