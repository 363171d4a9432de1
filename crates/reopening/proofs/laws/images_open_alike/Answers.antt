use Rattle.reopening.proofs.Alike.{images_alike, end_by_cursor}
use Rattle.reopening.proofs.laws.images_open_alike.Goals as goal

pub returns-clause-alike : goal.returns-clause-alike
returns-clause-alike c = images_alike

pub returns-clause-cursor : goal.returns-clause-cursor
returns-clause-cursor c = end_by_cursor
