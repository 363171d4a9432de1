use Rattle.sync_laws.proofs.Content.{copies_open, copies_stay, copies_widen}
use Rattle.sync_laws.proofs.First.{empty_due, format_holds}
use Rattle.sync_laws.proofs.Sparing.{later_spares}
use Rattle.sync_laws.proofs.laws.copies_are_known.Goals as goal

pub returns-clause-first : goal.returns-clause-first
returns-clause-first c = format_holds

pub returns-clause-open : goal.returns-clause-open
returns-clause-open c = copies_open

pub returns-clause-stay : goal.returns-clause-stay
returns-clause-stay c = copies_stay

pub returns-clause-widen : goal.returns-clause-widen
returns-clause-widen c = copies_widen

pub returns-clause-empty : goal.returns-clause-empty
returns-clause-empty c = empty_due

pub returns-clause-onward : goal.returns-clause-onward
returns-clause-onward c = later_spares
