use Rattle.lock_trials.proofs.Standing.{one_record}
use Rattle.lock_trials.proofs.tally.TallyKeptState.has_legal_turns.Goals as goal

pub returns : goal.returns
returns c = one_record c.args.self.now.rows.items
