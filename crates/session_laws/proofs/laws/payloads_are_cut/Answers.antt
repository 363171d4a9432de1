use Rattle.session_laws.proofs.Payloads.{formatted_are_cut, payloads_are_cut}
use Rattle.session_laws.proofs.laws.payloads_are_cut.Goals as goal

pub returns-clause-legal : goal.returns-clause-legal
returns-clause-legal c = payloads_are_cut

pub returns-clause-formatted : goal.returns-clause-formatted
returns-clause-formatted c = formatted_are_cut
