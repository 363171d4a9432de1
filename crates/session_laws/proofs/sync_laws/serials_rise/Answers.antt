use Rattle.session_laws.proofs.Serials.{legal_serials_rise, serials_follow, serials_rise}
use Rattle.session_laws.proofs.sync_laws.serials_rise.Goals as goal

pub returns-clause-follow : goal.returns-clause-follow
returns-clause-follow c = serials_follow

pub returns-clause-group : goal.returns-clause-group
returns-clause-group c = serials_rise

pub returns-clause-legal : goal.returns-clause-legal
returns-clause-legal c = legal_serials_rise
