use Rattle.shared_steps.specs.Histories.{records_of, turns_of}
use Rattle.shared_session.proofs.Devices.{all_later, same_devices}
use Rattle.shared_session.proofs.Running.{all_run}
use Rattle.shared_session.proofs.session.share_session.Goals as goal

pub returns-clause-runs : goal.returns-clause-runs
returns-clause-runs g c = all_run (λ r. records_of (turns_of r.rows.items)) (λ r. r.state) c.args.shared c.take_all.result c.take_all.ensures.goes

pub returns-clause-device : goal.returns-clause-device
returns-clause-device g c = all_later (λ r. records_of (turns_of r.rows.items)) (λ r. r.state) c.args.shared c.take_all.result c.take_all.ensures.goes

pub returns-clause-devices : goal.returns-clause-devices
returns-clause-devices g c = same_devices (λ r. r.state) c.args.shared c.take_all.result (returns-clause-device g c)
