use Rattle.device_log.proofs.SeenLaws.{wrote_puts, wrote_others, refused_others, seen_is_image}
use Rattle.device_log.proofs.FlipLaws.{unflipped_same}
use Rattle.device_log.proofs.laws.writes_are_seen.Goals as goal

pub returns-clause-puts : goal.returns-clause-puts
returns-clause-puts c = wrote_puts

pub returns-clause-spares : goal.returns-clause-spares
returns-clause-spares c = wrote_others

pub returns-clause-refused : goal.returns-clause-refused
returns-clause-refused c = refused_others

pub returns-clause-image : goal.returns-clause-image
returns-clause-image c first past is log = seen_is_image first past is log.entries

pub returns-clause-unhit : goal.returns-clause-unhit
returns-clause-unhit c = unflipped_same
