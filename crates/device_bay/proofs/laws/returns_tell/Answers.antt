use Rattle.device_bay.proofs.BayLemmas.{zero_has_no_refusal, untold_has_no_fault, told_by_log, unturned_tells}
use Rattle.device_bay.proofs.laws.returns_tell.Goals as goal

pub returns : goal.returns
returns c = record { zero = zero_has_no_refusal; untold = untold_has_no_fault; seen = told_by_log; unturned = unturned_tells }
