use Rattle.stripe_actors.proofs.InStep.{alike_in_step}
use Rattle.stripe_actors.proofs.laws.alike_stay_in_step.Goals as goal

pub returns : goal.returns
returns c s t a alike h = alike_in_step s t a alike.puts alike.readers alike.next_put alike.next_reader h
