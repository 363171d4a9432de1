use Rattle.stripe_actors.proofs.Closing.{begun_numbered}
use Rattle.stripe_actors.proofs.InStep.{begun_in_step}
use Rattle.stripe_actors.proofs.actors.Actors.new.Goals as goal

pub invariant_of-result : goal.invariant_of-result
invariant_of-result c = begun_numbered c.new.result c.new.ensures.puts c.new.ensures.readers

pub returns : goal.returns
returns c geometry = begun_in_step geometry c.new.result c.new.ensures.writers c.new.ensures.puts c.new.ensures.readers
