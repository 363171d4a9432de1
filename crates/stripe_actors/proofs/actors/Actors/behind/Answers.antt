use Rattle.stripe_actors.proofs.Closing.{behind_numbered}
use Rattle.stripe_actors.proofs.InStep.{behind_in_step}
use Rattle.stripe_actors.proofs.actors.Actors.behind.Goals as goal

pub invariant_of-result : goal.invariant_of-result
invariant_of-result c = behind_numbered c.new.result c.args.next_put c.new.ensures.puts c.new.ensures.readers c.requires.some c.requires.below

pub returns : goal.returns
returns c geometry o same =
    behind_in_step geometry o c.new.result c.args.next_put c.new.ensures.writers c.new.ensures.puts c.new.ensures.readers c.requires.some same
