use Rattle.cache_model.specs.State.{PutRow}
use Rattle.stripe_actors.proofs.Telling.{was_given}
use Rattle.stripe_actors.proofs.laws.put_was_given.Goals as goal

pub returns : goal.returns
returns c s a h put some = was_given (λ (p : PutRow). p.put) put s.next_put s.puts h.puts_fall some
