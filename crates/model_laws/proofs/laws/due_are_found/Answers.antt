use Rattle.cache_model.proofs.Walks.{due_are_found}
use Rattle.model_laws.proofs.laws.due_are_found.Goals as goal

pub returns : goal.returns
returns c = due_are_found
