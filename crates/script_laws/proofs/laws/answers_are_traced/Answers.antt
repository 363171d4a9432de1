use Rattle.script_laws.proofs.Said.{answers_are_traced}
use Rattle.script_laws.proofs.laws.answers_are_traced.Goals as goal

pub returns : goal.returns
returns c = answers_are_traced
