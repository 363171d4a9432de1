use Rattle.run_promise.proofs.Saying.{texts_are_output}
use Rattle.run_promise.proofs.laws.texts_are_output.Goals as goal

pub returns : goal.returns
returns c = texts_are_output
