use Rattle.script_laws.proofs.Walking.{causes_are_traced}
use Rattle.script_laws.proofs.laws.causes_are_traced.Goals as goal

pub returns : goal.returns
returns c = causes_are_traced
