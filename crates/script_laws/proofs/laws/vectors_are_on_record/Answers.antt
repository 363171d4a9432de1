use Rattle.script_laws.proofs.Vectors.{vectors_are_on_record}
use Rattle.script_laws.proofs.laws.vectors_are_on_record.Goals as goal

pub returns : goal.returns
returns c = vectors_are_on_record
