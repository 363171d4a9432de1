use Rattle.cause_laws.proofs.Verdicts.{absences_are_caused}
use Rattle.cause_laws.proofs.laws.absences_are_caused.Goals as goal

pub returns : goal.returns
returns c = absences_are_caused c.vectors_are_on_record.ensures
