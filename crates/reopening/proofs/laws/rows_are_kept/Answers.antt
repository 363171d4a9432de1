use Rattle.reopening.proofs.Keeping.{rows_kept}
use Rattle.reopening.proofs.Passing.{documents_pass}
use Rattle.reopening.proofs.laws.rows_are_kept.Goals as goal

pub returns-clause-rows : goal.returns-clause-rows
returns-clause-rows c = rows_kept

pub returns-clause-documents : goal.returns-clause-documents
returns-clause-documents c = documents_pass
