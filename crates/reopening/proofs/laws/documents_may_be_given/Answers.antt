use Rattle.reopening.proofs.Beginning.{given_begin, images_give}
use Rattle.reopening.proofs.laws.documents_may_be_given.Goals as goal

pub returns-clause-begin : goal.returns-clause-begin
returns-clause-begin c = given_begin

pub returns-clause-images : goal.returns-clause-images
returns-clause-images c = images_give
