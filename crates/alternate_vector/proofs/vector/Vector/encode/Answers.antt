use Rattle.std.proofs.Common.{subst}
use Rattle.alternate_vector.specs.Alternates.{AreStoredAlternates}
use Rattle.alternate_vector.proofs.Again.{vector_again}
use Rattle.alternate_vector.proofs.vector.Vector.encode.Goals as goal

pub returns-in_err-bytes-clause-again : goal.returns-in_err-bytes-clause-again
returns-in_err-bytes-clause-again c = vector_again c.args.self.now c.requires (subst AreStoredAlternates c.self.view_is c.self.invariant)

pub returns-clause-again : goal.returns-clause-again
returns-clause-again c = vector_again c.args.self.now c.requires (subst AreStoredAlternates c.self.view_is c.self.invariant)
