use Rattle.std.proofs.Common.{sym, ap, ◌∙◌, length}
use Rattle.alternate_vector.specs.Alternates.{all_stored, vector_size}
use Rattle.alternate_vector.specs.Spelling.{vector_bytes}
use Rattle.alternate_vector.proofs.Lengths.{length-vector}
use Rattle.alternate_vector.proofs.vector.Vector.size.Goals as goal

pub returns-clause-spelling : goal.returns-clause-spelling
returns-clause-spelling c =
    c.vector_size.ensures ∙ ap (λ xs. vector_size (all_stored xs)) c.deref.ensures.value
    ∙ sym (length-vector (all_stored c.self.inside.alternates.items) c.self.invariant.each)
    ∙ ap (λ v. length (vector_bytes v)) c.self.view_is
