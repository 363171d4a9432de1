use Rattle.std.proofs.Common.{sym, ap, subst, ◌∙◌, arith}
use Rattle.std.proofs.lemmas.Result.{err_from_is_err_and}
use Rattle.alternate_vector.specs.Alternates.{all_stored}
use Rattle.alternate_vector.specs.Reading.{FailsAs, read_vector}
use Rattle.alternate_vector.proofs.Again.{vector_again}
use Rattle.alternate_vector.proofs.Spelled.{vector_takes}
use Rattle.alternate_vector.proofs.vector.Vector.decode.Goals as goal

pub returns-in_err-read-clause-only : goal.returns-in_err-read-clause-only
returns-in_err-read-clause-only c = λ alternates spelling.
    let p = err_from_is_err_and c.from_residual.result c.from_residual.ensures.1 in
    let read = ap read_vector spelling.spelled ∙ vector_again alternates spelling.some spelling.stored in
    rw (p.1, p.2) (subst (λ r. FailsAs c.in_err-read.field-0.0 r) read c.in_err-read.ensures.exact)

pub returns-clause-found : goal.returns-clause-found
returns-clause-found c =
    let found = vector_takes c.args.bytes.now (all_stored c.in_ok-read.field-0.items) (λ i. omega (arith, c.type_inv.bytes i)) c.in_ok-read.ensures.exact in
    record { some = found.1; stored = c.in_ok-read.ensures.stored; spelled = found.0 }

pub returns-clause-only : goal.returns-clause-only
returns-clause-only c = λ alternates spelling.
    sym (ap read_vector spelling.spelled ∙ vector_again alternates spelling.some spelling.stored) ∙ c.in_ok-read.ensures.exact
