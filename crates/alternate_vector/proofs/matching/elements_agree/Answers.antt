use Rattle.std.proofs.Common.{sym, ap, ◌∙◌}
use Rattle.std.specs.List.{list_all}
use Rattle.alternate_vector.specs.Lines.{fields_of}
use Rattle.alternate_vector.specs.Vary.{agrees_on, elements_of}
use Rattle.alternate_vector.proofs.Parts.{comma_some, comma_none, part_fails, part_passes, last_element}
use Rattle.alternate_vector.proofs.matching.elements_agree.Goals as goal

pub returns-in-None : goal.returns-in-None
returns-in-None c =
    let p = agrees_on (fields_of c.args.request.now) (fields_of c.args.stored.now) in
    c.part_agrees.ensures ∙ sym (last_element p c.parts.rest.now (comma_none c.parts.rest.now (sym c.in-None.ensures))) ∙ c.parts.invariant

pub returns-then-not-part_agrees : goal.returns-then-not-part_agrees
returns-then-not-part_agrees c =
    let p = agrees_on (fields_of c.args.request.now) (fields_of c.args.stored.now) in
    let told = rw c.split_at.ensures.front at c.part_agrees-in-Some.ensures in
    let comma = comma_some c.parts.rest.now c.in-Some.end (sym c.in-Some.ensures) in
    sym (sym c.parts.invariant ∙ part_fails p c.parts.rest.now c.in-Some.end c.part_agrees-in-Some.result comma told c.if-not-part_agrees.true)

pub parts-preserved : goal.parts-preserved
parts-preserved c =
    let p = agrees_on (fields_of c.args.request.now) (fields_of c.args.stored.now) in
    let told = rw c.split_at.ensures.front at c.part_agrees-in-Some.ensures in
    let comma = comma_some c.parts.rest.now c.in-Some.end (sym c.in-Some.ensures) in
    ap (λ rest. list_all p (elements_of rest)) c.split_at-in-Some.ensures.back
    ∙ sym (part_passes p c.parts.rest.now c.in-Some.end c.part_agrees-in-Some.result comma told c.if-not-part_agrees.false) ∙ c.parts.invariant
