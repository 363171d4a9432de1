use Rattle.std.proofs.Common.{ap, ◌∙◌}
use Rattle.std.specs.Prelude.{codes}
use Rattle.std.specs.List.{list_all, flat_map}
use Rattle.alternate_vector.specs.Vary.{agrees_on, elements_of, named, values_of}
use Rattle.alternate_vector.proofs.Parts.{vary_lines}
use Rattle.alternate_vector.proofs.matching.request_matches.Goals as goal

pub returns : goal.returns
returns c =
    let p = agrees_on c.args.request.now c.args.stored.now in
    let told = rw (c.lines-2.ensures.lines, c.lines-3.ensures.lines) at c.lines_agree.ensures in
    told ∙ vary_lines p c.lines_of-vary.result.now ∙ ap (λ fields. list_all p (flat_map elements_of (values_of fields))) (c.lines_of-vary.ensures ∙ ap (named (codes "vary")) c.lines.ensures.lines)
