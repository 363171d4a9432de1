use Rattle.std.proofs.Common.{◌≡◌, length}
use Rattle.std.specs.List.{list_all}
use Rattle.alternate_vector.specs.Lines.{fields_of}
use Rattle.alternate_vector.specs.Vary.{agrees_on, elements_of}
use Rattle.alternate_vector.proofs.matching.elements_agree.Given as goal

abbrev pub invariant-parts : goal.invariant-parts
invariant-parts l =
    list_all (agrees_on (fields_of l.request) (fields_of l.stored)) (elements_of l.rest) ≡ list_all (agrees_on (fields_of l.request) (fields_of l.stored)) (elements_of l.value)

abbrev pub decreases-parts : goal.decreases-parts
decreases-parts l = length l.rest
