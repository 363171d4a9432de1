use Rattle.std.proofs.Common.{◌≡◌, length}
use Rattle.script_grammar.specs.Fields.{fields_after, no_fields}
use Rattle.script_lang.specs.Taken.{words_in}
use Rattle.script_lang.proofs.fields.fields.Given as goal

abbrev pub invariant-each : goal.invariant-each
invariant-each l = fields_after l.kinds no_fields (words_in l.fn.words) ≡ fields_after l.kinds l.sides (words_in l.words)

abbrev pub decreases-each : goal.decreases-each
decreases-each l = length (words_in l.words)
