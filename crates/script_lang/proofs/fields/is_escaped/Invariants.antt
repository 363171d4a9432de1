use Rattle.std.proofs.Common.{◌≡◌, drop}
use Rattle.script_grammar.specs.Fields.{is_escaped}
use Rattle.script_lang.proofs.fields.is_escaped.Given as goal

abbrev pub invariant-escapes : goal.invariant-escapes
invariant-escapes l = is_escaped l.bytes ≡ is_escaped (drop l.i l.bytes)
