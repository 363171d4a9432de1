use Rattle.std.proofs.Common.{◌∙◌}
use Rattle.script_lang.proofs.Numbers.{parse-number_of}
use Rattle.script_lang.proofs.tokens.parse.Goals as goal

pub returns : goal.returns
returns c = c.ok.ensures.value ∙ parse-number_of c.args.digits.now c.parse.result c.parse.ensures.value.0 c.requires
