use Rattle.std.proofs.Common.{◌∙◌, ap}
use Rattle.command_words.specs.Line.{wish_among}
use Rattle.command_words.proofs.Glue.{paired, unpaired}
use Rattle.command_words.proofs.read.command_in.Goals as goal

pub returns-in-Some-clause-wish : goal.returns-in-Some-clause-wish
returns-in-Some-clause-wish c = c.command_with.ensures.wish ∙ ap wish_among (paired _ _ _ _ c.in-Some.ensures.name c.in-Some.ensures.rows)

pub returns-in-None-clause-wish : goal.returns-in-None-clause-wish
returns-in-None-clause-wish c = ap wish_among (unpaired _ _ _ c.in-None.ensures.name)
