use Rattle.std.proofs.Common.{◌∙◌, ap, codes}
use Rattle.clap.specs.Words.{App, new_app}
use Rattle.command_words.specs.Line.{one_app, with_command}
use Rattle.command_words.proofs.line.line.Goals as goal

pub returns : goal.returns
returns c =
    c.in_ok-all.ensures ∙ ap (λ (a : App). with_command a (one_app (codes "check")))
    (c.in_ok-inspect.ensures ∙ ap (λ (a : App). with_command a (one_app (codes "inspect")))
    (c.in_ok-work.ensures ∙ ap (λ (a : App). with_command a (one_app (codes "work")))
    (c.in_ok-replay.ensures ∙ ap (λ (a : App). with_command a (new_app (codes "replay"))) c.bare.ensures)))
