use Rattle.std.proofs.Common.{◌∙◌, ap}
use Rattle.clap.specs.Words.{App, app_of, with_subcommand}
use Rattle.command_words.proofs.line.with_plain.Goals as goal

pub returns : goal.returns
returns c = c.in_ok-all.ensures.shape c.new-command.ensures.local ∙ ap (λ (a : App). with_subcommand (app_of c.args.above) a.top) c.new-command.ensures.app
