use Rattle.std.proofs.Common.{◌≡◌, ◌∙◌, ap, ap₂, rules, codes}
use Rattle.clap.specs.Words.{App, app_of, rule_of, with_rule, with_subcommand}
use Rattle.command_words.specs.Line.{given, one_app}
use Rattle.command_words.proofs.line.with_one.Goals as goal

pub returns : goal.returns
returns c =
    let parameter : rule_of c.required-parameter.result ≡ given (codes "parameter") = search rules in
    let named : app_of c.in_ok-command.command ≡ one_app c.args.verb.now =
    c.in_ok-command.ensures.shape (search rules) ∙ ap₂ with_rule c.new-2.ensures.app parameter in
    c.in_ok-all.ensures.shape (search rules) ∙ ap (λ (a : App). with_subcommand (app_of c.args.above) a.top) named
