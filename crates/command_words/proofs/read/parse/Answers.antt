use Rattle.std.proofs.Common.{◌∙◌, map, subst, Result}
use Rattle.std.specs.Prelude.{string_bytes}
use Rattle.clap.specs.Words.{app_of}
use Rattle.clap.specs.declared.parser.matches.ArgMatches.{ArgMatches}
use Rattle.clap.specs.declared.error.Error.{Error}
use Rattle.command_words.proofs.Parses.{Told, parsed, told_none}
use Rattle.command_words.proofs.read.parse.Goals as goal

pub returns : goal.returns
returns c =
    let words = map string_bytes c.args.words.now in
    let made = c.try_get_matches_from in
    let told_by_clap : Told words made.result =
    parsed (app_of c.in_ok-command.command) c.in_ok-command.ensures words made.result made.ensures.matches made.ensures.kinds in
    told_none words c.in-Err.error (subst (λ (r : Result ArgMatches Error). Told words r) c.in-Err.is told_by_clap)
    (λ e. c.in_default.not-OutOfMemory (c.kind.ensures ∙ e))
