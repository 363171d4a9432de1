use Rattle.std.proofs.Common.{◌∙◌, ap, map, sym}
use Rattle.std.specs.Prelude.{option_map, string_bytes}
use Rattle.clap.specs.Words.{subcommand_rows_of}
use Rattle.command_words.proofs.Turns.{are_texts}
use Rattle.command_words.proofs.Tells.{asks, tells}
use Rattle.command_words.proofs.read.command.Goals as goal

pub returns-in-Some-clause-wish : goal.returns-in-Some-clause-wish
returns-in-Some-clause-wish c =
    c.command_in.ensures.wish ∙ ap asks (ap (option_map subcommand_rows_of) (sym c.in-Some.is) ∙ c.in_ok-matches.ensures)
    ∙ tells (map string_bytes c.args.words.now) (are_texts c.args.words.now)

pub returns-in-None-clause-wish : goal.returns-in-None-clause-wish
returns-in-None-clause-wish c =
    ap asks (ap (option_map subcommand_rows_of) (sym c.in-None.is) ∙ c.in_ok-matches.ensures)
    ∙ tells (map string_bytes c.args.words.now) (are_texts c.args.words.now)
