use Rattle.std.proofs.Common.{◌≡◌, ◌∙◌, ap, sym, refl}
use Rattle.std.specs.Fmt.{digits}
use Rattle.hex.specs.Hex.{encode_with}
use Rattle.script_grammar.specs.Texts.{cause_line, formatted_line, got_line, hit_line, number_line, piece_line, put_line, shown}
use Rattle.script_run.specs.Run.{fresh}
use Rattle.run_promise.specs.Lines.{texts_of}
use Rattle.worked_runs.specs.History.{script_answers, script_output}
use Rattle.worked_runs.specs.Script.{script_lines, script_turns}
use Rattle.worked_runs.proofs.the_script_prints.Goals as goal

are_printed : texts_of script_answers ≡ script_output
unfolding cause_line formatted_line got_line hit_line number_line piece_line put_line shown encode_with digits
are_printed = refl

pub returns : goal.returns
returns c =
    sym (c.texts_are_output.ensures fresh script_lines script_turns)
    ∙ ap texts_of c.the_script_is_answered.ensures
    ∙ are_printed
