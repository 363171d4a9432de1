-- The lines of the script, as the grammar reads them.
use Rattle.std.proofs.Common.{◌≡◌, [], refl}
use Rattle.std.specs.Prelude.{codes}
use Rattle.hex.specs.Hex.{decode_pairs}
use Rattle.script_grammar.specs.declared.line.LineAnswer.TheVariants as line
use Rattle.script_grammar.specs.declared.step.Step.TheVariants as step
use Rattle.script_grammar.specs.Tokens.{actor_of_word, number_of_word, number_below, key_in, object_of, hex_body, body_of_word}
use Rattle.script_grammar.specs.Verbs.{verb_of}
use Rattle.script_grammar.specs.Grammar.{only_actor, open_read_of, take_actor, take_number, alternates_kept, format_of_numbers, format_of, put_line_of, get_of, remove_of, step_of, reading_of}
use Rattle.worked_runs.specs.Script.{body_of_a, key_of_a, line_to_format, line_to_get, line_to_open, line_to_put, line_to_read_on, line_to_remove, name_of_reader}

pub format_is_read : reading_of line_to_format ≡ line.Step (step.Format (codes "mem:a") 1 64 64 8 16 4 7 5)
unfolding reading_of step_of verb_of format_of format_of_numbers alternates_kept take_number number_below number_of_word
format_is_read = refl

pub get_is_read : reading_of line_to_get ≡ line.Step (step.Get key_of_a [])
unfolding reading_of step_of verb_of get_of object_of key_in
get_is_read = refl

pub opening_is_read : reading_of line_to_open ≡ line.Step (step.OpenRead name_of_reader key_of_a [])
unfolding reading_of step_of verb_of open_read_of take_actor actor_of_word object_of key_in
opening_is_read = refl

pub next_is_read : reading_of line_to_read_on ≡ line.Step (step.Next name_of_reader)
unfolding reading_of step_of verb_of only_actor take_actor actor_of_word
next_is_read = refl

pub put_is_read : reading_of line_to_put ≡ line.Step (step.Put key_of_a body_of_a [] [])
unfolding reading_of step_of verb_of put_line_of object_of key_in body_of_word hex_body decode_pairs
put_is_read = refl

pub removal_is_read : reading_of line_to_remove ≡ line.Step (step.Remove key_of_a)
unfolding reading_of step_of verb_of remove_of object_of key_in
removal_is_read = refl
