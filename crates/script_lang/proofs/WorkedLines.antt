-- Lines that were worked by hand, computed by the definitions.
use Rattle.std.proofs.Common.{◌≡◌, ℕ, false, List, [], ◌∷◌, refl}
use Rattle.std.specs.Prelude.{codes, Some, None}
use Rattle.std.specs.Fmt.{digits}
use Rattle.hex.specs.Hex.{decode_pairs, encode_with}
use Rattle.http_header.specs.Token.{is_token_byte}
use Rattle.percent_encoding.specs.Percent.{percent_decode}
use Rattle.tape_base.specs.Key.{key_of_url}
use Rattle.alternate_vector.specs.Field.{Field}
use Rattle.script_grammar.specs.declared.line.BadKind.TheVariants as kind
use Rattle.script_grammar.specs.declared.line.LineAnswer.TheVariants as answer
use Rattle.script_grammar.specs.declared.step.Step.TheVariants as step
use Rattle.cache_model.specs.declared.cause.Cause.TheVariants as cause
use Rattle.script_grammar.specs.declared.answer.Refused.TheVariants as refused
use Rattle.script_grammar.specs.declared.answer.StepAnswer.TheVariants as said
use Rattle.script_grammar.specs.Words.{bad}
use Rattle.script_grammar.specs.Tokens.{number_of_word, number_below, key_in, object_of, hex_body, repeated_body, body_of_word, actor_of_word}
use Rattle.script_grammar.specs.Fields.{with_word}
use Rattle.script_grammar.specs.Verbs.{verb_of}
use Rattle.script_grammar.specs.Grammar.{take_number, alternates_kept, usual_of, format_of, put_line_of, get_of, take_actor, open_write_of, data_of, remove_of, now_of, step_of, reading_of}
use Rattle.script_grammar.specs.Texts.{answer_line, cause_line, fault_line, lost_text, number_line, numbered, open_text, passed_text, piece_line, refused_line, shown}

abbrev field : List ℕ → List ℕ → Field
field name value = record { name = name; value = value }

nothing : reading_of (codes "# any  thing ") ≡ answer.Nothing
unfolding reading_of
nothing = refl

flush : reading_of (codes "flush") ≡ answer.Step step.Flush
unfolding reading_of step_of verb_of
flush = refl

usual : reading_of (codes "format mem:a default 1") ≡ answer.Step (step.Format (codes "mem:a") 4 8192 2097152 8192 65536 1048576 1 5)
unfolding reading_of step_of verb_of format_of usual_of alternates_kept take_number number_below number_of_word
usual = refl

usual_of_two : reading_of (codes "format mem:a default 1 2") ≡ answer.Step (step.Format (codes "mem:a") 4 8192 2097152 8192 65536 1048576 1 2)
unfolding reading_of step_of verb_of format_of usual_of alternates_kept take_number number_below number_of_word
usual_of_two = refl

-- two fields of a request, of which the first stands behind by its name
get : reading_of (codes "get /a >X:%41: >accept:") ≡ answer.Step (step.Get (key_of_url (codes "/a")) (field (codes "accept") [] ∷ field (codes "x") (codes "A:") ∷ []))
unfolding reading_of step_of verb_of get_of object_of key_in with_word percent_decode is_token_byte
get = refl

bytes : reading_of (codes "data w 2*4f") ≡ answer.Step (step.Feed (codes "w") (79 ∷ 79 ∷ []))
unfolding reading_of step_of verb_of data_of take_actor actor_of_word body_of_word repeated_body number_of_word decode_pairs
bytes = refl

at_the_start : reading_of (codes "now 0") ≡ answer.Step (step.Now 0)
unfolding reading_of step_of verb_of now_of take_number number_below number_of_word
at_the_start = refl

at_the_last : reading_of (codes "now 18446744073709551615") ≡ answer.Step (step.Now 18446744073709551615)
unfolding reading_of step_of verb_of now_of take_number number_below number_of_word
at_the_last = refl

-- ---- what does not fit

blank_behind : reading_of (codes "get /a ") ≡ answer.Bad (bad 8 kind.Word)
unfolding reading_of step_of verb_of get_of object_of key_in
blank_behind = refl

word_missing : reading_of (codes "remove") ≡ answer.Bad (bad 7 kind.Count)
unfolding reading_of step_of verb_of remove_of
word_missing = refl

odd_digits : reading_of (codes "put /a 6") ≡ answer.Bad (bad 8 kind.Body)
unfolding reading_of step_of verb_of put_line_of object_of key_in body_of_word hex_body
odd_digits = refl

zero_before : reading_of (codes "open-write w /a 01") ≡ answer.Bad (bad 17 kind.Number)
unfolding reading_of step_of verb_of open_write_of take_actor actor_of_word object_of key_in take_number number_below number_of_word
zero_before = refl

past_the_last : reading_of (codes "now 18446744073709551616") ≡ answer.Bad (bad 5 kind.Number)
unfolding reading_of step_of verb_of now_of take_number number_below number_of_word
past_the_last = refl

zero_before_a_moment : reading_of (codes "now 05") ≡ answer.Bad (bad 5 kind.Number)
unfolding reading_of step_of verb_of now_of take_number number_below number_of_word
zero_before_a_moment = refl

moment_missing : reading_of (codes "now") ≡ answer.Bad (bad 4 kind.Count)
unfolding reading_of step_of verb_of now_of take_number
moment_missing = refl

moment_behind : reading_of (codes "now 5 6") ≡ answer.Bad (bad 7 kind.Count)
unfolding reading_of step_of verb_of now_of take_number number_below number_of_word
moment_behind = refl

of_a_response : reading_of (codes "get /a <x:1") ≡ answer.Bad (bad 8 kind.Field)
unfolding reading_of step_of verb_of get_of object_of key_in
of_a_response = refl

sign_alone : reading_of (codes "get /a >x:%4g") ≡ answer.Bad (bad 8 kind.Field)
unfolding reading_of step_of verb_of get_of object_of key_in with_word
sign_alone = refl

-- ---- answers

too_large : answer_line (said.Refused (refused.VectorTooLarge 1944) None) ≡ codes "refused vector-too-large 1944\n"
unfolding refused_line numbered digits
too_large = refl

piece : answer_line (said.Piece 1 4 (97 ∷ 98 ∷ 99 ∷ 100 ∷ [])) ≡ codes "piece 1 4 61626364\n"
unfolding piece_line shown encode_with digits
piece = refl

lost : answer_line (said.Refused (refused.Lost 1 (cause.Passed 64 80 false)) None) ≡ codes "refused lost 1 passed 64 80\n"
unfolding refused_line lost_text passed_text digits
lost = refl

sync_running : answer_line (said.Refused (refused.SyncRunning 7) None) ≡ codes "refused sync-running 7\n"
unfolding refused_line numbered digits
sync_running = refl

no_sync : answer_line (said.Refused refused.NoSync None) ≡ codes "refused no-sync\n"
unfolding refused_line
no_sync = refl

still_open : answer_line (said.Refused (refused.StillOpen 1 20) None) ≡ codes "refused still-open 1 20\n"
unfolding refused_line open_text digits
still_open = refl

still_moving : answer_line (said.Refused (refused.StillMoving 80) None) ≡ codes "refused still-moving 80\n"
unfolding refused_line numbered digits
still_moving = refl

broken : answer_line (said.Broken (cause.Aborted 2)) ≡ codes "broken aborted 2\n"
unfolding cause_line numbered digits
broken = refl

fault : answer_line (said.Broken (cause.DeviceFault 3)) ≡ codes "device-fault 3\n"
unfolding fault_line digits
fault = refl

taken_before : answer_line (said.DeviceFault 1 (Some 0)) ≡ codes "device-fault 1 took 0\n"
unfolding fault_line digits
taken_before = refl

moment : answer_line (said.Now 18446744073709551615) ≡ codes "now 18446744073709551615\n"
unfolding number_line digits
moment = refl
