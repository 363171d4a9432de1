-- A step's line is read as that step.
use Rattle.std.proofs.Common.{◌≡◌, ℕ, ◌+◌, ◌<◌, ◌^◌, Bool, true, false, sym, List, [], ◌∷◌, ◌++◌, length, Some, Ok, refl, ap, ◌∙◌, arith}
use Rattle.std.specs.Prelude.{◌==◌, codes, if◌then◌else◌}
use Rattle.std.specs.List.{AllByRecursion, list_all, join_with_byte}
use Rattle.std.specs.Fmt.{decimal}
use Rattle.std.proofs.lemmas.Bool.{and_parts, eqb-true}
use Rattle.std.proofs.lemmas.Bool.Decides.{nat_tests}
use Rattle.hex.specs.Hex.{IsBytes}
use Rattle.tape_base.specs.declared.keys.Key.{Key}
use Rattle.alternate_vector.specs.Field.{Field}
use Rattle.device_log.specs.declared.choice.CutChoice.{CutChoice}
use Rattle.device_log.specs.declared.choice.CutChoice.TheVariants as choice
use Rattle.script_grammar.specs.declared.sides.FieldKinds.TheVariants.{Request}
use Rattle.script_grammar.specs.declared.line.LineAnswer.TheVariants as answer
use Rattle.script_grammar.specs.declared.step.Step.{Step}
use Rattle.script_grammar.specs.declared.step.Step.TheVariants as step
use Rattle.script_grammar.specs.declared.verb.Verb.{Verb}
use Rattle.script_grammar.specs.declared.verb.Verb.TheVariants as verb
use Rattle.script_grammar.specs.Words.{WordAt, is_word_byte, located}
use Rattle.script_grammar.specs.Tokens.{is_digit, is_actor_byte, actor_of_word, count_below}
use Rattle.script_grammar.specs.Verbs.{same_word, verb_of}
use Rattle.script_grammar.specs.Grammar.{take_number, alternates_kept, format_of_numbers, format_of, put_line_of, get_of, take_actor, open_write_of, data_of, open_read_of, only_actor, by_actor, remove_of, now_of, fail_of, stop_of, flip_of, choice_of, cut_of, step_by, step_of, is_passed_over, reading_of}
use Rattle.script_lang.specs.Spelled.{FitsFormat, HoldsFields, IsActor, IsKey, SpelledIsRead, alternates_words, body_word, choice_word, key_word, request_words, response_words, spelled_step, step_words}
use Rattle.script_lang.proofs.Joined.{IsWord, all_wider, words_joined}
use Rattle.script_lang.proofs.Numbers.{number_below-decimal, all_digits-decimal}
use Rattle.script_lang.proofs.WrittenWords.{body_of-body_word, body_word_is_word, decimal_is_word, key_word_is_word, object_of-key_word}
use Rattle.script_lang.proofs.WrittenFields.{both_read, both_words_are, request_read, request_words_are}

-- ---- lines

not_passed : (first : ℕ) (rest : List ℕ) → (first == 35) ≡ false → is_passed_over (first ∷ rest) ≡ false
not_passed first rest h = grind (arith, nat_tests)

-- the words of a line: a verb, and what the verb makes of those behind it
line_read : (first : ℕ) (rest : List ℕ) (words : List (List ℕ)) (v : Verb) (s : Step) → (first == 35) ≡ false → AllByRecursion IsWord ((first ∷ rest) ∷ words) → verb_of (first ∷ rest) ≡ Some v
    → ((end column : ℕ) → step_by end v (located column words) ≡ Ok s) → reading_of (join_with_byte 32 ((first ∷ rest) ∷ words)) ≡ answer.Step s
unfolding reading_of step_of
line_read first rest [] v s plain all named steps =
    let end : ℕ = length (first ∷ rest) + 1 in
    rw (not_passed first rest plain, words_joined (first ∷ rest) [] all, all.0, named, steps end (1 + length (first ∷ rest) + 1)) refl
line_read first rest (w ∷ words) v s plain all named steps =
    let behind : List ℕ = rest ++ (32 ∷ join_with_byte 32 (w ∷ words)) in
    let end : ℕ = length (first ∷ behind) + 1 in
    rw (not_passed first behind plain, words_joined (first ∷ rest) (w ∷ words) all, all.0, named, steps end (1 + length (first ∷ rest) + 1)) refl

step_read : (first : ℕ) (rest : List ℕ) (words : List (List ℕ)) (v : Verb) (s : Step) → step_words s ≡ (first ∷ rest) ∷ words → (first == 35) ≡ false → AllByRecursion IsWord ((first ∷ rest) ∷ words)
    → verb_of (first ∷ rest) ≡ Some v → ((end column : ℕ) → step_by end v (located column words) ≡ Ok s) → reading_of (spelled_step s) ≡ answer.Step s
step_read first rest words v s shape plain all named steps = ap (λ (ws : List (List ℕ)). reading_of (join_with_byte 32 ws)) shape ∙ line_read first rest words v s plain all named steps

-- ---- the words of steps

number_taken : (limit end column n : ℕ) (words : List WordAt) → n < limit → n < 2 ^ 64 → take_number limit end (record { column = column; bytes = decimal n } ∷ words) ≡ Ok (n, words)
unfolding take_number
number_taken limit end column n words h k = rw (decimal_is_word n k, number_below-decimal limit column n h k) refl

short_taken : (end column n : ℕ) (words : List WordAt) → n < 2 ^ 32 → take_number (2 ^ 32) end (record { column = column; bytes = decimal n } ∷ words) ≡ Ok (n, words)
short_taken end column n words h = number_taken (2 ^ 32) end column n words h (omega (arith, h))

long_taken : (end column n : ℕ) (words : List WordAt) → n < 2 ^ 64 → take_number (2 ^ 64) end (record { column = column; bytes = decimal n } ∷ words) ≡ Ok (n, words)
long_taken end column n words h = number_taken (2 ^ 64) end column n words h h

actor_byte_in_word : (b : ℕ) → is_actor_byte b ≡ true → is_word_byte b ≡ true
actor_byte_in_word b h = grind (arith, nat_tests)

actor_is_word : (actor : List ℕ) → IsActor actor → IsWord actor
actor_is_word actor h =
    let parts = and_parts _ (list_all is_actor_byte actor) h in
    let all = all_wider is_actor_byte is_word_byte actor_byte_in_word actor parts.1 in
    grind (arith, nat_tests)

actor_taken : (end column : ℕ) (actor : List ℕ) (words : List WordAt) → IsActor actor → take_actor end (record { column = column; bytes = actor } ∷ words) ≡ Ok (actor, words)
unfolding take_actor actor_of_word
actor_taken end column actor words h = rw (actor_is_word actor h, h) refl

only_actor_read : (end column : ℕ) (actor : List ℕ) → IsActor actor → only_actor end (located column (actor ∷ [])) ≡ Ok actor
unfolding only_actor
only_actor_read end column actor h = rw (actor_taken end column actor [] h) refl

digit_first : (n : ℕ) → n < 2 ^ 64 → same_word (decimal n) (codes "default") ≡ false
digit_first n h = by (decimal n) (all_digits-decimal n h)
  where
    by : (w : List ℕ) → list_all is_digit w ≡ true → same_word w (codes "default") ≡ false
    by [] h = refl
    by (c ∷ w) h = let digit = (and_parts (is_digit c) (list_all is_digit w) h).0 in grind (arith, nat_tests)

-- ---- the steps

-- where there is no word, and where there is one
alternates_read : (end column m : ℕ) → m < 2 ^ 32 → alternates_kept end (located column (alternates_words m)) ≡ Ok m
unfolding alternates_kept
alternates_read end column m h = by_test (m == 5) refl
  where
    by_test : (b : Bool) → (m == 5) ≡ b → alternates_kept end (located column (if b then [] else decimal m ∷ [])) ≡ Ok m
    by_test true e = ap Ok (sym (eqb-true m 5 e))
    by_test false e = rw (short_taken end column m [] h) refl

alternates_words_are : (m : ℕ) → m < 2 ^ 32 → AllByRecursion IsWord (alternates_words m)
alternates_words_are m h = by_test (m == 5)
  where
    by_test : (b : Bool) → AllByRecursion IsWord (if b then [] else decimal m ∷ [])
    by_test true = tt
    by_test false = (decimal_is_word m (omega (arith, h)), tt)

format_read : (end column : ℕ) (name : List ℕ) (s b n a r f g m : ℕ) → FitsFormat name s b n a r f g m
    → format_of end (located column (name ∷ decimal s ∷ decimal b ∷ decimal n ∷ decimal a ∷ decimal r ∷ decimal f ∷ decimal g ∷ alternates_words m)) ≡ Ok (step.Format name s b n a r f g m)
unfolding format_of format_of_numbers
format_read end column name s b n a r f g m h =
    let small : s < 2 ^ 64 = omega (arith, h.segments_fit) in
    rw (
      h.word,
      decimal_is_word s small,
      digit_first s small,
      number_below-decimal (2 ^ 32) _ s h.segments_fit small,
      short_taken end _ b _ h.buckets_fit,
      long_taken end _ n _ h.content_fits,
      short_taken end _ a _ h.agg_fits,
      long_taken end _ r _ h.reach_fits,
      short_taken end _ f _ h.fragment_fits,
      long_taken end _ g _ h.generation_fits,
      alternates_read end _ m h.alternates_fit,
    )
    refl

format_words_are : (name : List ℕ) (s b n a r f g m : ℕ) → FitsFormat name s b n a r f g m
    → AllByRecursion IsWord (codes "format" ∷ name ∷ decimal s ∷ decimal b ∷ decimal n ∷ decimal a ∷ decimal r ∷ decimal f ∷ decimal g ∷ alternates_words m)
format_words_are name s b n a r f g m h =
    (refl, (h.word, (decimal_is_word s (omega (arith, h.segments_fit)), (decimal_is_word b (omega (arith, h.buckets_fit)), (decimal_is_word n h.content_fits, (decimal_is_word a (omega (arith, h.agg_fits)), (decimal_is_word r h.reach_fits, (decimal_is_word f (omega (arith, h.fragment_fits)), (decimal_is_word g h.generation_fits, alternates_words_are m h.alternates_fit)))))))))

put_read : (end column : ℕ) (object : Key) (body : List ℕ) (request response : List Field) → IsKey object → IsBytes body → HoldsFields request → HoldsFields response
    → put_line_of end (located column (key_word object ∷ body_word body ∷ (request_words request ++ response_words response))) ≡ Ok (step.Put object body request response)
unfolding put_line_of
put_read end column object body request response key bytes h k =
    rw (key_word_is_word object, object_of-key_word column object key, body_word_is_word body bytes, body_of-body_word _ body bytes, both_read _ request response h k) refl

get_read : (end column : ℕ) (object : Key) (request : List Field) → IsKey object → HoldsFields request
    → get_of end (located column (key_word object ∷ request_words request)) ≡ Ok (step.Get object request)
unfolding get_of
get_read end column object request key h = rw (key_word_is_word object, object_of-key_word column object key, request_read Request _ request h) refl

open_write_read : (end column : ℕ) (actor : List ℕ) (object : Key) (pin : ℕ) (request response : List Field) → IsActor actor → IsKey object → pin < 2 ^ 64 → HoldsFields request → HoldsFields response
    → open_write_of end (located column (actor ∷ key_word object ∷ decimal pin ∷ (request_words request ++ response_words response))) ≡ Ok (step.OpenWrite actor object pin request response)
unfolding open_write_of
open_write_read end column actor object pin request response who key fits h k =
    rw (actor_taken end column actor _ who, key_word_is_word object, object_of-key_word _ object key, long_taken end _ pin _ fits, both_read _ request response h k) refl

data_read : (end column : ℕ) (actor body : List ℕ) → IsActor actor → IsBytes body → data_of end (located column (actor ∷ body_word body ∷ [])) ≡ Ok (step.Feed actor body)
unfolding data_of
data_read end column actor body who bytes = rw (actor_taken end column actor _ who, body_word_is_word body bytes, body_of-body_word _ body bytes) refl

open_read_read : (end column : ℕ) (actor : List ℕ) (object : Key) (request : List Field) → IsActor actor → IsKey object → HoldsFields request
    → open_read_of end (located column (actor ∷ key_word object ∷ request_words request)) ≡ Ok (step.OpenRead actor object request)
unfolding open_read_of
open_read_read end column actor object request who key h =
    rw (actor_taken end column actor _ who, key_word_is_word object, object_of-key_word _ object key, request_read Request _ request h) refl

remove_read : (end column : ℕ) (object : Key) → IsKey object → remove_of end (located column (key_word object ∷ [])) ≡ Ok (step.Remove object)
unfolding remove_of
remove_read end column object key = rw (key_word_is_word object, object_of-key_word column object key) refl

now_read : (end column at : ℕ) → at < 2 ^ 64 → now_of end (located column (decimal at ∷ [])) ≡ Ok (step.Now at)
unfolding now_of
now_read end column at fits = rw (long_taken end column at [] fits) refl

-- a number that is not 0
count_read : (column n : ℕ) → 0 < n → n < 2 ^ 64 → count_below (2 ^ 64) (record { column = column; bytes = decimal n }) ≡ Ok n
unfolding count_below
count_read column n some fits =
    let above : (n == 0) ≡ false = grind (arith, nat_tests) in
    rw (number_below-decimal (2 ^ 64) column n fits fits, above) refl

fail_read : (end column nth : ℕ) → 0 < nth → nth < 2 ^ 64 → fail_of end (located column (decimal nth ∷ [])) ≡ Ok (step.Fail nth)
unfolding fail_of
fail_read end column nth some fits = rw (decimal_is_word nth fits, count_read column nth some fits) refl

stop_read : (end column calls : ℕ) → calls < 2 ^ 64 → stop_of end (located column (decimal calls ∷ [])) ≡ Ok (step.StopAfter calls)
unfolding stop_of
stop_read end column calls fits = rw (long_taken end column calls [] fits) refl

byte_taken : (end column n : ℕ) (words : List WordAt) → n < 512 → take_number 512 end (record { column = column; bytes = decimal n } ∷ words) ≡ Ok (n, words)
byte_taken end column n words h = number_taken 512 end column n words h (omega (arith, h))

flip_read : (end column place byte : ℕ) → place < 2 ^ 64 → byte < 512 → flip_of end (located column (decimal place ∷ decimal byte ∷ [])) ≡ Ok (step.Flip place byte)
unfolding flip_of
flip_read end column place byte fits small = rw (long_taken end column place _ fits, byte_taken end _ byte [] small) refl

choice_is_word : (how : CutChoice) → IsWord (choice_word how)
choice_is_word choice.Lost = refl
choice_is_word choice.Kept = refl
choice_is_word choice.Torn = refl
choice_is_word choice.Junk = refl

cut_read : (end column : ℕ) (how : CutChoice) → cut_of end (located column (choice_word how ∷ [])) ≡ Ok (step.Cut how)
unfolding cut_of choice_of
cut_read end column choice.Lost = refl
cut_read end column choice.Kept = refl
cut_read end column choice.Torn = refl
cut_read end column choice.Junk = refl

by_actor_read : (end column : ℕ) (actor : List ℕ) (make : List ℕ → Step) → IsActor actor → by_actor end (located column (actor ∷ [])) make ≡ Ok (make actor)
by_actor_read end column actor make who = rw (only_actor_read end column actor who) refl

-- ---- all of them

pub spelled_is_read : SpelledIsRead
unfolding verb_of
spelled_is_read (step.Format name s b n a r f g m) h =
    step_read _ _ _ verb.Format _ refl refl (format_words_are name s b n a r f g m h) refl (λ end column. format_read end column name s b n a r f g m h)
spelled_is_read (step.Put object body request response) h =
    step_read _ _ _ verb.Put _ refl refl (refl, (key_word_is_word object, (body_word_is_word body h.1, both_words_are request response h.2 h.3))) refl
    (λ end column. put_read end column object body request response h.0 h.1 h.2 h.3)
spelled_is_read (step.Get object request) h =
    step_read _ _ _ verb.Get _ refl refl (refl, (key_word_is_word object, request_words_are request h.1)) refl (λ end column. get_read end column object request h.0 h.1)
spelled_is_read (step.OpenWrite actor object pin request response) h =
    step_read _ _ _ verb.OpenWrite _ refl refl (refl, (actor_is_word actor h.0, (key_word_is_word object, (decimal_is_word pin h.2, both_words_are request response h.3 h.4)))) refl
    (λ end column. open_write_read end column actor object pin request response h.0 h.1 h.2 h.3 h.4)
spelled_is_read (step.Feed actor body) h =
    step_read _ _ _ verb.Data _ refl refl (refl, (actor_is_word actor h.0, (body_word_is_word body h.1, tt))) refl (λ end column. data_read end column actor body h.0 h.1)
spelled_is_read (step.Close actor) h = step_read _ _ _ verb.Close _ refl refl (refl, (actor_is_word actor h, tt)) refl (λ end column. by_actor_read end column actor step.Close h)
spelled_is_read (step.Abort actor) h = step_read _ _ _ verb.Abort _ refl refl (refl, (actor_is_word actor h, tt)) refl (λ end column. by_actor_read end column actor step.Abort h)
spelled_is_read (step.OpenRead actor object request) h =
    step_read _ _ _ verb.OpenRead _ refl refl (refl, (actor_is_word actor h.0, (key_word_is_word object, request_words_are request h.2))) refl
    (λ end column. open_read_read end column actor object request h.0 h.1 h.2)
spelled_is_read (step.Next actor) h = step_read _ _ _ verb.Next _ refl refl (refl, (actor_is_word actor h, tt)) refl (λ end column. by_actor_read end column actor step.Next h)
spelled_is_read (step.Done actor) h = step_read _ _ _ verb.Done _ refl refl (refl, (actor_is_word actor h, tt)) refl (λ end column. by_actor_read end column actor step.Done h)
spelled_is_read (step.Remove object) h = step_read _ _ _ verb.Remove _ refl refl (refl, (key_word_is_word object, tt)) refl (λ end column. remove_read end column object h)
spelled_is_read step.Flush h = step_read _ _ _ verb.Flush _ refl refl (refl, tt) refl (λ end column. refl)
spelled_is_read (step.Now at) h = step_read _ _ _ verb.Now _ refl refl (refl, (decimal_is_word at h, tt)) refl (λ end column. now_read end column at h)
spelled_is_read (step.Fail nth) h =
    step_read _ _ _ verb.Fail _ refl refl (refl, (decimal_is_word nth h.1, tt)) refl (λ end column. fail_read end column nth h.0 h.1)
spelled_is_read (step.StopAfter calls) h =
    step_read _ _ _ verb.StopAfter _ refl refl (refl, (decimal_is_word calls h, tt)) refl (λ end column. stop_read end column calls h)
spelled_is_read (step.Flip place byte) h =
    step_read _ _ _ verb.Flip _ refl refl (refl, (decimal_is_word place h.0, (decimal_is_word byte (omega (arith, h.1)), tt))) refl
    (λ end column. flip_read end column place byte h.0 h.1)
spelled_is_read (step.Cut choice) h = step_read _ _ _ verb.Cut _ refl refl (refl, (choice_is_word choice, tt)) refl (λ end column. cut_read end column choice)
