-- Which line is which step, and where the first word that does not fit stands.
use Rattle.std.specs.Prelude.{ℕ, ◌+◌, ◌^◌, ◌==◌, Bool, ◌||◌, if◌then◌else◌, List, [], ◌∷◌, length, codes, slice_index, Option, Some, None, Result, Ok, Err}
use Rattle.device_log.specs.declared.choice.CutChoice.{CutChoice}
use Rattle.device_log.specs.declared.choice.CutChoice.TheVariants as choice
use Rattle.script_grammar.specs.declared.line.BadKind.TheVariants as kind
use Rattle.script_grammar.specs.declared.line.BadLine.{BadLine}
use Rattle.script_grammar.specs.declared.line.LineAnswer.{LineAnswer}
use Rattle.script_grammar.specs.declared.line.LineAnswer.TheVariants as answer
use Rattle.script_grammar.specs.declared.sides.FieldKinds.TheVariants.{Request, Both}
use Rattle.script_grammar.specs.declared.step.Step.{Step}
use Rattle.script_grammar.specs.declared.step.Step.TheVariants as step
use Rattle.script_grammar.specs.declared.verb.Verb.{Verb}
use Rattle.script_grammar.specs.declared.verb.Verb.TheVariants as verb
use Rattle.script_grammar.specs.Words.{WordAt, bad, take_word, take_end, words_from, ◌>>=◌}
use Rattle.script_grammar.specs.Tokens.{count_below, number_below, object_of, body_of_word, actor_of_word}
use Rattle.script_grammar.specs.Fields.{fields_after, no_fields}
use Rattle.script_grammar.specs.Verbs.{same_word, verb_of}

-- the next word as a number below a limit, and what is left
unfoldable pub take_number : ℕ → ℕ → List WordAt → Result (ℕ × List WordAt) BadLine
take_number limit end words = do
  w ← take_word end words
  n ← number_below limit w.0
  Ok (n, w.1)

-- the number of alternates, and no word behind it; 5 where no word is left
unfoldable pub alternates_kept : ℕ → List WordAt → Result ℕ BadLine
alternates_kept end [] = Ok 5
alternates_kept end (w ∷ words) = do
  most ← take_number (2 ^ 32) end (w ∷ words)
  done ← take_end most.1
  Ok most.0

-- the generation behind `default`, and the numbers of the usual geometry
unfoldable pub usual_of : ℕ → List ℕ → List WordAt → Result Step BadLine
usual_of end name words = do
  generation ← take_number (2 ^ 64) end words
  alternates ← alternates_kept end generation.1
  Ok (step.Format name 4 8192 2097152 8192 65536 1048576 generation.0 alternates)

-- the numbers of a geometry, of which the first was taken
unfoldable pub format_of_numbers : ℕ → List ℕ → ℕ → List WordAt → Result Step BadLine
format_of_numbers end name segments words = do
  buckets ← take_number (2 ^ 32) end words
  content ← take_number (2 ^ 64) end buckets.1
  agg ← take_number (2 ^ 32) end content.1
  reach ← take_number (2 ^ 64) end agg.1
  fragment ← take_number (2 ^ 32) end reach.1
  generation ← take_number (2 ^ 64) end fragment.1
  alternates ← alternates_kept end generation.1
  Ok (step.Format name segments buckets.0 content.0 agg.0 reach.0 fragment.0 generation.0 alternates)

-- the word that stands for the usual numbers, but for the generation and the alternates
abbrev pub is_default : WordAt → Bool
is_default w = same_word w.bytes (codes "default")

-- a word behind the name: `default`, or the first of the numbers
abbrev pub geometry_of : ℕ → List ℕ → WordAt → List WordAt → Result Step BadLine
geometry_of end name w words =
    if is_default w then usual_of end name words else number_below (2 ^ 32) w >>= (λ segments. format_of_numbers end name segments words)

-- format NAME S B N A R F G [M], or format NAME default G [M]
unfoldable pub format_of : ℕ → List WordAt → Result Step BadLine
format_of end words = do
  name ← take_word end words
  w ← take_word end name.1
  geometry_of end name.0.bytes w.0 w.1

-- put OBJECT BODY FIELD*
unfoldable pub put_line_of : ℕ → List WordAt → Result Step BadLine
put_line_of end words = do
  w ← take_word end words
  object ← object_of w.0
  v ← take_word end w.1
  body ← body_of_word v.0
  sides ← fields_after Both no_fields v.1
  Ok (step.Put object body sides.request sides.response)

-- get OBJECT FIELD*
unfoldable pub get_of : ℕ → List WordAt → Result Step BadLine
get_of end words = do
  w ← take_word end words
  object ← object_of w.0
  sides ← fields_after Request no_fields w.1
  Ok (step.Get object sides.request)

-- the next word as an actor's name, and what is left
unfoldable pub take_actor : ℕ → List WordAt → Result (List ℕ × List WordAt) BadLine
take_actor end words = do
  w ← take_word end words
  actor ← actor_of_word w.0
  Ok (actor, w.1)

-- open-write ACTOR OBJECT PIN FIELD*
unfoldable pub open_write_of : ℕ → List WordAt → Result Step BadLine
open_write_of end words = do
  actor ← take_actor end words
  w ← take_word end actor.1
  object ← object_of w.0
  pin ← take_number (2 ^ 64) end w.1
  sides ← fields_after Both no_fields pin.1
  Ok (step.OpenWrite actor.0 object pin.0 sides.request sides.response)

-- data ACTOR BODY
unfoldable pub data_of : ℕ → List WordAt → Result Step BadLine
data_of end words = do
  actor ← take_actor end words
  w ← take_word end actor.1
  body ← body_of_word w.0
  done ← take_end w.1
  Ok (step.Feed actor.0 body)

-- open-read ACTOR OBJECT FIELD*
unfoldable pub open_read_of : ℕ → List WordAt → Result Step BadLine
open_read_of end words = do
  actor ← take_actor end words
  w ← take_word end actor.1
  object ← object_of w.0
  sides ← fields_after Request no_fields w.1
  Ok (step.OpenRead actor.0 object sides.request)

-- an actor and no more: close ACTOR, abort ACTOR, next ACTOR, done ACTOR
unfoldable pub only_actor : ℕ → List WordAt → Result (List ℕ) BadLine
only_actor end words = do
  actor ← take_actor end words
  done ← take_end actor.1
  Ok actor.0

-- such a line as the step that `make` gives for its actor
abbrev pub by_actor : ℕ → List WordAt → (List ℕ → Step) → Result Step BadLine
by_actor end words make = only_actor end words >>= (λ actor. Ok (make actor))

-- remove OBJECT
unfoldable pub remove_of : ℕ → List WordAt → Result Step BadLine
remove_of end words = do
  w ← take_word end words
  object ← object_of w.0
  done ← take_end w.1
  Ok (step.Remove object)

-- flush
abbrev pub flush_of : List WordAt → Result Step BadLine
flush_of words = take_end words >>= (λ done. Ok step.Flush)

-- now MOMENT
unfoldable pub now_of : ℕ → List WordAt → Result Step BadLine
now_of end words = do
  moment ← take_number (2 ^ 64) end words
  done ← take_end moment.1
  Ok (step.Now moment.0)

-- fail NTH
unfoldable pub fail_of : ℕ → List WordAt → Result Step BadLine
fail_of end words = do
  w ← take_word end words
  nth ← count_below (2 ^ 64) w.0
  done ← take_end w.1
  Ok (step.Fail nth)

-- stop-after CALLS
unfoldable pub stop_of : ℕ → List WordAt → Result Step BadLine
stop_of end words = do
  calls ← take_number (2 ^ 64) end words
  done ← take_end calls.1
  Ok (step.StopAfter calls.0)

-- flip PLACE BYTE, a byte of a block
unfoldable pub flip_of : ℕ → List WordAt → Result Step BadLine
flip_of end words = do
  place ← take_number (2 ^ 64) end words
  byte ← take_number 512 end place.1
  done ← take_end byte.1
  Ok (step.Flip place.0 byte.0)

-- the cut that a word names
unfoldable pub choice_of : List ℕ → Option CutChoice
choice_of word =
    if same_word word (codes "lost") then Some choice.Lost
    else if same_word word (codes "kept") then Some choice.Kept
    else if same_word word (codes "torn") then Some choice.Torn
    else if same_word word (codes "junk") then Some choice.Junk
    else None

-- a word that names none is the fault
abbrev pub choice_by : WordAt → Option CutChoice → Result CutChoice BadLine
choice_by w (Some choice) = Ok choice
choice_by w None = Err (bad w.column kind.Word)

-- cut CHOICE
unfoldable pub cut_of : ℕ → List WordAt → Result Step BadLine
cut_of end words = do
  w ← take_word end words
  choice ← choice_by w.0 (choice_of w.0.bytes)
  done ← take_end w.1
  Ok (step.Cut choice)

-- the step of a verb and the words behind it
abbrev pub step_by : ℕ → Verb → List WordAt → Result Step BadLine
step_by end verb.Format words = format_of end words
step_by end verb.Put words = put_line_of end words
step_by end verb.Get words = get_of end words
step_by end verb.OpenWrite words = open_write_of end words
step_by end verb.Data words = data_of end words
step_by end verb.Close words = by_actor end words step.Close
step_by end verb.Abort words = by_actor end words step.Abort
step_by end verb.OpenRead words = open_read_of end words
step_by end verb.Next words = by_actor end words step.Next
step_by end verb.Done words = by_actor end words step.Done
step_by end verb.Remove words = remove_of end words
step_by end verb.Flush words = flush_of words
step_by end verb.Now words = now_of end words
step_by end verb.Fail words = fail_of end words
step_by end verb.StopAfter words = stop_of end words
step_by end verb.Flip words = flip_of end words
step_by end verb.Cut words = cut_of end words

-- a first word that is no verb is the fault, at its own column, whatever follows
abbrev pub step_named : ℕ → WordAt → Option Verb → List WordAt → Result Step BadLine
step_named end w None words = Err (bad w.column kind.Verb)
step_named end w (Some verb) words = step_by end verb words

-- the step that a line asks for
unfoldable pub step_of : List ℕ → Result Step BadLine
step_of line = do
  w ← take_word (length line + 1) (words_from 1 line)
  step_named (length line + 1) w.0 (verb_of w.0.bytes) w.1

-- an empty line or a comment is passed over
abbrev pub is_passed_over : List ℕ → Bool
is_passed_over line = length line == 0 || slice_index line 0 == 35

-- a line that is not passed over: its step, or the fault of the first word that does not fit
abbrev pub answer_by : Result Step BadLine → LineAnswer
answer_by (Ok step) = answer.Step step
answer_by (Err fault) = answer.Bad fault

-- how a line is read: no word of one that is passed over is tested
unfoldable pub reading_of : List ℕ → LineAnswer
reading_of line = if is_passed_over line then answer.Nothing else answer_by (step_of line)
