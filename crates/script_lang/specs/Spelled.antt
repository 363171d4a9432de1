-- How a step is written as a line, and that the line is read as that step.
use Rattle.std.specs.Prelude.{ℕ, ◌≡◌, ◌<◌, ◌^◌, ◌==◌, true, not, ◌&&◌, ⊤, if◌then◌else◌, List, [], ◌∷◌, ◌++◌, map, codes}
use Rattle.std.specs.List.{AllByRecursion, flat_map, join_with_byte}
use Rattle.std.specs.Fmt.{decimal}
use Rattle.hex.specs.Hex.{encode_lower, IsBytes}
use Rattle.percent_encoding.specs.Percent.{percent_encode_byte}
use Rattle.tape_base.specs.declared.keys.Key.{Key}
use Rattle.tape_base.specs.Key.{key_bytes, key_of_bytes}
use Rattle.alternate_vector.specs.Field.{Field, AreFields}
use Rattle.device_log.specs.declared.choice.CutChoice.{CutChoice}
use Rattle.device_log.specs.declared.choice.CutChoice.TheVariants as choice
use Rattle.script_grammar.specs.declared.line.LineAnswer.TheVariants as answer
use Rattle.script_grammar.specs.declared.step.Step.{Step}
use Rattle.script_grammar.specs.declared.step.Step.TheVariants as step
use Rattle.script_grammar.specs.Words.{is_word, is_word_byte}
use Rattle.script_grammar.specs.Tokens.{is_actor}
use Rattle.script_grammar.specs.Grammar.{reading_of}

-- ---- how words are written

-- always `key:` and 32 lower-case hex digits, never a URL
abbrev pub key_word : Key → List ℕ
key_word key = codes "key:" ++ encode_lower (key_bytes key)

-- `-` for no bytes, else hex digits
abbrev pub body_word : List ℕ → List ℕ
body_word [] = codes "-"
body_word (byte ∷ bytes) = encode_lower (byte ∷ bytes)

-- a byte of a field's value: as it stands, or as `%` and two hex digits
abbrev pub written_byte : ℕ → List ℕ
written_byte byte = if is_word_byte byte && not (byte == 37) then byte ∷ [] else percent_encode_byte byte

-- byte by byte, so that no space and no byte outside 21 to 7E hex stands in the word
abbrev pub written_value : List ℕ → List ℕ
written_value value = flat_map written_byte value

-- the sign, the name as it is kept, a colon, and the written value
abbrev pub field_word : ℕ → Field → List ℕ
field_word sign field = sign ∷ (field.name ++ (58 ∷ written_value field.value))

-- the lines of a request, each behind `>`, in their order
abbrev pub request_words : List Field → List (List ℕ)
request_words fields = map (field_word 62) fields

-- the lines of a response, each behind `<`, in their order
abbrev pub response_words : List Field → List (List ℕ)
response_words fields = map (field_word 60) fields

-- ---- how steps are written

-- no word for the five alternates that a line without a number asks for
abbrev pub alternates_words : ℕ → List (List ℕ)
alternates_words alternates = if alternates == 5 then [] else decimal alternates ∷ []

-- the word of a cut
abbrev pub choice_word : CutChoice → List ℕ
choice_word choice.Lost = codes "lost"
choice_word choice.Kept = codes "kept"
choice_word choice.Torn = codes "torn"
choice_word choice.Junk = codes "junk"

-- the verb and the words behind it: a geometry by its numbers, request lines before response lines
abbrev pub step_words : Step → List (List ℕ)
step_words (step.Format name segments buckets content agg reach fragment generation alternates) =
    codes "format" ∷ name ∷ decimal segments ∷ decimal buckets ∷ decimal content ∷ decimal agg ∷ decimal reach ∷ decimal fragment ∷ decimal generation ∷ alternates_words alternates
step_words (step.Put object body request response) = codes "put" ∷ key_word object ∷ body_word body ∷ (request_words request ++ response_words response)
step_words (step.Get object request) = codes "get" ∷ key_word object ∷ request_words request
step_words (step.OpenWrite actor object pin request response) =
    codes "open-write" ∷ actor ∷ key_word object ∷ decimal pin ∷ (request_words request ++ response_words response)
step_words (step.Feed actor body) = codes "data" ∷ actor ∷ body_word body ∷ []
step_words (step.Close actor) = codes "close" ∷ actor ∷ []
step_words (step.Abort actor) = codes "abort" ∷ actor ∷ []
step_words (step.OpenRead actor object request) = codes "open-read" ∷ actor ∷ key_word object ∷ request_words request
step_words (step.Next actor) = codes "next" ∷ actor ∷ []
step_words (step.Done actor) = codes "done" ∷ actor ∷ []
step_words (step.Remove object) = codes "remove" ∷ key_word object ∷ []
step_words step.Flush = codes "flush" ∷ []
step_words (step.Now moment) = codes "now" ∷ decimal moment ∷ []
step_words (step.Fail nth) = codes "fail" ∷ decimal nth ∷ []
step_words (step.StopAfter calls) = codes "stop-after" ∷ decimal calls ∷ []
step_words (step.Flip place byte) = codes "flip" ∷ decimal place ∷ decimal byte ∷ []
step_words (step.Cut choice) = codes "cut" ∷ choice_word choice ∷ []

-- the line of a step: its words with a space between any two
abbrev pub spelled_step : Step → List ℕ
spelled_step s = join_with_byte 32 (step_words s)

-- ---- which steps can be written

-- the key of its own bytes, as each key of a program is
abbrev pub IsKey : Key → Type 0
IsKey key = key_of_bytes (key_bytes key) ≡ key

-- the value has bytes alone, numbers below 256; of the name `AreFields` says so
abbrev pub HasBytes : Field → Type 0
HasBytes field = IsBytes field.value

-- fields as a program holds them
pub record HoldsFields (fields : List Field) : Type 0 where
  pub are : AreFields fields
  pub bytes : AllByRecursion HasBytes fields

-- a device's name that is a word, and numbers of the widths that a geometry has
pub record FitsFormat (name : List ℕ) (segments buckets content agg reach fragment generation alternates : ℕ) : Type 0 where
  pub word : is_word name ≡ true
  pub segments_fit : segments < 2 ^ 32
  pub buckets_fit : buckets < 2 ^ 32
  pub content_fits : content < 2 ^ 64
  pub agg_fits : agg < 2 ^ 32
  pub reach_fits : reach < 2 ^ 64
  pub fragment_fits : fragment < 2 ^ 32
  pub generation_fits : generation < 2 ^ 64
  pub alternates_fit : alternates < 2 ^ 32

-- a name of 1 to 32 letters, digits and `-`
abbrev pub IsActor : List ℕ → Type 0
IsActor actor = is_actor actor ≡ true

-- a step whose names are words and whose values are those of its types
abbrev pub HasSpelling : Step → Type 0
HasSpelling (step.Format name segments buckets content agg reach fragment generation alternates) =
    FitsFormat name segments buckets content agg reach fragment generation alternates
HasSpelling (step.Put object body request response) = IsKey object × IsBytes body × HoldsFields request × HoldsFields response
HasSpelling (step.Get object request) = IsKey object × HoldsFields request
HasSpelling (step.OpenWrite actor object pin request response) = IsActor actor × IsKey object × (pin < 2 ^ 64) × HoldsFields request × HoldsFields response
HasSpelling (step.Feed actor body) = IsActor actor × IsBytes body
HasSpelling (step.Close actor) = IsActor actor
HasSpelling (step.Abort actor) = IsActor actor
HasSpelling (step.OpenRead actor object request) = IsActor actor × IsKey object × HoldsFields request
HasSpelling (step.Next actor) = IsActor actor
HasSpelling (step.Done actor) = IsActor actor
HasSpelling (step.Remove object) = IsKey object
HasSpelling step.Flush = ⊤
HasSpelling (step.Now moment) = moment < 2 ^ 64
HasSpelling (step.Fail nth) = (0 < nth) × (nth < 2 ^ 64)
HasSpelling (step.StopAfter calls) = calls < 2 ^ 64
HasSpelling (step.Flip place byte) = (place < 2 ^ 64) × (byte < 512)
HasSpelling (step.Cut choice) = ⊤

-- the line of a step is read as that step
abbrev pub SpelledIsRead : Type 0
SpelledIsRead = (s : Step) → HasSpelling s → reading_of (spelled_step s) ≡ answer.Step s
