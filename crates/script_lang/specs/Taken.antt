-- What a call has taken from a line, and what is left of it.
use Rattle.std.specs.Prelude.{ℕ, ◌+◌, ◌-◌, ◌≡◌, List, [], length, take, drop, position, Option, Some, None, option_map, Result, Ok, Err, MatchResult}
use Rattle.std.specs.Option.{option_copied}
use Rattle.script_grammar.specs.declared.line.BadLine.{BadLine}
use Rattle.script_lang.specs.declared.left.Word.{Word}
use Rattle.script_lang.specs.declared.left.Words.{Words}
use Rattle.script_grammar.specs.Words.{WordAt, is_space, take_word, words_from}
use Rattle.script_grammar.specs.Grammar.{take_number}

-- a word as a list of bytes
abbrev pub seen_word : Word → WordAt
seen_word word = record { column = word.column; bytes = word.bytes.now }

-- the bytes before a place, or all
abbrev pub word_to : List ℕ → Option ℕ → List ℕ
word_to bytes (Some at) = take at bytes
word_to bytes None = bytes

-- up to the first space, or all; empty where a space stands first
abbrev pub first_word : List ℕ → List ℕ
first_word bytes = word_to bytes (position is_space bytes)

-- what stands behind the first space
abbrev pub behind_word : List ℕ → Option (List ℕ)
behind_word bytes = option_map (λ at. drop (at + 1) bytes) (position is_space bytes)

-- the words of what is left of a line that ends before the column `end`
abbrev pub words_left : ℕ → Option (List ℕ) → List WordAt
words_left end None = []
words_left end (Some bytes) = words_from (end - length bytes) bytes

-- the words that are still to be taken, with their columns in the whole line
abbrev pub words_in : Words → List WordAt
words_in words = words_left words.end (option_copied words.left)

-- the next word was taken, or the fault is the one that stands there
abbrev pub TakesWord : ℕ → List WordAt → Result Word BadLine → List WordAt → Type 0
TakesWord end old result new =
    MatchResult result (λ word. take_word end old ≡ Ok (seen_word word, new)) (λ fault. take_word end old ≡ Err fault)

-- the next word was taken as a number, or the fault is the one that stands there
abbrev pub TakesNumber : ℕ → ℕ → List WordAt → Result ℕ BadLine → List WordAt → Type 0
TakesNumber limit end old result new =
    MatchResult result (λ n. take_number limit end old ≡ Ok (n, new)) (λ fault. take_number limit end old ≡ Err fault)
