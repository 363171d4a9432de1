-- The first word of what is left of a line, and the words behind it.
use Rattle.std.proofs.Common.{◌≡◌, ℕ, ◌-◌, ◌<◌, false, List, ◌∷◌, length, inl, inr, arith}
use Rattle.std.specs.List.{All, position_or_len}
use Rattle.std.proofs.lemmas.Bool.{cases_lt}
use Rattle.std.proofs.lemmas.List.Splits.{slice_split_none, slice_split_first}
use Rattle.std.proofs.lemmas.List.Sums.{fails_before_first}
use Rattle.std.proofs.lemmas.Grind.{common_steps}
use Rattle.script_grammar.specs.Words.{is_space, words_from}
use Rattle.script_lang.specs.Taken.{first_word, behind_word, words_left}

-- what stands before the first space is the first word, and the words behind it are the others
pub words_cut : (end : ℕ) (bytes : List ℕ) → length bytes < end → words_from (end - length bytes) bytes ≡ record { column = end - length bytes; bytes = first_word bytes } ∷ words_left end (behind_word bytes)
words_cut end bytes inside =
    elim (cases_lt (position_or_len is_space bytes) (length bytes)) [
      | inl within ↦ grind (arith, common_steps, slice_split_first is_space bytes 0 within)
      | inr outside ↦
          let none : All (λ b. is_space b ≡ false) bytes = λ k d l. fails_before_first is_space bytes k d (omega (arith, outside, l)) in
          grind (arith, common_steps, slice_split_none is_space bytes none)
    ]
