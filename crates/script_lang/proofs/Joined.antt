-- Words that are joined by spaces are the words of the line.
use Rattle.std.proofs.Common.{◌≡◌, ℕ, Bool, true, false, List, [], ◌∷◌, get_or, refl, ap, ◌∙◌, arith}
use Rattle.std.specs.List.{All, AllByRecursion, list_all, slice_split, join_with_byte}
use Rattle.std.proofs.lemmas.Bool.{and_parts}
use Rattle.std.proofs.lemmas.Bool.Decides.{nat_tests}
use Rattle.std.proofs.lemmas.List.Splits.{slice_split_none, slice_split_at}
use Rattle.std.proofs.lemmas.List.Sums.{AllPass-from_list_all, list_all-from_AllPass}
use Rattle.script_grammar.specs.Words.{is_space, is_word, is_word_byte, located, words_from}

abbrev pub IsWord : List ℕ → Type 0
IsWord w = is_word w ≡ true

-- bytes of one kind are bytes of a wider one
pub all_wider : (p q : ℕ → Bool) → ((b : ℕ) → p b ≡ true → q b ≡ true) → (w : List ℕ) → list_all p w ≡ true → list_all q w ≡ true
all_wider p q wider w h = list_all-from_AllPass q w (λ k d l. wider (get_or w k d) (AllPass-from_list_all p w h k d l))

not_space : (b : ℕ) → is_word_byte b ≡ true → is_space b ≡ false
not_space b h = grind (arith, nat_tests)

no_space : (w : List ℕ) → IsWord w → All (λ b. is_space b ≡ false) w
no_space w h k d l = not_space (get_or w k d) (AllPass-from_list_all is_word_byte w (and_parts _ (list_all is_word_byte w) h).1 k d l)

pub split_joined : (w : List ℕ) (ws : List (List ℕ)) → AllByRecursion IsWord (w ∷ ws) → slice_split is_space (join_with_byte 32 (w ∷ ws)) ≡ w ∷ ws
split_joined w [] h = slice_split_none is_space w (no_space w h.0)
split_joined w (x ∷ xs) h = slice_split_at is_space w 32 (join_with_byte 32 (x ∷ xs)) (no_space w h.0) refl ∙ ap (λ (t : List (List ℕ)). w ∷ t) (split_joined x xs h.1)

pub words_joined : (w : List ℕ) (ws : List (List ℕ)) → AllByRecursion IsWord (w ∷ ws) → words_from 1 (join_with_byte 32 (w ∷ ws)) ≡ located 1 (w ∷ ws)
words_joined w ws h = ap (located 1) (split_joined w ws h)
