-- What is written piece by piece.
use Rattle.std.proofs.Common.{◌≡◌, ℕ, suc, ◌+◌, ◌<◌, List, [], ◌∷◌, ◌++◌, length, take, get_or, sym, ap, ◌∙◌, append_assoc, arith}
use Rattle.std.specs.List.{flat_map}
use Rattle.std.proofs.Math.Seq.{take-suc}
use Rattle.std.proofs.lemmas.List.{map_push, flat_map_more}
use Rattle.alternate_vector.specs.declared.alternate.Alternate.{Alternate}
use Rattle.alternate_vector.specs.Alternates.{Stored, all_stored, stored_of}
use Rattle.alternate_vector.specs.Spelling.{alternate_bytes}

-- four pieces behind what was there
pub four_pieces : (old a b c d one two three four : List ℕ) → one ≡ old ++ a → two ≡ one ++ b → three ≡ two ++ c → four ≡ three ++ d → four ≡ old ++ (a ++ b ++ c ++ d)
four_pieces old a b c d one two three four e f g h = rw (h, g, f, e) (simp append_assoc)

pub take_more : (alternates : List Alternate) (i : ℕ) (d : Alternate) → i < length alternates → all_stored (take (i + 1) alternates) ≡ all_stored (take i alternates) ++ stored_of (get_or alternates i d) ∷ []
take_more alternates i d lt =
    ap (λ (k : ℕ). all_stored (take k alternates)) (let k : i + 1 ≡ suc i = omega arith in k)
    ∙ ap all_stored (take-suc alternates i d lt) ∙ map_push stored_of (take i alternates) (get_or alternates i d)

-- one alternate further
pub written_more : (front : List ℕ) (alternates : List Alternate) (i : ℕ) (d : Alternate) → i < length alternates
    → (front ++ flat_map alternate_bytes (all_stored (take i alternates))) ++ alternate_bytes (stored_of (get_or alternates i d)) ≡ front ++ flat_map alternate_bytes (all_stored (take (i + 1) alternates))
written_more front alternates i d lt =
    flat_map_more alternate_bytes front (all_stored (take i alternates)) (stored_of (get_or alternates i d))
    ∙ ap (λ (xs : List Stored). front ++ flat_map alternate_bytes xs) (sym (take_more alternates i d lt))
