-- The lines of a text that is spelled, and of one that an end closed.
use Rattle.std.proofs.Common.{◌≡◌, ℕ, suc, ◌==◌, Bool, true, false, cond, List, [], ◌∷◌, ◌++◌, refl, sym, ◌∙◌, ap, append_assoc, arith, Contains}
use Rattle.std.specs.Prelude.{not, ◌&&◌}
use Rattle.std.proofs.lemmas.Bool.{ne_eqb}
use Rattle.device_log.specs.Streams.{SourceRead, GaveBytes, CameToEnd, RefusedRead, given_by, has_ended}
use Rattle.edge_io.specs.Lines.{lines_of, onto_first}
use Rattle.edge_io.specs.Text.{closed, spelled, text_read}
use Rattle.edge_io.specs.Laws.{SpelledAreLines, TextIsGiven, ends_last}

-- a line and its newline
line_first : (line rest : List ℕ) → (Contains line 10 → ⊥) → lines_of (line ++ 10 ∷ rest) ≡ line ∷ lines_of rest
line_first [] rest clear = refl
line_first (x ∷ line) rest clear =
    let other : (x == 10) ≡ false = ne_eqb x 10 (λ is. clear (0, omega arith, is)) in
    ap (λ b. cond b ([] ∷ lines_of (line ++ 10 ∷ rest)) (onto_first x (lines_of (line ++ 10 ∷ rest)))) other
    ∙ ap (onto_first x) (line_first line rest (λ has. clear (suc has.0, omega (arith, has.1), has.2)))

pub spelled_are_lines : SpelledAreLines
spelled_are_lines [] held each = refl
spelled_are_lines (line ∷ lines) held each =
    ap lines_of (append_assoc line (10 ∷ spelled lines) held)
    ∙ (line_first line (spelled lines ++ held) each.0.clear ∙ ap (λ l. line ∷ l) (spelled_are_lines lines held each.1))

closed_one : (x : ℕ) (b : Bool) → (x == 10) ≡ b → lines_of (cond b (x ∷ []) (x ∷ 10 ∷ [])) ≡ lines_of (x ∷ [])
closed_one x true e = refl
closed_one x false e =
    ap (λ b. cond b ([] ∷ lines_of (10 ∷ [])) (onto_first x (lines_of (10 ∷ [])))) e ∙ sym (ap (λ b. cond b ([] ∷ []) (onto_first x [])) e)

-- the end makes no other lines
closed_lines : (xs : List ℕ) → lines_of (closed xs) ≡ lines_of xs
closed_lines [] = refl
closed_lines (x ∷ []) = closed_one x (x == 10) refl
closed_lines (x ∷ y ∷ ys) = ap (λ l. cond (x == 10) ([] ∷ l) (onto_first x l)) (closed_lines (y ∷ ys))

-- before the end the text is what was given
record IsGiven (reads : List SourceRead) : Type 0 where
  pub same : has_ended reads ≡ false → text_read reads ≡ given_by reads
  pub lines : lines_of (text_read reads) ≡ lines_of (given_by reads)

both : (a b : Bool) → (not a && b) ≡ true → (a ≡ false) × (b ≡ true)
both true b e = absurd cc
both false b e = (refl, e)

given_lines : (reads : List SourceRead) → ends_last reads ≡ true → IsGiven reads
unfolding ends_last has_ended given_by
given_lines [] last = record { same = λ e. refl; lines = refl }
given_lines (GaveBytes bytes ∷ older) last =
    let parts = both (has_ended older) (ends_last older) last in
    let same : text_read older ++ bytes ≡ given_by older ++ bytes = ap (λ l. l ++ bytes) ((given_lines older parts.1).same parts.0) in
    record { same = λ e. same; lines = ap lines_of same }
given_lines (CameToEnd ∷ older) last = record { same = λ e. absurd cc; lines = closed_lines (text_read older) ∙ (given_lines older last).lines }
given_lines (RefusedRead count ∷ older) last = record { same = (given_lines older last).same; lines = (given_lines older last).lines }

pub text_is_given : TextIsGiven
text_is_given reads last = (given_lines reads last).lines
