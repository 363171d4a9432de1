-- A text of few short lines that may be taken is fine: each front of it is some of its lines.
use Rattle.std.proofs.Common.{◌≡◌, ◌∙◌, ℕ, ◌+◌, ◌<◌, ◌≤◌, List, [], ◌∷◌, ◌++◌, length, sym, ap, subst, arith, append-nil, append_assoc, length-append}
use Rattle.edge_io.specs.declared.reader.TheConstants.{MAX_LINE_BYTES, MAX_LINES}
use Rattle.edge_io.specs.Laws.{SpelledAreLines}
use Rattle.edge_io.specs.Lines.{AreLines, IsLine, first_line, lines_of}
use Rattle.edge_io.specs.Text.{spelled}
use Rattle.edge_io.proofs.LineLemmas.{first_within}
use Rattle.script_grammar.specs.Grammar.{reading_of}
use Rattle.headline.specs.Account.{begun_in, sessions_begun}
use Rattle.headline.specs.Endings.{AreTakeable, IsFine, MayBeTaken}

taken_at : (n : ℕ) (lines : List (List ℕ)) (bytes : List ℕ) (later : List (List ℕ)) → AreTakeable n (lines ++ bytes ∷ later)
    → MayBeTaken (n + sessions_begun lines) (reading_of bytes)
taken_at n [] bytes later may =
    let none : n ≡ n + 0 = omega arith in
    subst (λ (k : ℕ). MayBeTaken k (reading_of bytes)) none may.0
taken_at n (first ∷ lines) bytes later may =
    let begun = begun_in (reading_of first) in
    let count : n + begun + sessions_begun lines ≡ n + (begun + sessions_begun lines) = omega arith in
    subst (λ (k : ℕ). MayBeTaken k (reading_of bytes)) count (taken_at (n + begun_in (reading_of first)) lines bytes later may.1)

module _ (law : SpelledAreLines) (all : List (List ℕ)) (each : AreLines all) (short : length (spelled all) ≤ MAX_LINE_BYTES)
    (few : length all < MAX_LINES)
    (may : AreTakeable 0 all) where
  -- whichever lines a front of the text is, they are the first ones
  pub lines_are : (lines : List (List ℕ)) (behind : List ℕ) → spelled all ≡ spelled lines ++ behind → AreLines lines
      → all ≡ lines ++ lines_of behind
  lines_are lines behind text front =
      let whole : lines_of (spelled all ++ []) ≡ all ++ [] = law all [] each in
      let same : lines_of (spelled all) ≡ lines ++ lines_of behind = ap lines_of text ∙ law lines behind front in
      sym (append-nil all) ∙ (sym whole ∙ (ap lines_of (append-nil (spelled all)) ∙ same))

  next_is : (lines : List (List ℕ)) (bytes more : List ℕ) → spelled all ≡ spelled lines ++ (bytes ++ 10 ∷ more)
      → AreLines lines → IsLine bytes
      → MayBeTaken (sessions_begun lines) (reading_of bytes)
  next_is lines bytes more text front is_line =
      let first : lines_of ((bytes ++ 10 ∷ []) ++ more) ≡ bytes ∷ lines_of more = law (bytes ∷ []) more (is_line, tt) in
      let apart : (bytes ++ 10 ∷ []) ++ more ≡ bytes ++ 10 ∷ more = append_assoc bytes (10 ∷ []) more in
      let are : all ≡ lines ++ bytes ∷ lines_of more =
      lines_are lines (bytes ++ 10 ∷ more) text front ∙ ap (λ (later : List (List ℕ)). lines ++ later) (ap lines_of (sym apart) ∙ first) in
      let count : 0 + sessions_begun lines ≡ sessions_begun lines = omega arith in
      subst (λ (n : ℕ). MayBeTaken n (reading_of bytes)) count (taken_at 0 lines bytes (lines_of more) (subst (AreTakeable 0) are may))

  pub is_fine : IsFine (spelled all)
  is_fine lines behind text front takeable =
      let sizes : length (spelled all) ≡ length (spelled lines) + length behind = ap length text ∙ length-append (spelled lines) behind in
      let first : length (first_line behind) ≤ length behind = first_within behind in
      let counts : length all ≡ length lines + length (lines_of behind) =
      ap length (lines_are lines behind text front) ∙ length-append lines (lines_of behind) in
      record {
        short = omega (arith, sizes, first, short);
        few = λ many. absurd (omega (arith, counts, few, many));
        next = λ bytes more is_line is. next_is lines bytes more (text ∙ ap (λ (rest : List ℕ). spelled lines ++ rest) is) front is_line;
      }
