-- One more line.
use Rattle.std.proofs.Common.{◌≡◌, ℕ, ◌-◌, List, [], ◌∷◌, ◌++◌, length, take, refl, sym, ◌∙◌, ap, append_assoc, append-nil, arith, length-append}
use Rattle.std.specs.Prelude.{Option}
use lib.Seq.{take-append_seam}
use Rattle.logged_disk.specs.Device.{DeviceState as Device}
use Rattle.script_grammar.specs.declared.answer.StepAnswer.{StepAnswer}
use Rattle.script_grammar.specs.Grammar.{reading_of}
use Rattle.script_run.specs.Run.{Harm, Run}
use Rattle.script_run.specs.Turn.{Turn}
use Rattle.script_run.specs.Behind.{after_line}
use Rattle.script_run.specs.Takes.{LineTakes, IsRun, run_after}
use Rattle.run_promise.specs.Outline.{Outline}
use Rattle.run_promise.specs.Lines.{AreAnswered, IsReadAs, answers_of, outline_of, outline_read, reading_answer, text_of, texts_before, texts_of}
use Rattle.script_run.specs.Ledger.{AreReached}

take-last : {A : Type 0} (xs : List A) (x : A) → take (length (xs ++ x ∷ []) - 1) (xs ++ x ∷ []) ≡ xs
take-last xs x =
    let count : length (xs ++ x ∷ []) - 1 ≡ length xs = omega (arith, length-append xs (x ∷ [])) in
    ap (λ n. take n (xs ++ x ∷ [])) count ∙ take-append_seam xs (x ∷ [])

-- ---- the run

module _ (line : List ℕ) (turn : Turn) where
  pub IsRun-more : (run : Run) (lines : List (List ℕ)) (turns : List Turn) → IsRun run lines turns → LineTakes (run_after run lines turns) turn line → IsRun run (lines ++ line ∷ []) (turns ++ turn ∷ [])
  IsRun-more run [] [] legal takes = (takes, tt)
  IsRun-more run [] (t ∷ turns) legal takes = absurd legal
  IsRun-more run (l ∷ lines) [] legal takes = absurd legal
  IsRun-more run (l ∷ lines) (t ∷ turns) legal takes = (legal.0, IsRun-more (after_line run t l) lines turns legal.1 takes)

  pub run_after-more : (run : Run) (lines : List (List ℕ)) (turns : List Turn) → IsRun run lines turns → run_after run (lines ++ line ∷ []) (turns ++ turn ∷ []) ≡ after_line (run_after run lines turns) turn line
  run_after-more run [] [] legal = refl
  run_after-more run [] (t ∷ turns) legal = absurd legal
  run_after-more run (l ∷ lines) [] legal = absurd legal
  run_after-more run (l ∷ lines) (t ∷ turns) legal = run_after-more (after_line run t l) lines turns legal.1

  pub answers_of-more : (run : Run) (lines : List (List ℕ)) (turns : List Turn) → IsRun run lines turns
      → answers_of run (lines ++ line ∷ []) (turns ++ turn ∷ []) ≡ answers_of run lines turns ++ reading_answer (run_after run lines turns) turn (reading_of line) ∷ []
  answers_of-more run [] [] legal = refl
  answers_of-more run [] (t ∷ turns) legal = absurd legal
  answers_of-more run (l ∷ lines) [] legal = absurd legal
  answers_of-more run (l ∷ lines) (t ∷ turns) legal = ap (λ rest. reading_answer run t (reading_of l) ∷ rest) (answers_of-more (after_line run t l) lines turns legal.1)

-- ---- the answers

module _ (line : List ℕ) (said : Option StepAnswer) where
  pub AreAnswered-more : (o : Outline) (lines : List (List ℕ)) (answers : List (Option StepAnswer)) → AreAnswered o lines answers → IsReadAs (outline_of o lines answers) (reading_of line) said
      → AreAnswered o (lines ++ line ∷ []) (answers ++ said ∷ [])
  AreAnswered-more o [] [] are last = (last, tt)
  AreAnswered-more o [] (a ∷ answers) are last = absurd are
  AreAnswered-more o (l ∷ lines) [] are last = absurd are
  AreAnswered-more o (l ∷ lines) (a ∷ answers) are last = (are.0, AreAnswered-more (outline_read o (reading_of l) a) lines answers are.1 last)

  pub outline_of-more : (o : Outline) (lines : List (List ℕ)) (answers : List (Option StepAnswer)) → AreAnswered o lines answers
      → outline_of o (lines ++ line ∷ []) (answers ++ said ∷ []) ≡ outline_read (outline_of o lines answers) (reading_of line) said
  outline_of-more o [] [] are = refl
  outline_of-more o [] (a ∷ answers) are = absurd are
  outline_of-more o (l ∷ lines) [] are = absurd are
  outline_of-more o (l ∷ lines) (a ∷ answers) are = outline_of-more (outline_read o (reading_of l) a) lines answers are.1

pub texts_of-more : (answers : List (Option StepAnswer)) (said : Option StepAnswer) → texts_of (answers ++ said ∷ []) ≡ texts_of answers ++ text_of said
texts_of-more [] said = append-nil (text_of said)
texts_of-more (a ∷ answers) said = ap (λ rest. text_of a ++ rest) (texts_of-more answers said) ∙ sym (append_assoc (text_of a) (texts_of answers) (text_of said))

pub texts_before-more : (answers : List (Option StepAnswer)) (said : Option StepAnswer) → texts_before (answers ++ said ∷ []) ≡ texts_of answers
texts_before-more answers said = ap texts_of (take-last answers said)

pub AreReached-append : (harms more : List Harm) (devices others : List Device) → AreReached harms devices → AreReached more others → AreReached (harms ++ more) (devices ++ others)
AreReached-append [] more [] others h k = k
AreReached-append [] more (d ∷ devices) others h k = absurd h
AreReached-append (harm ∷ harms) more [] others h k = absurd h
AreReached-append (harm ∷ harms) more (d ∷ devices) others h k = (h.0, AreReached-append harms more devices others h.1 k)
