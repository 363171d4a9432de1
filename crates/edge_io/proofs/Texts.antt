-- The text behind reads, and lines in front of it.
use Rattle.std.proofs.Common.{◌≡◌, ℕ, zero, suc, ◌<◌, ◌≤◌, cond, List, [], ◌∷◌, ◌++◌, length, take, drop, refl, sym, ◌∙◌, ap, subst, append_assoc, arith, get_or-take, length-take-le}
use Rattle.device_log.specs.Streams.{SourceRead, GaveBytes, CameToEnd, RefusedRead}
use Rattle.edge_io.specs.Text.{spelled, closed, text_after}
use Rattle.edge_io.specs.LineBuffer.{IsClear, IsNewline}
use Rattle.edge_io.specs.LineReader.{AreNeeded, IsDecided}
use Rattle.edge_io.proofs.LineLemmas.{clear_tail, newline_tail, first_other}

-- ---- reads behind reads

pub text_more : (before : List ℕ) (newer older : List SourceRead) → text_after before (newer ++ older) ≡ text_after (text_after before older) newer
text_more before [] older = refl
text_more before (GaveBytes bytes ∷ newer) older = ap (λ l. l ++ bytes) (text_more before newer older)
text_more before (CameToEnd ∷ newer) older = ap closed (text_more before newer older)
text_more before (RefusedRead count ∷ newer) older = text_more before newer older

pub needed_more : (given : ℕ) (before : List ℕ) (newer older : List SourceRead) → AreNeeded given before older → AreNeeded given (text_after before older) newer → AreNeeded given before (newer ++ older)
needed_more given before [] older first second = first
needed_more given before (read ∷ newer) older first second =
    (λ decided. second.0 (subst (λ (l : List ℕ). IsDecided given l) (text_more before newer older) decided), needed_more given before newer older first second.1)

-- ---- lines in front

closed_ten : (ys : List ℕ) → closed (10 ∷ ys) ≡ 10 ∷ closed ys
closed_ten [] = refl
closed_ten (y ∷ ys) = refl

closed_behind : (xs ys : List ℕ) → closed (xs ++ 10 ∷ ys) ≡ xs ++ 10 ∷ closed ys
closed_behind [] ys = closed_ten ys
closed_behind (x ∷ []) ys = ap (λ l. x ∷ l) (closed_ten ys)
closed_behind (x ∷ y ∷ xs) ys = ap (λ l. x ∷ l) (closed_behind (y ∷ xs) ys)

closed_spelled : (lines : List (List ℕ)) (held : List ℕ) → closed (spelled lines ++ held) ≡ spelled lines ++ closed held
closed_spelled [] held = refl
closed_spelled (line ∷ lines) held =
    ap closed (append_assoc line (10 ∷ spelled lines) held)
    ∙ (closed_behind line (spelled lines ++ held)
    ∙ (ap (λ l. line ++ 10 ∷ l) (closed_spelled lines held) ∙ sym (append_assoc line (10 ∷ spelled lines) (closed held))))

pub text_behind : (lines : List (List ℕ)) (held : List ℕ) (reads : List SourceRead) → text_after (spelled lines ++ held) reads ≡ spelled lines ++ text_after held reads
text_behind lines held [] = refl
text_behind lines held (GaveBytes bytes ∷ older) =
    ap (λ l. l ++ bytes) (text_behind lines held older) ∙ append_assoc (spelled lines) (text_after held older) bytes
text_behind lines held (CameToEnd ∷ older) = ap closed (text_behind lines held older) ∙ closed_spelled lines (text_after held older)
text_behind lines held (RefusedRead count ∷ older) = text_behind lines held older

pub spelled_more : (lines : List (List ℕ)) (line : List ℕ) → spelled (lines ++ line ∷ []) ≡ spelled lines ++ (line ++ 10 ∷ [])
spelled_more [] line = refl
spelled_more (l ∷ lines) line = ap (λ r. l ++ 10 ∷ r) (spelled_more lines line) ∙ sym (append_assoc l (10 ∷ spelled lines) (line ++ 10 ∷ []))

-- ---- one line

-- the end closes bytes without a newline
pub closed_open : (xs : List ℕ) → 0 < length xs → IsClear xs (length xs) → closed xs ≡ xs ++ 10 ∷ []
closed_open [] some clear = absurd (omega arith)
closed_open (x ∷ []) some clear = ap (λ b. cond b (x ∷ []) (x ∷ 10 ∷ [])) (first_other x [] 0 clear)
closed_open (x ∷ y ∷ ys) some clear = ap (λ l. x ∷ l) (closed_open (y ∷ ys) (omega arith) (clear_tail x (y ∷ ys) (length (y ∷ ys)) clear))

pub split_newline : (xs : List ℕ) (n : ℕ) → IsNewline xs n → xs ≡ take n xs ++ 10 ∷ drop (suc n) xs
split_newline [] n h = absurd (omega (arith, h.within))
split_newline (x ∷ xs) zero h = ap (λ k. k ∷ xs) h.here
split_newline (x ∷ xs) (suc n) h = ap (λ l. x ∷ l) (split_newline xs n (newline_tail x xs n h))

pub clear_front : (xs : List ℕ) (n : ℕ) → n ≤ length xs → IsClear xs n → IsClear (take n xs) (length (take n xs))
clear_front xs n fits clear = record {
  clear = λ k below is_ten.
      let inside : k < n = rw (length-take-le n xs fits) at below in
      clear.clear k inside (sym (get_or-take n xs k 0 inside) ∙ is_ten);
}
