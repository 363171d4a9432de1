-- How the steps of a line reader join into what a call answers.
use Rattle.std.proofs.Common.{◌≡◌, ◌≢◌, ℕ, suc, ◌+◌, ◌-◌, ◌^◌, min, ◌<◌, ◌≤◌, Bool, true, false, List, [], ◌∷◌, ◌++◌, length, take, drop, Option, None, Some, Ok, Err, inl, inr, refl, sym, ◌∙◌, ap, subst, arith, add-one, length-take-le, append-nil, take-append-drop}
use Rattle.std.proofs.lemmas.List.{take_all}
use Rattle.device_log.specs.Streams.{SourceRead, GaveBytes, CameToEnd, RefusedRead, read_faults}
use Rattle.device_log.specs.Faults.{next_count}
use Rattle.edge_io.specs.declared.reader.TheConstants.{MAX_LINE_BYTES, MAX_LINES}
use Rattle.edge_io.specs.declared.reader.LineFault.TheVariants.{LineTooLong, TooManyLines, ReadFault}
use Rattle.edge_io.specs.declared.reader.LineReader.{LineReader}
use Rattle.edge_io.specs.LineBuffer.{IsClear, IsNewline, Shown}
use Rattle.edge_io.specs.Lines.{IsLine, IsTooLong, IsTooMany, first_line}
use Rattle.edge_io.specs.Source.{NoReadFailed, ReadsSource, gave}
use Rattle.edge_io.specs.Text.{closed, text_after}
use Rattle.edge_io.specs.LineReader.{Answer, AreNeeded, Answers, Ends, FailsAsRead, GivesRest, IsDecided, IsRest, GivesNextLine, Waits, lines_given, held, given_after, answer_so}
use Rattle.edge_io.proofs.Draws.{draws_more, draws_nothing, draws_one, failed_count, gave_some, gave_unfailed}
use Rattle.edge_io.proofs.Newlines.{clear_apart}
use Rattle.edge_io.proofs.Ranges.{is_none}
use Rattle.edge_io.proofs.LineLemmas.{first_through, first_at, first_within}
use Rattle.edge_io.proofs.Texts.{clear_front, closed_open, needed_more, split_newline, text_more}

-- bytes without a newline, which a line may have, decide nothing
pub undecided : (given : ℕ) (xs : List ℕ) → given < MAX_LINES → IsClear xs (length xs) → length xs ≤ MAX_LINE_BYTES → IsDecided given xs → ⊥
undecided given xs within clear short = elim [
  | inl has ↦ clear_apart xs clear has
  | inr (inl long) ↦ absurd (omega (arith, first_within xs, long.long))
  | inr (inr many) ↦ absurd (omega (arith, many.all))
]

pub undecided_none : (given : ℕ) (xs : List ℕ) → length xs ≡ 0 → IsDecided given xs → ⊥
undecided_none given [] none = elim [
  | inl has ↦ absurd (omega (arith, has.1))
  | inr (inl long) ↦ absurd (omega (arith, long.long))
  | inr (inr many) ↦ many.more refl
]
undecided_none given (x ∷ xs) none = absurd (omega arith)

fails_since : (first before now : List SourceRead) (answer : Answer) → NoReadFailed first before → FailsAsRead before now answer → FailsAsRead first now answer
fails_since first before now (Ok line) none h = h ∙ none
fails_since first before now (Err (LineTooLong line)) none h = h ∙ none
fails_since first before now (Err TooManyLines) none h = h ∙ none
fails_since first before now (Err (ReadFault count)) none h = record {
  older = h.older;
  is = h.is;
  counted = h.counted ∙ ap (λ failed. next_count (min (length failed) (2 ^ 64 - 1))) none;
  others = h.others ∙ none;
}

answers_since : (given : ℕ) (newer older : List SourceRead) (old new : List ℕ) (answer : Answer) → Answers given newer old new answer → Answers given (newer ++ older) old new answer
answers_since given newer older old new (Ok (Some line)) h = h
answers_since given newer older old new (Ok None) h = ((h.0.0 ++ older, ap (λ l. l ++ older) h.0.1), h.1, h.2)
answers_since given newer older old new (Err (LineTooLong line)) h = h
answers_since given newer older old new (Err TooManyLines) h = h
answers_since given newer older old new (Err (ReadFault count)) h = h

is_some : (xs : List ℕ) → 0 < length xs → xs ≡ [] → ⊥
is_some [] some none = absurd (omega arith)
is_some (x ∷ xs) some none = cc

has_some : (xs : List ℕ) → xs ≢ [] → 0 < length xs
has_some [] some = absurd (some refl)
has_some (x ∷ xs) some = omega arith

-- what was read stands behind what was held
behind_front : (old new : List ℕ) → take (length old) new ≡ old → new ≡ old ++ drop (length old) new
behind_front old new front = sym (take-append-drop (length old) new) ∙ ap (λ l. l ++ drop (length old) new) front

same_length : (old new : List ℕ) → take (length old) new ≡ old → length new ≡ length old + 0 → new ≡ old
same_length old new front same = sym (take_all (length old) new (omega arith)) ∙ front

line_is : (rest : List ℕ) (n : ℕ) → IsNewline rest n → n ≤ MAX_LINE_BYTES → IsLine (take n rest)
line_is rest n newline short =
    let fits : n ≤ length rest = omega (arith, newline.within) in
    record { short = rw (length-take-le n rest fits) short; clear = clear_apart (take n rest) (clear_front rest n fits newline.before) }

module _ {S : Type 0} (reads : S → List SourceRead) (left : S → Option (List ℕ)) where
  pub waits_begin : (r : LineReader S) → Waits reads left r r
  waits_begin r = record { same_source = refl; draws = draws_nothing reads left r.source.now; needed = tt; unfailed = refl; given = refl; held_is = refl; held_stays = λ h. refl; idle = λ h. refl }

  -- what the first steps need of the later ones
  needed_since : (a b : LineReader S) (first : Waits reads left a b) (more : List SourceRead) → AreNeeded (lines_given b) (held b) more → AreNeeded (lines_given a) (held a) (more ++ first.draws.more)
  needed_since a b first more needed =
      needed_more (lines_given a) (held a) more first.draws.more first.needed
      (subst (λ (n : ℕ). AreNeeded n (text_after (held a) first.draws.more) more) first.given (subst (λ (l : List ℕ). AreNeeded (lines_given b) l more) first.held_is needed))

  text_since : (a b : LineReader S) (first : Waits reads left a b) (more : List SourceRead) → text_after (held b) more ≡ text_after (held a) (more ++ first.draws.more)
  text_since a b first more = ap (λ l. text_after l more) first.held_is ∙ sym (text_more (held a) more first.draws.more)

  pub waits_more : (a b c : LineReader S) → (IsDecided (lines_given b) (held b) → ⊥) → Waits reads left a b → Waits reads left b c → Waits reads left a c
  waits_more a b c free first second =
      let never : IsDecided (lines_given a) (held a) → ⊥ = λ h. free (subst (λ (l : List ℕ). IsDecided (lines_given b) l) (sym (first.held_stays h)) (subst (λ (n : ℕ). IsDecided n (held a)) (sym first.given) h)) in
      record {
        same_source = second.same_source ∙ first.same_source;
        draws = draws_more reads left a.source.now b.source.now c.source.now first.draws second.draws;
        needed = needed_since a b first second.draws.more second.needed;
        unfailed = second.unfailed ∙ first.unfailed;
        given = second.given ∙ first.given;
        held_is = second.held_is ∙ text_since a b first second.draws.more;
        held_stays = λ h. absurd (never h);
        idle = λ h. absurd (never h);
      }

  -- reads, and then an answer
  pub joins : (a b c : LineReader S) (answer : Answer) → Waits reads left a b → GivesNextLine reads left b c answer → GivesNextLine reads left a c answer
  joins a b c answer first second =
      let back = λ (h : IsDecided (lines_given a) (held a)). subst (λ (l : List ℕ). IsDecided (lines_given b) l) (sym (first.held_stays h)) (subst (λ (n : ℕ). IsDecided n (held a)) (sym first.given) h) in
      record {
        same_source = second.same_source ∙ first.same_source;
        draws = draws_more reads left a.source.now b.source.now c.source.now first.draws second.draws;
        needed = needed_since a b first second.draws.more second.needed;
        failed = fails_since (reads a.source.now) (reads b.source.now) (reads c.source.now) answer first.unfailed second.failed;
        given = subst (λ (n : ℕ). lines_given c ≡ given_after n answer) first.given second.given;
        answers = answers_since (lines_given a) second.draws.more first.draws.more (text_after (held a) (second.draws.more ++ first.draws.more)) (held c) answer
            (subst (λ (l : List ℕ). Answers (lines_given a) second.draws.more l (held c) answer) (text_since a b first second.draws.more)
            (subst (λ (n : ℕ). Answers n second.draws.more (text_after (held b) second.draws.more) (held c) answer) first.given second.answers));
        too_long = λ h.
            let same = first.held_stays (inr (inl h)) in
            let it = second.too_long (subst (λ (l : List ℕ). IsTooLong (lines_given b) l) (sym same) (subst (λ (n : ℕ). IsTooLong n (held a)) (sym first.given) h)) in
            (it.0 ∙ ap (λ n. Err (LineTooLong (n + 1))) first.given, it.1 ∙ same);
        too_many = λ h.
            let same = first.held_stays (inr (inr h)) in
            let it = second.too_many (subst (λ (l : List ℕ). IsTooMany (lines_given b) l) (sym same) (subst (λ (n : ℕ). IsTooMany n (held a)) (sym first.given) h)) in
            (it.0, it.1 ∙ same);
        idle = λ h. second.idle (back h) ∙ first.idle h;
      }

  -- ---- one read

  module _ (a b : LineReader S) (free : IsDecided (lines_given a) (held a) → ⊥) (same_source : b.source.ghost_name ≡ a.source.ghost_name) (given : lines_given b ≡ lines_given a) where
    -- it gave bytes
    pub read_waits : (n : ℕ) → 0 < n → ReadsSource reads left (gave n (drop (length (held a)) (held b))) a.source.now b.source.now → take (length (held a)) (held b) ≡ held a → Waits reads left a b
    read_waits n some once front =
        let bytes = drop (length (held a)) (held b) in
        let read = subst (λ (r : SourceRead). ReadsSource reads left r a.source.now b.source.now) (gave_some n bytes some) once in
        record {
          same_source = same_source;
          draws = draws_one reads left (GaveBytes bytes) a.source.now b.source.now read;
          needed = (free, tt);
          unfailed = subst (λ (l : List SourceRead). NoReadFailed (reads a.source.now) l) (sym once.grew) (gave_unfailed n bytes (reads a.source.now));
          given = given;
          held_is = behind_front (held a) (held b) front;
          held_stays = λ h. absurd (free h);
          idle = λ h. absurd (free h);
        }

    -- it came to the end
    pub read_ends : (n : ℕ) → n ≡ 0 → ReadsSource reads left (gave n (drop (length (held a)) (held b))) a.source.now b.source.now → take (length (held a)) (held b) ≡ held a → length (held b) ≡ length (held a) + n → Ends reads left a b
    read_ends n none once front longer =
        let read = subst (λ (k : ℕ). ReadsSource reads left (gave k (drop (length (held a)) (held b))) a.source.now b.source.now) none once in
        record { same_source = same_source; read = read; given = given; held_is = same_length (held a) (held b) front (subst (λ (k : ℕ). length (held b) ≡ length (held a) + k) none longer) }

    -- it failed
    pub read_fails : (count : ℕ) → ReadsSource reads left (RefusedRead (next_count (read_faults (reads a.source.now)))) a.source.now b.source.now → held b ≡ held a → count ≡ read_faults (reads b.source.now) → GivesNextLine reads left a b (Err (ReadFault count))
    read_fails count once same counted =
        let is : count ≡ next_count (read_faults (reads a.source.now)) = counted ∙ (ap read_faults once.grew ∙ failed_count (reads a.source.now) (next_count (read_faults (reads a.source.now)))) in
        record {
          same_source = same_source;
          draws = draws_one reads left (RefusedRead (next_count (read_faults (reads a.source.now)))) a.source.now b.source.now once;
          needed = (free, tt);
          failed = record { older = reads a.source.now; is = once.grew ∙ ap (λ k. RefusedRead k ∷ reads a.source.now) (sym is); counted = is; others = refl };
          given = given;
          answers = same;
          too_long = λ h. absurd (free (inr (inl h)));
          too_many = λ h. absurd (free (inr (inr h)));
          idle = λ h. absurd (free h);
        }

  -- ---- answers

  -- the line before a newline
  pub line_next : (r : LineReader S) (b : Shown) (n : ℕ) → lines_given r < MAX_LINES → IsNewline (held r) n → n ≤ MAX_LINE_BYTES → b.line ≡ take n (held r) → b.rest ≡ drop (n + 1) (held r)
      → GivesNextLine reads left r (record { source = r.source; buffer = b; given = r.given + 1 }) (Ok (Some b.line))
  line_next r b n within newline short line rest =
      let behind : b.rest ≡ drop (suc n) (held r) = rest ∙ ap (λ k. drop k (held r)) (add-one n) in
      record {
        same_source = refl;
        draws = draws_nothing reads left r.source.now;
        needed = tt;
        failed = refl;
        given = refl;
        answers = rw (line, behind) (record { within = within; is_line = line_is (held r) n newline short; first = split_newline (held r) n newline });
        too_long = λ h. absurd (omega (arith, first_at (held r) n newline, h.long));
        too_many = λ h. absurd (omega (arith, h.all));
        idle = λ h. refl;
      }

  rest_answers : (b c d : LineReader S) (some : Bool) → lines_given b < MAX_LINES → IsClear (held b) (length (held b)) → length (held b) ≤ MAX_LINE_BYTES → held c ≡ held b → held d ≡ [] → IsRest c d some
      → Answers (lines_given b) (CameToEnd ∷ []) (closed (held b)) (held d) (answer_so d.buffer.line (Ok some))
  rest_answers b c d true within clear short same rest is =
      let some : 0 < length (held b) = has_some (held b) (λ none. is.0 (same ∙ none)) in
      rw (is.1, same, rest, closed_open (held b) some clear) (record { within = within; is_line = record { short = short; clear = clear_apart (held b) clear }; first = refl })
  rest_answers b c d false within clear short same rest is = (([], refl), ap closed (sym same ∙ is.0), rest)

  rest_given : (c d : LineReader S) (some : Bool) → IsRest c d some → lines_given d ≡ given_after (lines_given c) (answer_so d.buffer.line (Ok some))
  rest_given c d true is = is.2
  rest_given c d false is = is.1

  rest_fails : (old new : List SourceRead) (line : List ℕ) (some : Bool) → NoReadFailed old new → FailsAsRead old new (answer_so line (Ok some))
  rest_fails old new line true none = none
  rest_fails old new line false none = none

  -- the last line or none, at the end of the source
  pub rest_next : (b c d : LineReader S) (some : Bool) → lines_given b < MAX_LINES → IsClear (held b) (length (held b)) → length (held b) ≤ MAX_LINE_BYTES → Ends reads left b c → GivesRest c d some
      → GivesNextLine reads left b d (answer_so d.buffer.line (Ok some))
  rest_next b c d some within clear short ends gives =
      let free = undecided (lines_given b) (held b) within clear short in
      let grew : reads d.source.now ≡ CameToEnd ∷ reads b.source.now = ap reads gives.same ∙ ends.read.grew in
      record {
        same_source = gives.same_source ∙ ends.same_source;
        draws = record { more = CameToEnd ∷ []; grew = grew; leaves = rw gives.same ends.read.leaves };
        needed = (free, tt);
        failed = rest_fails (reads b.source.now) (reads d.source.now) d.buffer.line some
            (subst (λ (l : List SourceRead). NoReadFailed (reads b.source.now) l) (sym grew) (gave_unfailed 0 [] (reads b.source.now)));
        given = rest_given c d some gives.is ∙ ap (λ n. given_after n (answer_so d.buffer.line (Ok some))) ends.given;
        answers = rest_answers b c d some within clear short ends.held_is gives.rest gives.is;
        too_long = λ h. absurd (free (inr (inl h)));
        too_many = λ h. absurd (free (inr (inr h)));
        idle = λ h. absurd (free h);
      }

  -- the end, where no byte is held
  pub end_next : (b c : LineReader S) → length (held b) ≡ 0 → Ends reads left b c → GivesNextLine reads left b c (Ok None)
  end_next b c none ends =
      let free = undecided_none (lines_given b) (held b) none in
      record {
        same_source = ends.same_source;
        draws = draws_one reads left CameToEnd b.source.now c.source.now ends.read;
        needed = (free, tt);
        failed = subst (λ (l : List SourceRead). NoReadFailed (reads b.source.now) l) (sym ends.read.grew) (gave_unfailed 0 [] (reads b.source.now));
        given = ends.given;
        answers = (([], refl), ap closed (is_none (held b) none), ends.held_is ∙ is_none (held b) none);
        too_long = λ h. absurd (free (inr (inl h)));
        too_many = λ h. absurd (free (inr (inr h)));
        idle = λ h. absurd (free h);
      }

  pub long_next : (r : LineReader S) → lines_given r < MAX_LINES → IsClear (held r) (length (held r)) → MAX_LINE_BYTES < length (held r) → GivesNextLine reads left r r (Err (LineTooLong (lines_given r + 1)))
  long_next r within clear long =
      record {
        same_source = refl;
        draws = draws_nothing reads left r.source.now;
        needed = tt;
        failed = refl;
        given = refl;
        answers = (refl, record { within = within; long = subst (λ (l : List ℕ). MAX_LINE_BYTES < length (first_line l)) (append-nil (held r)) (omega (arith, first_through (held r) [] clear)) }, refl);
        too_long = λ h. (refl, refl);
        too_many = λ h. absurd (omega (arith, h.all));
        idle = λ h. refl;
      }

  pub many_next : (r : LineReader S) → MAX_LINES ≤ lines_given r → 0 < length (held r) → GivesNextLine reads left r r (Err TooManyLines)
  many_next r all some =
      record {
        same_source = refl;
        draws = draws_nothing reads left r.source.now;
        needed = tt;
        failed = refl;
        given = refl;
        answers = (record { all = all; more = is_some (held r) some }, refl);
        too_long = λ h. absurd (omega (arith, h.within));
        too_many = λ h. (refl, refl);
        idle = λ h. refl;
      }
