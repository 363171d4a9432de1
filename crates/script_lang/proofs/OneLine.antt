-- The text of each answer is one line.
use Rattle.std.proofs.Common.{◌≡◌, ℕ, zero, suc, ◌<◌, ◌%◌, ◌/◌, Bool, true, false, not, List, [], ◌∷◌, ◌++◌, length, Option, Some, None, inl, inr, refl, arith}
use Rattle.std.specs.Prelude.{◌==◌, nat_le, codes, slice_index}
use Rattle.std.specs.List.{list_all}
use Rattle.std.specs.Fmt.{decimal, digit_glyph, digits, digits_onto}
use Rattle.std.proofs.lemmas.Bool.{cases_lt, cond_both}
use Rattle.std.proofs.lemmas.Bool.Decides.{nat_tests}
use Rattle.std.proofs.lemmas.Grind.{common_steps}
use Rattle.std.proofs.lemmas.List.Sums.{AllPass-from_list_all}
use Rattle.hex.specs.Hex.{encode_lower, encode_with, lower_digits}
use Rattle.sha2.specs.Sha256.{sha256}
use Rattle.cache_model.specs.declared.cause.Cause.{Cause}
use Rattle.cache_model.specs.declared.cause.Cause.TheVariants as cause
use Rattle.script_grammar.specs.declared.line.BadKind.{BadKind}
use Rattle.script_grammar.specs.declared.line.BadKind.TheVariants as kind
use Rattle.script_grammar.specs.declared.answer.Refused.{Refused}
use Rattle.script_grammar.specs.declared.answer.Refused.TheVariants as refused
use Rattle.script_grammar.specs.declared.answer.StepAnswer.{StepAnswer}
use Rattle.script_grammar.specs.declared.answer.StepAnswer.TheVariants as answer
use Rattle.script_grammar.specs.declared.last_line.LastLine.{LastLine}
use Rattle.script_grammar.specs.declared.last_line.LastLine.TheVariants as last
use Rattle.script_lang.specs.Lines.{AnswersAreLines, LastLinesAreLines, is_line}
use Rattle.script_grammar.specs.Texts.{answer_line, bad_script_line, bay_fault_line, cause_line, cause_text, damaged_text, displaced_text, done_line, fault_line, flushed_line, formatted_line, got_line, hit_line, kind_word, last_line, lost_text, newline, no_cache_line, number_line, numbered, open_text, passed_text, piece_line, put_line, read_fault_line, refusal_text, refused_line, shown, synced_text, too_long_line, too_many_line, took_text, unsaved_text, usage_line, why_line, armed_line, flipped_line, cut_line}

abbrev is_plain_byte : ℕ → Bool
is_plain_byte byte = not (byte == 10)

-- no newline stands in it
pub record Plain (text : List ℕ) : Type 0 where
  pub holds : list_all is_plain_byte text ≡ true

pub record Line (text : List ℕ) : Type 0 where
  pub holds : is_line text ≡ true

put_before : (text line : List ℕ) → list_all is_plain_byte text ≡ true → is_line line ≡ true → is_line (text ++ line) ≡ true
put_before [] line p l = l
put_before (byte ∷ []) [] p l = cc l
put_before (byte ∷ []) (next ∷ rest) p l = grind (arith, common_steps)
put_before (byte ∷ second ∷ text) line p l = let rest : is_line ((second ∷ text) ++ line) ≡ true = put_before (second ∷ text) line (grind (arith, common_steps)) l in grind (arith, common_steps)

-- a line with a plain text before it is a line
behind : (text line : List ℕ) → Plain text → Line line → Line (text ++ line)
behind text line p l = record { holds = put_before text line p.holds l.holds }

word : (text line : List ℕ) → list_all is_plain_byte text ≡ true → Line line → Line (text ++ line)
word text line p l = record { holds = put_before text line p l.holds }

ended : Line newline
ended = record { holds = refl }

with : (a b : List ℕ) → Plain a → Plain b → Plain (a ++ b)
with a b p q = let left = p.holds in let right = q.holds in record { holds = grind (arith, common_steps) }

with_word : (a b : List ℕ) → list_all is_plain_byte a ≡ true → Plain b → Plain (a ++ b)
with_word a b p q = with a b (record { holds = p }) q

-- ---- digits

glyph_plain : (n : ℕ) → is_plain_byte (digit_glyph false (n % 10)) ≡ true
glyph_plain n = let small : n % 10 < 10 = omega arith in grind (arith, nat_tests)

digits_plain : (k n : ℕ) (text : List ℕ) → Plain text → Plain (digits_onto k 10 false n text)
digits_plain zero n text p = p
digits_plain (suc k) n text p =
    let more : Plain (digit_glyph false (n % 10) ∷ text) = record { holds = rw (glyph_plain n) p.holds } in
    cond_both (n / 10 == 0) (digit_glyph false (n % 10) ∷ text) (digits_onto k 10 false (n / 10) (digit_glyph false (n % 10) ∷ text)) Plain (λ _. more) (λ _. digits_plain k (n / 10) (digit_glyph false (n % 10) ∷ text) more)

number : (n : ℕ) → Plain (decimal n)
unfolding digits
number n = digits_plain 64 n [] (record { holds = refl })

hex_digit : (d : ℕ) → is_plain_byte (slice_index lower_digits d) ≡ true
hex_digit d =
    elim (cases_lt d 16) [
      | inl inside ↦ AllPass-from_list_all is_plain_byte lower_digits refl d 0 inside
      | inr outside ↦ let past : slice_index lower_digits d ≡ 0 = grind (arith, common_steps) in rw past refl
    ]

hex : (bytes : List ℕ) → Plain (encode_lower bytes)
unfolding encode_with
hex [] = record { holds = refl }
hex (b ∷ bytes) = let rest = (hex bytes).holds in record { holds = rw (hex_digit (b / 16), hex_digit (b % 16), rest) refl }

-- ---- parts

shown_plain : (bytes : List ℕ) → Plain (shown bytes)
unfolding shown
shown_plain bytes =
    cond_both (length bytes == 0) _ _ Plain (λ _. record { holds = refl })
    (λ _. cond_both (nat_le (length bytes) 64) _ _ Plain (λ _. hex bytes) (λ _. with_word (codes "sha256 ") _ refl (hex (sha256 bytes))))

numbered_plain : (text : List ℕ) (n : ℕ) → list_all is_plain_byte text ≡ true → Plain (numbered text n)
unfolding numbered
numbered_plain text n p = with_word text _ p (with_word (codes " ") _ refl (number n))

unsaved_plain : (unsaved : Bool) → Plain (unsaved_text unsaved)
unsaved_plain true = record { holds = refl }
unsaved_plain false = record { holds = refl }

cause_plain : (why : Cause) → Plain (cause_text why)
unfolding passed_text displaced_text damaged_text
cause_plain cause.NeverPut = record { holds = refl }
cause_plain cause.Removed = record { holds = refl }
cause_plain (cause.Passed place floor unsaved) =
    with_word (codes "passed ") _ refl (with (decimal place) _ (number place) (with_word (codes " ") _ refl (with (decimal floor) _ (number floor) (unsaved_plain unsaved))))
cause_plain (cause.NoMatch count) = numbered_plain (codes "no-match") count refl
cause_plain (cause.Displaced segment live) = with_word (codes "displaced ") _ refl (with (decimal segment) _ (number segment) (with_word (codes " ") _ refl (number live)))
cause_plain (cause.Aborted writer) = numbered_plain (codes "aborted") writer refl
cause_plain (cause.DeviceFault count) = numbered_plain (codes "device-fault") count refl
cause_plain (cause.BeforeOpening serial) = numbered_plain (codes "before-opening") serial refl
cause_plain (cause.Unrecorded dropped) = numbered_plain (codes "unrecorded") dropped refl
cause_plain (cause.Damaged place kept found) =
    with_word (codes "damaged ") _ refl
    (with (decimal place) _ (number place) (with_word (codes " ") _ refl (with (encode_lower kept.0) _ (hex kept.0) (with_word (codes " ") _ refl (hex found.0)))))

refusal_plain : (why : Refused) → Plain (refusal_text why)
unfolding lost_text open_text
refusal_plain (refused.Geometry n) = numbered_plain (codes "geometry") n refl
refusal_plain refused.TooManyWriters = record { holds = refl }
refusal_plain refused.TooManyFragments = record { holds = refl }
refusal_plain (refused.VectorTooLarge bytes) = numbered_plain (codes "vector-too-large") bytes refl
refusal_plain (refused.Lost index why) = with_word (codes "lost ") _ refl (with (decimal index) _ (number index) (with_word (codes " ") _ refl (cause_plain why)))
refusal_plain refused.Sealed = record { holds = refl }
refusal_plain refused.Exhausted = record { holds = refl }
refusal_plain refused.Busy = record { holds = refl }
refusal_plain refused.Idle = record { holds = refl }
refusal_plain refused.NoSwitch = record { holds = refl }
refusal_plain (refused.SyncRunning serial) = numbered_plain (codes "sync-running") serial refl
refusal_plain refused.NoSync = record { holds = refl }
refusal_plain (refused.StillOpen writers readers) =
    with_word (codes "still-open ") _ refl (with (decimal writers) _ (number writers) (with_word (codes " ") _ refl (number readers)))
refusal_plain (refused.StillMoving blocks) = numbered_plain (codes "still-moving") blocks refl

took_plain : (took : Option ℕ) → Plain (took_text took)
took_plain None = record { holds = refl }
took_plain (Some count) = with_word (codes " took ") _ refl (number count)

synced_plain : (serial : Option ℕ) → Plain (synced_text serial)
synced_plain None = record { holds = refl }
synced_plain (Some serial) = with_word (codes " synced ") _ refl (number serial)

-- ---- lines

number_is_line : (text : List ℕ) (n : ℕ) → list_all is_plain_byte text ≡ true → Line (number_line text n)
unfolding number_line
number_is_line text n p = word text _ p (word (codes " ") _ refl (behind (decimal n) newline (number n) ended))

fault_is_line : (count : ℕ) (took : Option ℕ) → Line (fault_line count took)
unfolding fault_line
fault_is_line count took = word (codes "device-fault ") _ refl (behind (decimal count) _ (number count) (behind (took_text took) newline (took_plain took) ended))

cause_is_line : (text : List ℕ) (why : Cause) → list_all is_plain_byte text ≡ true → Line (cause_line text why)
unfolding cause_line
cause_is_line text why p = word text _ p (word (codes " ") _ refl (behind (cause_text why) newline (cause_plain why) ended))

why_is_line : (text : List ℕ) (why : Cause) → list_all is_plain_byte text ≡ true → Line (why_line text why)
why_is_line text (cause.DeviceFault count) p = fault_is_line count None
why_is_line text why p = cause_is_line text why p

each_answer : (a : StepAnswer) → Line (answer_line a)
unfolding formatted_line put_line got_line hit_line piece_line flushed_line refused_line done_line armed_line flipped_line cut_line
each_answer (answer.Formatted serial cursor floor) =
    word (codes "formatted serial ") _ refl
    (behind (decimal serial) _ (number serial) (word (codes " cursor ") _ refl (behind (decimal cursor) _ (number cursor) (word (codes " floor ") _ refl (behind (decimal floor) newline (number floor) ended)))))
each_answer (answer.Put put length fragments) =
    word (codes "put ") _ refl
    (behind (decimal put) _ (number put) (word (codes " length ") _ refl (behind (decimal length) _ (number length) (word (codes " fragments ") _ refl (behind (decimal fragments) newline (number fragments) ended)))))
each_answer (answer.Got put length bytes) =
    word (codes "got ") _ refl
    (behind (decimal put) _ (number put) (word (codes " length ") _ refl (behind (decimal length) _ (number length) (word (codes " ") _ refl (behind (shown bytes) newline (shown_plain bytes) ended)))))
each_answer (answer.Miss why) = why_is_line (codes "miss") why refl
each_answer (answer.Broken why) = why_is_line (codes "broken") why refl
each_answer (answer.Follow put) = number_is_line (codes "follow") put refl
each_answer (answer.Writer put) = number_is_line (codes "writer") put refl
each_answer (answer.Took count) = number_is_line (codes "took") count refl
each_answer (answer.Aborted put) = number_is_line (codes "aborted") put refl
each_answer (answer.Hit put length) = word (codes "hit ") _ refl (behind (decimal put) _ (number put) (word (codes " length ") _ refl (behind (decimal length) newline (number length) ended)))
each_answer (answer.Piece index length bytes) =
    word (codes "piece ") _ refl
    (behind (decimal index) _ (number index) (word (codes " ") _ refl (behind (decimal length) _ (number length) (word (codes " ") _ refl (behind (shown bytes) newline (shown_plain bytes) ended)))))
each_answer (answer.End length) = number_is_line (codes "end") length refl
each_answer (answer.NotYet cut) = number_is_line (codes "notyet") cut refl
each_answer answer.Done = record { holds = refl }
each_answer (answer.Removed put) = number_is_line (codes "removed") put refl
each_answer (answer.Absent why) = why_is_line (codes "absent") why refl
each_answer (answer.Flushed blocks cursor floor synced) =
    word (codes "flushed ") _ refl
    (behind (decimal blocks) _ (number blocks) (word (codes " cursor ") _ refl (behind (decimal cursor) _ (number cursor) (word (codes " floor ") _ refl (behind (decimal floor) _ (number floor) (behind (synced_text synced) newline (synced_plain synced) ended))))))
each_answer (answer.Now at) = number_is_line (codes "now") at refl
each_answer answer.Armed = record { holds = refl }
each_answer answer.Flipped = record { holds = refl }
each_answer answer.Cut = record { holds = refl }
each_answer (answer.Refused why took) = word (codes "refused ") _ refl (behind (refusal_text why) _ (refusal_plain why) (behind (took_text took) newline (took_plain took) ended))
each_answer (answer.DeviceFault count took) = fault_is_line count took

pub answers_are_lines : AnswersAreLines
answers_are_lines a = (each_answer a).holds

kind_plain : (kind : BadKind) → Plain (kind_word kind)
kind_plain kind.Verb = record { holds = refl }
kind_plain kind.Word = record { holds = refl }
kind_plain kind.Count = record { holds = refl }
kind_plain kind.Number = record { holds = refl }
kind_plain kind.Body = record { holds = refl }
kind_plain kind.Field = record { holds = refl }

each_last : (l : LastLine) → Line (last_line l)
unfolding usage_line bad_script_line read_fault_line bay_fault_line too_long_line too_many_line no_cache_line
each_last last.Usage = record { holds = refl }
each_last (last.BadScript line fault) =
    word (codes "error bad-script line ") _ refl
    (behind (decimal line) _ (number line) (word (codes " column ") _ refl (behind (decimal fault.column) _ (number fault.column) (word (codes " ") _ refl (behind (kind_word fault.kind) newline (kind_plain fault.kind) ended)))))
each_last last.ReadFault = record { holds = refl }
each_last last.BayFault = record { holds = refl }
each_last (last.LineTooLong line) = word (codes "error line-too-long line ") _ refl (behind (decimal line) newline (number line) ended)
each_last last.TooManyLines = record { holds = refl }
each_last (last.NoCache line) = word (codes "error no-cache line ") _ refl (behind (decimal line) newline (number line) ended)

pub last_lines_are_lines : LastLinesAreLines
last_lines_are_lines l = (each_last l).holds
