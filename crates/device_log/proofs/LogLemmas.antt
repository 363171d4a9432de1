-- What a log may note behind what it has.
use Rattle.std.proofs.Common.{◌≡◌, ℕ, ◌%◌, ◌==◌, ◌&&◌, true, List, [], ◌∷◌, length, refl, sym, ◌∙◌, ap, subst, arith}
use Rattle.std.specs.Prelude.{⊤}
use Rattle.std.proofs.lemmas.List.Elements.{All-cons, All-nil}
use Rattle.hex.specs.Hex.{IsBytes}
use Rattle.tape_base.proofs.Bytes.{IsBytes-nil}
use Rattle.device_log.specs.declared.choice.CutChoice.{CutChoice}
use Rattle.device_log.specs.declared.choice.CutChoice.TheVariants.{Lost, Kept, Torn, Junk}
use Rattle.device_log.specs.Image.{blank, span}
use Rattle.device_log.specs.Calls.{Call, Read, Wrote, Synced, RefusedCall, Told, PowerCut, Flipped, bytes_of}
use Rattle.device_log.specs.Cuts.{left_by}
use Rattle.device_log.specs.Faults.{IsEntry, IsLog, are_counted, faults_of, next_count}
use Rattle.device_log.specs.Row.{CallRow, call_row}
use Rattle.device_log.specs.Rows.{calls_of_rows, call_of, number_of, choice_of}
use Rattle.device_log.proofs.Spans.{length-span, span_bytes}
use Rattle.device_log.proofs.Puts.{blank_is_image}
use Rattle.device_log.proofs.SeenLaws.{left_is_image}

pub nothing_noted : IsLog []
unfolding are_counted
nothing_noted = record { entries = All-nil IsEntry; counted = refl }

-- a call that failed has the next count
abbrev pub HasCount : Call → List Call → Type 0
HasCount (Read at bytes) past = ⊤
HasCount (Wrote at bytes) past = ⊤
HasCount Synced past = ⊤
HasCount (RefusedCall what count) past = count ≡ next_count (faults_of past)
HasCount (Told act) past = ⊤
HasCount (PowerCut choice left) past = ⊤
HasCount (Flipped at byte) past = ⊤

still_counted : (call : Call) (past : List Call) → HasCount call past → are_counted past ≡ true → are_counted (call ∷ past) ≡ true
unfolding are_counted
still_counted (Read at bytes) past has are = are
still_counted (Wrote at bytes) past has are = are
still_counted Synced past has are = are
still_counted (RefusedCall what count) past has are =
    let same : (count == next_count (faults_of past)) ≡ true = grind (arith, has) in
    ap (λ b. b && are_counted past) same ∙ are
still_counted (Told act) past has are = are
still_counted (PowerCut choice left) past has are = are
still_counted (Flipped at byte) past has are = are

-- one more row
pub noted : (numbers bytes : List ℕ) (old new : List CallRow) → new ≡ call_row numbers bytes ∷ old → IsLog (calls_of_rows old)
    → IsEntry (call_of numbers bytes (calls_of_rows old)) → HasCount (call_of numbers bytes (calls_of_rows old)) (calls_of_rows old)
    → IsLog (calls_of_rows new)
unfolding calls_of_rows
noted numbers bytes old new is before entry has =
    let past = calls_of_rows old in
    let call = call_of numbers bytes past in
    subst (λ rows. IsLog (calls_of_rows rows)) (sym is) (record {
      entries = All-cons IsEntry call past entry before.entries;
      counted = still_counted call past has before.counted;
    })

-- a call that has no bytes
pub no_bytes : (call : Call) → bytes_of call ≡ [] → IsEntry call
no_bytes call none = record {
  bytes = subst IsBytes (sym none) IsBytes-nil;
  whole = ap (λ l. length l % 512) none;
}

-- what a cut in memory leaves
pub cut_is_entry : (choice : CutChoice) (blocks : ℕ) (past : List Call) → IsLog past → IsEntry (PowerCut choice (span (left_by choice blank past) 0 blocks))
cut_is_entry choice blocks past is =
    let image = left_is_image choice blank past blank_is_image is.entries in
    record {
      bytes = span_bytes (left_by choice blank past) 0 blocks image.bytes;
      whole = omega (arith, length-span (left_by choice blank past) 0 blocks image.whole);
    }

-- a kind of cut is that of its number
pub number_is_of : (choice : CutChoice) → choice_of (number_of choice) ≡ choice
number_is_of Lost = refl
number_is_of Kept = refl
number_is_of Torn = refl
number_is_of Junk = refl

-- the row of a cut in memory
pub cut_noted : (choice : CutChoice) (number blocks : ℕ) (old new : List CallRow) → number ≡ number_of choice
    → new ≡ call_row (8 ∷ number ∷ blocks ∷ []) [] ∷ old
    → calls_of_rows new ≡ PowerCut choice (span (left_by choice blank (calls_of_rows old)) 0 blocks) ∷ calls_of_rows old
unfolding calls_of_rows
cut_noted choice number blocks old new is_number is =
    ap calls_of_rows is
    ∙ ap (λ kind. PowerCut kind (span (left_by kind blank (calls_of_rows old)) 0 blocks) ∷ calls_of_rows old)
    (ap choice_of is_number ∙ number_is_of choice)

pub cut_is_log : (choice : CutChoice) (blocks : ℕ) (past new : List Call)
    → new ≡ PowerCut choice (span (left_by choice blank past) 0 blocks) ∷ past → IsLog past → IsLog new
unfolding are_counted
cut_is_log choice blocks past new is before =
    subst IsLog (sym is) (record {
      entries = All-cons IsEntry (PowerCut choice (span (left_by choice blank past) 0 blocks)) past (cut_is_entry choice blocks past before) before.entries;
      counted = before.counted;
    })
