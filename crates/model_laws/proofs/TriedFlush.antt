-- What is due has outcomes where it was tried, and nowhere else.
use lib.Pointwise.{pointwise}
use Rattle.std.proofs.Common.{◌≡◌, ℕ, nat_eq, ◌-◌, ◌≤◌, List, [], ◌∷◌, refl, ap, Bool, true, false, leb-true, leb-false}
use Rattle.std.specs.Prelude.{nat_le}
use Rattle.std.specs.List.{AllByRecursion}
use Rattle.std.specs.Cmp.Lexicographic.{same_text, other_text}
use Rattle.tape_base.specs.declared.digests.Digest.{Digest}
use Rattle.tape_base.specs.Geometry.{budget_of}
use Rattle.doc_header.specs.Reading.{document_digest}
use Rattle.cache_model.specs.declared.record.Rec.{Rec}
use Rattle.cache_model.specs.State.{State, Row, after_all}
use Rattle.cache_model.specs.Permit.{Permit}
use Rattle.cache_model.specs.Given.{IsGiven, IsWritten}
use Rattle.cache_model.specs.Tape.{IsSound}
use Rattle.cache_model.specs.Legal.{CanFlush, MayFlush, MayStop}
use Rattle.cache_model.specs.Due.{due_pieces}
use Rattle.cache_model.specs.Outcomes.{AreOutcomes, Copied, NoRoom, Outcome, ReadRefused, Spoiled, records_of, stopped_front_of, stopped_records_of}
use Rattle.model_laws.specs.Choices
use Rattle.model_laws.specs.Choices.{AreTried, GaveBytesFor, IsBufferTried, IsFlushTried, with_fault}
use Rattle.step_laws.proofs.Alike.{IsAlike, alike_self, alike_trans, given_alike, read_alike, write_alike, written_alike}
use Rattle.cache_model.proofs.Written.{due_are_written}

-- ---- outcomes of what was tried

-- with s the records of the outcomes end alike, those of a flush that stops
record Comes (p : Permit) (t v : State) (left : ℕ) (rows : List Row) (behind : State) : Type 0 where
  outcomes : List Outcome
  are : AreOutcomes p t left rows outcomes
  alike : IsAlike behind (after_all v (stopped_front_of rows outcomes))

-- bytes that the device gave have the digest of the piece, or another
given_comes : (p : Permit) (t v behind : State) (left : ℕ) (row : Row) (rows : List Row) (bytes : List ℕ) (b : Bool) → b ≡ pointwise nat_eq row.digest.0 (document_digest bytes).0
    → row.blocks ≤ left → IsGiven p t row bytes → ((u w : State) → IsAlike t u → IsAlike v w → Comes p u w (left - row.blocks) rows behind) → Comes p t v left (row ∷ rows) behind
given_comes p t v behind left row rows bytes true e fits g rest =
    let r : Comes p t v (left - row.blocks) rows behind = rest t v (alike_self t) (alike_self v) in
    let same : row.digest ≡ document_digest bytes = ap (λ x. record { 0 = x }) (same_text row.digest.0 (document_digest bytes).0 e) in
    record { outcomes = Copied bytes ∷ r.outcomes; are = ((fits, g, same), r.are); alike = r.alike }
given_comes p t v behind left row rows bytes false e fits g rest =
    let found : Digest = document_digest bytes in
    let o : Outcome = Spoiled found in
    let r : Comes p (after_all t (records_of row o)) (after_all v (stopped_records_of row o)) (left - row.blocks) rows behind =
    rest (after_all t (records_of row o)) (after_all v (stopped_records_of row o)) (alike_self t) (alike_self v) in record {
      outcomes = Spoiled found ∷ r.outcomes;
      are = (
        (
          fits,
          record {
            bytes = bytes;
            given = g;
            digest = refl;
            differ = (λ h. other_text row.digest.0 found.0 e (ap (λ (d : Digest). d.0) h));
          },
        ),
        r.are,
      );
      alike = r.alike;
    }

-- s has no more than the faults of those before, t their other records too, and v those of a flush that stops
comes : (p : Permit) (s t v behind : State) (left : ℕ) (rows : List Row) → IsAlike s t → IsAlike s v → AreTried p s left rows behind → Comes p t v left rows behind
comes p s t v behind left [] a b Choices.AreTried.nothing = record { outcomes = []; are = tt; alike = b }
comes p s t v behind left (row ∷ rows) a b (Choices.AreTried.no_room over rest) =
    let r = comes p s (after_all t (records_of row NoRoom)) v behind left rows a b rest in
    record { outcomes = NoRoom ∷ r.outcomes; are = (over, r.are); alike = r.alike }
comes p s t v behind left (row ∷ rows) a b (Choices.AreTried.given bytes fits g rest) =
    given_comes p t v behind left row rows bytes _ refl fits (given_alike p s t row bytes a.0 g)
    (λ u w c d. comes p s u w behind (left - row.blocks) rows (alike_trans s t u a c) (alike_trans s v w b d) rest)
comes p s t v behind left (row ∷ rows) a b (Choices.AreTried.refused count fits written counts rest) =
    let o : Outcome = ReadRefused count in
    let r = comes p (with_fault count s) (after_all t (records_of row o)) (after_all v (stopped_records_of row o)) behind (left - row.blocks) rows (a.0, a.1, refl) (b.0, b.1, refl) rest in
    record { outcomes = o ∷ r.outcomes; are = ((fits, written_alike s t row a.0.1 written, read_alike p s t row count a counts), r.are); alike = r.alike }

pub outcomes_are_found : (p : Permit) (s behind : State) (left : ℕ) (rows : List Row) → AreTried p s left rows behind
    → (outcomes : List Outcome) × AreOutcomes p s left rows outcomes
outcomes_are_found p s behind left rows h = let r = comes p s s s behind left rows (alike_self s) (alike_self s) h in (r.outcomes, r.are)

-- ---- and what has them was tried

-- as far as the records of the outcomes go in a flush that stops
record Tried (p : Permit) (s v : State) (left : ℕ) (rows : List Row) (outcomes : List Outcome) : Type 0 where
  behind : State
  due : AreTried p s left rows behind
  alike : IsAlike (after_all v (stopped_front_of rows outcomes)) behind

tried : (p : Permit) (s t v : State) (left : ℕ) (rows : List Row) (outcomes : List Outcome) → IsAlike t s → IsAlike v s → AreOutcomes p t left rows outcomes → Tried p s v left rows outcomes
tried p s t v left [] [] a b h = record { behind = s; due = Choices.AreTried.nothing; alike = b }
tried p s t v left [] (o ∷ outcomes) a b h = absurd h
tried p s t v left (row ∷ rows) [] a b h = absurd h
tried p s t v left (row ∷ rows) (NoRoom ∷ outcomes) a b h =
    let r = tried p s (after_all t (records_of row NoRoom)) v left rows outcomes a b h.1 in
    record { behind = r.behind; due = Choices.AreTried.no_room h.0 r.due; alike = r.alike }
tried p s t v left (row ∷ rows) (Copied bytes ∷ outcomes) a b h =
    let r = tried p s t v (left - row.blocks) rows outcomes a b h.1 in
    record { behind = r.behind; due = Choices.AreTried.given bytes h.0.0 (given_alike p t s row bytes a.0 h.0.1) r.due; alike = r.alike }
tried p s t v left (row ∷ rows) (Spoiled found ∷ outcomes) a b h =
    let d = h.0.1 in
    let o : Outcome = Spoiled found in
    let r = tried p s (after_all t (records_of row o)) (after_all v (stopped_records_of row o)) (left - row.blocks) rows outcomes a b h.1 in
    record { behind = r.behind; due = Choices.AreTried.given d.bytes h.0.0 (given_alike p t s row d.bytes a.0 d.given) r.due; alike = r.alike }
tried p s t v left (row ∷ rows) (ReadRefused count ∷ outcomes) a b h =
    let o : Outcome = ReadRefused count in
    let r = tried p (with_fault count s) (after_all t (records_of row o)) (after_all v (stopped_records_of row o)) (left - row.blocks) rows outcomes (a.0, a.1, refl) (b.0, b.1, refl) h.1 in
    record { behind = r.behind; due = Choices.AreTried.refused count h.0.0 (written_alike t s row a.0.1 h.0.1) (read_alike p t s row count a h.0.2) r.due; alike = r.alike }

pub outcomes_are_tried : (p : Permit) (s : State) (left : ℕ) (rows : List Row) (outcomes : List Outcome) → AreOutcomes p s left rows outcomes
    → (behind : State) × AreTried p s left rows behind
outcomes_are_tried p s left rows outcomes h = let r = tried p s s s left rows outcomes (alike_self s) (alike_self s) h in (r.behind, r.due)

-- ---- a flush

-- its records where it was tried: it is made, or stops
pub data Flushes (p : Permit) (s : State) : Type 0 where
  made : (added : List Rec) → MayFlush p s added → Flushes p s
  stopped : (count : ℕ) (added : List Rec) → MayStop p s count added → Flushes p s

comes_to : (p : Permit) (s behind : State) → p.syncs ≡ false → CanFlush s → Comes p s s (budget_of s.geometry) (due_pieces s p.now) behind → IsBufferTried p s behind → Flushes p s
comes_to p s behind off can r (Choices.IsBufferTried.taken takes) = made _ (record { unsynced = off; outcomes = r.outcomes; can = can; takes = takes; are = r.are; is = refl })
comes_to p s behind off can r (Choices.IsBufferTried.refused count counts) =
    stopped count _ (record { unsynced = off; outcomes = r.outcomes; can = can; are = r.are; counts = write_alike p behind _ count r.alike counts; is = refl })

pub flush_comes : (p : Permit) (s : State) → p.syncs ≡ false → CanFlush s → IsFlushTried p s → Flushes p s
flush_comes p s off can h =
    comes_to p s h.behind off can (comes p s s s h.behind (budget_of s.geometry) (due_pieces s p.now) (alike_self s) (alike_self s) h.due) h.buffer

pub made_is_tried : (p : Permit) (s : State) (added : List Rec) → MayFlush p s added → IsFlushTried p s
made_is_tried p s added m =
    let r = tried p s s s (budget_of s.geometry) (due_pieces s p.now) m.outcomes (alike_self s) (alike_self s) m.are in
    record { behind = r.behind; due = r.due; buffer = Choices.IsBufferTried.taken m.takes }

pub stopped_is_tried : (p : Permit) (s : State) (count : ℕ) (added : List Rec) → MayStop p s count added → IsFlushTried p s
stopped_is_tried p s count added m =
    let r = tried p s s s (budget_of s.geometry) (due_pieces s p.now) m.outcomes (alike_self s) (alike_self s) m.are in
    record { behind = r.behind; due = r.due; buffer = Choices.IsBufferTried.refused count (write_alike p _ r.behind count r.alike m.counts) }

-- ---- where bytes were given for each

within_by : (p : Permit) (s : State) (left : ℕ) (row : Row) (rows : List Row) (b : Bool) → nat_le row.blocks left ≡ b → IsWritten s row → GaveBytesFor p s row
    → ((n : ℕ) → AreTried p s n rows s) → AreTried p s left (row ∷ rows) s
within_by p s left row rows true e written has rest =
    Choices.AreTried.given has.bytes (leb-true row.blocks left e) (record { written = written; given = has.given; whole = has.whole; of_bytes = has.of_bytes }) (rest (left - row.blocks))
within_by p s left row rows false e written has rest = Choices.AreTried.no_room (leb-false row.blocks left e) (rest left)

given_tried : (p : Permit) (s : State) (left : ℕ) (rows : List Row) → AllByRecursion (IsWritten s) rows → AllByRecursion (GaveBytesFor p s) rows → AreTried p s left rows s
given_tried p s left [] written has = Choices.AreTried.nothing
given_tried p s left (row ∷ rows) written has =
    within_by p s left row rows (nat_le row.blocks left) refl written.0 has.0 (λ n. given_tried p s n rows written.1 has.1)

pub given_are_tried : (p : Permit) (s : State) (now left : ℕ) → IsSound s → AllByRecursion (GaveBytesFor p s) (due_pieces s now)
    → AreTried p s left (due_pieces s now) s
given_are_tried p s now left h has = given_tried p s left (due_pieces s now) (due_are_written s now h) has
