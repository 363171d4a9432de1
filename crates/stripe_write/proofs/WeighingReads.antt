-- What is read of the key's vector when a put is weighed, and the state behind that.
use Rattle.std.proofs.Common.{◌≡◌, ℕ, List, [], ◌∷◌, refl, sym, ◌∙◌, ap, subst, Bool, true, false, inl, inr, ◌⊎◌, leb-true, leb-false}
use Rattle.std.specs.Prelude.{Option, Some, None, cond, find, ◌==◌, if◌then◌else◌, nat_le, option_and_then, option_map, unwrap_or}
use Rattle.tape_base.specs.declared.digests.Digest.{Digest}
use Rattle.tape_base.specs.declared.keys.Key.{Key}
use Rattle.tape_base.specs.declared.pieces.PieceId.{PieceId}
use Rattle.tape_base.specs.Piece.{same_piece}
use Rattle.tape_base.proofs.NameLaws.{same_piece-same}
use Rattle.alternate_vector.specs.Alternates.{Stored}
use Rattle.cache_model.specs.declared.cause.Cause.{Cause}
use Rattle.cache_model.specs.declared.cause.Cause.TheVariants as cause
use Rattle.cache_model.specs.declared.record.Rec.{Rec}
use Rattle.cache_model.specs.declared.record.Rec.TheVariants as rec
use Rattle.cache_model.specs.State.{PutRow, Row, State, after_all, alternates_of, is_live, live_row_of, only_live, row_in, state_after, without}
use Rattle.cache_model.specs.Kept.{Kept, state_of, with_records}
use Rattle.cache_model.specs.Verdict.{is_open, live_vector_of, vector_of}
use Rattle.cache_model.specs.Permit.{Fails, Faulted, Permit, Stays}
use Rattle.cache_model.specs.Given.{CountsRead, IsDamaged, IsRead, IsReadWhereLive, IsWritten, Trouble, damage_cause, damage_record}
use Rattle.cache_model.specs.Legal.{DoesWeigh, IsWriting, is_writing}
use Rattle.cache_model.specs.Pair.{IsKeyPair}
use Rattle.cache_model.specs.Vectors.{AreVectors, IsVectorAs}
use Rattle.cache_chronicle.proofs.RowLemmas.{row_in-named, row_in-without}
use Rattle.cache_model.specs.Troubles.{cause_records}
use Rattle.stripe_vectors.specs.declared.reading.KeyVector.{KeyVector}
use Rattle.stripe_vectors.specs.declared.reading.KeyVector.TheVariants as found
use Rattle.stripe_vectors.specs.Reading.{HasAlternates, IsVectorFound, ReadIsListed, VectorIsReadAs, trouble_records, vector_adds}
use Rattle.stripe_write.specs.Weighing.{fault_in, list_in}
use Rattle.stripe_write.proofs.Gathering.{SamePuts}
use Rattle.stripe_write.proofs.Spending.{state_behind}

-- ---- the puts stay

cause_leaves : (s : State) (row : Row) (why : Cause) → SamePuts s (after_all s (cause_records row why))
cause_leaves s row cause.NeverPut = record { puts = refl; geometry = refl }
cause_leaves s row cause.Removed = record { puts = refl; geometry = refl }
cause_leaves s row (cause.Passed place floor unsaved) = record { puts = refl; geometry = refl }
cause_leaves s row (cause.NoMatch count) = record { puts = refl; geometry = refl }
cause_leaves s row (cause.Displaced segment live) = record { puts = refl; geometry = refl }
cause_leaves s row (cause.Aborted writer) = record { puts = refl; geometry = refl }
cause_leaves s row (cause.BeforeOpening serial) = record { puts = refl; geometry = refl }
cause_leaves s row (cause.Unrecorded dropped) = record { puts = refl; geometry = refl }
cause_leaves s row (cause.DeviceFault count) = record { puts = refl; geometry = refl }
cause_leaves s row (cause.Damaged place kept found) = record { puts = refl; geometry = refl }

read_leaves : (s : State) (o : Option Row) (answer : KeyVector) → SamePuts s (after_all s (trouble_records o answer))
read_leaves s None answer = record { puts = refl; geometry = refl }
read_leaves s (Some row) found.Absent = record { puts = refl; geometry = refl }
read_leaves s (Some row) (found.Read list) = record { puts = refl; geometry = refl }
read_leaves s (Some row) (found.Trouble why) = cause_leaves s row why

pub same_puts : (kept new : Kept) (key : Key) (answer : KeyVector) → new ≡ with_records kept (vector_adds (state_of kept) key answer) → SamePuts (state_of kept) (state_of new)
same_puts kept new key answer is =
    subst (SamePuts (state_of kept)) (sym (state_behind kept new (vector_adds (state_of kept) key answer) is)) (read_leaves (state_of kept) (live_vector_of (state_of kept) key) answer)

none_pending : (s : State) (row : Row) (why : Cause) → (after_all s (cause_records row why)).pending ≡ s.pending
none_pending s row cause.NeverPut = refl
none_pending s row cause.Removed = refl
none_pending s row (cause.Passed place floor unsaved) = refl
none_pending s row (cause.NoMatch count) = refl
none_pending s row (cause.Displaced segment live) = refl
none_pending s row (cause.Aborted writer) = refl
none_pending s row (cause.BeforeOpening serial) = refl
none_pending s row (cause.Unrecorded dropped) = refl
none_pending s row (cause.DeviceFault count) = refl
none_pending s row (cause.Damaged place kept found) = refl

read_pending : (s : State) (o : Option Row) (answer : KeyVector) → (after_all s (trouble_records o answer)).pending ≡ s.pending
read_pending s None answer = refl
read_pending s (Some row) found.Absent = refl
read_pending s (Some row) (found.Read list) = refl
read_pending s (Some row) (found.Trouble why) = none_pending s row why

pub same_pending : (kept new : Kept) (key : Key) (answer : KeyVector) → new ≡ with_records kept (vector_adds (state_of kept) key answer) → (state_of new).pending ≡ (state_of kept).pending
same_pending kept new key answer is =
    ap (λ (t : State). t.pending) (state_behind kept new (vector_adds (state_of kept) key answer) is) ∙ read_pending (state_of kept) (live_vector_of (state_of kept) key) answer

none_displaced : (s : State) (row : Row) (why : Cause) → (after_all s (cause_records row why)).displaced ≡ s.displaced
none_displaced s row cause.NeverPut = refl
none_displaced s row cause.Removed = refl
none_displaced s row (cause.Passed place floor unsaved) = refl
none_displaced s row (cause.NoMatch count) = refl
none_displaced s row (cause.Displaced segment live) = refl
none_displaced s row (cause.Aborted writer) = refl
none_displaced s row (cause.BeforeOpening serial) = refl
none_displaced s row (cause.Unrecorded dropped) = refl
none_displaced s row (cause.DeviceFault count) = refl
none_displaced s row (cause.Damaged place kept found) = refl

read_displaced : (s : State) (o : Option Row) (answer : KeyVector) → (after_all s (trouble_records o answer)).displaced ≡ s.displaced
read_displaced s None answer = refl
read_displaced s (Some row) found.Absent = refl
read_displaced s (Some row) (found.Read list) = refl
read_displaced s (Some row) (found.Trouble why) = none_displaced s row why

-- no insert goes on behind what was read, where none went on before
pub same_displaced : (kept new : Kept) (key : Key) (answer : KeyVector) → new ≡ with_records kept (vector_adds (state_of kept) key answer) → (state_of new).displaced ≡ (state_of kept).displaced
same_displaced kept new key answer is =
    ap (λ (t : State). t.displaced) (state_behind kept new (vector_adds (state_of kept) key answer) is) ∙ read_displaced (state_of kept) (live_vector_of (state_of kept) key) answer

pub still_writing : (s t : State) (put : ℕ) → SamePuts s t → is_writing s put ≡ true → is_writing t put ≡ true
still_writing s t put same writing = ap (λ puts. unwrap_or (option_map is_open (find (λ (p : PutRow). p.put == put) puts)) false) same.puts ∙ writing

-- ---- a live vector that was read

is_read_by : (p : Permit) (s : State) (row : Row) (list : List Stored) (b : Bool) → nat_le s.cursor row.place ≡ b → VectorIsReadAs p s row list → IsRead p s row
is_read_by p s row list true e h = IsRead.buffered (leb-true s.cursor row.place e)
is_read_by p s row list false e h = IsRead.given h.bytes (h.given (leb-false s.cursor row.place e)) h.digest

is_read : (p : Permit) (s : State) (row : Row) (list : List Stored) → VectorIsReadAs p s row list → IsRead p s row
is_read p s row list h = is_read_by p s row list (nat_le s.cursor row.place) refl h

-- ---- a damaged one is not live any more

found_by : (row first : Row) (b : Bool) → (if b then Some first else None) ≡ Some row → Some first ≡ Some row
found_by row first true h = h
found_by row first false h = cc

found_live : (s : State) (o : Option Row) (row : Row) → option_and_then (only_live s) o ≡ Some row → o ≡ Some row
found_live s None row h = cc
found_live s (Some first) row h = found_by row first (is_live s first) h

gone_by : (s t : State) (row : Row) (o : Option PieceId) → t.rows ≡ without row.id s.rows → option_and_then (live_row_of s) o ≡ Some row → option_and_then (live_row_of t) o ≡ None
gone_by s t row None rows h = cc
gone_by s t row (Some id) rows h =
    let stood : row_in s.rows id ≡ Some row = found_live s (row_in s.rows id) row h in
    let name : row.id ≡ id = row_in-named s.rows id row stood in
    let own : same_piece row.id id ≡ true = ap (same_piece row.id) (sym name) ∙ same_piece-same row.id in
    let none : row_in t.rows id ≡ None = ap (λ rows. row_in rows id) rows ∙ (row_in-without row.id id s.rows ∙ ap (λ b. cond b None (row_in s.rows id)) own) in
    ap (option_and_then (only_live t)) none

gone : (s : State) (key : Key) (row : Row) (kept found : Digest) → live_vector_of s key ≡ Some row → live_vector_of (state_after s (damage_record row kept found)) key ≡ None
gone s key row kept found live = gone_by s (state_after s (damage_record row kept found)) row (vector_of s key) refl live

-- ---- the trouble with one

pub record IsFault (p : Permit) (s : State) (row : Row) (recs : List Rec) (why : Cause) : Type 0 where
  pub count : ℕ
  pub written : IsWritten s row
  pub counts : CountsRead p s row count
  pub recs_are : recs ≡ rec.Fault count ∷ []
  pub why_is : why ≡ cause.DeviceFault count

pub record IsDamage (p : Permit) (s : State) (row : Row) (recs : List Rec) (why : Cause) : Type 0 where
  pub other : Digest
  pub damaged : IsDamaged p s row other
  pub recs_are : recs ≡ damage_record row row.digest other ∷ []
  pub why_is : why ≡ damage_cause row row.digest other

which : {p : Permit} {s : State} {row : Row} {recs : List Rec} {why : Cause} → Trouble p s row recs why → IsFault p s row recs why ⊎ IsDamage p s row recs why
which (Trouble.faulted count written counts) = inl (record { count = count; written = written; counts = counts; recs_are = refl; why_is = refl })
which (Trouble.damaged other damaged) = inr (record { other = other; damaged = damaged; recs_are = refl; why_is = refl })

-- the device refused to give it
pub fault_does : (p : Permit) (s : State) (put rest : ℕ) (w : PutRow) (o : Option Row) (answer : KeyVector) (count : ℕ) → IsWriting s put w → live_vector_of s w.key ≡ o
    → IsVectorFound p s o answer → fault_in answer ≡ Some count → DoesWeigh p s put rest (trouble_records o answer) (Fails (Faulted count))
fault_does p s put rest w o found.Absent count writing live h e = cc
fault_does p s put rest w o (found.Read list) count writing live h e = cc
fault_does p s put rest w None (found.Trouble why) count writing live h e = absurd h
fault_does p s put rest w (Some row) (found.Trouble why) count writing live h e = elim (which h) [
  | inl f ↦
      let told : Some f.count ≡ Some count = ap (λ y. fault_in (found.Trouble y)) (sym f.why_is) ∙ e in
      let same : f.count ≡ count = cc in
      subst (λ n. DoesWeigh p s put rest (cause_records row why) (Fails (Faulted n))) same (DoesWeigh.faulted w row f.count writing live f.written f.counts f.recs_are)
  | inr d ↦ let told : None ≡ Some count = ap (λ y. fault_in (found.Trouble y)) (sym d.why_is) ∙ e in cc
]

-- ---- what holds behind what was read

-- a damaged vector was recorded, or nothing; a live one was read, and is what the key has, where the answer is that or but for a pair
pub record IsReadSoFar (p : Permit) (s : State) (put rest : ℕ) (key : Key) (before : List Rec) (answer : KeyVector) : Type 0 where
  pub grows : (before ≡ []) ⊎ DoesWeigh p s put rest before Stays
  pub readable : IsReadWhereLive p (after_all s before) (live_vector_of (after_all s before) key)
  pub exact : HasAlternates s key answer
      → (row : Row) → live_vector_of (after_all s before) key ≡ Some row → list_in answer ≡ Some (alternates_of (after_all s before) key)
  pub listed : AreVectors s
      → ((row : Row) → live_vector_of (after_all s before) key ≡ Some row → list_in answer ≡ Some (alternates_of (after_all s before) key)) ⊎ IsKeyPair IsVectorAs p s key

none_live : (p : Permit) (s t : State) (put rest : ℕ) (key : Key) (before : List Rec) (answer : KeyVector) → after_all s before ≡ t → live_vector_of t key ≡ None
    → (before ≡ []) ⊎ DoesWeigh p s put rest before Stays → IsReadSoFar p s put rest key before answer
none_live p s t put rest key before answer is none grows =
    let gone : live_vector_of (after_all s before) key ≡ None = ap (λ x. live_vector_of x key) is ∙ none in
    record {
      grows = grows;
      readable = subst (IsReadWhereLive p (after_all s before)) (sym gone) tt;
      exact = λ has row live. let clash : None ≡ Some row = sym gone ∙ live in cc;
      listed = λ vectors. inl (λ row live. let clash : None ≡ Some row = sym gone ∙ live in cc);
    }

pub read_so_far : ReadIsListed → (p : Permit) (s : State) (put rest : ℕ) (w : PutRow) (o : Option Row) (answer : KeyVector) → IsWriting s put w → live_vector_of s w.key ≡ o
    → IsVectorFound p s o answer → fault_in answer ≡ None → IsReadSoFar p s put rest w.key (trouble_records o answer) answer
read_so_far law p s put rest w None found.Absent writing live h e = none_live p s s put rest w.key [] found.Absent refl live (inl refl)
read_so_far law p s put rest w None (found.Read list) writing live h e = absurd h
read_so_far law p s put rest w None (found.Trouble why) writing live h e = absurd h
read_so_far law p s put rest w (Some row) found.Absent writing live h e = absurd h
read_so_far law p s put rest w (Some row) (found.Read list) writing live h e = record {
  grows = inl refl;
  readable = subst (IsReadWhereLive p s) (sym live) (is_read p s row list h);
  exact = λ has other there. ap Some has;
  listed = λ vectors. elim (law p s w.key row list vectors live h) [ inl same ↦ inl (λ other there. ap Some same) | inr collide ↦ inr collide ];
}
read_so_far law p s put rest w (Some row) (found.Trouble why) writing live h e = elim (which h) [
  | inl f ↦ let told : Some f.count ≡ None = ap (λ y. fault_in (found.Trouble y)) (sym f.why_is) ∙ e in cc
  | inr d ↦
      none_live p s (state_after s (damage_record row row.digest d.other)) put rest w.key (cause_records row why) (found.Trouble why) (ap (after_all s) d.recs_are) (gone s w.key row row.digest d.other live)
      (inr (DoesWeigh.damaged w row d.other writing live d.damaged d.recs_are))
]
