-- The last vector of each key stands, or its loss is recorded: record by record, and group by group.
use Rattle.std.proofs.Common.{◌≡◌, ℕ, ◌+◌, List, [], ◌∷◌, ◌++◌, Bool, true, false, refl, sym, ◌∙◌, ap, subst, inl, inr, arith}
use Rattle.std.specs.Prelude.{Option, Some, None, cond, option_map, ◌==◌, length}
use Rattle.std.specs.Map.{lookup}
use Rattle.std.proofs.lemmas.Bool.{ne_eqb}
use Rattle.tape_base.specs.declared.digests.Digest.{Digest}
use Rattle.tape_base.specs.declared.geometries.Geometry.{Geometry}
use Rattle.tape_base.specs.declared.keys.Key.{Key}
use Rattle.tape_base.specs.declared.pieces.PieceId.{PieceId}
use Rattle.tape_base.specs.Digest.{digest_of}
use Rattle.tape_base.specs.Key.{same_key}
use Rattle.tape_base.specs.Piece.{is_vector, same_piece}
use Rattle.tape_base.proofs.NameLaws.{same_key-true, same_key-same, same_piece-same}
use Rattle.fragment_table.specs.Table.{total_length}
use Rattle.alternate_vector.specs.Alternates.{Stored}
use Rattle.cache_model.specs.declared.cause.Cause.{Cause}
use Rattle.cache_model.specs.declared.cause.Cause.TheVariants as cause
use Rattle.cache_model.specs.declared.record.Rec.{Rec}
use Rattle.cache_model.specs.declared.record.Rec.TheVariants as rec
use Rattle.cache_model.specs.State.{State, Row, PutRow, LastVector, Complete, TakenOut, after_all, last_vector, list_of_piece, moved_row, nothing_yet, placed_row, row_in, row_of, state_after, vector_piece, without, without_earlier}
use Rattle.cache_model.specs.Verdict.{cause_of_loss}
use Rattle.cache_model.specs.Permit.{Permit, Intent, End, Reason, Work}
use Rattle.cache_model.specs.Legal
use Rattle.cache_model.specs.Legal.{Advances, Does, IsQuiet, IsStep, MayGrow, format_records, more, next_fragment_of, nothing}
use Rattle.cache_model.proofs.Found.{none_is, same_some}
use Rattle.cache_model.proofs.Lists.{row_in-without, row_in-placed, row_in-copied}
use Rattle.cache_model.proofs.Steps.{after_all-append}
use Rattle.model_laws.proofs.Counted
use Rattle.model_laws.proofs.Counted.{Parts, displaced_leaves, parts}
use Rattle.model_laws.proofs.CountedRecords.{AllLeaveCounts, LeavesCounts}
use Rattle.script_laws.specs.Vectors.{AreOnRecord, IsOnRecord}
use Rattle.model_laws.proofs.Quiet.{quiet_or_commits}

-- ---- states

-- the last vectors of t are such of s, and on record where they were
record Keeps (s t : State) : Type 0 where
  kept : (key : Key) (put : ℕ) → last_vector t key ≡ Some (Complete put)
      → (last_vector s key ≡ Some (Complete put)) × (IsOnRecord s (vector_piece key put) → IsOnRecord t (vector_piece key put))
  pending : t.pending ≡ s.pending

keeps_then : {s t u : State} → Keeps s t → Keeps t u → Keeps s u
keeps_then {s} {t} {u} a b = record {
  kept = λ key put last.
      let later = b.kept key put last in
      let first = a.kept key put later.0 in
      (first.0, λ h. later.1 (first.1 h));
  pending = b.pending ∙ a.pending;
}

-- the vectors are the same, and each piece is on record as before
same_vectors : (s t : State) → t.vectors ≡ s.vectors → t.pending ≡ s.pending → ((id : PieceId) → IsOnRecord s id → IsOnRecord t id) → Keeps s t
same_vectors s t vectors pending stays =
    record { kept = λ key put last. (ap (lookup (λ k. same_key k key)) (sym vectors) ∙ last, stays (vector_piece key put)); pending = pending }

-- ---- rows that go, and losses that are told

-- the piece goes, and it is told why
lost_by : (s t : State) (piece id : PieceId) (why : Cause) (b : Bool) → cause_of_loss t id ≡ cond b (Some why) (cause_of_loss s id) → row_of t id ≡ cond b None (row_of s id)
    → IsOnRecord s id → IsOnRecord t id
lost_by s t piece id why true loss row h = inr (why, loss)
lost_by s t piece id why false loss row (inl found) = inl (found.0, row ∙ found.1)
lost_by s t piece id why false loss row (inr lost) = inr (lost.0, loss ∙ lost.1)

moved_by : (s t : State) (id : PieceId) (place : ℕ) (digest : Digest) (b : Bool) (o : Option Row) → row_of s id ≡ o → t.lost ≡ s.lost
    → row_of t id ≡ cond b (option_map (moved_row place digest) (row_of s id)) (row_of s id) → IsOnRecord s id → IsOnRecord t id
moved_by s t id place digest b o e lost row (inr loss) = inr (loss.0, ap (lookup (λ i. same_piece i id)) lost ∙ loss.1)
moved_by s t id place digest true o e lost row (inl found) = inl (moved_row place digest found.0, row ∙ ap (option_map (moved_row place digest)) found.1)
moved_by s t id place digest false o e lost row (inl found) = inl (found.0, row ∙ found.1)

-- another piece goes
left_by : (s t : State) (gone id : PieceId) → t.lost ≡ s.lost → t.rows ≡ without gone s.rows → same_piece gone id ≡ false → IsOnRecord s id → IsOnRecord t id
left_by s t gone id lost rows other (inr loss) = inr (loss.0, ap (lookup (λ i. same_piece i id)) lost ∙ loss.1)
left_by s t gone id lost rows other (inl found) =
    inl (found.0, ap (λ r. row_in r id) rows ∙ (row_in-without gone id s.rows ∙ (ap (λ b. cond b None (row_of s id)) other ∙ found.1)))

-- vectors of other keys are other pieces
other_key : (key k : Key) (put n : ℕ) → same_key key k ≡ false → same_piece (vector_piece key put) (vector_piece k n) ≡ false
other_key key k put n other = rw other refl

removed_by : (s t : State) (key k : Key) (put n : ℕ) (b : Bool) → same_key key k ≡ b → t.lost ≡ s.lost → t.rows ≡ without (vector_piece key put) s.rows
    → cond b (Some (TakenOut put)) (last_vector s k) ≡ Some (Complete n)
    → (last_vector s k ≡ Some (Complete n)) × (IsOnRecord s (vector_piece k n) → IsOnRecord t (vector_piece k n))
removed_by s t key k put n true e lost rows last = absurd cc
removed_by s t key k put n false e lost rows last = (last, left_by s t (vector_piece key put) (vector_piece k n) lost rows (other_key key k put n e))

-- ---- each record

keeps_one : (s : State) (r : Rec) → LeavesCounts r → Keeps s (state_after s r)
keeps_one s (rec.Formatted geometry) h = absurd h
keeps_one s (rec.Opened geometry serial cursor floor next_put clean list) h = absurd h
keeps_one s (rec.Placed piece place blocks digest pin) h = absurd h
keeps_one s (rec.WriteOpened actor put key request response pin) h = absurd h
keeps_one s (rec.Committed put key bytes list) h = absurd h
keeps_one s (rec.Moved piece from place digest) h =
    same_vectors s _ refl refl (λ id. moved_by s (state_after s (rec.Moved piece from place digest)) id place digest (same_piece piece id) (row_of s id) refl refl (row_in-copied piece id s.rows place digest))
keeps_one s (rec.Displaced piece segment live) h =
    same_vectors s _ refl refl (λ id. lost_by s (state_after s (rec.Displaced piece segment live)) piece id (cause.Displaced segment live) (same_piece piece id) refl (row_in-without piece id s.rows))
keeps_one s (rec.Damaged piece place kept found) h =
    same_vectors s _ refl refl (λ id. lost_by s (state_after s (rec.Damaged piece place kept found)) piece id (cause.Damaged place kept found) (same_piece piece id) refl (row_in-without piece id s.rows))
keeps_one s (rec.Removed put key) h =
    record { kept = λ k n last. removed_by s (state_after s (rec.Removed put key)) key k put n (same_key key k) refl refl refl last; pending = refl }
keeps_one s (rec.Ended reader size) h = same_vectors s s refl refl (λ id h. h)
keeps_one s (rec.Waited reader cut) h = same_vectors s s refl refl (λ id h. h)
keeps_one s (rec.Broke reader why) h = same_vectors s s refl refl (λ id h. h)
keeps_one s _ h = same_vectors s _ refl refl (λ id h. h)

keeps_all : (s : State) (recs : List Rec) → AllLeaveCounts recs → Keeps s (after_all s recs)
keeps_all s [] h = same_vectors s s refl refl (λ id h. h)
keeps_all s (r ∷ recs) h = keeps_then (keeps_one s r h.0) (keeps_all (state_after s r) recs h.1)

-- ---- a piece that is placed

placed_by : (s t : State) (piece id : PieceId) (row : Row) (b : Bool) → t.lost ≡ s.lost → row_of t id ≡ cond b (Some row) (row_of s id) → IsOnRecord s id → IsOnRecord t id
placed_by s t piece id row b lost rows (inr loss) = inr (loss.0, ap (lookup (λ i. same_piece i id)) lost ∙ loss.1)
placed_by s t piece id row true lost rows (inl found) = inl (row, rows)
placed_by s t piece id row false lost rows (inl found) = inl (found.0, rows ∙ found.1)

module _ (s : State) (piece : PieceId) (place blocks : ℕ) (digest : Digest) (pin : ℕ) where
  abbrev Placed : State
  Placed = state_after s (rec.Placed piece place blocks digest pin)

  abbrev Own : Row
  Own = placed_row s piece place blocks digest pin

  stays_placed : (id : PieceId) → IsOnRecord s id → IsOnRecord Placed id
  stays_placed id = placed_by s Placed piece id Own (same_piece piece id) refl (row_in-placed id s.rows Own)

  -- it has its row
  stands_placed : IsOnRecord Placed piece
  stands_placed = inl (Own, row_in-placed piece s.rows Own ∙ ap (λ b. cond b (Some Own) (row_of s piece)) (same_piece-same piece))

-- ---- a vector that is committed

earlier_by : (s t : State) (key : Key) (put old : ℕ) (id : PieceId) (b : Bool) → (old == put) ≡ b → t.lost ≡ s.lost
    → t.rows ≡ cond b s.rows (without (vector_piece key old) s.rows)
    → (b ≡ false → same_piece (vector_piece key old) id ≡ false) → IsOnRecord s id → IsOnRecord t id
earlier_by s t key put old id true e lost rows other (inl found) = inl (found.0, ap (λ r. row_in r id) rows ∙ found.1)
earlier_by s t key put old id true e lost rows other (inr loss) = inr (loss.0, ap (lookup (λ i. same_piece i id)) lost ∙ loss.1)
earlier_by s t key put old id false e lost rows other h = left_by s t (vector_piece key old) id lost rows (other refl) h

unchanged : (s t : State) (id : PieceId) → t.lost ≡ s.lost → t.rows ≡ s.rows → IsOnRecord s id → IsOnRecord t id
unchanged s t id lost rows (inl found) = inl (found.0, ap (λ r. row_in r id) rows ∙ found.1)
unchanged s t id lost rows (inr loss) = inr (loss.0, ap (lookup (λ i. same_piece i id)) lost ∙ loss.1)

earlier_leaves : (s t : State) (key : Key) (put : ℕ) (last : Option LastVector) (id : PieceId) → t.lost ≡ s.lost → t.rows ≡ without_earlier key put last s.rows
    → ((old : ℕ) → (old == put) ≡ false → same_piece (vector_piece key old) id ≡ false) → IsOnRecord s id → IsOnRecord t id
earlier_leaves s t key put (Some (Complete old)) id lost rows other h = earlier_by s t key put old id (old == put) refl lost rows (other old) h
earlier_leaves s t key put (Some (TakenOut old)) id lost rows other h = unchanged s t id lost rows h
earlier_leaves s t key put None id lost rows other h = unchanged s t id lost rows h

-- an earlier vector of the key is another piece than this one
other_put : (key : Key) (put old : ℕ) → (old == put) ≡ false → same_piece (vector_piece key old) (vector_piece key put) ≡ false
other_put key put old other = rw (same_key-same key, other) refl

module _ (s : State) (put : ℕ) (key : Key) (bytes : ℕ) (list : List Stored) (on : AreOnRecord s) (own : IsOnRecord s (vector_piece key put)) where
  abbrev Committed : State
  Committed = state_after s (rec.Committed put key bytes list)

  committed_by : (k : Key) (n : ℕ) (b : Bool) → same_key key k ≡ b → cond b (Some (Complete put)) (last_vector s k) ≡ Some (Complete n)
      → IsOnRecord Committed (vector_piece k n)
  committed_by k n true e last =
      let number : put ≡ n = cc in
      let same : vector_piece key put ≡ vector_piece k n = rw (number, same_key-true key k e) refl in
      subst (IsOnRecord Committed) same (earlier_leaves s Committed key put (last_vector s key) (vector_piece key put) refl refl (other_put key put) own)
  committed_by k n false e last =
      earlier_leaves s Committed key put (last_vector s key) (vector_piece k n) refl refl (λ old x. other_key key k old n e) (on k n last)

  committed_on : AreOnRecord Committed
  committed_on k n last = committed_by k n (same_key key k) refl last

-- ---- each group

-- so it stands between groups, and with a vector that is pending
record Stands (s : State) : Type 0 where
  on : AreOnRecord s
  pending : (id : PieceId) → s.pending ≡ Some id → IsOnRecord s id

quiet_stands : (s : State) → AreOnRecord s → IsQuiet s → Stands s
quiet_stands s on quiet = record { on = on; pending = λ id waits. none_is (sym quiet ∙ waits) }

kept_on : {s t : State} → Keeps s t → AreOnRecord s → AreOnRecord t
kept_on k on key put last = let h = k.kept key put last in h.1 (on key put h.0)

left_stands : (s t : State) → IsQuiet s → Keeps s t → AreOnRecord s → Stands t
left_stands s t quiet k on = quiet_stands t (kept_on k on) (k.pending ∙ quiet)

no_vector : (w : PutRow) → is_vector (next_fragment_of w) ≡ false
no_vector w = ne_eqb (length w.cuts + 1) 0 (λ e. omega (arith, e))

placed_stands : (t mid : State) (piece : PieceId) (b : Bool) → t.pending ≡ cond b (Some piece) mid.pending → mid.pending ≡ None → AreOnRecord t → IsOnRecord t piece → Stands t
placed_stands t mid piece true waits quiet on own = record { on = on; pending = λ id h. subst (IsOnRecord t) (same_some piece id t.pending waits h) own }
placed_stands t mid piece false waits quiet on own = quiet_stands t on (waits ∙ quiet)

-- a piece is placed behind other records
placed : (s : State) (before : List Rec) (piece : PieceId) (place blocks : ℕ) (digest : Digest) (pin : ℕ) (b : Bool) → is_vector piece ≡ b → IsQuiet s
    → AllLeaveCounts before → AreOnRecord s
    → Stands (after_all s (before ++ rec.Placed piece place blocks digest pin ∷ []))
placed s before piece place blocks digest pin b e quiet all on =
    let mid : State = after_all s before in
    let k : Keeps s mid = keeps_all s before all in
    let t : State = state_after mid (rec.Placed piece place blocks digest pin) in
    let stays : AreOnRecord t = λ key put last. stays_placed mid piece place blocks digest pin (vector_piece key put) (kept_on k on key put last) in
    let waits : t.pending ≡ cond b (Some piece) mid.pending = ap (λ v. cond v (Some piece) mid.pending) e in
    subst Stands (sym (after_all-append s before (rec.Placed piece place blocks digest pin ∷ [])))
    (placed_stands t mid piece b waits (k.pending ∙ quiet) stays (stands_placed mid piece place blocks digest pin))

fragment_placed : (p : Permit) (s : State) (put index : ℕ) (payload : List ℕ) (added : List Rec) → Legal.MayPlaceFragment p s put index payload added
    → AreOnRecord s → Stands (after_all s added)
fragment_placed p s put index payload added m on =
    subst (λ xs. Stands (after_all s xs)) (sym m.is)
    (placed s (rec.Cut put index (length payload) (digest_of payload) ∷ m.displaced) (next_fragment_of m.w) _ _ _ _ false (no_vector m.w) m.cut.writing.quiet
    (tt, displaced_leaves p s _ m.displaced m.displaces) on)

vector_placed : (p : Permit) (s : State) (put fragments : ℕ) (added : List Rec) → Legal.MayPlaceVector p s put fragments added → AreOnRecord s → Stands (after_all s added)
vector_placed p s put fragments added m on =
    subst (λ xs. Stands (after_all s xs)) (sym m.is)
    (placed s m.displaced (vector_piece m.w.key put) _ _ _ _ true refl m.cut.writing.quiet (displaced_leaves p s _ m.displaced m.displaces) on)

committed : (s : State) (put : ℕ) (added : List Rec) (e : End) → Legal.DoesCommit s put added e → Stands s → Stands (after_all s added)
committed s put added e (Legal.DoesCommit.commits w found still waits is) h =
    subst (λ xs. Stands (after_all s xs)) (sym is) (quiet_stands _ (committed_on s put w.key (total_length w.cuts) (list_of_piece s (vector_piece w.key put)) h.on (h.pending (vector_piece w.key put) waits)) refl)

by_parts : (p : Permit) (s : State) (added : List Rec) (e : End) → IsQuiet s → Parts p s added e → Stands s → Stands (after_all s added)
by_parts p s added e quiet (Counted.Parts.left all) h = left_stands s (after_all s added) quiet (keeps_all s added all) h.on
by_parts p s added e quiet (Counted.Parts.opens m) h =
    subst (λ xs. Stands (after_all s xs)) (sym m.is) (left_stands s _ quiet (same_vectors s _ refl refl (λ id x. x)) h.on)
by_parts p s added e quiet (Counted.Parts.cuts put index payload m) h = fragment_placed p s put index payload added m h.on
by_parts p s added e quiet (Counted.Parts.lists put fragments m) h = vector_placed p s put fragments added m h.on
by_parts p s added e quiet (Counted.Parts.commits put d) h = committed s put added e d h

by_group : (p : Permit) (s : State) (i : Intent) (added : List Rec) (e : End) → Does p s i added e → Stands s → Stands (after_all s added)
by_group p s i added e d h = elim (quiet_or_commits p s i added e d) [
  | inl quiet ↦ by_parts p s added e quiet (parts p s i added e d) h
  | inr commits ↦ committed s commits.0 added e commits.1 h
]

-- ---- steps

advanced : (p : Permit) (s : State) (is : List Intent) (why : Option Reason) (added : List Rec) (after : Work) → Advances p s is why added after → Stands s
    → Stands (after_all s added)
advanced p s [] why added after a h = absurd a
advanced p s (i ∷ is) why added after a h = by_group p s i added a.0 a.1 h

grown : {p : Permit} {s : State} {w after : Work} {recs : List Rec} → MayGrow p s w recs after → Stands s → Stands (after_all s recs)
grown nothing h = h
grown {p} {s} {w} (more {rest = tail} added between one others) h =
    subst Stands (sym (after_all-append s added tail)) (grown others (advanced p s w.intents w.refused added between one h))

-- what stands between steps
pub record StandsQuiet (s : State) : Type 0 where
  pub on : AreOnRecord s
  pub quiet : IsQuiet s

pub step_stands : (p : Permit) (s : State) (intents : List Intent) (added : List Rec) (why : Option Reason) → IsStep p s intents added why → StandsQuiet s
    → StandsQuiet (after_all s added)
step_stands p s intents added why step h = record { on = (grown step.grows (quiet_stands s h.on h.quiet)).on; quiet = step.quiet }

pub format_stands : (g : Geometry) → StandsQuiet (after_all nothing_yet (format_records g))
format_stands g = record { on = λ key put last. none_is last; quiet = refl }
