-- What each record makes of what is told of how many alternates a vector lists.
use Rattle.std.proofs.Common.{◌≡◌, ℕ, ◌+◌, ◌<◌, List, [], ◌∷◌, length, refl, sym, ◌∙◌, ap, subst, arith, Bool, true, false}
use Rattle.std.specs.Prelude.{Option, Some, None, if◌then◌else◌, find, option_map, unwrap_or, ◌==◌}
use Rattle.std.specs.List.{AllByRecursion}
use Rattle.std.specs.Map.{lookup}
use Rattle.std.proofs.lemmas.Bool.{eqb-true, eq-eqb}
use Rattle.tape_base.specs.declared.digests.Digest.{Digest}
use Rattle.tape_base.specs.declared.keys.Key.{Key}
use Rattle.tape_base.specs.declared.pieces.PieceId.{PieceId}
use Rattle.tape_base.specs.Key.{same_key}
use Rattle.tape_base.specs.Piece.{same_piece}
use Rattle.tape_base.proofs.NameLaws.{same_key-true, same_piece-true, same_piece-same}
use Rattle.fragment_table.specs.Table.{made_row}
use Rattle.alternate_vector.specs.Field.{Field}
use Rattle.cache_model.specs.declared.record.Rec.{Rec}
use Rattle.cache_model.specs.declared.record.Rec.TheVariants as rec
use Rattle.cache_model.specs.State.{State, Row, PutRow, LastVector, Complete, TakenOut, Closed, GivenUp, after_all, change_put, count_of_vector, last_vector, list_of_piece, moved_row, opened_put, placed_row, put_of, row_in, row_of, state_after, vector_piece, with_cut, with_writing, without, without_earlier}
use Rattle.cache_model.specs.Verdict.{is_open}
use Rattle.cache_model.specs.Legal.{is_writing}
use Rattle.cache_model.proofs.Steps.{all_as}
use Rattle.cache_model.proofs.Found.{no_truth, none_is, number_of, same_some}
use Rattle.cache_model.proofs.Lists.{row_in-without, row_in-placed, row_in-copied}
use Rattle.step_laws.specs.VectorLaws.{IsOver, VectorsAreCounted}

-- ---- a put that is changed

abbrev pub changed : ℕ → (PutRow → PutRow) → PutRow → PutRow
changed put f p = if p.put == put then f p else p

module _ (put : ℕ) (f : PutRow → PutRow) (keeps : (p : PutRow) → (f p).put ≡ p.put) where
  number_by : (p : PutRow) (b : Bool) → (if b then f p else p).put ≡ p.put
  number_by p true = keeps p
  number_by p false = refl

  found_by : (p : PutRow) (b : Bool) (rest other : Option PutRow) → rest ≡ option_map (changed put f) other
      → (if b then Some (changed put f p) else rest) ≡ option_map (changed put f) (if b then Some p else other)
  found_by p true rest other h = refl
  found_by p false rest other h = h

  -- it is found as it was, and changed where it is the one
  pub find_changed : (n : ℕ) (puts : List PutRow) → find (λ q. q.put == n) (change_put put f puts) ≡ option_map (changed put f) (find (λ q. q.put == n) puts)
  find_changed n [] = refl
  find_changed n (p ∷ puts) =
      ap (λ m. if m == n then Some (changed put f p) else find (λ q. q.put == n) (change_put put f puts)) (number_by p (p.put == put))
      ∙ found_by p (p.put == n) _ _ (find_changed n puts)

-- ---- a state that keeps what is told of vectors

-- the row was there, and listed the same
pub record WasListed (s : State) (id : PieceId) (row : Row) : Type 0 where
  pub old : Row
  pub found : row_of s id ≡ Some old
  pub lists : old.alternates ≡ row.alternates

-- the last vectors of t are such of s, with what they list; and no put of t is new, or written again
pub record KeepsCounts (s t : State) : Type 0 where
  pub vectors : (key : Key) (put : ℕ) → last_vector t key ≡ Some (Complete put) → last_vector s key ≡ Some (Complete put)
  pub rows : (key : Key) (put : ℕ) (row : Row) → last_vector t key ≡ Some (Complete put) → row_of t (vector_piece key put) ≡ Some row → WasListed s (vector_piece key put) row
  pub counts : (key : Key) (put : ℕ) → last_vector t key ≡ Some (Complete put) → count_of_vector t (vector_piece key put) ≡ count_of_vector s (vector_piece key put)
  pub known : (put : ℕ) (w : PutRow) → put_of t put ≡ Some w → (old : PutRow) × (put_of s put ≡ Some old)
  pub ended : (put : ℕ) → is_writing s put ≡ false → is_writing t put ≡ false
  pub next : t.next_put ≡ s.next_put

pub counted_kept : {s t : State} → KeepsCounts s t → VectorsAreCounted s → VectorsAreCounted t
counted_kept {s} {t} k h = record {
  counted = λ key put last row found.
      let was : WasListed s (vector_piece key put) row = k.rows key put row last found in
      k.counts key put last ∙ (h.counted key put (k.vectors key put last) was.old was.found ∙ ap (λ list. length (unwrap_or list [])) was.lists);
  over = λ key put last. let over : IsOver s put = h.over key put (k.vectors key put last) in (rw k.next over.0, k.ended put over.1);
  earlier = λ put w found. let was = k.known put w found in rw k.next (h.earlier put was.0 was.1);
}

pub keeps_self : (s : State) → KeepsCounts s s
keeps_self s = record {
  vectors = λ key put last. last;
  rows = λ key put row last found. record { old = row; found = found; lists = refl };
  counts = λ key put last. refl;
  known = λ put w found. (w, found);
  ended = λ put over. over;
  next = refl;
}

pub keeps_trans : {s t u : State} → KeepsCounts s t → KeepsCounts t u → KeepsCounts s u
keeps_trans {s} {t} {u} a b = record {
  vectors = λ key put last. a.vectors key put (b.vectors key put last);
  rows = λ key put row last found.
      let was : WasListed t (vector_piece key put) row = b.rows key put row last found in
      let first : WasListed s (vector_piece key put) was.old = a.rows key put was.old (b.vectors key put last) was.found in
      record { old = first.old; found = first.found; lists = first.lists ∙ was.lists };
  counts = λ key put last. b.counts key put last ∙ a.counts key put (b.vectors key put last);
  known = λ put w found. let was = b.known put w found in a.known put was.0 was.1;
  ended = λ put over. b.ended put (a.ended put over);
  next = b.next ∙ a.next;
}

-- ---- rows that go, or are moved

gone_by : (row : Row) (o : Option Row) (b : Bool) → (if b then None else o) ≡ Some row → o ≡ Some row
gone_by row o true h = none_is h
gone_by row o false h = h

pub without_found : (piece id : PieceId) (rows : List Row) (row : Row) → row_in (without piece rows) id ≡ Some row → row_in rows id ≡ Some row
without_found piece id rows row h = gone_by row (row_in rows id) (same_piece piece id) (sym (row_in-without piece id rows) ∙ h)

earlier_by : (key : Key) (put old : ℕ) (rows : List Row) (id : PieceId) (row : Row) (b : Bool)
    → row_in (if b then rows else without (vector_piece key old) rows) id ≡ Some row → row_in rows id ≡ Some row
earlier_by key put old rows id row true h = h
earlier_by key put old rows id row false h = without_found (vector_piece key old) id rows row h

pub earlier_found : (key : Key) (put : ℕ) (last : Option LastVector) (rows : List Row) (id : PieceId) (row : Row)
    → row_in (without_earlier key put last rows) id ≡ Some row → row_in rows id ≡ Some row
earlier_found key put (Some (Complete old)) rows id row h = earlier_by key put old rows id row (old == put) h
earlier_found key put (Some (TakenOut old)) rows id row h = h
earlier_found key put None rows id row h = h

moved_by : (s : State) (id : PieceId) (place : ℕ) (digest : Digest) (row : Row) (o : Option Row) (b : Bool) → row_of s id ≡ o
    → (if b then option_map (moved_row place digest) o else o) ≡ Some row → WasListed s id row
moved_by s id place digest row (Some old) true e h =
    record { old = old; found = e; lists = ap (λ (r : Row). r.alternates) (same_some (moved_row place digest old) row _ refl h) }
moved_by s id place digest row None true e h = none_is h
moved_by s id place digest row o false e h = record { old = row; found = e ∙ h; lists = refl }

-- ---- each record

-- it begins no session, places nothing, begins no put and commits none
abbrev pub LeavesCounts : Rec → Type 0
LeavesCounts (rec.Formatted geometry) = ⊥
LeavesCounts (rec.Opened geometry serial cursor floor next_put clean list) = ⊥
LeavesCounts (rec.Placed piece place blocks digest pin) = ⊥
LeavesCounts (rec.WriteOpened actor put key request response pin) = ⊥
LeavesCounts (rec.Committed put key bytes list) = ⊥
LeavesCounts _ = Unit {0}

abbrev pub AllLeaveCounts : List Rec → Type 0
AllLeaveCounts recs = AllByRecursion LeavesCounts recs

-- nor is it a removal
abbrev pub LeavesVectors : Rec → Type 0
LeavesVectors (rec.Formatted geometry) = ⊥
LeavesVectors (rec.Opened geometry serial cursor floor next_put clean list) = ⊥
LeavesVectors (rec.Placed piece place blocks digest pin) = ⊥
LeavesVectors (rec.WriteOpened actor put key request response pin) = ⊥
LeavesVectors (rec.Committed put key bytes list) = ⊥
LeavesVectors (rec.Removed put key) = ⊥
LeavesVectors _ = Unit {0}

abbrev pub AllLeaveVectors : List Rec → Type 0
AllLeaveVectors recs = AllByRecursion LeavesVectors recs

counts_one : (r : Rec) → LeavesVectors r → LeavesCounts r
counts_one (rec.Formatted geometry) h = h
counts_one (rec.Opened geometry serial cursor floor next_put clean list) h = h
counts_one (rec.Placed piece place blocks digest pin) h = h
counts_one (rec.WriteOpened actor put key request response pin) h = h
counts_one (rec.Committed put key bytes list) h = h
counts_one _ h = tt

pub leave_counts : (recs : List Rec) → AllLeaveVectors recs → AllLeaveCounts recs
leave_counts recs h = all_as LeavesVectors LeavesCounts counts_one recs h

taken_by : (key : Key) (put gone : ℕ) (o : Option LastVector) (b : Bool) → (if b then Some (TakenOut gone) else o) ≡ Some (Complete put) → o ≡ Some (Complete put)
taken_by key put gone o true h = cc
taken_by key put gone o false h = h

-- rows alone are other ones
rows_alone : (s t : State) → t.vectors ≡ s.vectors → t.counts ≡ s.counts → t.puts ≡ s.puts → t.next_put ≡ s.next_put
    → ((id : PieceId) (row : Row) → row_of t id ≡ Some row → WasListed s id row) → KeepsCounts s t
rows_alone s t vectors counts puts next rows = record {
  vectors = λ key put last. ap (lookup (λ k. same_key k key)) (sym vectors) ∙ last;
  rows = λ key put row last found. rows (vector_piece key put) row found;
  counts = λ key put last. ap (λ c. unwrap_or (lookup (λ i. same_piece i (vector_piece key put)) c) 0) counts;
  known = λ put w found. (w, ap (find (λ p. p.put == put)) (sym puts) ∙ found);
  ended = λ put over. ap (λ p. unwrap_or (option_map is_open (find (λ q. q.put == put) p)) false) puts ∙ over;
  next = next;
}

was_there : (s : State) (id : PieceId) (row : Row) → row_of s id ≡ Some row → WasListed s id row
was_there s id row found = record { old = row; found = found; lists = refl }

known_by : (s : State) (put : ℕ) (f : PutRow → PutRow) (w : PutRow) (o : Option PutRow) → o ≡ put_of s put → option_map f o ≡ Some w → (old : PutRow) × (put_of s put ≡ Some old)
known_by s put f w (Some old) e h = (old, sym e)
known_by s put f w None e h = none_is h

ended_by : (put : ℕ) (f : PutRow → PutRow) (p : PutRow) (b : Bool) → ((p : PutRow) → is_open p ≡ false → is_open (f p) ≡ false) → is_open p ≡ false
    → is_open (if b then f p else p) ≡ false
ended_by put f p true ends h = ends p h
ended_by put f p false ends h = h

ended_in : (put : ℕ) (f : PutRow → PutRow) (o : Option PutRow) → ((p : PutRow) → is_open p ≡ false → is_open (f p) ≡ false)
    → unwrap_or (option_map is_open o) false ≡ false → unwrap_or (option_map is_open (option_map (changed put f) o)) false ≡ false
ended_in put f (Some p) ends h = ended_by put f p (p.put == put) ends h
ended_in put f None ends h = refl

-- one put alone is another one
puts_alone : (s t : State) (put : ℕ) (f : PutRow → PutRow) → ((p : PutRow) → (f p).put ≡ p.put) → ((p : PutRow) → is_open p ≡ false → is_open (f p) ≡ false)
    → t.vectors ≡ s.vectors → t.counts ≡ s.counts → t.rows ≡ s.rows → t.puts ≡ change_put put f s.puts → t.next_put ≡ s.next_put → KeepsCounts s t
puts_alone s t put f keeps ends vectors counts rows puts next = record {
  vectors = λ key n last. ap (lookup (λ k. same_key k key)) (sym vectors) ∙ last;
  rows = λ key n row last found. was_there s (vector_piece key n) row (ap (λ r. row_in r (vector_piece key n)) (sym rows) ∙ found);
  counts = λ key n last. ap (λ c. unwrap_or (lookup (λ i. same_piece i (vector_piece key n)) c) 0) counts;
  known = λ n w found. known_by s n (changed put f) w (put_of s n) refl (sym (found_as n) ∙ found);
  ended = λ n over. ap (λ o. unwrap_or (option_map is_open o) false) (found_as n) ∙ ended_in put f (put_of s n) ends over;
  next = next;
}
  where
    found_as : (n : ℕ) → put_of t n ≡ option_map (changed put f) (put_of s n)
    found_as n = ap (find (λ q. q.put == n)) puts ∙ find_changed put f keeps n s.puts

pub keeps_one : (s : State) (r : Rec) → LeavesCounts r → KeepsCounts s (state_after s r)
keeps_one s (rec.Formatted geometry) h = absurd h
keeps_one s (rec.Opened geometry serial cursor floor next_put clean list) h = absurd h
keeps_one s (rec.Placed piece place blocks digest pin) h = absurd h
keeps_one s (rec.WriteOpened actor put key request response pin) h = absurd h
keeps_one s (rec.Committed put key bytes list) h = absurd h
keeps_one s (rec.Moved piece from place digest) h =
    rows_alone s _ refl refl refl refl (λ id row found. moved_by s id place digest row (row_of s id) (same_piece piece id) refl (sym (row_in-copied piece id s.rows place digest) ∙ found))
keeps_one s (rec.Displaced piece segment live) h = rows_alone s _ refl refl refl refl (λ id row found. was_there s id row (without_found piece id s.rows row found))
keeps_one s (rec.Damaged piece place kept found) h = rows_alone s _ refl refl refl refl (λ id row there. was_there s id row (without_found piece id s.rows row there))
keeps_one s (rec.Cut put index length digest) h = puts_alone s _ put (with_cut (made_row length digest.0)) (λ p. refl) (λ p over. over) refl refl refl refl refl
keeps_one s (rec.Aborted put key) h = puts_alone s _ put (with_writing GivenUp) (λ p. refl) (λ p over. refl) refl refl refl refl refl
keeps_one s (rec.Removed put key) h = record {
  vectors = λ k n last. taken_by k n put (last_vector s k) (same_key key k) last;
  rows = λ k n row last found. was_there s (vector_piece k n) row (without_found (vector_piece key put) (vector_piece k n) s.rows row found);
  counts = λ k n last. refl;
  known = λ n w found. (w, found);
  ended = λ n over. over;
  next = refl;
}
keeps_one s _ h = rows_alone s _ refl refl refl refl (was_there s)

pub keeps_all : (s : State) (recs : List Rec) → AllLeaveCounts recs → KeepsCounts s (after_all s recs)
keeps_all s [] h = keeps_self s
keeps_all s (r ∷ recs) h = keeps_trans (keeps_one s r h.0) (keeps_all (state_after s r) recs h.1)

-- ---- a piece that is placed

other_by : (piece : PieceId) (placed row : Row) (o : Option Row) (b : Bool) → b ≡ false → (if b then Some placed else o) ≡ Some row → o ≡ Some row
other_by piece placed row o true e h = no_truth e
other_by piece placed row o false e h = h

-- it is the last vector of no key
pub keeps_placed : (s : State) (piece : PieceId) (place blocks : ℕ) (digest : Digest) (pin : ℕ)
    → ((key : Key) (put : ℕ) → last_vector s key ≡ Some (Complete put) → same_piece piece (vector_piece key put) ≡ false)
    → KeepsCounts s (state_after s (rec.Placed piece place blocks digest pin))
keeps_placed s piece place blocks digest pin other = record {
  vectors = λ key put last. last;
  rows = λ key put row last found. was_there s (vector_piece key put) row
      (other_by piece (placed_row s piece place blocks digest pin) row (row_of s (vector_piece key put)) (same_piece piece (vector_piece key put)) (other key put last)
      (sym (row_in-placed (vector_piece key put) s.rows (placed_row s piece place blocks digest pin)) ∙ found));
  counts = λ key put last. refl;
  known = λ put w found. (w, found);
  ended = λ put over. over;
  next = refl;
}

-- ---- a put that begins

below_by : (put n : ℕ) (w new : PutRow) (o : Option PutRow) (b : Bool) → (put == n) ≡ b → (o ≡ Some w → n < put) → (if b then Some new else o) ≡ Some w → n < put + 1
below_by put n w new o true e rest h = let same : put ≡ n = eqb-true put n e in omega (arith, same)
below_by put n w new o false e rest h = let below : n < put = rest h in omega (arith, below)

over_by : (put n : ℕ) (new : PutRow) (o : Option PutRow) (b : Bool) → (put == n) ≡ b → n < put → unwrap_or (option_map is_open o) false ≡ false
    → unwrap_or (option_map is_open (if b then Some new else o)) false ≡ false
over_by put n new o true e below h = let same : put ≡ n = eqb-true put n e in absurd (omega (arith, same, below))
over_by put n new o false e below h = h

pub counted_opened : (s : State) (actor : ℕ) (key : Key) (request response : List Field) (pin : ℕ) (t : State)
    → t ≡ record s { puts = opened_put actor s.next_put key request response pin ∷ s.puts; next_put = s.next_put + 1 } → VectorsAreCounted s → VectorsAreCounted t
counted_opened s actor key request response pin t is h =
    let new : PutRow = opened_put actor s.next_put key request response pin in
    subst VectorsAreCounted (sym is) (record {
      counted = h.counted;
      over = λ k n last. let over : IsOver s n = h.over k n last in
          (omega (arith, over.0), over_by s.next_put n new (put_of s n) (s.next_put == n) refl over.0 over.1);
      earlier = λ n w found. below_by s.next_put n w new (put_of s n) (s.next_put == n) refl (h.earlier n w) found;
    })

-- ---- a put that is committed

-- what a row lists that is found
listed_as : (s : State) (id : PieceId) (row : Row) → row_of s id ≡ Some row → list_of_piece s id ≡ unwrap_or row.alternates []
listed_as s id row found = rw found refl

closed_by : (w : PutRow) (put : ℕ) (b : Bool) → (w.put == put) ≡ b → b ≡ true → is_open (if b then with_writing Closed w else w) ≡ false
closed_by w put true e h = refl
closed_by w put false e h = no_truth (sym h)

module _ (s : State) (w : PutRow) (put bytes : ℕ) (found : put_of s put ≡ Some w) (h : VectorsAreCounted s) where
  abbrev own : PieceId
  own = vector_piece w.key put

  abbrev committed : State
  committed = state_after s (rec.Committed put w.key bytes (list_of_piece s own))

  puts_as : (n : ℕ) → put_of committed n ≡ option_map (changed put (with_writing Closed)) (put_of s n)
  puts_as n = find_changed put (with_writing Closed) (λ p. refl) n s.puts

  closed : is_writing committed put ≡ false
  closed =
      ap (λ o. unwrap_or (option_map is_open o) false) (puts_as put ∙ ap (option_map (changed put (with_writing Closed))) found)
      ∙ closed_by w put (w.put == put) refl (eq-eqb w.put put (number_of s put w found))

  still_over : (n : ℕ) → is_writing s n ≡ false → is_writing committed n ≡ false
  still_over n over = ap (λ o. unwrap_or (option_map is_open o) false) (puts_as n) ∙ ended_in put (with_writing Closed) (put_of s n) (λ p e. refl) over

  -- the count of a vector that is this one, and of another one
  count_by : (id : PieceId) (row : Row) (b : Bool) → same_piece own id ≡ b → row_of s id ≡ Some row
      → (b ≡ false → count_of_vector s id ≡ length (unwrap_or row.alternates []))
      → count_of_vector committed id ≡ length (unwrap_or row.alternates [])
  count_by id row true e there rest = rw e (ap length (listed_as s own row (ap (row_of s) (same_piece-true own id e) ∙ there)))
  count_by id row false e there rest = rw e (rest refl)

  last_by : (key : Key) (n : ℕ) (b : Bool) → same_key w.key key ≡ b → (if b then Some (Complete put) else last_vector s key) ≡ Some (Complete n)
      → same_piece own (vector_piece key n) ≡ false → last_vector s key ≡ Some (Complete n)
  last_by key n true e last other =
      let same : put ≡ n = cc in
      no_truth (sym (same_piece-same own) ∙ (ap (same_piece own) (ap (λ k. vector_piece k put) (same_key-true w.key key e) ∙ ap (vector_piece key) same) ∙ other))
  last_by key n false e last other = last

  over_as : (key : Key) (n : ℕ) (b : Bool) → (if b then Some (Complete put) else last_vector s key) ≡ Some (Complete n) → IsOver committed n
  over_as key n true last = let same : put ≡ n = cc in subst (IsOver committed) same (h.earlier put w found, closed)
  over_as key n false last = let over : IsOver s n = h.over key n last in (over.0, still_over n over.1)

  pub counted_committed : VectorsAreCounted committed
  counted_committed = record {
    counted = λ key n last row there.
        let before : row_of s (vector_piece key n) ≡ Some row = earlier_found w.key put (last_vector s w.key) s.rows (vector_piece key n) row there in
        count_by (vector_piece key n) row (same_piece own (vector_piece key n)) refl before
        (λ other. h.counted key n (last_by key n (same_key w.key key) refl last other) row before);
    over = λ key n last. over_as key n (same_key w.key key) last;
    earlier = λ n v there. let was = known_by s n (changed put (with_writing Closed)) v (put_of s n) refl (sym (puts_as n) ∙ there) in h.earlier n was.0 was.1;
  }
