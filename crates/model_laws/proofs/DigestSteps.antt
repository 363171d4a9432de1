-- What a record makes of a session but for the digests of its documents is fixed by the session and the record but for
-- these.
use Rattle.std.proofs.Common.{◌≡◌, ℕ, ◌+◌, List, [], ◌∷◌, ◌++◌, refl, sym, ◌∙◌, ap, Bool, true, false}
use Rattle.std.specs.Prelude.{Option, Some, None, if◌then◌else◌, map, find, filter, nat_le, not, ◌==◌, option_map, option_to_list, unwrap_or}
use Rattle.std.proofs.lemmas.List.{map-append}
use Rattle.tape_base.specs.declared.keys.Key.{Key}
use Rattle.tape_base.specs.declared.pieces.PieceId.{PieceId}
use Rattle.tape_base.specs.declared.digests.Digest.{Digest}
use Rattle.tape_base.specs.Piece.{is_vector, same_piece}
use Rattle.alternate_vector.specs.Field.{Field}
use Rattle.alternate_vector.specs.Alternates.{Stored}
use Rattle.cache_model.specs.declared.cause.Cause.{Cause}
use Rattle.cache_model.specs.declared.cause.Cause.TheVariants as cause
use Rattle.cache_model.specs.declared.answer.ReadAnswer.{ReadAnswer}
use Rattle.cache_model.specs.declared.answer.ReadAnswer.TheVariants as read
use Rattle.cache_model.specs.declared.record.Rec.{Rec}
use Rattle.cache_model.specs.declared.record.Rec.TheVariants as rec
use Rattle.cache_model.specs.State.{State, Row, Mark, LastVector, Complete, TakenOut, ReaderRow, after_all, blocks_of_row, is_clean_sync, last_match, last_vector, list_of_put, live_rows, low_of_sync, mark_now, mark_of, moved_row, opened_reader, placed_row, row_of, state_after, synced_rows, vector_piece, without, without_earlier}
use Rattle.model_laws.specs.Agreeing.{HoldTheSame, TellTheSame, without_copy_digest, without_digest, without_digests, without_mark_digests}
use Rattle.model_laws.proofs.Digests.{alternates_too, filtered, list_too, live_rows_too, marks_twice, row_too, rows_twice}

-- ---- rows

without_too : (id : PieceId) (rows : List Row) → without id (map without_digest rows) ≡ map without_digest (without id rows)
without_too id rows = filtered (λ row. not (same_piece row.id id)) (λ row. refl) rows

-- what is left of rows, once more without digests
left_twice : (id : PieceId) (rows : List Row)
    → map without_digest (without id (map without_digest rows)) ≡ map without_digest (without id rows)
left_twice id rows = ap (map without_digest) (without_too id rows) ∙ rows_twice (without id rows)

-- with others behind them that are alike
pushed : (id : PieceId) (rows one other : List Row) → map without_digest one ≡ map without_digest other
    → map without_digest (without id rows ++ one) ≡ map without_digest (without id (map without_digest rows) ++ other)
pushed id rows one other same =
    map-append without_digest (without id rows) one
    ∙ ap (λ (xs : List Row). xs ++ map without_digest one) (sym (left_twice id rows))
    ∙ ap (λ (xs : List Row). map without_digest (without id (map without_digest rows)) ++ xs) same
    ∙ sym (map-append without_digest (without id (map without_digest rows)) other)

listed_by : (s : State) (piece : PieceId) (b : Bool)
    → (if b then Some (list_of_put (without_digests s) piece.put) else None) ≡ (if b then Some (list_of_put s piece.put) else None)
listed_by s piece true = ap (λ (list : List Stored). Some list) (list_too s piece.put)
listed_by s piece false = refl

placed_too : (s : State) (piece : PieceId) (place blocks : ℕ) (digest : Digest) (pin : ℕ)
    → without_digest (placed_row s piece place blocks digest pin) ≡ without_digest (placed_row (without_digests s) piece place blocks digest pin)
placed_too s piece place blocks digest pin =
    ap (λ (o : Option (List Stored)). record (without_digest (placed_row s piece place blocks digest pin)) { alternates = o }) (sym (listed_by s piece (is_vector piece)))

moved_by : (place : ℕ) (digest other : Digest) (o : Option Row)
    → map without_digest (map (moved_row place digest) (option_to_list o)) ≡ map without_digest (map (moved_row place other) (option_to_list (option_map without_digest o)))
moved_by place digest other None = refl
moved_by place digest other (Some row) = refl

blocks_by : (o : Option Row) → blocks_of_row o ≡ blocks_of_row (option_map without_digest o)
blocks_by None = refl
blocks_by (Some row) = refl

kept_by : (o : Option Row) → map without_digest (option_to_list o) ≡ map without_digest (option_to_list (option_map without_digest o))
kept_by None = refl
kept_by (Some row) = refl

displaced_too : (rows : List Row) (o : Option Row)
    → map without_digest (rows ++ option_to_list o) ≡ map without_digest (map without_digest rows ++ option_to_list (option_map without_digest o))
displaced_too rows o =
    map-append without_digest rows (option_to_list o)
    ∙ ap (λ (xs : List Row). xs ++ map without_digest (option_to_list o)) (sym (rows_twice rows))
    ∙ ap (λ (xs : List Row). map without_digest (map without_digest rows) ++ xs) (kept_by o)
    ∙ sym (map-append without_digest (map without_digest rows) (option_to_list (option_map without_digest o)))

left_by : (key : Key) (put old : ℕ) (rows : List Row) (b : Bool)
    → map without_digest (if b then rows else without (vector_piece key old) rows) ≡ map without_digest (if b then map without_digest rows else without (vector_piece key old) (map without_digest rows))
left_by key put old rows true = sym (rows_twice rows)
left_by key put old rows false = sym (left_twice (vector_piece key old) rows)

earlier_too : (key : Key) (put : ℕ) (last : Option LastVector) (rows : List Row)
    → map without_digest (without_earlier key put last rows) ≡ map without_digest (without_earlier key put last (map without_digest rows))
earlier_too key put None rows = sym (rows_twice rows)
earlier_too key put (Some (TakenOut old)) rows = sym (rows_twice rows)
earlier_too key put (Some (Complete old)) rows = left_by key put old rows (old == put)

-- ---- readers

opened_too : (s : State) (reader actor : ℕ) (key : Key) (request : List Field) (answer : ReadAnswer)
    → opened_reader s reader actor key request answer ≡ opened_reader (without_digests s) reader actor key request answer
opened_too s reader actor key request (read.Hit put) =
    ap (λ (list : List Stored). record { actor = actor; reader = reader; key = key; put = put; table = Some (unwrap_or (option_map (λ (a : Stored). a.table) (last_match request list)) []); next = 1 } ∷ [])
    (sym (alternates_too s key))
opened_too s reader actor key request (read.Follow put) = refl
opened_too s reader actor key request (read.Miss why) = refl

-- ---- syncs

synced_too : (s : State) (cursor : ℕ) (clean : Bool)
    → map without_digest (synced_rows s cursor clean) ≡ map without_digest (synced_rows (without_digests s) cursor clean)
synced_too s cursor clean =
    let test : Row → Bool = λ row. nat_le (low_of_sync s cursor clean) row.place in
    sym (ap (map without_digest) (ap (filter test) (live_rows_too s) ∙ filtered test (λ row. refl) (live_rows s)) ∙ rows_twice (filter test (live_rows s)))

mark_found : (serial : ℕ) (m : Mark) (marks : List Mark) (b : Bool) → (m.serial == serial) ≡ b
    → find (λ (x : Mark). x.serial == serial) (map without_mark_digests marks) ≡ option_map without_mark_digests (find (λ (x : Mark). x.serial == serial) marks)
    → find (λ (x : Mark). x.serial == serial) (map without_mark_digests (m ∷ marks)) ≡ option_map without_mark_digests (find (λ (x : Mark). x.serial == serial) (m ∷ marks))
mark_found serial m marks true is rest = rw is refl
mark_found serial m marks false is rest = rw is rest

marks_found : (serial : ℕ) (marks : List Mark)
    → find (λ (x : Mark). x.serial == serial) (map without_mark_digests marks) ≡ option_map without_mark_digests (find (λ (x : Mark). x.serial == serial) marks)
marks_found serial [] = refl
marks_found serial (m ∷ marks) = mark_found serial m marks (m.serial == serial) refl (marks_found serial marks)

clean_by : (o : Option Mark)
    → unwrap_or (option_map (λ (m : Mark). m.clean) (option_map without_mark_digests o)) false ≡ unwrap_or (option_map (λ (m : Mark). m.clean) o) false
clean_by None = refl
clean_by (Some m) = refl

clean_too : (s : State) (serial : ℕ) → is_clean_sync (without_digests s) serial ≡ is_clean_sync s serial
clean_too s serial = ap (λ (o : Option Mark). unwrap_or (option_map (λ (m : Mark). m.clean) o) false) (marks_found serial s.marks) ∙ clean_by (mark_of s serial)

-- ---- records

pub digests_twice : (s : State) → without_digests s ≡ without_digests (without_digests s)
digests_twice s =
    ap (λ (rows : List Row). record (without_digests s) { rows = rows }) (sym (rows_twice s.rows))
    ∙ ap (λ (rows : List Row). record (without_digests s) { rows = map without_digest (map without_digest s.rows); displaced = rows }) (sym (rows_twice s.displaced))
    ∙ ap (λ (marks : List Mark). record (without_digests s) {
      rows = map without_digest (map without_digest s.rows);
      displaced = map without_digest (map without_digest s.displaced);
      marks = marks;
    }) (sym (marks_twice s.marks))

-- the state without digests, and with other rows
with_rows : State → List Row → State
with_rows t rows = record t { rows = rows }

after_too : (s : State) (r : Rec)
    → without_digests (state_after s r) ≡ without_digests (state_after (without_digests s) (without_copy_digest r))
unfolding with_rows
after_too s (rec.Formatted geometry) = refl
after_too s (rec.Opened geometry serial cursor floor next_put clean list) = refl
after_too s (rec.Began cursor floor) = ap (λ (t : State). state_after t (rec.Began cursor floor)) (digests_twice s)
after_too s (rec.Placed piece place blocks digest pin) =
    ap (λ (t : State). with_rows (record t {
      filled = s.filled + blocks;
      places = (place, piece) ∷ s.places;
      displaced = [];
      pending = if is_vector piece then Some piece else s.pending;
    }) (map without_digest (without piece s.rows ++ placed_row s piece place blocks digest pin ∷ []))) (digests_twice s)
    ∙ ap (with_rows (record (without_digests (without_digests s)) {
      filled = s.filled + blocks;
      places = (place, piece) ∷ s.places;
      displaced = [];
      pending = if is_vector piece then Some piece else s.pending;
    })) (pushed piece s.rows (placed_row s piece place blocks digest pin ∷ []) (placed_row (without_digests s) piece place blocks digest pin ∷ [])
    (ap (λ (row : Row). row ∷ []) (placed_too s piece place blocks digest pin)))
after_too s (rec.Moved piece from place digest) =
    let blank : Digest = record { 0 = [] } in
    let rows : List Row = map without_digest (without piece s.rows ++ map (moved_row place digest) (option_to_list (row_of s piece))) in
    let places : List (ℕ × PieceId) = (place, piece) ∷ s.places in
    let same : map without_digest (map (moved_row place digest) (option_to_list (row_of s piece))) ≡ map without_digest (map (moved_row place blank) (option_to_list (row_of (without_digests s) piece))) =
    moved_by place digest blank (row_of s piece) ∙ ap (λ (o : Option Row). map without_digest (map (moved_row place blank) (option_to_list o))) (sym (row_too s piece)) in
    ap (λ (t : State). record t { filled = s.filled + blocks_of_row (row_of s piece); rows = rows; places = places }) (digests_twice s)
    ∙ ap (λ (n : ℕ). record (without_digests (without_digests s)) { filled = s.filled + n; rows = rows; places = places })
    (blocks_by (row_of s piece) ∙ ap blocks_of_row (sym (row_too s piece)))
    ∙ ap (λ (xs : List Row). record (without_digests (without_digests s)) { filled = s.filled + blocks_of_row (row_of (without_digests s) piece); rows = xs; places = places })
    (pushed piece s.rows _ _ same)
after_too s (rec.Unsaved piece place fault) = ap (λ (t : State). state_after t (rec.Unsaved piece place fault)) (digests_twice s)
after_too s (rec.Displaced piece segment live) =
    let lost : List (PieceId × Cause) = (piece, cause.Displaced segment live) ∷ s.lost in
    ap (λ (t : State). record t {
      rows = map without_digest (without piece s.rows);
      displaced = map without_digest (s.displaced ++ option_to_list (row_of s piece));
      lost = lost;
    }) (digests_twice s)
    ∙ ap (λ (rows : List Row). record (without_digests (without_digests s)) {
      rows = rows;
      displaced = map without_digest (s.displaced ++ option_to_list (row_of s piece));
      lost = lost;
    }) (sym (left_twice piece s.rows))
    ∙ ap (λ (rows : List Row). record (without_digests (without_digests s)) {
      rows = map without_digest (without piece (map without_digest s.rows));
      displaced = rows;
      lost = lost;
    }) (displaced_too s.displaced (row_of s piece) ∙ ap (λ (o : Option Row). map without_digest (map without_digest s.displaced ++ option_to_list o)) (sym (row_too s piece)))
after_too s (rec.Damaged piece place kept found) =
    ap (λ (t : State). with_rows (state_after t (rec.Damaged piece place kept found)) (map without_digest (without piece s.rows))) (digests_twice s)
    ∙ ap (with_rows (state_after (without_digests (without_digests s)) (rec.Damaged piece place kept found))) (sym (left_twice piece s.rows))
after_too s (rec.WriteOpened actor put key request response pin) = ap (λ (t : State). state_after t (rec.WriteOpened actor put key request response pin)) (digests_twice s)
after_too s (rec.Cut put index length digest) = ap (λ (t : State). state_after t (rec.Cut put index length digest)) (digests_twice s)
after_too s (rec.Committed put key bytes alternates) =
    ap (λ (t : State). with_rows (state_after t (rec.Committed put key bytes alternates)) (map without_digest (without_earlier key put (last_vector s key) s.rows))) (digests_twice s)
    ∙ ap (with_rows (state_after (without_digests (without_digests s)) (rec.Committed put key bytes alternates))) (earlier_too key put (last_vector s key) s.rows)
after_too s (rec.Aborted put key) = ap (λ (t : State). state_after t (rec.Aborted put key)) (digests_twice s)
after_too s (rec.Removed put key) =
    ap (λ (t : State). with_rows (state_after t (rec.Removed put key)) (map without_digest (without (vector_piece key put) s.rows))) (digests_twice s)
    ∙ ap (with_rows (state_after (without_digests (without_digests s)) (rec.Removed put key))) (sym (left_twice (vector_piece key put) s.rows))
after_too s (rec.ReadOpened reader actor key request answer) =
    ap (λ (t : State). record t { readers = opened_reader s reader actor.0 key request answer ++ s.readers; next_reader = reader + 1 }) (digests_twice s)
    ∙ ap (λ (readers : List ReaderRow). record (without_digests (without_digests s)) { readers = readers ++ s.readers; next_reader = reader + 1 })
    (opened_too s reader actor.0 key request answer)
after_too s (rec.Gave reader index length) = ap (λ (t : State). state_after t (rec.Gave reader index length)) (digests_twice s)
after_too s (rec.Ended reader length) = digests_twice s
after_too s (rec.Waited reader cut) = digests_twice s
after_too s (rec.Broke reader why) = digests_twice s
after_too s (rec.ReadClosed reader) = ap (λ (t : State). state_after t (rec.ReadClosed reader)) (digests_twice s)
after_too s (rec.SyncBegun serial cursor clean in_parts) =
    let first : List Row → Mark = λ rows. record (mark_now s serial cursor clean) { rows = rows } in
    let begun : State → List Mark → State = λ t marks. record t {
      marks = marks;
      running = if in_parts then Some serial else s.running;
      marked = if clean then true else s.marked;
    } in
    ap (λ (t : State). begun t (first (map without_digest (synced_rows s cursor clean)) ∷ map without_mark_digests s.marks)) (digests_twice s)
    ∙ ap (λ (marks : List Mark). begun (without_digests (without_digests s)) (first (map without_digest (synced_rows s cursor clean)) ∷ marks)) (sym (marks_twice s.marks))
    ∙ ap (λ (rows : List Row). begun (without_digests (without_digests s)) (first rows ∷ map without_mark_digests (map without_mark_digests s.marks))) (synced_too s cursor clean)
after_too s (rec.SyncDone serial) =
    ap (λ (t : State). record t { finished = serial; running = None; marked = if is_clean_sync s serial then s.marked else false }) (digests_twice s)
    ∙ ap (λ (b : Bool). record (without_digests (without_digests s)) { finished = serial; running = None; marked = if b then s.marked else false }) (sym (clean_too s serial))
after_too s (rec.Fault count) = ap (λ (t : State). state_after t (rec.Fault count)) (digests_twice s)

-- records that tell alike leave alike what was alike
pub record_alike : (s t : State) (r o : Rec) → HoldTheSame s t → without_copy_digest r ≡ without_copy_digest o
    → HoldTheSame (state_after s r) (state_after t o)
record_alike s t r o same told =
    after_too s r
    ∙ ap (λ (x : State). without_digests (state_after x (without_copy_digest r))) same
    ∙ ap (λ (x : Rec). without_digests (state_after (without_digests t) x)) told
    ∙ sym (after_too t o)

first_told : (r o : Rec) (one other : List Rec) → TellTheSame (r ∷ one) (o ∷ other)
    → (without_copy_digest r ≡ without_copy_digest o) × TellTheSame one other
first_told r o one other same = (cc, cc)

pub all_alike : (s t : State) (one other : List Rec) → HoldTheSame s t → TellTheSame one other
    → HoldTheSame (after_all s one) (after_all t other)
all_alike s t [] [] same told = same
all_alike s t [] (o ∷ other) same told = let f : [] ≡ without_copy_digest o ∷ map without_copy_digest other = told in cc
all_alike s t (r ∷ one) [] same told = let f : without_copy_digest r ∷ map without_copy_digest one ≡ [] = told in cc
all_alike s t (r ∷ one) (o ∷ other) same told =
    let both = first_told r o one other told in
    all_alike (state_after s r) (state_after t o) one other (record_alike s t r o same both.0) both.1
