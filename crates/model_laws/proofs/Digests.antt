-- What is known of a session but for the digests of its documents: what the state is asked does not go by these, and what
-- each record makes of it neither.
use Rattle.std.proofs.Common.{◌≡◌, ℕ, List, [], ◌∷◌, ◌++◌, refl, sym, ◌∙◌, ap, Bool, true, false}
use Rattle.std.specs.Prelude.{◌&&◌, nat_lt, Option, Some, None, cond, map, find, filter, option_map, option_and_then, unwrap_or}
use Rattle.std.proofs.lemmas.List.{map-append}
use Rattle.tape_base.specs.declared.keys.Key.{Key}
use Rattle.tape_base.specs.declared.pieces.PieceId.{PieceId}
use Rattle.tape_base.specs.Piece.{same_piece}
use Rattle.alternate_vector.specs.Field.{Field}
use Rattle.alternate_vector.specs.Alternates.{Stored, merged}
use Rattle.fragment_table.specs.Table.{TableRow}
use Rattle.cache_model.specs.declared.cause.Cause.{Cause}
use Rattle.cache_model.specs.declared.answer.ReadAnswer.{ReadAnswer}
use Rattle.cache_model.specs.declared.answer.ReadAnswer.TheVariants as read
use Rattle.cache_model.specs.declared.answer.NextAnswer.{NextAnswer}
use Rattle.cache_model.specs.declared.answer.NextAnswer.TheVariants as next
use Rattle.cache_model.specs.State.{State, Row, Mark, alternate_of, floor_next, most_payload, PutRow, ReaderRow, LastVector, Complete, TakenOut, alternates_of, is_live, last_match, last_vector, list_among, list_of_last, list_of_piece, list_of_put, list_of_row, live_row_of, live_rows, merged_list, only_live, put_of, row_in, row_of, vector_piece}
use Rattle.cache_model.specs.Verdict.{cause_of_last, cause_of_loss, cause_of_miss, cause_of_piece, cause_of_vector, cause_without_vector, follow_answer, followed, hit_answer, live_vector_of, lookup_verdict, next_piece, next_row, no_match, no_record, passed, reader_verdict, vector_of, verdict_at_end, verdict_of_fragment}
use Rattle.cache_model.specs.Due.{due_pieces, is_due}
use Rattle.model_laws.specs.Agreeing.{without_digest, without_digests, without_mark_digests}

-- ---- lists of rows

pub rows_twice : (rows : List Row) → map without_digest (map without_digest rows) ≡ map without_digest rows
rows_twice [] = refl
rows_twice (row ∷ rows) = ap (λ (rest : List Row). without_digest row ∷ rest) (rows_twice rows)

pub marks_twice : (marks : List Mark) → map without_mark_digests (map without_mark_digests marks) ≡ map without_mark_digests marks
marks_twice [] = refl
marks_twice (m ∷ marks) =
    ap (λ (rows : List Row). record m { rows = rows } ∷ map without_mark_digests (map without_mark_digests marks)) (rows_twice m.rows)
    ∙ ap (λ (rest : List Mark). without_mark_digests m ∷ rest) (marks_twice marks)

-- a test that does not go by digests passes the same rows
module _ (test : Row → Bool) (blind : (row : Row) → test (without_digest row) ≡ test row) where
  filtered_by : (row : Row) (rows : List Row) (b : Bool) → test row ≡ b
      → filter test (map without_digest rows) ≡ map without_digest (filter test rows)
      → cond (test (without_digest row)) (without_digest row ∷ filter test (map without_digest rows)) (filter test (map without_digest rows))
      ≡ map without_digest (cond (test row) (row ∷ filter test rows) (filter test rows))
  filtered_by row rows true is rest = rw (blind row, is) (ap (λ (xs : List Row). without_digest row ∷ xs) rest)
  filtered_by row rows false is rest = rw (blind row, is) rest

  pub filtered : (rows : List Row) → filter test (map without_digest rows) ≡ map without_digest (filter test rows)
  filtered [] = refl
  filtered (row ∷ rows) = filtered_by row rows (test row) refl (filtered rows)

  found_by : (row : Row) (rows : List Row) (b : Bool) → test row ≡ b
      → find test (map without_digest rows) ≡ option_map without_digest (find test rows)
      → cond (test (without_digest row)) (Some (without_digest row)) (find test (map without_digest rows))
      ≡ option_map without_digest (cond (test row) (Some row) (find test rows))
  found_by row rows true is rest = rw (blind row, is) refl
  found_by row rows false is rest = rw (blind row, is) rest

  pub found : (rows : List Row) → find test (map without_digest rows) ≡ option_map without_digest (find test rows)
  found [] = refl
  found (row ∷ rows) = found_by row rows (test row) refl (found rows)

-- ---- pieces

row_in_too : (rows : List Row) (id : PieceId) → row_in (map without_digest rows) id ≡ option_map without_digest (row_in rows id)
row_in_too rows id = found (λ row. same_piece row.id id) (λ row. refl) rows

pub row_too : (s : State) (id : PieceId) → row_of (without_digests s) id ≡ option_map without_digest (row_of s id)
row_too s id = row_in_too s.rows id

only_live_too : (s : State) (row : Row) (b : Bool) → is_live s row ≡ b
    → only_live (without_digests s) (without_digest row) ≡ option_map without_digest (only_live s row)
only_live_too s row true is = rw is refl
only_live_too s row false is = rw is refl

live_too : (s : State) (o : Option Row)
    → option_and_then (only_live (without_digests s)) (option_map without_digest o) ≡ option_map without_digest (option_and_then (only_live s) o)
live_too s None = refl
live_too s (Some row) = only_live_too s row (is_live s row) refl

pub live_row_too : (s : State) (id : PieceId) → live_row_of (without_digests s) id ≡ option_map without_digest (live_row_of s id)
live_row_too s id = ap (option_and_then (only_live (without_digests s))) (row_too s id) ∙ live_too s (row_of s id)

pub live_rows_too : (s : State) → live_rows (without_digests s) ≡ map without_digest (live_rows s)
live_rows_too s = filtered (is_live s) (λ row. refl) s.rows

pub due_too : (s : State) (now : ℕ) → due_pieces (without_digests s) now ≡ map without_digest (due_pieces s now)
due_too s now =
    let test : Row → Bool = λ row. nat_lt row.place (floor_next s) && is_due s now row in
    ap (filter test) (live_rows_too s) ∙ filtered test (λ row. refl) (live_rows s)

pub vector_too : (s : State) (o : Option PieceId)
    → option_and_then (live_row_of (without_digests s)) o ≡ option_map without_digest (option_and_then (live_row_of s) o)
vector_too s None = refl
vector_too s (Some id) = live_row_too s id

pub live_vector_too : (s : State) (key : Key) → live_vector_of (without_digests s) key ≡ option_map without_digest (live_vector_of s key)
live_vector_too s key = vector_too s (vector_of s key)

-- ---- alternates

listed_by : (o : Option Row)
    → unwrap_or (option_and_then (λ (row : Row). row.alternates) (option_map without_digest o)) [] ≡ unwrap_or (option_and_then (λ (row : Row). row.alternates) o) []
listed_by None = refl
listed_by (Some row) = refl

pub list_of_piece_too : (s : State) (id : PieceId) → list_of_piece (without_digests s) id ≡ list_of_piece s id
list_of_piece_too s id = ap (λ (o : Option Row). unwrap_or (option_and_then (λ (row : Row). row.alternates) o) []) (row_too s id) ∙ listed_by (row_of s id)

read_by : (s : State) (o : Option Row)
    → unwrap_or (option_map (list_of_row (without_digests s)) (option_map without_digest o)) [] ≡ unwrap_or (option_map (list_of_row s) o) []
read_by s None = refl
read_by s (Some row) = refl

last_too : (s : State) (rows : List Row) (key : Key) (last : LastVector)
    → list_of_last (without_digests s) (map without_digest rows) key last ≡ list_of_last s rows key last
last_too s rows key (Complete put) =
    ap (λ (o : Option Row). unwrap_or (option_map (list_of_row (without_digests s)) o) []) (row_in_too rows (vector_piece key put)) ∙ read_by s (row_in rows (vector_piece key put))
last_too s rows key (TakenOut put) = refl

among_by : (s : State) (rows : List Row) (key : Key) (o : Option LastVector)
    → unwrap_or (option_map (list_of_last (without_digests s) (map without_digest rows) key) o) [] ≡ unwrap_or (option_map (list_of_last s rows key) o) []
among_by s rows key None = refl
among_by s rows key (Some last) = last_too s rows key last

among_too : (s : State) (rows : List Row) (key : Key) → list_among (without_digests s) (map without_digest rows) key ≡ list_among s rows key
among_too s rows key = among_by s rows key (last_vector s key)

pub alternates_too : (s : State) (key : Key) → alternates_of (without_digests s) key ≡ alternates_of s key
alternates_too s key = among_too s s.rows key

merged_too : (s : State) (p : PutRow) → merged_list (without_digests s) p ≡ merged_list s p
merged_too s p =
    let listed : List Row → List Stored = λ rows. list_among (without_digests s) rows p.key in
    ap (λ (list : List Stored). merged s.geometry.alternates (most_payload s.geometry) list (alternate_of p))
    (ap listed (sym (map-append without_digest s.displaced s.rows)) ∙ among_too s (s.displaced ++ s.rows) p.key)

list_by : (s : State) (o : Option PutRow)
    → unwrap_or (option_map (merged_list (without_digests s)) o) [] ≡ unwrap_or (option_map (merged_list s) o) []
list_by s None = refl
list_by s (Some p) = merged_too s p

pub list_too : (s : State) (put : ℕ) → list_of_put (without_digests s) put ≡ list_of_put s put
list_too s put = list_by s (put_of s put)

-- ---- causes and verdicts

passed_by : (s : State) (o : Option Row)
    → unwrap_or (option_map (passed (without_digests s)) (option_map without_digest o)) (no_record s) ≡ unwrap_or (option_map (passed s) o) (no_record s)
passed_by s None = refl
passed_by s (Some row) = refl

pub cause_too : (s : State) (id : PieceId) → cause_of_piece (without_digests s) id ≡ cause_of_piece s id
cause_too s id =
    ap (λ (o : Option Row). unwrap_or (cause_of_loss s id) (unwrap_or (option_map (passed (without_digests s)) o) (no_record s))) (row_too s id)
    ∙ ap (unwrap_or (cause_of_loss s id)) (passed_by s (row_of s id))

unmatched_by : (s : State) (id : PieceId) (other : Cause) (o : Option Row)
    → unwrap_or (option_map (λ (row : Row). no_match s id) (option_map without_digest o)) other ≡ unwrap_or (option_map (λ (row : Row). no_match s id) o) other
unmatched_by s id other None = refl
unmatched_by s id other (Some row) = refl

vector_cause_too : (s : State) (id : PieceId) → cause_of_vector (without_digests s) id ≡ cause_of_vector s id
vector_cause_too s id =
    ap (λ (o : Option Row). unwrap_or (option_map (λ (row : Row). no_match s id) o) (cause_of_piece (without_digests s) id)) (live_row_too s id)
    ∙ unmatched_by s id (cause_of_piece (without_digests s) id) (live_row_of s id)
    ∙ ap (unwrap_or (option_map (λ (row : Row). no_match s id) (live_row_of s id))) (cause_too s id)

last_cause_too : (s : State) (key : Key) (last : LastVector) → cause_of_last (without_digests s) key last ≡ cause_of_last s key last
last_cause_too s key (Complete put) = vector_cause_too s (vector_piece key put)
last_cause_too s key (TakenOut put) = refl

miss_by : (s : State) (key : Key) (o : Option LastVector)
    → unwrap_or (option_map (cause_of_last (without_digests s) key) o) (cause_without_vector s key) ≡ unwrap_or (option_map (cause_of_last s key) o) (cause_without_vector s key)
miss_by s key None = refl
miss_by s key (Some last) = last_cause_too s key last

pub miss_too : (s : State) (key : Key) → cause_of_miss (without_digests s) key ≡ cause_of_miss s key
miss_too s key = miss_by s key (last_vector s key)

pub lookup_too : (s : State) (key : Key) (request : List Field)
    → lookup_verdict (without_digests s) key request ≡ lookup_verdict s key request
lookup_too s key request =
    let behind : List Stored → Cause → ReadAnswer = λ list cause.
    unwrap_or (option_map hit_answer (last_match request list)) (unwrap_or (option_map follow_answer (followed s key request)) (read.Miss cause)) in
    ap (λ (list : List Stored). behind list (cause_of_miss (without_digests s) key)) (alternates_too s key)
    ∙ ap (behind (alternates_of s key)) (miss_too s key)

given_by : (s : State) (r : ReaderRow) (entry : TableRow) (other : NextAnswer) (o : Option Row)
    → unwrap_or (option_map (λ (live : Row). next.Gave r.next entry.length) (option_map without_digest o)) other
    ≡ unwrap_or (option_map (λ (live : Row). next.Gave r.next entry.length) o) other
given_by s r entry other None = refl
given_by s r entry other (Some row) = refl

fragment_too : (s : State) (r : ReaderRow) (entry : TableRow)
    → verdict_of_fragment (without_digests s) r entry ≡ verdict_of_fragment s r entry
fragment_too s r entry =
    let given : Option Row → NextAnswer → NextAnswer = λ o other. unwrap_or (option_map (λ (live : Row). next.Gave r.next entry.length) o) other in
    ap (λ (o : Option Row). given o (next.Broke (cause_of_piece (without_digests s) (next_piece r)))) (live_row_too s (next_piece r))
    ∙ given_by s r entry (next.Broke (cause_of_piece (without_digests s) (next_piece r))) (live_row_of s (next_piece r))
    ∙ ap (λ (cause : Cause). given (live_row_of s (next_piece r)) (next.Broke cause)) (cause_too s (next_piece r))

reader_by : (s : State) (r : ReaderRow) (o : Option TableRow)
    → unwrap_or (option_map (verdict_of_fragment (without_digests s) r) o) (verdict_at_end s r r.table) ≡ unwrap_or (option_map (verdict_of_fragment s r) o) (verdict_at_end s r r.table)
reader_by s r None = refl
reader_by s r (Some entry) = fragment_too s r entry

end_too : (s : State) (r : ReaderRow) (table : Option (List TableRow))
    → verdict_at_end (without_digests s) r table ≡ verdict_at_end s r table
end_too s r None = refl
end_too s r (Some table) = refl

pub reader_too : (s : State) (r : ReaderRow) → reader_verdict (without_digests s) r ≡ reader_verdict s r
reader_too s r =
    ap (unwrap_or (option_map (verdict_of_fragment (without_digests s) r) (next_row s r))) (end_too s r r.table) ∙ reader_by s r (next_row s r)
