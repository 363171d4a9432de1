-- Sessions that were worked by hand, computed by the definitions: what their lookups and readers are
-- answered, with places and floors. No device call fails in them, and no digest counts.
use Rattle.std.specs.Prelude.{ℕ, zero, suc, ◌+◌, ◌*◌, ◌^◌, ◌/◌, ◌%◌, ◌≤◌, ◌==◌, ◌≡◌, refl, Bool, true, false, not, nat_le, if◌then◌else◌, List, [], ◌∷◌, ◌++◌, length, fold, find, map, replicate, reverse, codes, option_map, unwrap_or, is_some}
use Rattle.std.specs.List.{range_with_len}
use Rattle.std.proofs.Math.Dec.{lit≤, lit<}
use Rattle.http_header.specs.Token.{is_token_byte}
use Rattle.tape_base.specs.declared.keys.Key.{Key}
use Rattle.tape_base.specs.declared.pieces.PieceId.{PieceId}
use Rattle.tape_base.specs.declared.digests.Digest.{Digest}
use Rattle.tape_base.specs.declared.geometries.Geometry.{Geometry}
use Rattle.tape_base.specs.Blocks.{blocks_of}
use Rattle.tape_base.specs.Geometry.{budget_of}
use Rattle.fragment_table.specs.Table.{total_length}
use Rattle.alternate_vector.specs.Field.{Field}
use Rattle.cache_model.specs.declared.cause.Cause.{Cause}
use Rattle.cache_model.specs.declared.cause.Cause.TheVariants as cause
use Rattle.cache_model.specs.declared.answer.ReadAnswer.{ReadAnswer}
use Rattle.cache_model.specs.declared.answer.ReadAnswer.TheVariants as read
use Rattle.cache_model.specs.declared.answer.NextAnswer.{NextAnswer}
use Rattle.cache_model.specs.declared.answer.NextAnswer.TheVariants as next
use Rattle.cache_model.specs.declared.record.Rec.{Rec}
use Rattle.cache_model.specs.declared.record.Rec.TheVariants as rec
use Rattle.cache_model.specs.State.{State, Row, PutRow, ReaderRow, nothing_yet, state_after, after_all, cursor_next, floor_next, floor_now, fragment_piece, list_of_piece, list_of_put, live_row_of, place_now, put_of, reader_of, vector_piece}
use Rattle.cache_model.specs.Verdict.{cause_of_miss, cause_of_piece, live_vector_of, lookup_verdict, reader_verdict, table_of}
use Rattle.cache_model.specs.Room.{greatest_pin, has_room, is_full_for, rows_of_segment}
use Rattle.cache_model.specs.Forgetting.{forget}
use Rattle.cache_model.specs.Legal.{answer_record, format_records, next_fragment_of, size_alone, vector_length}

-- 64 blocks, buffers of 8, fragments of 4 bytes; a segment of so many buckets
abbrev geometry_of : (buckets : ℕ) → 1 ≤ buckets → buckets ≤ 16383 → Geometry
geometry_of buckets some few = record {
  segments = 1;
  buckets = buckets;
  content = 64;
  agg = 8;
  reach = 16;
  fragment = 4;
  generation = 7;
  alternates = 5;
  accepted = record {
    segments_fit = (lit≤ tt, lit≤ tt);
    buckets_fit = (some, few);
    agg_fits = (lit≤ tt, lit≤ tt, refl);
    content_fits = (lit≤ tt, lit< tt);
    reach_fits = (lit≤ tt, lit< tt);
    fragment_fits = (lit≤ tt, lit≤ tt);
  };
  keeps = record { some = lit≤ tt; few = lit≤ tt };
}

-- what a line is answered
pub data Said : Type 0 where
  Opened : (put : ℕ) → Said
  Stored : (put length fragments : ℕ) → Said
  TooLarge : (bytes : ℕ) → Said
  Lost : (index : ℕ) (why : Cause) → Said
  GaveUp : (put : ℕ) → Said
  Looked : (answer : ReadAnswer) → Said
  Read : (answer : NextAnswer) → Said
  Removed : (put : ℕ) → Said
  Absent : (why : Cause) → Said
  Flushed : (blocks cursor floor : ℕ) → Said

-- what the records came to, and what was answered, the last first
pub record Session : Type 0 where
  pub state : State
  pub said : List Said

abbrev Line : Type 0
Line = Session → Session

-- ---- records and answers

abbrev add : Session → Rec → Session
add m r = record m { state = state_after m.state r }

abbrev tell : Session → Said → Session
tell m said = record m { said = said ∷ m.said }

abbrev no_digest : Digest
no_digest = record { 0 = [] }

-- ---- room and places

abbrev begin_next : Line
begin_next m = add m (rec.Began (cursor_next m.state) (floor_next m.state))

abbrev make_room : ℕ → Line
make_room bytes m = if has_room m.state bytes then m else begin_next m

abbrev place : PieceId → ℕ → ℕ → Line
place id bytes pin m = add m (rec.Placed id (place_now m.state) (blocks_of bytes) no_digest pin)

-- ---- fragments

abbrev of_put : ℕ → (PutRow → Line) → Line
of_put put line m = unwrap_or (option_map (λ w. line w m) (put_of m.state put)) m

abbrev cut_next : ℕ → PutRow → Line
cut_next bytes w m = place (next_fragment_of w) bytes w.pin (add m (rec.Cut w.put (length w.cuts + 1) bytes no_digest))

abbrev cut : ℕ → Session → ℕ → Session
cut put m bytes = of_put put (cut_next bytes) (make_room bytes m)

abbrev cut_whole : ℕ → ℕ → Line
cut_whole put bytes m = fold (cut put) m (replicate (bytes / 4) 4)

abbrev cut_rest : ℕ → ℕ → Line
cut_rest put rest m = if rest == 0 then m else cut put m rest

-- ---- the end of a put: its vector is weighed, the rest is cut, room is made, and the fragments are looked at

abbrev give_up : PutRow → Said → Line
give_up w said m = tell (add m (rec.Aborted w.put w.key)) said

abbrev is_lost : State → PutRow → ℕ → Bool
is_lost s w index = not (is_some (live_row_of s (fragment_piece w.key w.put index)))

abbrev lose : PutRow → Session → ℕ → Session
lose w m index = give_up w (Lost index (cause_of_piece m.state (fragment_piece w.key w.put index))) m

abbrev commit_placed : PutRow → Line
commit_placed w m =
    tell (add m (rec.Committed w.put w.key (total_length w.cuts) (list_of_piece m.state (vector_piece w.key w.put))))
    (Stored w.put (total_length w.cuts) (length w.cuts))

abbrev commit : PutRow → Line
commit w m = commit_placed w (place (vector_piece w.key w.put) (vector_length m.state w.put) (greatest_pin (list_of_put m.state w.put)) m)

abbrev finish : PutRow → Line
finish w m = unwrap_or (option_map (lose w m) (find (is_lost m.state w) (range_with_len 1 (length w.cuts)))) (commit w m)

abbrev make_vector_room : ℕ → Line
make_vector_room put m = make_room (vector_length m.state put) m

abbrev close_weighed : ℕ → ℕ → Line
close_weighed put rest m = of_put put finish (make_vector_room put (cut_rest put rest m))

abbrev weigh : ℕ → PutRow → Line
weigh rest w m =
    if nat_le (blocks_of (size_alone w rest)) (budget_of m.state.geometry) then close_weighed w.put rest m
    else give_up w (TooLarge (size_alone w rest)) m

-- ---- what writers ask

abbrev open_put : Key → List Field → List Field → Line
open_put key request response m = add m (rec.WriteOpened (record { 0 = 0 }) m.state.next_put key request response 0)

abbrev open_write : Key → Line
open_write key m = tell (open_put key [] [] m) (Opened m.state.next_put)

abbrev close : ℕ → ℕ → Line
close put rest m = of_put put (weigh rest) m

abbrev abort : ℕ → Line
abort put m = of_put put (λ w. give_up w (GaveUp put)) m

abbrev put : Key → List Field → List Field → ℕ → Line
put key request response bytes m =
    close m.state.next_put (bytes % 4) (cut_whole m.state.next_put bytes (open_put key request response m))

abbrev take_out : Key → Session → Row → Session
take_out key m row = tell (add m (rec.Removed row.id.put key)) (Removed row.id.put)

abbrev remove : Key → Line
remove key m = unwrap_or (option_map (take_out key m) (live_vector_of m.state key)) (tell m (Absent (cause_of_miss m.state key)))

abbrev tell_flush : ℕ → Line
tell_flush blocks m = tell m (Flushed blocks m.state.cursor (floor_now m.state))

abbrev flush : Line
flush m = if m.state.filled == 0 then tell_flush 0 m else tell_flush m.state.filled (begin_next m)

-- ---- what readers ask

abbrev open_reader : Key → List Field → ReadAnswer → Line
open_reader key request answer m = tell (add m (rec.ReadOpened m.state.next_reader (record { 0 = 0 }) key request answer)) (Looked answer)

abbrev open_read : Key → List Field → Line
open_read key request m = open_reader key request (lookup_verdict m.state key request) m

abbrev answered : ℕ → NextAnswer → Line
answered reader answer m = tell (add m (answer_record reader answer)) (Read answer)

abbrev read_on : ℕ → Line
read_on reader m = unwrap_or (option_map (λ r. answered reader (reader_verdict m.state r) m) (reader_of m.state reader)) m

abbrev read_times : ℕ → ℕ → Line
read_times zero reader m = m
read_times (suc n) reader m = read_times n reader (read_on reader m)

abbrev done : ℕ → Line
done reader m = add m (rec.ReadClosed reader)

-- each fragment of what was hit, and the end
abbrev read_all : ReaderRow → Line
read_all r m = done r.reader (read_times (length (table_of m.state r) + 1) r.reader m)

abbrev read_opened : ℕ → Line
read_opened reader m = unwrap_or (option_map (λ r. read_all r m) (reader_of m.state reader)) m

abbrev get : Key → List Field → Line
get key request m = read_opened m.state.next_reader (open_read key request m)

-- ---- sessions

abbrev formatted : Geometry → Session
formatted geometry = record { state = after_all nothing_yet (format_records geometry); said = [] }

abbrev run_on : Geometry → List Line → Session
run_on geometry lines = fold (λ m (line : Line). line m) (formatted geometry) lines

abbrev run : List Line → Session
run lines = run_on (geometry_of 64 (lit≤ tt) (lit≤ tt)) lines

abbrev told : List Line → List Said
told lines = reverse (run lines).said

abbrev a : Key
a = record { number = 1 }

abbrev b : Key
b = record { number = 2 }

abbrev other : Key
other = record { number = 3 }

abbrev put_a : ℕ → Line
put_a bytes = put a [] [] bytes

abbrev get_a : Line
get_a = get a []

-- seven fragments and a vector: a whole buffer
abbrev put_b : ℕ → Line
put_b bytes = put b [] [] bytes

abbrev fillers : ℕ → List Line
fillers n = replicate n (put_b 28)

abbrev stored_fillers : ℕ → ℕ → List Said
stored_fillers zero put = []
stored_fillers (suc n) put = Stored put 28 7 ∷ stored_fillers n (put + 1)

-- ---- one object after another

pub a_put_is_read_back : told (put_a 3 ∷ get_a ∷ [])
    ≡ Stored 1 3 1 ∷ Looked (read.Hit 1) ∷ Read (next.Gave 1 3) ∷ Read (next.Ended 3) ∷ []
a_put_is_read_back = refl

pub an_empty_body_ends_at_once : told (put_a 0 ∷ open_read a [] ∷ read_on 1 ∷ done 1 ∷ get_a ∷ [])
    ≡ Stored 1 0 0 ∷ Looked (read.Hit 1) ∷ Read (next.Ended 0) ∷ Looked (read.Hit 1) ∷ Read (next.Ended 0) ∷ []
an_empty_body_ends_at_once = refl

pub a_body_is_given_by_fragments : told (put_a 4 ∷ put_b 5 ∷ open_read b [] ∷ read_on 1 ∷ read_on 1 ∷ read_on 1 ∷ [])
    ≡ Stored 1 4 1 ∷ Stored 2 5 2 ∷ Looked (read.Hit 2) ∷ Read (next.Gave 1 4) ∷ Read (next.Gave 2 1) ∷ Read (next.Ended 5) ∷ []
a_body_is_given_by_fragments = refl

pub a_removal_is_the_cause : told (put_a 1 ∷ remove a ∷ get_a ∷ remove a ∷ remove other ∷ put_a 1 ∷ get_a ∷ [])
    ≡ Stored 1 1 1 ∷ Removed 1 ∷ Looked (read.Miss cause.Removed) ∷ Absent cause.Removed ∷ Absent cause.NeverPut
    ∷ Stored 2 1 1 ∷ Looked (read.Hit 2) ∷ Read (next.Gave 1 1) ∷ Read (next.Ended 1) ∷ []
a_removal_is_the_cause = refl

-- ---- places and floors

-- two laps later the phase is that of the vector's lap again
pub what_was_passed_two_laps_ago_is_missed : told (put_a 1 ∷ put_b 20 ∷ fillers 16 ++ get_a ∷ [])
    ≡ Stored 1 1 1 ∷ Stored 2 20 5 ∷ stored_fillers 16 3 ++ Looked (read.Miss (cause.Passed 65 136 false)) ∷ []
what_was_passed_two_laps_ago_is_missed = refl

pub the_last_buffer_then_begins_with_a_lap : (run (put_a 1 ∷ put_b 20 ∷ fillers 16)).state.cursor ≡ 192
the_last_buffer_then_begins_with_a_lap = refl

pub a_flush_at_the_lap_s_end_begins_the_next_lap : told (fillers 8 ++ flush ∷ []) ≡ stored_fillers 8 1 ++ Flushed 8 128 72 ∷ []
a_flush_at_the_lap_s_end_begins_the_next_lap = refl

pub the_cursor_stops_at_the_lap_s_end : told (fillers 7 ++ put other [] [] 0 ∷ flush ∷ flush ∷ [])
    ≡ stored_fillers 7 1 ++ Stored 8 0 0 ∷ Flushed 1 128 72 ∷ Flushed 0 128 72 ∷ []
the_cursor_stops_at_the_lap_s_end = refl

-- the flush for the vector's room comes before the fragments are looked at
pub a_fragment_that_was_passed_is_lost : told (open_write a ∷ cut_whole 1 4 ∷ put_b 24 ∷ fillers 8 ++ close 1 0 ∷ get_a ∷ [])
    ≡ Opened 1 ∷ Stored 2 24 6 ∷ stored_fillers 8 3 ++ Lost 1 (cause.Passed 64 80 false) ∷ Looked (read.Miss (cause.Aborted 1)) ∷ []
a_fragment_that_was_passed_is_lost = refl

pub a_vector_of_more_than_half_a_buffer_is_refused : told (put_a 212 ∷ put_a 208 ∷ [])
    ≡ TooLarge 1944 ∷ Stored 2 208 52 ∷ []
a_vector_of_more_than_half_a_buffer_is_refused = refl

-- ---- alternates

abbrev line : List ℕ → List ℕ → List Field
line name value = record { name = name; value = value } ∷ []

abbrev language : List ℕ → List Field
language value = line (codes "accept-language") value

abbrev varies : List ℕ → List Field
varies value = line (codes "vary") value

abbrev put_in : List ℕ → Line
put_in value = put a (language value) (varies (codes "Accept-Language")) 2

abbrev found : ℕ → ℕ → List Said
found put bytes = Looked (read.Hit put) ∷ Read (next.Gave 1 bytes) ∷ Read (next.Ended bytes) ∷ []

pub the_alternate_of_the_request_is_given : told (put_in (codes "de") ∷ put_in (codes "fr")
    ∷ get a (language (32 ∷ 100 ∷ 101 ∷ 9 ∷ [])) ∷ get a (language (codes "fr")) ∷ get_a
    ∷ put other [] (varies (codes "*")) 1 ∷ get other [] ∷ [])
    ≡ Stored 1 2 1 ∷ Stored 2 2 1 ∷ found 1 2 ++ found 2 2 ++ Looked (read.Miss (cause.NoMatch 2))
    ∷ Stored 3 1 1 ∷ Looked (read.Miss (cause.NoMatch 1)) ∷ []
unfolding is_token_byte
the_alternate_of_the_request_is_given = refl

abbrev x : ℕ → List Field
x i = line (codes "x") ((48 + i) ∷ [])

abbrev put_x : ℕ → Line
put_x i = put a (x i) (varies (codes "X")) 1

pub the_first_of_six_alternates_is_gone : told (put_x 1 ∷ put_x 2 ∷ put_x 3 ∷ put_x 4 ∷ put_x 5 ∷ put_x 6 ∷ get a (x 1) ∷ get a (x 2) ∷ [])
    ≡ Stored 1 1 1 ∷ Stored 2 1 1 ∷ Stored 3 1 1 ∷ Stored 4 1 1 ∷ Stored 5 1 1 ∷ Stored 6 1 1
    ∷ Looked (read.Miss (cause.NoMatch 5)) ∷ found 2 1
unfolding is_token_byte
the_first_of_six_alternates_is_gone = refl

-- ---- followers

pub a_reader_follows_a_writer : told (open_write a ∷ open_read a [] ∷ read_on 1 ∷ cut_whole 1 4 ∷ read_on 1 ∷ read_on 1
    ∷ close 1 1 ∷ read_on 1 ∷ read_on 1 ∷ [])
    ≡ Opened 1 ∷ Looked (read.Follow 1) ∷ Read (next.Waited 0) ∷ Read (next.Gave 1 4) ∷ Read (next.Waited 1)
    ∷ Stored 1 5 2 ∷ Read (next.Gave 2 1) ∷ Read (next.Ended 5) ∷ []
a_reader_follows_a_writer = refl

pub a_follower_is_broken_by_its_writer : told (put_a 5 ∷ open_write b ∷ open_read b [] ∷ cut_whole 2 4 ∷ read_on 1 ∷ abort 2 ∷ read_on 1 ∷ get b [] ∷ [])
    ≡ Stored 1 5 2 ∷ Opened 2 ∷ Looked (read.Follow 2) ∷ Read (next.Gave 1 4) ∷ GaveUp 2 ∷ Read (next.Broke (cause.Aborted 2))
    ∷ Looked (read.Miss (cause.Aborted 2)) ∷ []
a_follower_is_broken_by_its_writer = refl

-- ---- damage

abbrev damage : PieceId → Session → Row → Session
damage id m row = add m (rec.Damaged id row.place no_digest no_digest)

abbrev damage_vector : Key → ℕ → Line
damage_vector key put m = unwrap_or (option_map (damage (vector_piece key put) m) (live_row_of m.state (vector_piece key put))) m

pub a_damaged_vector_is_missed_and_not_merged : told (put_x 1 ∷ damage_vector a 1 ∷ get a (x 1) ∷ get a (x 1) ∷ put_x 2 ∷ get a (x 1) ∷ get a (x 2) ∷ [])
    ≡ Stored 1 1 1 ∷ Looked (read.Miss (cause.Damaged 65 no_digest no_digest)) ∷ Looked (read.Miss (cause.Damaged 65 no_digest no_digest))
    ∷ Stored 2 1 1 ∷ Looked (read.Miss (cause.NoMatch 1)) ∷ found 2 1
unfolding is_token_byte
a_damaged_vector_is_missed_and_not_merged = refl

-- ---- a directory that displaces: a segment of two buckets, with all its pieces in one

abbrev small_run : List Line → Session
small_run lines = run_on (geometry_of 2 (lit≤ tt) (lit≤ tt)) lines

-- the key whose last byte is this
abbrev key_of : ℕ → Key
key_of digit = record { number = digit * 2 ^ 120 }

abbrev put_empty : ℕ → Line
put_empty digit = put (key_of digit) [] [] 0

abbrev vector_of : ℕ → PieceId
vector_of digit = vector_piece (key_of digit) digit

abbrev six_puts : List Line
six_puts = put_empty 1 ∷ put_empty 2 ∷ put_empty 3 ∷ put_empty 4 ∷ put_empty 5 ∷ put_empty 6 ∷ []

pub the_seventh_of_a_segment_has_a_slot : is_full_for (small_run six_puts).state (vector_of 7) ≡ false
the_seventh_of_a_segment_has_a_slot = refl

abbrev seven_puts : List Line
seven_puts = six_puts ++ put_empty 7 ∷ []

pub the_eighth_of_a_segment_has_none : is_full_for (small_run seven_puts).state (vector_of 8) ≡ true
the_eighth_of_a_segment_has_none = refl

-- the piece is displaced for the put that ends
abbrev displace : PieceId → Line
displace id m = add m (rec.Displaced id 0 (length (rows_of_segment m.state 0)))

abbrev displace_and_finish : PieceId → PutRow → Line
displace_and_finish id w m = finish w (displace id m)

abbrev put_displacing : Key → List Field → List Field → PieceId → Line
put_displacing key request response id m = of_put m.state.next_put (displace_and_finish id) (open_put key request response m)

abbrev get_empty : ℕ → Line
get_empty digit = get (key_of digit) []

abbrev eight_puts : List Line
eight_puts = seven_puts ++ put_displacing (key_of 8) [] [] (vector_of 2) ∷ []

pub what_was_displaced_is_missed : (small_run (eight_puts ++ get_empty 2 ∷ get_empty 1 ∷ get_empty 8 ∷ [])).said
    ≡ Read (next.Ended 0) ∷ Looked (read.Hit 8) ∷ Read (next.Ended 0) ∷ Looked (read.Hit 1) ∷ Looked (read.Miss (cause.Displaced 0 7)) ∷ (small_run eight_puts).said
what_was_displaced_is_missed = refl

pub a_ninth_displaces_again : is_full_for (small_run eight_puts).state (vector_of 9) ≡ true
a_ninth_displaces_again = refl

pub what_the_ninth_displaced_is_missed : (small_run (eight_puts ++ put_displacing (key_of 9) [] [] (vector_of 8) ∷ get_empty 8 ∷ [])).said
    ≡ Looked (read.Miss (cause.Displaced 0 7)) ∷ Stored 9 0 0 ∷ (small_run eight_puts).said
what_the_ninth_displaced_is_missed = refl

abbrev put_first : ℕ → List Line → List Line
put_first i lines = put (key_of 1) (x i) (varies (codes "X")) 0 ∷ lines

abbrev six_others : List Line
six_others = put_empty 2 ∷ put_empty 3 ∷ put_empty 4 ∷ put_empty 5 ∷ put_empty 6 ∷ put_empty 7 ∷ []

-- a vector that its own successor displaces
pub what_the_insert_displaces_is_still_merged : (small_run (put_first 1 six_others
    ++ put_displacing (key_of 1) (x 2) (varies (codes "X")) (vector_of 1) ∷ get (key_of 1) (x 1) ∷ get (key_of 1) (x 2) ∷ get_empty 1 ∷ [])).said
    ≡ Looked (read.Miss (cause.NoMatch 2)) ∷ Read (next.Ended 0) ∷ Looked (read.Hit 8) ∷ Read (next.Ended 0) ∷ Looked (read.Hit 1) ∷ Stored 8 0 0
    ∷ (small_run (put_first 1 six_others)).said
unfolding is_token_byte
what_the_insert_displaces_is_still_merged = refl

pub keys_of_one_bucket_and_one_tag_are_told_apart : told (put (key_of 1) [] [] 1 ∷ put (key_of 2) [] [] 1 ∷ get_empty 1 ∷ get_empty 2 ∷ get_empty 3 ∷ [])
    ≡ Stored 1 1 1 ∷ Stored 2 1 1 ∷ found 1 1 ++ found 2 1 ++ Looked (read.Miss cause.NeverPut) ∷ []
keys_of_one_bucket_and_one_tag_are_told_apart = refl

-- ---- a vector that the flush for its successor's room passes

abbrev up_to_the_last_block : List Line
up_to_the_last_block = put_x 1 ∷ put_b 20 ∷ fillers 6 ++ put_b 24 ∷ []

pub the_last_block_of_the_lap_is_free : place_now (run up_to_the_last_block).state ≡ 127
unfolding is_token_byte
the_last_block_of_the_lap_is_free = refl

pub what_the_flush_passes_is_not_merged : told (up_to_the_last_block ++ put_x 2 ∷ get a (x 1) ∷ get a (x 2) ∷ [])
    ≡ Stored 1 1 1 ∷ Stored 2 20 5 ∷ stored_fillers 6 3 ++ Stored 9 24 6 ∷ Stored 10 1 1 ∷ Looked (read.Miss (cause.NoMatch 1)) ∷ found 10 1
unfolding is_token_byte
what_the_flush_passes_is_not_merged = refl

-- ---- a stored alternate comes first, then an open writer, then the cause

pub a_stored_alternate_comes_before_a_writer : told (put_x 1 ∷ open_write a ∷ open_read a (x 1) ∷ open_read a (x 2) ∷ abort 2 ∷ get a (x 2) ∷ read_on 2 ∷ [])
    ≡ Stored 1 1 1 ∷ Opened 2 ∷ Looked (read.Hit 1) ∷ Looked (read.Follow 2) ∷ GaveUp 2 ∷ Looked (read.Miss (cause.NoMatch 1)) ∷ Read (next.Broke (cause.Aborted 2)) ∷ []
unfolding is_token_byte
a_stored_alternate_comes_before_a_writer = refl

-- what was cut before is given first
pub an_aborted_put_is_given_as_far_as_it_was_cut : told (open_write a ∷ open_read a [] ∷ cut_whole 1 8 ∷ abort 1 ∷ read_on 1 ∷ read_on 1 ∷ read_on 1 ∷ [])
    ≡ Opened 1 ∷ Looked (read.Follow 1) ∷ GaveUp 1 ∷ Read (next.Gave 1 4) ∷ Read (next.Gave 2 4) ∷ Read (next.Broke (cause.Aborted 1)) ∷ []
an_aborted_put_is_given_as_far_as_it_was_cut = refl

-- a reader goes on with what it hit
pub a_later_put_does_not_change_what_a_reader_hit : told (put_a 8 ∷ open_read a [] ∷ read_on 1 ∷ put_a 1 ∷ remove a ∷ read_on 1 ∷ read_on 1 ∷ [])
    ≡ Stored 1 8 2 ∷ Looked (read.Hit 1) ∷ Read (next.Gave 1 4) ∷ Stored 2 1 1 ∷ Removed 2 ∷ Read (next.Gave 2 4) ∷ Read (next.Ended 8) ∷ []
a_later_put_does_not_change_what_a_reader_hit = refl

pub a_reader_is_broken_where_its_fragment_was_passed : told (put_a 8 ∷ open_read a [] ∷ read_on 1 ∷ put_b 16 ∷ fillers 9 ++ read_on 1 ∷ read_on 1 ∷ [])
    ≡ Stored 1 8 2 ∷ Looked (read.Hit 1) ∷ Read (next.Gave 1 4) ∷ Stored 2 16 4 ∷ stored_fillers 9 3
    ++ Read (next.Broke (cause.Passed 65 80 false)) ∷ Read (next.Broke (cause.Passed 65 80 false)) ∷ []
a_reader_is_broken_where_its_fragment_was_passed = refl

-- ---- a session that forgets at the end of each line

abbrev forgets : ℕ → Session → Session
forgets cap m = record m { state = forget cap m.state }

abbrev forgets_behind : ℕ → List Line → List Line
forgets_behind cap lines = map (λ (line : Line) m. forgets cap (line m)) lines

-- the first put is passed, and of the second one the first fragments alone
abbrev one_is_passed : List Line
one_is_passed = put_a 1 ∷ put_b 208 ∷ flush ∷ []

pub what_was_forgotten_is_unrecorded : told (forgets_behind 0 (one_is_passed ++ get_a ∷ open_read b [] ∷ []))
    ≡ Stored 1 1 1 ∷ Stored 2 208 52 ∷ Flushed 4 128 72 ∷ Looked (read.Miss (cause.Unrecorded 1)) ∷ Looked (read.Hit 2) ∷ []
what_was_forgotten_is_unrecorded = refl

pub what_is_kept_is_passed : told (forgets_behind 1 (one_is_passed ++ get_a ∷ []))
    ≡ Stored 1 1 1 ∷ Stored 2 208 52 ∷ Flushed 4 128 72 ∷ Looked (read.Miss (cause.Passed 65 72 false)) ∷ []
what_is_kept_is_passed = refl

abbrev two_laps : List Line
two_laps = put_a 1 ∷ put_b 20 ∷ fillers 16 ++ get_a ∷ get other [] ∷ []

pub ten_puts_are_forgotten : told (forgets_behind 0 two_laps)
    ≡ Stored 1 1 1 ∷ Stored 2 20 5 ∷ stored_fillers 16 3 ++ Looked (read.Miss (cause.Unrecorded 10)) ∷ Looked (read.Miss (cause.Unrecorded 10)) ∷ []
ten_puts_are_forgotten = refl

pub ten_puts_are_kept : told (forgets_behind 10 two_laps)
    ≡ Stored 1 1 1 ∷ Stored 2 20 5 ∷ stored_fillers 16 3 ++ Looked (read.Miss (cause.Passed 65 136 false)) ∷ Looked (read.Miss cause.NeverPut) ∷ []
ten_puts_are_kept = refl
