-- What lookups and readers are answered.
use Rattle.std.proofs.Common.{◌≡◌, ℕ, ◌+◌, ◌<◌, ◌≤◌, List, [], ◌∷◌, ◌++◌, length, suc, refl, sym, ◌∙◌, ap, subst, arith, Bool, true, false, inl, inr}
use Rattle.std.specs.Prelude.{Option, Some, None, not, ◌==◌, if◌then◌else◌, option_map, option_and_then, unwrap_or, slice_get}
use Rattle.std.proofs.lemmas.Bool.{leb-true, le-leb}
use Rattle.tape_base.specs.declared.keys.Key.{Key}
use Rattle.tape_base.specs.declared.pieces.PieceId.{PieceId}
use Rattle.tape_base.specs.declared.geometries.Geometry.{Geometry}
use Rattle.tape_base.specs.declared.digests.Digest.{Digest}
use Rattle.tape_base.specs.Piece.{same_piece}
use Rattle.tape_base.proofs.NameLaws.{same_key-same, same_piece-same, same_piece-true}
use Rattle.fragment_table.specs.Table.{TableRow, total_length}
use Rattle.alternate_vector.specs.Field.{Field}
use Rattle.alternate_vector.specs.Alternates.{Stored, chosen, is_match, is_within, longest_within, or_first, vector_size}
use Rattle.cache_model.specs.declared.cause.Cause.TheVariants as cause
use Rattle.cache_model.specs.declared.answer.ReadAnswer.TheVariants as read
use Rattle.cache_model.specs.declared.answer.NextAnswer.TheVariants as next
use Rattle.cache_model.specs.declared.record.Rec.TheVariants as rec
use Rattle.cache_model.specs.State
use Rattle.cache_model.specs.State.{State, Row, PutRow, ReaderRow, LastVector, Complete, TakenOut, Writing, Open, Closed, GivenUp, after_all, alternate_of, alternates_of, floor_now, formatted, fragment_piece, is_live, last_match, last_vector, live_row_of, merged_list, most_payload, placed_row, put_of, row_in, row_of, vector_piece, without, without_earlier}
use Rattle.cache_model.specs.Verdict
use Rattle.cache_model.specs.Verdict.{cause_of_loss, followed, hit, lookup_verdict, next_row, reader_verdict}
use Rattle.cache_model.specs.Permit.{IsAmong}
use Rattle.cache_model.proofs.Found.{end_gives_none}
use Rattle.cache_model.proofs.Lists.{row_in-without, row_in-placed}
use Rattle.step_laws.proofs.Places.{passed_is_not_live}

-- ---- the choice

chosen_by : (request : List Field) (a : Stored) (alternates : List Stored) (o : Option ℕ) (b : Bool) (found : Stored) → chosen request alternates ≡ o → is_match request a ≡ b
    → (last_match request alternates ≡ Some found → IsAmong found alternates × (is_match request found ≡ true))
    → option_and_then (slice_get (a ∷ alternates)) (or_first o b) ≡ Some found → IsAmong found (a ∷ alternates) × (is_match request found ≡ true)
chosen_by request a alternates (Some i) b found e f rest h =
    let k : i + 1 ≡ suc i = omega arith in
    let there : slice_get alternates i ≡ Some found = subst (λ n. slice_get (a ∷ alternates) n ≡ Some found) k h in
    let r : IsAmong found alternates × (is_match request found ≡ true) = rest (rw e there) in (inr r.0, r.1)
chosen_by request a alternates None true found e f rest h = let same : found ≡ a = cc in (inl same, ap (is_match request) same ∙ f)
chosen_by request a alternates None false found e f rest h = cc

match_is_chosen : (request : List Field) (alternates : List Stored) (found : Stored) → last_match request alternates ≡ Some found → IsAmong found alternates × (is_match request found ≡ true)
match_is_chosen request [] found h = cc
match_is_chosen request (a ∷ alternates) found h = chosen_by request a alternates (chosen request alternates) (is_match request a) found refl refl (match_is_chosen request alternates found) h

pub hit_matches : (s : State) (key : Key) (request : List Field) (a : Stored) → hit s key request ≡ Some a → IsAmong a (alternates_of s key) × (is_match request a ≡ true)
hit_matches s key request a h = match_is_chosen request (alternates_of s key) a h

last_is_chosen : (request : List Field) (before : List Stored) (a : Stored) → is_match request a ≡ true → chosen request (before ++ a ∷ []) ≡ Some (length before)
last_is_chosen request [] a h = rw h refl
last_is_chosen request (x ∷ before) a h = rw (last_is_chosen request before a h) (let k : length before + 1 ≡ length (x ∷ before) = omega arith in ap Some k)

get_last : (before : List Stored) (a : Stored) → slice_get (before ++ a ∷ []) (length before) ≡ Some a
get_last [] a = refl
get_last (x ∷ before) a = get_last before a

last_matches : (request : List Field) (before : List Stored) (a : Stored) → is_match request a ≡ true → last_match request (before ++ a ∷ []) ≡ Some a
last_matches request before a h = rw (last_is_chosen request before a h) (get_last before a)

-- ---- the merge ends with the new alternate

longest_by : (most bytes : ℕ) (x : Stored) (all : List Stored) (a : Stored) (b : Bool) → (before : List Stored) × (x ∷ all ≡ before ++ a ∷ [])
    → (before : List Stored) × (longest_within most bytes all ≡ before ++ a ∷ []) → (before : List Stored) × ((if b then x ∷ all else longest_within most bytes all) ≡ before ++ a ∷ [])
longest_by most bytes x all a true whole rest = whole
longest_by most bytes x all a false whole rest = rest

longest_ends : (most bytes : ℕ) (before : List Stored) (a : Stored) → 1 ≤ most → vector_size (a ∷ []) ≤ bytes → (kept : List Stored) × (longest_within most bytes (before ++ a ∷ []) ≡ kept ++ a ∷ [])
longest_ends most bytes [] a some fits = ([], rw (le-leb (length (a ∷ [])) most some, le-leb (vector_size (a ∷ [])) bytes fits) refl)
longest_ends most bytes (x ∷ before) a some fits = longest_by most bytes x (before ++ a ∷ []) a (is_within most bytes (x ∷ before ++ a ∷ [])) (x ∷ before, refl) (longest_ends most bytes before a some fits)

-- ---- a put that is complete

old_is_other : (key : Key) (old put : ℕ) (b : Bool) → (old == put) ≡ false → same_piece (vector_piece key old) (vector_piece key put) ≡ b → b ≡ false
old_is_other key old put false n e = refl
old_is_other key old put true n e =
    let same : old ≡ put = ap (λ (id : PieceId). id.put) (same_piece-true (vector_piece key old) (vector_piece key put) e) in
    sym (sym n ∙ Rattle.std.proofs.lemmas.Bool.eq-eqb old put same)

kept_by : (key : Key) (old put : ℕ) (rows : List Row) (b : Bool) → (old == put) ≡ b
    → row_in (if b then rows else without (vector_piece key old) rows) (vector_piece key put) ≡ row_in rows (vector_piece key put)
kept_by key old put rows true e = refl
kept_by key old put rows false e =
    row_in-without (vector_piece key old) (vector_piece key put) rows
    ∙ rw (old_is_other key old put (same_piece (vector_piece key old) (vector_piece key put)) e refl) refl

-- the vector of the put itself stays
own_stays : (key : Key) (put : ℕ) (last : Option LastVector) (rows : List Row) → row_in (without_earlier key put last rows) (vector_piece key put) ≡ row_in rows (vector_piece key put)
own_stays key put (Some (Complete old)) rows = kept_by key old put rows (old == put) refl
own_stays key put (Some (TakenOut old)) rows = refl
own_stays key put None rows = refl

module _ (s : State) (w : PutRow) (place blocks pin n : ℕ) (digest : Digest) (told : List Stored) (found : put_of s w.put ≡ Some w) (live : floor_now s ≤ place) where
  abbrev there : Row
  there = placed_row s (vector_piece w.key w.put) place blocks digest pin

  abbrev complete : State
  complete = after_all s (rec.Placed (vector_piece w.key w.put) place blocks digest pin ∷ rec.Committed w.put w.key n told ∷ [])

  row_is : row_in complete.rows (vector_piece w.key w.put) ≡ Some there
  row_is =
      own_stays w.key w.put (last_vector s w.key) (without (vector_piece w.key w.put) s.rows ++ there ∷ [])
      ∙ (row_in-placed (vector_piece w.key w.put) s.rows there ∙ rw (same_piece-same (vector_piece w.key w.put)) refl)

  list_is : alternates_of complete w.key ≡ merged_list s w
  list_is = rw (same_key-same w.key, row_is, le-leb (floor_now s) place live, found) refl

pub complete_is_hit : (s : State) (w : PutRow) (place blocks pin n : ℕ) (digest : Digest) (told : List Stored) (request : List Field)
    → put_of s w.put ≡ Some w → is_match request (alternate_of w) ≡ true → vector_size (alternate_of w ∷ []) ≤ most_payload s.geometry → floor_now s ≤ place
    → lookup_verdict (after_all s (rec.Placed (vector_piece w.key w.put) place blocks digest pin ∷ rec.Committed w.put w.key n told ∷ [])) w.key request ≡ read.Hit w.put
complete_is_hit s w place blocks pin n digest told request found fits small live =
    let before : List Stored = Rattle.std.specs.List.filter (λ a. not (is_match w.request a)) (State.list_among s (s.displaced ++ s.rows) w.key) in
    let ends : (kept : List Stored) × (merged_list s w ≡ kept ++ alternate_of w ∷ []) = longest_ends s.geometry.alternates (most_payload s.geometry) before (alternate_of w) s.geometry.keeps.some small in
    let list : alternates_of (complete s w place blocks pin n digest told found live) w.key ≡ ends.0 ++ alternate_of w ∷ [] = list_is s w place blocks pin n digest told found live ∙ ends.1 in
    let hits : hit (complete s w place blocks pin n digest told found live) w.key request ≡ Some (alternate_of w) = ap (last_match request) list ∙ last_matches request ends.0 (alternate_of w) fits in
    rw hits refl

-- ---- misses

pub removed_is_missed : (s : State) (key : Key) (put : ℕ) (request : List Field) → last_vector s key ≡ Some (TakenOut put) → followed s key request ≡ None
    → lookup_verdict s key request ≡ read.Miss cause.Removed
removed_is_missed s key put request h f = rw (h, f) refl

not_listed : (s : State) (row : Row) (b : Bool) → is_live s row ≡ b → row.place < floor_now s → State.list_of_row s row ≡ []
not_listed s row false e h = rw e refl
not_listed s row true e h = let above : floor_now s ≤ row.place = leb-true (floor_now s) row.place e in absurd (omega arith)

pub passed_is_missed : (s : State) (key : Key) (put : ℕ) (row : Row) (request : List Field) → last_vector s key ≡ Some (Complete put)
    → row_of s (vector_piece key put) ≡ Some row → row.place < floor_now s → cause_of_loss s (vector_piece key put) ≡ None → followed s key request ≡ None
    → lookup_verdict s key request ≡ read.Miss (cause.Passed row.place (floor_now s) (Verdict.is_unsaved s row.place))
passed_is_missed s key put row request last there below lost f =
    let gone : live_row_of s (vector_piece key put) ≡ None = passed_is_not_live s (vector_piece key put) row there below in
    let none : alternates_of s key ≡ [] = rw (last, there) (not_listed s row (is_live s row) refl below) in
    let misses : hit s key request ≡ None = ap (last_match request) none in
    rw (misses, f, last, gone, lost, there) refl

pub formatted_is_empty : (geometry : Geometry) (key : Key) (request : List Field) → lookup_verdict (formatted geometry) key request ≡ read.Miss cause.NeverPut
formatted_is_empty geometry key request = refl

-- ---- readers

given_by : (s : State) (r : ReaderRow) (entry : TableRow) (o : Option Row) (index n : ℕ)
    → unwrap_or (option_map (λ (live : Row). next.Gave r.next entry.length) o) (next.Broke (Verdict.cause_of_piece s (Verdict.next_piece r))) ≡ next.Gave index n
    → (index ≡ r.next) × ((row : Row) × (o ≡ Some row))
given_by s r entry (Some row) index n h = (cc, (row, refl))
given_by s r entry None index n h = cc

pub given_in : (s : State) (r : ReaderRow) (o : Option TableRow) (index n : ℕ) → unwrap_or (option_map (Verdict.verdict_of_fragment s r) o) (Verdict.verdict_at_end s r r.table) ≡ next.Gave index n
    → (index ≡ r.next) × ((row : Row) × (live_row_of s (Verdict.next_piece r) ≡ Some row))
given_in s r (Some entry) index n h = given_by s r entry (live_row_of s (Verdict.next_piece r)) index n h
given_in s r None index n h = absurd (end_gives_none s r r.table index n h)

pub given_is_own : (s : State) (r : ReaderRow) (index n : ℕ) → reader_verdict s r ≡ next.Gave index n
    → (index ≡ r.next) × ((row : Row) × (live_row_of s (fragment_piece r.key r.put index) ≡ Some row))
given_is_own s r index n h =
    let g : (index ≡ r.next) × ((row : Row) × (live_row_of s (Verdict.next_piece r) ≡ Some row)) = given_in s r (next_row s r) index n h in
    (g.0, (g.1.0, ap (λ i. live_row_of s (fragment_piece r.key r.put i)) g.0 ∙ g.1.1))

fragment_ends_none : (s : State) (r : ReaderRow) (entry : TableRow) (o : Option Row) (n : ℕ)
    → unwrap_or (option_map (λ (live : Row). next.Gave r.next entry.length) o) (next.Broke (Verdict.cause_of_piece s (Verdict.next_piece r))) ≡ next.Ended n → ⊥
fragment_ends_none s r entry (Some row) n h = cc
fragment_ends_none s r entry None n h = cc

ended_in : (s : State) (r : ReaderRow) (o : Option TableRow) (n : ℕ) → unwrap_or (option_map (Verdict.verdict_of_fragment s r) o) (Verdict.verdict_at_end s r r.table) ≡ next.Ended n
    → (o ≡ None) × (Verdict.verdict_at_end s r r.table ≡ next.Ended n)
ended_in s r (Some entry) n h = absurd (fragment_ends_none s r entry (live_row_of s (Verdict.next_piece r)) n h)
ended_in s r None n h = (refl, h)

pub end_is_whole : (s : State) (r : ReaderRow) (n : ℕ) → reader_verdict s r ≡ next.Ended n → next_row s r ≡ None
end_is_whole s r n h = (ended_in s r (next_row s r) n h).0

closed_by : (p : PutRow) (w : Writing) (n : ℕ) → Verdict.verdict_of_writing p w ≡ next.Ended n → (w ≡ Closed) × (n ≡ total_length p.cuts)
closed_by p Open n h = cc
closed_by p Closed n h = (refl, cc)
closed_by p GivenUp n h = cc

closed_in : (o : Option PutRow) (n : ℕ) → Verdict.verdict_of_followed o ≡ next.Ended n → (w : PutRow) × ((o ≡ Some w) × (w.writing ≡ Closed) × (n ≡ total_length w.cuts))
closed_in None n h = cc
closed_in (Some p) n h = let c = closed_by p p.writing n h in (p, (refl, c.0, c.1))

pub followed_is_closed : (s : State) (r : ReaderRow) (n : ℕ) → r.table ≡ None → reader_verdict s r ≡ next.Ended n
    → (w : PutRow) × ((put_of s r.put ≡ Some w) × (w.writing ≡ Closed) × (n ≡ total_length w.cuts))
followed_is_closed s r n none h =
    closed_in (put_of s r.put) n (subst (λ t. Verdict.verdict_at_end s r t ≡ next.Ended n) none (ended_in s r (next_row s r) n h).1)

fragment_waits_none : (s : State) (r : ReaderRow) (entry : TableRow) (o : Option Row) (n : ℕ)
    → unwrap_or (option_map (λ (live : Row). next.Gave r.next entry.length) o) (next.Broke (Verdict.cause_of_piece s (Verdict.next_piece r))) ≡ next.Waited n → ⊥
fragment_waits_none s r entry (Some row) n h = cc
fragment_waits_none s r entry None n h = cc

open_by : (p : PutRow) (w : Writing) (n : ℕ) → Verdict.verdict_of_writing p w ≡ next.Waited n → (w ≡ Open) × (n ≡ length p.cuts)
open_by p Open n h = (refl, cc)
open_by p Closed n h = cc
open_by p GivenUp n h = cc

waits_at_end : (s : State) (r : ReaderRow) (w : PutRow) (t : Option (List TableRow)) (n : ℕ) → put_of s r.put ≡ Some w → Verdict.verdict_at_end s r t ≡ next.Waited n
    → (w.writing ≡ Open) × (n ≡ length w.cuts)
waits_at_end s r w (Some table) n found h = cc
waits_at_end s r w None n found h = open_by w w.writing n (subst (λ o. Verdict.verdict_of_followed o ≡ next.Waited n) found h)

waits_in : (s : State) (r : ReaderRow) (w : PutRow) (o : Option TableRow) (n : ℕ) → put_of s r.put ≡ Some w
    → unwrap_or (option_map (Verdict.verdict_of_fragment s r) o) (Verdict.verdict_at_end s r r.table) ≡ next.Waited n → (w.writing ≡ Open) × (n ≡ length w.cuts)
waits_in s r w (Some entry) n found h = absurd (fragment_waits_none s r entry (live_row_of s (Verdict.next_piece r)) n h)
waits_in s r w None n found h = waits_at_end s r w r.table n found h

pub waits_for_open : (s : State) (r : ReaderRow) (w : PutRow) (n : ℕ) → put_of s r.put ≡ Some w → reader_verdict s r ≡ next.Waited n
    → (w.writing ≡ Open) × (n ≡ length w.cuts)
waits_for_open s r w n found h = waits_in s r w (next_row s r) n found h
