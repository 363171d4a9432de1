-- One place of the walk, and its ends.
use Rattle.std.proofs.Common.{◌≡◌, ℕ, ◌+◌, ◌<◌, ◌≤◌, true, false, List, [], ◌∷◌, ◌++◌, Option, Some, None, refl, sym, ap, ◌∙◌, arith, append_assoc, append-nil}
use Rattle.std.specs.Prelude.{Bool, ◌&&◌, ◌||◌, ◌==◌, nat_le, nat_lt, if◌then◌else◌, map, filter, option_and_then, option_map}
use Rattle.std.specs.Map.{lookup}
use Rattle.std.proofs.lemmas.Bool.{eqb-true}
use Rattle.std.proofs.lemmas.Bool.Decides.{nat_tests}
use Rattle.tape_base.specs.declared.pieces.PieceId.{PieceId}
use Rattle.evacuator.specs.declared.choosing.Candidate.{Candidate}
use Rattle.cache_model.specs.State.{State, Row, floor_next, floor_now, is_live, live_row_of, only_live, row_of}
use Rattle.cache_model.specs.Verdict.{if_at, if_still_at, piece_at}
use Rattle.cache_model.specs.Tape.{IsSound}
use Rattle.cache_model.specs.Due.{is_awaited, is_due, rows_from}
use Rattle.cache_model.proofs.Found.{none_is}
use Rattle.cache_model.proofs.Lists.{own_piece}
use Rattle.cache_model.proofs.Walks.{due_are_found, walk_finds, walk_goes_on}
use Rattle.cache_chronicle.specs.declared.pieces.KeptPiece.{KeptPiece}
use Rattle.cache_chronicle.specs.LivePieces.{kept_if_at, kept_live_at, kept_piece, kept_still_at}
use Rattle.cache_model.specs.Due.{candidate_of, due_candidates}
use Rattle.stripe_due.specs.Walk.{candidates_from, live_row_at, pinned}

-- behind the end there is nothing
none_between : (low high : ℕ) → high ≤ low → (rows : List Row) → filter (λ row. nat_le low row.place && nat_lt row.place high) rows ≡ []
none_between low high h [] = refl
none_between low high h (row ∷ rows) = let never : (nat_le low row.place && nat_lt row.place high) ≡ false = grind (arith, nat_tests) in rw never (none_between low high h rows)

none_from : (s : State) (low high : ℕ) → high ≤ low → rows_from s low high ≡ []
none_from s low high h = none_between low high h s.rows

-- ---- a live piece

live_is_by : (s : State) (x row : Row) (b : Bool) → (if b then Some x else None) ≡ Some row → x ≡ row
live_is_by s x row true h = cc
live_is_by s x row false h = cc

live_is : (s : State) (o : Option Row) (row : Row) → option_and_then (only_live s) o ≡ Some row → o ≡ Some row
live_is s None row h = cc
live_is s (Some x) row h = ap Some (live_is_by s x row (is_live s x) h)

live_is_own : (s : State) (id : PieceId) (row : Row) → live_row_of s id ≡ Some row → row.id ≡ id
live_is_own s id row live = own_piece id s.rows row (live_is s (row_of s id) row live)

-- a live piece that begins at the place
record Begins (s : State) (place : ℕ) (id : PieceId) : Type 0 where
  row : Row
  live : live_row_of s id ≡ Some row
  at : row.place ≡ place

begins_by : (s : State) (place : ℕ) (id other : PieceId) (row : Row) (b : Bool) → (row.place == place) ≡ b → live_row_of s other ≡ Some row
    → (if b then Some other else None) ≡ Some id → Begins s place id
begins_by s place id other row true e live h = let same : other ≡ id = cc in record { row = row; live = ap (live_row_of s) (sym same) ∙ live; at = eqb-true row.place place e }
begins_by s place id other row false e live h = cc

begins_where : (s : State) (place : ℕ) (id other : PieceId) (o : Option Row) → live_row_of s other ≡ o → option_and_then (if_at place other) o ≡ Some id → Begins s place id
begins_where s place id other None e h = cc
begins_where s place id other (Some row) e h = begins_by s place id other row (row.place == place) refl e h

begins : (s : State) (place : ℕ) (id : PieceId) (o : Option PieceId) → option_and_then (if_still_at s place) o ≡ Some id → Begins s place id
begins s place id None h = cc
begins s place id (Some other) h = begins_where s place id other (live_row_of s other) refl h

known_begins : (s : State) (place : ℕ) (id : PieceId) → piece_at s place ≡ Some id → Begins s place id
known_begins s place id h = begins s place id (lookup (λ p. p == place) s.places) h

-- a piece as the choice takes it, beside its pin, by what is kept of it
abbrev pub kept_pinned : ℕ → PieceId × KeptPiece → Candidate × ℕ
kept_pinned place piece = (record { id = piece.0; place = place; blocks = piece.1.blocks }, piece.1.pin)

-- its row is found by its name again
at_by : (s : State) (place : ℕ) (id : PieceId) (row : Row) (b : Bool) → live_row_of s id ≡ Some row → (row.place == place) ≡ b
    → option_map (kept_pinned place) (if b then Some (id, kept_piece row) else None) ≡ option_map pinned (option_and_then (live_row_of s) (if b then Some id else None))
at_by s place id row true e at = rw (e, sym (live_is_own s id row e), sym (eqb-true row.place place at)) refl
at_by s place id row false e at = refl

at_row : (s : State) (place : ℕ) (id : PieceId) (o : Option Row) → live_row_of s id ≡ o
    → option_map (kept_pinned place) (option_and_then (kept_if_at place id) o) ≡ option_map pinned (option_and_then (live_row_of s) (option_and_then (if_at place id) o))
at_row s place id None e = refl
at_row s place id (Some row) e = at_by s place id row (row.place == place) e refl

at_place : (s : State) (place : ℕ) (o : Option PieceId)
    → option_map (kept_pinned place) (option_and_then (kept_still_at s place) o) ≡ option_map pinned (option_and_then (live_row_of s) (option_and_then (if_still_at s place) o))
at_place s place None = refl
at_place s place (Some id) = at_row s place id (live_row_of s id) refl

-- the live piece that begins at a place, as it is asked for
pub pinned_at : (s : State) (place : ℕ) → option_map (kept_pinned place) (kept_live_at s place) ≡ option_map pinned (live_row_at s place)
pinned_at s place = at_place s place (lookup (λ p. p == place) s.places)

-- ---- one step

found_from : (s : State) (place next : ℕ) (o : Option PieceId) (row : Row) → IsSound s → floor_now s ≤ place → place < next → piece_at s place ≡ o
    → option_and_then (live_row_of s) o ≡ Some row → rows_from s place next ≡ row ∷ rows_from s (place + 1) next
found_from s place next None row sound live below e h = cc
found_from s place next (Some id) row sound live below e h = walk_finds s place next id row sound live below e h

-- with the piece where it is due, and with those behind it
with_first : (s : State) (now : ℕ) (items : List Candidate) (row : Row) (rows : List Row) (b : Bool) → is_due s now row ≡ b
    → (if b then items ++ candidate_of row ∷ [] else items) ++ map candidate_of (filter (is_due s now) rows) ≡ items ++ map candidate_of (filter (is_due s now) (row ∷ rows))
with_first s now items row rows true e = rw e (append_assoc items (candidate_of row ∷ []) (map candidate_of (filter (is_due s now) rows)))
with_first s now items row rows false e = rw e refl

-- where a piece begins
passes_piece : (s : State) (now place next : ℕ) (items : List Candidate) (row : Row) (b : Bool) → IsSound s → floor_now s ≤ place → place < next
    → live_row_at s place ≡ Some row → is_due s now row ≡ b
    → (if b then items ++ candidate_of row ∷ [] else items) ++ candidates_from s now (place + 1) next ≡ items ++ candidates_from s now place next
passes_piece s now place next items row b sound live below here e =
    let found = found_from s place next (piece_at s place) row sound live below refl here in
    with_first s now items row (rows_from s (place + 1) next) b e
    ∙ ap (λ rows. items ++ map candidate_of (filter (is_due s now) rows)) (sym found)

-- the same, for the piece as it was asked for
pub passes_found : (s : State) (now place next : ℕ) (items : List Candidate) (piece : Candidate) (pin : ℕ) (due : Bool) (o : Option Row)
    → IsSound s → floor_now s ≤ place → place < next → live_row_at s place ≡ o → Some (piece, pin) ≡ option_map pinned o → due ≡ (nat_lt now pin || is_awaited s piece.id)
    → (if due then items ++ piece ∷ [] else items) ++ candidates_from s now (place + 1) next ≡ items ++ candidates_from s now place next
passes_found s now place next items piece pin due None sound live below here f e = cc
passes_found s now place next items piece pin due (Some row) sound live below here f e =
    let pair : (piece, pin) ≡ pinned row = cc in
    let same : piece ≡ candidate_of row = ap (λ (p : Candidate × ℕ). p.0) pair in
    let pins : pin ≡ row.pin = ap (λ (p : Candidate × ℕ). p.1) pair in
    let test : is_due s now row ≡ due = sym (e ∙ (ap (λ n. nat_lt now n || is_awaited s piece.id) pins ∙ ap (λ (p : Candidate). nat_lt now row.pin || is_awaited s p.id) same)) in
    rw same (passes_piece s now place next items row due sound live below here test)

no_row : (o : Option Row) → None ≡ option_map pinned o → o ≡ None
no_row None h = refl
no_row (Some row) h = cc

none_at : (s : State) (place : ℕ) (o : Option PieceId) → piece_at s place ≡ o → option_and_then (live_row_of s) o ≡ None → o ≡ None
none_at s place None e h = refl
none_at s place (Some id) e h = none_is (sym h ∙ (known_begins s place id e).live)

-- where none begins
pub passes_none : (s : State) (now place next : ℕ) → IsSound s → floor_now s ≤ place → None ≡ option_map pinned (live_row_at s place)
    → candidates_from s now (place + 1) next ≡ candidates_from s now place next
passes_none s now place next sound live none =
    ap (λ rows. map candidate_of (filter (is_due s now) rows)) (sym (walk_goes_on s place next sound live (none_at s place (piece_at s place) refl (no_row (live_row_at s place) none))))

-- ---- the whole walk

pub from_floor : (s : State) (now : ℕ) → candidates_from s now (floor_now s) (floor_next s) ≡ due_candidates s now
from_floor s now = ap (λ rows. map candidate_of rows) (sym (due_are_found s now))

pub at_end : (s : State) (now low high : ℕ) (items : List Candidate) → high ≤ low → items ++ candidates_from s now low high ≡ items
at_end s now low high items h = ap (λ rows. items ++ map candidate_of (filter (is_due s now) rows)) (none_from s low high h) ∙ append-nil items
