-- What is due is found by a walk from place to place.
use Rattle.std.proofs.Common.{◌≡◌, ℕ, ◌+◌, ◌<◌, ◌≤◌, List, [], ◌∷◌, refl, sym, ◌∙◌, ap, subst, arith, Bool, true, false, cond, inl, inr}
use Rattle.std.specs.Prelude.{◌&&◌, ◌==◌, nat_le, nat_lt, filter, Option, Some, None, if◌then◌else◌, option_and_then}
use Rattle.std.specs.List.{AllByRecursion}
use Rattle.std.specs.Map.{lookup}
use Rattle.std.proofs.lemmas.Bool.{leb-true, le-leb, lt-leb, lt-ltb, leb-false, eqb-true}
use Rattle.tape_base.specs.declared.pieces.PieceId.{PieceId}
use Rattle.tape_base.specs.Piece.{same_piece}
use Rattle.tape_base.proofs.NameLaws.{same_piece-same}
use Rattle.cache_model.specs.State.{State, Row, floor_next, floor_now, is_live, live_row_of, only_live, place_now, row_in}
use Rattle.cache_model.specs.Verdict.{if_at, if_still_at, piece_at}
use Rattle.cache_model.specs.Permit.{IsAmong}
use Rattle.cache_model.specs.Tape.{AreApart, AreRising, IsSound, NotAmong}
use Rattle.cache_model.proofs.Known.{live_is_known}
use Rattle.cache_model.specs.Due.{due_pieces, is_due, rows_from}

-- ---- one test behind the other

split_by : (live low due : Row → Bool) (row : Row) (rows : List Row) (a b : Bool) → low row ≡ b
    → filter (λ r. low r && due r) (filter live rows) ≡ filter due (filter (λ r. live r && low r) rows)
    → filter (λ r. low r && due r) (cond a (row ∷ filter live rows) (filter live rows)) ≡ filter due (cond (a && b) (row ∷ filter (λ r. live r && low r) rows) (filter (λ r. live r && low r) rows))
split_by live low due row rows false b e k = k
split_by live low due row rows true true e k = rw e (ap (λ xs. cond (due row) (row ∷ xs) xs) k)
split_by live low due row rows true false e k = rw e k

tests_split : (live low due : Row → Bool) (rows : List Row) → filter (λ r. low r && due r) (filter live rows) ≡ filter due (filter (λ r. live r && low r) rows)
tests_split live low due [] = refl
tests_split live low due (row ∷ rows) = split_by live low due row rows (live row) (low row) refl (tests_split live low due rows)

pub due_are_found : (s : State) (now : ℕ) → due_pieces s now ≡ filter (is_due s now) (rows_from s (floor_now s) (floor_next s))
due_are_found s now = tests_split (is_live s) (λ row. nat_lt row.place (floor_next s)) (is_due s now) s.rows

-- ---- the rows of a list

pub all_among : (P : Row → Type 0) (rows : List Row) → ((row : Row) → IsAmong row rows → P row) → AllByRecursion P rows
all_among P [] f = tt
all_among P (x ∷ rows) f = (f x (inl refl), all_among P rows (λ row h. f row (inr h)))

-- a piece that is not among rows is that of none of them
pub differs : (id : PieceId) (rows : List Row) (row : Row) → NotAmong id rows → IsAmong row rows → same_piece id row.id ≡ false
differs id [] row h k = absurd k
differs id (x ∷ rows) row h k = elim k [ inl e ↦ ap (λ (r : Row). same_piece id r.id) e ∙ h.0 | inr m ↦ differs id rows row h.1 m ]

-- each row of pieces that differ is the one that is found
pub among_found : (rows : List Row) (row : Row) → AreApart rows → IsAmong row rows → row_in rows row.id ≡ Some row
among_found [] row h k = absurd k
among_found (x ∷ rows) row h k = elim k [
  | inl e ↦ rw (sym e, same_piece-same row.id) refl
  | inr m ↦ rw (differs x.id rows row h.0 m) (among_found rows row h.1 m)
]

found_by : (first row : Row) (rows : List Row) (other : Option Row) (b : Bool) → (other ≡ Some row → IsAmong row rows) → (if b then Some first else other) ≡ Some row → IsAmong row (first ∷ rows)
found_by first row rows other true rest h = let same : first ≡ row = cc in inl (sym same)
found_by first row rows other false rest h = inr (rest h)

found_among : (id : PieceId) (rows : List Row) (row : Row) → row_in rows id ≡ Some row → IsAmong row rows
found_among id [] row h = cc
found_among id (x ∷ rows) row h = found_by x row rows (row_in rows id) (same_piece x.id id) (found_among id rows row) h

-- ---- where no piece begins

pub live_found : (s : State) (row : Row) → IsSound s → floor_now s ≤ row.place → IsAmong row s.rows → live_row_of s row.id ≡ Some row
live_found s row h live m = rw (among_found s.rows row h.apart m, le-leb (floor_now s) row.place live) refl

none_begins : (s : State) (place : ℕ) (row : Row) → IsSound s → floor_now s ≤ place → piece_at s place ≡ None → IsAmong row s.rows → row.place ≡ place → ⊥
none_begins s place row h live none m e =
    let here : piece_at s row.place ≡ Some row.id = live_is_known s row.id row h (live_found s row h (omega arith) m) in
    let there : None ≡ Some row.id = sym (ap (piece_at s) e ∙ none) ∙ here in
    cc

next_by : (place at : ℕ) → (at ≡ place → ⊥) → (a b : Bool) → nat_le place at ≡ a → nat_le (place + 1) at ≡ b → a ≡ b
next_by place at n true true e f = refl
next_by place at n false false e f = refl
next_by place at n true false e f =
    let low : place ≤ at = leb-true place at e in
    let high : at < place + 1 = leb-false (place + 1) at f in
    absurd (n (omega arith))
next_by place at n false true e f =
    let low : at < place = leb-false place at e in
    let high : place + 1 ≤ at = leb-true (place + 1) at f in
    absurd (omega arith)

goes_on : (place high : ℕ) (rows : List Row) → AllByRecursion (λ (row : Row). row.place ≡ place → ⊥) rows
    → filter (λ row. nat_le place row.place && nat_lt row.place high) rows ≡ filter (λ row. nat_le (place + 1) row.place && nat_lt row.place high) rows
goes_on place high [] h = refl
goes_on place high (row ∷ rows) h =
    ap (λ b. cond (b && nat_lt row.place high) (row ∷ filter (λ r. nat_le place r.place && nat_lt r.place high) rows) (filter (λ r. nat_le place r.place && nat_lt r.place high) rows))
    (next_by place row.place h.0 (nat_le place row.place) (nat_le (place + 1) row.place) refl refl)
    ∙ ap (λ xs. cond (nat_le (place + 1) row.place && nat_lt row.place high) (row ∷ xs) xs) (goes_on place high rows h.1)

pub walk_goes_on : (s : State) (place high : ℕ) → IsSound s → floor_now s ≤ place → piece_at s place ≡ None
    → rows_from s place high ≡ rows_from s (place + 1) high
walk_goes_on s place high h live none = goes_on place high s.rows (all_among _ s.rows (λ row m. none_begins s place row h live none m))

-- ---- where a piece begins

abbrev Within : ℕ → ℕ → Row → Bool
Within low high row = nat_le low row.place && nat_lt row.place high

-- behind both places it is all the same from which one on
all_above : (a b high mid : ℕ) (rows : List Row) (end : ℕ) → a ≤ mid → b ≤ mid → AreRising mid rows end → filter (Within a high) rows ≡ filter (Within b high) rows
all_above a b high mid [] end h k r = refl
all_above a b high mid (row ∷ rows) end h k r =
    let low : mid ≤ row.place = r.0 in
    rw (le-leb a row.place (omega arith), le-leb b row.place (omega arith))
    (ap (λ xs. cond (nat_lt row.place high) (row ∷ xs) xs) (all_above a b high (row.place + 1) rows end (omega arith) (omega arith) r.3))

-- a row of the list stands from the low place on
from_low : (low : ℕ) (rows : List Row) (end : ℕ) (row : Row) → AreRising low rows end → IsAmong row rows → low ≤ row.place
from_low low [] end row r m = absurd m
from_low low (x ∷ rows) end row r m = elim m [
  | inl e ↦ ap-le x row e r.0
  | inr k ↦ let behind : x.place + 1 ≤ row.place = from_low (x.place + 1) rows end row r.3 k in let first : low ≤ x.place = r.0 in omega arith
]
  where
    ap-le : (x row : Row) → row ≡ x → low ≤ x.place → low ≤ row.place
    ap-le x row e h = subst (λ (r : Row). low ≤ r.place) (sym e) h

begins_first : (high low : ℕ) (row : Row) (rows : List Row) (end : ℕ) → row.place < high → AreRising low (row ∷ rows) end
    → filter (Within row.place high) (row ∷ rows) ≡ row ∷ filter (Within (row.place + 1) high) (row ∷ rows)
begins_first high low row rows end h r =
    rw (le-leb row.place row.place (omega arith), lt-ltb row.place high h, lt-leb (row.place + 1) row.place (omega arith))
    (ap (λ xs. row ∷ xs) (all_above row.place (row.place + 1) high (row.place + 1) rows end (omega arith) (omega arith) r.3))

begins : (high low : ℕ) (row : Row) (rows : List Row) (end : ℕ) → row.place < high → AreRising low rows end → IsAmong row rows
    → filter (Within row.place high) rows ≡ row ∷ filter (Within (row.place + 1) high) rows
begins high low row [] end h r m = absurd m
begins high low row (x ∷ rows) end h r m = elim m [
  | inl e ↦ subst (λ (y : Row). filter (Within row.place high) (y ∷ rows) ≡ row ∷ filter (Within (row.place + 1) high) (y ∷ rows)) e
      (begins_first high low row rows end h (subst (λ (y : Row). AreRising low (y ∷ rows) end) (sym e) r))
  | inr k ↦
      let behind : x.place + 1 ≤ row.place = from_low (x.place + 1) rows end row r.3 k in
      rw (lt-leb row.place x.place (omega arith), lt-leb (row.place + 1) x.place (omega arith)) (begins high (x.place + 1) row rows end h r.3 k)
]

stood_by : (s : State) (other row : Row) (b : Bool) → (if b then Some other else None) ≡ Some row → other ≡ row
stood_by s other row true h = cc
stood_by s other row false h = cc

stood : (s : State) (o : Option Row) (row : Row) → option_and_then (only_live s) o ≡ Some row → o ≡ Some row
stood s None row h = cc
stood s (Some other) row h = ap Some (stood_by s other row (is_live s other) h)

at_by : (place : ℕ) (id other : PieceId) (row : Row) (b : Bool) → (row.place == place) ≡ b → (if b then Some other else None) ≡ Some id → (other ≡ id) × (row.place ≡ place)
at_by place id other row true e h = (cc, eqb-true row.place place e)
at_by place id other row false e h = cc

-- the piece that is found at a place stands there
at_place : (place : ℕ) (id other : PieceId) (o : Option Row) → option_and_then (if_at place other) o ≡ Some id → (other ≡ id) × ((row : Row) → o ≡ Some row → row.place ≡ place)
at_place place id other None h = cc
at_place place id other (Some x) h =
    let at : (other ≡ id) × (x.place ≡ place) = at_by place id other x (x.place == place) refl h in
    (at.0, λ row e. let same : x ≡ row = cc in ap (λ (r : Row). r.place) (sym same) ∙ at.1)

stands_there : (s : State) (place : ℕ) (id : PieceId) (row : Row) (o : Option PieceId) → option_and_then (if_still_at s place) o ≡ Some id → live_row_of s id ≡ Some row → row.place ≡ place
stands_there s place id row None h live = cc
stands_there s place id row (Some other) h live =
    let at = at_place place id other (live_row_of s other) h in
    at.1 row (ap (live_row_of s) at.0 ∙ live)

pub walk_finds : (s : State) (place high : ℕ) (id : PieceId) (row : Row) → IsSound s → floor_now s ≤ place → place < high
    → piece_at s place ≡ Some id → live_row_of s id ≡ Some row → rows_from s place high ≡ row ∷ rows_from s (place + 1) high
walk_finds s place high id row h from below found live =
    let at : row.place ≡ place = stands_there s place id row (lookup (λ p. p == place) s.places) found live in
    let m : IsAmong row s.rows = found_among id s.rows row (stood s (row_in s.rows id) row live) in
    subst (λ n. rows_from s n high ≡ row ∷ rows_from s (n + 1) high) at
    (begins high s.geometry.content row s.rows (place_now s) (omega arith) h.rising m)
