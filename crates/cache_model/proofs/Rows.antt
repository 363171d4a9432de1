-- Lists of rows in rising place, of pieces that differ.
use Rattle.std.proofs.Common.{◌≡◌, ℕ, ◌+◌, ◌<◌, ◌≤◌, List, [], ◌∷◌, ◌++◌, refl, arith, Bool, true, false, cond}
use Rattle.std.specs.Prelude.{not, Some, ◌==◌}
use Rattle.std.specs.List.{AllByRecursion, filter}
use Rattle.std.specs.Map.{lookup}
use Rattle.tape_base.specs.declared.pieces.PieceId.{PieceId}
use Rattle.tape_base.specs.Piece.{same_piece}
use Rattle.cache_model.specs.State.{Row, without}
use Rattle.cache_model.specs.Tape.{AreRising, AreApart, AreKnown, NotAmong}

-- rows of a list, in their order
pub data ArePart : List Row → List Row → Type 0 where
  done : ArePart [] []
  keep : {row : Row} {some all : List Row} → ArePart some all → ArePart (row ∷ some) (row ∷ all)
  skip : {row : Row} {some all : List Row} → ArePart some all → ArePart some (row ∷ all)

pub rising-low : (low low' : ℕ) (rows : List Row) (high : ℕ) → low' ≤ low → AreRising low rows high → AreRising low' rows high
rising-low low low' [] high h k = omega arith
rising-low low low' (row ∷ rows) high h k = (omega arith, k.1, k.2, k.3)

pub rising-high : (low : ℕ) (rows : List Row) (high high' : ℕ) → high ≤ high' → AreRising low rows high → AreRising low rows high'
rising-high low [] high high' h k = omega arith
rising-high low (row ∷ rows) high high' h k = (k.0, k.1, omega arith, rising-high (row.place + 1) rows high high' h k.3)

pub rising-part : (low : ℕ) {some all : List Row} (high : ℕ) → ArePart some all → AreRising low all high → AreRising low some high
rising-part low high done k = k
rising-part low high (keep {row = row} p) k = (k.0, k.1, k.2, rising-part (row.place + 1) high p k.3)
rising-part low high (skip {row = row} {some = some} p) k = rising-low (row.place + 1) low some high (omega arith) (rising-part (row.place + 1) high p k.3)

pub rising-append : (low : ℕ) (rows : List Row) (mid : ℕ) (row : Row) (high : ℕ) → mid ≤ row.place → 0 < row.blocks → row.place + row.blocks ≤ high
    → AreRising low rows mid → AreRising low (rows ++ row ∷ []) high
rising-append low [] mid row high h b k r = (omega arith, b, k, omega arith)
rising-append low (x ∷ rows) mid row high h b k r = (r.0, r.1, omega arith, rising-append (x.place + 1) rows mid row high h b k r.3)

pub part_all : (rows : List Row) → ArePart rows rows
part_all [] = done
part_all (row ∷ rows) = keep (part_all rows)

part_cond : (b : Bool) (row : Row) (some all : List Row) → ArePart some all → ArePart (cond b (row ∷ some) some) (row ∷ all)
part_cond true row some all p = keep p
part_cond false row some all p = skip p

pub part-filter : (test : Row → Bool) (rows : List Row) → ArePart (filter test rows) rows
part-filter test [] = done
part-filter test (row ∷ rows) = part_cond (test row) row (filter test rows) rows (part-filter test rows)

pub part-trans : {a b c : List Row} → ArePart a b → ArePart b c → ArePart a c
part-trans p done = p
part-trans (keep p) (keep q) = keep (part-trans p q)
part-trans (skip p) (keep q) = skip (part-trans p q)
part-trans p (skip q) = skip (part-trans p q)

pub not_among-part : (id : PieceId) {some all : List Row} → ArePart some all → NotAmong id all → NotAmong id some
not_among-part id done h = h
not_among-part id (keep p) h = (h.0, not_among-part id p h.1)
not_among-part id (skip p) h = not_among-part id p h.1

pub apart-part : {some all : List Row} → ArePart some all → AreApart all → AreApart some
apart-part done h = h
apart-part (keep {row = row} p) h = (not_among-part row.id p h.0, apart-part p h.1)
apart-part (skip p) h = apart-part p h.1

not_among-append : (id : PieceId) (rows : List Row) (row : Row) → NotAmong id rows → same_piece id row.id ≡ false → NotAmong id (rows ++ row ∷ [])
not_among-append id [] row h e = (e, tt)
not_among-append id (x ∷ rows) row h e = (h.0, not_among-append id rows row h.1 e)

apart_case : (t : Bool) (x row : Row) (rows : List Row) → same_piece x.id row.id ≡ t → NotAmong x.id rows → AreApart (without row.id rows ++ row ∷ [])
    → AreApart (cond (not t) (x ∷ without row.id rows) (without row.id rows) ++ row ∷ [])
apart_case true x row rows e n h = h
apart_case false x row rows e n h = (not_among-append x.id (without row.id rows) row (not_among-part x.id (part-filter _ rows) n) e, h)

pub apart-placed : (rows : List Row) (row : Row) → AreApart rows → AreApart (without row.id rows ++ row ∷ [])
apart-placed [] row h = (tt, tt)
apart-placed (x ∷ rows) row h = apart_case (same_piece x.id row.id) x row rows refl h.0 (apart-placed rows row h.1)

-- ---- places that are known

pub known-part : (places : List (ℕ × PieceId)) {some all : List Row} → ArePart some all → AreKnown places all → AreKnown places some
known-part places done h = h
known-part places (keep p) h = (h.0, known-part places p h.1)
known-part places (skip p) h = known-part places p h.1

below : (a b : ℕ) (t : Bool) → (a == b) ≡ t → b < a → t ≡ false
below a b false e h = refl
below a b true e h = let same : a ≡ b = Rattle.std.proofs.lemmas.Bool.eqb-true a b e in absurd (omega arith)

above : (a b : ℕ) (t : Bool) → (a == b) ≡ t → a < b → t ≡ false
above a b false e h = refl
above a b true e h = let same : a ≡ b = Rattle.std.proofs.lemmas.Bool.eqb-true a b e in absurd (omega arith)

pub rising_ends : (low : ℕ) (rows : List Row) (high : ℕ) → AreRising low rows high → low ≤ high
rising_ends low [] high h = h
rising_ends low (row ∷ rows) high h = let above : row.place + row.blocks ≤ high = h.2 in let from : low ≤ row.place = h.0 in omega arith

-- a place above all of them changes nothing
pub known-more : (places : List (ℕ × PieceId)) (place : ℕ) (id : PieceId) (low : ℕ) (rows : List Row) → AreRising low rows place → AreKnown places rows → AreKnown ((place, id) ∷ places) rows
known-more places place id low [] r h = tt
known-more places place id low (row ∷ rows) r h =
    let above : row.place + row.blocks ≤ place = r.2 in
    let some : 0 < row.blocks = r.1 in
    (rw (below place row.place (place == row.place) refl (omega arith)) h.0, known-more places place id (row.place + 1) rows r.3 h.1)

-- nor does a place below all of them
pub known-behind : (places : List (ℕ × PieceId)) (place : ℕ) (id : PieceId) (low : ℕ) (rows : List Row) (high : ℕ) → place < low → AreRising low rows high → AreKnown places rows → AreKnown ((place, id) ∷ places) rows
known-behind places place id low [] high under r h = tt
known-behind places place id low (row ∷ rows) high under r h =
    let from : low ≤ row.place = r.0 in
    (rw (above place row.place (place == row.place) refl (omega arith)) h.0, known-behind places place id (row.place + 1) rows high (omega arith) r.3 h.1)

pub known-append : (places : List (ℕ × PieceId)) (rows : List Row) (row : Row) → AreKnown places rows → lookup (λ p. p == row.place) places ≡ Some row.id → AreKnown places (rows ++ row ∷ [])
known-append places [] row h e = (e, tt)
known-append places (x ∷ rows) row h e = (h.0, known-append places rows row h.1 e)

-- what holds of each row holds of each of a part
pub each_part : {some all : List Row} (P : Row → Type 0) → ArePart some all → AllByRecursion P all → AllByRecursion P some
each_part P done each = tt
each_part P (keep p) each = (each.0, each_part P p each.1)
each_part P (skip p) each = each_part P p each.1
