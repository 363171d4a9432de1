-- What is known of a live piece in a cyclone that holds the records.
use Rattle.std.proofs.Common.{◌≡◌, ℕ, ◌+◌, ◌<◌, ◌≤◌, List, [], ◌∷◌, refl, sym, ◌∙◌, ap, subst, arith, Bool, true, false, cond}
use Rattle.std.specs.Prelude.{Option, Some, None, option_map, ◌||◌}
use Rattle.std.specs.List.{AllByRecursion, filter}
use Rattle.std.proofs.lemmas.Bool.{eq-eqb}
use Rattle.tape_base.specs.declared.geometries.Geometry.{Geometry}
use Rattle.tape_base.specs.declared.pieces.PieceId.{PieceId}
use Rattle.tape_base.specs.Piece.{key_of_piece}
use Rattle.tape_base.specs.Place.{lap_end_of}
use Rattle.dir_table.specs.declared.rows.DirRow.{DirRow}
use Rattle.dir_table.specs.Rows.{has_row, row_of_key, same_row}
use Rattle.cyclone.specs.Cyclone.{BlocksStand, Seen, row_of_piece}
use Rattle.cache_model.specs.State.{State, Row, live_row_of, place_now, row_in}
use Rattle.cache_model.specs.Tape.{AreRising}
use Rattle.cache_model.proofs.Lists.{found_row, own_piece}
use Rattle.held_pieces.specs.Held.{IsHeld, IsInLap, entry_of_piece, rows_in_range, same_entry, times}
use Rattle.held_pieces.specs.Whereabouts.{live_place_of}
use Rattle.held_pieces.proofs.Candidates.{counts, live_is}
use Rattle.held_pieces.proofs.Entries.{same_entry-true}

-- a live piece, by its place
pub record IsLiveAt (s : State) (id : PieceId) (place : ℕ) : Type 0 where
  pub row : Row
  pub live : live_row_of s id ≡ Some row
  pub at : row.place ≡ place

placed_row : (o : Option Row) (place : ℕ) → option_map (λ (row : Row). row.place) o ≡ Some place → (row : Row) × (o ≡ Some row) × (row.place ≡ place)
placed_row None place h = cc
placed_row (Some row) place h = (row, refl, cc)

pub live_at : (s : State) (id : PieceId) (place : ℕ) → live_place_of s id ≡ Some place → IsLiveAt s id place
live_at s id place h = let r = placed_row (live_row_of s id) place h in record { row = r.0; live = r.1; at = r.2 }

-- each row has blocks, and ends at the end of all or below it
pub within : (id : PieceId) (low high : ℕ) (rows : List Row) → AreRising low rows high → AllByRecursion (λ (row : Row). (0 < row.blocks) × (row.place + row.blocks ≤ high)) rows
within id low high [] r = tt
within id low high (row ∷ rows) r = ((r.1, r.2), within id (row.place + 1) high rows r.3)

pub live_within : (s : State) (c : Seen) (id : PieceId) (row : Row) → IsHeld s c → live_row_of s id ≡ Some row → (0 < row.blocks) × (row.place + row.blocks ≤ place_now s)
live_within s c id row held live =
    found_row (λ (r : Row). (0 < r.blocks) × (r.place + r.blocks ≤ place_now s)) id s.rows row (within id s.geometry.content (place_now s) s.rows held.sound.rising) (live_is s (row_in s.rows id) row live).0

pub live_in_lap : (s : State) (c : Seen) (id : PieceId) (row : Row) → IsHeld s c → live_row_of s id ≡ Some row → IsInLap s.geometry row
live_in_lap s c id row held live = found_row (IsInLap s.geometry) id s.rows row held.laps (live_is s (row_in s.rows id) row live).0

-- so it can be read
pub live_is_stored : (s : State) (c : Seen) (id : PieceId) (row : Row) → IsHeld s c → live_row_of s id ≡ Some row → BlocksStand c row.place row.blocks
live_is_stored s c id row held live =
    let lap : IsInLap s.geometry row = live_in_lap s c id row held live in
    let ends : row.place + row.blocks ≤ place_now s = (live_within s c id row held live).1 in
    let agg : c.geometry.agg ≡ s.geometry.agg = ap (λ (g : Geometry). g.agg) held.geometry in
    record {
      few = omega (arith, lap.small, agg);
      below = omega (arith, ends, held.cursor, held.filled);
      lap = subst (λ g. row.place + row.blocks ≤ lap_end_of g row.place) (sym held.geometry) lap.within;
    }

-- ---- its entry stands in the directory

same_row-same : (a : DirRow) → same_row a a ≡ true
same_row-same a = rw (eq-eqb a.segment a.segment refl, eq-eqb a.bucket a.bucket refl, eq-eqb a.tag a.tag refl, eq-eqb a.place a.place refl) refl

has_by : (q : DirRow → Bool) (e row : DirRow) (rows : List DirRow) (a b : Bool) → q row ≡ a → same_entry row e ≡ b → (0 < times e (filter q rows) → has_row e rows ≡ true)
    → 0 < times e (cond a (row ∷ filter q rows) (filter q rows)) → (same_row e row || has_row e rows) ≡ true
has_by q e row rows true true f g rest h = let same : row ≡ e = same_entry-true row e g in rw (ap (same_row e) same ∙ same_row-same e) refl
has_by q e row rows true false f g rest h = either (same_row e row) (rest (rw g at h))
  where
    either : (b : Bool) → has_row e rows ≡ true → (b || has_row e rows) ≡ true
    either true k = refl
    either false k = k
has_by q e row rows false b f g rest h = either (same_row e row) (rest h)
  where
    either : (d : Bool) → has_row e rows ≡ true → (d || has_row e rows) ≡ true
    either true k = refl
    either false k = k

counted_has : (q : DirRow → Bool) (e : DirRow) (rows : List DirRow) → 0 < times e (filter q rows) → has_row e rows ≡ true
counted_has q e [] h = absurd (omega arith)
counted_has q e (row ∷ rows) h = has_by q e row rows (q row) (same_entry row e) refl refl (counted_has q e rows) h

pub live_has_row : (s : State) (c : Seen) (id : PieceId) (row : Row) → IsHeld s c → live_row_of s id ≡ Some row → has_row (row_of_piece c id row.place) c.rows ≡ true
live_has_row s c id row held live =
    let found = live_is s (row_in s.rows id) row live in
    let e : DirRow = entry_of_piece s.geometry row in
    let some : 0 < times e (rows_in_range c) = subst (λ n. 0 < n) (sym (held.entered e)) (counts s s.geometry id row s.rows found.1 found.0) in
    let entry_is : row_of_piece c id row.place ≡ e =
    ap (λ g. row_of_key g (key_of_piece id) row.place) held.geometry ∙ ap (λ i. row_of_key s.geometry (key_of_piece i) row.place) (sym (own_piece id s.rows row found.0)) in
    subst (λ x. has_row x c.rows ≡ true) (sym entry_is) (counted_has _ e c.rows some)
