-- A live piece is among the places that its key may have, and is known there.
use Rattle.std.proofs.Common.{◌≡◌, ℕ, ◌<◌, List, [], ◌∷◌, refl, sym, ◌∙◌, ap, subst, arith, Bool, true, false, cond, inl, inr, suc, zero, length, slice_index_or, ◌⊎◌}
use Rattle.std.specs.Prelude.{map, ◌&&◌, ◌==◌, Option, Some, None, option_and_then, option_map, if◌then◌else◌, Contains}
use Rattle.std.specs.List.{filter}
use Rattle.std.proofs.lemmas.Bool.{eq-eqb, eqb-true}
use Rattle.tape_base.specs.declared.geometries.Geometry.{Geometry}
use Rattle.tape_base.specs.declared.pieces.PieceId.{PieceId}
use Rattle.tape_base.specs.Piece.{key_of_piece, same_piece}
use Rattle.dir_table.specs.declared.rows.DirRow.{DirRow}
use Rattle.dir_table.specs.declared.rows.Spot.{Spot}
use Rattle.dir_table.specs.declared.window.Window.{Window}
use Rattle.dir_table.specs.Rows.{is_at, same_spot, spot_of_key}
use Rattle.dir_table.specs.Window.{is_in_range}
use Rattle.dir_table.specs.Candidates.{candidates_of, places_at}
use Rattle.cyclone.specs.Cyclone.{Seen}
use Rattle.cache_model.specs.State.{State, Row, is_live, live_row_of, only_live, row_in}
use Rattle.cache_model.specs.Verdict.{if_at, if_still_at}
use Rattle.cache_model.proofs.Lists.{own_piece}
use Rattle.held_pieces.specs.Held.{IsHeld, entry_of_piece, rows_in_range, same_entry, times}
use Rattle.held_pieces.specs.Whereabouts.{live_place_of}
use Rattle.held_pieces.specs.This.{is_this}
use Rattle.tape_base.proofs.NameLaws.{same_piece-same}
use Rattle.held_pieces.proofs.Entries.{one_more, same_entry-true}

-- an entry is the same as itself
pub same_entry-same : (a : DirRow) → same_entry a a ≡ true
same_entry-same a = rw (eq-eqb a.segment a.segment refl, eq-eqb a.bucket a.bucket refl, eq-eqb a.tag a.tag refl, eq-eqb a.place a.place refl) refl

same_spot-same : (a : Spot) → same_spot a a ≡ true
same_spot-same a = rw (eq-eqb a.segment a.segment refl, eq-eqb a.bucket a.bucket refl, eq-eqb a.tag a.tag refl) refl

-- ---- a row that counts stands among the places

pub first_or_later : {X : Type 0} (x y : X) (ys : List X) → ((x ≡ y) ⊎ Contains ys x) → Contains (y ∷ ys) x
first_or_later x y ys (inl e) = (0, omega arith, sym e)
first_or_later x y ys (inr h) = (suc h.0, omega (arith, h.1), h.2)

module _ (w : Window) (spot : Spot) (e : DirRow) (there : is_at spot e ≡ true) where
  abbrev is_candidate : DirRow → Bool
  is_candidate r = is_at spot r && is_in_range w r.place

  some_by : (row : DirRow) (rows : List DirRow) (a b : Bool) → is_in_range w row.place ≡ a → same_entry row e ≡ b
      → (0 < times e (filter (λ r. is_in_range w r.place) rows) → Contains (map (λ (r : DirRow). r.place) (filter is_candidate rows)) e.place)
      → 0 < times e (cond a (row ∷ filter (λ r. is_in_range w r.place) rows) (filter (λ r. is_in_range w r.place) rows))
      → Contains (map (λ (r : DirRow). r.place) (cond (is_at spot row && a) (row ∷ filter is_candidate rows) (filter is_candidate rows))) e.place
  some_by row rows true true f g rest h =
      let same : row ≡ e = same_entry-true row e g in
      rw (ap (is_at spot) same ∙ there) (first_or_later e.place row.place _ (inl (ap (λ (r : DirRow). r.place) (sym same))))
  some_by row rows true false f g rest h = later (is_at spot row) (rest (rw g at h))
    where
      later : (c : Bool) → Contains (map (λ (r : DirRow). r.place) (filter is_candidate rows)) e.place
          → Contains (map (λ (r : DirRow). r.place) (cond (c && true) (row ∷ filter is_candidate rows) (filter is_candidate rows))) e.place
      later true k = first_or_later e.place row.place _ (inr k)
      later false k = k
  some_by row rows false b f g rest h = none (is_at spot row) (rest h)
    where
      none : (c : Bool) → Contains (map (λ (r : DirRow). r.place) (filter is_candidate rows)) e.place
          → Contains (map (λ (r : DirRow). r.place) (cond (c && false) (row ∷ filter is_candidate rows) (filter is_candidate rows))) e.place
      none true k = k
      none false k = k

  counted_is_candidate : (rows : List DirRow) → 0 < times e (filter (λ r. is_in_range w r.place) rows) → Contains (map (λ (r : DirRow). r.place) (filter is_candidate rows)) e.place
  counted_is_candidate [] h = absurd (omega arith)
  counted_is_candidate (row ∷ rows) h = some_by row rows (is_in_range w row.place) (same_entry row e) refl refl (counted_is_candidate rows) h

-- ---- a live piece counts

more_than : (b : Bool) (n : ℕ) → 0 < n → 0 < one_more b n
more_than true n h = omega arith
more_than false n h = h

counts_by : (s : State) (g : Geometry) (id : PieceId) (first row : Row) (rows : List Row) (b c : Bool) → same_piece first.id id ≡ b → is_live s first ≡ c → is_live s row ≡ true
    → (row_in rows id ≡ Some row → 0 < times (entry_of_piece g row) (map (entry_of_piece g) (filter (is_live s) rows)))
    → (if b then Some first else row_in rows id) ≡ Some row
    → 0 < times (entry_of_piece g row) (map (entry_of_piece g) (cond c (first ∷ filter (is_live s) rows) (filter (is_live s) rows)))
counts_by s g id first row rows true true e f live rest h =
    let same : first ≡ row = cc in
    rw (ap (λ (r : Row). same_entry (entry_of_piece g r) (entry_of_piece g row)) same ∙ same_entry-same (entry_of_piece g row))
    (omega arith)
counts_by s g id first row rows true false e f live rest h =
    let same : first ≡ row = cc in
    let q : true ≡ false = sym live ∙ (ap (is_live s) (sym same) ∙ f) in cc
counts_by s g id first row rows false true e f live rest h =
    more_than (same_entry (entry_of_piece g first) (entry_of_piece g row)) _ (rest h)
counts_by s g id first row rows false false e f live rest h = rest h

pub counts : (s : State) (g : Geometry) (id : PieceId) (row : Row) (rows : List Row) → is_live s row ≡ true → row_in rows id ≡ Some row
    → 0 < times (entry_of_piece g row) (map (entry_of_piece g) (filter (is_live s) rows))
counts s g id row [] live h = cc
counts s g id row (first ∷ rows) live h = counts_by s g id first row rows (same_piece first.id id) (is_live s first) refl refl live (counts s g id row rows live) h

live_by : (s : State) (other row : Row) (b : Bool) → is_live s other ≡ b → (if b then Some other else None) ≡ Some row → (other ≡ row) × (is_live s row ≡ true)
live_by s other row true e h = let same : other ≡ row = cc in (same, ap (is_live s) (sym same) ∙ e)
live_by s other row false e h = cc

pub live_is : (s : State) (o : Option Row) (row : Row) → option_and_then (only_live s) o ≡ Some row → (o ≡ Some row) × (is_live s row ≡ true)
live_is s None row h = cc
live_is s (Some other) row h = let r : (other ≡ row) × (is_live s row ≡ true) = live_by s other row (is_live s other) refl h in (ap Some r.0, r.1)

-- the place of a live piece is among those that its key may have
pub live_is_candidate : (s : State) (c : Seen) (id : PieceId) (row : Row) → IsHeld s c → live_row_of s id ≡ Some row
    → Contains (candidates_of c.window (key_of_piece id) c.rows) row.place
live_is_candidate s c id row held live =
    let found : (row_in s.rows id ≡ Some row) × (is_live s row ≡ true) = live_is s (row_in s.rows id) row live in
    let e : DirRow = entry_of_piece s.geometry row in
    let some : 0 < times e (rows_in_range c) = subst (λ n. 0 < n) (sym (held.entered e)) (counts s s.geometry id row s.rows found.1 found.0) in
    let geometry : c.window.geometry ≡ s.geometry = held.turning.geometry ∙ held.geometry in
    let spot : spot_of_key c.window.geometry (key_of_piece id) ≡ spot_of_key s.geometry (key_of_piece row.id) =
    ap (λ g. spot_of_key g (key_of_piece id)) geometry ∙ ap (λ i. spot_of_key s.geometry (key_of_piece i)) (sym (own_piece id s.rows row found.0)) in
    subst (λ sp. Contains (places_at c.window sp c.rows) row.place) (sym spot)
    (counted_is_candidate c.window (spot_of_key s.geometry (key_of_piece row.id)) e (same_spot-same (spot_of_key s.geometry (key_of_piece row.id))) c.rows some)

-- ---- what is known at a place

placed_by : (place : ℕ) (id other : PieceId) (row : Row) (b : Bool) → (row.place == place) ≡ b → (if b then Some other else None) ≡ Some id → (other ≡ id) × (row.place ≡ place)
placed_by place id other row true e h = (cc, eqb-true row.place place e)
placed_by place id other row false e h = cc

at_row : (place : ℕ) (id other : PieceId) (o : Option Row) → option_and_then (if_at place other) o ≡ Some id → (other ≡ id) × (option_map (λ (r : Row). r.place) o ≡ Some place)
at_row place id other None h = cc
at_row place id other (Some row) h = let p : (other ≡ id) × (row.place ≡ place) = placed_by place id other row (row.place == place) refl h in (p.0, ap Some p.1)

at_known : (s : State) (place : ℕ) (id : PieceId) (o : Option PieceId) → option_and_then (if_still_at s place) o ≡ Some id → live_place_of s id ≡ Some place
at_known s place id None h = cc
at_known s place id (Some other) h =
    let p : (other ≡ id) × (option_map (λ (r : Row). r.place) (live_row_of s other) ≡ Some place) = at_row place id other (live_row_of s other) h in
    subst (λ i. live_place_of s i ≡ Some place) p.0 p.1

-- ---- a walk

pub not_this : (o : Option PieceId) (id : PieceId) → is_this o id ≡ false → o ≡ Some id → ⊥
not_this o id h e = let f : true ≡ false = sym (same_piece-same id) ∙ (ap (λ x. is_this x id) (sym e) ∙ h) in cc

in_rest : {X : Type 0} (x y : X) (ys : List X) (k : ℕ) → k < length (y ∷ ys) → slice_index_or (y ∷ ys) k x ≡ x → (x ≡ y) ⊎ Contains ys x
in_rest x y ys zero h e = inl (sym e)
in_rest x y ys (suc k) h e = inr (k, omega (arith, h), e)

-- what a list has beyond its first element is in the rest
pub beyond_first : (x y : ℕ) (ys : List ℕ) → Contains (y ∷ ys) x → (x ≡ y → ⊥) → Contains ys x
beyond_first x y ys h n = elim (in_rest x y ys h.0 h.1 h.2) [ inl e ↦ absurd (n e) | inr r ↦ r ]

pub none_live : (s : State) (id : PieceId) (o : Option Row) → ((row : Row) → o ≡ Some row → ⊥) → option_map (λ (r : Row). r.place) o ≡ None
none_live s id None h = refl
none_live s id (Some row) h = absurd (h row refl)
