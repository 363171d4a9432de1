-- The bound of an opening lies in the lap of its cursor or in the one before, and not above the cursor.
use Rattle.std.proofs.Common.{◌≡◌, ◌≤◌, ◌<◌, ◌+◌, ◌-◌, ◌*◌, ◌/◌, ◌%◌, ◌^◌, ℕ, zero, suc, Bool, true, false, cond, sym, subst, arith}
use Rattle.std.specs.Prelude.{not, nat_lt, ◌==◌, ◌&&◌, IsTrue}
use Rattle.std.proofs.lemmas.Bool.{and_parts}
use Rattle.std.proofs.Math.Nat.{mod-add-div, mod-lt, mul-suc}
use Rattle.tape_base.specs.declared.geometries.Geometry.{Geometry}
use Rattle.tape_base.specs.Place.{lap_of, slot_of, reach_of}
use Rattle.stripe_header.specs.declared.states.CopyState.{CopyState}
use Rattle.stripe_header.specs.Spelling.{lies_within, has_cursor, has_counts, has_floor, may_say}
use Rattle.packed_directory.specs.Phases.{least_place}
use Rattle.reopening.specs.Newest.{bound_of}

pub within : (least most n : ℕ) → lies_within least most n ≡ true → (least ≤ n) × (n ≤ most)
within least most n h =
    let e = and_parts (not (nat_lt n least)) (not (nat_lt most n)) h in
    grind (arith, e)

pub some_content : (g : Geometry) → 0 < g.content
some_content g = omega (arith, g.accepted.content_fits.0, g.accepted.agg_fits.0)

pred_mul : (n l : ℕ) → n * (l - 1) ≤ n * l - n
pred_mul n zero = omega arith
pred_mul n (suc l) =
    let less : suc l - 1 ≡ l = omega arith in
    subst (λ k. n * k ≤ n * suc l - n) (sym less) (omega (arith, mul-suc n l))

-- the cursor lies in its lap
pub in_lap : (g : Geometry) (c : ℕ) → (g.content * lap_of g c ≤ c) × (c < g.content * (lap_of g c + 1))
in_lap g c =
    let small : c % g.content < g.content = mod-lt c (some_content g) in
    let is = mod-add-div c g.content in
    (omega (arith, is), omega (arith, is, small, mul-suc g.content (c / g.content)))

-- what a reach leaves of the lap before
reach_left : (g : Geometry) (c : ℕ) → (c ≤ reach_of g c) × (reach_of g c - g.content ≤ c)
reach_left g c =
    let lap = in_lap g c in
    (omega (arith, lap.1), omega (arith, lap.0, mul-suc g.content (lap_of g c)))

low_fits : (g : Geometry) (c floor : ℕ) → c - g.content ≤ floor → least_place g c ≤ floor
low_fits g c floor le = omega (arith, pred_mul g.content (lap_of g c), (in_lap g c).0, le)

module _ (g : Geometry) (told : CopyState) (says : IsTrue (may_say g told)) where
  parts : (IsTrue (has_cursor g told && has_counts told)) × IsTrue (has_floor g told)
  parts = and_parts (has_cursor g told && has_counts told) (has_floor g told) says

  pub cursor_fits : (g.content ≤ told.cursor) × (told.cursor < 2 ^ 62)
  cursor_fits =
      let a = and_parts (has_cursor g told) (has_counts told) parts.0 in
      let b = and_parts (lies_within g.content (2 ^ 62 - 1) told.cursor) (not (nat_lt g.content (slot_of g told.cursor + g.agg))) a.0 in
      let w = within g.content (2 ^ 62 - 1) told.cursor b.0 in
      (w.0, omega (arith, w.1))

  floor_of : (clean : Bool) → cond clean (lies_within (told.cursor + g.agg - g.content) (reach_of g told.cursor - g.content) told.floor) (told.floor == 0) ≡ true
      → (told.cursor - g.content ≤ cond clean told.floor (reach_of g told.cursor - g.content)) × (cond clean told.floor (reach_of g told.cursor - g.content) ≤ told.cursor)
  floor_of true h =
      let w = within (told.cursor + g.agg - g.content) (reach_of g told.cursor - g.content) told.floor h in
      (omega (arith, w.0), omega (arith, w.1, (reach_left g told.cursor).1))
  floor_of false h = (omega (arith, (reach_left g told.cursor).0), (reach_left g told.cursor).1)

  pub bound_fits : (least_place g told.cursor ≤ bound_of g told) × (bound_of g told ≤ told.cursor)
  bound_fits =
      let e = floor_of told.clean parts.1 in
      (low_fits g told.cursor (bound_of g told) e.0, e.1)
