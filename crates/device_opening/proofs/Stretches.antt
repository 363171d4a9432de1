-- The places of the cursor's lap and of the lap before, as they lie on the device.
use Rattle.std.proofs.Common.{◌≡◌, ◌≤◌, ◌<◌, ◌+◌, ◌-◌, ◌*◌, ◌/◌, ◌%◌, ℕ, zero, suc, Bool, true, false, cond, inl, inr, refl, sym, ap, subst, ◌∙◌, arith}
use Rattle.std.specs.Prelude.{◌==◌, ◌&&◌, IsTrue}
use Rattle.std.proofs.lemmas.Bool.{and_parts, cases_lt}
use Rattle.std.proofs.Math.Nat.{mod-add-div, mod-lt, mul-suc, mul-le-mul_left}
use Rattle.tape_base.specs.declared.geometries.Geometry.{Geometry}
use Rattle.tape_base.specs.Place.{lap_end_of, reach_of, slot_of}
use Rattle.stripe_header.specs.declared.area.Area.{Area}
use Rattle.stripe_header.specs.declared.states.CopyState.{CopyState}
use Rattle.stripe_header.specs.Layout.{block_of_place, content_of, device_blocks}
use Rattle.stripe_header.specs.Spelling.{has_cursor, has_counts, has_floor, lies_within, may_say}
use Rattle.reopening.specs.Newest.{bound_of}
use Rattle.reopening.specs.Tests.{is_inside}
use Rattle.device_opening.specs.declared.stretch.Stretch.{Stretch}
use Rattle.device_opening.specs.declared.stretch.Stretches.{Stretches}
use Rattle.device_opening.specs.Tape.{AreStretches, IsStretch}
use Rattle.reopening.proofs.Alike.{inside_parts}
use Rattle.reopening.proofs.Bounds.{cursor_fits, in_lap, some_content, within}
use Rattle.reopening.proofs.Pieces.{ends_by}

-- ---- laps

more : (n a b : ℕ) → a < b → n * a + n ≤ n * b
more n a b low = let e : n * (a + 1) ≤ n * b = mul-le-mul_left n (omega (arith, low)) in let s = mul-suc n a in omega (arith, e, s)

-- the lap of a place from where it begins on
lap_is : (n q p : ℕ) → 0 < n → n * q ≤ p → p < n * q + n → p / n ≡ q
lap_is n q p some low high =
    let is = mod-add-div p n in
    let small : p % n < n = mod-lt p some in
    elim (cases_lt (p / n) q) [
      | inl less ↦ let e = more n (p / n) q less in absurd (omega (arith, e, is, small, low))
      | inr ge ↦ elim (cases_lt q (p / n)) [
        | inl over ↦ let e = more n q (p / n) over in absurd (omega (arith, e, is, small, high))
        | inr le ↦ omega (arith, ge, le)
      ]
    ]

-- its slot
slot_is : (n q p : ℕ) → 0 < n → n * q ≤ p → p < n * q + n → p % n + n * q ≡ p
slot_is n q p some low high = ap (λ k. p % n + n * k) (sym (lap_is n q p some low high)) ∙ mod-add-div p n

-- ---- the bound

module _ (g : Geometry) (told : CopyState) (says : IsTrue (may_say g told)) where
  abbrev pub n : ℕ
  n = g.content

  first : n ≤ told.cursor
  first = (cursor_fits g told says).0

  start_is : told.cursor % n + n * (told.cursor / n) ≡ told.cursor
  start_is = mod-add-div told.cursor n

  reach_lies : (told.cursor ≤ reach_of g told.cursor) × (reach_of g told.cursor ≤ n * (told.cursor / n) + n)
  reach_lies =
      let lap = in_lap g told.cursor in
      let s = mul-suc n (told.cursor / n) in
      (omega (arith, lap.1), omega (arith, s))

  bound_by : (clean : Bool) → cond clean (lies_within (told.cursor + g.agg - n) (reach_of g told.cursor - n) told.floor) (told.floor == 0) ≡ true
      → (told.cursor ≤ cond clean told.floor (reach_of g told.cursor - n) + n) × (cond clean told.floor (reach_of g told.cursor - n) ≤ n * (told.cursor / n))
  bound_by true h =
      let w = within (told.cursor + g.agg - n) (reach_of g told.cursor - n) told.floor h in
      (omega (arith, w.0), omega (arith, w.1, reach_lies.1))
  bound_by false h = (omega (arith, reach_lies.0), omega (arith, reach_lies.1))

  -- it lies at most a lap's length below the cursor, and not above where the cursor's lap begins
  pub bound_lies : (told.cursor ≤ bound_of g told + n) × (bound_of g told ≤ n * (told.cursor / n))
  bound_lies = bound_by told.clean (and_parts (has_cursor g told && has_counts told) (has_floor g told) says).1

-- ---- both stretches

module _ (a : Area) (told : CopyState) (says : IsTrue (may_say a.geometry told)) where
  abbrev size : ℕ
  size = a.geometry.content

  abbrev lap : ℕ
  lap = told.cursor / size

  some : 0 < size
  some = some_content a.geometry

  cursor_is : told.cursor % size + size * lap ≡ told.cursor
  cursor_is = mod-add-div told.cursor size

  -- the start of the cursor's lap
  abbrev pub start : ℕ
  start = told.cursor - told.cursor % size

  start_is_lap : start ≡ size * lap
  start_is_lap = let is = cursor_is in omega (arith, is)

  small : told.cursor % size < size
  small = mod-lt told.cursor some

  -- places of the cursor's lap
  pub here_blocks : (p : ℕ) → start ≤ p → p < told.cursor → block_of_place a p ≡ content_of a + (p - start)
  here_blocks p low high =
      let s = start_is_lap in
      let is = cursor_is in
      let less = small in
      let slot : p % size + size * lap ≡ p = slot_is size lap p some (omega (arith, low, s)) (omega (arith, high, is, less)) in
      let e : p % size ≡ p - start = omega (arith, slot, s) in
      ap (λ k. content_of a + k) e

  pub here_ends : (p k : ℕ) → start ≤ p → p < told.cursor → is_inside a.geometry told.cursor p k ≡ true → p + k ≤ told.cursor
  here_ends p k low high inside =
      let e = inside_parts a.geometry told.cursor p k inside in
      ends_by a.geometry told.cursor p k high e.0 e.1

  pub here_room : content_of a + (told.cursor - start) ≤ device_blocks a
  here_room = let less = small in let is = cursor_is in omega (arith, less, is)

  -- places of the lap before
  lap_before : (q : ℕ) → lap ≡ q → (p : ℕ) → bound_of a.geometry told ≤ p → p < start → (p % size + start ≡ p + size) × (lap_end_of a.geometry p ≡ start)
  lap_before zero none p low high =
      let s = start_is_lap in
      let e : size * lap ≡ size * 0 = ap (λ k. size * k) none in
      absurd (omega (arith, s, e, high))
  lap_before (suc q) next p low high =
      let s = start_is_lap in
      let e : size * lap ≡ size * q + size = ap (λ k. size * k) next ∙ mul-suc size q in
      let bound = (bound_lies a.geometry told says).0 in
      let is = cursor_is in
      let from : size * q ≤ p = omega (arith, low, bound, is, e) in
      let to : p < size * q + size = omega (arith, high, s, e) in
      let slot = slot_is size q p some from to in (
        omega (arith, slot, s, e),
        ap (λ k. size * (k + 1)) (lap_is size q p some from to) ∙ (let one : q + 1 ≡ suc q = omega arith in ap (λ k. size * k) one ∙ (mul-suc size q ∙ omega (arith, s, e))),
      )

  abbrev pub before_first : ℕ
  before_first = device_blocks a - (start - bound_of a.geometry told)

  bound_below : bound_of a.geometry told ≤ start
  bound_below = let s = start_is_lap in let e = (bound_lies a.geometry told says).1 in omega (arith, s, e)

  bound_near : told.cursor ≤ bound_of a.geometry told + size
  bound_near = (bound_lies a.geometry told says).0

  pub before_order : bound_of a.geometry told ≤ start
  before_order = bound_below

  pub before_blocks : (p : ℕ) → bound_of a.geometry told ≤ p → p < start → block_of_place a p ≡ before_first + (p - bound_of a.geometry told)
  before_blocks p low high =
      let slot = (lap_before lap refl p low high).0 in
      let near = bound_near in
      let below = bound_below in
      let e : p % size + start ≡ p + size = slot in
      let less : p % size < size = mod-lt p some in
      let is = cursor_is in
      omega (arith, e, low, high, near, below, less, is)

  pub before_ends : (p k : ℕ) → bound_of a.geometry told ≤ p → p < start → is_inside a.geometry told.cursor p k ≡ true → p + k ≤ start
  before_ends p k low high inside =
      let e = (inside_parts a.geometry told.cursor p k inside).0 in
      let end = (lap_before lap refl p low high).1 in
      omega (arith, e, end)

  pub before_room : before_first + (start - bound_of a.geometry told) ≤ device_blocks a
  before_room = let near = bound_near in let is = cursor_is in let below = bound_below in omega (arith, near, is, below)

  pub in_order : content_of a + (told.cursor - start) ≤ before_first
  in_order = let near = bound_near in let is = cursor_is in let below = bound_below in omega (arith, near, is, below)

  -- both, by the numbers that were reckoned
  abbrev pub here : ℕ → ℕ → Stretch
  here first slot = record { area = a; told = told; first = first; low = told.cursor - slot; high = told.cursor }

  abbrev pub before : ℕ → ℕ → ℕ → Stretch
  before blocks slot low = record { area = a; told = told; first = blocks - (told.cursor - slot - low); low = low; high = told.cursor - slot }

  pub is_here : (first slot : ℕ) → first ≡ content_of a → slot ≡ slot_of a.geometry told.cursor → IsStretch (here first slot)
  is_here first slot f s =
      subst (λ (k : ℕ). IsStretch (here k slot)) (sym f)
      (subst (λ (k : ℕ). IsStretch (here (content_of a) k)) (sym s)
      (record { order = omega arith; below = omega arith; blocks = here_blocks; ends = here_ends; room = here_room }))

  pub is_before : (blocks slot low : ℕ) → blocks ≡ device_blocks a → slot ≡ slot_of a.geometry told.cursor → low ≡ bound_of a.geometry told
      → IsStretch (before blocks slot low)
  is_before blocks slot low b s l =
      subst (λ (k : ℕ). IsStretch (before k slot low)) (sym b)
      (subst (λ (k : ℕ). IsStretch (before (device_blocks a) k low)) (sym s)
      (subst (λ (k : ℕ). IsStretch (before (device_blocks a) (slot_of a.geometry told.cursor) k)) (sym l)
      (record { order = before_order; below = omega arith; blocks = before_blocks; ends = before_ends; room = before_room })))

  abbrev both : (content blocks slot low : ℕ) → Stretches
  both content blocks slot low = record { here = here content slot; before = before blocks slot low }

  pub are_both : (content blocks slot low : ℕ) → content ≡ content_of a → blocks ≡ device_blocks a → slot ≡ slot_of a.geometry told.cursor → low ≡ bound_of a.geometry told
      → AreStretches a told (both content blocks slot low)
  are_both content blocks slot low c b s l =
      let order = in_order in
      record {
        area = (refl, refl);
        told_is = (refl, refl);
        here = is_here content slot c s;
        before = is_before blocks slot low b s l;
        order = (omega (arith, c), omega (arith, order, c, b, s, l));
        bound = l;
        seam = refl;
        cursor = refl;
      }
