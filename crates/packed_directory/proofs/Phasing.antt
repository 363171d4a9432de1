-- An entry stands for the place of which it has the block and the phase.
use Rattle.std.proofs.Common.{◌≡◌, ℕ, suc, ◌+◌, ◌-◌, ◌*◌, ◌/◌, ◌%◌, ◌<◌, ◌≤◌, Bool, true, false, cond, eqb, refl, sym, ap, subst, ◌∙◌, arith, inl, inr, ◌⊎◌}
use Rattle.std.specs.Prelude.{not}
use mathlib.Core.Bool.{beq}
use Rattle.std.proofs.lemmas.Bool.{cases_eq, and_parts, and_from, ltb-true, leb-true, lt-ltb, le-leb}
use Rattle.std.proofs.lemmas.Nat.{div-mul-add, mod-mul-add, le-div}
use Rattle.std.proofs.Math.Nat.{div-add-mod}
use Rattle.tape_base.specs.declared.geometries.Geometry.{Geometry}
use Rattle.tape_base.specs.Place.{lap_of, slot_of, phase_of}
use Rattle.dir_entry.specs.declared.entry.Entry.{Entry}
use Rattle.packed_directory.specs.Phases.{laps_back, place_of_entry, has_block, stands_between, IsOfPlace, least_place}

-- a lap and the next differ in their phase
pub next_phase : (k : ℕ) → eqb (suc k % 2) 1 ≡ not (eqb (k % 2) 1)
next_phase k = elim (cases_eq (k % 2) 1) [
  | inl odd ↦ let even : suc k % 2 ≡ 0 = omega (arith, odd) in rw (odd, even) refl
  | inr other ↦
      let even : k % 2 ≡ 0 = omega (arith, other) in
      let odd : suc k % 2 ≡ 1 = omega (arith, even) in
      rw (even, odd) refl
]

pub same_beq : (a b : Bool) → a ≡ b → beq a b ≡ true
same_beq true true h = refl
same_beq false false h = refl
same_beq true false h = absurd (cc h)
same_beq false true h = absurd (cc h)

other_beq : (a b : Bool) → b ≡ not a → beq a b ≡ false
other_beq true true h = absurd (cc h)
other_beq true false h = refl
other_beq false true h = refl
other_beq false false h = absurd (cc h)

pub beq_same : (a b : Bool) → beq a b ≡ true → a ≡ b
beq_same true true h = refl
beq_same false false h = refl
beq_same true false h = absurd (cc h)
beq_same false true h = absurd (cc h)

beq_other : (a b : Bool) → beq a b ≡ false → a ≡ not b
beq_other true true h = absurd (cc h)
beq_other false false h = absurd (cc h)
beq_other true false h = refl
beq_other false true h = refl

pub not-not : (a : Bool) → not (not a) ≡ a
not-not true = refl
not-not false = refl

comm : (m n : ℕ) → m * n ≡ n * m
comm m n = omega arith

pub content_some : (g : Geometry) → 0 < g.content
content_some g = let fits = g.accepted.content_fits in let agg = g.accepted.agg_fits in omega (arith, fits, agg)

lap_cases : (n l p : ℕ) → 0 < n → n * (l - 1) ≤ p → p / n ≤ l → 1 ≤ l → (p / n ≡ l) ⊎ (suc (p / n) ≡ l)
lap_cases n l p some least most one =
    let le : l - 1 ≤ p / n = le-div (l - 1) p n some (subst (λ k. k ≤ p) (comm n (l - 1)) least) in
    elim (cases_eq (p / n) l) [ inl e ↦ inl e | inr ne ↦ inr (omega (arith, le, most, one, ne)) ]

pub one_lap : (g : Geometry) (cursor : ℕ) → g.content ≤ cursor → 1 ≤ lap_of g cursor
one_lap g cursor first = le-div 1 cursor g.content (content_some g) (let e : 1 * g.content ≡ g.content = omega arith in rw e first)

pub place_back : (g : Geometry) (cursor place : ℕ) (e : Entry) → g.content ≤ cursor → least_place g cursor ≤ place → lap_of g place ≤ lap_of g cursor → IsOfPlace g place e
    → place_of_entry g cursor e ≡ place
unfolding place_of_entry
place_back g cursor place e first least most of =
    let n : ℕ = g.content in
    let l : ℕ = lap_of g cursor in
    let one : 1 ≤ l = one_lap g cursor first in
    let block : e.offset - 1 ≡ place % n = omega (arith, of.block) in
    let whole : n * (place / n) + place % n ≡ place = div-add-mod place n in
    elim (lap_cases n l place (content_some g) least most one) [
      | inl same ↦
          let phases : e.phase ≡ phase_of g cursor = of.phase ∙ ap (λ k. eqb (k % 2) 1) same in
          let none : laps_back g cursor e ≡ 0 = ap (λ (b : Bool). cond b 0 1) (same_beq e.phase (phase_of g cursor) phases) in
          let lap : l - laps_back g cursor e ≡ place / n = omega (arith, none, same) in
          (λ i. n * lap i + block i) ∙ whole
      | inr next ↦
          let phases : phase_of g cursor ≡ not e.phase = ap (λ k. eqb (k % 2) 1) (sym next) ∙ next_phase (place / n) ∙ ap not (sym of.phase) in
          let back : laps_back g cursor e ≡ 1 = ap (λ (b : Bool). cond b 0 1) (other_beq e.phase (phase_of g cursor) phases) in
          let lap : l - laps_back g cursor e ≡ place / n = omega (arith, back, next) in
          (λ i. n * lap i + block i) ∙ whole
    ]

-- the lap of the place that an entry stands for
module _ (g : Geometry) (cursor : ℕ) (e : Entry) (first : g.content ≤ cursor) (block : has_block g e ≡ true) where
  n : ℕ
  n = g.content

  l : ℕ
  l = lap_of g cursor

  pub offset_some : 0 < e.offset
  offset_some = ltb-true 0 e.offset (and_parts _ _ block).0

  pub offset_few : e.offset ≤ g.content
  offset_few = leb-true e.offset g.content (and_parts _ _ block).1

  below : e.offset - 1 < g.content
  below = omega (arith, offset_some, offset_few)

  pub lap_there : lap_of g (place_of_entry g cursor e) ≡ lap_of g cursor - laps_back g cursor e
  unfolding place_of_entry
  lap_there =
      ap (λ k. (k + (e.offset - 1)) / g.content) (comm g.content (lap_of g cursor - laps_back g cursor e))
      ∙ div-mul-add (lap_of g cursor - laps_back g cursor e) g.content (e.offset - 1) below

  slot_there : slot_of g (place_of_entry g cursor e) ≡ e.offset - 1
  unfolding place_of_entry
  slot_there =
      ap (λ k. (k + (e.offset - 1)) % g.content) (comm g.content (lap_of g cursor - laps_back g cursor e))
      ∙ mod-mul-add (lap_of g cursor - laps_back g cursor e) g.content (e.offset - 1) below

  back_is : (b : Bool) → beq e.phase (phase_of g cursor) ≡ b → e.phase ≡ eqb ((lap_of g cursor - cond b 0 1) % 2) 1
  back_is true h = beq_same e.phase (phase_of g cursor) h ∙ ap (λ k. eqb (k % 2) 1) (let z : lap_of g cursor ≡ lap_of g cursor - 0 = omega arith in z)
  back_is false h =
      let one : 1 ≤ lap_of g cursor = one_lap g cursor first in
      let next : suc (lap_of g cursor - 1) ≡ lap_of g cursor = omega (arith, one) in
      beq_other e.phase (phase_of g cursor) h ∙ ap not (ap (λ k. eqb (k % 2) 1) (sym next) ∙ next_phase (lap_of g cursor - 1)) ∙ not-not (eqb ((lap_of g cursor - 1) % 2) 1)

  pub of_place : IsOfPlace g (place_of_entry g cursor e) e
  of_place = record {
    block = omega (arith, slot_there, offset_some);
    phase = back_is (beq e.phase (phase_of g cursor)) refl ∙ ap (λ k. eqb (k % 2) 1) (sym lap_there);
  }

  back_most : (b : Bool) → cond b 0 1 ≤ 1
  back_most true = omega arith
  back_most false = omega arith

  pub place_least : least_place g cursor ≤ place_of_entry g cursor e
  unfolding place_of_entry
  place_least =
      let le : lap_of g cursor - 1 ≤ lap_of g cursor - laps_back g cursor e = omega (arith, back_most (beq e.phase (phase_of g cursor))) in
      more (lap_of g cursor - 1) (lap_of g cursor - laps_back g cursor e) le where
        more : (a b : ℕ) → a ≤ b → g.content * a ≤ g.content * b + (e.offset - 1)
        more a b le =
            let d : ℕ = b - a in
            let sum : b ≡ a + d = omega (arith, le) in
            let wide : g.content * b ≡ g.content * a + g.content * d = ap (λ k. g.content * k) sum ∙ (let q : g.content * (a + d) ≡ g.content * a + g.content * d = omega arith in q) in
            omega (arith, wide)

-- what stands between two places
pub parts_between : (g : Geometry) (cursor low high : ℕ) (e : Entry) → stands_between g cursor low high e ≡ true
    → (has_block g e ≡ true) × (low ≤ place_of_entry g cursor e) × (place_of_entry g cursor e < high)
parts_between g cursor low high e h =
    let both = and_parts _ _ h in
    let bounds = and_parts _ _ both.1 in
    (both.0, leb-true low (place_of_entry g cursor e) bounds.0, ltb-true (place_of_entry g cursor e) high bounds.1)

pub between_from : (g : Geometry) (cursor low high : ℕ) (e : Entry) → has_block g e ≡ true → low ≤ place_of_entry g cursor e → place_of_entry g cursor e < high
    → stands_between g cursor low high e ≡ true
between_from g cursor low high e block least most =
    and_from _ _ block (and_from _ _ (le-leb low (place_of_entry g cursor e) least) (lt-ltb (place_of_entry g cursor e) high most))

pub block_from : (g : Geometry) (e : Entry) → 0 < e.offset → e.offset ≤ g.content → has_block g e ≡ true
block_from g e some few = and_from _ _ (lt-ltb 0 e.offset some) (le-leb e.offset g.content few)

pub block_few : (g : Geometry) (e : Entry) → has_block g e ≡ true → e.offset ≤ g.content
block_few g e h = leb-true e.offset g.content (and_parts _ _ h).1
