-- Buffers in laps.
use Rattle.std.proofs.Common.{◌≡◌, ℕ, ◌+◌, ◌-◌, ◌*◌, ◌/◌, ◌<◌, ◌≤◌, ◌⊎◌, ◌∙◌, ap, inl, inr, arith}
use Rattle.std.proofs.lemmas.Bool.Decides.{nat_tests}
use Rattle.std.proofs.lemmas.Nat.{div-mul-add}
use Rattle.tape_base.specs.declared.geometries.Geometry.{Geometry}
use Rattle.tape_base.specs.Place.{lap_end_of, next_cursor_of}

-- a place is in a lap where it is between its ends
pub lap-is : (n q d : ℕ) → n * q ≤ d → d < n * (q + 1) → d / n ≡ q
lap-is n q d low high =
    let rest : ℕ = d - n * q in
    let small : rest < n = omega arith in
    let whole : d ≡ q * n + rest = omega arith in
    ap (λ x. x / n) whole ∙ div-mul-add q n rest small

-- the two cases of the next cursor
next_cases : (g : Geometry) (c f : ℕ) →
    ((lap_end_of g c < c + f + g.agg) × (next_cursor_of g c f ≡ lap_end_of g c)) ⊎ ((c + f + g.agg ≤ lap_end_of g c) × (next_cursor_of g c f ≡ c + f))
next_cases g c f = grind (arith, nat_tests)

-- the next buffer lies in one lap
pub next_fits : (g : Geometry) (c f : ℕ) → 0 < g.agg → g.agg ≤ g.content → f ≤ g.agg → c + g.agg ≤ lap_end_of g c
    → next_cursor_of g c f + g.agg ≤ lap_end_of g (next_cursor_of g c f)
next_fits g c f some small filled fits =
    elim (next_cases g c f) [
      | inl h ↦
          let again : lap_end_of g c / g.content ≡ c / g.content + 1 = lap-is g.content (c / g.content + 1) (lap_end_of g c) (omega arith) (omega arith) in
          rw (h.1, again) (omega arith)
      | inr h ↦
          let same : (c + f) / g.content ≡ c / g.content = lap-is g.content (c / g.content) (c + f) (omega arith) (omega arith) in
          rw (h.1, same) (omega arith)
    ]

-- and behind this one
pub next_above : (g : Geometry) (c f : ℕ) → f ≤ g.agg → c + g.agg ≤ lap_end_of g c → c + f ≤ next_cursor_of g c f
next_above g c f filled fits = elim (next_cases g c f) [ inl h ↦ rw h.1 (omega arith) | inr h ↦ rw h.1 (omega arith) ]
