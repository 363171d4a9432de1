-- A later copy that is not clean spares content at least as far.
use Rattle.std.proofs.Common.{◌≡◌, ◌≤◌, ◌+◌, ◌-◌, ◌*◌, ◌/◌, ◌^◌, inl, inr, ℕ, Bool, true, false, if◌then◌else◌, sym, subst, arith}
use Rattle.std.specs.Prelude.{IsTrue, ◌&&◌, not, nat_lt}
use Rattle.std.proofs.lemmas.Bool.{and_parts, cases_lt}
use Rattle.std.proofs.Math.Nat.{mod-add-div, mul_comm, mul-suc}
use Rattle.tape_base.specs.declared.geometries.Geometry.{Geometry}
use Rattle.tape_base.specs.Place.{lap_end_of, lap_of, reach_of, slot_of}
use Rattle.stripe_header.specs.declared.states.CopyState.{CopyState}
use Rattle.stripe_header.specs.Spelling.{has_counts, has_cursor, has_floor, lies_within, may_say}
use Rattle.packed_directory.proofs.Spelling.{part_ends}
use Rattle.reopening.proofs.Bounds.{in_lap}
use Rattle.sync_laws.specs.KnownCopies.{LaterSparesMore, spared_to}

-- laps end in their order
lap_rises : (g : Geometry) (c d : ℕ) → c ≤ d → lap_end_of g c ≤ lap_end_of g d
lap_rises g c d le = elim (cases_lt (lap_of g d) (lap_of g c)) [
  | inl lower ↦
      let far = part_ends (lap_of g d) (lap_of g c) g.content lower in
      let one = in_lap g c in
      let two = in_lap g d in
      absurd (omega (
        arith,
        le,
        far,
        one.0,
        two.1,
        mul_comm (lap_of g d) g.content,
        mul_comm (lap_of g c) g.content,
        mul-suc g.content (lap_of g d),
      ))
  | inr ge ↦ elim (cases_lt (lap_of g c) (lap_of g d)) [
    | inl lower ↦
        let far = part_ends (lap_of g c) (lap_of g d) g.content lower in
        omega (
          arith,
          far,
          mul_comm (lap_of g d) g.content,
          mul_comm (lap_of g c) g.content,
          mul-suc g.content (lap_of g d),
          mul-suc g.content (lap_of g c),
        )
    | inr le2 ↦
        let same : lap_of g c ≡ lap_of g d = omega (arith, ge, le2) in
        subst (λ n. g.content * (lap_of g c + 1) ≤ g.content * (n + 1)) same (omega arith)
  ]
]

-- a buffer behind a cursor ends within its lap
buffer_fits : (g : Geometry) (t : CopyState) → IsTrue (may_say g t) → t.cursor + g.agg ≤ lap_end_of g t.cursor
buffer_fits g t says =
    let a = and_parts (has_cursor g t && has_counts t) (has_floor g t) says in
    let b = and_parts (has_cursor g t) (has_counts t) a.0 in
    let c = and_parts (lies_within g.content (2 ^ 62 - 1) t.cursor) (not (nat_lt g.content (slot_of g t.cursor + g.agg))) b.0 in
    let fits : slot_of g t.cursor + g.agg ≤ g.content = let e = c.1 in grind (arith, e) in
    omega (arith, fits, mod-add-div t.cursor g.content, mul-suc g.content (t.cursor / g.content))

spared_by : (g : Geometry) (t u : CopyState) → IsTrue (may_say g t) → t.cursor ≤ u.cursor → (clean : Bool)
    → (if clean then t.cursor + g.agg else reach_of g t.cursor) ≤ reach_of g u.cursor
spared_by g t u says le true =
    omega (arith, le, buffer_fits g t says, lap_rises g t.cursor u.cursor le, g.accepted.reach_fits)
spared_by g t u says le false = omega (arith, le, lap_rises g t.cursor u.cursor le)

pub later_spares : LaterSparesMore
later_spares g t u says unclean le =
    subst (λ b. spared_to g t ≤ (if b then u.cursor + g.agg else reach_of g u.cursor)) (sym unclean) (spared_by g t u says le t.clean)
