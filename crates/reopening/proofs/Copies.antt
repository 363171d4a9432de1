-- The numbers of a copy that is accepted.
use Rattle.std.proofs.Common.{◌≡◌, ◌≤◌, ◌+◌, ◌-◌, ◌/◌, ◌^◌, ℕ, Bool, true, false, cond, List, Option, Some, None, refl, subst, arith}
use Rattle.std.specs.Prelude.{not, nat_lt, ◌==◌, ◌&&◌, IsTrue, if◌then◌else◌}
use Rattle.std.specs.Option.{option_or}
use Rattle.std.specs.List.{slice_index}
use Rattle.std.proofs.lemmas.Bool.{and_parts}
use Rattle.std.proofs.Math.Nat.{mod-add-div, mul-suc}
use Rattle.device_log.specs.Image.{Image}
use Rattle.tape_base.specs.declared.geometries.Geometry.{Geometry}
use Rattle.tape_base.specs.Place.{reach_of, slot_of}
use Rattle.stripe_header.specs.declared.area.Area.{Area}
use Rattle.stripe_header.specs.declared.area.Side.{Side}
use Rattle.stripe_header.specs.declared.area.Side.TheVariants as sides
use Rattle.stripe_header.specs.declared.states.CopyState.{CopyState}
use Rattle.stripe_header.specs.declared.states.CopyFault.{CopyFault}
use Rattle.stripe_header.specs.declared.states.CopyFault.TheVariants as copy_faults
use Rattle.stripe_header.specs.Layout.{gate_of}
use Rattle.stripe_header.specs.Reading.{are_spelled, copy_fault, copy_told, digest_fault, form_fault, geometry_fault}
use Rattle.stripe_header.specs.Spelling.{has_counts, has_cursor, has_floor, lies_within, may_say}
use Rattle.cache_model.specs.declared.findings.FoundRow.{FoundRow}
use Rattle.cache_model.specs.Openings.{IsCopyOf}
use Rattle.reopening.specs.declared.newest.Newest.{Newest}
use Rattle.reopening.specs.Newest.{body_at, copy_at, fault_at, newer, newest_of, unless_fault}
use Rattle.reopening.specs.Opens.{opening_with}
use Rattle.reopening.proofs.Bounds.{within}

-- ---- what is accepted may be said

last_none : (a b : Option CopyFault) → option_or a b ≡ None → b ≡ None
last_none None b h = h
last_none (Some fault) b h = absurd cc

open_gate : (shut : Bool) (rest : Option CopyFault) → (if shut then Some copy_faults.GateShut else rest) ≡ None → rest ≡ None
open_gate true rest h = absurd cc
open_gate false rest h = h

passes_none : (b : Bool) → (if b then None else Some copy_faults.Geometry) ≡ None → b ≡ true
passes_none true h = refl
passes_none false h = absurd cc

geometry_says : (g : Geometry) (body : List ℕ) → geometry_fault g body ≡ None → IsTrue (may_say g (copy_told body))
unfolding geometry_fault
geometry_says g body h = (and_parts (are_spelled g body) (may_say g (copy_told body)) (passes_none (are_spelled g body && may_say g (copy_told body)) h)).1

faultless_says : (g : Geometry) (gate body : List ℕ) → copy_fault g gate body ≡ None → IsTrue (may_say g (copy_told body))
unfolding copy_fault
faultless_says g gate body h =
    let others = option_or (digest_fault body) (geometry_fault g body) in
    let behind = open_gate (not (slice_index gate 0 == 1)) (option_or (form_fault body) others) h in
    geometry_says g body (last_none (digest_fault body) (geometry_fault g body) (last_none (form_fault body) others behind))

told_says : (g : Geometry) (fault : Option CopyFault) (said told : CopyState) → (fault ≡ None → IsTrue (may_say g said)) → unless_fault fault said ≡ Some told → IsTrue (may_say g told)
told_says g None said told says is =
    let same : said ≡ told = cc is in
    subst (λ (t : CopyState). IsTrue (may_say g t)) same (says refl)
told_says g (Some fault) said told says is = absurd cc

copy_says : (a : Area) (c : Image) (side : Side) (told : CopyState) → copy_at a c side ≡ Some told → IsTrue (may_say a.geometry told)
copy_says a c side told =
    told_says a.geometry (fault_at a c side) (copy_told (body_at a c side)) told (faultless_says a.geometry (c (gate_of side)) (body_at a c side))

-- what holds of what either tells holds of what the newer one does
of_newer : (P : CopyState → Type 0) (a b : Option CopyState) (n : Newest) → ((told : CopyState) → a ≡ Some told → P told) → ((told : CopyState) → b ≡ Some told → P told)
    → newer a b ≡ Some n → P n.told
of_newer P None None n one other is = absurd cc
of_newer P None (Some b) n one other is =
    let same : b ≡ n.told = cc is in subst P same (other b refl)
of_newer P (Some a) None n one other is =
    let same : a ≡ n.told = cc is in subst P same (one a refl)
of_newer P (Some a) (Some b) n one other is = either (nat_lt a.serial b.serial) is where
  either : (t : Bool) → (if t then Some (record { side = sides.B; told = b }) else Some (record { side = sides.A; told = a })) ≡ Some n → P n.told
  either true is' = let same : b ≡ n.told = cc is' in subst P same (other b refl)
  either false is' = let same : a ≡ n.told = cc is' in subst P same (one a refl)

-- the newest copy says what one of the stripe's geometry may say
pub newest_says : (a : Area) (c : Image) (n : Newest) → newest_of a c ≡ Some n → IsTrue (may_say a.geometry n.told)
newest_says a c n =
    of_newer (λ (told : CopyState). IsTrue (may_say a.geometry told)) (copy_at a c sides.A) (copy_at a c sides.B) n (copy_says a c sides.A) (copy_says a c sides.B)

-- ---- what may be said

module _ (g : Geometry) (told : CopyState) (says : IsTrue (may_say g told)) where
  parts : (IsTrue (has_cursor g told && has_counts told)) × IsTrue (has_floor g told)
  parts = and_parts (has_cursor g told && has_counts told) (has_floor g told) says

  floor_as : (clean : Bool) → cond clean (lies_within (told.cursor + g.agg - g.content) (reach_of g told.cursor - g.content) told.floor) (told.floor == 0) ≡ true
      → (clean ≡ true → (told.cursor + g.agg - g.content ≤ cond clean told.floor (reach_of g told.cursor - g.content)) × (cond clean told.floor (reach_of g told.cursor - g.content) ≤ reach_of g told.cursor - g.content))
      × (clean ≡ false → cond clean told.floor (reach_of g told.cursor - g.content) ≡ reach_of g told.cursor - g.content)
  floor_as true h = (λ is. within (told.cursor + g.agg - g.content) (reach_of g told.cursor - g.content) told.floor h, λ no. absurd (cc no))
  floor_as false h = (λ no. absurd (cc no), λ is. refl)

  -- so an opening of it has the numbers of a copy
  pub copy_of : (found : List FoundRow) → IsCopyOf g (opening_with g told found)
  copy_of found =
      let a = and_parts (has_cursor g told) (has_counts told) parts.0 in
      let b = and_parts (lies_within g.content (2 ^ 62 - 1) told.cursor) (not (nat_lt g.content (slot_of g told.cursor + g.agg))) a.0 in
      let e = and_parts (lies_within 1 (2 ^ 62 - 1) told.serial) (lies_within 1 (2 ^ 62 - 1) told.next_put) a.1 in
      let cursor = within g.content (2 ^ 62 - 1) told.cursor b.0 in
      let serial = within 1 (2 ^ 62 - 1) told.serial e.0 in
      let number = within 1 (2 ^ 62 - 1) told.next_put e.1 in
      let fits : slot_of g told.cursor + g.agg ≤ g.content = grind (arith, b.1) in
      let is = mod-add-div told.cursor g.content in
      let floor = floor_as told.clean parts.1 in
      record {
        serial = (omega (arith, serial.0), omega (arith, serial.1));
        from = cursor.0;
        lap = omega (arith, fits, is, mul-suc g.content (told.cursor / g.content));
        below = omega (arith, cursor.1);
        number = (omega (arith, number.0), omega (arith, number.1));
        floor = record { clean = floor.0; other = floor.1 };
      }
