-- The three parts of a sync, and what guards become in each.
use Rattle.std.proofs.Common.{◌≡◌, ◌≢◌, ◌≤◌, ◌<◌, ◌+◌, ◌*◌, ℕ, Bool, true, false, List, [], ◌∷◌, length, All, refl, sym, subst, arith}
use Rattle.device_log.specs.Image.{Image, IsImage}
use Rattle.device_log.specs.Calls.{Call, Synced}
use Rattle.device_log.specs.Faults.{IsEntry}
use Rattle.device_log.specs.Along.{Along}
use Rattle.stripe_header.specs.declared.area.Area.{Area}
use Rattle.stripe_header.specs.declared.area.Side.{Side}
use Rattle.stripe_header.specs.Layout.{body_blocks, body_of, gate_of, other_side}
use Rattle.dir_sync.specs.Moments.{IsBarred}
use Rattle.dir_sync.specs.SyncCalls.{MadeSome, opening_calls, shutting_calls}
use Rattle.dir_sync.proofs.Stages.{on_last, on_shutting}
use Rattle.stripe_copies.specs.Copies.{writing_calls}
use Rattle.cache_model.specs.State.{Mark}
use Rattle.reopening.specs.Guards.{AreGuarded, HeldCopy, IsCopyKept, IsNoHarm, IsOld, OpensToOne, OtherNext, OtherOld, OtherShut}
use Rattle.reopening.specs.Lasting.{TakesUpOne}
use Rattle.reopening.specs.Stages.{IsWatched}
use Rattle.sync_laws.specs.KnownCopies.{IsClear, IsKnownBeside, spared_to}
use Rattle.sync_laws.proofs.Beside.{StaysBeside}
use Rattle.sync_laws.proofs.Carrying.{barred_on, kept_on, old_on}
use Rattle.sync_laws.proofs.Watching.{IsFree, body_high, calls_beside, gate_few, guarded_high, guards_beside, watched_off}

-- guards, with what is known of the other copy, and what could be left meanwhile
pub record GuardsPass (a : Area) (marks : List Mark) (newest : HeldCopy) (settled : Bool) (first : Image)
    (shut : Bool) (clear : ℕ) (old new : List Call) : Type 0 where
  pub guards : AreGuarded a (TakesUpOne marks) newest settled first new
  pub beside : IsKnownBeside a marks newest shut clear settled first new guards.other
  pub moments : Along (OpensToOne a (TakesUpOne marks) newest.copy.told.serial) settled first old new

module _ (a : Area) (marks : List Mark) (newest : HeldCopy) (settled : Bool) (first : Image) where
  abbrev pub Passed : Bool → ℕ → List Call → List Call → Type 0
  Passed = GuardsPass a marks newest settled first

  abbrev Guards : List Call → Type 0
  Guards past = AreGuarded a (TakesUpOne marks) newest settled first past

  abbrev Other : List Call → Type 0
  Other past = IsNoHarm a (TakesUpOne marks) newest settled first past

  -- guards with another reason why the other copy is no harm
  abbrev pub beside_this : (past : List Call) → AreGuarded a (TakesUpOne marks) newest settled first past
      → IsNoHarm a (TakesUpOne marks) newest settled first past → AreGuarded a (TakesUpOne marks) newest settled first past
  beside_this past g other = record { span = g.span; gate = g.gate; copy = g.copy; other = other }

  module _ (image : IsImage first) (target : Side) (beside : target ≡ other_side newest.copy.side) where
    off_gate : (j : ℕ) → IsWatched a newest j → j ≢ gate_of target
    off_gate j is = let o = watched_off a newest j is in subst (λ (s : Side). j ≢ gate_of s) (sym beside) o.0

    off_body : (j : ℕ) → IsWatched a newest j → body_of a target ≤ j → j < body_of a target + body_blocks a → ⊥
    off_body j is =
        let o = watched_off a newest j is in
        subst (λ (s : Side). body_of a s ≤ j → j < body_of a s + body_blocks a → ⊥) (sym beside) o.1

    -- a block behind the gates is not among one at the gate
    high_off : (j : ℕ) → 3 ≤ j → gate_of target ≤ j → j < gate_of target + 1 → ⊥
    high_off j high low here = let few = gate_few target in omega (arith, high, low, here, few)

    -- ---- the gate is shut

    module _ (old new : List Call) (g : AreGuarded a (TakesUpOne marks) newest settled first old) (all : All IsEntry new) where
      old_stays : IsOld a newest.copy settled first old → StaysBeside (gate_of target) 1 settled first old new
          → IsOld a newest.copy settled first new
      old_stays is stays =
          old_on settled first old new a newest.copy
          (λ j body. stays j (high_off j (let low = body_high a (other_side newest.copy.side) in omega (arith, low, body.0)))) is

      kept_stays : (h : HeldCopy) → IsCopyKept a (TakesUpOne marks) h settled first old
          → StaysBeside (gate_of target) 1 settled first old new → IsCopyKept a (TakesUpOne marks) h settled first new
      kept_stays h kept stays =
          kept_on settled first old new a (TakesUpOne marks) h (λ j is. stays j (high_off j (guarded_high a h j is))) kept

      abbrev Shuts : Bool → ℕ → Type 0
      Shuts shut clear = Passed shut clear old new × StaysBeside (gate_of target) 1 settled first old new

      -- a gate on which the guards rest is not written
      when_shut : (clear : ℕ) → IsBarred (other_side newest.copy.side) settled first old → MadeSome (Synced ∷ []) old new → Shuts true clear
      when_shut clear is made =
          let g1 = beside_this old g (OtherShut is) in
          let free : IsFree a marks newest settled first old g1 0 0 = λ j low high. absurd (omega (arith, high)) in
          let went = calls_beside a marks newest settled first 0 0 old g1 free image (Synced ∷ []) (tt, tt) new all made in
          let stays = went.0 in
          let gs = guards_beside a marks newest settled first 0 0 old g1 free new stays in
          let other = other_side newest.copy.side in
          let barred = barred_on settled first old new other (stays (gate_of other) (λ low high. absurd (omega (arith, high)))) is in (
            record { guards = beside_this new gs (OtherShut barred); beside = refl; moments = went.1 },
            λ j out. stays j (λ low high. absurd (omega (arith, high))),
          )

      when_old : (clear : ℕ) → IsOld a newest.copy settled first old → MadeSome (shutting_calls target false) old new → Shuts false clear
      when_old clear is made =
          let g1 = beside_this old g (OtherOld is) in
          let free : IsFree a marks newest settled first old g1 (gate_of target) 1 = λ j low high. (
            λ watched. off_gate j watched (omega (arith, low, high)),
            λ body. high_off j (let b = body_high a (other_side newest.copy.side) in omega (arith, b, body.0)) low high,
          ) in
          let went = calls_beside a marks newest settled first (gate_of target) 1 old g1 free image (shutting_calls target false) (on_shutting target false) new all made in
          let gs = guards_beside a marks newest settled first (gate_of target) 1 old g1 free new went.0 in
          (record { guards = beside_this new gs (OtherOld (old_stays is went.0)); beside = refl; moments = went.1 }, went.0)

      when_next : (clear : ℕ) (h : HeldCopy) (side : h.copy.side ≡ other_side newest.copy.side) (later : newest.copy.told.serial < h.copy.told.serial)
          → IsCopyKept a (TakesUpOne marks) h settled first old → IsClear a clear (spared_to a.geometry newest.copy.told) h
          → MadeSome (shutting_calls target false) old new → Shuts false clear
      when_next clear h side later kept content made =
          let g1 = beside_this old g (OtherNext h side later kept) in
          let free : IsFree a marks newest settled first old g1 (gate_of target) 1 = λ j low high. (
            λ watched. off_gate j watched (omega (arith, low, high)),
            λ is. high_off j (guarded_high a h j is) low high,
          ) in
          let went = calls_beside a marks newest settled first (gate_of target) 1 old g1 free image (shutting_calls target false) (on_shutting target false) new all made in
          let gs = guards_beside a marks newest settled first (gate_of target) 1 old g1 free new went.0 in
          (record { guards = beside_this new gs (OtherNext h side later (kept_stays h kept went.0)); beside = (refl, content); moments = went.1 }, went.0)

      shuts_by : (other : Other old) (shut : Bool) (clear : ℕ) → IsKnownBeside a marks newest shut clear settled first old other
          → MadeSome (shutting_calls target shut) old new → Shuts shut clear
      shuts_by (OtherShut is) true clear known made = when_shut clear is made
      shuts_by (OtherShut is) false clear known made = absurd cc
      shuts_by (OtherOld is) true clear known made = absurd cc
      shuts_by (OtherOld is) false clear known made = when_old clear is made
      shuts_by (OtherNext h side later kept) true clear known made = absurd (let e = known.0 in cc e)
      shuts_by (OtherNext h side later kept) false clear known made = when_next clear h side later kept known.1 made

      pub shuts : (shut : Bool) (clear : ℕ) → IsKnownBeside a marks newest shut clear settled first old g.other
          → MadeSome (shutting_calls target shut) old new → Shuts shut clear
      shuts = shuts_by g.other

      -- ---- the body is written behind a gate that is shut

      pub writes : (clear : ℕ) (body : List ℕ) → length body ≡ 512 * body_blocks a → IsBarred target settled first old
          → MadeSome (writing_calls a target body) old new
          → Passed true clear old new × StaysBeside (body_of a target) (body_blocks a) settled first old new
      writes clear body long is made =
          let is1 : IsBarred (other_side newest.copy.side) settled first old = subst (λ (s : Side). IsBarred s settled first old) beside is in
          let g1 = beside_this old g (OtherShut is1) in
          let at = body_of a target in
          let n = body_blocks a in
          let high = body_high a target in
          let free : IsFree a marks newest settled first old g1 at n = λ j low below. (
            λ watched. off_body j watched low below,
            λ gate. let few = gate_few (other_side newest.copy.side) in omega (arith, gate, few, low, high),
          ) in
          let went = calls_beside a marks newest settled first at n old g1 free image (writing_calls a target body)
          ((refl, omega (arith, long)), (tt, tt)) new all made in
          let stays = went.0 in
          let gs = guards_beside a marks newest settled first at n old g1 free new stays in
          let other = other_side newest.copy.side in
          let few = gate_few other in
          let barred = barred_on settled first old new other (stays (gate_of other) (λ low below. omega (arith, few, low, high))) is1 in
          (record { guards = beside_this new gs (OtherShut barred); beside = refl; moments = went.1 }, stays)

      -- ---- the gate is opened before a copy that stands

      pub opens : (clear : ℕ) (h : HeldCopy) (side : h.copy.side ≡ other_side newest.copy.side) (later : newest.copy.told.serial < h.copy.told.serial)
          → IsCopyKept a (TakesUpOne marks) h settled first old → IsClear a clear (spared_to a.geometry newest.copy.told) h
          → MadeSome (opening_calls target) old new
          → Passed false clear old new × IsCopyKept a (TakesUpOne marks) h settled first new
      opens clear h side later kept content made =
          let g1 = beside_this old g (OtherNext h side later kept) in
          let free : IsFree a marks newest settled first old g1 (gate_of target) 1 = λ j low high. (
            λ watched. off_gate j watched (omega (arith, low, high)),
            λ is. high_off j (guarded_high a h j is) low high,
          ) in
          let went = calls_beside a marks newest settled first (gate_of target) 1 old g1 free image (opening_calls target) (on_last target true) new all made in
          let gs = guards_beside a marks newest settled first (gate_of target) 1 old g1 free new went.0 in
          let then = kept_stays h kept went.0 in
          (record { guards = beside_this new gs (OtherNext h side later then); beside = (refl, content); moments = went.1 }, then)
