-- Calls on blocks on which guards do not rest.
use Rattle.std.proofs.Common.{◌≡◌, ◌≤◌, ◌<◌, ◌+◌, inl, inr, ℕ, Bool, List, sym, subst, arith}
use Rattle.device_log.specs.Image.{Image, IsImage}
use Rattle.device_log.specs.Calls.{Call}
use Rattle.device_log.specs.Faults.{IsEntry}
use Rattle.device_log.specs.Along.{Along, NoCall}
use Rattle.std.specs.Prelude.{All}
use Rattle.stripe_header.specs.declared.area.Area.{Area}
use Rattle.stripe_header.specs.declared.area.Side.{Side}
use Rattle.stripe_header.specs.declared.area.Side.TheVariants as sides
use Rattle.stripe_header.specs.Layout.{body_of, gate_of}
use Rattle.dir_sync.specs.SyncCalls.{MadeSome}
use Rattle.dir_sync.proofs.Touched.{AllOn}
use Rattle.cache_model.specs.State.{Mark}
use Rattle.reopening.specs.Guards.{AreGuarded, HeldCopy, IsGuarded, OpensToOne}
use Rattle.reopening.specs.Lasting.{TakesUpOne}
use Rattle.reopening.specs.Stages.{IsWatched, IsWatchedBeside}
use Rattle.reopening.proofs.Guarded.{IsOffOther, body_off, content_off, images_open, span_off}
use Rattle.reopening.proofs.Stages.{guards_stay}
use Rattle.sync_laws.proofs.Beside.{StaysBeside, beside_none, comes_on}

gate_off : (a : Area) (side : Side) → IsOffOther a side (gate_of side)
gate_off a sides.A = (λ (e : 1 ≡ 2). absurd (omega (arith, e)), λ from to. absurd (omega (arith, from)))
gate_off a sides.B = (λ (e : 2 ≡ 1). absurd (omega (arith, e)), λ from to. absurd (omega (arith, from)))

pub gate_few : (side : Side) → gate_of side ≤ 2
gate_few sides.A = omega arith
gate_few sides.B = omega arith

pub body_high : (a : Area) (side : Side) → 3 ≤ body_of a side
body_high a sides.A = omega arith
body_high a sides.B = omega arith

-- what a copy rests on lies behind the gates
pub guarded_high : (a : Area) (h : HeldCopy) (j : ℕ) → IsGuarded a h j → 3 ≤ j
guarded_high a h j (inl body) = let low = body_high a h.copy.side in omega (arith, low, body.0)
guarded_high a h j (inr (p, low, high, is)) = omega (arith, is)

-- and off the other copy
pub watched_off : (a : Area) (h : HeldCopy) (j : ℕ) → IsWatched a h j → IsOffOther a h.copy.side j
watched_off a h j (inl zero) = subst (IsOffOther a h.copy.side) (sym zero) (span_off a h.copy.side)
watched_off a h j (inr (inl gate)) = subst (IsOffOther a h.copy.side) (sym gate) (gate_off a h.copy.side)
watched_off a h j (inr (inr (inl body))) = body_off a h.copy.side j body
watched_off a h j (inr (inr (inr (p, low, high, is)))) = content_off a h.copy.side j (omega (arith, is))

module _ (a : Area) (marks : List Mark) (newest : HeldCopy) (settled : Bool) (first : Image) where
  abbrev M : Rattle.cache_model.specs.Opening.Opening → Type 0
  M = TakesUpOne marks

  abbrev Guards : List Call → Type 0
  Guards past = AreGuarded a (TakesUpOne marks) newest settled first past

  abbrev Opens : Image → Type 0
  Opens = OpensToOne a (TakesUpOne marks) newest.copy.told.serial

  -- guards rest on none of these blocks
  abbrev pub IsFree : (past : List Call) → AreGuarded a (TakesUpOne marks) newest settled first past → ℕ → ℕ → Type 0
  IsFree past g at n = (j : ℕ) → at ≤ j → j < at + n
      → (IsWatched a newest j → ⊥) × (IsWatchedBeside a (TakesUpOne marks) newest settled first past g.other j → ⊥)

  module _ (at n : ℕ) (old : List Call) (g : AreGuarded a (TakesUpOne marks) newest settled first old) (free : IsFree old g at n) where
    pub guards_beside : (new : List Call) → StaysBeside at n settled first old new → Guards new
    guards_beside new stays =
        guards_stay a marks newest settled first old new g
        (λ j is. stays j (λ low high. let f = free j low high in f.0 is))
        (λ j is. stays j (λ low high. let f = free j low high in f.1 is))

    -- calls on such blocks, each of which went, or the last of which failed
    pub calls_beside : IsImage first → (calls : List Call) → AllOn at n calls → (new : List Call) → All IsEntry new → MadeSome calls old new
        → StaysBeside at n settled first old new × Along Opens settled first old new
    calls_beside image calls on new all made =
        comes_on at n settled first image Opens old
        (λ past stays c may. let o = images_open a marks newest settled first past c (guards_beside past stays) may in o.1)
        calls on old new all made (beside_none at n settled first old, NoCall)
