-- The word `floor` does not fall.
use Rattle.std.proofs.Common.{◌≡◌, ℕ, ◌%◌, ◌≤◌, List, [], ◌∷◌, slice_index, ap, ◌∙◌, arith}
use mathlib.Core.Logic.{dite}
use native.Mathlib.Decide.{ℕ_discrete}
use lib.ListN.{get_elem?}
use Rattle.atomic_table.specs.Table.{State, Step}
use Rattle.atomic_table.proofs.Lists.{set_here, set_else}
use Rattle.stripe_lock.specs.declared.kept.KeptState.{Ghosts}
use Rattle.stripe_lock.specs.declared.view.View.{View}
use Rattle.stripe_lock.specs.Rule.{floor_word}
use Rattle.stripe_lock.specs.Steps.{Holder, drew, looked, took, gave_back, ended_turn, noted_turn, raised_floor, saw, lowered, settled}
use Rattle.stripe_lock.specs.Course.{PassMakes, by_draw, by_look, by_take, by_note, by_raise, by_give, by_end, by_see, by_low, by_settle, by_cut, by_join, LockGoesOn, StepKeepsFloor, FloorNeverFalls}
use Rattle.stripe_lock.proofs.Totals.{in_range}
use Rattle.stripe_lock.proofs.Keeping.{one_view, Rule}

module _ {T R : Type 0} (k : Ghosts T R) (seats : ℕ) (start : List R) where
  -- the pass that had seen the floor has seen as much behind the step, and none has seen more than is published
  not_lower : (then : Step T → Holder T R → ℕ → Holder T R → Type 0) (s t : State T (View R)) → Rule k seats start s → Rule k seats start t → (p : PassMakes then s t) → p.me.0.peak ≤ p.view.peak
      → slice_index s.words floor_word ≤ slice_index t.words floor_word
  not_lower then s t r q p up = let h = r.top_seen in let is = h.3 in let before = r.words.floor in let behind = q.words.floor in dite (ℕ_discrete h.0 p.pass)
      (λ e. let same : p.me.0.peak ≡ h.1.peak = ap (λ (u : View R). u.peak) (one_view s.views p.pass h.0 p.me.0 h.1 p.at h.2 e) in
      let low = (q.each_view p.pass p.view (ap (λ (z : State T (View R)). get_elem? z.views p.pass) p.after ∙ set_here s.views p.pass p.view (in_range s.views p.pass p.me.0 p.at))).low in omega arith)
      (λ ne. let low = (q.each_view h.0 h.1 (ap (λ (z : State T (View R)). get_elem? z.views h.0) p.after ∙ (set_else s.views p.pass h.0 p.view ne ∙ h.2))).low in omega arith)

  abbrev peak_of : Holder T R → ℕ
  peak_of m = m.0.peak

  pub step_keeps_floor : StepKeepsFloor k (Rule k seats start)
  step_keeps_floor s t r q (by_draw p) = not_lower drew s t r q p (let e = ap (λ (u : View R). u.peak) p.told.2 in omega arith)
  step_keeps_floor s t r q (by_look p) = not_lower looked s t r q p (dite (ℕ_discrete p.found (p.me.0.ticket % 18446744073709551616))
      (λ e. let now = ap peak_of (p.told.0 e) in omega arith) (λ ne. let now = ap peak_of (p.told.1 ne) in omega arith))
  step_keeps_floor s t r q (by_take p) = not_lower (took k) s t r q p (let e = ap (λ (u : View R). u.peak) p.told.2 in omega arith)
  step_keeps_floor s t r q (by_note p) = not_lower (noted_turn k) s t r q p (let e = p.told.1 in omega arith)
  step_keeps_floor s t r q (by_raise p) = not_lower raised_floor s t r q p (let e = ap peak_of p.told in omega arith)
  step_keeps_floor s t r q (by_give p) = not_lower gave_back s t r q p (let e = ap peak_of p.told in omega arith)
  step_keeps_floor s t r q (by_end p) = not_lower ended_turn s t r q p (let e = ap peak_of p.told in omega arith)
  step_keeps_floor s t r q (by_see p) = not_lower saw s t r q p (let e = ap peak_of p.told.1 in omega arith)
  step_keeps_floor s t r q (by_low p) = not_lower (lowered k) s t r q p (let e = ap peak_of p.told.1 in omega arith)
  step_keeps_floor s t r q (by_settle p) = not_lower (settled k) s t r q p (let e = ap peak_of p.told.1 in omega arith)
  step_keeps_floor s t r q (by_cut p) = let same = ap (λ (z : State T (View R)). slice_index z.words floor_word) p.after in omega arith
  step_keeps_floor s t r q (by_join p) = let same = ap (λ (z : State T (View R)). slice_index z.words floor_word) p.after in omega arith

  holds_first : (s : State T (View R)) (ts : List (State T (View R))) → LockGoesOn k (Rule k seats start) s ts → Rule k seats start s
  holds_first s [] h = h
  holds_first s (t ∷ ts) h = h.0

  pub floor_never_falls : FloorNeverFalls k (Rule k seats start)
  floor_never_falls s [] h = omega arith
  floor_never_falls s (t ∷ ts) h = let one = step_keeps_floor s t h.0 (holds_first t ts h.2) h.1 in let more = floor_never_falls t ts h.2 in omega arith
