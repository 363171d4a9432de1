-- What the answer of a call tells of the calls that were made, and of what stands behind them.
use Rattle.std.proofs.Common.{◌≡◌, inl, inr, ℕ, Bool, List, [], ◌∷◌, All, Result, Ok, Err, refl, sym, subst, arith}
use Rattle.std.proofs.lemmas.Bool.{eq-eqb}
use Rattle.std.specs.Prelude.{◌+◌, OnOk, OnErr, IfErr, true, false}
use Rattle.device_log.specs.Image.{Image, IsImage}
use Rattle.device_log.specs.Calls.{Call, Synced}
use Rattle.device_log.specs.Faults.{IsEntry, IsLog}
use Rattle.device_log.specs.Along.{Along, Stopped}
use Rattle.device_log.specs.Seen.{seen_of, MayLeave}
use Rattle.logged_disk.specs.Device.{DeviceState, seen}
use Rattle.stripe_header.specs.declared.area.Area.{Area}
use Rattle.stripe_header.specs.declared.area.Side.{Side}
use Rattle.stripe_header.specs.Layout.{gate_of, body_blocks}
use Rattle.dir_sync.specs.declared.progress.SyncProgress.{SyncProgress}
use Rattle.dir_sync.specs.declared.parts.Halt.{Halt}
use Rattle.dir_sync.specs.SyncCalls.{first_calls, body_calls, last_calls, shutting_calls, is_last, past_behind, MadeSome}
use Rattle.dir_sync.specs.Moments.{IsShut, IsReplaced, IsOpened, Spares, Stands}
use Rattle.dir_sync.specs.Laws.{MayWriteCopy, past_shut, past_put, past_done, IsWritingCopy, begun_pass, pass_behind, given_up, Halts}
use Rattle.dir_sync.specs.Passes.{StandsOn, pass_after}
use Rattle.dir_sync.specs.Runs.{BeginKeeps, IsToldRight}
use Rattle.dir_sync.proofs.Touched.{behind_some, stopped_some, touches_some}
use Rattle.dir_sync.proofs.Stages.{on_shutting, bars, shut_as}
use Rattle.dir_sync.proofs.Passes.{no_front, opens}
use Rattle.dir_sync.proofs.Syncs.{spare_gate, spares, replaces, puts, halts}

halts_writing : (a : Area) (side : Side) (body : List ℕ) (p : SyncProgress) (n count : ℕ) (shut : Bool)
    (old new : List Call)
    → Halts a side body p n count shut old new → IsWritingCopy a side body p n old new
halts_writing a side body p n count shut old new (inl (stopped, known)) = inl
    (stopped_some (first_calls side p) count old new stopped)
halts_writing a side body p n count shut old new (inr (inl (stopped, known))) =
    inr (inl (stopped_some (body_calls a side body p n) count (past_shut side p old) new stopped))
halts_writing a side body p n count shut old new (inr (inr (stopped, known))) =
    inr (inr (stopped_some (last_calls a side p n) count
    (past_put a side body p n old) new stopped))

module _ (a : Area) (side : Side) (body : List ℕ) (p : SyncProgress) (n : ℕ) (old new : DeviceState)
    (may : MayWriteCopy a body p n) (is : IsImage old.first) (log : IsLog new.past) where
  answer_writing : {T : Type 0} (r : Result T Halt)
      → OnOk r (new.past ≡ past_done a side body p n old.past)
      → IfErr r (λ h. Halts a side body p n h.count h.shut old.past new.past
      × (h.count ≡ new.faults))
      → IsWritingCopy a side body p n old.past new.past
  answer_writing (Ok done) went halted =
      inr (inr (subst (λ past. MadeSome (last_calls a side p n)
      (past_put a side body p n old.past) past) (sym went)
      (behind_some (last_calls a side p n) (past_put a side body p n old.past))))
  answer_writing (Err h) went halted = halts_writing a side body p n h.count h.shut old.past
      new.past halted.0

  pub answer_spares : {T : Type 0} (r : Result T Halt)
      → OnOk r (new.past ≡ past_done a side body p n old.past)
      → IfErr r (λ h. Halts a side body p n h.count h.shut old.past new.past
      × (h.count ≡ new.faults))
      → Spares a side old.settled old.first old.past new.past
  answer_spares r went halted = spares old.settled old.first a side body p n old.past may is
      new.past log.entries (answer_writing r went halted)

  pub answer_moments : {T : Type 0} (r : Result T Halt)
      → OnOk r (new.past ≡ past_done a side body p n old.past)
      → IfErr r (λ h. Halts a side body p n h.count h.shut old.past new.past
      × (h.count ≡ new.faults))
      → StandsOn a side body p old
      → Along (IsReplaced a side body (MayLeave old.settled old.first old.past)) old.settled
      old.first old.past new.past
  answer_moments r went halted stands =
      replaces old.settled old.first a side body p n old.past may is stands new.past log.entries
      (answer_writing r went halted)

  stands_as : (q : SyncProgress) → new.settled ≡ old.settled → new.first ≡ old.first
      → Stands a side body q old.settled old.first new.past → StandsOn a side body q new
  stands_as q settled first stands =
      subst (λ (b : Bool). Stands a side body q b new.first new.past) (sym settled)
      (subst (λ (c : Image). Stands a side body q old.settled c new.past) (sym first) stands)

  pub answer_stands : {T : Type 0} (r : Result T Halt) → new.settled ≡ old.settled
      → new.first ≡ old.first → OnOk r (new.past ≡ past_done a side body p n old.past)
      → IfErr r (λ h. Halts a side body p n h.count h.shut old.past new.past
      × (h.count ≡ new.faults))
      → StandsOn a side body p old → StandsOn a side body (pass_after a p n r) new
  answer_stands (Ok done) settled first went halted stands =
      stands_as (pass_behind a p n) settled first
      (subst (λ past. Stands a side body (pass_behind a p n) old.settled old.first past) (sym went)
      (puts old.settled old.first a side body p n old.past may is stands
      (subst (λ past. All IsEntry past) went log.entries)))
  answer_stands (Err h) settled first went halted stands =
      stands_as (given_up h.shut) settled first
      (halts old.settled old.first a side body p n old.past may is stands h.count h.shut new.past
      log.entries halted.0)

-- while the gate is shut, and behind it
module _ {T E : Type 0} (side : Side) (shut : Bool) (old new : DeviceState) where
  bar_made : (r : Result T E) → OnOk r (new.past ≡ past_behind (shutting_calls side shut) old.past)
      → OnErr r (Stopped (shutting_calls side shut) new.faults old.past new.past)
      → MadeSome (shutting_calls side shut) old.past new.past
  bar_made (Ok done) went stopped =
      subst (λ past. MadeSome (shutting_calls side shut) old.past past) (sym went)
      (behind_some (shutting_calls side shut) old.past)
  bar_made (Err e) went stopped =
      stopped_some (shutting_calls side shut) new.faults old.past new.past stopped

told_again : (side : Side) (shut : Bool) (old new : DeviceState) → IsImage old.first → IsLog new.past
    → new.first ≡ old.first → MadeSome (shutting_calls side shut) old.past new.past
    → IsToldRight side shut old → IsToldRight side shut new
told_again side false old new is log first made told = λ is_shut. absurd cc
told_again side true old new is log first made told = λ is_shut.
    let t = touches_some old.settled old.first (gate_of side) 0 (Synced ∷ []) (tt, tt)
    old.past new.past is log.entries made in
    subst (λ (c : Image). IsShut side (seen_of c new.past)) (sym first)
    (shut_as side (seen_of old.first new.past) (seen_of old.first old.past)
    (t.seen (gate_of side) (λ low high. omega (arith, low, high))) (told refl))

pub bar_keeps : {T E : Type 0} (a : Area) (side : Side) (shut : Bool) (old new : DeviceState)
    → IsImage old.first → IsLog new.past → (r : Result T E) → new.first ≡ old.first
    → OnOk r (new.past ≡ past_behind (shutting_calls side shut) old.past)
    → OnErr r (Stopped (shutting_calls side shut) new.faults old.past new.past)
    → BeginKeeps a side shut old new
bar_keeps a side shut old new is log r first went stopped =
    let made = bar_made side shut old new r went stopped in
    let t = touches_some old.settled old.first (gate_of side) 1 (shutting_calls side shut)
    (on_shutting side shut) old.past new.past is log.entries made in
    record {
      moments = t.moments;
      spares = spare_gate old.settled old.first a side old.past new.past t;
      told = told_again side shut old new is log first made;
    }

pub bar_stands : {T E : Type 0} (a : Area) (side : Side) (body : List ℕ) (shut : Bool)
    (old new : DeviceState)
    → (r : Result T E) → new.settled ≡ old.settled → new.first ≡ old.first
    → OnOk r (new.past ≡ past_behind (shutting_calls side shut) old.past)
    → (shut ≡ true → IsShut side (seen old)) → OnOk r (StandsOn a side body begun_pass new)
bar_stands a side body shut old new (Ok done) settled first went known =
    subst (λ (b : Bool). Stands a side body begun_pass b new.first new.past) (sym settled)
    (subst (λ (c : Image). Stands a side body begun_pass old.settled c new.past) (sym first)
    (subst (λ past. Stands a side body begun_pass old.settled old.first past) (sym went)
    (record {
      within = omega arith;
      gate = λ is_shut. bars old.settled old.first side shut old.past known;
      front = no_front old.settled old.first a side body
          (past_behind (shutting_calls side shut) old.past);
      whole = λ other. absurd cc;
    })))
bar_stands a side body shut old new (Err e) settled first went known = tt

-- behind the last blocks
pub answer_opens : {T E : Type 0} (a : Area) (side : Side) (body : List ℕ) (p : SyncProgress) (n : ℕ)
    (old new : DeviceState) (r : Result T E)
    → new.settled ≡ old.settled → new.first ≡ old.first
    → OnOk r (new.past ≡ past_done a side body p n old.past)
    → p.written + n ≡ body_blocks a → OnOk r (IsOpened side new.settled new.first new.past)
answer_opens a side body p n old new (Ok done) settled first went last =
    subst (λ (b : Bool). IsOpened side b new.first new.past) (sym settled)
    (subst (λ (c : Image). IsOpened side old.settled c new.past) (sym first)
    (subst (λ past. IsOpened side old.settled old.first past) (sym went)
    (opens old.settled old.first side (is_last a p n) (past_put a side body p n old.past)
    (eq-eqb (p.written + n) (body_blocks a) last))))
answer_opens a side body p n old new (Err e) settled first went last = tt
