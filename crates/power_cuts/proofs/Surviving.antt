-- Content may be written anywhere beside a copy that names no place, and what is held then is held on.
use Rattle.std.proofs.Common.{◌≡◌, ◌≢◌, ◌≤◌, ◌<◌, ◌+◌, ◌/◌, ◌++◌, ◌||◌, ◌^◌, inl, inr, ℕ, Bool, true, false, List, [], ◌∷◌, length, refl, sym, ap, subst, ◌∙◌, arith}
use Rattle.tape_base.specs.declared.geometries.Geometry.{Geometry}
use Rattle.tape_base.specs.Place.{content_block_of, directory_blocks_of}
use Rattle.device_log.specs.Image.{Image, in_range}
use Rattle.device_log.specs.Calls.{ToRead, ToSync, ToWrite, Call, Read, RefusedCall, Synced, Told, PowerCut, Flipped, Wrote}
use Rattle.device_log.specs.Seen.{is_pending, seen_of}
use Rattle.device_log.specs.Along.{Along, NoCall, OneMore}
use Rattle.device_log.proofs.Puts.{outside_range, put_others, within_others}
use Rattle.logged_disk.specs.Device.{DeviceState as Device, IsAfter}
use Rattle.logged_disk.proofs.GoingOn.{stays_as}
use Rattle.stripe_header.specs.declared.area.Area.{Area}
use Rattle.stripe_header.specs.declared.area.Side.{Side}
use Rattle.stripe_header.specs.declared.area.Side.TheVariants as sides
use Rattle.stripe_header.specs.Layout.{body_of, content_of, gate_of, other_side}
use Rattle.reopening.specs.Alike.{IsInBody}
use Rattle.dir_sync.specs.Moments.{IsBarred}
use Rattle.stripe_copies.specs.Format.{first_state}
use Rattle.cache_model.specs.declared.record.Rec.{Rec}
use Rattle.cache_model.specs.declared.record.Rec.TheVariants as rec
use Rattle.cache_model.specs.Kept.{Kept, state_of, with_records}
use Rattle.cache_model.proofs.Steps.{after_all-append}
use Rattle.cache_model.specs.State.{Mark, State, after_all, state_after}
use Rattle.reopening.specs.Alike.{has_place}
use Rattle.reopening.specs.Guards.{AreGuarded, HeldCopy, IsGuarded, OpensToOne, OtherShut}
use Rattle.reopening.specs.Lasting.{Lasts, OpensNow, TakesUpOne}
use Rattle.reopening.specs.Stages.{IsWatched, StaysIn}
use Rattle.reopening.proofs.Guarded.{images_open}
use Rattle.reopening.proofs.Lasting.{lasts_on, lasts_still}
use Rattle.reopening.proofs.Stages.{guards_on}
use Rattle.sync_laws.proofs.Watching.{gate_few}
use Rattle.sync_laws.proofs.Carrying.{barred_on}
use Rattle.power_cuts.specs.Surviving.{AllLeaveSyncs, CallsSurvive, HasSyncsOf, HeldOpens, HoldsSync, HoldsSyncOn, LeaveCopies, LeavesCopies, NoneMade, OneMade, Survives, SurvivesOn, leaves_syncs}

-- ---- one call

module _ (g : Geometry) (settled : Bool) (first : Image) (past : List Call) (j : ℕ) (low : j < content_block_of g) where
  beside : (at n : ℕ) → content_block_of g ≤ at → at ≤ j → j < at + n → ⊥
  beside at n content from to = omega (arith, low, content, from)

  call_leaves : (call : Call) → LeavesCopies g call → StaysIn settled first past (call ∷ past) j
  unfolding is_pending seen_of
  call_leaves (Read at bytes) is = (λ still. still, refl)
  call_leaves (Wrote at bytes) is =
      let n = length bytes / 512 in (
        λ still. ap (λ b. b || is_pending settled past j) (outside_range at n j (beside at n is)) ∙ still,
        put_others at bytes (seen_of first past) j (beside at n is),
      )
  call_leaves Synced is = (λ still. refl, refl)
  call_leaves (RefusedCall (ToRead at n) count) is = (λ still. still, refl)
  call_leaves (RefusedCall (ToWrite at n left) count) is = (
    λ still. ap (λ b. b || is_pending settled past j) (outside_range at n j (beside at n is)) ∙ still,
    within_others at n (Rattle.device_log.specs.Image.put at left (seen_of first past)) (seen_of first past) j (beside at n is),
  )
  call_leaves (RefusedCall ToSync count) is = (λ still. still, refl)
  call_leaves (Told act) is = absurd is
  call_leaves (PowerCut choice left) is = absurd is
  call_leaves (Flipped at byte) is = absurd is

-- ---- calls behind calls

pub leave_further : (g : Geometry) (a b c : List Call) → LeaveCopies g a b → LeaveCopies g b c → LeaveCopies g a c
leave_further g a b _ front NoneMade = front
leave_further g a b _ front (OneMade call past back is) = OneMade call past (leave_further g a b past front back) is

-- ---- all that is watched lies below the content

body_low : (a : Area) (side : Side) (j : ℕ) → IsInBody a side j → j < content_of a
body_low a sides.A j is = omega (arith, is.1)
body_low a sides.B j is = omega (arith, is.1)

module _ (a : Area) (newest : HeldCopy) (none : newest.end ≡ 0) where
  watched_low : (j : ℕ) → IsWatched a newest j → j < content_of a
  watched_low j (inl zero) = omega (arith, zero)
  watched_low j (inr (inl gate)) = let few = gate_few newest.copy.side in omega (arith, gate, few)
  watched_low j (inr (inr (inl body))) = body_low a newest.copy.side j body
  watched_low j (inr (inr (inr (p, low, high, is)))) = absurd (omega (arith, none, high))

gate_low : (a : Area) (side : Side) → gate_of side < content_of a
gate_low a side = let few = gate_few side in omega (arith, few)

-- ---- a session goes on

module _ (a : Area) (s : State) (settled : Bool) (first : Image) where
  abbrev Opens : Image → Type 0
  Opens = OpensToOne a (TakesUpOne s.marks) s.finished

  held_opens : (past : List Call) → HoldsSync a s settled first past → OpensNow a s settled first past
  held_opens past held c may =
      let opens = images_open a s.marks held.newest settled first past c held.guards may in
      subst (λ (n : ℕ). OpensToOne a (TakesUpOne s.marks) n c) held.serial opens.1

  held_on : (call : Call) (past : List Call) → LeavesCopies s.geometry call → HoldsSync a s settled first past
      → HoldsSync a s settled first (call ∷ past)
  held_on call past is held =
      let stays : (j : ℕ) → j < content_of a → StaysIn settled first past (call ∷ past) j = λ j low.
      call_leaves s.geometry settled first past j (let d = held.of_geometry.directory in omega (arith, low, d)) call is in
      let other = other_side held.newest.copy.side in
      let g : AreGuarded a (TakesUpOne s.marks) held.newest settled first past =
      record { span = held.guards.span; gate = held.guards.gate; copy = held.guards.copy; other = OtherShut held.barred } in
      let gate = stays (gate_of other) (gate_low a other) in
      record {
        of_geometry = held.of_geometry;
        newest = held.newest;
        serial = held.serial;
        names_none = held.names_none;
        guards = guards_on a (TakesUpOne s.marks) settled first past (call ∷ past) held.newest g
            (λ j watched. stays j (watched_low a held.newest held.names_none j watched))
            (λ j there. subst (StaysIn settled first past (call ∷ past)) (sym there) gate);
        barred = barred_on settled first past (call ∷ past) other gate held.barred;
      }

  -- behind each of them it is held, and opens
  all_on : (old new : List Call) → LeaveCopies s.geometry old new → HoldsSync a s settled first old
      → HoldsSync a s settled first new × Along Opens settled first old new
  all_on old _ NoneMade held = (held, NoCall)
  all_on old _ (OneMade call past before is) held =
      let h = all_on old past before held in
      let next = held_on call past is h.0 in
      (next, OneMore call past h.1 (held_opens (call ∷ past) next))

-- ---- the same of a state with the same syncs

module _ (a : Area) (s t : State) (settled : Bool) (first : Image) (past : List Call) (same : HasSyncsOf s t) where
  held_as : HoldsSync a s settled first past → HoldsSync a t settled first past
  held_as held = record {
    of_geometry = record {
      geometry = held.of_geometry.geometry ∙ sym same.geometry;
      directory = held.of_geometry.directory ∙ ap directory_blocks_of (sym same.geometry);
    };
    newest = held.newest;
    serial = held.serial ∙ sym same.finished;
    names_none = held.names_none;
    guards = subst (λ (m : List Mark). AreGuarded a (TakesUpOne m) held.newest settled first past) (sym same.marks) held.guards;
    barred = held.barred;
  }

-- ---- records that leave the syncs

one_left : (s : State) (r : Rec) → leaves_syncs r ≡ true → HasSyncsOf s (state_after s r)
one_left s (rec.Formatted geometry) is = absurd (cc is)
one_left s (rec.Opened geometry serial cursor floor next_put clean list) is = absurd (cc is)
one_left s (rec.SyncBegun serial cursor clean in_parts) is = absurd (cc is)
one_left s (rec.SyncDone serial) is = absurd (cc is)
one_left s _ is = record { geometry = refl; marks = refl; finished = refl }

pub syncs_left : (s : State) (recs : List Rec) → AllLeaveSyncs recs → HasSyncsOf s (after_all s recs)
syncs_left s [] all = record { geometry = refl; marks = refl; finished = refl }
syncs_left s (r ∷ recs) all =
    let one = one_left s r all.0 in
    let rest = syncs_left (state_after s r) recs all.1 in
    record {
      geometry = rest.geometry ∙ one.geometry;
      marks = rest.marks ∙ one.marks;
      finished = rest.finished ∙ one.finished;
    }

-- the same of what a chronicle keeps
pub kept_left : (k l : Kept) (recs : List Rec) → l ≡ with_records k recs → AllLeaveSyncs recs → HasSyncsOf (state_of k) (state_of l)
kept_left k l recs is all =
    subst (HasSyncsOf (state_of k)) (sym (ap state_of is ∙ after_all-append k.base k.since recs)) (syncs_left (state_of k) recs all)

-- ---- laws

pub opens_held : HeldOpens
opens_held a s d held = held_opens a s d.settled d.first d.past held

-- what is said of a device's first image is said of it later
held_then : (a : Area) (s : State) (old new : Device) → IsAfter old new → HoldsSyncOn a s old → HoldsSync a s new.settled new.first old.past
held_then a s old new goes held =
    subst (λ (b : Bool). HoldsSync a s b new.first old.past) (sym goes.settled)
    (subst (λ (i : Image). HoldsSync a s old.settled i old.past) (sym goes.first) held)

pub calls_survive : CallsSurvive
calls_survive old new s t goes leave same = record {
  holds = λ a held.
      let on = all_on a s new.settled new.first old.past new.past leave (held_then a s old new goes held) in
      held_as a s t new.settled new.first new.past same on.0;
  lasts = λ a held.
      let on = all_on a s new.settled new.first old.past new.past leave (held_then a s old new goes held) in
      record {
        added = [];
        marks = same.marks;
        later = let e = same.finished in omega (arith, e);
        geometry = same.geometry;
        moments = subst (λ (m : List Mark). Along (OpensToOne a (TakesUpOne m) s.finished) new.settled new.first old.past new.past)
            (sym same.marks) on.1;
      };
}

pub survives_on : SurvivesOn
survives_on x y z s t u goes one two = record {
  holds = λ a held. two.holds a (one.holds a held);
  lasts = λ a held.
      lasts_on a z.settled z.first x.past y.past z.past s t u
      (subst (λ (b : Bool). Lasts a b z.first x.past y.past s t) (sym goes.settled)
      (subst (λ (i : Image). Lasts a y.settled i x.past y.past s t) (sym goes.first) (one.lasts a held)))
      (two.lasts a (one.holds a held));
}

-- where no call was made
pub survives_still : (old new : Device) (s t : State) → new ≡ old → HasSyncsOf s t → Survives old new s t
survives_still old new s t still same =
    calls_survive old new s t (stays_as old new still) (subst (λ (d : Device). LeaveCopies s.geometry old.past d.past) (sym still) NoneMade) same
