-- Guards stay, widen, and pass to the next copy.
use Rattle.std.proofs.Common.{◌≡◌, ◌≢◌, ◌≤◌, ◌<◌, ◌+◌, ◌++◌, inl, inr, ℕ, Bool, false, List, Some, refl, sym, ap, subst, ◌∙◌, arith}
use Rattle.std.specs.Prelude.{slice_index}
use Rattle.device_log.specs.Image.{Image, IsImage}
use Rattle.device_log.specs.Calls.{Call}
use Rattle.device_log.specs.Seen.{is_pending, seen_of}
use Rattle.device_log.proofs.Spans.{span_same}
use Rattle.stripe_header.specs.declared.area.Area.{Area}
use Rattle.stripe_header.specs.declared.area.Side.{Side}
use Rattle.stripe_header.specs.Layout.{body_blocks, body_of, gate_of, other_side}
use Rattle.dir_sync.specs.Moments.{HasBody, IsOpened, Spares}
use Rattle.cache_model.specs.Opening.{Opening}
use Rattle.reopening.specs.Newest.{IsBeaten, body_at}
use Rattle.reopening.specs.Alike.{IsInBody}
use Rattle.reopening.specs.Guards.{AreGuarded, HeldCopy, IsCopyKept, IsGateOpen, IsGuarded, IsHeldOn, IsNoHarm, IsToCome, MayOpen, OtherNext, OtherOld, OtherShut, told_by_body}
use Rattle.reopening.specs.Lasting.{TakesUpOne}
use Rattle.reopening.specs.Stages.{GuardsStay, GuardsWiden, IsWatched, IsWatchedBeside, NextIsNewest, RunIsNewest, StaysIn}
use Rattle.reopening.proofs.Guarded.{IsOffOther, blocks_same, body_off, content_off, earlier_beaten, span_off, span_stays}
use Rattle.reopening.proofs.Lasting.{among_more}
use Rattle.reopening.proofs.Winning.{back}

-- ---- calls that leave what guards rest on

module _ (a : Area) (MayBeFound : Opening → Type 0) (settled : Bool) (first : Image) (old new : List Call) where
  abbrev Stays : ℕ → Type 0
  Stays j = StaysIn settled first old new j

  first_byte : (j : ℕ) → Stays j → slice_index (seen_of first new j) 0 ≡ slice_index (seen_of first old j) 0
  first_byte j s = ap (λ (l : List ℕ). slice_index l 0) s.1

  kept_on : (h : HeldCopy) → ((j : ℕ) → IsGuarded a h j → Stays j)
      → IsCopyKept a MayBeFound h settled first old → IsCopyKept a MayBeFound h settled first new
  kept_on h stays kept = record {
    opens = kept.opens;
    held = λ j is.
        let s = stays j is in
        let e = kept.held j is in
        (s.0 e.0, s.1 ∙ e.1);
  }

  harmless_on : (newest : HeldCopy) (other : IsNoHarm a MayBeFound newest settled first old)
      → ((j : ℕ) → IsWatchedBeside a MayBeFound newest settled first old other j → Stays j)
      → IsNoHarm a MayBeFound newest settled first new
  harmless_on newest (OtherShut is) stays =
      let gate = gate_of (other_side newest.copy.side) in
      let s = stays gate refl in
      OtherShut (record {
        still = s.0 is.still;
        shut = λ (e : slice_index (seen_of first new gate) 0 ≡ 1). is.shut (sym (first_byte gate s) ∙ e);
      })
  harmless_on newest (OtherOld is) stays =
      let side = other_side newest.copy.side in
      let same : body_at a (seen_of first new) side ≡ body_at a (seen_of first old) side =
      span_same (seen_of first new) (seen_of first old) (body_of a side) (body_blocks a) (λ j low high. let s = stays j (low, high) in s.1) in
      OtherOld (record {
        stays = λ j there. let s = stays j there in s.0 (is.stays j there);
        beaten = subst (λ (b : List ℕ). IsBeaten (told_by_body a b) newest.copy.side newest.copy.told.serial) (sym same) is.beaten;
      })
  harmless_on newest (OtherNext h side later kept) stays = OtherNext h side later (kept_on h stays kept)

  pub guards_on : (newest : HeldCopy) (g : AreGuarded a MayBeFound newest settled first old)
      → ((j : ℕ) → IsWatched a newest j → Stays j)
      → ((j : ℕ) → IsWatchedBeside a MayBeFound newest settled first old g.other j → Stays j)
      → AreGuarded a MayBeFound newest settled first new
  guards_on newest g mine others =
      let zero = mine 0 (inl refl) in
      let gate = mine (gate_of newest.copy.side) (inr (inl refl)) in
      record {
        span = (zero.0 g.span.0, span_stays a (seen_of first old) (seen_of first new) (sym zero.1) g.span.1);
        gate = (gate.0 g.gate.0, first_byte (gate_of newest.copy.side) gate ∙ g.gate.1);
        copy = kept_on newest (λ j is. mine j (inr (inr is))) g.copy;
        other = harmless_on newest g.other others;
      }

-- ---- more may be found

module _ (a : Area) (Few More : Opening → Type 0) (more : (o : Opening) → Few o → More o) (settled : Bool) (first : Image) (past : List Call) where
  wider : (h : HeldCopy) → IsCopyKept a Few h settled first past → IsCopyKept a More h settled first past
  wider h kept =
      let o = kept.opens in
      record {
        opens = record { image = o.image; tells = o.tells; sound = o.sound; ends = o.ends; found = more _ o.found };
        held = kept.held;
      }

  harmless_wider : (newest : HeldCopy) → IsNoHarm a Few newest settled first past → IsNoHarm a More newest settled first past
  harmless_wider newest (OtherShut is) = OtherShut is
  harmless_wider newest (OtherOld is) = OtherOld is
  harmless_wider newest (OtherNext h side later kept) = OtherNext h side later (wider h kept)

  pub guards_wider : (newest : HeldCopy) → AreGuarded a Few newest settled first past → AreGuarded a More newest settled first past
  guards_wider newest g = record { span = g.span; gate = g.gate; copy = wider newest g.copy; other = harmless_wider newest g.other }

-- ---- the next copy is the newest

module _ (a : Area) (MayBeFound : Opening → Type 0) (newest h : HeldCopy) (settled : Bool) (first : Image) (past : List Call)
    (side : h.copy.side ≡ other_side newest.copy.side) (later : newest.copy.told.serial < h.copy.told.serial) where
  abbrev was : Side
  was = newest.copy.side

  -- what was the newest is old
  pub old_beside : MayOpen a MayBeFound newest
      → ((j : ℕ) → IsInBody a was j → (is_pending settled past j ≡ false) × (seen_of first past j ≡ newest.image j))
      → IsNoHarm a MayBeFound h settled first past
  old_beside opens held =
      let mine : other_side h.copy.side ≡ was = ap other_side side ∙ back was in
      let same : body_at a (seen_of first past) was ≡ body_at a newest.image was =
      span_same (seen_of first past) newest.image (body_of a was) (body_blocks a) (λ j low high. let e = held j (low, high) in e.1) in
      let told : told_by_body a (body_at a (seen_of first past) (other_side h.copy.side)) ≡ Some newest.copy.told =
      ap (λ (s : Side). told_by_body a (body_at a (seen_of first past) s)) mine ∙ (ap (told_by_body a) same ∙ opens.tells) in
      OtherOld (record {
        stays = subst (λ (s : Side). (j : ℕ) → IsInBody a s j → is_pending settled past j ≡ false) (sym mine) (λ j there. let e = held j there in e.0);
        beaten = subst (λ o. IsBeaten o h.copy.side h.copy.told.serial) (sym told) (earlier_beaten newest.copy.told h.copy.side h.copy.told.serial later);
      })

  pub next_newest : AreGuarded a MayBeFound newest settled first past
      → IsCopyKept a MayBeFound h settled first past → IsGateOpen h.copy.side settled first past
      → AreGuarded a MayBeFound h settled first past
  next_newest g kept gate = record {
    span = g.span;
    gate = gate;
    copy = kept;
    other = old_beside g.copy.opens (λ j there. g.copy.held j (inl there));
  }

module _ (a : Area) (MayBeFound : Opening → Type 0) (newest h : HeldCopy) (settled : Bool) (first : Image) (old new : List Call)
    (g : AreGuarded a MayBeFound newest settled first old) (next : IsToCome a MayBeFound newest h settled first old)
    (image : IsImage (seen_of first new)) (spares : Spares a h.copy.side settled first old new) (opened : IsOpened h.copy.side settled first new)
    (whole : HasBody a h.copy.side (body_at a h.image h.copy.side) (seen_of first new)) where
  off_same : (j : ℕ) → IsOffOther a newest.copy.side j → seen_of first new j ≡ seen_of first old j
  off_same j off =
      spares.seen j (subst (λ (s : Side). j ≢ gate_of s) (sym next.side) off.0)
      (subst (λ (s : Side). body_of a s ≤ j → j < body_of a s + body_blocks a → ⊥) (sym next.side) off.1)

  next_held : IsHeldOn a h settled first new
  next_held j (inl body) =
      (opened.still j, blocks_same (seen_of first new) h.image image next.opens.image (body_of a h.copy.side) (body_blocks a) whole j body.0 body.1)
  next_held j (inr there) =
      let held = next.held j there in
      (opened.still j, off_same j (content_off a newest.copy.side j (let is = there.3 in omega (arith, is))) ∙ held.1)

  pub run_newest : AreGuarded a MayBeFound h settled first new
  run_newest = record {
    span = (opened.still 0, span_stays a (seen_of first old) (seen_of first new) (sym (off_same 0 (span_off a newest.copy.side))) g.span.1);
    gate = (opened.still (gate_of h.copy.side), opened.opened);
    copy = record { opens = next.opens; held = next_held };
    other = old_beside a MayBeFound newest h settled first new next.side next.later g.copy.opens (λ j there.
        let e = g.copy.held j (inl there) in
        (opened.still j, off_same j (body_off a newest.copy.side j there) ∙ e.1));
  }

-- ---- of the syncs of a session

pub guards_stay : GuardsStay
guards_stay a marks newest settled first old new g = guards_on a (TakesUpOne marks) settled first old new newest g

pub guards_widen : GuardsWiden
guards_widen a added marks newest settled first past =
    guards_wider a (TakesUpOne marks) (TakesUpOne (added ++ marks))
    (λ o found. (found.0, among_more added marks found.0 found.1, found.2)) settled first past newest

pub next_is_newest : NextIsNewest
next_is_newest a marks newest h settled first past g side later kept gate =
    next_newest a (TakesUpOne marks) newest h settled first past side later g kept gate

pub run_is_newest : RunIsNewest
run_is_newest a marks newest h settled first old new g next image spares opened whole =
    run_newest a (TakesUpOne marks) newest h settled first old new g next image spares opened whole
