-- What a cut may leave while copies are guarded opens to one that may be found.
use Rattle.std.proofs.Common.{◌≡◌, ◌≢◌, ◌≤◌, ◌<◌, ◌+◌, ◌-◌, ◌*◌, ◌==◌, take, drop, inl, inr, ℕ, Bool, true, false, List, Some, None, slice_index, refl, sym, ap, subst, ◌∙◌, arith}
use Rattle.std.proofs.lemmas.Bool.{cases_Bool, eqb-true}
use Rattle.device_log.specs.Image.{Image, IsImage, span}
use Rattle.device_log.specs.Calls.{Call}
use Rattle.device_log.specs.Seen.{MayLeave, is_pending, seen_of}
use Rattle.device_log.specs.Along.{Along, NoCall, OneMore}
use Rattle.device_log.proofs.CallLaws.{weaker}
use Rattle.device_log.proofs.Spans.{block_of_span, span_same}
use Rattle.dir_sync.specs.Moments.{IsOpen, IsReplaced, IsShut}
use Rattle.stripe_header.specs.declared.area.Area.{Area}
use Rattle.stripe_header.specs.declared.area.Side.{Side}
use Rattle.stripe_header.specs.declared.area.Side.TheVariants as sides
use Rattle.stripe_header.specs.declared.states.CopyState.{CopyState}
use Rattle.stripe_header.specs.Layout.{block_of_place, body_blocks, body_of, content_of, gate_of, other_side}
use Rattle.cache_model.specs.Opening.{Opening}
use Rattle.reopening.specs.declared.newest.Newest.{Newest}
use Rattle.reopening.specs.Newest.{IsBeaten, body_at, copy_at, directory_at, newest_of}
use Rattle.reopening.specs.Opens.{found_of, is_sound, opening_at, opening_with, opens_to, rows_told}
use Rattle.reopening.specs.Device.{TellsArea}
use Rattle.reopening.specs.Alike.{IsInBody}
use Rattle.reopening.specs.Guards.{AreGuarded, HasSpan, HeldCopy, IsGuarded, IsHeldOn, IsNoHarm, IsToCome, MayOpen, OpensToOne, OtherNext, OtherOld, OtherShut, held_at_rest, held_opening, told_by_body}
use Rattle.reopening.specs.Lasting.{GuardedImagesOpen, GuardedOpenNow, ReplacedOpens, RestIsGuarded, TakesUpOne}
use Rattle.reopening.proofs.Alike.{end_by_cursor, found_alike}
use Rattle.reopening.proofs.Whole.{opens_newest}
use Rattle.reopening.proofs.Winning.{accepted_copy, back, copy_open, copy_shut, shut_or_open, wins, won}

pub earlier_beaten : (t : CopyState) (side : Side) (serial : ℕ) → t.serial < serial → IsBeaten (Some t) side serial
earlier_beaten t sides.A serial earlier = omega (arith, earlier)
earlier_beaten t sides.B serial earlier = earlier

later_is_one : (a : Area) (MayBeFound : Opening → Type 0) (low high : ℕ) (c : Image) → low ≤ high
    → OpensToOne a MayBeFound high c → OpensToOne a MayBeFound low c
later_is_one a MayBeFound low high c le h = record {
  opening = h.opening;
  opens = h.opens;
  found = h.found;
  later = let l = h.later in omega (arith, le, l);
}

-- ---- an image that has what a copy has, and what it names

module _ (a : Area) (MayBeFound : Opening → Type 0) (h : HeldCopy) (may : MayOpen a MayBeFound h) (c : Image)
    (agree : (j : ℕ) → IsGuarded a h j → c j ≡ h.image j) where
  abbrev side : Side
  side = h.copy.side

  abbrev told : CopyState
  told = h.copy.told

  body_same : body_at a c side ≡ body_at a h.image side
  body_same = span_same c h.image (body_of a side) (body_blocks a) (λ j low high. agree j (inl (low, high)))

  directory_same : directory_at a c side ≡ directory_at a h.image side
  directory_same = span_same c h.image (body_of a side + 1) a.directory (λ j low high. agree j (inl (omega (arith, low), omega (arith, high))))

  told_same : told_by_body a (body_at a c side) ≡ Some told
  told_same = ap (told_by_body a) body_same ∙ may.tells

  opening_same : opening_at a c h.copy ≡ held_opening a h
  opening_same =
      ap (λ b. opening_with a.geometry told (found_of a told (rows_told a.geometry told b) c)) directory_same
      ∙ ap (opening_with a.geometry told)
      (sym (found_alike a h.copy h.end h.image c may.image (λ p low high. sym (agree (block_of_place a p) (inr (p, low, high, refl)))) may.ends))

  it_opens : newest_of a c ≡ Some h.copy → opens_to a c ≡ Some (held_opening a h)
  it_opens newest =
      opens_newest a c h.copy newest (ap (is_sound a.geometry) directory_same ∙ may.sound)
      ∙ ap Some opening_same

  -- it opens to the copy where that is accepted and the other one does not count
  accepted : copy_at a c side ≡ Some told → IsBeaten (copy_at a c (other_side side)) side told.serial → OpensToOne a MayBeFound told.serial c
  accepted is beaten = record {
    opening = held_opening a h;
    opens = it_opens (wins a c h.copy is beaten);
    found = may.found;
    later = let e : told.serial ≤ told.serial = omega arith in e;
  }

-- and the copy's gate is open
module _ (a : Area) (MayBeFound : Opening → Type 0) (newest : HeldCopy) (may : MayOpen a MayBeFound newest) (c : Image)
    (gate : IsOpen newest.copy.side c) (agree : (j : ℕ) → IsGuarded a newest j → c j ≡ newest.image j) where
  abbrev serial : ℕ
  serial = newest.copy.told.serial

  abbrev beside : Side
  beside = other_side newest.copy.side

  newest_told : copy_at a c newest.copy.side ≡ Some newest.copy.told
  newest_told = copy_open a c newest.copy.side gate ∙ told_same a MayBeFound newest may c agree

  alone : IsBeaten (copy_at a c beside) newest.copy.side serial → OpensToOne a MayBeFound serial c
  alone beaten = accepted a MayBeFound newest may c agree newest_told beaten

  none_alone : copy_at a c beside ≡ None → OpensToOne a MayBeFound serial c
  none_alone none = alone (subst (λ o. IsBeaten o newest.copy.side serial) (sym none) tt)

  -- the other gate is shut
  with_shut : IsShut beside c → OpensToOne a MayBeFound serial c
  with_shut is = none_alone (copy_shut a c beside is)

  -- or the other body does not count, whatever the gate is
  with_old : IsBeaten (told_by_body a (body_at a c beside)) newest.copy.side serial → OpensToOne a MayBeFound serial c
  with_old beaten = elim (shut_or_open a c beside) [
    | inl none ↦ none_alone none
    | inr told ↦ alone (subst (λ o. IsBeaten o newest.copy.side serial) (sym told) beaten)
  ]

  -- or it is a later one that may be found
  with_next : (h : HeldCopy) → h.copy.side ≡ beside → serial < h.copy.told.serial → MayOpen a MayBeFound h
      → ((j : ℕ) → IsGuarded a h j → c j ≡ h.image j) → OpensToOne a MayBeFound serial c
  with_next h side later opens same = elim (shut_or_open a c beside) [
    | inl none ↦ none_alone none
    | inr told ↦
        let there : copy_at a c h.copy.side ≡ Some h.copy.told =
        subst (λ s. copy_at a c s ≡ told_by_body a (body_at a c s)) (sym side) told ∙ told_same a MayBeFound h opens c same in
        let mine : other_side h.copy.side ≡ newest.copy.side = ap other_side side ∙ back newest.copy.side in
        let beaten : IsBeaten (copy_at a c (other_side h.copy.side)) h.copy.side h.copy.told.serial =
        subst (λ o. IsBeaten o h.copy.side h.copy.told.serial) (sym (ap (copy_at a c) mine ∙ newest_told))
        (earlier_beaten newest.copy.told h.copy.side h.copy.told.serial later) in
        later_is_one a MayBeFound serial h.copy.told.serial c (omega (arith, later)) (accepted a MayBeFound h opens c same there beaten)
  ]

-- ---- what a cut may leave

held_same : (a : Area) (h : HeldCopy) (settled : Bool) (first : Image) (past : List Call) (c : Image)
    → IsHeldOn a h settled first past → MayLeave settled first past c → (j : ℕ) → IsGuarded a h j → c j ≡ h.image j
held_same a h settled first past c held may j is = let e = held j is in may.still j e.0 ∙ e.1

-- the first byte of a block that a cut leaves
first_left : (settled : Bool) (first : Image) (past : List Call) (c : Image) → MayLeave settled first past c
    → (j : ℕ) → is_pending settled past j ≡ false → slice_index (c j) 0 ≡ slice_index (seen_of first past j) 0
first_left settled first past c may j still = ap (λ (l : List ℕ). slice_index l 0) (may.still j still)

module _ (a : Area) (MayBeFound : Opening → Type 0) (newest : HeldCopy) (settled : Bool) (first : Image) (past : List Call) (c : Image)
    (g : AreGuarded a MayBeFound newest settled first past) (may : MayLeave settled first past c) where
  gate_opens : IsOpen newest.copy.side c
  gate_opens = first_left settled first past c may (gate_of newest.copy.side) g.gate.0 ∙ g.gate.1

  newest_same : (j : ℕ) → IsGuarded a newest j → c j ≡ newest.image j
  newest_same = held_same a newest settled first past c g.copy.held may

  one_opens : IsNoHarm a MayBeFound newest settled first past → OpensToOne a MayBeFound newest.copy.told.serial c
  one_opens (OtherShut is) =
      let other = other_side newest.copy.side in
      with_shut a MayBeFound newest g.copy.opens c gate_opens newest_same
      (λ (e : slice_index (c (gate_of other)) 0 ≡ 1). is.shut (sym (first_left settled first past c may (gate_of other) is.still) ∙ e))
  one_opens (OtherOld is) =
      let other = other_side newest.copy.side in
      let same : body_at a c other ≡ body_at a (seen_of first past) other =
      span_same c (seen_of first past) (body_of a other) (body_blocks a) (λ j low high. may.still j (is.stays j (low, high))) in
      with_old a MayBeFound newest g.copy.opens c gate_opens newest_same
      (subst (λ (b : List ℕ). IsBeaten (told_by_body a b) newest.copy.side newest.copy.told.serial) (sym same) is.beaten)
  one_opens (OtherNext h side later kept) =
      with_next a MayBeFound newest g.copy.opens c gate_opens newest_same h side later kept.opens
      (held_same a h settled first past c kept.held may)

pub span_stays : (a : Area) (c d : Image) → c 0 ≡ d 0 → HasSpan a c → HasSpan a d
span_stays a c d same h = subst (λ first. TellsArea first a) same h

-- whatever may be found
pub guarded_opens : (a : Area) (MayBeFound : Opening → Type 0) (newest : HeldCopy)
    (settled : Bool) (first : Image) (past : List Call) (c : Image)
    → AreGuarded a MayBeFound newest settled first past → MayLeave settled first past c
    → HasSpan a c × OpensToOne a MayBeFound newest.copy.told.serial c
guarded_opens a MayBeFound newest settled first past c g may = (
  span_stays a (seen_of first past) c (sym (may.still 0 g.span.0)) g.span.1,
  one_opens a MayBeFound newest settled first past c g may g.other,
)

pub images_open : GuardedImagesOpen
images_open a marks = guarded_opens a (TakesUpOne marks)

pub open_now : GuardedOpenNow
open_now a s newest settled first past is g c may =
    subst (λ n. OpensToOne a (TakesUpOne s.marks) n c) is (one_opens a (TakesUpOne s.marks) newest settled first past c g may g.other)

-- ---- a run replaces the other copy

-- the blocks of an image, by the bytes of a span
pub blocks_same : (c d : Image) → IsImage c → IsImage d → (at n : ℕ) → span c at n ≡ span d at n
    → (j : ℕ) → at ≤ j → j < at + n → c j ≡ d j
blocks_same c d image other at n same j low high =
    let k = j - at in
    let here : at + k ≡ j = omega (arith, low) in
    let few : k < n = omega (arith, low, high) in
    subst (λ (i : ℕ). c i ≡ d i) here
    (sym (block_of_span c image.whole at n k few)
    ∙ (ap (λ (l : List ℕ). take 512 (drop (512 * k) l)) same ∙ block_of_span d other.whole at n k few))

-- neither the other gate nor a block of the other body
abbrev pub IsOffOther : Area → Side → ℕ → Type 0
IsOffOther a side j =
    (j ≢ gate_of (other_side side))
    × (body_of a (other_side side) ≤ j → j < body_of a (other_side side) + body_blocks a → ⊥)

pub body_off : (a : Area) (side : Side) (j : ℕ) → IsInBody a side j → IsOffOther a side j
body_off a sides.A j is = (λ (e : j ≡ 2). absurd (omega (arith, e, is.0)), λ from to. absurd (omega (arith, is.1, from)))
body_off a sides.B j is = (λ (e : j ≡ 1). absurd (omega (arith, e, is.0)), λ from to. absurd (omega (arith, is.0, to)))

pub content_off : (a : Area) (side : Side) (j : ℕ) → content_of a ≤ j → IsOffOther a side j
content_off a sides.A j low = (λ (e : j ≡ 2). absurd (omega (arith, e, low)), λ from to. absurd (omega (arith, low, to)))
content_off a sides.B j low = (λ (e : j ≡ 1). absurd (omega (arith, e, low)), λ from to. absurd (omega (arith, low, to)))

gate_off : (a : Area) (side : Side) → IsOffOther a side (gate_of side)
gate_off a sides.A = (λ (e : 1 ≡ 2). absurd (omega (arith, e)), λ from to. absurd (omega (arith, from)))
gate_off a sides.B = (λ (e : 2 ≡ 1). absurd (omega (arith, e)), λ from to. absurd (omega (arith, from)))

pub span_off : (a : Area) (side : Side) → IsOffOther a side 0
span_off a sides.A = (λ (e : 0 ≡ 2). absurd (omega (arith, e)), λ from to. absurd (omega (arith, from)))
span_off a sides.B = (λ (e : 0 ≡ 1). absurd (omega (arith, e)), λ from to. absurd (omega (arith, from)))

guarded_off : (a : Area) (h : HeldCopy) (j : ℕ) → IsGuarded a h j → IsOffOther a h.copy.side j
guarded_off a h j (inl body) = body_off a h.copy.side j body
guarded_off a h j (inr (p, low, high, is)) = content_off a h.copy.side j (omega (arith, is))

module _ (a : Area) (MayBeFound : Opening → Type 0) (newest h : HeldCopy) (settled : Bool) (first : Image) (past : List Call)
    (g : AreGuarded a MayBeFound newest settled first past) (next : IsToCome a MayBeFound newest h settled first past)
    (c : Image) (image : IsImage c) (r : IsReplaced a h.copy.side (body_at a h.image h.copy.side) (MayLeave settled first past) c) where
  off_same : (j : ℕ) → IsOffOther a newest.copy.side j → c j ≡ r.before j
  off_same j off =
      r.beside j (subst (λ (s : Side). j ≢ gate_of s) (sym next.side) off.0)
      (subst (λ (s : Side). body_of a s ≤ j → j < body_of a s + body_blocks a → ⊥) (sym next.side) off.1)

  gate_still : IsOpen newest.copy.side c
  gate_still =
      ap (λ (l : List ℕ). slice_index l 0) (off_same (gate_of newest.copy.side) (gate_off a newest.copy.side))
      ∙ gate_opens a MayBeFound newest settled first past r.before g r.was

  newest_still : (j : ℕ) → IsGuarded a newest j → c j ≡ newest.image j
  newest_still j is = off_same j (guarded_off a newest j is) ∙ newest_same a MayBeFound newest settled first past r.before g r.was j is

  next_there : span c (body_of a h.copy.side) (body_blocks a) ≡ body_at a h.image h.copy.side → (j : ℕ) → IsGuarded a h j → c j ≡ h.image j
  next_there whole j (inl body) = blocks_same c h.image image next.opens.image (body_of a h.copy.side) (body_blocks a) whole j body.0 body.1
  next_there whole j (inr there) =
      let held = next.held j there in
      off_same j (content_off a newest.copy.side j (let is = there.3 in omega (arith, is))) ∙ (r.was.still j held.0 ∙ held.1)

  pub replaced_opens : OpensToOne a MayBeFound newest.copy.told.serial c
  replaced_opens = elim r.copy [
    | inl is ↦ with_shut a MayBeFound newest g.copy.opens c gate_still newest_still (subst (λ (s : Side). IsShut s c) next.side is)
    | inr whole ↦ with_next a MayBeFound newest g.copy.opens c gate_still newest_still h next.side next.later next.opens (next_there whole)
  ]

-- what a cut leaves is an image
left_images : (P : Image → Type 0) (settled : Bool) (first : Image) (old new : List Call)
    → Along P settled first old new → Along (λ (c : Image). P c × IsImage c) settled first old new
left_images P settled first old _ NoCall = NoCall
left_images P settled first old _ (OneMore call past back left) =
    OneMore call past (left_images P settled first old past back) (λ c may. (left c may, may.image))

pub run_opens : ReplacedOpens
run_opens a marks newest h settled first old new g next along =
    let P = IsReplaced a h.copy.side (body_at a h.image h.copy.side) (MayLeave settled first old) in
    weaker (λ (c : Image). P c × IsImage c) (OpensToOne a (TakesUpOne marks) newest.copy.told.serial) settled first old new
    (λ c is. replaced_opens a (TakesUpOne marks) newest h settled first old g next c is.1 is.0)
    (left_images P settled first old new along)

-- ---- at rest

module _ (a : Area) (MayBeFound : Opening → Type 0) (n : Newest) (settled : Bool) (first : Image) (past : List Call)
    (image : IsImage (seen_of first past)) (still : (j : ℕ) → is_pending settled past j ≡ false) where
  abbrev c : Image
  c = seen_of first past

  abbrev other : Side
  other = other_side n.side

  other_rests : IsBeaten (copy_at a c other) n.side n.told.serial → IsNoHarm a MayBeFound (held_at_rest n first past) settled first past
  other_rests beaten = elim (cases_Bool (slice_index (c (gate_of other)) 0 == 1)) [
    | inl opens ↦ OtherOld (record {
      stays = λ j is. still j;
      beaten = subst (λ o. IsBeaten o n.side n.told.serial) (copy_open a c other (eqb-true (slice_index (c (gate_of other)) 0) 1 opens)) beaten;
    })
    | inr closed ↦ OtherShut (record { still = still (gate_of other); shut = grind (arith, closed) })
  ]

  pub rests : HasSpan a c → newest_of a c ≡ Some n → is_sound a.geometry (directory_at a c n.side) ≡ true → MayBeFound (opening_at a c n)
      → AreGuarded a MayBeFound (held_at_rest n first past) settled first past
  rests span newest sound found =
      let is = won a c n newest in
      let copy = accepted_copy a c n.side n.told is.0 in
      record {
        span = (still 0, span);
        gate = (still (gate_of n.side), copy.0);
        copy = record {
          opens = record { image = image; tells = copy.1; sound = sound; ends = end_by_cursor a c n; found = found };
          held = λ j guarded. (still j, refl);
        };
        other = other_rests is.1;
      }

pub rest_guarded : RestIsGuarded
rest_guarded a marks n settled first past image still span newest sound found =
    rests a (TakesUpOne marks) n settled first past image still span newest sound found
