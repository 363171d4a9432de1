-- A whole sync: its parts, one behind the other.
use Rattle.std.proofs.Common.{◌≡◌, ◌≤◌, ◌<◌, ◌-◌, ◌*◌, ◌/◌, inl, ℕ, Bool, true, false, if◌then◌else◌, List, ◌∷◌, length, take, drop, All, Some, refl, sym, ap, subst, ◌∙◌, arith}
use Rattle.std.proofs.lemmas.List.Elements.{All-head, All-tail}
use Rattle.hex.specs.Hex.{IsBytes}
use Rattle.tape_base.specs.declared.pieces.PieceId.{PieceId}
use Rattle.device_log.specs.Image.{Image, IsImage, in_range}
use Rattle.device_log.specs.Calls.{Call, Synced, Wrote}
use Rattle.device_log.specs.Seen.{seen_of}
use Rattle.device_log.specs.Faults.{IsEntry}
use Rattle.device_log.specs.Along.{Along}
use Rattle.device_log.proofs.CallLaws.{joins}
use Rattle.device_log.proofs.SeenLaws.{seen_is_image}
use Rattle.device_log.proofs.Spans.{span_same}
use Rattle.stripe_header.specs.declared.area.Area.{Area}
use Rattle.stripe_header.specs.declared.area.Side.{Side}
use Rattle.stripe_header.specs.declared.states.CopyState.{CopyState}
use Rattle.stripe_header.specs.Layout.{body_blocks, body_of, gate_of, other_side}
use Rattle.dir_table.specs.declared.rows.StoredRow.{StoredRow}
use Rattle.dir_sync.specs.Moments.{IsBarred, IsShut}
use Rattle.dir_sync.specs.SyncCalls.{MadeSome, open_block, opening_calls, past_behind, shutting_calls}
use Rattle.dir_sync.proofs.Stages.{bars, block_put, none_still, one_open, open_length}
use Rattle.dir_sync.proofs.Touched.{behind_some, entries_before}
use Rattle.stripe_copies.specs.declared.copies.SyncStop.{SyncStop}
use Rattle.stripe_copies.specs.Copies.{CopiesState, IsBodyOf, target_of, writing_calls}
use Rattle.cache_model.specs.Contents.{Content}
use Rattle.cache_model.specs.State.{Mark}
use Rattle.reopening.specs.Newest.{IsBeaten, body_at}
use Rattle.reopening.specs.Guards.{AreGuarded, HeldCopy, IsCopyKept, IsGateOpen, IsNoHarm, IsOld, OpensToOne, OtherNext, OtherOld, OtherShut, told_by_body}
use Rattle.reopening.specs.Lasting.{TakesUpOne}
use Rattle.reopening.proofs.Guarded.{earlier_beaten}
use Rattle.reopening.proofs.Stages.{next_is_newest}
use Rattle.reopening.proofs.Winning.{back}
use Rattle.sync_laws.specs.KnownCopies.{CopiesHold, IsClear, IsDue, IsKnownBeside, KnownCopies, held_to_come, spared_to, known_broken_off, known_turned}
use Rattle.sync_laws.proofs.Beside.{StaysBeside}
use Rattle.sync_laws.proofs.Watching.{gate_few, guarded_high}
use Rattle.sync_laws.proofs.Laying.{long, off_gate}
use Rattle.sync_laws.proofs.ToCome.{may_open}
use Rattle.sync_laws.proofs.Phases.{GuardsPass, beside_this, opens, shuts, writes}

-- a gate that is known to be shut is seen shut
seen_shut : (a : Area) (marks : List Mark) (newest : HeldCopy) (clear : ℕ) (settled : Bool) (first : Image) (past : List Call)
    (other : IsNoHarm a (TakesUpOne marks) newest settled first past)
    → IsKnownBeside a marks newest true clear settled first past other → IsShut (other_side newest.copy.side) (seen_of first past)
seen_shut a marks newest clear settled first past (OtherShut is) known = is.shut
seen_shut a marks newest clear settled first past (OtherOld is) known = absurd cc
seen_shut a marks newest clear settled first past (OtherNext h side later kept) known = absurd (let e = known.0 in cc e)

module _ (w : KnownCopies) (s : CopyState) (stored : List StoredRow) (m : Mark) (content : PieceId → Content)
    (settled : Bool) (first : Image) (old : List Call) (image : IsImage first) (known : CopiesHold w settled first old)
    (due : IsDue w s stored m content (seen_of first old)) (body : List ℕ) (of : IsBodyOf w.copies.area.geometry s stored body) where
  abbrev k : CopiesState
  k = w.copies

  abbrev a : Area
  a = w.copies.area

  abbrev marks : List Mark
  marks = w.marks

  abbrev newest : HeldCopy
  newest = w.newest

  abbrev target : Side
  target = target_of k

  abbrev Opens : Image → Type 0
  Opens = OpensToOne a (TakesUpOne marks) newest.copy.told.serial

  abbrev h : HeldCopy
  h = held_to_come k s m.end body (seen_of first old)

  abbrev pub behind_shutting : List Call
  behind_shutting = past_behind (shutting_calls target k.shut) old

  abbrev pub behind_writing : List Call
  behind_writing = past_behind (writing_calls a target body) behind_shutting

  abbrev pub behind_opening : List Call
  behind_opening = past_behind (opening_calls target) behind_writing

  beside : target ≡ other_side newest.copy.side
  beside = ap other_side (sym known.side)

  size : length body ≡ 512 * body_blocks a
  size = long k s stored body of known.directory (seen_of first old)

  later : newest.copy.told.serial < s.serial
  later = omega (arith, known.serial, known.begun, due.serial)

  abbrev Pass : Bool → ℕ → List Call → List Call → Type 0
  Pass = GuardsPass a marks newest settled first

  -- content behind the pieces of the copy to come is clear of it
  content_clear : IsClear a m.end (spared_to a.geometry newest.copy.told) h
  content_clear = record { says = of.copy.says; ends = omega arith; reach = due.onward }

  barred : IsBarred target settled first behind_shutting
  barred =
      bars settled first target k.shut old
      (λ shut. subst (λ (x : Side). IsShut x (seen_of first old)) (sym beside)
      (seen_shut a marks newest w.clear settled first old known.guards.other
      (subst (λ b. IsKnownBeside a marks newest b w.clear settled first old known.guards.other) shut known.beside)))

  -- ---- to some call of each part

  pub shutting : (new : List Call) → All IsEntry new → MadeSome (shutting_calls target k.shut) old new
      → Pass k.shut w.clear old new × StaysBeside (gate_of target) 1 settled first old new
  shutting new all made = shuts a marks newest settled first image target beside old new known.guards all k.shut w.clear known.beside made

  shut_all : All IsEntry behind_shutting
      → Pass k.shut w.clear old behind_shutting × StaysBeside (gate_of target) 1 settled first old behind_shutting
  shut_all all = shutting behind_shutting all (behind_some (shutting_calls target k.shut) old)

  pub writing : (new : List Call) → All IsEntry new → MadeSome (writing_calls a target body) behind_shutting new → Pass true m.end old new
  writing new all made =
      let one = shut_all (entries_before (writing_calls a target body) behind_shutting new made all) in
      let two = writes a marks newest settled first image target beside behind_shutting new one.0.guards all m.end body size barred made in
      record { guards = two.0.guards; beside = two.0.beside; moments = joins Opens settled first old behind_shutting new one.0.moments two.0.moments }

  -- the body stands, and what it names
  seen_to_come : All IsEntry behind_shutting → (j : ℕ) → 3 ≤ j → seen_of first behind_writing j ≡ h.image j
  unfolding seen_of
  seen_to_come all j high =
      let one = shut_all all in
      let few = gate_few target in
      let stays = one.1 j (λ low below. omega (arith, high, low, below, few)) in
      ap (λ x. if in_range (body_of a target) (length body / 512) j then take 512 (drop (512 * (j - body_of a target)) body) else x) stays.1
      ∙ sym (off_gate k s stored body of known.directory (seen_of first old) j (λ e. omega (arith, e, high, few)))

  kept : All IsEntry behind_writing → IsCopyKept a (TakesUpOne marks) h settled first behind_writing
  kept all =
      let wrote = All-tail IsEntry Synced (Wrote (body_of a target) body ∷ behind_shutting) all in
      let bytes : IsBytes body = (All-head IsEntry (Wrote (body_of a target) body) behind_shutting wrote).bytes in
      let before = All-tail IsEntry (Wrote (body_of a target) body) behind_shutting wrote in
      let was : All IsEntry old = entries_before (shutting_calls target k.shut) old behind_shutting (behind_some (shutting_calls target k.shut) old) before in
      record {
        opens = may_open w s stored body of known.directory (seen_of first old) (seen_is_image first old image was) bytes m content due;
        held = λ j is. (none_still settled (Wrote (body_of a target) body ∷ behind_shutting) j, seen_to_come before j (guarded_high a h j is));
      }

  pub opening : (new : List Call) → All IsEntry new → MadeSome (opening_calls target) behind_writing new
      → Pass false m.end old new × IsCopyKept a (TakesUpOne marks) h settled first new
  opening new all made =
      let before = entries_before (opening_calls target) behind_writing new made all in
      let two = writing behind_writing before (behind_some (writing_calls a target body) behind_shutting) in
      let three = opens a marks newest settled first image target beside behind_writing new two.guards all m.end h beside later (kept before) content_clear made in (
        record { guards = three.0.guards; beside = three.0.beside; moments = joins Opens settled first old behind_writing new two.moments three.0.moments },
        three.1,
      )

  -- ---- what is known then

  pub stops : (stop : SyncStop) (shut : Bool) (new : List Call) → Pass shut (if stop.durable then m.end else w.clear) old new
      → CopiesHold (known_broken_off w s m stop shut) settled first new
  stops stop shut new pass = record {
    directory = known.directory;
    begun = omega (arith, known.begun, due.serial);
    side = known.side;
    serial = known.serial;
    cursor = known.cursor;
    guards = pass.guards;
    own = record { says = known.own.says; ends = still stop.durable; reach = known.own.reach };
    beside = pass.beside;
  } where
    still : (durable : Bool) → newest.end ≤ (if durable then m.end else w.clear)
    still true = omega (arith, known.own.ends, due.clear)
    still false = known.own.ends

  gate_open : IsGateOpen target settled first behind_opening
  unfolding seen_of
  gate_open = (
    none_still settled (Wrote (gate_of target) open_block ∷ behind_writing) (gate_of target),
    one_open target (seen_of first behind_opening) (block_put first behind_writing (gate_of target) open_block open_length),
  )

  was_old : IsCopyKept a (TakesUpOne marks) newest settled first behind_opening → IsOld a h.copy settled first behind_opening
  was_old mine =
      let c = seen_of first behind_opening in
      let was = newest.copy.side in
      let there : other_side target ≡ was = ap other_side beside ∙ back was in
      let same : body_at a c was ≡ body_at a newest.image was =
      span_same c newest.image (body_of a was) (body_blocks a) (λ j low high. let e = mine.held j (inl (low, high)) in e.1) in
      let told : told_by_body a (body_at a c (other_side target)) ≡ Some newest.copy.told =
      ap (λ (x : Side). told_by_body a (body_at a c x)) there ∙ (ap (told_by_body a) same ∙ mine.opens.tells) in
      record {
        stays = λ j is. none_still settled (Wrote (gate_of target) open_block ∷ behind_writing) j;
        beaten = subst (λ o. IsBeaten o target s.serial) (sym told) (earlier_beaten newest.copy.told target s.serial later);
      }

  pub turns : All IsEntry behind_opening
      → CopiesHold (known_turned w s m body (seen_of first old)) settled first behind_opening × Along Opens settled first old behind_opening
  turns all =
      let three = opening behind_opening all (behind_some (opening_calls target) behind_writing) in
      let g = next_is_newest a marks newest h settled first behind_opening three.0.guards beside later three.1 gate_open in
      let guards : AreGuarded a (TakesUpOne marks) h settled first behind_opening =
      beside_this a marks h settled first behind_opening g (OtherOld (was_old three.0.guards.copy)) in (
        record {
          directory = known.directory;
          begun = omega arith;
          side = refl;
          serial = refl;
          cursor = refl;
          guards = guards;
          own = record { says = of.copy.says; ends = omega arith; reach = omega arith };
          beside = refl;
        },
        three.0.moments,
      )
