-- A pass over the body of a copy, part by part.
use Rattle.std.proofs.Common.{◌≡◌, ℕ, ◌+◌, ◌*◌, ◌<◌, ◌≤◌, Bool, true, false, if◌then◌else◌, List, [], ◌∷◌, length, take, All, refl, sym, ◌∙◌, ap, subst, arith}
use Rattle.std.proofs.Math.Seq.{take-length}
use Rattle.device_log.specs.Image.{Image, IsImage, span}
use Rattle.device_log.specs.Calls.{Call, Wrote, Synced}
use Rattle.device_log.specs.Seen.{seen_of}
use Rattle.device_log.specs.Faults.{IsEntry}
use Rattle.device_log.specs.Along.{AllLeft, Along, NoCall, Stopped}
use Rattle.device_log.proofs.Spans.{span_same, span_none}
use Rattle.device_log.proofs.SeenLaws.{synced_same}
use Rattle.stripe_header.specs.declared.area.Area.{Area}
use Rattle.stripe_header.specs.declared.area.Side.{Side}
use Rattle.stripe_header.specs.Layout.{gate_of, body_of, body_blocks}
use Rattle.dir_sync.specs.SyncCalls.{open_block, part_of, shutting_calls, opening_calls, past_behind, MadeSome}
use Rattle.dir_sync.specs.Moments.{IsReplaced, BodyIsKept, IsBarred, IsOpened, Stands}
use Rattle.dir_sync.specs.Laws.{given_up}
use Rattle.dir_sync.proofs.Touched.{Touches, touches_some, behind_some, stopped_some}
use Rattle.dir_sync.proofs.Stages.{gate_low, one_open, open_length, block_put, shut_as, on_shutting, three, on_last, none_still, front_put}

-- the body of a copy with its sync, where it is the last part
abbrev pub parts_of : Area → Side → List ℕ → ℕ → ℕ → Bool → List Call
parts_of a side body w n last = Wrote (body_of a side + w) (part_of body w n) ∷
    (if last then Synced ∷ [] else [])

abbrev pub opens_if : Side → Bool → List Call
opens_if side last = if last then opening_calls side else []

pub opens : (settled : Bool) (first : Image) (side : Side) (last : Bool) (put : List Call)
    → last ≡ true
    → IsOpened side settled first (past_behind (opens_if side last) put)
opens settled first side false put is = absurd cc
opens settled first side true put is =
    let write = Wrote (gate_of side) open_block ∷ put in
    record {
      still = λ j. none_still settled write j;
      opened = one_open side (seen_of first (Synced ∷ write))
          (ap (λ (c : Image). c (gate_of side)) (synced_same first write)
          ∙ block_put first put (gate_of side) open_block open_length);
    }

module _ (settled : Bool) (first : Image) (a : Area) (side : Side) (body : List ℕ) where
  pub no_front : (past : List Call) → span (seen_of first past) (body_of a side) 0 ≡ take
      (512 * 0) body
  no_front past = span_none (seen_of first past) (body_of a side)

  pub kept_on : (old new : List Call) → BodyIsKept a side body settled first old
      → Touches settled first (gate_of side) 1 old new → BodyIsKept a side body settled first new
  kept_on old new kept t =
      record {
        still = λ j low high. t.still j (λ l h. omega (arith, gate_low a side, low, h))
            (kept.still j low high);
        has = span_same (seen_of first new) (seen_of first old) (body_of a side) (body_blocks a)
            (λ j low high. t.seen j (λ l h. omega (arith, gate_low a side, low, h))) ∙ kept.has;
      }

  pub barred_on : (at n : ℕ) (old new : List Call) → (at ≤ gate_of side → gate_of side < at + n → ⊥)
      → IsBarred side settled first old → Touches settled first at n old new
      → IsBarred side settled first new
  barred_on at n old new out barred t =
      record {
        still = t.still (gate_of side) out barred.still;
        shut = shut_as side (seen_of first new) (seen_of first old)
            (t.seen (gate_of side) out) barred.shut;
      }

  -- behind a call of the gate that failed
  pub halted_first : (begun shut : Bool) (old new : List Call)
      → (shut ≡ true → IsBarred side settled first old)
      → (shut ≡ false → BodyIsKept a side body settled first old)
      → IsImage first → All IsEntry new → MadeSome
      (if begun then [] else shutting_calls side shut) old new
      → Stands a side body (given_up shut) settled first new
  halted_first true shut old new barred kept is all made =
      record {
        within = omega arith;
        gate = λ is_shut. subst (λ past. IsBarred side settled first past) (sym made)
            (barred is_shut);
        front = no_front new;
        whole = λ other. subst (λ past. BodyIsKept a side body settled first past) (sym made)
            (kept other);
      }
  halted_first false true old new barred kept is all made =
      let t = touches_some settled first (gate_of side) 0 (Synced ∷ [])
      (tt, tt) old new is all made in
      record {
        within = omega arith;
        gate = λ is_shut. barred_on (gate_of side) 0 old new (λ low high. omega (arith, low, high))
            (barred refl) t;
        front = no_front new;
        whole = λ other. absurd cc;
      }
  halted_first false false old new barred kept is all made =
      let t = touches_some settled first (gate_of side) 1 (shutting_calls side false)
      (on_shutting side false) old new is all made in
      record {
        within = omega arith;
        gate = λ is_shut. absurd cc;
        front = no_front new;
        whole = λ other. kept_on old new (kept refl) t;
      }

  module _ (w n : ℕ) (mid : List Call) (size : length (part_of body w n) ≡ 512 * n)
      (front : span (seen_of first mid) (body_of a side) w ≡ take (512 * w) body) where
    pub put_front : (last : Bool) → span (seen_of first
        (past_behind (parts_of a side body w n last) mid)) (body_of a side) (w + n) ≡ take
        (512 * (w + n)) body
    put_front true =
        let write = Wrote (body_of a side + w) (part_of body w n) ∷ mid in
        ap (λ (c : Image). span c (body_of a side) (w + n)) (synced_same first write)
        ∙ front_put first a side body w n mid size front
    put_front false = front_put first a side body w n mid size front

    pub put_kept : (last : Bool) → last ≡ true → w + n ≡ body_blocks a
        → length body ≡ 512 * body_blocks a
        → BodyIsKept a side body settled first (past_behind (parts_of a side body w n last) mid)
    put_kept false is all_put whole = absurd cc
    put_kept true is all_put whole =
        let put = past_behind (parts_of a side body w n true) mid in
        let long : 512 * (w + n) ≡ length body = omega (arith, all_put, whole) in
        record {
          still = λ j low high. none_still settled
              (Wrote (body_of a side + w) (part_of body w n) ∷ mid) j;
          has = ap (span (seen_of first put) (body_of a side)) (sym all_put)
              ∙ (put_front true ∙ (ap (λ k. take k body) long ∙ take-length body));
        }

  -- the gate is opened, where the body is whole
  pub last_along : (P : Image → Type 0) (last : Bool) (put new : List Call)
      → (last ≡ true → BodyIsKept a side body settled first put)
      → AllLeft (IsReplaced a side body P) settled first put → IsImage first → All IsEntry new
      → MadeSome (opens_if side last) put new
      → Along (IsReplaced a side body P) settled first put new
  last_along P false put new kept left is all made = subst
      (λ p. Along (IsReplaced a side body P) settled first put p) (sym made) NoCall
  last_along P true put new kept left is all made =
      three settled first a side body P put new (kept refl) left
      (touches_some settled first (gate_of side) 1 (opening_calls side)
      (on_last side true) put new is all made)

  pub halted_last : (last : Bool) (count : ℕ) (put new : List Call)
      → (last ≡ true → BodyIsKept a side body settled first put) → IsImage first → All IsEntry new
      → Stopped (opens_if side last) count put new
      → Stands a side body (given_up false) settled first new
  halted_last false count put new kept is all stopped = absurd stopped
  halted_last true count put new kept is all stopped =
      let t = touches_some settled first (gate_of side) 1 (opening_calls side)
      (on_last side true) put new is all (stopped_some
      (opening_calls side) count put new stopped) in
      record {
        within = omega arith;
        gate = λ is_shut. absurd cc;
        front = no_front new;
        whole = λ other. kept_on put new (kept refl) t;
      }

  pub done_stands : (last : Bool) (k : ℕ) (put : List Call) → k ≤ body_blocks a
      → (last ≡ true → BodyIsKept a side body settled first put)
      → (last ≡ false → IsBarred side settled first put)
      → span (seen_of first put) (body_of a side) k ≡ take (512 * k) body
      → IsImage first → All IsEntry (past_behind (opens_if side last) put)
      → Stands a side body (record {
        begun = if last then false else true;
        shut = if last then false else true;
        written = k;
      }) settled first
      (past_behind (opens_if side last) put)
  done_stands false k put few kept barred front is all = record {
    within = few;
    gate = λ is_shut. barred refl;
    front = front;
    whole = λ other. absurd cc;
  }
  done_stands true k put few kept barred front is all =
      let new = past_behind (opening_calls side) put in
      let t = touches_some settled first (gate_of side) 1 (opening_calls side)
      (on_last side true) put new is all (behind_some (opening_calls side) put) in
      record {
        within = few;
        gate = λ is_shut. absurd cc;
        front = span_same (seen_of first new) (seen_of first put) (body_of a side) k
            (λ j low high. t.seen j (λ l h. omega (arith, gate_low a side, low, h))) ∙ front;
        whole = λ other. kept_on put new (kept refl) t;
      }
