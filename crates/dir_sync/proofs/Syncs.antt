-- One call of a run: the gate where a pass begins, the next blocks, the gate again behind the last.
use Rattle.std.proofs.Common.{◌≡◌, ◌≤◌, inl, inr, ℕ, ◌+◌, ◌*◌, Bool, true, List, length, take, All, sym, ◌∙◌, subst, arith}
use Rattle.std.proofs.lemmas.Bool.{eqb-true}
use Rattle.device_log.specs.Image.{Image, IsImage, span}
use Rattle.device_log.specs.Calls.{Call}
use Rattle.device_log.specs.Seen.{seen_of, MayLeave}
use Rattle.device_log.specs.Faults.{IsEntry}
use Rattle.device_log.specs.Along.{AllLeft, Along}
use Rattle.device_log.proofs.Spans.{span_same, span_none}
use Rattle.device_log.proofs.CallLaws.{joins, left_after}
use Rattle.stripe_header.specs.declared.area.Area.{Area}
use Rattle.stripe_header.specs.declared.area.Side.{Side}
use Rattle.stripe_header.specs.Layout.{gate_of, body_of, body_blocks}
use Rattle.dir_sync.specs.declared.progress.SyncProgress.{SyncProgress}
use Rattle.dir_sync.specs.SyncCalls.{part_of, first_calls, body_calls, last_calls, is_last, MadeSome}
use Rattle.dir_sync.specs.Moments.{IsReplaced, BodyIsKept, IsBarred, Spares, Stands}
use Rattle.dir_sync.specs.Laws.{MayWriteCopy, past_shut, past_put, past_done, IsWritingCopy, pass_behind, given_up, Halts}
use Rattle.dir_sync.proofs.Touched.{Touches, touches_some, behind_some, stopped_some, entries_before}
use Rattle.dir_sync.proofs.Stages.{gate_low, on_first, bars_first, at_start, one, two, part_length, blocks_in, on_body, on_last}
use Rattle.dir_sync.proofs.Passes.{barred_on, halted_first, put_front, put_kept, last_along, halted_last, done_stands}

module _ (settled : Bool) (first : Image) (a : Area) (side : Side) where
  pub spare_gate : (old new : List Call) → Touches settled first (gate_of side) 1 old new
      → Spares a side settled first old new
  spare_gate old new t =
      record {
        seen = λ j other out. t.seen j (λ low high. other (omega (arith, low, high)));
        still = λ j other out still. t.still j (λ low high. other (omega (arith, low, high))) still;
      }

  spare_body : (at n : ℕ) (old new : List Call) → body_of a side ≤ at
      → at + n ≤ body_of a side + body_blocks a
      → Touches settled first at n old new → Spares a side settled first old new
  spare_body at n old new front end t =
      record {
        seen = λ j other out. t.seen j (λ low high. out (omega (arith, front, low))
            (omega (arith, end, high)));
        still = λ j other out still. t.still j
            (λ low high. out (omega (arith, front, low)) (omega (arith, end, high))) still;
      }

  spare_join : (x y z : List Call) → Spares a side settled first x y
      → Spares a side settled first y z → Spares a side settled first x z
  spare_join x y z one two =
      record {
        seen = λ j other out. two.seen j other out ∙ one.seen j other out;
        still = λ j other out still. two.still j other out (one.still j other out still);
      }

module _ (settled : Bool) (first : Image) (a : Area) (side : Side) (body : List ℕ) (p : SyncProgress)
    (n : ℕ) (old : List Call)
    (may : MayWriteCopy a body p n) (is : IsImage first) where
  part_size : length (part_of body p.written n) ≡ 512 * n
  part_size = part_length body p.written n (body_blocks a) may.whole may.within

  body_touch : (new : List Call) → All IsEntry new
      → MadeSome (body_calls a side body p n) (past_shut side p old) new
      → Touches settled first (body_of a side + p.written) n (past_shut side p old) new
  body_touch new all made =
      touches_some settled first (body_of a side + p.written) n (body_calls a side body p n)
      (on_body a side body p n (is_last a p n) (blocks_in n (part_of body p.written n) part_size))
      (past_shut side p old) new is all made

  first_touch : (new : List Call) → All IsEntry new → MadeSome (first_calls side p) old new
      → Touches settled first (gate_of side) 1 old new
  first_touch new all made = touches_some settled first (gate_of side) 1 (first_calls side p)
      (on_first side p.begun p.shut) old new is all made

  body_spares : (new : List Call) → All IsEntry new
      → MadeSome (body_calls a side body p n) (past_shut side p old) new
      → Spares a side settled first old new
  body_spares new all made =
      let mid = past_shut side p old in
      let before = entries_before (body_calls a side body p n) mid new made all in
      spare_join settled first a side old mid new
      (spare_gate settled first a side old mid
      (first_touch mid before (behind_some (first_calls side p) old)))
      (spare_body settled first a side (body_of a side + p.written) n mid new (omega arith)
      (omega (arith, may.within)) (body_touch new all made))

  pub spares : (new : List Call) → All IsEntry new → IsWritingCopy a side body p n old new
      → Spares a side settled first old new
  spares new all (inl made) = spare_gate settled first a side old new (first_touch new all made)
  spares new all (inr (inl made)) = body_spares new all made
  spares new all (inr (inr made)) =
      let put = past_put a side body p n old in
      let before = entries_before (last_calls a side p n) put new made all in
      spare_join settled first a side old put new
      (body_spares put before (behind_some (body_calls a side body p n) (past_shut side p old)))
      (spare_gate settled first a side put new
      (touches_some settled first (gate_of side) 1 (last_calls a side p n)
      (on_last side (is_last a p n)) put new is all made))

  module _ (stands : Stands a side body p settled first old) where
    mid_barred : IsBarred side settled first (past_shut side p old)
    mid_barred = bars_first settled first side p.begun p.shut old may.begun stands.gate

    mid_front : All IsEntry (past_shut side p old)
        → span (seen_of first (past_shut side p old)) (body_of a side) p.written ≡ take
        (512 * p.written) body
    mid_front all =
        let mid = past_shut side p old in
        let t = touches_some settled first (gate_of side) 1 (first_calls side p)
        (on_first side p.begun p.shut) old mid is all (behind_some (first_calls side p) old) in
        span_same (seen_of first mid) (seen_of first old) (body_of a side) p.written
        (λ j low high. t.seen j (λ l h. omega (arith, gate_low a side, low, h))) ∙ stands.front

    first_along : (new : List Call) → All IsEntry new → MadeSome (first_calls side p) old new
        → Along (IsReplaced a side body (MayLeave settled first old)) settled first old new
    first_along new all made = one settled first a side body p.begun p.shut old new stands.gate
        stands.whole is all made

    start : AllLeft (IsReplaced a side body (MayLeave settled first old)) settled first old
    start = at_start settled first a side body p.shut old stands.gate stands.whole

    body_along : (new : List Call) → All IsEntry new
        → MadeSome (body_calls a side body p n) (past_shut side p old) new
        → Along (IsReplaced a side body (MayLeave settled first old)) settled first old new
    body_along new all made =
        let mid = past_shut side p old in
        let P = IsReplaced a side body (MayLeave settled first old) in
        let front = first_along mid (entries_before (body_calls a side body p n) mid new made all)
        (behind_some (first_calls side p) old) in
        joins P settled first old mid new front
        (two settled first a side body (MayLeave settled first old)
        (body_of a side + p.written) n mid new (omega arith)
        (omega (arith, may.within)) mid_barred
        (left_after P settled first old mid front start) (body_touch new all made))

    last_blocks : is_last a p n ≡ true → p.written + n ≡ body_blocks a
    last_blocks last = eqb-true (p.written + n) (body_blocks a) last

    kept : All IsEntry (past_shut side p old) → is_last a p n ≡ true
        → BodyIsKept a side body settled first (past_put a side body p n old)
    kept all last =
        put_kept settled first a side body p.written n (past_shut side p old) part_size
        (mid_front all) (is_last a p n) last (last_blocks last) may.whole

    before_put : All IsEntry (past_put a side body p n old) → All IsEntry (past_shut side p old)
    before_put all = entries_before (body_calls a side body p n) (past_shut side p old)
        (past_put a side body p n old) (behind_some (body_calls a side body p n)
        (past_shut side p old)) all

    pub replaces : (new : List Call) → All IsEntry new → IsWritingCopy a side body p n old new
        → Along (IsReplaced a side body (MayLeave settled first old)) settled first old new
    replaces new all (inl made) = first_along new all made
    replaces new all (inr (inl made)) = body_along new all made
    replaces new all (inr (inr made)) =
        let put = past_put a side body p n old in
        let P = IsReplaced a side body (MayLeave settled first old) in
        let all_put = entries_before (last_calls a side p n) put new made all in
        let front = body_along put all_put (behind_some (body_calls a side body p n)
        (past_shut side p old)) in
        joins P settled first old put new front
        (last_along settled first a side body (MayLeave settled first old) (is_last a p n) put new
        (kept (before_put all_put))
        (left_after P settled first old put front start) is all made)

    pub puts : All IsEntry (past_done a side body p n old)
        → Stands a side body (pass_behind a p n) settled first (past_done a side body p n old)
    puts all =
        let put = past_put a side body p n old in
        let all_put = entries_before (last_calls a side p n) put (past_done a side body p n old)
        (behind_some (last_calls a side p n) put) all in
        let touched = body_touch put all_put (behind_some (body_calls a side body p n)
        (past_shut side p old)) in
        done_stands settled first a side body (is_last a p n) (p.written + n) put may.within
        (kept (before_put all_put))
        (λ not_last. barred_on settled first a side body (body_of a side + p.written) n
        (past_shut side p old) put (λ low high. omega (arith, gate_low a side, low)) mid_barred
        touched)
        (put_front settled first a side body p.written n (past_shut side p old) part_size
        (mid_front (before_put all_put)) (is_last a p n))
        is all

    pub halts : (count : ℕ) (shut : Bool) (new : List Call) → All IsEntry new
        → Halts a side body p n count shut old new
        → Stands a side body (given_up shut) settled first new
    halts count shut new all (inl (stopped, known)) =
        subst (λ (b : Bool). Stands a side body (given_up b) settled first new) (sym known)
        (halted_first settled first a side body p.begun p.shut old new stands.gate stands.whole is
        all (stopped_some (first_calls side p) count old new stopped))
    halts count shut new all (inr (inl (stopped, known))) =
        let made = stopped_some (body_calls a side body p n) count
        (past_shut side p old) new stopped in
        subst (λ (b : Bool). Stands a side body (given_up b) settled first new) (sym known)
        (record {
          within = omega arith;
          gate = λ is_shut. barred_on settled first a side body (body_of a side + p.written) n
              (past_shut side p old) new
              (λ low high. omega (arith, gate_low a side, low)) mid_barred
              (body_touch new all made);
          front = span_none (seen_of first new) (body_of a side);
          whole = λ other. absurd cc;
        })
    halts count shut new all (inr (inr (stopped, known))) =
        let put = past_put a side body p n old in
        let all_put = entries_before (last_calls a side p n) put new
        (stopped_some (last_calls a side p n) count put new stopped) all in
        subst (λ (b : Bool). Stands a side body (given_up b) settled first new) (sym known)
        (halted_last settled first a side body (is_last a p n) count put new
        (kept (before_put all_put)) is all stopped)
