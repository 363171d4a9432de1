-- The parts of a sync of a copy: its gate is shut, its body is written, its gate is opened.
use Rattle.std.proofs.Common.{◌≡◌, inl, inr, ℕ, ◌+◌, ◌*◌, ◌/◌, ◌%◌, ◌<◌, ◌≤◌, Bool, true, false, if◌then◌else◌, List, [], ◌∷◌, ◌++◌, length, take, drop, All, refl, sym, ◌∙◌, ap, subst, arith}
use Rattle.std.specs.Prelude.{slice_index}
use Rattle.std.proofs.Math.Seq.{take-add}
use Rattle.std.proofs.lemmas.List.{length-drop, length-take-le}
use Rattle.device_log.specs.Image.{Image, IsImage, SameBut, span}
use Rattle.device_log.specs.Calls.{Call, Wrote, Synced}
use Rattle.device_log.specs.Seen.{seen_of, is_pending, MayLeave}
use Rattle.device_log.specs.Faults.{IsEntry}
use Rattle.device_log.specs.Along.{AllLeft, Along, NoCall, ButFor}
use Rattle.device_log.proofs.Spans.{span_one, span_same, span_more}
use Rattle.device_log.proofs.SeenLaws.{wrote_puts, wrote_others, synced_same}
use Rattle.device_log.proofs.CallLaws.{weaker}
use Rattle.stripe_header.specs.declared.area.Area.{Area}
use Rattle.stripe_header.specs.declared.area.Side.{Side}
use Rattle.stripe_header.specs.declared.area.Side.TheVariants as sides
use Rattle.stripe_header.specs.Layout.{gate_of, body_of, body_blocks}
use Rattle.dir_sync.specs.declared.progress.SyncProgress.{SyncProgress}
use Rattle.dir_sync.specs.SyncCalls.{shut_block, open_block, part_of, shutting_calls, opening_calls, past_behind, MadeSome}
use Rattle.dir_sync.specs.Moments.{IsShut, IsOpen, HasBody, IsReplaced, BodyIsKept, IsBarred}
use Rattle.dir_sync.proofs.Touched.{AllOn, Touches, touches_some}

pub gate_low : (a : Area) (side : Side) → gate_of side < body_of a side
gate_low a sides.A = omega arith
gate_low a sides.B = omega arith

shut_length : length shut_block ≡ 512
unfolding shut_block
shut_length = refl

pub open_length : length open_block ≡ 512
unfolding open_block
open_length = refl

zeros_shut : (side : Side) (c : Image) → c (gate_of side) ≡ shut_block → IsShut side c
unfolding shut_block
zeros_shut side c is is_open = let e : 0 ≡ 1 = sym (ap (λ (l : List ℕ). slice_index l 0) is)
    ∙ is_open in omega (arith, e)

pub one_open : (side : Side) (c : Image) → c (gate_of side) ≡ open_block → IsOpen side c
unfolding open_block
one_open side c is = ap (λ (l : List ℕ). slice_index l 0) is

-- a copy keeps its gate's state where the gate is the same
pub shut_as : (side : Side) (c d : Image) → c (gate_of side) ≡ d (gate_of side) → IsShut side d
    → IsShut side c
shut_as side c d same shut is_open = shut (ap (λ (l : List ℕ). slice_index l 0) (sym same)
    ∙ is_open)

one_block : (block : List ℕ) → length block ≡ 512 → length block / 512 ≡ 1
one_block block size = omega (arith, size)

pub block_put : (first : Image) (old : List Call) (at : ℕ) (block : List ℕ) → length block ≡ 512
    → seen_of first (Wrote at block ∷ old) at ≡ block
block_put first old at block size =
    let now = seen_of first (Wrote at block ∷ old) in
    let whole : length block % 512 ≡ 0 = omega (arith, size) in
    sym (span_one now at) ∙ (ap (span now at) (sym (one_block block size))
    ∙ wrote_puts first old at block whole)

pub on_shutting : (side : Side) (shut : Bool) → AllOn (gate_of side) 1 (shutting_calls side shut)
on_shutting side true = (tt, tt)
on_shutting side false = ((refl, one_block shut_block shut_length), (tt, tt))

pub on_first : (side : Side) (begun shut : Bool)
    → AllOn (gate_of side) 1 (if begun then [] else shutting_calls side shut)
on_first side true shut = tt
on_first side false shut = on_shutting side shut

module _ (settled : Bool) (first : Image) where
  pub bars : (side : Side) (shut : Bool) (old : List Call)
      → (shut ≡ true → IsShut side (seen_of first old))
      → IsBarred side settled first (past_behind (shutting_calls side shut) old)
  unfolding is_pending
  bars side true old known =
      record {
        still = refl;
        shut = shut_as side (seen_of first (Synced ∷ old)) (seen_of first old)
            (ap (λ (c : Image). c (gate_of side)) (synced_same first old)) (known refl);
      }
  bars side false old known =
      let write = Wrote (gate_of side) shut_block ∷ old in
      record {
        still = refl;
        shut = zeros_shut side (seen_of first (Synced ∷ write))
            (ap (λ (c : Image). c (gate_of side)) (synced_same first write)
            ∙ block_put first old (gate_of side) shut_block shut_length);
      }

  pub bars_first : (side : Side) (begun shut : Bool) (old : List Call)
      → (begun ≡ true → shut ≡ true) → (shut ≡ true → IsBarred side settled first old)
      → IsBarred side settled first (past_behind
      (if begun then [] else shutting_calls side shut) old)
  bars_first side true shut old is barred = barred (is refl)
  bars_first side false shut old is barred = bars side shut old (λ known. (barred known).shut)

  module _ (a : Area) (side : Side) (body : List ℕ) where
    -- An image that differs in the gate alone from one that a cut may leave has the body that no cut
    -- can take.
    whole_still : (past : List Call) (c d : Image) → BodyIsKept a side body settled first past
        → MayLeave settled first past d
        → SameBut (gate_of side) 1 d c → HasBody a side body c
    whole_still past c d kept may same =
        span_same c (seen_of first past) (body_of a side) (body_blocks a)
        (λ j low high. same j (λ l h. omega (arith, gate_low a side, low, h))
        ∙ may.still j (kept.still j low high))
        ∙ kept.has

    pub at_start : (shut : Bool) (old : List Call) → (shut ≡ true → IsBarred side settled first old)
        → (shut ≡ false → BodyIsKept a side body settled first old)
        → AllLeft (IsReplaced a side body (MayLeave settled first old)) settled first old
    at_start true old barred kept c may =
        record {
          before = c;
          was = may;
          beside = λ j other out. refl;
          copy = inl (shut_as side c (seen_of first old)
              (may.still (gate_of side) (barred refl).still) (barred refl).shut);
        }
    at_start false old barred kept c may =
        record {
          before = c;
          was = may;
          beside = λ j other out. refl;
          copy = inr (whole_still old c c (kept refl) may (λ j out. refl));
        }

    -- the gate is shut again, where a pass begins
    pub one : (begun shut : Bool) (old new : List Call)
        → (shut ≡ true → IsBarred side settled first old)
        → (shut ≡ false → BodyIsKept a side body settled first old)
        → IsImage first → All IsEntry new → MadeSome
        (if begun then [] else shutting_calls side shut) old new
        → Along (IsReplaced a side body (MayLeave settled first old)) settled first old new
    one true shut old new barred kept is all made =
        subst (λ p. Along (IsReplaced a side body (MayLeave settled first old)) settled first old p)
        (sym made) NoCall
    one false true old new barred kept is all made =
        weaker (ButFor (gate_of side) 0 (MayLeave settled first old))
        (IsReplaced a side body (MayLeave settled first old)) settled first old new
        (λ c torn. record {
          before = torn.0;
          was = torn.1;
          beside = λ j other out. torn.2 j (λ low high. omega (arith, low, high));
          copy = inl (shut_as side c (seen_of first old)
              (torn.2 (gate_of side) (λ low high. omega (arith, low, high))
              ∙ torn.1.still (gate_of side) (barred refl).still) (barred refl).shut);
        })
        (touches_some settled first (gate_of side) 0 (Synced ∷ [])
        (tt, tt) old new is all made).moments
    one false false old new barred kept is all made =
        weaker (ButFor (gate_of side) 1 (MayLeave settled first old))
        (IsReplaced a side body (MayLeave settled first old)) settled first old new
        (λ c torn. record {
          before = torn.0;
          was = torn.1;
          beside = λ j other out. torn.2 j (λ low high. other (omega (arith, low, high)));
          copy = inr (whole_still old c torn.0 (kept refl) torn.1 torn.2);
        })
        (touches_some settled first (gate_of side) 1 (shutting_calls side false)
        (on_shutting side false) old new is all made).moments

    -- a part of the body is written behind a gate that is shut
    pub two : (P : Image → Type 0) (at n : ℕ) (mid new : List Call) → body_of a side ≤ at
        → at + n ≤ body_of a side + body_blocks a
        → IsBarred side settled first mid → AllLeft (IsReplaced a side body P) settled first mid
        → Touches settled first at n mid new
        → Along (IsReplaced a side body P) settled first mid new
    two P at n mid new low high barred left touched =
        weaker (ButFor at n (MayLeave settled first mid))
        (IsReplaced a side body P) settled first mid new
        (λ c torn. let old = left torn.0 torn.1 in record {
          before = old.before;
          was = old.was;
          beside = λ j other out. torn.2 j (λ l h. out (omega (arith, low, l))
              (omega (arith, high, h))) ∙ old.beside j other out;
          copy = inl (shut_as side c (seen_of first mid)
              (torn.2 (gate_of side) (λ l h. omega (arith, gate_low a side, low, l))
              ∙ torn.1.still (gate_of side) barred.still) barred.shut);
        })
        touched.moments

    -- the gate is opened before a whole body
    pub three : (P : Image → Type 0) (mid new : List Call) → BodyIsKept a side body settled first mid
        → AllLeft (IsReplaced a side body P) settled first mid
        → Touches settled first (gate_of side) 1 mid new
        → Along (IsReplaced a side body P) settled first mid new
    three P mid new kept left touched =
        weaker (ButFor (gate_of side) 1 (MayLeave settled first mid))
        (IsReplaced a side body P) settled first mid new
        (λ c torn. let old = left torn.0 torn.1 in record {
          before = old.before;
          was = old.was;
          beside = λ j other out. torn.2 j (λ l h. other (omega (arith, l, h)))
              ∙ old.beside j other out;
          copy = inr (whole_still mid c torn.0 kept torn.1 torn.2);
        })
        touched.moments

-- how long a part of the body is
pub part_length : (body : List ℕ) (from n most : ℕ) → length body ≡ 512 * most → from + n ≤ most
    → length (part_of body from n) ≡ 512 * n
part_length body from n most whole within =
    length-take-le (512 * n) (drop (512 * from) body)
    (omega (arith, length-drop (512 * from) body, whole, within))

pub blocks_in : (n : ℕ) (bytes : List ℕ) → length bytes ≡ 512 * n → length bytes / 512 ≡ n
blocks_in n bytes size = omega (arith, size)

pub on_body : (a : Area) (side : Side) (body : List ℕ) (p : SyncProgress) (n : ℕ) (last : Bool)
    → length (part_of body p.written n) / 512 ≡ n
    → AllOn (body_of a side + p.written) n (Wrote (body_of a side + p.written)
    (part_of body p.written n) ∷ (if last then Synced ∷ [] else []))
on_body a side body p n true size = ((refl, size), (tt, tt))
on_body a side body p n false size = ((refl, size), tt)

pub on_last : (side : Side) (last : Bool) → AllOn (gate_of side) 1
    (if last then opening_calls side else [])
on_last side true = ((refl, one_block open_block open_length), (tt, tt))
on_last side false = tt

pub none_still : (settled : Bool) (old : List Call) (j : ℕ)
    → is_pending settled (Synced ∷ old) j ≡ false
unfolding is_pending
none_still settled old j = refl

-- the next blocks stand behind those before them
pub front_put : (first : Image) (a : Area) (side : Side) (body : List ℕ) (w n : ℕ) (mid : List Call)
    → length (part_of body w n) ≡ 512 * n
    → span (seen_of first mid) (body_of a side) w ≡ take (512 * w) body
    → span (seen_of first (Wrote (body_of a side + w) (part_of body w n) ∷ mid)) (body_of a side)
    (w + n) ≡ take (512 * (w + n)) body
front_put first a side body w n mid size front =
    let at = body_of a side in
    let part = part_of body w n in
    let now = seen_of first (Wrote (at + w) part ∷ mid) in
    let whole : length part % 512 ≡ 0 = omega (arith, size) in
    let both : 512 * w + 512 * n ≡ 512 * (w + n) = omega arith in
    let low : span now at w ≡ take (512 * w) body =
    span_same now (seen_of first mid) at w (λ j l h. wrote_others first mid (at + w) part j
    (λ l2 h2. omega (arith, h, l2))) ∙ front in
    let high : span now (at + w) n ≡ part = ap (span now (at + w)) (sym (blocks_in n part size))
    ∙ wrote_puts first mid (at + w) part whole in
    span_more now at w n
    ∙ (ap (λ l. l ++ span now (at + w) n) low
    ∙ (ap (λ l. take (512 * w) body ++ l) high
    ∙ (sym (take-add (512 * w) (512 * n) body) ∙ ap (λ k. take k body) both)))
