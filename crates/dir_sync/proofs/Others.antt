-- Calls of others, which stay off a copy, keep what stands of it; and what a body is.
use Rattle.std.proofs.Common.{◌≡◌, inl, inr, ℕ, ◌+◌, ◌-◌, ◌*◌, ◌/◌, ◌<◌, ◌≤◌, Bool, false, ◌||◌, if◌then◌else◌, List, [], ◌∷◌, ◌++◌, length, take, drop, refl, ◌∙◌, ap, append_assoc, arith}
use Rattle.std.specs.List.{AllByRecursion}
use Rattle.std.proofs.lemmas.Bool.{ne_eqb}
use Rattle.std.proofs.lemmas.List.{take_at, drop_at, length-drop, length-take-le}
use Rattle.sha2.specs.Sha256.{sha256}
use Rattle.device_log.specs.Image.{Image, flipped, turned}
use Rattle.device_log.specs.Calls.{ToRead, ToWrite, ToSync, Call, Read, Wrote, Synced, RefusedCall, Told, PowerCut, Flipped}
use Rattle.device_log.specs.Seen.{seen_of, is_pending}
use Rattle.device_log.proofs.Puts.{outside_range}
use Rattle.device_log.proofs.Spans.{span_same}
use Rattle.device_log.proofs.SeenLaws.{wrote_others, refused_others}
use Rattle.stripe_header.specs.declared.area.Area.{Area}
use Rattle.stripe_header.specs.declared.area.Side.{Side}
use Rattle.stripe_header.specs.declared.states.CopyState.{CopyState}
use Rattle.stripe_header.specs.Layout.{gate_of, body_of, body_blocks}
use Rattle.stripe_header.specs.Spelling.{Numbers, numbers_of, head_bytes, foot_bytes, covered_bytes, copy_bytes}
use Rattle.stripe_header.specs.Reading.{block_bytes}
use Rattle.stripe_header.proofs.CopyLaws.{length-head}
use Rattle.dir_sync.specs.declared.progress.SyncProgress.{SyncProgress}
use Rattle.dir_sync.specs.Moments.{Stands}
use Rattle.dir_sync.specs.Runs.{ComesBack, spelled_body}
use Rattle.dir_sync.specs.RunLaws.{IsOfCopy, StaysOff}
use Rattle.dir_sync.proofs.Stages.{shut_as}

-- the copy's blocks are seen as before, and none is pending that was not
record Spared (settled : Bool) (first : Image) (a : Area) (side : Side) (old new : List Call)
    : Type 0 where
  pub seen : (j : ℕ) → IsOfCopy a side j → seen_of first new j ≡ seen_of first old j
  pub still : (j : ℕ) → IsOfCopy a side j → is_pending settled old j ≡ false
      → is_pending settled new j ≡ false

flip_others : (at byte j : ℕ) (c : Image) → (at ≤ j → j < at + 1 → ⊥) → flipped at byte c j ≡ c j
flip_others at byte j c other =
    ap (λ (b : Bool). if b then turned byte (c j) else c j)
    (ne_eqb j at (λ e. other (omega (arith, e)) (omega (arith, e))))

module _ (settled : Bool) (first : Image) (a : Area) (side : Side) where
  spared_by : (call : Call) (old : List Call) → StaysOff a side call
      → Spared settled first a side old (call ∷ old)
  unfolding seen_of is_pending
  spared_by (Read at bytes) old off = record { seen = λ j mine. refl; still = λ j mine is. is }
  spared_by (Wrote at bytes) old off =
      record {
        seen = λ j mine. wrote_others first old at bytes j (λ low high. off j low high mine);
        still = λ j mine is. ap (λ b. b || is_pending settled old j)
            (outside_range at (length bytes / 512) j (λ low high. off j low high mine)) ∙ is;
      }
  spared_by Synced old off = record { seen = λ j mine. refl; still = λ j mine is. refl }
  spared_by (RefusedCall (ToRead at n) count) old off =
      record { seen = λ j mine. refl; still = λ j mine is. is }
  spared_by (RefusedCall (ToWrite at n left) count) old off =
      record {
        seen = λ j mine. refused_others first old at n left count j
            (λ low high. off j low high mine);
        still = λ j mine is. ap (λ b. b || is_pending settled old j)
            (outside_range at n j (λ low high. off j low high mine)) ∙ is;
      }
  spared_by (RefusedCall ToSync count) old off =
      record { seen = λ j mine. refl; still = λ j mine is. is }
  spared_by (Told act) old off = record { seen = λ j mine. refl; still = λ j mine is. is }
  spared_by (PowerCut choice left) old off = absurd off
  spared_by (Flipped at byte) old off =
      record {
        seen = λ j mine. flip_others at byte j (seen_of first old)
            (λ low high. off j low high mine);
        still = λ j mine is. is;
      }

  stands_spared : (body : List ℕ) (p : SyncProgress) (old new : List Call)
      → Spared settled first a side old new
      → Stands a side body p settled first old → Stands a side body p settled first new
  stands_spared body p old new spared stands =
      let gate_as = spared.seen (gate_of side) (inl refl) in
      record {
        within = stands.within;
        gate = λ is_shut. let barred = stands.gate is_shut in record {
          still = spared.still (gate_of side) (inl refl) barred.still;
          shut = shut_as side (seen_of first new) (seen_of first old) gate_as barred.shut;
        };
        front = span_same (seen_of first new) (seen_of first old) (body_of a side) p.written
            (λ j low high. spared.seen j (inr (low, omega (arith, high, stands.within))))
            ∙ stands.front;
        whole = λ other. let kept = stands.whole other in record {
          still = λ j low high. spared.still j (inr (low, high)) (kept.still j low high);
          has = span_same (seen_of first new) (seen_of first old) (body_of a side) (body_blocks a)
              (λ j low high. spared.seen j (inr (low, high))) ∙ kept.has;
        };
      }

  pub others_spare : (body : List ℕ) (p : SyncProgress) (calls old : List Call)
      → AllByRecursion (StaysOff a side) calls
      → Stands a side body p settled first old → Stands a side body p settled first (calls ++ old)
  others_spare body p [] old off stands = stands
  others_spare body p (call ∷ calls) old off stands =
      stands_spared body p (calls ++ old) (call ∷ (calls ++ old))
      (spared_by call (calls ++ old) off.0) (others_spare body p calls old off.1 stands)

-- in a body that is spelled round the directory of another stands that directory
pub directory_again : (n : Numbers) (s : CopyState) (body back : List ℕ) → 1024 ≤ length body
    → length back ≡ length body
    → back ≡ copy_bytes 2 n s (block_bytes 512 (length body - 1024) body)
    → block_bytes 512 (length back - 1024) back ≡ block_bytes 512 (length body - 1024) body
unfolding block_bytes
directory_again n s body back long size spelled =
    let k = length body - 1024 in
    let head = head_bytes 2 n s in
    let directory = take k (drop 512 body) in
    let foot = foot_bytes s.serial (sha256 (covered_bytes 2 n s directory)) in
    let wide : length directory ≡ k =
    length-take-le k (drop 512 body) (omega (arith, length-drop 512 body, long)) in
    let parts : back ≡ head ++ (directory ++ foot) =
    spelled ∙ append_assoc head directory foot in
    ap (λ m. take (m - 1024) (drop 512 back)) size
    ∙ (ap (λ l. take k (drop 512 l)) parts
    ∙ (ap (take k) (drop_at head (directory ++ foot) 512 (length-head 2 n s))
    ∙ take_at directory foot k wide))

pub comes_back : (a : Area) (s : CopyState) (body back : List ℕ)
    → length body ≡ 512 * body_blocks a → length back ≡ length body
    → back ≡ spelled_body a s body → ComesBack a s body back
comes_back a s body back long size spelled =
    let room : 1024 ≤ length body = omega (arith, long) in
    record {
      spelled = spelled;
      whole = size;
      directory = directory_again (numbers_of a.geometry) s body back room size spelled;
    }
