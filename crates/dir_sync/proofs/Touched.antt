-- What calls on one range of blocks do.
use Rattle.std.proofs.Common.{◌≡◌, inl, inr, ℕ, ◌+◌, ◌/◌, ◌<◌, ◌≤◌, Bool, false, ◌||◌, List, [], ◌∷◌, length, All, refl, sym, ◌∙◌, ap, subst}
use Rattle.std.proofs.lemmas.List.Elements.{All-tail}
use Rattle.device_log.specs.Image.{Image, IsImage, SameBut}
use Rattle.device_log.specs.Calls.{ToWrite, ToSync, Call, Read, Wrote, Synced, RefusedCall, Told, PowerCut, Flipped}
use Rattle.device_log.specs.Seen.{seen_of, is_pending, MayLeave}
use Rattle.device_log.specs.Faults.{IsEntry}
use Rattle.device_log.specs.Along.{Along, NoCall, ButFor, WasRefused, Went, Stopped}
use Rattle.device_log.proofs.Puts.{outside_range}
use Rattle.device_log.proofs.SeenLaws.{wrote_others, refused_others, synced_same, seen_is_image}
use Rattle.device_log.proofs.LeftLaws.{wrote_torn, refused_torn, synced_leaves, sync_refused_leaves}
use Rattle.device_log.proofs.CallLaws.{joins, one_call, left_after, weaker}
use Rattle.dir_sync.specs.SyncCalls.{MadeSome, past_behind}

pub went_behind : (calls old new : List Call) → Went calls old new → new ≡ past_behind calls old
went_behind [] old new went = went
went_behind (call ∷ calls) old new went = went_behind calls (call ∷ old) new went

pub went_some : (calls old new : List Call) → Went calls old new → MadeSome calls old new
went_some [] old new went = went
went_some (call ∷ calls) old new went = inr (went_some calls (call ∷ old) new went)

pub behind_some : (calls old : List Call) → MadeSome calls old (past_behind calls old)
behind_some [] old = refl
behind_some (call ∷ calls) old = inr (behind_some calls (call ∷ old))

pub stopped_some : (calls : List Call) (count : ℕ) (old new : List Call)
    → Stopped calls count old new → MadeSome calls old new
stopped_some [] count old new stopped = absurd stopped
stopped_some (call ∷ calls) count old new (inl here) = inl (count, here)
stopped_some (call ∷ calls) count old new (inr later) = inr
    (stopped_some calls count (call ∷ old) new later)

tail_if : (call : Call) (old new : List Call) → new ≡ call ∷ old → All IsEntry new → All IsEntry old
tail_if call old new is all = All-tail IsEntry call old (subst (All IsEntry) is all)

refused_before : (call : Call) (count : ℕ) (old new : List Call) → WasRefused call count old new
    → All IsEntry new → All IsEntry old
refused_before (Read at bytes) count old new is all = tail_if _ old new is all
refused_before (Wrote at bytes) count old new (left, is) all = tail_if _ old new is all
refused_before Synced count old new is all = tail_if _ old new is all
refused_before (RefusedCall what n) count old new is all = absurd is
refused_before (Told act) count old new is all = absurd is
refused_before (PowerCut choice left) count old new is all = absurd is
refused_before (Flipped at byte) count old new is all = absurd is

-- what a device noted before it made these calls is in whole blocks of bytes too
pub entries_before : (calls old new : List Call) → MadeSome calls old new → All IsEntry new
    → All IsEntry old
entries_before [] old new is all = subst (All IsEntry) is all
entries_before (call ∷ calls) old new (inl (count, refused)) all =
    refused_before call count old new refused all
entries_before (call ∷ calls) old new (inr more) all = All-tail IsEntry call old
    (entries_before calls (call ∷ old) new more all)

-- a write of this range, or a sync
abbrev pub OnRange : ℕ → ℕ → Call → Type 0
OnRange at n (Read from bytes) = ⊥
OnRange at n (Wrote from bytes) = (from ≡ at) × (length bytes / 512 ≡ n)
OnRange at n Synced = Unit {0}
OnRange at n (RefusedCall what count) = ⊥
OnRange at n (Told act) = ⊥
OnRange at n (PowerCut choice left) = ⊥
OnRange at n (Flipped from byte) = ⊥

abbrev pub AllOn : ℕ → ℕ → List Call → Type 0
AllOn at n [] = Unit {0}
AllOn at n (call ∷ calls) = OnRange at n call × AllOn at n calls

-- nothing is changed but this range, and a cut leaves what it could, but for any bytes there
pub record Touches (settled : Bool) (first : Image) (at n : ℕ) (old new : List Call) : Type 0 where
  pub seen : SameBut at n (seen_of first old) (seen_of first new)
  pub still : (j : ℕ) → (at ≤ j → j < at + n → ⊥) → is_pending settled old j ≡ false
      → is_pending settled new j ≡ false
  pub moments : Along (ButFor at n (MayLeave settled first old)) settled first old new

module _ (settled : Bool) (first : Image) where
  touch_none : (at n : ℕ) (old : List Call) → Touches settled first at n old old
  touch_none at n old = record { seen = λ j out. refl; still = λ j out is. is; moments = NoCall }

  touch_wrote : (at : ℕ) (bytes : List ℕ) (old : List Call) → IsImage (seen_of first old)
      → Touches settled first at (length bytes / 512) old (Wrote at bytes ∷ old)
  unfolding is_pending
  touch_wrote at bytes old is =
      record {
        seen = wrote_others first old at bytes;
        still = λ j out still. ap (λ b. b || is_pending settled old j)
            (outside_range at (length bytes / 512) j out) ∙ still;
        moments = one_call (ButFor at (length bytes / 512) (MayLeave settled first old)) settled
            first (Wrote at bytes) old (λ c may. wrote_torn settled first old c at bytes is may);
      }

  touch_refused : (at n : ℕ) (left : List ℕ) (count : ℕ) (old : List Call)
      → IsImage (seen_of first old)
      → Touches settled first at n old (RefusedCall (ToWrite at n left) count ∷ old)
  unfolding is_pending
  touch_refused at n left count old is =
      record {
        seen = refused_others first old at n left count;
        still = λ j out still. ap (λ b. b || is_pending settled old j) (outside_range at n j out)
            ∙ still;
        moments = one_call (ButFor at n (MayLeave settled first old)) settled first
            (RefusedCall (ToWrite at n left) count) old
            (λ c may. refused_torn settled first old c at n left count is may);
      }

  touch_synced : (at n : ℕ) (old : List Call) → Touches settled first at n old (Synced ∷ old)
  unfolding is_pending
  touch_synced at n old =
      record {
        seen = λ j out. ap (λ (c : Image). c j) (synced_same first old);
        still = λ j out still. refl;
        moments = one_call (ButFor at n (MayLeave settled first old)) settled first Synced old
            (λ c may. (c, synced_leaves settled first old c may, λ j out. refl));
      }

  touch_sync_refused : (at n count : ℕ) (old : List Call)
      → Touches settled first at n old (RefusedCall ToSync count ∷ old)
  unfolding is_pending seen_of
  touch_sync_refused at n count old =
      record {
        seen = λ j out. refl;
        still = λ j out still. still;
        moments = one_call (ButFor at n (MayLeave settled first old)) settled first
            (RefusedCall ToSync count) old (λ c may.
            (c, sync_refused_leaves settled first old c count may, λ j out. refl));
      }

  touch_join : (at n : ℕ) (a b c : List Call) → Touches settled first at n a b
      → Touches settled first at n b c → Touches settled first at n a c
  touch_join at n a b c one two =
      let P = ButFor at n (MayLeave settled first a) in
      record {
        seen = λ j out. two.seen j out ∙ one.seen j out;
        still = λ j out still. two.still j out (one.still j out still);
        moments = joins P settled first a b c one.moments
            (weaker (ButFor at n (MayLeave settled first b)) P settled first b c
            (λ x torn. let before = left_after P settled first a b one.moments
            (λ d may. (d, may, λ j out. refl)) torn.0 torn.1 in
            (before.0, before.1, λ j out. torn.2 j out ∙ before.2 j out)) two.moments);
      }

  moved : (from at m n : ℕ) (old new : List Call) → from ≡ at → m ≡ n
      → Touches settled first from m old new → Touches settled first at n old new
  moved from at m n old new here size t = subst (λ k. Touches settled first at k old new) size
      (subst (λ k. Touches settled first k m old new) here t)

  to_new : (at n : ℕ) (old new other : List Call) → new ≡ other
      → Touches settled first at n old other → Touches settled first at n old new
  to_new at n old new other is t = subst (λ p. Touches settled first at n old p) (sym is) t

  pub touches_some : (at n : ℕ) (calls : List Call) → AllOn at n calls → (old new : List Call)
      → IsImage first → All IsEntry new
      → MadeSome calls old new → Touches settled first at n old new
  touches_some at n [] on old new is all made = to_new at n old new old made (touch_none at n old)
  touches_some at n (Read from bytes ∷ calls) on old new is all made = absurd on.0
  touches_some at n (Wrote from bytes ∷ calls) on old new is all (inl (count, refused)) =
      let before = refused_before (Wrote from bytes) count old new refused all in
      to_new at n old new _ refused.1 (moved from at (length bytes / 512) n old _ on.0.0 on.0.1
      (touch_refused from (length bytes / 512) refused.0 count old
      (seen_is_image first old is before)))
  touches_some at n (Wrote from bytes ∷ calls) on old new is all (inr made) =
      let before = All-tail IsEntry (Wrote from bytes) old
      (entries_before calls (Wrote from bytes ∷ old) new made all) in
      touch_join at n old (Wrote from bytes ∷ old) new
      (moved from at (length bytes / 512) n old (Wrote from bytes ∷ old) on.0.0 on.0.1
      (touch_wrote from bytes old (seen_is_image first old is before)))
      (touches_some at n calls on.1 (Wrote from bytes ∷ old) new is all made)
  touches_some at n (Synced ∷ calls) on old new is all
      (inl (count, made)) = to_new at n old new _ made (touch_sync_refused at n count old)
  touches_some at n (Synced ∷ calls) on old new is all (inr made) =
      touch_join at n old (Synced ∷ old) new (touch_synced at n old)
      (touches_some at n calls on.1 (Synced ∷ old) new is all made)
  touches_some at n (RefusedCall what count ∷ calls) on old new is all made = absurd on.0
  touches_some at n (Told act ∷ calls) on old new is all made = absurd on.0
  touches_some at n (PowerCut choice left ∷ calls) on old new is all made = absurd on.0
  touches_some at n (Flipped from byte ∷ calls) on old new is all made = absurd on.0
