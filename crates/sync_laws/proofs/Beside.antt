-- Calls on one range of blocks, one after the other, and what they leave beside it.
use Rattle.std.proofs.Common.{◌≡◌, ◌≤◌, ◌<◌, ◌+◌, ◌/◌, ℕ, Bool, List, [], ◌∷◌, length, All, inl, inr, refl, sym, subst, ◌∙◌}
use Rattle.device_log.specs.Image.{Image, IsImage}
use Rattle.device_log.specs.Calls.{ToSync, ToWrite, Call, Read, Wrote, Synced, RefusedCall, Told, PowerCut, Flipped}
use Rattle.device_log.specs.Faults.{IsEntry}
use Rattle.device_log.specs.Along.{AllLeft, Along, OneMore, WasRefused}
use Rattle.dir_sync.specs.SyncCalls.{MadeSome}
use Rattle.dir_sync.proofs.Touched.{AllOn, OnRange, Touches, entries_before, touches_some}
use Rattle.reopening.specs.Stages.{StaysIn}

-- what is seen of all other blocks stays, and where they were not pending they are not
abbrev pub StaysBeside : ℕ → ℕ → Bool → Image → List Call → List Call → Type 0
StaysBeside at n settled first old new = (j : ℕ) → (at ≤ j → j < at + n → ⊥) → StaysIn settled first old new j

-- a refused call is one more
refused_is_one : (at n : ℕ) (call : Call) (count : ℕ) (old new : List Call) → OnRange at n call → WasRefused call count old new
    → (last : Call) × (new ≡ last ∷ old)
refused_is_one at n (Read from bytes) count old new on refused = absurd on
refused_is_one at n (Wrote from bytes) count old new on refused =
    (RefusedCall (ToWrite from (length bytes / 512) refused.0) count, refused.1)
refused_is_one at n Synced count old new on refused = (RefusedCall ToSync count, refused)
refused_is_one at n (RefusedCall what c) count old new on refused = absurd on
refused_is_one at n (Told act) count old new on refused = absurd on
refused_is_one at n (PowerCut choice left) count old new on refused = absurd on
refused_is_one at n (Flipped from byte) count old new on refused = absurd on

module _ (at n : ℕ) (settled : Bool) (first : Image) where
  pub beside_none : (old : List Call) → StaysBeside at n settled first old old
  beside_none old j out = (λ still. still, refl)

  beside_more : (start old new : List Call) → StaysBeside at n settled first start old → Touches settled first at n old new
      → StaysBeside at n settled first start new
  beside_more start old new front t j out =
      let s = front j out in
      (λ still. t.still j out (s.0 still), t.seen j out ∙ s.1)

  -- what a cut may leave behind each of the calls, where it follows from what stays beside them
  module _ (image : IsImage first) (P : Image → Type 0) (start : List Call)
      (left : (past : List Call) → StaysBeside at n settled first start past → AllLeft P settled first past) where
    abbrev Comes : List Call → Type 0
    Comes past = StaysBeside at n settled first start past × Along P settled first start past

    one_more : (call : Call) (old : List Call) → StaysBeside at n settled first start (call ∷ old)
        → Along P settled first start old → Comes (call ∷ old)
    one_more call old stays along = (stays, OneMore call old along (left (call ∷ old) stays))

    pub comes_on : (calls : List Call) → AllOn at n calls → (old new : List Call) → All IsEntry new → MadeSome calls old new
        → Comes old → Comes new
    comes_on [] on old new all made was = subst Comes (sym made) was
    comes_on (call ∷ calls) on old new all (inl (count, refused)) was =
        let is = refused_is_one at n call count old new on.0 refused in
        let t = touches_some settled first at n (call ∷ []) (on.0, tt) old new image all (inl (count, refused)) in
        subst Comes (sym is.1)
        (one_more is.0 old (subst (StaysBeside at n settled first start) is.1 (beside_more start old new was.0 t)) was.1)
    comes_on (call ∷ calls) on old new all (inr made) was =
        let t = touches_some settled first at n (call ∷ []) (on.0, tt) old (call ∷ old) image
        (entries_before calls (call ∷ old) new made all) (inr refl) in
        comes_on calls on.1 (call ∷ old) new all made
        (one_more call old (beside_more start old (call ∷ old) was.0 t) was.1)
