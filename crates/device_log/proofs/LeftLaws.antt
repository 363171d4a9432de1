-- What a cut may leave behind each call.
use Rattle.std.proofs.Common.{◌≡◌, ℕ, ◌-◌, ◌*◌, ◌/◌, ◌<◌, ◌==◌, ◌||◌, Bool, true, false, if◌then◌else◌, List, [], ◌∷◌, length, take, drop, None, Some, All, refl, sym, ◌∙◌, ap, subst, inl, inr}
use Rattle.std.proofs.lemmas.Bool.{cases_lt}
use Rattle.hex.specs.Hex.{IsBytes}
use Rattle.device_log.specs.declared.choice.CutChoice.{CutChoice}
use Rattle.device_log.specs.declared.choice.CutChoice.TheVariants.{Lost, Kept, Torn, Junk}
use Rattle.device_log.specs.Image.{Image, IsImage, SameBut, span, in_range, put, within, turned}
use Rattle.device_log.specs.Calls.{ToRead, ToWrite, ToSync, Call, Read, Wrote, Synced, RefusedCall, Told, PowerCut, Flipped}
use Rattle.device_log.specs.Seen.{seen_of, kept_of, is_pending, MayLeave}
use Rattle.device_log.specs.Faults.{IsEntry}
use Rattle.device_log.specs.Along.{AllLeft, ButFor}
use Rattle.device_log.specs.Cuts.{write_over, torn_block, junk_block, left_by}
use Rattle.device_log.proofs.Puts.{inside_range, within_others, within_is_image, span_put_low, span_put_high}
use Rattle.device_log.proofs.SeenLaws.{wrote_others, refused_others, seen_is_image, left_is_image}

pub or_false : (a b : Bool) → (a || b) ≡ false → (a ≡ false) × (b ≡ false)
or_false true b is = absurd (cc is)
or_false false b is = (refl, is)

-- One of those before, which is what is seen within the range, and else what is left.
torn_from : (settled : Bool) (first : Image) (older newer : List Call) (at n : ℕ) (c : Image)
    → IsImage (seen_of first older) → SameBut at n (seen_of first older) (seen_of first newer)
    → ((j : ℕ) → in_range at n j ≡ false → is_pending settled older j ≡ false → is_pending settled newer j ≡ false)
    → MayLeave settled first newer c → ButFor at n (MayLeave settled first older) c
torn_from settled first older newer at n c is same pends may = (
  within at n (seen_of first older) c,
  record {
    image = within_is_image at n (seen_of first older) c is may.image;
    still = λ j still. elim (in_range at n j) as (λ b. in_range at n j ≡ b → (if b then seen_of first older j else c j) ≡ seen_of first older j) [
      | true ↦ λ here. refl
      | false ↦ λ out. may.still j (pends j out still) ∙ same j (λ low high. absurd (let e : true ≡ false = sym (inside_range at n j low high) ∙ out in cc e))
    ] refl;
  },
  λ j outside. sym (within_others at n (seen_of first older) c j outside),
)

module _ (settled : Bool) (first : Image) (older : List Call) (c : Image) where
  -- a write, whether it fails or not, may leave any bytes in its range
  pub wrote_torn : (at : ℕ) (bytes : List ℕ) → IsImage (seen_of first older) → MayLeave settled first (Wrote at bytes ∷ older) c
      → ButFor at (length bytes / 512) (MayLeave settled first older) c
  unfolding is_pending
  wrote_torn at bytes is =
      torn_from settled first older (Wrote at bytes ∷ older) at (length bytes / 512) c is (wrote_others first older at bytes)
      (λ j outside still. ap (λ b. b || is_pending settled older j) outside ∙ still)

  pub refused_torn : (at n : ℕ) (left : List ℕ) (count : ℕ) → IsImage (seen_of first older)
      → MayLeave settled first (RefusedCall (ToWrite at n left) count ∷ older) c → ButFor at n (MayLeave settled first older) c
  unfolding is_pending
  refused_torn at n left count is =
      torn_from settled first older (RefusedCall (ToWrite at n left) count ∷ older) at n c is (refused_others first older at n left count)
      (λ j outside still. ap (λ b. b || is_pending settled older j) outside ∙ still)

  -- a sync leaves what is seen, and nothing else
  pub synced_settles : MayLeave settled first (Synced ∷ older) c → (j : ℕ) → c j ≡ seen_of first (Synced ∷ older) j
  unfolding is_pending
  synced_settles may j = may.still j refl

  pub synced_leaves : MayLeave settled first (Synced ∷ older) c → MayLeave settled first older c
  unfolding is_pending seen_of
  synced_leaves may = record { image = may.image; still = λ j still. may.still j refl }

  -- a sync that failed settles nothing: it leaves what could be left before
  pub sync_refused_leaves : (count : ℕ) → MayLeave settled first (RefusedCall ToSync count ∷ older) c → MayLeave settled first older c
  unfolding is_pending seen_of
  sync_refused_leaves count may = record { image = may.image; still = may.still }

  pub sync_refused_may : (count : ℕ) → MayLeave settled first older c → MayLeave settled first (RefusedCall ToSync count ∷ older) c
  unfolding is_pending seen_of
  sync_refused_may count may = record { image = may.image; still = may.still }

  -- reads change nothing
  pub read_leaves : (at : ℕ) (bytes : List ℕ) → MayLeave settled first (Read at bytes ∷ older) c → MayLeave settled first older c
  unfolding is_pending seen_of
  read_leaves at bytes may = record { image = may.image; still = may.still }

  pub read_refused_leaves : (at n count : ℕ) → MayLeave settled first (RefusedCall (ToRead at n) count ∷ older) c → MayLeave settled first older c
  unfolding is_pending seen_of
  read_refused_leaves at n count may = record { image = may.image; still = may.still }

-- a machine that goes on has what is seen
pub seen_may_stay : (settled : Bool) (first : Image) (past : List Call) → IsImage (seen_of first past) → MayLeave settled first past (seen_of first past)
seen_may_stay settled first past is = record { image = is; still = λ j still. refl }

-- a write keeps what does not speak of its range
pub wrote_keeps : (P : Image → Type 0) (settled : Bool) (first : Image) (older : List Call) (at : ℕ) (bytes : List ℕ)
    → IsImage (seen_of first older) → ((d c : Image) → P d → SameBut at (length bytes / 512) d c → P c)
    → AllLeft P settled first older → AllLeft P settled first (Wrote at bytes ∷ older)
wrote_keeps P settled first older at bytes is stays all c may =
    let torn = wrote_torn settled first older c at bytes is may in
    stays torn.0 c (all torn.0 torn.1) torn.2

-- a block that is not pending is kept as it is seen
pub kept_still : (settled : Bool) (first : Image) (past : List Call) (j : ℕ) → is_pending settled past j ≡ false → kept_of first past j ≡ seen_of first past j
unfolding kept_of seen_of is_pending
kept_still settled first [] j still = refl
kept_still settled first (Read at bytes ∷ older) j still = kept_still settled first older j still
kept_still settled first (Wrote at bytes ∷ older) j still =
    let both = or_false (in_range at (length bytes / 512) j) (is_pending settled older j) still in
    kept_still settled first older j both.1 ∙ sym (ap (λ b. if b then take 512 (drop (512 * (j - at)) bytes) else seen_of first older j) both.0)
kept_still settled first (Synced ∷ older) j still = refl
kept_still settled first (RefusedCall (ToRead at n) count ∷ older) j still = kept_still settled first older j still
kept_still settled first (RefusedCall (ToWrite at n left) count ∷ older) j still =
    let both = or_false (in_range at n j) (is_pending settled older j) still in
    kept_still settled first older j both.1 ∙ sym (ap (λ b. if b then put at left (seen_of first older) j else seen_of first older j) both.0)
kept_still settled first (RefusedCall ToSync count ∷ older) j still = kept_still settled first older j still
kept_still settled first (Told act ∷ older) j still = kept_still settled first older j still
kept_still settled first (PowerCut choice left ∷ older) j still = refl
kept_still settled first (Flipped at byte ∷ older) j still = ap (λ l. if j == at then turned byte l else l) (kept_still settled first older j still)

-- no write since the last sync covers a block that is not pending
no_write : (settled : Bool) (past : List Call) (j : ℕ) → is_pending settled past j ≡ false → write_over past j ≡ None
unfolding is_pending write_over
no_write settled [] j still = refl
no_write settled (Read at bytes ∷ older) j still = no_write settled older j still
no_write settled (Wrote at bytes ∷ older) j still =
    let both = or_false (in_range at (length bytes / 512) j) (is_pending settled older j) still in
    ap (λ b. if b then Some at else write_over older j) both.0 ∙ no_write settled older j both.1
no_write settled (Synced ∷ older) j still = refl
no_write settled (RefusedCall (ToRead at n) count ∷ older) j still = no_write settled older j still
no_write settled (RefusedCall (ToWrite at n left) count ∷ older) j still =
    no_write settled older j ((or_false (in_range at n j) (is_pending settled older j) still).1)
no_write settled (RefusedCall ToSync count ∷ older) j still = no_write settled older j still
no_write settled (Told act ∷ older) j still = no_write settled older j still
no_write settled (PowerCut choice left ∷ older) j still = refl
no_write settled (Flipped at byte ∷ older) j still = no_write settled older j still

left_still : (choice : CutChoice) (settled : Bool) (first : Image) (past : List Call) (j : ℕ) → is_pending settled past j ≡ false → left_by choice first past j ≡ seen_of first past j
left_still Lost settled first past j still = kept_still settled first past j still
left_still Kept settled first past j still = refl
left_still Torn settled first past j still = ap (λ o. torn_block o j (seen_of first past j)) (no_write settled past j still)
left_still Junk settled first past j still = ap (λ o. junk_block o (seen_of first past j)) (no_write settled past j still)

-- what a cut leaves of a device in memory is one of those that it may leave
pub left_by_may : (choice : CutChoice) (settled : Bool) (first : Image) (past : List Call) → IsImage first → All IsEntry past → MayLeave settled first past (left_by choice first past)
left_by_may choice settled first past is all = record {
  image = left_is_image choice first past is all;
  still = λ j still. left_still choice settled first past j still;
}

-- so is what is seen behind it, where only its own blocks were written
pub cut_may_leave : (choice : CutChoice) (first : Image) (size : ℕ) (past : List Call) → IsImage first → All IsEntry past
    → MayLeave true first past (seen_of first (PowerCut choice (span (left_by choice first past) 0 size) ∷ past))
unfolding seen_of
cut_may_leave choice first size past is all =
    let found = left_by choice first past in
    let image = left_is_image choice first past is all in
    let may = left_by_may choice true first past is all in
    let low = span_put_low found (seen_of first past) image.whole size in
    let high = span_put_high found (seen_of first past) image.whole size in
    let seen = seen_is_image first past is all in
    record {
      image = record {
        whole = λ j. elim (cases_lt j size) [ inl lt ↦ ap length (low j lt) ∙ image.whole j | inr le ↦ ap length (high j le) ∙ seen.whole j ];
        bytes = λ j. elim (cases_lt j size) [
          | inl lt ↦ subst IsBytes (sym (low j lt)) (image.bytes j)
          | inr le ↦ subst IsBytes (sym (high j le)) (seen.bytes j)
        ];
      };
      still = λ j still. elim (cases_lt j size) [ inl lt ↦ low j lt ∙ may.still j still | inr le ↦ high j le ];
    }

-- behind a cut in memory each block of the device is what the kind of cut leaves
pub cut_shows : (choice : CutChoice) (first : Image) (size : ℕ) (past : List Call) → IsImage first → All IsEntry past → (j : ℕ) → j < size
    → seen_of first (PowerCut choice (span (left_by choice first past) 0 size) ∷ past) j ≡ left_by choice first past j
unfolding seen_of
cut_shows choice first size past is all j low = span_put_low (left_by choice first past) (seen_of first past) ((left_is_image choice first past is all).whole) size j low
