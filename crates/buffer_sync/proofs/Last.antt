-- What the calls wrote last: behind a write, a refused one and calls that write elsewhere; and that a device shows it that tells
-- its content.
use Rattle.std.proofs.Common.{◌≡◌, ℕ, ◌+◌, ◌-◌, ◌*◌, ◌/◌, ◌^◌, ◌<◌, ◌≤◌, ◌⊎◌, Bool, true, false, List, [], ◌∷◌, ◌++◌, Some, None, inl, inr, length, take, drop, zero, suc, refl, sym, ◌∙◌, ap, arith, if◌then◌else◌, Option}
use Rattle.std.specs.Prelude.{◌&&◌, nat_le}
use Rattle.std.specs.List.{AllByRecursion}
use Rattle.std.proofs.lemmas.Bool.{le-leb, le-ltb, lt-leb, lt-ltb}
use Rattle.std.proofs.lemmas.List.{drop-drop, length-drop}
use Rattle.std.proofs.Math.Seq.{take-add}
use Rattle.device_log.specs.Image.{Image, in_range, span}
use Rattle.device_log.specs.Calls.{ToRead, ToWrite, ToSync, Call, Read, Wrote, Synced, RefusedCall, Told, PowerCut, Flipped}
use Rattle.device_log.specs.Along.{Stopped, WasRefused, Went}
use Rattle.device_log.specs.Faults.{faults_of}
use Rattle.device_log.specs.Seen.{seen_of}
use Rattle.device_log.proofs.SeenLaws.{refused_others, synced_same, wrote_others}
use Rattle.device_log.proofs.Spans.{span_none, span_push}
use Rattle.logged_disk.specs.Device.{has_flip}
use Rattle.cache_model.specs.Given.{written_of}
use Rattle.buffer_sync.specs.OnDevice.{WroteLast}

-- ---- one block

either_side : (a b : ℕ) → ((a < b) ⊎ (b ≤ a))
either_side a b = grind arith

inside : (at n j : ℕ) → at ≤ j → j < at + n → in_range at n j ≡ true
inside at n j low high = rw (le-leb at j low, lt-ltb j (at + n) high) refl

in_front : (at n j : ℕ) → j < at → in_range at n j ≡ false
in_front at n j low = rw (lt-leb at j low) refl

either : (b : Bool) → (b && false) ≡ false
either true = refl
either false = refl

behind : (at n j : ℕ) → at + n ≤ j → in_range at n j ≡ false
behind at n j high = rw (le-ltb j (at + n) high) (either (nat_le at j))

-- ---- a device that tells its content shows it

-- where it was written, and where not
one_told : (b : Bool) (here seen block : List ℕ) (older : Option (List ℕ)) → (older ≡ Some block → seen ≡ block) → (if b then Some here else older) ≡ Some block
    → (if b then here else seen) ≡ block
one_told true here seen block older told last = cc
one_told false here seen block older told last = told last

-- where that was refused, and where not
none_told : (b : Bool) (here seen block : List ℕ) (older : Option (List ℕ)) → (older ≡ Some block → seen ≡ block) → (if b then None else older) ≡ Some block
    → (if b then here else seen) ≡ block
none_told true here seen block older told last = cc
none_told false here seen block older told last = told last

pub told_last : (first : Image) (past : List Call) (j : ℕ) (block : List ℕ) → has_flip past ≡ false → written_of past j ≡ Some block → seen_of first past j ≡ block
unfolding seen_of has_flip
told_last first [] j block none last = cc
told_last first (Read at bytes ∷ older) j block none last = told_last first older j block none last
told_last first (Wrote at bytes ∷ older) j block none last =
    one_told (in_range at (length bytes / 512) j) (take 512 (drop (512 * (j - at)) bytes)) (seen_of first older j) block (written_of older j) (told_last first older j block none) last
told_last first (Synced ∷ older) j block none last = told_last first older j block none last
told_last first (RefusedCall (ToRead at n) count ∷ older) j block none last = told_last first older j block none last
told_last first (RefusedCall (ToWrite at n left) count ∷ older) j block none last =
    none_told (in_range at n j) (if in_range at (length left / 512) j then take 512 (drop (512 * (j - at)) left) else seen_of first older j) (seen_of first older j) block (written_of older j)
    (told_last first older j block none) last
told_last first (RefusedCall ToSync count ∷ older) j block none last = told_last first older j block none last
told_last first (Told act ∷ older) j block none last = told_last first older j block none last
told_last first (PowerCut choice left ∷ older) j block none last = cc
told_last first (Flipped at byte ∷ older) j block none last = cc

-- so do all of these blocks
pub all_told : (first : Image) (past : List Call) (at n : ℕ) (bytes : List ℕ) → has_flip past ≡ false → WroteLast past at n bytes → span (seen_of first past) at n ≡ take (512 * n) bytes
all_told first past at zero bytes none last = span_none (seen_of first past) at
all_told first past at (suc n) bytes none last =
    let c : Image = seen_of first past in
    let size : 512 * suc n ≡ 512 * n + 512 = omega arith in
    let next : suc n ≡ n + 1 = omega arith in
    ap (λ k. span c at k) next
    ∙ (span_push c at n
    ∙ (ap (λ l. l ++ c (at + n)) (all_told first past at n bytes none (λ i within. last i (omega (arith, within))))
    ∙ (ap (λ l. take (512 * n) bytes ++ l) (told_last first past (at + n) (take 512 (drop (512 * n) bytes)) none (last n (omega arith)))
    ∙ (sym (take-add (512 * n) 512 bytes) ∙ ap (λ k. take k bytes) (sym size)))))

-- ---- a write of the blocks behind the front

module _ (at durable filled : ℕ) (bytes : List ℕ) (whole : filled ≡ length bytes / 512) (few : durable ≤ filled) (older : List Call) (front : WroteLast older at durable bytes) where
  abbrev rest : List ℕ
  rest = drop (512 * durable) bytes

  many : length rest / 512 ≡ filled - durable
  many = omega (arith, length-drop (512 * durable) bytes, whole)

  pub written_rest : WroteLast (Wrote (at + durable) rest ∷ older) at filled bytes
  written_rest i within = by (either_side i durable)
    where
      block : List ℕ
      block = take 512 (drop (512 * (at + i - (at + durable))) rest)

      by : (i < durable) ⊎ (durable ≤ i) → written_of (Wrote (at + durable) rest ∷ older) (at + i) ≡ Some (take 512 (drop (512 * i) bytes))
      by (inl low) = ap (λ (b : Bool). if b then Some block else written_of older (at + i)) (in_front (at + durable) (length rest / 512) (at + i) (omega (arith, low))) ∙ front i low
      by (inr high) =
          let here = inside (at + durable) (length rest / 512) (at + i) (omega (arith, high)) (omega (arith, many, within, few)) in
          let place : 512 * durable + 512 * (at + i - (at + durable)) ≡ 512 * i = omega (arith, high) in
          ap (λ (b : Bool). if b then Some block else written_of older (at + i)) here
          ∙ ap (λ l. Some (take 512 l)) (drop-drop (512 * (at + i - (at + durable))) (512 * durable) bytes ∙ ap (λ k. drop k bytes) place)

  -- where it was refused the front is as it was
  pub refused_rest : (count : ℕ) (new : List Call) → WasRefused (Wrote (at + durable) rest) count older new → WroteLast new at durable bytes
  refused_rest count new refused i within =
      ap (λ past. written_of past (at + i)) refused.1
      ∙ (ap (λ (b : Bool). if b then None else written_of older (at + i)) (in_front (at + durable) (length rest / 512) (at + i) (omega (arith, within))) ∙ front i within)

-- ---- calls that write in front of a block

-- the call is a write that ends there or in front of it, or a sync
abbrev pub EndsBy : ℕ → Call → Type 0
EndsBy low (Wrote at bytes) = at + length bytes / 512 ≤ low
EndsBy low Synced = Unit {0}
EndsBy low _ = ⊥

one_ends : (low j : ℕ) (call : Call) (older : List Call) → EndsBy low call → low ≤ j → written_of (call ∷ older) j ≡ written_of older j
one_ends low j (Wrote at bytes) older ends above =
    ap (λ (b : Bool). if b then Some (take 512 (drop (512 * (j - at)) bytes)) else written_of older j) (behind at (length bytes / 512) j (omega (arith, ends, above)))
one_ends low j Synced older ends above = refl
one_ends low j _ older ends above = absurd ends

refused_ends : (low j count : ℕ) (call : Call) (older new : List Call) → EndsBy low call → WasRefused call count older new → low ≤ j → written_of new j ≡ written_of older j
refused_ends low j count (Wrote at bytes) older new ends refused above =
    ap (λ past. written_of past j) refused.1
    ∙ ap (λ (b : Bool). if b then None else written_of older j) (behind at (length bytes / 512) j (omega (arith, ends, above)))
refused_ends low j count Synced older new ends refused above = ap (λ past. written_of past j) refused
refused_ends low j count _ older new ends refused above = absurd ends

pub went_ends : (low j : ℕ) (calls : List Call) (old new : List Call) → AllByRecursion (EndsBy low) calls → Went calls old new → low ≤ j → written_of new j ≡ written_of old j
went_ends low j [] old new all went above = ap (λ past. written_of past j) went
went_ends low j (call ∷ calls) old new all went above = went_ends low j calls (call ∷ old) new all.1 went above ∙ one_ends low j call old all.0 above

pub stopped_ends : (low j count : ℕ) (calls : List Call) (old new : List Call) → AllByRecursion (EndsBy low) calls → Stopped calls count old new → low ≤ j → written_of new j ≡ written_of old j
stopped_ends low j count [] old new all stopped above = absurd stopped
stopped_ends low j count (call ∷ calls) old new all (inl refused) above = refused_ends low j count call old new all.0 refused above
stopped_ends low j count (call ∷ calls) old new all (inr later) above = stopped_ends low j count calls (call ∷ old) new all.1 later above ∙ one_ends low j call old all.0 above

-- ---- and so it is of what is seen

one_shows : (first : Image) (low j : ℕ) (call : Call) (older : List Call) → EndsBy low call → low ≤ j → seen_of first (call ∷ older) j ≡ seen_of first older j
one_shows first low j (Wrote at bytes) older ends above = wrote_others first older at bytes j (λ from to. omega (arith, to, ends, above))
one_shows first low j Synced older ends above = ap (λ (c : Image). c j) (synced_same first older)
one_shows first low j _ older ends above = absurd ends

refused_shows : (first : Image) (low j count : ℕ) (call : Call) (older new : List Call) → EndsBy low call → WasRefused call count older new → low ≤ j
    → seen_of first new j ≡ seen_of first older j
unfolding seen_of
refused_shows first low j count (Wrote at bytes) older new ends refused above =
    ap (λ past. seen_of first past j) refused.1
    ∙ refused_others first older at (length bytes / 512) refused.0 count j (λ from to. omega (arith, to, ends, above))
refused_shows first low j count Synced older new ends refused above = ap (λ past. seen_of first past j) refused
refused_shows first low j count _ older new ends refused above = absurd ends

pub went_shows : (first : Image) (low j : ℕ) (calls : List Call) (old new : List Call) → AllByRecursion (EndsBy low) calls → Went calls old new → low ≤ j
    → seen_of first new j ≡ seen_of first old j
went_shows first low j [] old new all went above = ap (λ past. seen_of first past j) went
went_shows first low j (call ∷ calls) old new all went above = went_shows first low j calls (call ∷ old) new all.1 went above ∙ one_shows first low j call old all.0 above

pub stopped_shows : (first : Image) (low j count : ℕ) (calls : List Call) (old new : List Call) → AllByRecursion (EndsBy low) calls → Stopped calls count old new → low ≤ j
    → seen_of first new j ≡ seen_of first old j
stopped_shows first low j count [] old new all stopped above = absurd stopped
stopped_shows first low j count (call ∷ calls) old new all (inl refused) above = refused_shows first low j count call old new all.0 refused above
stopped_shows first low j count (call ∷ calls) old new all (inr later) above =
    stopped_shows first low j count calls (call ∷ old) new all.1 later above ∙ one_shows first low j call old all.0 above

-- ---- the count of faults

faults_fit : (past : List Call) → faults_of past ≤ 2 ^ 64 - 1
unfolding faults_of
faults_fit [] = omega arith
faults_fit (Read at bytes ∷ older) = faults_fit older
faults_fit (Wrote at bytes ∷ older) = faults_fit older
faults_fit (Synced ∷ older) = faults_fit older
faults_fit (RefusedCall what count ∷ older) = omega arith
faults_fit (Told act ∷ older) = faults_fit older
faults_fit (PowerCut choice left ∷ older) = faults_fit older
faults_fit (Flipped at byte ∷ older) = faults_fit older

-- it does not fall
pub faults_rise : (made old : List Call) → faults_of old ≤ faults_of (made ++ old)
unfolding faults_of
faults_rise [] old = omega arith
faults_rise (Read at bytes ∷ made) old = faults_rise made old
faults_rise (Wrote at bytes ∷ made) old = faults_rise made old
faults_rise (Synced ∷ made) old = faults_rise made old
faults_rise (RefusedCall what count ∷ made) old = omega (arith, faults_rise made old, faults_fit (made ++ old))
faults_rise (Told act ∷ made) old = faults_rise made old
faults_rise (PowerCut choice left ∷ made) old = faults_rise made old
faults_rise (Flipped at byte ∷ made) old = faults_rise made old
