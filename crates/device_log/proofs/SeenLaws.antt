-- What calls do to what is seen and to what is kept.
use Rattle.std.proofs.Common.{◌≡◌, ℕ, ◌/◌, ◌%◌, ◌==◌, Bool, true, false, if◌then◌else◌, List, [], ◌∷◌, length, Option, None, Some, All, refl, ◌∙◌, ap, arith}
use Rattle.std.proofs.lemmas.List.Elements.{All-head, All-tail}
use Rattle.hex.specs.Hex.{IsBytes}
use Rattle.device_log.specs.declared.choice.CutChoice.{CutChoice}
use Rattle.device_log.specs.declared.choice.CutChoice.TheVariants.{Lost, Kept, Torn, Junk}
use Rattle.device_log.specs.Image.{Image, IsImage, SameBut, span, junk, in_range, put}
use Rattle.device_log.specs.Calls.{ToRead, ToWrite, ToSync, Call, Read, Wrote, Synced, RefusedCall, Told, PowerCut, Flipped}
use Rattle.device_log.specs.Seen.{seen_of, kept_of}
use Rattle.device_log.specs.Faults.{IsEntry}
use Rattle.device_log.specs.Cuts.{write_over, torn_block, junk_block, left_by}
use Rattle.device_log.proofs.Puts.{put_others, within_others, put_span, put_is_image, within_is_image, flipped_is_image, junk_whole, junk_bytes}

module _ (first : Image) (older : List Call) where
  pub wrote_puts : (at : ℕ) (bytes : List ℕ) → length bytes % 512 ≡ 0
      → span (seen_of first (Wrote at bytes ∷ older)) at (length bytes / 512) ≡ bytes
  unfolding seen_of
  wrote_puts at bytes whole = put_span at bytes (seen_of first older) whole

  pub wrote_others : (at : ℕ) (bytes : List ℕ)
      → SameBut at (length bytes / 512) (seen_of first older) (seen_of first (Wrote at bytes ∷ older))
  unfolding seen_of
  wrote_others at bytes = put_others at bytes (seen_of first older)

  pub refused_others : (at n : ℕ) (left : List ℕ) (count : ℕ)
      → SameBut at n (seen_of first older) (seen_of first (RefusedCall (ToWrite at n left) count ∷ older))
  unfolding seen_of
  refused_others at n left count = within_others at n (put at left (seen_of first older)) (seen_of first older)

  pub read_same : (at : ℕ) (bytes : List ℕ) → seen_of first (Read at bytes ∷ older) ≡ seen_of first older
  unfolding seen_of
  read_same at bytes = refl

  pub synced_same : seen_of first (Synced ∷ older) ≡ seen_of first older
  unfolding seen_of
  synced_same = refl

same_if : (b : Bool) (l : List ℕ) → (if b then l else l) ≡ l
same_if true l = refl
same_if false l = refl

-- a refused write that changed nothing
pub refused_nothing : (first : Image) (older : List Call) (at n count j : ℕ)
    → seen_of first (RefusedCall (ToWrite at n []) count ∷ older) j ≡ seen_of first older j
unfolding seen_of
refused_nothing first older at n count j =
    ap (λ l. if in_range at n j then l else seen_of first older j) (put_others at [] (seen_of first older) j (λ low high. absurd (omega (arith, low, high))))
    ∙ same_if (in_range at n j) (seen_of first older j)

-- what is seen is an image, where it was at first and each call noted bytes in whole blocks
pub seen_is_image : (first : Image) (past : List Call) → IsImage first → All IsEntry past → IsImage (seen_of first past)
unfolding seen_of
seen_is_image first [] is all = is
seen_is_image first (Read at bytes ∷ older) is all = seen_is_image first older is (All-tail IsEntry (Read at bytes) older all)
seen_is_image first (Wrote at bytes ∷ older) is all =
    put_is_image at bytes (seen_of first older) ((All-head IsEntry (Wrote at bytes) older all).bytes) (seen_is_image first older is (All-tail IsEntry (Wrote at bytes) older all))
seen_is_image first (Synced ∷ older) is all = seen_is_image first older is (All-tail IsEntry Synced older all)
seen_is_image first (RefusedCall (ToRead at n) count ∷ older) is all = seen_is_image first older is (All-tail IsEntry (RefusedCall (ToRead at n) count) older all)
seen_is_image first (RefusedCall (ToWrite at n left) count ∷ older) is all =
    let before = seen_is_image first older is (All-tail IsEntry (RefusedCall (ToWrite at n left) count) older all) in
    within_is_image at n (put at left (seen_of first older)) (seen_of first older)
    (put_is_image at left (seen_of first older) ((All-head IsEntry (RefusedCall (ToWrite at n left) count) older all).bytes) before) before
seen_is_image first (RefusedCall ToSync count ∷ older) is all = seen_is_image first older is (All-tail IsEntry (RefusedCall ToSync count) older all)
seen_is_image first (Told act ∷ older) is all = seen_is_image first older is (All-tail IsEntry (Told act) older all)
seen_is_image first (PowerCut choice left ∷ older) is all =
    put_is_image 0 left (seen_of first older) ((All-head IsEntry (PowerCut choice left) older all).bytes) (seen_is_image first older is (All-tail IsEntry (PowerCut choice left) older all))
seen_is_image first (Flipped at byte ∷ older) is all =
    flipped_is_image at byte (seen_of first older) (seen_is_image first older is (All-tail IsEntry (Flipped at byte) older all))

pub kept_is_image : (first : Image) (past : List Call) → IsImage first → All IsEntry past → IsImage (kept_of first past)
unfolding kept_of
kept_is_image first [] is all = is
kept_is_image first (Read at bytes ∷ older) is all = kept_is_image first older is (All-tail IsEntry (Read at bytes) older all)
kept_is_image first (Wrote at bytes ∷ older) is all = kept_is_image first older is (All-tail IsEntry (Wrote at bytes) older all)
kept_is_image first (Synced ∷ older) is all = seen_is_image first older is (All-tail IsEntry Synced older all)
kept_is_image first (RefusedCall what count ∷ older) is all = kept_is_image first older is (All-tail IsEntry (RefusedCall what count) older all)
kept_is_image first (Told act ∷ older) is all = kept_is_image first older is (All-tail IsEntry (Told act) older all)
kept_is_image first (PowerCut choice left ∷ older) is all =
    put_is_image 0 left (seen_of first older) ((All-head IsEntry (PowerCut choice left) older all).bytes) (seen_is_image first older is (All-tail IsEntry (PowerCut choice left) older all))
kept_is_image first (Flipped at byte ∷ older) is all =
    flipped_is_image at byte (kept_of first older) (kept_is_image first older is (All-tail IsEntry (Flipped at byte) older all))

-- what each kind of cut leaves is an image
torn_holds : (P : List ℕ → Type 0) (o : Option ℕ) (j : ℕ) (seen : List ℕ) → P seen → P junk → P (torn_block o j seen)
torn_holds P None j seen one other = one
torn_holds P (Some at) j seen one other = elim (at == j) as (λ b. P (if b then seen else junk)) [ true ↦ one | false ↦ other ]

junk_holds : (P : List ℕ → Type 0) (o : Option ℕ) (seen : List ℕ) → P seen → P junk → P (junk_block o seen)
junk_holds P None seen one other = one
junk_holds P (Some at) seen one other = other

pub left_is_image : (choice : CutChoice) (first : Image) (past : List Call) → IsImage first → All IsEntry past → IsImage (left_by choice first past)
left_is_image Lost first past is all = kept_is_image first past is all
left_is_image Kept first past is all = seen_is_image first past is all
left_is_image Torn first past is all =
    let seen = seen_is_image first past is all in
    record {
      whole = λ j. torn_holds (λ l. length l ≡ 512) (write_over past j) j (seen_of first past j) (seen.whole j) junk_whole;
      bytes = λ j. torn_holds IsBytes (write_over past j) j (seen_of first past j) (seen.bytes j) junk_bytes;
    }
left_is_image Junk first past is all =
    let seen = seen_is_image first past is all in
    record {
      whole = λ j. junk_holds (λ l. length l ≡ 512) (write_over past j) (seen_of first past j) (seen.whole j) junk_whole;
      bytes = λ j. junk_holds IsBytes (write_over past j) (seen_of first past j) (seen.bytes j) junk_bytes;
    }
