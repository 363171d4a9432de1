-- Blocks that no flip hit.
use Rattle.std.proofs.Common.{◌≡◌, ℕ, ◌-◌, ◌*◌, ◌/◌, ◌==◌, Bool, true, false, if◌then◌else◌, List, [], ◌∷◌, length, take, drop, refl, ◌∙◌, ap}
use Rattle.device_log.specs.Image.{Image, in_range, turned}
use Rattle.device_log.specs.Calls.{ToRead, ToWrite, ToSync, Call, Read, Wrote, Synced, RefusedCall, Told, PowerCut, Flipped}
use Rattle.device_log.specs.Seen.{seen_of, flips_of, is_flipped, unflipped}
use Rattle.device_log.proofs.LeftLaws.{or_false}

-- where a write covers the block, what was there before is of no account
covered : (b : Bool) (x y z : List ℕ) → (b ≡ false → y ≡ z) → (if b then x else y) ≡ (if b then x else z)
covered true x y z same = refl
covered false x y z same = same refl

uncovered : (b flip : Bool) → (if b then false else flip) ≡ false → b ≡ false → flip ≡ false
uncovered true flip is none = absurd (cc none)
uncovered false flip is none = is

-- it is seen as if no flip ever was
pub unflipped_same : (first : Image) (past : List Call) (j : ℕ) → is_flipped past j ≡ false → seen_of first past j ≡ seen_of first (unflipped past) j
unfolding seen_of flips_of unflipped
unflipped_same first [] j none = refl
unflipped_same first (Read at bytes ∷ older) j none = unflipped_same first older j none
unflipped_same first (Wrote at bytes ∷ older) j none =
    covered (in_range at (length bytes / 512) j) (take 512 (drop (512 * (j - at)) bytes)) (seen_of first older j) (seen_of first (unflipped older) j)
    (λ out. unflipped_same first older j (uncovered (in_range at (length bytes / 512) j) (is_flipped older j) none out))
unflipped_same first (Synced ∷ older) j none = unflipped_same first older j none
unflipped_same first (RefusedCall (ToRead at n) count ∷ older) j none = unflipped_same first older j none
unflipped_same first (RefusedCall (ToWrite at n left) count ∷ older) j none =
    let before = unflipped_same first older j none in
    ap (λ l. if in_range at n j then (if in_range at (length left / 512) j then take 512 (drop (512 * (j - at)) left) else l) else l) before
unflipped_same first (RefusedCall ToSync count ∷ older) j none = unflipped_same first older j none
unflipped_same first (Told act ∷ older) j none = unflipped_same first older j none
unflipped_same first (PowerCut choice left ∷ older) j none =
    ap (λ l. if in_range 0 (length left / 512) j then take 512 (drop (512 * (j - 0)) left) else l)
    (unflipped_same first older j ((or_false ((flips_of older j).0) ((flips_of older j).1) none).0))
unflipped_same first (Flipped at byte ∷ older) j none =
    let parts = or_false (j == at) ((flips_of older j).0) none in
    ap (λ b. if b then turned byte (seen_of first older j) else seen_of first older j) parts.0 ∙ unflipped_same first older j parts.1
