-- Parts of a list between two places.
use Rattle.std.proofs.Common.{◌≡◌, ℕ, ◌+◌, ◌-◌, ◌<◌, ◌≤◌, List, [], ◌∷◌, ◌++◌, length, take, drop, slice_range, refl, sym, ◌∙◌, ap, arith, append-nil, take-add, length-drop, length-take, length-take-le, take_at, drop_at, drop-drop}
use Rattle.std.proofs.lemmas.List.{drop-append-le}
use Rattle.std.proofs.lemmas.Slice.{between_is}
use borrow.Rule.Slice.PartMut.{put_mid}

-- what was read behind a part goes on with it
pub range_more : (old new : List ℕ) (start end n : ℕ) → start ≤ end → end ≤ length new → take end new ≡ take end old
    → slice_range new start (end + n) ≡ slice_range old start end ++ take n (drop end new)
range_more old new start end n order within same =
    let fits : start ≤ length (take end new) = rw length-take (omega arith) in
    between_is new start (end + n)
    ∙ (ap (drop start) (take-add end n new)
    ∙ (drop-append-le start (take end new) (take n (drop end new)) fits
    ∙ ap (λ l. l ++ take n (drop end new)) (ap (drop start) same ∙ sym (between_is old start end))))

pub range_same : (old new : List ℕ) (start end : ℕ) → take end new ≡ take end old → slice_range new start end ≡ slice_range old start end
range_same old new start end same = between_is new start end ∙ (ap (drop start) same ∙ sym (between_is old start end))

-- a part without its front
pub range_behind : (xs : List ℕ) (start end n : ℕ) → slice_range xs (start + n) end ≡ drop n (slice_range xs start end)
range_behind xs start end n =
    between_is xs (start + n) end ∙ (sym (drop-drop n start (take end xs)) ∙ ap (drop n) (sym (between_is xs start end)))

-- a slice that stands for a whole vector again
pub whole_again : (n : ℕ) (new old : List ℕ) → length new ≡ n → take n (new ++ drop (length new) old) ≡ new
whole_again n new old same = take_at new (drop (length new) old) n same

pub is_none : (xs : List ℕ) → length xs ≡ 0 → xs ≡ []
is_none [] none = refl
is_none (x ∷ xs) none = absurd (omega arith)

-- what was written behind a place
pub behind_put : (xs ys : List ℕ) (end : ℕ) → end < length xs → drop end (put_mid end (length xs - end) xs ys) ≡ ys
behind_put xs ys end within =
    drop_at (take end xs) (ys ++ drop (length xs - end) (drop end xs)) end (length-take-le end xs (omega arith))
    ∙ (ap (λ l. ys ++ l) (is_none (drop (length xs - end) (drop end xs)) (omega (arith, length-drop (length xs - end) (drop end xs), length-drop end xs))) ∙ append-nil ys)
