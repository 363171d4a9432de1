-- Rows that stand as their documents are kept.
use Rattle.std.proofs.Common.{◌≡◌, ◌≤◌, ◌<◌, ◌+◌, ◌-◌, ◌⊎◌, inl, inr, ℕ, zero, suc, Bool, true, false, List, [], ◌∷◌, map, Option, Some, None, refl, ap, subst, ◌∙◌, arith}
use Rattle.std.specs.Prelude.{◌||◌, ◌==◌, if◌then◌else◌}
use Rattle.std.specs.List.{AllByRecursion, range_with_len, filter_map, cons_option}
use Rattle.std.proofs.lemmas.Bool.{cases_Bool, cases_lt}
use Rattle.device_log.specs.Image.{Image}
use Rattle.stripe_header.specs.declared.area.Area.{Area}
use Rattle.cache_model.specs.declared.findings.FoundRow.{FoundRow}
use Rattle.reopening.specs.declared.newest.Newest.{Newest}
use Rattle.reopening.specs.declared.later.Measure.{Measure}
use Rattle.reopening.specs.Newest.{bound_of, directory_at}
use Rattle.reopening.specs.Documents.{document_at}
use Rattle.reopening.specs.Tests.{standing_at}
use Rattle.reopening.specs.Later.{has_lengths, kept_rows, latest, measure_of, with_lengths}
use Rattle.reopening.specs.Opens.{found_of, opening_with, rows_at}
use Rattle.reopening.specs.Alike.{has_place}
use Rattle.reopening.specs.Kept.{AreAlone, FoundRowsRise, RowsAreKept, StandAll, is_found_at}
use Rattle.reopening.proofs.Alike.{rowless_none}
use Rattle.reopening.proofs.Whole.{image_is_sound, opens_newest}

other_place : (x p : ℕ) → p < x → (x == p) ≡ false
other_place x p lt = grind (arith, lt)

lower_place : (x p : ℕ) → x < p → (x == p) ≡ false
lower_place x p lt = grind (arith, lt)

-- below the first none stands
none_below : (low high p : ℕ) (all : List FoundRow) → p < low → FoundRowsRise low high all → is_found_at all p ≡ false
none_below low high p [] lt rising = refl
none_below low high p (x ∷ rest) lt rising =
    ap (λ b. b || is_found_at rest p) (other_place x.place p (omega (arith, lt, rising.0)))
    ∙ none_below (x.place + 1) high p rest (omega (arith, lt, rising.0)) rising.2

less_rising : (low from high : ℕ) (all : List FoundRow) → low ≤ from → FoundRowsRise from high all → FoundRowsRise low high all
less_rising low from high [] le rising = tt
less_rising low from high (x ∷ rest) le rising = (omega (arith, le, rising.0), rising.1, rising.2)

not_both : (b : Bool) → b ≡ true → b ≡ false → ⊥
not_both true h none = absurd cc
not_both false h none = absurd cc

module _ (f : ℕ → Option FoundRow) where
  -- what stands at places one by one is what stands at all of them
  rising_found : (low high n : ℕ) (all : List FoundRow) → n ≡ high - low → FoundRowsRise low high all → AllByRecursion (λ x. f x.place ≡ Some x) all
      → ((p : ℕ) → low ≤ p → p < high → (f p ≡ None) ⊎ (is_found_at all p ≡ true)) → filter_map f (range_with_len low n) ≡ all
  rising_found low high zero [] e rising stand each = refl
  rising_found low high zero (x ∷ rest) e rising stand each = absurd (omega (arith, e, rising.0, rising.1))
  rising_found low high (suc n) [] e rising stand each = elim (each low (omega arith) (omega (arith, e))) [
    | inl none ↦ ap (λ o. cons_option o (filter_map f (range_with_len (low + 1) n))) none
        ∙ rising_found (low + 1) high n [] (omega (arith, e)) tt tt (λ p from to. each p (omega (arith, from)) to)
    | inr some ↦ absurd (not_both false some refl)
  ]
  rising_found low high (suc n) (x ∷ rest) e rising stand each = elim (cases_lt low x.place) [
    | inl below ↦ elim (each low (omega arith) (omega (arith, e))) [
      | inl none ↦ ap (λ o. cons_option o (filter_map f (range_with_len (low + 1) n))) none
          ∙ rising_found (low + 1) high n (x ∷ rest) (omega (arith, e)) (omega (arith, below), rising.1, rising.2) stand (λ p from to. each p (omega (arith, from)) to)
      | inr some ↦ absurd (not_both (is_found_at (x ∷ rest) low) some
          (none_below x.place high low (x ∷ rest) below (omega arith, rising.1, rising.2)))
    ]
    | inr le ↦
        let here : x.place ≡ low = omega (arith, le, rising.0) in
        let is : f low ≡ Some x = subst (λ p. f p ≡ Some x) here stand.0 in
        ap (λ o. cons_option o (filter_map f (range_with_len (low + 1) n))) is
        ∙ ap (λ l. x ∷ l) (rising_found (low + 1) high n rest (omega (arith, e)) (less_rising (low + 1) (x.place + 1) high rest (omega (arith, here)) rising.2) stand.1
        (λ p from to. elim (each p (omega (arith, from)) to) [
          | inl none ↦ inl none
          | inr some ↦ inr (subst (λ b. (b || is_found_at rest p) ≡ true) (lower_place x.place p (omega (arith, here, from))) some)
        ]))
  ]

latest_alone : (all : List FoundRow) → AreAlone all → latest all ≡ all
unfolding latest
latest_alone [] alone = refl
latest_alone (x ∷ later) alone = ap (λ b. if b then latest later else x ∷ latest later) alone.0 ∙ ap (λ l. x ∷ l) (latest_alone later alone.1)

lengths_hold : (measures : List Measure) (all : List FoundRow) → AllByRecursion (λ (x : FoundRow). has_lengths measures x ≡ true) all
    → with_lengths measures all ≡ all
unfolding with_lengths
lengths_hold measures [] hold = refl
lengths_hold measures (x ∷ rest) hold =
    ap (λ b. if b then x ∷ with_lengths measures rest else with_lengths measures rest) hold.0
    ∙ ap (λ l. x ∷ l) (lengths_hold measures rest hold.1)

all_kept : (all : List FoundRow) → AreAlone all → AllByRecursion (λ (x : FoundRow). has_lengths (map measure_of all) x ≡ true) all
    → kept_rows all ≡ all
all_kept all alone lengths =
    ap (λ l. with_lengths (map measure_of l) l) (latest_alone all alone) ∙ lengths_hold (map measure_of all) all lengths

pub all_found : (a : Area) (c : Image) (n : Newest) (all : List FoundRow) → StandAll a c n all → found_of a n.told (rows_at a c n) c ≡ all
unfolding found_of
all_found a c n all is =
    let rows = rows_at a c n in
    let low = bound_of a.geometry n.told in
    ap kept_rows (rising_found (standing_at a n.told rows c) low n.told.cursor (n.told.cursor - low) all refl is.rising is.stand
    (λ p from to. elim (cases_Bool (has_place p rows)) [
      | inl there ↦ inr (is.no_more p there)
      | inr none ↦ inl (rowless_none a.geometry n.told rows p (document_at a c p) none)
    ]))
    ∙ all_kept all is.alone is.lengths

pub rows_kept : RowsAreKept
rows_kept a c n all newest image is =
    opens_newest a c n newest (image_is_sound a.geometry (directory_at a c n.side) image)
    ∙ ap (λ f. Some (opening_with a.geometry n.told f)) (all_found a c n all is)
