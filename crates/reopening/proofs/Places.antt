-- What stands at the places of entries is all that stands.
use Rattle.std.proofs.Common.{◌≡◌, ◌≤◌, ◌<◌, ◌+◌, ◌-◌, ℕ, zero, suc, Bool, true, false, List, [], ◌∷◌, Option, Some, None, inl, inr, refl, sym, ap, subst, ◌∙◌, arith}
use Rattle.std.specs.Prelude.{◌==◌, ◌&&◌, filter, if◌then◌else◌}
use Rattle.std.specs.List.{cons_option, filter_map, list_any, range_with_len}
use Rattle.std.specs.List.Sorted.{IsPermutation}
use Rattle.std.proofs.lemmas.Bool.{and_parts, cases_Bool, eqb-true, false_from_ne_true, or_from, true≢false}
use Rattle.std.proofs.lemmas.List.Sorted.{list_any-IsPermutation}
use Rattle.std.proofs.lemmas.Map.Views.{any-filter_same}
use Rattle.tape_base.specs.Piece.{key_of_piece}
use Rattle.doc_header.specs.Reading.{doc_of, length_of, payload_of}
use Rattle.tape_base.specs.Blocks.{blocks_of}
use Rattle.dir_table.specs.declared.rows.StoredRow.{StoredRow}
use Rattle.packed_directory.specs.StoredRows.{is_under}
use Rattle.cache_model.specs.declared.findings.FoundRow.{FoundRow}
use Rattle.reopening.specs.Documents.{standing_of}
use Rattle.reopening.specs.Tests.{has_put, is_document, is_inside, judged, lists_puts}
use Rattle.reopening.specs.Alike.{has_place}
use Rattle.reopening.specs.Places.{GroupDecides, PlacesRise, PlacesSuffice, is_among_places}
use Rattle.reopening.specs.Given.{standing_given}
use Rattle.reopening.proofs.Alike.{rowless_none}

-- ---- places

-- no place below those that rise is one of them
none_below : (low : ℕ) (places : List ℕ) (high q : ℕ) → PlacesRise low places high → q < low → is_among_places places q ≡ false
none_below low [] high q rise below = refl
none_below low (p ∷ rest) high q rise below =
    or_from (p == q) (is_among_places rest q) (grind (arith, rise.0, below)) (none_below (p + 1) rest high q rise.2 (omega (arith, rise.0, below)))

module _ (f : ℕ → Option FoundRow) (high : ℕ) where
  -- nothing stands elsewhere
  abbrev NoneBeside : ℕ → List ℕ → Type 0
  NoneBeside low places = (p : ℕ) → low ≤ p → p < high → is_among_places places p ≡ false → f p ≡ None

  from_next : (low : ℕ) (places : List ℕ) → NoneBeside low places → NoneBeside (low + 1) places
  from_next low places none q from to out = none q (omega (arith, from)) to out

  each_place : (n low : ℕ) (places : List ℕ) → low + n ≡ high → PlacesRise low places high → NoneBeside low places
      → filter_map f (range_with_len low n) ≡ filter_map f places
  each_place zero low [] is rise none = refl
  each_place zero low (p ∷ rest) is rise none = absurd (omega (arith, is, rise.0, rise.1))
  each_place (suc n) low [] is rise none =
      ap (λ o. cons_option o (filter_map f (range_with_len (low + 1) n))) (none low (omega arith) (omega (arith, is)) refl)
      ∙ each_place n (low + 1) [] (omega (arith, is)) (omega (arith, is)) (from_next low [] none)
  each_place (suc n) low (p ∷ rest) is rise none = elim (cases_Bool (p == low)) [
    | inl there ↦
        let here : p ≡ low = eqb-true p low there in
        ap (cons_option (f low))
        (each_place n (low + 1) rest (omega (arith, is)) (subst (λ k. PlacesRise (k + 1) rest high) here rise.2)
        (λ q from to out. none q (omega (arith, from)) to (or_from (p == q) (is_among_places rest q) (grind (arith, here, from)) out)))
        ∙ ap (λ k. cons_option (f k) (filter_map f rest)) (sym here)
    | inr beside ↦
        let less : low < p = grind (arith, beside, rise.0) in
        ap (λ o. cons_option o (filter_map f (range_with_len (low + 1) n)))
        (none low (omega arith) (omega (arith, is)) (none_below p (p ∷ rest) high low (omega arith, rise.1, rise.2) less))
        ∙ each_place n (low + 1) (p ∷ rest) (omega (arith, is)) (omega (arith, less), rise.1, rise.2) (from_next low (p ∷ rest) none)
  ]

pub places_suffice : PlacesSuffice
places_suffice g told rows docs low high places rise all =
    each_place (standing_given g told rows docs) high (high - low) low places
    (let up = rises low places high rise in omega (arith, up)) rise
    (λ p from to out. rowless_none g told rows p (docs p) (false_from_ne_true (has_place p rows) (λ there. true≢false (sym (all p from to there) ∙ out))))
  where
    rises : (low : ℕ) (places : List ℕ) (high : ℕ) → PlacesRise low places high → low ≤ high
    rises low [] high rise = rise
    rises low (p ∷ rest) high rise = omega (arith, rise.0, rise.1)

-- ---- the entries of a place

entered_alike : (rows group : List StoredRow) (place : ℕ) → IsPermutation group (filter (λ r. r.place == place) rows)
    → (test : StoredRow → Bool) → list_any (λ r. r.place == place && test r) group ≡ list_any (λ r. r.place == place && test r) rows
entered_alike rows group place same test =
    let both : StoredRow → Bool = λ r. r.place == place && test r in
    list_any-IsPermutation both group (filter (λ r. r.place == place) rows) same
    ∙ any-filter_same both (λ r. r.place == place) true (λ r h. let e = and_parts (r.place == place) (test r) h in e.0) rows

pub group_decides : GroupDecides
unfolding judged
group_decides g told rows group place bytes same =
    let id = (doc_of bytes).id in
    let rest = has_put told.next_put id && lists_puts told.next_put id (payload_of bytes) in
    let inside = is_inside g told.cursor place (blocks_of (length_of bytes)) in
    ap (λ b. if is_document g place bytes && (inside && (b && rest)) then Some (standing_of place bytes) else None)
    (entered_alike rows group place same (is_under g (key_of_piece id)))
