-- What stands at places, by the elements that are left.
use Rattle.std.proofs.Common.{◌≡◌, ◌≤◌, ◌<◌, ◌+◌, ◌-◌, ℕ, zero, suc, Bool, true, false, length, drop, slice_index_or, List, [], ◌∷◌, ◌++◌, Option, Some, None, refl, ap, ◌∙◌, arith}
use Rattle.std.specs.Prelude.{◌==◌, ◌&&◌, ◌||◌, if◌then◌else◌}
use Rattle.std.specs.List.{cons_option, list_any}
use Rattle.std.specs.List.Sorted.{IsNonDecreasingBy, IsPermutation}
use Rattle.std.proofs.lemmas.Bool.{or_from, or_parts}
use Rattle.std.proofs.lemmas.List.Folds.{list_any-append}
use Rattle.std.proofs.lemmas.List.Sorted.{IsNonDecreasingBy-drop, list_any-IsPermutation}
use Rattle.tape_base.specs.declared.geometries.Geometry.{Geometry}
use Rattle.tape_base.specs.Blocks.{blocks_of}
use Rattle.tape_base.specs.Piece.{key_of_piece}
use Rattle.stripe_header.specs.declared.states.CopyState.{CopyState}
use Rattle.doc_header.specs.Reading.{doc_of, length_of, payload_of}
use Rattle.dir_table.specs.declared.rows.StoredRow.{StoredRow}
use Rattle.packed_directory.specs.StoredRows.{is_under}
use Rattle.cache_model.specs.declared.findings.FoundRow.{FoundRow}
use Rattle.reopening.specs.Alike.{has_place}
use Rattle.reopening.specs.Documents.{standing_of}
use Rattle.reopening.specs.Given.{all_given}
use Rattle.reopening.specs.Tests.{has_put, is_document, is_inside, judged, lists_puts}
use Rattle.reopening.proofs.Alike.{rowless_none}
use Rattle.device_opening.specs.Tape.{Ascend, StandBelow, StandFrom}

-- ---- places

pub below_absent : (high p : ℕ) (rows : List StoredRow) → StandBelow high rows → high ≤ p → has_place p rows ≡ false
below_absent high p [] below le = refl
below_absent high p (r ∷ rows) below le = or_from (r.place == p) (has_place p rows) (grind (arith, below.0, le)) (below_absent high p rows below.1 le)

pub from_absent : (low p : ℕ) (rows : List StoredRow) → StandFrom low rows → p < low → has_place p rows ≡ false
from_absent low p [] from lt = refl
from_absent low p (r ∷ rows) from lt = or_from (r.place == p) (has_place p rows) (grind (arith, from.0, lt)) (from_absent low p rows from.1 lt)

-- those that ascend stand from the first on
pub ascend_from : (low : ℕ) (rows : List StoredRow) → Ascend low rows → StandFrom low rows
ascend_from low [] up = tt
ascend_from low (r ∷ rows) up = (up.0, further low r.place rows up.0 (ascend_from r.place rows up.1)) where
  further : (low from : ℕ) (rows : List StoredRow) → low ≤ from → StandFrom from rows → StandFrom low rows
  further low from [] le stand = tt
  further low from (r ∷ rows) le stand = (omega (arith, le, stand.0), further low from rows le stand.1)

pub ascend_lower : (low from : ℕ) (rows : List StoredRow) → low ≤ from → Ascend from rows → Ascend low rows
ascend_lower low from [] le up = tt
ascend_lower low from (r ∷ rows) le up = (omega (arith, le, up.0), up.1)

-- a part of those that ascend does
pub ascend_front : (low : ℕ) (front back : List StoredRow) → Ascend low (front ++ back) → Ascend low front
ascend_front low [] back up = tt
ascend_front low (r ∷ front) back up = (up.0, ascend_front r.place front back up.1)

pub ascend_back : (low : ℕ) (front back : List StoredRow) → Ascend low (front ++ back) → Ascend low back
ascend_back low [] back up = up
ascend_back low (r ∷ front) back up = ascend_lower low r.place back up.0 (ascend_back r.place front back up.1)

-- ---- elements

no_row : (test : StoredRow → Bool) (p : ℕ) (rows : List StoredRow) → has_place p rows ≡ false → list_any (λ (r : StoredRow). r.place == p && test r) rows ≡ false
no_row test p [] none = refl
no_row test p (r ∷ rows) none =
    let e = or_parts (r.place == p) (has_place p rows) none in
    ap (λ b. (b && test r) || list_any (λ (s : StoredRow). s.place == p && test s) rows) e.0 ∙ no_row test p rows e.1

-- of which a place has the same, it is judged the same
same_judged : (g : Geometry) (told : CopyState) (rows other : List StoredRow) (p : ℕ) (bytes : List ℕ)
    → ((test : StoredRow → Bool) → list_any (λ r. r.place == p && test r) rows ≡ list_any (λ r. r.place == p && test r) other)
    → judged g told rows p bytes ≡ judged g told other p bytes
unfolding judged
same_judged g told rows other p bytes same =
    let id = (doc_of bytes).id in
    let rest = has_put told.next_put id && lists_puts told.next_put id (payload_of bytes) in
    let inside = is_inside g told.cursor p (blocks_of (length_of bytes)) in
    ap (λ b. if is_document g p bytes && (inside && (b && rest)) then Some (standing_of p bytes) else None) (same (is_under g (key_of_piece id)))

or_false : (b : Bool) → (b || false) ≡ b
or_false true = refl
or_false false = refl

module _ (g : Geometry) (told : CopyState) (group behind : List StoredRow) (p : ℕ) (bytes : List ℕ) where
  -- those behind judge alone
  pub behind_alone : has_place p group ≡ false → judged g told (group ++ behind) p bytes ≡ judged g told behind p bytes
  behind_alone none =
      same_judged g told (group ++ behind) behind p bytes
      (λ test. list_any-append (λ r. r.place == p && test r) group behind ∙ ap (λ b. b || list_any (λ r. r.place == p && test r) behind) (no_row test p group none))

  -- or those before
  pub group_alone : has_place p behind ≡ false → judged g told (group ++ behind) p bytes ≡ judged g told group p bytes
  group_alone none =
      same_judged g told (group ++ behind) group p bytes
      (λ test. list_any-append (λ r. r.place == p && test r) group behind
      ∙ (ap (λ b. list_any (λ r. r.place == p && test r) group || b) (no_row test p behind none) ∙ or_false (list_any (λ r. r.place == p && test r) group)))

-- ---- all places

module _ (g : Geometry) (told : CopyState) (docs : ℕ → List ℕ) where
  abbrev Gives : List StoredRow → ℕ → ℕ → List FoundRow
  Gives rows low n = all_given g told rows docs low n

  pub same_given : (rows other : List StoredRow) (n low : ℕ)
      → ((p : ℕ) → low ≤ p → p < low + n → judged g told rows p (docs p) ≡ judged g told other p (docs p)) → Gives rows low n ≡ Gives other low n
  same_given rows other zero low same = refl
  same_given rows other (suc n) low same =
      ap (λ o. cons_option o (Gives rows (low + 1) n)) (same low (omega arith) (omega arith))
      ∙ ap (cons_option (judged g told other low (docs low))) (same_given rows other n (low + 1) (λ p from to. same p (omega (arith, from)) (omega (arith, to))))

  pub permuted_given : (rows other : List StoredRow) (low n : ℕ) → IsPermutation rows other → Gives rows low n ≡ Gives other low n
  permuted_given rows other low n same =
      same_given rows other n low (λ p from to. same_judged g told rows other p (docs p) (λ test. list_any-IsPermutation (λ r. r.place == p && test r) rows other same))

  pub none_given : (rows : List StoredRow) (n low : ℕ) → ((p : ℕ) → low ≤ p → p < low + n → has_place p rows ≡ false) → Gives rows low n ≡ []
  none_given rows zero low none = refl
  none_given rows (suc n) low none =
      ap (λ o. cons_option o (Gives rows (low + 1) n)) (rowless_none g told rows low (docs low) (none low (omega arith) (omega arith)))
      ∙ none_given rows n (low + 1) (λ p from to. none p (omega (arith, from)) (omega (arith, to)))

  cons_append : (o : Option FoundRow) (xs ys : List FoundRow) → cons_option o (xs ++ ys) ≡ cons_option o xs ++ ys
  cons_append None xs ys = refl
  cons_append (Some x) xs ys = refl

  -- of places in a row, first these, then those
  pub parts_given : (rows : List StoredRow) (m low n : ℕ) → Gives rows low (m + n) ≡ Gives rows low m ++ Gives rows (low + m) n
  parts_given rows zero low n =
      let none : 0 + n ≡ n = omega arith in
      let here : low ≡ low + 0 = omega arith in
      ap (Gives rows low) none ∙ ap (λ k. Gives rows k n) here
  parts_given rows (suc m) low n =
      let longer : suc m + n ≡ suc (m + n) = omega arith in
      let place : low + 1 + m ≡ low + suc m = omega arith in
      ap (Gives rows low) longer
      ∙ (ap (cons_option (judged g told rows low (docs low))) (parts_given rows m (low + 1) n ∙ ap (λ k. Gives rows (low + 1) m ++ Gives rows k n) place)
      ∙ cons_append (judged g told rows low (docs low)) (Gives rows (low + 1) m) (Gives rows (low + suc m) n))

  -- the first place that has elements is next
  next_given : (rows : List StoredRow) (low p high : ℕ) → low ≤ p → p < high → StandFrom p rows
      → Gives rows low (high - low) ≡ cons_option (judged g told rows p (docs p)) (Gives rows (p + 1) (high - (p + 1)))
  next_given rows low p high le lt from =
      let all : high - low ≡ (p - low) + suc (high - (p + 1)) = omega (arith, le, lt) in
      let here : low + (p - low) ≡ p = omega (arith, le) in
      ap (Gives rows low) all
      ∙ (parts_given rows (p - low) low (suc (high - (p + 1)))
      ∙ (ap (λ l. l ++ Gives rows (low + (p - low)) (suc (high - (p + 1)))) (none_given rows (p - low) low (λ q above below. from_absent p q rows from (omega (arith, below, here))))
      ∙ ap (λ k. Gives rows k (suc (high - (p + 1)))) here))

  module _ (group behind : List StoredRow) (p : ℕ) (below : StandBelow (p + 1) group) where
    -- elements of places that are passed say no more
    pub skip_given : (low n : ℕ) → p < low → Gives (group ++ behind) low n ≡ Gives behind low n
    skip_given low n past =
        same_given (group ++ behind) behind n low (λ q from to. behind_alone g told group behind q (docs q) (below_absent (p + 1) q group below (omega (arith, from, past))))

    -- those of the next place say what stands there
    pub take_given : (low high : ℕ) → low ≤ p → p < high → StandFrom p (group ++ behind) → StandFrom (p + 1) behind
        → Gives (group ++ behind) low (high - low) ≡ cons_option (judged g told group p (docs p)) (Gives behind (p + 1) (high - (p + 1)))
    take_given low high le lt from above =
        next_given (group ++ behind) low p high le lt from
        ∙ (ap (λ o. cons_option o (Gives (group ++ behind) (p + 1) (high - (p + 1)))) (group_alone g told group behind p (docs p) (from_absent (p + 1) p behind above (omega arith)))
        ∙ ap (cons_option (judged g told group p (docs p))) (skip_given (p + 1) (high - (p + 1)) (omega arith)))

  -- where all that is left stands above, nothing more stands below
  pub stop_given : (rows : List StoredRow) (low high : ℕ) → StandFrom high rows → Gives rows low (high - low) ≡ []
  stop_given rows low high from =
      none_given rows (high - low) low (λ p above below. from_absent high p rows from (omega (arith, above, below)))

-- ---- parts of a slice

-- those from one on stand at or above a place where that one does
pub from_one : (rows : List StoredRow) (n low place : ℕ) (d : StoredRow) → Ascend low rows → n < length rows → place ≤ (slice_index_or rows n d).place → StandFrom place (drop n rows)
from_one [] n low place d up lt le = absurd (omega (arith, lt))
from_one (r ∷ rows) zero low place d up lt le = ascend_from place (r ∷ rows) (le, up.1)
from_one (r ∷ rows) (suc n) low place d up lt le = from_one rows n r.place place d up.1 (omega (arith, lt)) le

-- those that were sorted by place ascend
pub ascend_sorted : (rows : List StoredRow) → IsNonDecreasingBy (λ (r : StoredRow). r.place) rows → Ascend 0 rows
ascend_sorted rows sorted = on 0 rows (λ d some. omega arith) sorted where
  on : (low : ℕ) (rows : List StoredRow) → ((d : StoredRow) → 0 < length rows → low ≤ (slice_index_or rows 0 d).place) → IsNonDecreasingBy (λ (r : StoredRow). r.place) rows → Ascend low rows
  on low [] first sorted = tt
  on low (r ∷ rows) first sorted = (
    first r (omega arith),
    on r.place rows (λ d some. sorted 0 1 d (omega arith) (omega (arith, some))) (IsNonDecreasingBy-drop (λ (r : StoredRow). r.place) 1 (r ∷ rows) sorted),
  )
