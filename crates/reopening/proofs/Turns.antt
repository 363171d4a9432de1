-- What one turn of a loop of the slow reader does.
use Rattle.std.proofs.Common.{◌≡◌, ◌<◌, ◌+◌, ◌-◌, ℕ, suc, Bool, true, false, List, [], ◌∷◌, ◌++◌, length, take, Option, Some, None, sym, ap, ◌∙◌, arith, append_assoc, append-nil}
use Rattle.std.specs.Prelude.{slice_get, slice_index_or, if◌then◌else◌, ◌&&◌}
use Rattle.std.specs.List.{list_all, list_any, remove, cons_option}
use Rattle.std.proofs.lemmas.List.Folds.{list_all_at, list_all_more}
use Rattle.std.proofs.lemmas.Option.{get_or_from_slice_get}
use Rattle.device_log.specs.Image.{Image}
use Rattle.stripe_header.specs.declared.area.Area.{Area}
use Rattle.stripe_header.specs.declared.states.CopyState.{CopyState}
use Rattle.dir_table.specs.declared.rows.StoredRow.{StoredRow}
use Rattle.cache_model.specs.declared.findings.FoundRow.{FoundRow}
use Rattle.reopening.specs.Later.{latest, replaces}
use Rattle.reopening.specs.Tests.{standing_at, standing_from}

module _ {X : Type 0} (p : X → Bool) (xs : List X) (i : ℕ) (x : X) (within : i < length xs) (is : slice_get xs i ≡ Some x) where
  -- one that fails settles it
  pub all_stops : p x ≡ false → list_all p xs ≡ false
  all_stops fails = list_all_at p xs i x within (ap p (get_or_from_slice_get xs i x x is) ∙ fails)

  pub all_goes_on : list_all p (take i xs) ≡ true → p x ≡ true → list_all p (take (i + 1) xs) ≡ true
  all_goes_on before passes =
      list_all_more p xs i x within
      ∙ (ap (λ b. b && p (slice_index_or xs i x)) before ∙ (ap p (get_or_from_slice_get xs i x x is) ∙ passes))

-- what comes out first, and what stays
pub first_out : {X : Type 0} (xs : List X) (x : X) → 0 < length xs → x ≡ slice_index_or xs 0 x → xs ≡ x ∷ remove xs 0
first_out [] x some is = absurd (omega arith)
first_out (y ∷ ys) x some is = ap (λ z. z ∷ ys) (sym is)

-- one that is not replaced is kept
pub latest_keeps : (kept ahead all : List FoundRow) (x : FoundRow) (rest : List FoundRow) → ahead ≡ x ∷ rest
    → list_any (λ y. replaces y.id x.id) rest ≡ false → kept ++ latest ahead ≡ latest all → (kept ++ x ∷ []) ++ latest rest ≡ latest all
unfolding latest
latest_keeps kept ahead all x rest is none so =
    append_assoc kept (x ∷ []) (latest rest)
    ∙ (ap (λ b. kept ++ (if b then latest rest else x ∷ latest rest)) (sym none)
    ∙ (ap (λ l. kept ++ latest l) (sym is) ∙ so))

-- one that is replaced is not
pub latest_drops : (kept ahead all : List FoundRow) (x : FoundRow) (rest : List FoundRow) → ahead ≡ x ∷ rest
    → list_any (λ y. replaces y.id x.id) rest ≡ true → kept ++ latest ahead ≡ latest all → kept ++ latest rest ≡ latest all
unfolding latest
latest_drops kept ahead all x rest is one so =
    ap (λ b. kept ++ (if b then latest rest else x ∷ latest rest)) (sym one)
    ∙ (ap (λ l. kept ++ latest l) (sym is) ∙ so)

module _ (a : Area) (told : CopyState) (rows : List StoredRow) (c : Image) where
  -- the places ahead, one by one
  pub standing_next : (place end : ℕ) → place < end
      → standing_from a told rows c place (end - place) ≡ cons_option (standing_at a told rows c place) (standing_from a told rows c (place + 1) (end - (place + 1)))
  standing_next place end lt =
      let e : end - place ≡ suc (end - (place + 1)) = omega (arith, lt) in
      ap (standing_from a told rows c place) e

  behind : (all rest : List FoundRow) (s : Option FoundRow) → (all ++ cons_option s []) ++ rest ≡ all ++ cons_option s rest
  behind all rest None = ap (λ l. l ++ rest) (append-nil all)
  behind all rest (Some x) = append_assoc all (x ∷ []) rest

  pub standing_more : (all whole : List FoundRow) (place end : ℕ) (s : Option FoundRow) → place < end → s ≡ standing_at a told rows c place
      → all ++ standing_from a told rows c place (end - place) ≡ whole
      → (all ++ cons_option s []) ++ standing_from a told rows c (place + 1) (end - (place + 1)) ≡ whole
  standing_more all whole place end s lt is so =
      let rest = standing_from a told rows c (place + 1) (end - (place + 1)) in
      behind all rest s
      ∙ (ap (λ o. all ++ cons_option o rest) is ∙ (ap (λ l. all ++ l) (sym (standing_next place end lt)) ∙ so))
