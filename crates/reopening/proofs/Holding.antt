-- What holds of each piece that stands holds of each that is kept.
use Rattle.std.proofs.Common.{◌≡◌, ◌≤◌, ◌<◌, ◌+◌, ℕ, zero, suc, Bool, true, false, List, [], ◌∷◌, Some, None, refl, arith}
use Rattle.std.specs.Prelude.{if◌then◌else◌}
use Rattle.std.specs.List.{AllByRecursion, list_any, cons_option}
use Rattle.tape_base.specs.declared.geometries.Geometry.{Geometry}
use Rattle.stripe_header.specs.declared.states.CopyState.{CopyState}
use Rattle.dir_table.specs.declared.rows.StoredRow.{StoredRow}
use Rattle.cache_model.specs.declared.findings.FoundRow.{FoundRow}
use Rattle.reopening.specs.declared.later.Measure.{Measure}
use Rattle.reopening.specs.Documents.{standing_of}
use Rattle.reopening.specs.Tests.{judged, passes_tests}
use Rattle.reopening.specs.Given.{all_given}
use Rattle.reopening.specs.Later.{has_lengths, latest, replaces, with_lengths}

module _ (P : FoundRow → Type 0) where
  one_more : (b : Bool) (x : FoundRow) (rest : List FoundRow) → (b ≡ true → P x) → AllByRecursion P rest
      → AllByRecursion P (cons_option (if b then Some x else None) rest)
  one_more true x rest here all = (here refl, all)
  one_more false x rest here all = all

  judged_one : (g : Geometry) (told : CopyState) (rows : List StoredRow) (p : ℕ) (bytes : List ℕ) (rest : List FoundRow)
      → (passes_tests g told rows p bytes ≡ true → P (standing_of p bytes)) → AllByRecursion P rest
      → AllByRecursion P (cons_option (judged g told rows p bytes) rest)
  unfolding judged
  judged_one g told rows p bytes rest = one_more (passes_tests g told rows p bytes) (standing_of p bytes) rest

  -- what holds of each that passes
  pub each_standing : (g : Geometry) (told : CopyState) (rows : List StoredRow) (docs : ℕ → List ℕ) (low n : ℕ)
      → ((p : ℕ) → low ≤ p → p < low + n → passes_tests g told rows p (docs p) ≡ true → P (standing_of p (docs p)))
      → AllByRecursion P (all_given g told rows docs low n)
  each_standing g told rows docs low zero each = tt
  each_standing g told rows docs low (suc n) each =
      judged_one g told rows low (docs low) (all_given g told rows docs (low + 1) n)
      (each low (omega arith) (omega arith))
      (each_standing g told rows docs (low + 1) n (λ p from to. each p (omega (arith, from)) (omega (arith, to))))

  maybe_kept : (b : Bool) (x : FoundRow) (rest : List FoundRow) → P x → AllByRecursion P rest → AllByRecursion P (if b then x ∷ rest else rest)
  maybe_kept true x rest here all = (here, all)
  maybe_kept false x rest here all = all

  maybe_left : (b : Bool) (x : FoundRow) (rest : List FoundRow) → P x → AllByRecursion P rest → AllByRecursion P (if b then rest else x ∷ rest)
  maybe_left true x rest here all = all
  maybe_left false x rest here all = (here, all)

  pub each_latest : (all : List FoundRow) → AllByRecursion P all → AllByRecursion P (latest all)
  unfolding latest
  each_latest [] each = tt
  each_latest (x ∷ later) each =
      maybe_left (list_any (λ y. replaces y.id x.id) later) x (latest later) each.0 (each_latest later each.1)

  pub each_kept : (measures : List Measure) (all : List FoundRow) → AllByRecursion P all → AllByRecursion P (with_lengths measures all)
  unfolding with_lengths
  each_kept measures [] each = tt
  each_kept measures (x ∷ rest) each =
      maybe_kept (has_lengths measures x) x (with_lengths measures rest) each.0 (each_kept measures rest each.1)
