-- The places of the pieces that are kept rise, and they end by the cursor.
use Rattle.std.proofs.Common.{◌≡◌, ◌≤◌, ◌<◌, ◌+◌, ℕ, zero, suc, Bool, true, false, List, [], ◌∷◌, map, Some, None, refl, arith}
use Rattle.std.specs.Prelude.{max, if◌then◌else◌}
use Rattle.std.specs.List.{list_any, cons_option}
use Rattle.tape_base.specs.Blocks.{blocks_of}
use Rattle.tape_base.specs.declared.geometries.Geometry.{Geometry}
use Rattle.stripe_header.specs.declared.states.CopyState.{CopyState}
use Rattle.doc_header.specs.Reading.{length_of}
use Rattle.dir_table.specs.declared.rows.StoredRow.{StoredRow}
use Rattle.cache_model.specs.declared.findings.FoundRow.{FoundRow}
use Rattle.cache_model.specs.State.{row_of_found}
use Rattle.cache_model.specs.Tape.{AreRising}
use Rattle.reopening.specs.declared.later.Measure.{Measure}
use Rattle.reopening.specs.Documents.{standing_of}
use Rattle.reopening.specs.Tests.{judged, passes_tests}
use Rattle.reopening.specs.Given.{all_given}
use Rattle.reopening.specs.Later.{has_lengths, kept_rows, latest, measure_of, replaces, with_lengths}
use Rattle.reopening.proofs.Pieces.{ends_by, passed_all}

abbrev Rise : ℕ → List FoundRow → ℕ → Type 0
Rise low all high = AreRising low (map row_of_found all) high

lower : (low from high : ℕ) (all : List FoundRow) → low ≤ from → Rise from all high → Rise low all high
lower low from high [] le rise = omega (arith, le, rise)
lower low from high (x ∷ rest) le rise = (omega (arith, le, rise.0), rise.1, rise.2, rise.3)

module _ (g : Geometry) (told : CopyState) (rows : List StoredRow) (docs : ℕ → List ℕ) where
  one_judged : (p : ℕ) (bytes : List ℕ) (rest : List FoundRow) → p < told.cursor → Rise (max g.content (p + 1)) rest told.cursor
      → Rise (max g.content p) (cons_option (judged g told rows p bytes) rest) told.cursor
  unfolding judged
  one_judged p bytes rest lt rise = by (passes_tests g told rows p bytes) refl where
    by : (b : Bool) → passes_tests g told rows p bytes ≡ b
        → Rise (max g.content p) (cons_option (if b then Some (standing_of p bytes) else None) rest) told.cursor
    by true is =
        let e = passed_all g told rows p bytes is in (
          omega (arith, e.first),
          omega arith,
          ends_by g told.cursor p (blocks_of (length_of bytes)) lt e.lap e.inside,
          lower (p + 1) (max g.content (p + 1)) told.cursor rest (omega arith) rise,
        )
    by false is = lower (max g.content p) (max g.content (p + 1)) told.cursor rest (omega arith) rise

  -- what stands at places one by one
  pub rising_standing : (low n : ℕ) → low + n ≡ told.cursor → g.content ≤ told.cursor
      → Rise (max g.content low) (all_given g told rows docs low n) told.cursor
  rising_standing low zero is some = omega (arith, is, some)
  rising_standing low (suc n) is some =
      one_judged low (docs low) (all_given g told rows docs (low + 1) n) (omega (arith, is))
      (rising_standing (low + 1) n (omega (arith, is)) some)

module _ (high : ℕ) where
  rise_by : (b : Bool) (low : ℕ) (x : FoundRow) (rest : List FoundRow) → low ≤ x.place → 0 < x.blocks → x.place + x.blocks ≤ high → Rise (x.place + 1) rest high
      → Rise low (if b then x ∷ rest else rest) high
  rise_by true low x rest from some to rise = (from, some, to, rise)
  rise_by false low x rest from some to rise = lower low (x.place + 1) high rest (omega (arith, from)) rise

  rise_but : (b : Bool) (low : ℕ) (x : FoundRow) (rest : List FoundRow) → low ≤ x.place → 0 < x.blocks → x.place + x.blocks ≤ high → Rise (x.place + 1) rest high
      → Rise low (if b then rest else x ∷ rest) high
  rise_but true low x rest from some to rise = lower low (x.place + 1) high rest (omega (arith, from)) rise
  rise_but false low x rest from some to rise = (from, some, to, rise)

  rising_latest : (low : ℕ) (all : List FoundRow) → Rise low all high → Rise low (latest all) high
  unfolding latest
  rising_latest low [] rise = rise
  rising_latest low (x ∷ later) rise =
      rise_but (list_any (λ y. replaces y.id x.id) later) low x (latest later) rise.0 rise.1 rise.2 (rising_latest (x.place + 1) later rise.3)

  rising_kept : (measures : List Measure) (low : ℕ) (all : List FoundRow) → Rise low all high → Rise low (with_lengths measures all) high
  unfolding with_lengths
  rising_kept measures low [] rise = rise
  rising_kept measures low (x ∷ all) rise =
      rise_by (has_lengths measures x) low x (with_lengths measures all) rise.0 rise.1 rise.2 (rising_kept measures (x.place + 1) all rise.3)

  -- of pieces that rise those that are kept do
  pub kept_rise : (low : ℕ) (all : List FoundRow) → Rise low all high → Rise low (kept_rows all) high
  kept_rise low all rise = rising_kept (map measure_of (latest all)) low (latest all) (rising_latest low all rise)
