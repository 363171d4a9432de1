-- What was looked at before a flush is what is told of its pieces, and so is what is copied of them.
use Rattle.std.proofs.Common.{◌≡◌, ℕ, ◌+◌, List, [], ◌∷◌, sym, ◌∙◌, ap, subst}
use Rattle.std.specs.Prelude.{map, Result, Some}
use Rattle.std.specs.List.{AllByRecursion}
use Rattle.std.proofs.lemmas.Bool.{leb-true}
use Rattle.tape_base.specs.declared.geometries.Geometry.{Geometry}
use Rattle.device_log.specs.Image.{Image}
use Rattle.logged_disk.specs.Device.{IsAsked, SeenStays}
use Rattle.edge_io.specs.declared.source.Failed.{Failed}
use Rattle.cyclone.specs.Cyclone.{SameTape, Seen, WritesBuffer}
use Rattle.cache_model.specs.State.{Row, State, floor_now, row_in, row_of, state_after}
use Rattle.cache_model.specs.Due.{due_pieces}
use Rattle.cache_model.specs.Given.{IsWritten}
use Rattle.cache_model.specs.Outcomes.{Copied, Copy, NoRoom, Outcome, ReadRefused, Spoiled, copies_of, moved_record}
use Rattle.cache_model.specs.Tape.{AreApart, IsSound}
use Rattle.cache_model.proofs.Copies.{AreReady, others_stand, rows_of, still_ready}
use Rattle.cache_model.proofs.Lists.{found_row}
use Rattle.cache_model.proofs.Live.{IsFound, due_are_live}
use Rattle.cache_model.proofs.Written.{due_are_written}
use Rattle.cache_model.specs.Contents.{Contents}
use Rattle.cache_model.specs.Due.{candidate_of}
use Rattle.piece_answers.specs.declared.ahead.Fate.{Fate}
use Rattle.piece_answers.specs.declared.ahead.Fate.TheVariants as fate
use Rattle.piece_answers.specs.Ahead.{StandFrom}
use Rattle.stripe_pieces.specs.Copying.{AreToldCopied, bytes_for, copied_record}
use Rattle.held_pieces.specs.Held.{IsHeld}
use Rattle.piece_answers.specs.Standing.{AreAsSeen, AreStanding, HasContent, IsAsSeen, StandsOnDevice}
use Rattle.held_pieces.proofs.Candidates.{live_is}
use Rattle.held_pieces.proofs.HeldBehindFaults.{write_spares}
use Rattle.held_pieces.proofs.Going.{shows_same}
use Rattle.stripe_pieces.proofs.Standing.{standing_on}
use Rattle.stripe_pieces.proofs.Told.{AllCame, copied, more, no_room, none, refused, spoiled}

-- ---- the device was only read

-- what was looked at stands as it stood, and then the buffer is written
pub stands_out : (contents : Contents) (s : State) (c mid out : Seen) (result : Result (Unit {0}) Failed) → IsHeld s c → IsHeld s mid
    → SameTape c mid → IsAsked c.device mid.device → SeenStays c.device mid.device → SameTape mid out → WritesBuffer mid out result
    → AreStanding contents s c → AreStanding contents s out
stands_out contents s c mid out result held then first asked seen second wrote stands =
    standing_on contents s mid out then (ap (λ (y : Seen). y.geometry) second) (ap (λ (y : Seen). y.buffer) second) (write_spares mid out result wrote)
    (standing_on contents s c mid held (ap (λ (y : Seen). y.geometry) first) (ap (λ (y : Seen). y.buffer) first)
    (shows_same c mid.device asked.later asked.goes seen) stands)

-- ---- what was read is what is told

-- the bytes of a piece that is copied are what is told of it
abbrev IsToldOutcome : Contents → Geometry → Row → Outcome → Type 0
IsToldOutcome contents g row (Copied bytes) = HasContent contents g row bytes
IsToldOutcome contents g row o = Unit {0}

abbrev pub AreToldOutcomes : Contents → Geometry → List Row → List Outcome → Type 0
AreToldOutcomes contents g [] outcomes = Unit {0}
AreToldOutcomes contents g (row ∷ rows) [] = Unit {0}
AreToldOutcomes contents g (row ∷ rows) (o ∷ outcomes) = IsToldOutcome contents g row o × AreToldOutcomes contents g rows outcomes

module _ (contents : Contents) (s : State) (content : Image) (stands : AllByRecursion (StandsOnDevice contents s content) s.rows) where
  one_told : (row : Row) (o : Outcome) → IsFound s row → IsWritten s row → IsAsSeen s.geometry content row o → IsToldOutcome contents s.geometry row o
  one_told row NoRoom live written seen = tt
  one_told row (Copied bytes) live written seen =
      let at = live_is s (row_in s.rows row.id) row live in
      let here = found_row (StandsOnDevice contents s content) row.id s.rows row stands at.0 (leb-true (floor_now s) row.place at.1) written in
      subst (HasContent contents s.geometry row) (sym seen) here
  one_told row (Spoiled found) live written seen = tt
  one_told row (ReadRefused count) live written seen = tt

  all_told : (rows : List Row) (outcomes : List Outcome) → AllByRecursion (IsFound s) rows → AllByRecursion (IsWritten s) rows → AreAsSeen s.geometry content rows outcomes
      → AreToldOutcomes contents s.geometry rows outcomes
  all_told [] outcomes live written seen = tt
  all_told (row ∷ rows) [] live written seen = tt
  all_told (row ∷ rows) (o ∷ outcomes) live written seen = (one_told row o live.0 written.0 seen.0, all_told rows outcomes live.1 written.1 seen.1)

  -- so it is of what is due
  pub due_told : (now : ℕ) (outcomes : List Outcome) → IsSound s → AreAsSeen s.geometry content (due_pieces s now) outcomes
      → AreToldOutcomes contents s.geometry (due_pieces s now) outcomes
  due_told now outcomes sound seen = all_told (due_pieces s now) outcomes (due_are_live s now sound) (due_are_written s now sound) seen

-- ---- and what is copied

-- the piece is the one that was looked at
own_row : (contents : Contents) (g : Geometry) (u : State) (row : Row) (bytes here : List ℕ) → here ≡ bytes → row_of u row.id ≡ Some row → u.geometry ≡ g
    → HasContent contents g row bytes → (other : Row) → row_of u row.id ≡ Some other → HasContent contents u.geometry other here
own_row contents g u row bytes here same ready geometry told other is =
    let both : Some row ≡ Some other = sym ready ∙ is in
    let own : row ≡ other = cc in
    subst (λ r. HasContent contents u.geometry r here) own
    (subst (λ xs. HasContent contents u.geometry row xs) (sym same) (subst (λ h. HasContent contents h row bytes) (sym geometry) told))

pub are_told_copied : (contents : Contents) (g : Geometry) (u : State) (at : ℕ) (memory : List ℕ) {rows : List Row} {outcomes : List Outcome} {fates : List Fate}
    → AllCame rows outcomes fates → StandFrom at rows outcomes memory → AreApart (rows_of (copies_of rows outcomes))
    → AreReady u.rows (rows_of (copies_of rows outcomes)) → u.geometry ≡ g → AreToldOutcomes contents g rows outcomes
    → AreToldCopied contents u at (map candidate_of rows) fates memory
are_told_copied contents g u at memory none stand apart ready geometry told = tt
are_told_copied contents g u at memory (more row no_room rest) stand apart ready geometry told =
    (tt, are_told_copied contents g u (at + 0) memory rest stand.1 apart ready geometry told.1)
are_told_copied contents g u at memory (more row (spoiled found kept other a b) rest) stand apart ready geometry told =
    (tt, are_told_copied contents g u (at + row.blocks) memory rest stand.1 apart ready geometry told.1)
are_told_copied contents g u at memory (more row (refused count n is) rest) stand apart ready geometry told =
    (tt, are_told_copied contents g u (at + row.blocks) memory rest stand.1 apart ready geometry told.1)
are_told_copied contents g u at memory (more {rows = rows} {outcomes = outcomes} {fates = fates} row (copied bytes pinned) rest) stand apart ready geometry told =
    let copy : Copy = record { row = row; bytes = bytes } in
    let here : List ℕ = bytes_for at (candidate_of row) (fate.Copied pinned) memory in
    let t : State = state_after u (moved_record u copy) in
    let same : copied_record u (candidate_of row) here ≡ moved_record u copy = ap (copied_record u (candidate_of row)) stand.0 in (
      own_row contents g u row bytes here stand.0 ready.0.0 geometry told.0,
      subst (λ r. AreToldCopied contents (state_after u r) (at + row.blocks) (map candidate_of rows) fates memory) (sym same)
          (are_told_copied contents g t (at + row.blocks) memory rest stand.1 apart.1
          (still_ready u.rows t.rows row.id (others_stand u copy) (rows_of (copies_of rows outcomes)) apart.0 ready.1) geometry told.1),
    )
