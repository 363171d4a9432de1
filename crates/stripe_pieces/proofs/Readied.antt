-- What a flush copies of the pieces that are due, by what came of each: it can copy them, and these are the
-- records of its copies.
use Rattle.std.proofs.Common.{◌≡◌, ℕ, ◌+◌, ◌-◌, ◌*◌, ◌<◌, ◌≤◌, Bool, true, List, [], ◌∷◌, refl, sym, ◌∙◌, ap, subst, arith, length}
use Rattle.std.specs.Prelude.{map}
use Rattle.std.specs.List.{AllByRecursion}
use Rattle.cache_model.specs.State.{Row, State, after_all, blocks_of_row, floor_now, state_after}
use Rattle.cache_model.specs.Permit.{Permit}
use Rattle.cache_model.specs.Tape.{AreApart}
use Rattle.cache_model.specs.Outcomes.{AreOutcomes, Copied, Copy, NoRoom, Outcome, ReadRefused, Spoiled, copies_of, moved_record, moved_records, records_of}
use Rattle.cache_model.specs.Slots.{AllFit, HasSlotForCopy}
use Rattle.cache_model.proofs.Copies.{AreReady, IsReady, blocks_of_copies, others_stand, rows_of, still_ready}
use Rattle.cache_model.proofs.FewerRows.{slot_left}
use Rattle.cache_model.proofs.Lesser.{IsLesser, all_lesser}
use Rattle.cache_model.proofs.Live.{IsFound}
use Rattle.cache_model.specs.Due.{candidate_of}
use Rattle.piece_answers.specs.declared.ahead.Fate.{Fate}
use Rattle.piece_answers.specs.declared.ahead.Fate.TheVariants as fate
use Rattle.piece_answers.specs.Ahead.{StandFrom}
use Rattle.stripe_pieces.specs.Copying.{AreCopyable, IsCopyable, bytes_for, copied_of, copied_record, copies_among}
use Rattle.stripe_pieces.proofs.Told.{AllCame, copied, more, no_room, none, refused, spoiled}

abbrev pub IsPassed : State → Row → Type 0
IsPassed u row = row.place < floor_now u

abbrev a_copy : Row → List ℕ → Copy
a_copy row bytes = record { row = row; bytes = bytes }

-- ---- the records are those of the copies

pub copied_is : (u : State) (at : ℕ) (memory : List ℕ) {rows : List Row} {outcomes : List Outcome} {fates : List Fate} → AllCame rows outcomes fates → StandFrom at rows outcomes memory
    → copied_of u at (map candidate_of rows) fates memory ≡ moved_records u (copies_of rows outcomes)
copied_is u at memory none stand = refl
copied_is u at memory (more row no_room rest) stand = copied_is u (at + 0) memory rest stand.1
copied_is u at memory (more row (spoiled found kept other a b) rest) stand = copied_is u (at + row.blocks) memory rest stand.1
copied_is u at memory (more row (refused count n is) rest) stand = copied_is u (at + row.blocks) memory rest stand.1
copied_is u at memory (more {rows = rows} {fates = fates} row (copied bytes pinned) rest) stand =
    let here : copied_record u (candidate_of row) (bytes_for at (candidate_of row) (fate.Copied pinned) memory) ≡ moved_record u (a_copy row bytes) =
    ap (copied_record u (candidate_of row)) stand.0 in
    ap (λ r. r ∷ copied_of (state_after u r) (at + row.blocks) (map candidate_of rows) fates memory) here
    ∙ ap (λ recs. moved_record u (a_copy row bytes) ∷ recs) (copied_is (state_after u (moved_record u (a_copy row bytes))) (at + row.blocks) memory rest stand.1)

-- ---- they can be copied

-- behind its copy the floor stands where it stood
still_passed : (u : State) (r : Copy) (rows : List Row) → AllByRecursion (IsPassed u) rows → AllByRecursion (IsPassed (state_after u (moved_record u r))) rows
still_passed u r [] h = tt
still_passed u r (row ∷ rows) h = (h.0, still_passed u r rows h.1)

-- where the directory displaces, each segment had slots for what was live before the flush
module _ (packed : Bool) (before : State) (fit : packed ≡ true → AllFit before) where
  -- so there is one for the copy of what was live
  slot_stands : (u : State) (row : Row) → IsLesser before u → IsFound before row → packed ≡ true → HasSlotForCopy u row.id
  slot_stands u row lesser live on = slot_left before u lesser.apart lesser.geometry lesser.live (fit on) row.id (row, live)

  -- the bytes of a piece that is copied are as many as its blocks have
  one_copyable : (u : State) (row : Row) (bytes here : List ℕ) → here ≡ bytes → length bytes ≡ 512 * row.blocks → IsReady u.rows row → IsPassed u row
      → u.filled + row.blocks ≤ u.geometry.agg → IsLesser before u → IsFound before row → IsCopyable packed u (candidate_of row) here
  one_copyable u row bytes here same sized ready passed room lesser live = record {
    row = row;
    movable = record {
      found = ready.0;
      passed = passed;
      sized = ap (λ (xs : List ℕ). length xs) same ∙ sized;
      room = room;
      slot = slot_stands u row lesser live;
    };
    place = refl;
    blocks = refl;
    some = ready.1;
  }

  -- behind its copy no more is live than before the flush
  copy_lesser : (u : State) (c : Copy) → IsFound before c.row → IsLesser before u → IsLesser before (state_after u (moved_record u c))
  copy_lesser u c live lesser = all_lesser before u (moved_record u c ∷ []) ((c.row, live), tt) lesser

  pub are_copyable : (p : Permit) (s u : State) (left at : ℕ) (memory : List ℕ) {rows : List Row} {outcomes : List Outcome} {fates : List Fate} → AllCame rows outcomes fates
      → AreOutcomes p s left rows outcomes → StandFrom at rows outcomes memory → 512 * (at + left) ≤ length memory
      → AreApart (rows_of (copies_of rows outcomes)) → AreReady u.rows (rows_of (copies_of rows outcomes)) → AllByRecursion (IsPassed u) rows
      → u.filled + blocks_of_copies (copies_of rows outcomes) ≤ u.geometry.agg → AllByRecursion (IsFound before) rows → IsLesser before u
      → AreCopyable packed u at (map candidate_of rows) fates memory
  are_copyable p s u left at memory none h stand fits apart ready passed room live lesser = tt
  are_copyable p s u left at memory (more row no_room rest) h stand fits apart ready passed room live lesser = (
    omega (arith, fits),
    tt,
    are_copyable p (after_all s (records_of row NoRoom)) u left (at + 0) memory rest h.1 stand.1 (omega (arith, fits)) apart ready passed.1 room live.1 lesser,
  )
  are_copyable p s u left at memory (more row (spoiled found kept other a b) rest) h stand fits apart ready passed room live lesser =
      let few : row.blocks ≤ left = h.0.0 in (
        omega (arith, fits, few),
        tt,
        are_copyable p (after_all s (records_of row (Spoiled found))) u (left - row.blocks) (at + row.blocks) memory rest h.1 stand.1 (omega (arith, fits, few)) apart ready
            passed.1 room live.1 lesser,
      )
  are_copyable p s u left at memory (more row (refused count n is) rest) h stand fits apart ready passed room live lesser =
      let few : row.blocks ≤ left = h.0.0 in (
        omega (arith, fits, few),
        tt,
        are_copyable p (after_all s (records_of row (ReadRefused count))) u (left - row.blocks) (at + row.blocks) memory rest h.1 stand.1 (omega (arith, fits, few)) apart ready
            passed.1 room live.1 lesser,
      )
  are_copyable p s u left at memory (more {rows = rows} {outcomes = outcomes} {fates = fates} row (copied bytes pinned) rest) h stand fits apart ready passed room live lesser =
      let few : row.blocks ≤ left = h.0.0 in
      let copy : Copy = a_copy row bytes in
      let here : List ℕ = bytes_for at (candidate_of row) (fate.Copied pinned) memory in
      let t : State = state_after u (moved_record u copy) in
      let same : copied_record u (candidate_of row) here ≡ moved_record u copy = ap (copied_record u (candidate_of row)) stand.0 in
      let filled : t.filled ≡ u.filled + row.blocks = ap (λ r. u.filled + blocks_of_row r) ready.0.0 in
      let sum : u.filled + (row.blocks + blocks_of_copies (copies_of rows outcomes)) ≤ u.geometry.agg = room in (
        omega (arith, fits, few),
        one_copyable u row bytes here stand.0 h.0.1.whole ready.0 passed.0 (omega (arith, sum)) lesser live.0,
        subst (λ r. AreCopyable packed (state_after u r) (at + row.blocks) (map candidate_of rows) fates memory) (sym same)
            (are_copyable p (after_all s (records_of row (Copied bytes))) t (left - row.blocks) (at + row.blocks) memory rest h.1 stand.1 (omega (arith, fits, few))
            apart.1 (still_ready u.rows t.rows row.id (others_stand u copy) (rows_of (copies_of rows outcomes)) apart.0 ready.1) (still_passed u copy rows passed.1)
            (omega (arith, sum, filled)) live.1 (copy_lesser u copy live.0 lesser)),
      )

-- ---- how many they are

-- they are within the budget
pub copies_within : (p : Permit) (s : State) (left : ℕ) {rows : List Row} {outcomes : List Outcome} {fates : List Fate} → AllCame rows outcomes fates → AreOutcomes p s left rows outcomes
    → blocks_of_copies (copies_of rows outcomes) ≤ left
copies_within p s left none h = omega arith
copies_within p s left (more row no_room rest) h = copies_within p (after_all s (records_of row NoRoom)) left rest h.1
copies_within p s left (more {rows = rows} {outcomes = outcomes} row (spoiled found kept other a b) rest) h =
    let others : blocks_of_copies (copies_of rows outcomes) ≤ left - row.blocks = copies_within p (after_all s (records_of row (Spoiled found))) (left - row.blocks) rest h.1 in
    omega (arith, others)
copies_within p s left (more {rows = rows} {outcomes = outcomes} row (refused count n is) rest) h =
    let others : blocks_of_copies (copies_of rows outcomes) ≤ left - row.blocks = copies_within p (after_all s (records_of row (ReadRefused count))) (left - row.blocks) rest h.1 in
    omega (arith, others)
copies_within p s left (more {rows = rows} {outcomes = outcomes} row (copied bytes pinned) rest) h =
    let few : row.blocks ≤ left = h.0.0 in
    let others : blocks_of_copies (copies_of rows outcomes) ≤ left - row.blocks = copies_within p (after_all s (records_of row (Copied bytes))) (left - row.blocks) rest h.1 in
    omega (arith, few, others)

none_more : (n m : ℕ) → n ≤ m → 0 + n ≤ m
none_more n m h = omega arith

-- each copy has a block at least
pub few_copies : (all : List Row) {rows : List Row} {outcomes : List Outcome} {fates : List Fate} → AllCame rows outcomes fates → AreReady all (rows_of (copies_of rows outcomes))
    → copies_among fates ≤ blocks_of_copies (copies_of rows outcomes)
few_copies all none ready = omega arith
few_copies all (more {rows = rows} {outcomes = outcomes} {fates = fates} row no_room rest) ready =
    none_more (copies_among fates) (blocks_of_copies (copies_of rows outcomes)) (few_copies all rest ready)
few_copies all (more {rows = rows} {outcomes = outcomes} {fates = fates} row (spoiled found kept other a b) rest) ready =
    none_more (copies_among fates) (blocks_of_copies (copies_of rows outcomes)) (few_copies all rest ready)
few_copies all (more {rows = rows} {outcomes = outcomes} {fates = fates} row (refused count n is) rest) ready =
    none_more (copies_among fates) (blocks_of_copies (copies_of rows outcomes)) (few_copies all rest ready)
few_copies all (more {rows = rows} {outcomes = outcomes} {fates = fates} row (copied bytes pinned) rest) ready =
    let others : copies_among fates ≤ blocks_of_copies (copies_of rows outcomes) = few_copies all rest ready.1 in
    let some : 0 < row.blocks = ready.0.1 in
    omega (arith, others, some)
