-- What is due, as candidates for the choice.
use Rattle.std.proofs.Common.{◌≡◌, ℕ, ◌+◌, ◌*◌, ◌<◌, ◌≤◌, List, [], ◌∷◌, sym, ◌∙◌, ap, subst, arith, length, map}
use Rattle.std.specs.Prelude.{◌&&◌, max, nat_lt}
use Rattle.std.specs.List.{AllByRecursion}
use Rattle.std.proofs.lemmas.Bool.{and_parts, leb-true, ltb-true}
use Rattle.std.proofs.lemmas.Bool.Decides.{nat_tests}
use Rattle.std.proofs.lemmas.List.{length-map}
use Rattle.logged_disk.specs.Device.{DeviceState as Device}
use Rattle.tape_base.specs.declared.geometries.Geometry.{Geometry}
use Rattle.tape_base.specs.Place.{floor_of, lap_end_of, next_cursor_of}
use Rattle.evacuator.specs.declared.choosing.Candidate.{Candidate}
use Rattle.evacuator.specs.Choice.{CandidatesRise as AreInOrder}
use Rattle.cache_model.specs.State.{State, Row, floor_next, floor_now, is_live, live_rows, place_now}
use Rattle.cache_model.specs.Given.{IsWritten}
use Rattle.cache_model.specs.Tape.{AreRising, IsSound}
use Rattle.cache_model.specs.Due.{due_pieces, is_due}
use Rattle.cache_model.proofs.Live.{IsFound, due_are_live}
use Rattle.cache_model.proofs.Rows.{part-filter, rising-part}
use Rattle.cache_model.proofs.SoundFlush.{among_part, due_part}
use Rattle.cache_model.proofs.Walks.{all_among}
use Rattle.cache_model.proofs.Written.{due_are_written, passes}
use Rattle.cache_model.specs.Due.{candidate_of, due_candidates, most_passed}
use Rattle.piece_answers.specs.declared.ahead.Ahead.{Ahead}
use Rattle.piece_answers.specs.Ahead.{LooksAhead}
use Rattle.piece_answers.specs.Looks.{AreOfRows, HasLookedAhead, MayBeCopied}

-- ---- each may be copied

each_may : (s : State) (rows : List Row) → AllByRecursion (IsFound s) rows → AllByRecursion (IsWritten s) rows → AllByRecursion (MayBeCopied s) rows
each_may s [] live written = tt
each_may s (row ∷ rows) live written = (record { live = live.0; written = written.0 }, each_may s rows live.1 written.1)

pub due_rows : (s : State) (now : ℕ) (candidates : List Candidate) → IsSound s → candidates ≡ due_candidates s now → AreOfRows s candidates (due_pieces s now)
due_rows s now candidates sound are = record { each = each_may s (due_pieces s now) (due_are_live s now sound) (due_are_written s now sound); are = are }

-- ---- in rising place

in_order : (low : ℕ) (rows : List Row) (high : ℕ) → AreRising low rows high → AreInOrder (map candidate_of rows)
in_order low [] high r = tt
in_order low (row ∷ []) high r = tt
in_order low (row ∷ next ∷ rows) high r = (let behind : row.place + 1 ≤ next.place = r.3.0 in omega arith, in_order (row.place + 1) (next ∷ rows) high r.3)

due_rising : (s : State) (now : ℕ) → IsSound s → AreRising s.geometry.content (due_pieces s now) (place_now s)
due_rising s now sound = rising-part s.geometry.content (place_now s) (due_part s now) sound.rising

pub due_in_order : (s : State) (now : ℕ) (candidates : List Candidate) → IsSound s → candidates ≡ due_candidates s now → AreInOrder candidates
due_in_order s now candidates sound are = subst AreInOrder (sym are) (in_order s.geometry.content (due_pieces s now) (place_now s) (due_rising s now sound))

-- ---- and few

-- the piece begins between the two places
abbrev BeginsWithin : ℕ → ℕ → Row → Type 0
BeginsWithin from end row = (from ≤ row.place) × (row.place < end)

-- pieces that begin one behind the other, and below a place, are no more than the places up to it
few_behind : (end low : ℕ) (rows : List Row) (high : ℕ) → AreRising low rows high → AllByRecursion (λ (row : Row). row.place < end) rows → length rows + low ≤ max low end
few_behind end low [] high r all = omega arith
few_behind end low (row ∷ rows) high r all =
    let rest : length rows + (row.place + 1) ≤ max (row.place + 1) end = few_behind end (row.place + 1) rows high r.3 all.1 in
    let from : low ≤ row.place = r.0 in
    let below : row.place < end = all.0 in
    omega arith

all_below : (from end : ℕ) (rows : List Row) → AllByRecursion (BeginsWithin from end) rows → AllByRecursion (λ (row : Row). row.place < end) rows
all_below from end [] all = tt
all_below from end (row ∷ rows) all = (all.0.1, all_below from end rows all.1)

few_within : (from end low : ℕ) (rows : List Row) (high : ℕ) → AreRising low rows high → AllByRecursion (BeginsWithin from end) rows → length rows + from ≤ max from end
few_within from end low [] high r all = omega arith
few_within from end low (row ∷ rows) high r all =
    let rest : length rows + (row.place + 1) ≤ max (row.place + 1) end = few_behind end (row.place + 1) rows high r.3 (all_below from end rows all.1) in
    let above : from ≤ row.place = all.0.0 in
    let below : row.place < end = all.0.1 in
    omega arith

due_within : (s : State) (now : ℕ) → AllByRecursion (BeginsWithin (floor_now s) (floor_next s)) (due_pieces s now)
due_within s now = all_among (BeginsWithin (floor_now s) (floor_next s)) (due_pieces s now) (λ row m. (
  leb-true (floor_now s) row.place (passes (is_live s) s.rows row (among_part row (part-filter _ (live_rows s)) m)),
  ltb-true row.place (floor_next s) (and_parts (nat_lt row.place (floor_next s)) (is_due s now row) (passes (λ r. nat_lt r.place (floor_next s) && is_due s now r) (live_rows s) row m)).0,
))

-- the floor moves by two buffers at most
floor_moves : (g : Geometry) (cursor filled : ℕ) → filled ≤ g.agg → cursor + g.agg ≤ lap_end_of g cursor → floor_of g (next_cursor_of g cursor filled) ≤ floor_of g cursor + 2 * g.agg
floor_moves g cursor filled few fits = grind (arith, nat_tests)

pub due_are_few : (s : State) (now : ℕ) (candidates : List Candidate) → IsSound s → candidates ≡ due_candidates s now → length candidates ≤ most_passed s.geometry
due_are_few s now candidates sound are =
    let count : length (due_pieces s now) + floor_now s ≤ max (floor_now s) (floor_next s) =
    few_within (floor_now s) (floor_next s) s.geometry.content (due_pieces s now) (place_now s) (due_rising s now sound) (due_within s now) in
    let buffers = floor_moves s.geometry s.cursor s.filled sound.room sound.lap in
    let moves : floor_next s ≤ floor_now s + 2 * s.geometry.agg = omega (arith, buffers) in
    let same : length candidates ≡ length (due_pieces s now) = ap (λ (ds : List Candidate). length ds) are ∙ length-map (due_pieces s now) candidate_of in
    omega arith

-- ---- so it is looked at

pub looks_by : (now : ℕ) (s : State) (before after : Device) (end : ℕ) (a : Ahead) → IsSound s → a.due.items ≡ due_candidates s now
    → HasLookedAhead s before after (due_pieces s now) end a → LooksAhead now s before after a
looks_by now s before after end a sound due h = record {
  outcomes = h.outcomes;
  due = due;
  few = due_are_few s now a.due.items sound due;
  fates = h.fates;
  stand = h.stand;
  unharmed = h.unharmed;
  exact = h.exact;
  goes = h.goes;
  faults = h.faults;
  counted = h.counted;
  are = h.are;
}
