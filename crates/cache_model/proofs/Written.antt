-- What is due is written out: the next floor lies below the buffer, so each piece can be asked of the device.
use Rattle.std.proofs.Common.{◌≡◌, ℕ, ◌+◌, ◌<◌, ◌≤◌, List, [], ◌∷◌, refl, ◌∙◌, ap, arith, Bool, true, false, cond, inl, inr}
use Rattle.std.specs.Prelude.{◌&&◌, nat_lt, filter}
use Rattle.std.specs.List.{AllByRecursion}
use Rattle.std.proofs.lemmas.Bool.{and_parts, ltb-true}
use Rattle.std.proofs.lemmas.Bool.Decides.{nat_tests}
use Rattle.tape_base.specs.declared.geometries.Geometry.{Geometry}
use Rattle.tape_base.specs.Place.{lap_end_of, next_cursor_of}
use Rattle.cache_model.specs.State.{State, Row, floor_next, live_rows}
use Rattle.cache_model.specs.Permit.{IsAmong}
use Rattle.cache_model.specs.Given.{IsWritten}
use Rattle.cache_model.specs.Tape.{IsSound}
use Rattle.cache_model.specs.Due.{due_pieces, is_due}
use Rattle.cache_model.proofs.Walks.{all_among}

kept_by : (test : Row → Bool) (x row : Row) (rows : List Row) (b : Bool) → test x ≡ b → (IsAmong row rows → test row ≡ true) → IsAmong row (cond b (x ∷ rows) rows) → test row ≡ true
kept_by test x row rows true e rest m = elim m [ inl same ↦ ap test same ∙ e | inr k ↦ rest k ]
kept_by test x row rows false e rest m = rest m

pub passes : (test : Row → Bool) (rows : List Row) (row : Row) → IsAmong row (filter test rows) → test row ≡ true
passes test [] row m = absurd m
passes test (x ∷ rows) row m = kept_by test x row (filter test rows) (test x) refl (passes test rows row) m

next_near : (g : Geometry) (c f : ℕ) → f ≤ g.agg → c + g.agg ≤ lap_end_of g c → next_cursor_of g c f ≤ c + f + g.agg
next_near g c f filled fits = grind (arith, nat_tests)

floor_below : (s : State) → IsSound s → floor_next s ≤ s.cursor
floor_below s h =
    let near : next_cursor_of s.geometry s.cursor s.filled ≤ s.cursor + s.filled + s.geometry.agg = next_near s.geometry s.cursor s.filled h.room h.lap in
    let room : s.filled ≤ s.geometry.agg = h.room in
    omega arith

pub due_are_written : (s : State) (now : ℕ) → IsSound s → AllByRecursion (IsWritten s) (due_pieces s now)
due_are_written s now h = all_among (IsWritten s) (due_pieces s now) (λ row m.
    let test : (nat_lt row.place (floor_next s) && is_due s now row) ≡ true = passes (λ r. nat_lt r.place (floor_next s) && is_due s now r) (live_rows s) row m in
    let low : row.place < floor_next s = ltb-true row.place (floor_next s) (and_parts (nat_lt row.place (floor_next s)) (is_due s now row) test).0 in
    let below : floor_next s ≤ s.cursor = floor_below s h in
    omega arith)
