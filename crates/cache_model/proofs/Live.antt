-- What is due is live.
use Rattle.std.proofs.Common.{◌≡◌, ℕ, ◌≤◌, leb-true}
use Rattle.std.specs.Prelude.{Some}
use Rattle.std.specs.List.{AllByRecursion}
use Rattle.cache_model.specs.State.{State, Row, floor_now, is_live, live_row_of, live_rows}
use Rattle.cache_model.specs.Permit.{IsAmong}
use Rattle.cache_model.specs.Tape.{IsSound}
use Rattle.cache_model.proofs.Rows.{part-filter}
use Rattle.cache_model.specs.Due.{due_pieces}
use Rattle.cache_model.proofs.SoundFlush.{among_part}
use Rattle.cache_model.proofs.Walks.{all_among, live_found}
use Rattle.cache_model.proofs.Written.{passes}

-- the row is the one that is found for its piece
abbrev pub IsFound : State → Row → Type 0
IsFound s row = live_row_of s row.id ≡ Some row

live_among : (s : State) (row : Row) → IsSound s → IsAmong row (live_rows s) → IsFound s row
live_among s row h m =
    let live : floor_now s ≤ row.place = leb-true (floor_now s) row.place (passes (is_live s) s.rows row m) in
    live_found s row h live (among_part row (part-filter (is_live s) s.rows) m)

pub due_are_live : (s : State) (now : ℕ) → IsSound s → AllByRecursion (IsFound s) (due_pieces s now)
due_are_live s now h = all_among (IsFound s) (due_pieces s now) (λ row m. live_among s row h (among_part row (part-filter _ (live_rows s)) m))
