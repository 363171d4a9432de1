-- What a cyclone holds stays what the records say, record by record.
use Rattle.std.proofs.Common.{◌≡◌, ℕ, ◌+◌, ◌<◌, ◌≤◌, arith, sym, ◌∙◌, ap, subst}
use Rattle.std.specs.Prelude.{◌^◌, map, max, nat_le}
use Rattle.std.proofs.lemmas.Bool.Decides.{nat_tests}
use Rattle.tape_base.specs.declared.geometries.Geometry.{Geometry}
use Rattle.tape_base.specs.Geometry.{budget_of}
use Rattle.tape_base.specs.Place.{floor_of, next_cursor_of}
use Rattle.dir_table.specs.declared.rows.DirRow.{DirRow}
use Rattle.dir_table.specs.Window.{is_in_range}
use Rattle.agg_buffer.specs.Buffer.{filled_of, next_place_of}
use Rattle.cyclone.specs.Cyclone.{Seen, IsTurning, floor_in, next_buffer_cursor as cursor_behind, next_floor as floor_behind}
use Rattle.cache_model.specs.Room.{copies_end}
use Rattle.cache_model.specs.State.{State, cursor_next, floor_next, floor_now, live_rows, place_now}
use Rattle.held_pieces.specs.Held.{IsHeld, SameRows, entry_of_piece, rows_in_range, times}
use Rattle.held_pieces.proofs.Entries.{kept, times-below, times-entries, times-filter}
use Rattle.held_pieces.proofs.Counts.{is_between}

-- the two counts of a row: in the directory, and among the pieces
abbrev entries_at : Seen → DirRow → ℕ
entries_at c x = times x c.rows

abbrev pieces_at : State → DirRow → ℕ
pieces_at s x = times x (map (entry_of_piece s.geometry) s.rows)

-- in range in the directory, and live by the records
in_range_count : (c : Seen) (x : DirRow) → times x (rows_in_range c) ≡ kept (is_between c.window.floor c.window.end x.place) (entries_at c x)
in_range_count c x = times-filter (is_in_range c.window) x c.rows

live_count : (s : State) (g : Geometry) (x : DirRow) → times x (map (entry_of_piece g) (live_rows s)) ≡ kept (nat_le (floor_now s) x.place) (times x (map (entry_of_piece g) s.rows))
live_count s g x = times-entries (nat_le (floor_now s)) x g s.rows

-- what it is to be entered, by counts
pub record AreCounted (s : State) (c : Seen) : Type 0 where
  pub each : (x : DirRow) → kept (is_between c.window.floor c.window.end x.place) (entries_at c x) ≡ kept (nat_le (floor_now s) x.place) (pieces_at s x)

pub counted : (s : State) (c : Seen) → SameRows (rows_in_range c) (map (entry_of_piece s.geometry) (live_rows s)) → AreCounted s c
counted s c h = record { each = λ x. sym (in_range_count c x) ∙ (h x ∙ live_count s s.geometry x) }

pub entered : (s : State) (c : Seen) → AreCounted s c → SameRows (rows_in_range c) (map (entry_of_piece s.geometry) (live_rows s))
entered s c h = λ x. in_range_count c x ∙ (h.each x ∙ sym (live_count s s.geometry x))

-- the floor of a buffer that begins there, by both
floor_at : (s : State) (c : Seen) (here there : ℕ) → IsHeld s c → here ≡ there
    → max c.least (floor_of c.geometry here) ≡ max s.least (floor_of s.geometry there)
floor_at s c here there h same =
    ap (λ n. max n (floor_of c.geometry here)) h.least
    ∙ (ap (λ g. max s.least (floor_of g here)) h.geometry ∙ ap (λ n. max s.least (floor_of s.geometry n)) same)

pub floor_held : (s : State) (c : Seen) → IsHeld s c → floor_in c ≡ floor_now s
floor_held s c h = floor_at s c c.buffer.cursor s.cursor h h.cursor

-- the range of a cyclone that holds the records
pub floor_is : (s : State) (c : Seen) → IsHeld s c → c.window.floor ≡ floor_now s
floor_is s c h = h.turning.floor ∙ floor_held s c h

pub end_is : (s : State) (c : Seen) → IsHeld s c → c.window.end ≡ place_now s
end_is s c h = h.turning.end ∙ (ap (λ n. n + filled_of c.buffer) h.cursor ∙ ap (λ n. s.cursor + n) h.filled)

-- no row stands at or behind the end
pub none_behind : (c : Seen) (x : DirRow) → IsTurning c → c.window.end ≤ x.place → entries_at c x ≡ 0
none_behind c x t h = times-below (next_place_of c.buffer) x c.rows t.entered (subst (λ n. n ≤ x.place) t.end h)

-- where the next buffer begins, by both
pub next_is : (s : State) (c : Seen) → IsHeld s c → cursor_behind c ≡ cursor_next s
next_is s c h =
    ap (λ g. next_cursor_of g c.buffer.cursor (filled_of c.buffer)) h.geometry
    ∙ (ap (λ n. next_cursor_of s.geometry n (filled_of c.buffer)) h.cursor ∙ ap (next_cursor_of s.geometry s.cursor) h.filled)

pub next_floor_is : (s : State) (c : Seen) → IsHeld s c → floor_behind c ≡ floor_next s
next_floor_is s c h = floor_at s c (cursor_behind c) (cursor_next s) h (next_is s c h)

-- where the copies in it end at the latest
pub copies_end_is : (s : State) (c : Seen) (g : Geometry) → IsHeld s c → g ≡ c.geometry → cursor_behind c + budget_of g ≡ copies_end s
copies_end_is s c g h is =
    ap (λ n. n + budget_of g) (next_is s c h) ∙ ap (λ x. cursor_next s + budget_of x) (is ∙ h.geometry)

-- it begins less than a lap behind this one
next_within : (g : Geometry) (cursor filled : ℕ) → next_cursor_of g cursor filled ≤ cursor + filled + g.content
next_within g cursor filled = grind (arith, nat_tests)

-- so 64 bits are enough for that place
pub copies_end_fits : (c : Seen) → IsTurning c → cursor_behind c + budget_of c.geometry < 2 ^ 64
copies_end_fits c t =
    let next = next_within c.geometry c.buffer.cursor (filled_of c.buffer) in
    let content = c.geometry.accepted.content_fits.1 in
    let small = c.geometry.accepted.agg_fits.1 in
    omega (arith, next, content, small, t.few, t.below)
