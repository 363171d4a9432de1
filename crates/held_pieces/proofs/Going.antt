-- Pieces that go, and records that leave the pieces.
use Rattle.std.proofs.Common.{◌≡◌, ℕ, ◌+◌, ◌<◌, ◌≤◌, List, [], ◌∷◌, refl, sym, ◌∙◌, ap, subst, arith, Bool, true, false, cond}
use Rattle.std.specs.Prelude.{map, not, IsPermutation, nat_le, Option, Some, None, option_and_then, if◌then◌else◌}
use Rattle.std.specs.List.{AllByRecursion}
use Rattle.std.proofs.lemmas.Bool.{leb-true, leb-false, lt-leb}
use Rattle.tape_base.specs.declared.pieces.PieceId.{PieceId}
use Rattle.tape_base.specs.Piece.{key_of_piece, same_piece}
use Rattle.std.specs.Prelude.{Result, Ok, Err, OnOk, OnErr}
use Rattle.device_log.specs.Image.{Image, SameBut}
use Rattle.logged_disk.specs.Device.{DeviceState as Device, Affords, IsAfter, Keeps, TellsAll, SeenStays, seen as content_of}
use Rattle.logged_disk.proofs.GoingOn.{goes_by_none, same_past, told_before}
use Rattle.tape_base.specs.Place.{block_of}
use Rattle.dir_table.specs.declared.rows.DirRow.{DirRow}
use Rattle.dir_table.specs.Rows.{row_of_key}
use Rattle.agg_buffer.specs.Buffer.{filled_of}
use Rattle.cyclone.specs.Cyclone.{Seen, IsTurning, SameButRoom, SameButRows, SameTape, row_of_piece}
use Rattle.cache_model.specs.State.{State, Row, floor_now, is_live, live_row_of, only_live, place_now, row_in, without}
use Rattle.cache_model.specs.Tape.{AreApart, AreRising}
use Rattle.cache_model.proofs.Lists.{own_piece}
use Rattle.held_pieces.specs.Held.{IsBufferedWhereNew, IsHeld, IsInLap, IsIntactWhereWritten, entry_of_piece, rows_in_range, same_entry, times}
use Rattle.held_pieces.specs.Records.{IsAlike, IsWithout, SparesPieces}
use Rattle.held_pieces.specs.Still.{IsStill}
use Rattle.held_pieces.proofs.Intact.{each_same_intact, each_stays_intact}
use Rattle.held_pieces.proofs.Entries.{kept, one_more, times-permutation, times-without, same_entry-true}
use Rattle.held_pieces.proofs.Counts.{is_between, fewer_between}
use Rattle.held_pieces.proofs.Holding.{counted, end_is, entered, floor_is}
use Rattle.held_pieces.proofs.Placements.{without-none}

-- ---- what a live row is

stood_by : (s : State) (other row : Row) (b : Bool) → is_live s other ≡ b → (if b then Some other else None) ≡ Some row → (other ≡ row) × (floor_now s ≤ other.place)
stood_by s other row true e h = (cc, leb-true (floor_now s) other.place e)
stood_by s other row false e h = cc

stood : (s : State) (o : Option Row) (row : Row) → option_and_then (only_live s) o ≡ Some row → (o ≡ Some row) × (floor_now s ≤ row.place)
stood s None row h = cc
stood s (Some other) row h =
    let r : (other ≡ row) × (floor_now s ≤ other.place) = stood_by s other row (is_live s other) refl h in
    (ap Some r.0, subst (λ (x : Row). floor_now s ≤ x.place) r.0 r.1)

below_by : (id : PieceId) (first row : Row) (rows : List Row) (high : ℕ) (b : Bool) → same_piece first.id id ≡ b → first.place < high → (row_in rows id ≡ Some row → row.place < high)
    → (if b then Some first else row_in rows id) ≡ Some row → row.place < high
below_by id first row rows high true e at rest h = let same : first ≡ row = cc in subst (λ (r : Row). r.place < high) same at
below_by id first row rows high false e at rest h = rest h

-- it stands below the end
below : (id : PieceId) (low high : ℕ) (rows : List Row) (row : Row) → AreRising low rows high → row_in rows id ≡ Some row → row.place < high
below id low high [] row r h = cc
below id low high (first ∷ rows) row r h =
    let ends : first.place + first.blocks ≤ high = r.2 in
    let some : 0 < first.blocks = r.1 in
    below_by id first row rows high (same_piece first.id id) refl (omega arith) (below id (first.place + 1) high rows row r.3) h

-- ---- what is left of what is buffered

left_by : (P : Row → Type 0) (row : Row) (left : List Row) (b : Bool) → P row → AllByRecursion P left → AllByRecursion P (cond b (row ∷ left) left)
left_by P row left true h all = (h, all)
left_by P row left false h all = all

pub all_left : (P : Row → Type 0) (id : PieceId) (rows : List Row) → AllByRecursion P rows → AllByRecursion P (without id rows)
all_left P id [] all = tt
all_left P id (row ∷ rows) all = left_by P row (without id rows) (not (same_piece row.id id)) all.0 (all_left P id rows all.1)

-- the pieces that are left stay intact
left_intact : {P : Type 0} (s t : State) (content : Image) (id : PieceId) → IsWithout s t id → (P → AllByRecursion (IsIntactWhereWritten s content) s.rows)
    → P → AllByRecursion (IsIntactWhereWritten t content) t.rows
left_intact s t content id gone all p =
    subst (λ rs. AllByRecursion (IsIntactWhereWritten t content) rs) (sym gone.rows)
    (each_same_intact s t content (without id s.rows) (sym gone.geometry) (sym gone.cursor) (sym gone.least) (all_left (IsIntactWhereWritten s content) id s.rows (all p)))

-- ---- a live piece goes

module _ (s t : State) (c new : Seen) (id : PieceId) (row : Row) (held : IsHeld s c) (live : live_row_of s id ≡ Some row) (gone : IsWithout s t id)
    (rest : SameButRows c new) (took : IsPermutation c.rows (row_of_piece c id row.place ∷ new.rows)) (turning : IsTurning new) where
  found : (row_in s.rows id ≡ Some row) × (floor_now s ≤ row.place)
  found = stood s (row_in s.rows id) row live

  entry_is : row_of_piece c id row.place ≡ entry_of_piece s.geometry row
  entry_is = ap (λ g. row_of_key g (key_of_piece id) row.place) held.geometry ∙ ap (λ i. row_of_key s.geometry (key_of_piece i) row.place) (sym (own_piece id s.rows row found.0))

  entries_are : (x : DirRow) → times x c.rows ≡ one_more (same_entry (entry_of_piece s.geometry row) x) (times x new.rows)
  entries_are x = sym (times-permutation x c.rows (row_of_piece c id row.place ∷ new.rows) took) ∙ ap (λ e. times x (e ∷ new.rows)) entry_is

  same_window : new.window ≡ c.window
  same_window = ap (λ (y : Seen). y.window) rest.same

  in_range : (x : DirRow) → same_entry (entry_of_piece s.geometry row) x ≡ true → (c.window.floor ≤ x.place) × (x.place < c.window.end)
  in_range x e =
      let at : row.place ≡ x.place = ap (λ (r : DirRow). r.place) (same_entry-true (entry_of_piece s.geometry row) x e) in
      let high : row.place < place_now s = below id s.geometry.content (place_now s) s.rows row held.sound.rising found.0 in
      (omega (arith, at, found.1, floor_is s c held), omega (arith, at, high, end_is s c held))

  count_at : (x : DirRow) → kept (is_between new.window.floor new.window.end x.place) (times x new.rows) ≡ kept (nat_le (floor_now t) x.place) (times x (map (entry_of_piece t.geometry) t.rows))
  count_at x =
      let start : c.window.floor ≡ floor_now s = floor_is s c held in
      let it : Bool = same_entry (entry_of_piece s.geometry row) x in
      let left : ℕ = times x (map (entry_of_piece s.geometry) (without id s.rows)) in
      let pieces : times x (map (entry_of_piece s.geometry) s.rows) ≡ one_more it left = times-without s.geometry id x row s.rows held.sound.apart found.0 in
      let old : kept (is_between c.window.floor c.window.end x.place) (one_more it (times x new.rows)) ≡ kept (nat_le c.window.floor x.place) (one_more it left) =
      ap (kept (is_between c.window.floor c.window.end x.place)) (sym (entries_are x))
      ∙ ((counted s c held.entered).each x ∙ (ap (λ f. kept (nat_le f x.place) (times x (map (entry_of_piece s.geometry) s.rows))) (sym start) ∙ ap (kept (nat_le c.window.floor x.place)) pieces)) in
      rw (same_window, gone.geometry, gone.cursor, gone.least, gone.rows, sym start) (fewer_between c.window.floor c.window.end x.place (times x new.rows) left it (in_range x) old)

  taken_is_held_here : IsHeld t new
  taken_is_held_here = record {
    turning = turning;
    sound = gone.sound;
    geometry = ap (λ (y : Seen). y.geometry) rest.same ∙ (held.geometry ∙ sym gone.geometry);
    cursor = ap (λ (y : Seen). y.buffer.cursor) rest.same ∙ (held.cursor ∙ sym gone.cursor);
    filled = ap (λ (y : Seen). filled_of y.buffer) rest.same ∙ (held.filled ∙ sym gone.filled);
    entered = entered t new (record { each = count_at });
    buffered = rw (gone.rows, ap (λ (y : Seen). y.buffer) rest.same) (all_left (IsBufferedWhereNew c.buffer) id s.rows held.buffered);
    intact = subst (λ (d : Device). TellsAll d → AllByRecursion (IsIntactWhereWritten t (content_of d)) t.rows) (sym (ap (λ (y : Seen). y.device) rest.same)) (left_intact s t (content_of c.device) id gone held.intact);
    laps = rw (gone.geometry, gone.rows) (all_left (IsInLap s.geometry) id s.rows held.laps);
    faults = rw (gone.fault, ap (λ (y : Seen). y.device) rest.same) held.faults;
    least = ap (λ (y : Seen). y.least) rest.same ∙ (held.least ∙ sym gone.least);
  }

pub taken_is_held : (s t : State) (c new : Seen) (id : PieceId) (row : Row) → IsHeld s c → live_row_of s id ≡ Some row → IsWithout s t id
    → SameButRows c new → IsPermutation c.rows (row_of_piece c id row.place ∷ new.rows) → IsTurning new → IsHeld t new
taken_is_held s t c new id row held live gone rest took turning = taken_is_held_here s t c new id row held live gone rest took turning

-- ---- a piece that is not live goes

not_stood : (s : State) (row : Row) (b : Bool) → is_live s row ≡ b → (if b then Some row else None) ≡ None → row.place < floor_now s
not_stood s row true e h = cc
not_stood s row false e h = leb-false (floor_now s) row.place e

pub unseen_by : (b it : Bool) (n : ℕ) → (it ≡ true → b ≡ false) → kept b (one_more it n) ≡ kept b n
unseen_by false it n h = refl
unseen_by true false n h = refl
unseen_by true true n h = let f : true ≡ false = h refl in cc

-- the pieces that may be read are the same
pub same_live : (s : State) (id : PieceId) (x : DirRow) (o : Option Row) → row_in s.rows id ≡ o → AreApart s.rows → option_and_then (only_live s) o ≡ None
    → kept (nat_le (floor_now s) x.place) (times x (map (entry_of_piece s.geometry) (without id s.rows))) ≡ kept (nat_le (floor_now s) x.place) (times x (map (entry_of_piece s.geometry) s.rows))
same_live s id x None e apart h = ap (λ rs. kept (nat_le (floor_now s) x.place) (times x (map (entry_of_piece s.geometry) rs))) (without-none id s.rows e)
same_live s id x (Some row) e apart h =
    let low : row.place < floor_now s = not_stood s row (is_live s row) refl h in
    let pieces : times x (map (entry_of_piece s.geometry) s.rows) ≡ one_more (same_entry (entry_of_piece s.geometry row) x) (times x (map (entry_of_piece s.geometry) (without id s.rows))) =
    times-without s.geometry id x row s.rows apart e in
    let under : same_entry (entry_of_piece s.geometry row) x ≡ true → nat_le (floor_now s) x.place ≡ false =
    λ f. let at : row.place ≡ x.place = ap (λ (r : DirRow). r.place) (same_entry-true (entry_of_piece s.geometry row) x f) in lt-leb (floor_now s) x.place (omega (arith, at, low)) in
    sym (ap (kept (nat_le (floor_now s) x.place)) pieces
    ∙ unseen_by (nat_le (floor_now s) x.place) (same_entry (entry_of_piece s.geometry row) x) (times x (map (entry_of_piece s.geometry) (without id s.rows))) under)

pub passed_is_held : (s t : State) (c : Seen) (id : PieceId) → IsHeld s c → live_row_of s id ≡ None → IsWithout s t id → IsHeld t c
passed_is_held s t c id held none gone = record {
  turning = held.turning;
  sound = gone.sound;
  geometry = held.geometry ∙ sym gone.geometry;
  cursor = held.cursor ∙ sym gone.cursor;
  filled = held.filled ∙ sym gone.filled;
  entered = entered t c (record {
    each = λ x.
        rw (gone.geometry, gone.cursor, gone.least, gone.rows) ((counted s c held.entered).each x ∙ sym (same_live s id x (row_in s.rows id) refl held.sound.apart none));
  });
  buffered = rw gone.rows (all_left (IsBufferedWhereNew c.buffer) id s.rows held.buffered);
  intact = left_intact s t (content_of c.device) id gone held.intact;
  laps = rw (gone.geometry, gone.rows) (all_left (IsInLap s.geometry) id s.rows held.laps);
  faults = rw gone.fault held.faults;
  least = held.least ∙ sym gone.least;
}

-- ---- records that speak of no piece, and a device that changes

pub alike_is_held : (s t : State) (c : Seen) → IsHeld s c → IsAlike s t → t.fault ≤ c.device.faults → IsHeld t c
alike_is_held s t c held alike faults = record {
  turning = held.turning;
  sound = alike.sound;
  geometry = held.geometry ∙ sym alike.geometry;
  cursor = held.cursor ∙ sym alike.cursor;
  filled = held.filled ∙ sym alike.filled;
  entered = entered t c (record { each = λ x. rw (alike.geometry, alike.cursor, alike.least, alike.rows) ((counted s c held.entered).each x) });
  buffered = rw alike.rows held.buffered;
  intact = λ told.
      subst (λ rs. AllByRecursion (IsIntactWhereWritten t (content_of c.device)) rs) (sym alike.rows)
      (each_same_intact s t (content_of c.device) s.rows (sym alike.geometry) (sym alike.cursor) (sym alike.least) (held.intact told));
  laps = rw (alike.geometry, alike.rows) held.laps;
  faults = faults;
  least = held.least ∙ sym alike.least;
}

-- all that such a device changes is where the buffer is written
pub spared_places : (s : State) (c : Seen) (device : Device) → IsHeld s c → SparesPieces c device
    → SameBut (block_of s.geometry s.cursor) s.filled (content_of c.device) (content_of device)
spared_places s c device held spares =
    let at : block_of c.geometry c.buffer.cursor ≡ block_of s.geometry s.cursor =
    ap (λ g. block_of g c.buffer.cursor) held.geometry ∙ ap (block_of s.geometry) held.cursor in
    subst (λ n. SameBut n s.filled (content_of c.device) (content_of device)) at
    (subst (λ n. SameBut (block_of c.geometry c.buffer.cursor) n (content_of c.device) (content_of device)) held.filled spares.others)

-- what was written out stays intact there
spared_intact : (s : State) (c : Seen) (device : Device) → IsHeld s c → SparesPieces c device → TellsAll device → AllByRecursion (IsIntactWhereWritten s (content_of device)) s.rows
spared_intact s c device held spares told =
    each_stays_intact s s.filled (content_of c.device) (content_of device) s.rows held.sound.room (spared_places s c device held spares)
    (held.intact (told_before c.device device spares.goes told))

pub device_may_change : (s : State) (c new : Seen) → IsHeld s c → SameTape c new → IsTurning new → SparesPieces c new.device → IsHeld s new
device_may_change s c new held same turning spares = record {
  turning = turning;
  sound = held.sound;
  geometry = ap (λ (y : Seen). y.geometry) same ∙ held.geometry;
  cursor = ap (λ (y : Seen). y.buffer.cursor) same ∙ held.cursor;
  filled = ap (λ (y : Seen). filled_of y.buffer) same ∙ held.filled;
  entered = λ x. ap (λ (y : Seen). times x (rows_in_range y)) same ∙ held.entered x;
  buffered = rw (ap (λ (y : Seen). y.buffer) same) held.buffered;
  intact = spared_intact s c new.device held spares;
  laps = held.laps;
  faults = let low : s.fault ≤ c.device.faults = held.faults in omega (arith, low, spares.later);
  least = ap (λ (y : Seen). y.least) same ∙ held.least;
}

pub room_may_grow : (s : State) (c new : Seen) → IsHeld s c → SameButRoom c new → IsTurning new → SparesPieces c new.device → IsHeld s new
room_may_grow s c new held same turning spares = record {
  turning = turning;
  sound = held.sound;
  geometry = ap (λ (y : Seen). y.geometry) same.same ∙ held.geometry;
  cursor = ap (λ (y : Seen). y.buffer.cursor) same.same ∙ held.cursor;
  filled = ap (λ (y : Seen). filled_of y.buffer) same.same ∙ held.filled;
  entered = λ x. ap (λ (y : Seen). times x (rows_in_range y)) same.same ∙ held.entered x;
  buffered = rw (ap (λ (y : Seen). y.buffer) same.same) held.buffered;
  intact = spared_intact s c new.device held spares;
  laps = held.laps;
  faults = let low : s.fault ≤ c.device.faults = held.faults in omega (arith, low, spares.later);
  least = ap (λ (y : Seen). y.least) same.same ∙ held.least;
}

-- a device that shows what it showed spares all pieces
pub shows_same : (c : Seen) (device : Device) → c.device.faults ≤ device.faults → IsAfter c.device device → SeenStays c.device device → SparesPieces c device
shows_same c device later goes same = record { later = later; goes = goes; others = λ j beside. same j }

-- a device that makes room stays as it is
pub afforded : (calls blocks : ℕ) (old new : Device) → Keeps 0 0 old new → Affords calls blocks old new → IsStill old new
afforded calls blocks old new keeps affords = record {
  goes = goes_by_none 0 0 old new keeps affords.past;
  past = affords.past;
  seen = same_past old new keeps.first affords.past;
  faults = affords.faults;
}

-- whether that is found or not
pub still_of : {X E : Type 0} (r : Result X E) (calls blocks : ℕ) (old new : Device) → Keeps 0 0 old new → OnOk r (Affords calls blocks old new) → OnErr r (Affords 0 0 old new) → IsStill old new
still_of (Ok x) calls blocks old new keeps ok err = afforded calls blocks old new keeps ok
still_of (Err e) calls blocks old new keeps ok err = afforded 0 0 old new keeps err

still_spares : (c : Seen) (device : Device) → IsStill c.device device → SparesPieces c device
still_spares c device still = shows_same c device (let same : device.faults ≡ c.device.faults = still.faults in omega arith) still.goes still.seen

-- and so it spares all pieces
pub steady : {X E : Type 0} (r : Result X E) (calls blocks : ℕ) (c : Seen) (device : Device) → Keeps 0 0 c.device device → OnOk r (Affords calls blocks c.device device) → OnErr r (Affords 0 0 c.device device) → SparesPieces c device
steady r calls blocks c device keeps ok err = still_spares c device (still_of r calls blocks c.device device keeps ok err)
