-- Each step leaves a sound tape, and a floor that is no lower.
use Rattle.std.proofs.Common.{◌≡◌, ℕ, ◌+◌, ◌<◌, ◌≤◌, List, [], ◌∷◌, ◌++◌, refl, sym, ◌∙◌, ap, subst, arith, Bool, true, false}
use Rattle.std.specs.Prelude.{Option, Some, None, map, if◌then◌else◌, ◌==◌}
use Rattle.tape_base.specs.declared.keys.Key.{Key}
use Rattle.tape_base.specs.declared.pieces.PieceId.{PieceId}
use Rattle.tape_base.specs.declared.digests.Digest.{Digest}
use Rattle.tape_base.specs.Blocks.{blocks_of}
use Rattle.std.proofs.lemmas.Bool.{eq-eqb}
use Rattle.cache_model.specs.declared.record.Rec.{Rec}
use Rattle.cache_model.specs.declared.record.Rec.TheVariants as rec
use Rattle.cache_model.specs.State.{State, Row, LastVector, Complete, TakenOut, state_after, after_all, cursor_next, floor_now, floor_next, place_now, without, without_earlier, last_vector, placed_row}
use Rattle.std.specs.Map.{lookup}
use Rattle.cache_model.specs.Permit.{Permit}
use Rattle.cache_model.specs.Room.{MayDisplace, displaced_record}
use Rattle.cache_model.specs.Tape.{AreRising, AreKnown, IsSound}
use Rattle.cache_model.proofs.Laps.{next_fits, next_above}
use Rattle.cache_model.proofs.Rows.{ArePart, part_all, part-filter, rising-part, rising-high, rising-append, apart-part, apart-placed, known-part, known-more, known-append}
use Rattle.cache_model.proofs.Steps.{after_all-append}

-- the record begins no session and no buffer, and places nothing
abbrev pub LeavesTape : Rec → Type 0
LeavesTape (rec.Formatted geometry) = ⊥
LeavesTape (rec.Opened geometry serial cursor floor next_put clean list) = ⊥
LeavesTape (rec.Began cursor floor) = ⊥
LeavesTape (rec.Placed piece place blocks digest pin) = ⊥
LeavesTape (rec.Moved piece from place digest) = ⊥
LeavesTape _ = Unit {0}

abbrev pub AllLeaveTape : List Rec → Type 0
AllLeaveTape [] = Unit {0}
AllLeaveTape (r ∷ recs) = LeavesTape r × AllLeaveTape recs

-- t comes later than s
pub record IsLater (s t : State) : Type 0 where
  pub sound : IsSound t
  pub geometry : t.geometry ≡ s.geometry
  pub floor : floor_now s ≤ floor_now t

pub later_self : (s : State) → IsSound s → IsLater s s
later_self s h = record { sound = h; geometry = refl; floor = omega arith }

pub later_trans : (s t u : State) → IsLater s t → IsLater t u → IsLater s u
later_trans s t u a b = record { sound = b.sound; geometry = b.geometry ∙ a.geometry; floor = omega arith }

-- the buffer and what is known of places are as they were, and no row is new
pub record SameTape (s t : State) : Type 0 where
  pub geometry : t.geometry ≡ s.geometry
  pub cursor : t.cursor ≡ s.cursor
  pub least : t.least ≡ s.least
  pub filled : t.filled ≡ s.filled
  pub places : t.places ≡ s.places
  pub rows : ArePart t.rows s.rows

same_sound : (s t : State) → SameTape s t → IsSound s → IsLater s t
same_sound s t same h = record {
  sound = record {
    from = rw (same.geometry, same.cursor) h.from;
    least = rw (same.least, same.cursor) h.least;
    lap = rw (same.geometry, same.cursor) h.lap;
    room = rw (same.geometry, same.filled) h.room;
    rising = rw (same.geometry, same.cursor, same.filled) (rising-part s.geometry.content (place_now s) same.rows h.rising);
    apart = apart-part same.rows h.apart;
    known = rw same.places (known-part s.places same.rows h.known);
  };
  geometry = same.geometry;
  floor = rw (same.geometry, same.cursor, same.least) (omega arith);
}

same_with : (s t : State) → t.geometry ≡ s.geometry → t.cursor ≡ s.cursor → t.least ≡ s.least → t.filled ≡ s.filled → t.places ≡ s.places → ArePart t.rows s.rows → SameTape s t
same_with s t g c l f p r = record { geometry = g; cursor = c; least = l; filled = f; places = p; rows = r }

earlier_part : (key : Key) (put : ℕ) (last : Option LastVector) (rows : List Row) → ArePart (without_earlier key put last rows) rows
earlier_part key put (Some (Complete old)) rows = by (old == put)
  where
    by : (b : Bool) → ArePart (if b then rows else without (Rattle.cache_model.specs.State.vector_piece key old) rows) rows
    by true = part_all rows
    by false = part-filter _ rows
earlier_part key put (Some (TakenOut old)) rows = part_all rows
earlier_part key put None rows = part_all rows

pub leaves_one : (s : State) (r : Rec) → LeavesTape r → SameTape s (state_after s r)
leaves_one s (rec.Formatted geometry) h = absurd h
leaves_one s (rec.Opened geometry serial cursor floor next_put clean list) h = absurd h
leaves_one s (rec.Began cursor floor) h = absurd h
leaves_one s (rec.Placed piece place blocks digest pin) h = absurd h
leaves_one s (rec.Moved piece from place digest) h = absurd h
leaves_one s (rec.Displaced piece segment live) h = same_with s _ refl refl refl refl refl (part-filter _ s.rows)
leaves_one s (rec.Damaged piece place kept found) h = same_with s _ refl refl refl refl refl (part-filter _ s.rows)
leaves_one s (rec.Committed put key length list) h = same_with s _ refl refl refl refl refl (earlier_part key put (last_vector s key) s.rows)
leaves_one s (rec.Removed put key) h = same_with s _ refl refl refl refl refl (part-filter _ s.rows)
leaves_one s _ h = same_with s _ refl refl refl refl refl (part_all s.rows)

pub later_leaves : (s : State) (recs : List Rec) → AllLeaveTape recs → IsSound s → IsLater s (after_all s recs)
later_leaves s [] h sound = later_self s sound
later_leaves s (r ∷ recs) h sound =
    let one : IsLater s (state_after s r) = same_sound s (state_after s r) (leaves_one s r h.0) sound in
    later_trans s (state_after s r) (after_all (state_after s r) recs) one (later_leaves (state_after s r) recs h.1 one.sound)

-- the bound of the opening stays behind records that leave the tape
pub least_left : (s : State) (recs : List Rec) → AllLeaveTape recs → (after_all s recs).least ≡ s.least
least_left s [] h = refl
least_left s (r ∷ recs) h = least_left (state_after s r) recs h.1 ∙ (leaves_one s r h.0).least

-- the buffer is as it was behind records that leave the tape
pub buffer_left : (s : State) (recs : List Rec) → AllLeaveTape recs
    → ((after_all s recs).geometry ≡ s.geometry) × ((after_all s recs).cursor ≡ s.cursor) × ((after_all s recs).filled ≡ s.filled)
buffer_left s [] h = (refl, refl, refl)
buffer_left s (r ∷ recs) h =
    let one : SameTape s (state_after s r) = leaves_one s r h.0 in
    let rest = buffer_left (state_after s r) recs h.1 in
    (rest.0 ∙ one.geometry, rest.1 ∙ one.cursor, rest.2 ∙ one.filled)

-- a piece is placed behind those of the buffer
pub later_placed : (s : State) (piece : PieceId) (blocks : ℕ) (digest : Digest) (pin : ℕ) → 0 < blocks → s.filled + blocks ≤ s.geometry.agg → IsSound s
    → IsLater s (state_after s (rec.Placed piece (place_now s) blocks digest pin))
later_placed s piece blocks digest pin some room h =
    let low : AreRising s.geometry.content (without piece s.rows) (place_now s) = rising-part s.geometry.content (place_now s) (part-filter _ s.rows) h.rising in
    let known : AreKnown s.places (without piece s.rows) = known-part s.places (part-filter _ s.rows) h.known in
    let here : lookup (λ p. p == place_now s) ((place_now s, piece) ∷ s.places) ≡ Some piece = rw (eq-eqb (place_now s) (place_now s) refl) refl in
    record {
      sound = record {
        from = h.from;
        least = h.least;
        lap = h.lap;
        room = room;
        rising = rising-append s.geometry.content _ (place_now s) _ (s.cursor + (s.filled + blocks)) (omega arith) some (omega arith) low;
        apart = apart-placed s.rows _ h.apart;
        known = known-append ((place_now s, piece) ∷ s.places) (without piece s.rows) (placed_row s piece (place_now s) blocks digest pin) (known-more s.places (place_now s) piece s.geometry.content (without piece s.rows) low known) here;
      };
      geometry = refl;
      floor = omega arith;
    }

-- the next buffer
pub later_began : (s : State) → IsSound s → IsLater s (state_after s (rec.Began (cursor_next s) (floor_next s)))
later_began s h =
    let above : s.cursor + s.filled ≤ cursor_next s = next_above s.geometry s.cursor s.filled h.room h.lap in
    record {
      sound = record {
        from = let from : s.geometry.content ≤ s.cursor = h.from in omega arith;
        least = let least : s.least ≤ s.cursor = h.least in omega arith;
        lap = next_fits s.geometry s.cursor s.filled (omega arith) (omega arith) h.room h.lap;
        room = omega arith;
        rising = rising-high s.geometry.content s.rows (place_now s) (cursor_next s + 0) (omega arith) h.rising;
        apart = h.apart;
        known = h.known;
      };
      geometry = refl;
      floor = omega arith;
    }

-- ---- groups

displacements_leave : (segment live : ℕ) (rows : List Row) → AllLeaveTape (map (displaced_record segment live) rows)
displacements_leave segment live [] = tt
displacements_leave segment live (row ∷ rows) = (tt, displacements_leave segment live rows)

pub displaced_leave : (p : Permit) (s : State) (piece : PieceId) (added : List Rec) → MayDisplace p s piece added → AllLeaveTape added
displaced_leave p s piece added m = subst AllLeaveTape (sym m.is) (displacements_leave _ _ m.purged)

-- records that leave the tape, and then a piece that has room
pub later_insert : (s : State) (before : List Rec) (piece : PieceId) (bytes : ℕ) (digest : Digest) (pin : ℕ) → AllLeaveTape before → s.filled + blocks_of bytes ≤ s.geometry.agg → IsSound s
    → IsLater s (after_all s (before ++ rec.Placed piece (place_now s) (blocks_of bytes) digest pin ∷ []))
later_insert s before piece bytes digest pin leave room h =
    let mid : State = after_all s before in
    let first : IsLater s mid = later_leaves s before leave h in
    let same : (mid.geometry ≡ s.geometry) × (mid.cursor ≡ s.cursor) × (mid.filled ≡ s.filled) = buffer_left s before leave in
    let at : place_now mid ≡ place_now s = ap (λ (x : ℕ). x + mid.filled) same.1 ∙ ap (λ (x : ℕ). s.cursor + x) same.2 in
    let fits : mid.filled + blocks_of bytes ≤ mid.geometry.agg = rw (same.0, same.2) room in
    let placed : IsLater mid (state_after mid (rec.Placed piece (place_now mid) (blocks_of bytes) digest pin)) = later_placed mid piece (blocks_of bytes) digest pin (omega arith) fits first.sound in
    let there : IsLater mid (state_after mid (rec.Placed piece (place_now s) (blocks_of bytes) digest pin)) =
    subst (λ place. IsLater mid (state_after mid (rec.Placed piece place (blocks_of bytes) digest pin))) at placed in
    subst (IsLater s) (sym (after_all-append s before (rec.Placed piece (place_now s) (blocks_of bytes) digest pin ∷ []))) (later_trans s mid _ first there)
