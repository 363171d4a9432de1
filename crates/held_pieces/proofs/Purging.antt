-- What goes for a piece that is put: each row that goes is the entry of a live piece, which goes out of the records.
use Rattle.std.proofs.Common.{◌≡◌, ℕ, ◌<◌, List, [], ◌∷◌, ◌++◌, refl, sym, ◌∙◌, ap, subst, arith, inl, inr, ◌≤◌, Bool, true, false, cond, Option, Some, None, ◌⊎◌, length}
use Rattle.std.specs.Prelude.{◌≢◌, ◌==◌, ◌&&◌, not, if◌then◌else◌, map, AllPairs, Contains, IsPermutation, IsTrue, MatchBool}
use Rattle.std.specs.List.{AllByRecursion, filter}
use Rattle.std.proofs.lemmas.Bool.{and_parts, eq-eqb, leb-true}
use Rattle.std.proofs.lemmas.List.{length-map}
use Rattle.std.proofs.lemmas.List.Elements.{All-from_recursion, recursion_from_All}
use Rattle.std.proofs.lemmas.List.Kept.{AllPairs-cons}
use Rattle.std.proofs.lemmas.List.Sorted.{All-permutation, IsPermutation-refl}
use Rattle.tape_base.specs.declared.geometries.Geometry.{Geometry}
use Rattle.tape_base.specs.declared.pieces.PieceId.{PieceId}
use Rattle.tape_base.specs.declared.digests.Digest.{Digest}
use Rattle.tape_base.specs.Blocks.{blocks_of}
use Rattle.tape_base.specs.Geometry.{budget_of}
use Rattle.tape_base.specs.Key.{segment_of}
use Rattle.tape_base.specs.Piece.{key_of_piece, same_piece}
use Rattle.tape_base.proofs.NameLaws.{same_piece-same}
use Rattle.doc_header.specs.declared.documents.Doc.{Doc}
use Rattle.dir_table.specs.declared.rows.DirRow.{DirRow}
use Rattle.dir_table.specs.declared.window.Window.{Window}
use Rattle.dir_table.specs.Displacement.{Displacement, IsPurge, NoneGoes, is_full, purge_of}
use Rattle.dir_table.specs.Rows.{row_of_key}
use Rattle.dir_table.specs.Window.{is_in_range}
use Rattle.agg_buffer.specs.Buffer.{next_place_of}
use Rattle.cyclone.specs.Cyclone.{IsPut, IsTurning, Seen, row_of_piece}
use Rattle.cache_model.specs.declared.record.Rec.{Rec}
use Rattle.cache_model.specs.declared.record.Rec.TheVariants as rec
use Rattle.cache_model.specs.State.{Row, State, after_all, floor_now, is_live, live_row_of, live_rows, place_now, row_of, state_after, without}
use Rattle.cache_model.specs.Permit.{IsAmong, Permit}
use Rattle.cache_model.specs.Room.{ArePurged, bucket_of_piece, displaced_record, displaces, is_full_for, is_full_with, rows_left, rows_of_segment, segment_of_piece}
use Rattle.cache_model.proofs.Found.{no_truth}
use Rattle.cache_model.proofs.Known.{live_place_is_known}
use Rattle.cache_model.proofs.Lists.{row_in-without}
use Rattle.cache_model.proofs.Rows.{part-filter}
use Rattle.cache_model.proofs.Sound.{later_leaves}
use Rattle.cache_model.proofs.SoundFlush.{among_part}
use Rattle.cache_model.proofs.Steps.{all_as, all_parts}
use Rattle.cache_model.proofs.Walks.{live_found}
use Rattle.cache_model.proofs.Written.{passes}
use Rattle.cache_model.specs.Displacing.{PushesOut}
use Rattle.held_pieces.specs.Displaced.{displaced_from, displaced_of, displaced_piece, last_at}
use Rattle.held_pieces.specs.Held.{IsHeld, entry_of_piece, rows_in_range, same_entry, times}
use Rattle.held_pieces.specs.Records.{HasSlots, IsHeldBehind, IsPlaceable, PlacedIsHeld, placed_behind}
use Rattle.held_pieces.proofs.Candidates.{first_or_later, same_entry-same}
use Rattle.held_pieces.proofs.Counts.{is_between}
use Rattle.held_pieces.proofs.Entries.{kept, one_more, same_entry-true, times-filter, times-permutation}
use Rattle.held_pieces.proofs.Going.{taken_is_held}
use Rattle.held_pieces.proofs.Holding.{counted, entered}
use Rattle.held_pieces.proofs.Placements.{IsAdded, added_is_held}
use Rattle.held_pieces.proofs.Slotted.{full_is, live_are, slot_made}

-- ---- the piece of an entry

-- the entry is that of one of these rows
abbrev HasEntry : Geometry → List Row → DirRow → Type 0
HasEntry g rows x = (row : Row) × IsAmong row rows × (entry_of_piece g row ≡ x)

entry_by : (g : Geometry) (x : DirRow) (first : Row) (rows : List Row) (b : Bool) → same_entry (entry_of_piece g first) x ≡ b
    → (0 < times x (map (entry_of_piece g) rows) → HasEntry g rows x) → 0 < one_more b (times x (map (entry_of_piece g) rows)) → HasEntry g (first ∷ rows) x
entry_by g x first rows true e rest h = (first, inl refl, same_entry-true (entry_of_piece g first) x e)
entry_by g x first rows false e rest h = let found : HasEntry g rows x = rest h in (found.0, inr found.1, found.2)

entry_among : (g : Geometry) (x : DirRow) (rows : List Row) → 0 < times x (map (entry_of_piece g) rows) → HasEntry g rows x
entry_among g x [] h = absurd (omega (arith, h))
entry_among g x (first ∷ rows) h = entry_by g x first rows (same_entry (entry_of_piece g first) x) refl (entry_among g x rows) h

-- ---- a cyclone with fewer rows

abbrev with_rows : Seen → List DirRow → Seen
with_rows c rows = record c { rows = rows }

fewer_turning : (c : Seen) (gone left : List DirRow) → IsTurning c → IsPermutation c.rows (gone ++ left) → IsTurning (with_rows c left)
fewer_turning c gone left t parted =
    let Below : DirRow → Type 0 = λ r. r.place < next_place_of c.buffer in
    let all : AllByRecursion Below (gone ++ left) = recursion_from_All Below (gone ++ left) (All-permutation Below c.rows (gone ++ left) parted t.entered) in
    record {
      geometry = t.geometry;
      cursor = t.cursor;
      floor = t.floor;
      end = t.end;
      reserved = t.reserved;
      few = t.few;
      from = t.from;
      least = t.least;
      below = t.below;
      lap = t.lap;
      sized = t.sized;
      entered = All-from_recursion Below left (all_parts Below gone left all).1;
    }

-- the order of the rows is free
turned_is_held : (s : State) (c : Seen) (left : List DirRow) → IsHeld s c → IsPermutation c.rows left → IsHeld s (with_rows c left)
turned_is_held s c left held same = record {
  turning = fewer_turning c [] left held.turning same;
  sound = held.sound;
  geometry = held.geometry;
  cursor = held.cursor;
  filled = held.filled;
  entered = entered s (with_rows c left) (record {
    each = λ x. ap (kept (is_between c.window.floor c.window.end x.place)) (times-permutation x c.rows left same) ∙ (counted s c held.entered).each x;
  });
  buffered = held.buffered;
  intact = held.intact;
  laps = held.laps;
  faults = held.faults;
  least = held.least;
}

-- ---- a row that goes

counted_once : (x : DirRow) (rest : List DirRow) → 0 < times x (x ∷ rest)
counted_once x rest = rw (same_entry-same x) (omega arith)

-- one that is in range is the entry of a live piece
is_entered : (s : State) (c : Seen) (x : DirRow) (rest : List DirRow) → IsHeld s c → IsPermutation c.rows (x ∷ rest) → is_in_range c.window x.place ≡ true
    → HasEntry s.geometry (live_rows s) x
is_entered s c x rest held parted ranged =
    let stands : times x (rows_in_range c) ≡ times x (x ∷ rest) =
    times-filter (is_in_range c.window) x c.rows ∙ (ap (λ b. kept b (times x c.rows)) ranged ∙ sym (times-permutation x c.rows (x ∷ rest) parted)) in
    entry_among s.geometry x (live_rows s) (subst (λ n. 0 < n) (sym stands ∙ held.entered x) (counted_once x rest))

module _ (s : State) (c : Seen) (d : Displacement) (x : DirRow) (rest : List DirRow) (held : IsHeld s c) (parted : IsPermutation c.rows (x ∷ rest))
    (found : HasEntry s.geometry (live_rows s) x) where
  abbrev its : Row
  its = found.0

  abbrev behind : State
  behind = state_after s (displaced_record d.segment d.live its)

  it_is_live : live_row_of s its.id ≡ Some its
  it_is_live =
      live_found s its held.sound (leb-true (floor_now s) its.place (passes (is_live s) s.rows its found.1)) (among_part its (part-filter (is_live s) s.rows) found.1)

  entry_is : row_of_piece c its.id its.place ≡ x
  entry_is = ap (λ g. row_of_key g (key_of_piece its.id) its.place) held.geometry ∙ found.2

  -- its piece goes out of the records
  one_goes : IsHeld behind (with_rows c rest)
  one_goes =
      taken_is_held s behind c (with_rows c rest) its.id its held it_is_live
      (record {
        geometry = refl;
        least = refl;
        cursor = refl;
        filled = refl;
        rows = refl;
        fault = refl;
        sound = (later_leaves s (displaced_record d.segment d.live its ∷ []) (tt, tt) held.sound).sound;
      })
      (record { same = refl; spare = omega arith }) (subst (λ e. IsPermutation c.rows (e ∷ rest)) (sym entry_is) parted) (fewer_turning c (x ∷ []) rest held.turning parted)

  -- and is the one that was placed there last
  one_told : displaced_piece d (last_at s x.place) ≡ displaced_record d.segment d.live its ∷ []
  one_told =
      let at : its.place ≡ x.place = ap (λ (r : DirRow). r.place) found.2 in
      ap (displaced_piece d) (ap (last_at s) (sym at) ∙ live_place_is_known s its.id its held.sound it_is_live)

-- ---- the live pieces of a segment without one

module _ {X : Type 0} (f g : X → Bool) where
  turned_by : (x : X) (xs : List X) (b c : Bool) → f x ≡ b → g x ≡ c → filter f (filter g xs) ≡ filter g (filter f xs)
      → filter f (cond c (x ∷ filter g xs) (filter g xs)) ≡ filter g (cond b (x ∷ filter f xs) (filter f xs))
  turned_by x xs true true e h same = rw (e, h) (ap (λ ys. x ∷ ys) same)
  turned_by x xs true false e h same = rw h same
  turned_by x xs false true e h same = rw e same
  turned_by x xs false false e h same = same

  filters_turned : (xs : List X) → filter f (filter g xs) ≡ filter g (filter f xs)
  filters_turned [] = refl
  filters_turned (x ∷ xs) = turned_by x xs (f x) (g x) refl refl (filters_turned xs)

live_without : (s : State) (id : PieceId) → filter (is_live s) (without id s.rows) ≡ without id (live_rows s)
live_without s id = filters_turned (is_live s) (λ (row : Row). not (same_piece row.id id)) s.rows

segment_without : (s : State) (id : PieceId) (segment : ℕ)
    → filter (λ (row : Row). segment_of_piece s row.id == segment) (filter (is_live s) (without id s.rows)) ≡ without id (rows_of_segment s segment)
segment_without s id segment =
    let its : Row → Bool = λ row. segment_of_piece s row.id == segment in
    ap (filter its) (live_without s id) ∙ filters_turned its (λ (row : Row). not (same_piece row.id id)) (live_rows s)

-- whether there is a slot behind all that goes
full_behind : (s : State) (id : PieceId) (segment live : ℕ) (purged : List Row)
    → is_full_for (after_all s (map (displaced_record segment live) purged)) id
    ≡ is_full_with s (bucket_of_piece s id) (rows_left purged (rows_of_segment s (segment_of_piece s id)))
full_behind s id segment live [] = refl
full_behind s id segment live (row ∷ purged) =
    full_behind (state_after s (displaced_record segment live row)) id segment live purged
    ∙ ap (λ rows. is_full_with s (bucket_of_piece s id) (rows_left purged rows)) (segment_without s row.id (segment_of_piece s id))

-- ---- one behind the other

-- these rows went, and the pieces whose entries they were: live ones, each once
pub record HasGone (s : State) (c : Seen) (d : Displacement) (gone left : List DirRow) : Type 0 where
  pub purged : List Row
  pub held : IsHeld (after_all s (map (displaced_record d.segment d.live) purged)) (with_rows c left)
  pub entries : map (entry_of_piece s.geometry) purged ≡ gone
  pub told : displaced_from (last_at s) d (map (λ (r : DirRow). r.place) gone) ≡ map (displaced_record d.segment d.live) purged
  pub among : AllByRecursion (λ row. IsAmong row (live_rows s)) purged
  pub apart : AllPairs (λ (a b : Row). a.id ≢ b.id) purged

no_pairs : AllPairs (λ (a b : Row). a.id ≢ b.id) []
no_pairs i j d less within = absurd (omega arith)

other_id : (s : State) (id : PieceId) (row : Row) → IsAmong row (without id (live_rows s)) → id ≢ row.id
other_id s id row m same =
    let out : not (same_piece row.id id) ≡ true = passes (λ (r : Row). not (same_piece r.id id)) (live_rows s) row m in
    no_truth (sym (ap (λ i. not (same_piece i id)) same ∙ out) ∙ ap not (same_piece-same id))

pub goes : (s : State) (c : Seen) (d : Displacement) (gone left : List DirRow) → IsHeld s c → IsPermutation c.rows (gone ++ left)
    → AllByRecursion (λ (r : DirRow). IsTrue (is_in_range c.window r.place)) gone → HasGone s c d gone left
goes s c d [] left held parted ranged = record {
  purged = [];
  held = turned_is_held s c left held parted;
  entries = refl;
  told = refl;
  among = tt;
  apart = no_pairs;
}
goes s c d (x ∷ gone) left held parted ranged =
    let found : HasEntry s.geometry (live_rows s) x = is_entered s c x (gone ++ left) held parted ranged.0 in
    let row : Row = found.0 in
    let t : State = state_after s (displaced_record d.segment d.live row) in
    let rest : HasGone t (with_rows c (gone ++ left)) d gone left =
    goes t (with_rows c (gone ++ left)) d gone left (one_goes s c d x (gone ++ left) held parted found) (IsPermutation-refl (gone ++ left)) ranged.1 in
    let others : AllByRecursion (λ r. IsAmong r (without row.id (live_rows s))) rest.purged =
    subst (λ rows. AllByRecursion (λ r. IsAmong r rows) rest.purged) (live_without s row.id) rest.among in
    record {
      purged = row ∷ rest.purged;
      held = rest.held;
      entries = λ i. found.2 i ∷ rest.entries i;
      told = λ i. one_told s c d x (gone ++ left) held parted found i ++ rest.told i;
      among = (
        found.1,
        all_as (λ r. IsAmong r (without row.id (live_rows s))) (λ r. IsAmong r (live_rows s)) (λ r m. among_part r (part-filter _ (live_rows s)) m) rest.purged others,
      );
      apart = AllPairs-cons (λ (a b : Row). a.id ≢ b.id) row rest.purged
          (All-from_recursion (λ (b : Row). row.id ≢ b.id) rest.purged
          (all_as (λ r. IsAmong r (without row.id (live_rows s))) (λ (b : Row). row.id ≢ b.id) (other_id s row.id) rest.purged others))
          rest.apart;
    }

-- ---- a piece that is put

-- a piece that did not stand stands no more
none_left : (s : State) (segment live : ℕ) (purged : List Row) (id : PieceId) → row_of s id ≡ None → row_of (after_all s (map (displaced_record segment live) purged)) id ≡ None
none_left s segment count [] id none = none
none_left s segment count (row ∷ purged) id none =
    none_left (state_after s (displaced_record segment count row)) segment count purged id (row_in-without row.id id s.rows ∙ still (same_piece row.id id) (row_of s id) none)
  where
    still : (b : Bool) (o : Option Row) → o ≡ None → (if b then None else o) ≡ None
    still true o h = refl
    still false o h = h

contained_by : (test : Row → Bool) (first row : Row) (rows : List Row) (b : Bool) → test first ≡ b → test row ≡ true → (row ≡ first) ⊎ Contains (filter test rows) row
    → Contains (cond b (first ∷ filter test rows) (filter test rows)) row
contained_by test first row rows true e h m = first_or_later row first (filter test rows) m
contained_by test first row rows false e h m = elim m [ inl same ↦ no_truth (sym h ∙ (ap test same ∙ e)) | inr k ↦ k ]

-- a row that passes a test is one of those that do
contained : (test : Row → Bool) (row : Row) (rows : List Row) → test row ≡ true → IsAmong row rows → Contains (filter test rows) row
contained test row [] h m = absurd m
contained test row (first ∷ rows) h m =
    contained_by test first row rows (test first) refl h (elim m [ inl same ↦ inl same | inr k ↦ inr (contained test row rows h k) ])

-- live pieces whose entries are of a segment are pieces of that
all_contained : (s : State) (segment : ℕ) (rows : List Row) → AllByRecursion (λ row. IsAmong row (live_rows s)) rows
    → AllByRecursion (λ (r : DirRow). r.segment ≡ segment) (map (entry_of_piece s.geometry) rows) → AllByRecursion (Contains (rows_of_segment s segment)) rows
all_contained s segment [] among own = tt
all_contained s segment (row ∷ rows) among own = (
  contained (λ (r : Row). segment_of_piece s r.id == segment) row (live_rows s) (eq-eqb (segment_of_piece s row.id) segment own.0) among.0,
  all_contained s segment rows among.1 own.1,
)

module _ (purges : Bool) (s : State) (c new : Seen) (doc : Doc) (payload : List ℕ) (digest : Digest) (held : IsHeld s c)
    (placeable : IsPlaceable s doc payload digest) (put : IsPut purges c new doc payload) (turning : IsTurning new) (slots : HasSlots purges new) where
  abbrev entry : DirRow
  entry = row_of_key c.geometry (key_of_piece doc.id) doc.place

  abbrev d : Displacement
  d = new.displaced

  abbrev full : Bool
  full = purges && is_full c.window entry c.rows

  abbrev InRange : DirRow → Type 0
  InRange r = IsTrue (is_in_range c.window r.place)

  abbrev Goes : Bool → Type 0
  Goes b = MatchBool b (IsPurge c.window entry c.rows put.gone d) (NoneGoes put.gone d)

  ranged : (b : Bool) → Goes b → AllByRecursion InRange put.gone
  ranged true h = recursion_from_All InRange put.gone h.in_range
  ranged false h = subst (AllByRecursion InRange) (sym h.none) tt

  places_are : (b : Bool) → Goes b → d.places ≡ map (λ (r : DirRow). r.place) put.gone
  places_are true h = h.places
  places_are false h = h.untold ∙ ap (map (λ (r : DirRow). r.place)) (sym h.none)

  has_gone : HasGone s c d put.gone put.rows.left
  has_gone = goes s c d put.gone put.rows.left held put.rows.parted (ranged full put.displaced)

  abbrev displaced : List Rec
  displaced = map (displaced_record d.segment d.live) has_gone.purged

  abbrev mid : State
  mid = after_all s displaced

  told : displaced_of s d ≡ displaced
  told = ap (displaced_from (last_at s) d) (places_are full put.displaced) ∙ has_gone.told

  same_geometry : mid.geometry ≡ s.geometry
  same_geometry = sym has_gone.held.geometry ∙ held.geometry

  same_filled : mid.filled ≡ s.filled
  same_filled = sym has_gone.held.filled ∙ held.filled

  same_place : place_now mid ≡ place_now s
  same_place = let cursor : mid.cursor ≡ s.cursor = sym has_gone.held.cursor ∙ held.cursor in omega (arith, cursor, same_filled)

  placeable_there : IsPlaceable mid doc payload digest
  placeable_there = record {
    new = none_left s d.segment d.live has_gone.purged doc.id placeable.new;
    place = placeable.place ∙ sym same_place;
    small = subst (λ g. blocks_of (length payload) ≤ budget_of g) (sym same_geometry) placeable.small;
    room = rw (same_geometry, same_filled) placeable.room;
    sized = placeable.sized;
    recorded = placeable.recorded;
  }

  added : IsAdded (with_rows c put.rows.left) new doc payload
  added = record { geometry = put.geometry; least = put.least; buffer = put.buffer; rows = put.rows.entered; window = put.window; device = put.device }

  held_behind : IsHeld (placed_behind s new doc payload digest) new
  held_behind =
      let size : ℕ = blocks_of (length payload) in
      subst (λ recs. IsHeld (state_after (after_all s recs) (rec.Placed doc.id (place_now s) size digest doc.pin)) new) (sym told)
      (subst (λ place. IsHeld (state_after mid (rec.Placed doc.id place size digest doc.pin)) new) same_place
      (added_is_held mid (with_rows c put.rows.left) new doc payload digest doc.pin has_gone.held placeable_there added turning))

  same_segment : entry.segment ≡ segment_of_piece s doc.id
  same_segment = ap (λ g. segment_of g (key_of_piece doc.id)) held.geometry

  are_purged : IsPurge c.window entry c.rows put.gone d → purges ≡ true
      → ArePurged s (bucket_of_piece s doc.id) (rows_of_segment s (segment_of_piece s doc.id)) has_gone.purged
  are_purged purge packed =
      let own : AllByRecursion (λ (r : DirRow). r.segment ≡ entry.segment) put.gone = recursion_from_All (λ (r : DirRow). r.segment ≡ entry.segment) put.gone purge.own in
      let own_there : AllByRecursion (λ (r : DirRow). r.segment ≡ entry.segment) (map (entry_of_piece s.geometry) has_gone.purged) =
      subst (AllByRecursion (λ (r : DirRow). r.segment ≡ entry.segment)) (sym has_gone.entries) own in
      let each : AllByRecursion (Contains (rows_of_segment s entry.segment)) has_gone.purged = all_contained s entry.segment has_gone.purged has_gone.among own_there in
      record {
        each = All-from_recursion (Contains (rows_of_segment s (segment_of_piece s doc.id))) has_gone.purged
            (subst (λ n. AllByRecursion (Contains (rows_of_segment s n)) has_gone.purged) same_segment each);
        apart = has_gone.apart;
        tenth = sym (length-map has_gone.purged (entry_of_piece s.geometry))
            ∙ (ap (λ (rows : List DirRow). length rows) has_gone.entries ∙ (purge.count ∙ ap purge_of (held.turning.geometry ∙ held.geometry)));
        slot = sym (full_behind s doc.id d.segment d.live has_gone.purged)
            ∙ slot_made mid (with_rows c put.rows.left) new doc.id doc.place has_gone.held (ap (λ (w : Window). w.geometry) put.window) (slots packed) put.rows.entered;
      }

  displaces_is : (p : Permit) → p.packed ≡ purges → displaces p s doc.id ≡ full
  displaces_is p packed = ap (λ b. b && is_full_for s doc.id) packed ∙ ap (λ b. purges && b) (sym (full_is s c doc.id doc.place held))

  pushed_by : (b : Bool) → full ≡ b → Goes b → PushesOut purges s doc.id (displaced_of s d)
  pushed_by true e purge = λ p packed. record {
    purged = has_gone.purged;
    full = λ h. are_purged purge (and_parts purges (is_full c.window entry c.rows) e).0;
    free = λ h. no_truth (sym (displaces_is p packed ∙ e) ∙ h);
    is = told
        ∙ (ap (λ n. map (displaced_record n d.live) has_gone.purged) (purge.segment ∙ same_segment)
        ∙ ap (λ n. map (displaced_record (segment_of_piece s doc.id) n) has_gone.purged)
        (purge.live ∙ (live_are s c entry.segment held ∙ ap (λ n. length (rows_of_segment s n)) same_segment)));
  }
  pushed_by false e none = λ p packed. record {
    purged = [];
    full = λ h. no_truth (sym h ∙ (displaces_is p packed ∙ e));
    free = λ h. refl;
    is = ap (displaced_from (last_at s) d) none.untold;
  }

  placed_here : IsHeldBehind purges s new doc payload digest
  placed_here = record { held = held_behind; pushed = pushed_by full refl put.displaced }

-- a piece that is put, with what its entry displaces, is held
pub placed_is_held : PlacedIsHeld
placed_is_held = λ purges s c new doc payload digest held placeable put turning slots. placed_here purges s c new doc payload digest held placeable put turning slots
