-- A fragment that is placed, by its groups of records.
use Rattle.std.proofs.Common.{◌≡◌, ℕ, ◌+◌, ◌*◌, ◌<◌, ◌≤◌, List, [], ◌∷◌, ◌++◌, refl, sym, ◌∙◌, ap, subst, arith, Bool, true, false, Result, Ok, Err, length}
use Rattle.std.specs.Prelude.{if◌then◌else◌, ◌==◌, ◌&&◌, find, MatchBool, Option, None, Some, option_map}
use Rattle.std.proofs.lemmas.Bool.{eqb-true}
use Rattle.std.proofs.lemmas.List.{append-nil}
use Rattle.tape_base.specs.declared.geometries.Geometry.{Geometry}
use Rattle.tape_base.specs.declared.pieces.PieceId.{PieceId}
use Rattle.tape_base.specs.Blocks.{blocks_of}
use Rattle.tape_base.specs.Digest.{digest_of}
use Rattle.tape_base.specs.Geometry.{budget_of}
use Rattle.tape_base.specs.Piece.{is_vector, same_piece}
use Rattle.fragment_table.specs.Table.{total_length}
use Rattle.device_log.specs.Calls.{Call}
use Rattle.logged_disk.specs.Device.{DeviceState as Device, TellsAll}
use Rattle.cache_model.specs.declared.record.Rec.{Rec}
use Rattle.cache_model.specs.declared.record.Rec.TheVariants as rec
use Rattle.cache_model.specs.Verdict.{cuts_of}
use Rattle.cache_model.specs.State.{PutRow, Row, State, list_of_put, moved_row, put_of, row_of, vector_piece, after_all, place_now, state_after}
use Rattle.cache_model.specs.Kept.{Kept, state_of, with_records}
use Rattle.cache_model.specs.Permit.{End, Exhausted, Fails, Finish, Fragment, Intent, Permit, Stays, work_after}
use Rattle.cache_model.specs.Room.{copies_end, greatest_pin, MayDisplace, has_room, limit, placed_record}
use Rattle.cache_model.specs.Syncing.{must_unmark}
use Rattle.cache_model.specs.Legal.{AreLiveTo, Does, DoesFinish, DoesFragment, vector_length, vector_payload, MakesRoom, MayGrow, next_fragment_of}
use Rattle.cache_model.proofs.Lists.{row_in-copied, row_in-without}
use Rattle.cache_model.proofs.Found.{cuts_found}
use Rattle.cache_model.proofs.Steps.{all_append}
use Rattle.piece_answers.specs.declared.answer.Placed.{Placed}
use Rattle.piece_answers.specs.declared.answer.Stop.{Stop}
use Rattle.piece_answers.specs.declared.answer.Stop.TheVariants as stop
use Rattle.piece_answers.specs.Covers.{Covers, SpendsFirst}
use Rattle.cache_model.specs.Damage.{TellNoDamage, tells_damage}
use Rattle.cache_model.specs.Subjects.{IsOfFlush}
use Rattle.cache_model.specs.Live.{LiveBefore}
use Rattle.piece_answers.specs.Flush.{AreOfFlush, StopsWith, stop_end}
use Rattle.cache_model.specs.Limits.{ReachesLimit}
use Rattle.piece_answers.specs.Place.{CutsAsAsked, IsCutOrStoppedAs, IsFragmentOf, IsNewPiece, IsStoppedAs, IsVectorOf, AreOfPlace, PlaceAdds, PlacesAt, PlacesIn, RoomIsMade, RoomsAsAsked, FragmentStopsBehind, cut_records, place_end}
use Rattle.piece_answers.proofs.RecordsAdded.{state_of-with_records, with_records-append}
use Rattle.cache_model.specs.Given.{effects_told}
use Rattle.piece_answers.specs.Faults.{HasEffects}
use Rattle.piece_answers.proofs.Effects.{told_append}
use Rattle.piece_answers.proofs.Covering.{never_syncs, own_covers, own_permit}
use Rattle.piece_answers.proofs.Displacing.{displaced_quiet, displaced_unharmed, pushed_kinds}
use Rattle.piece_answers.proofs.SamePuts.{SamePuts, same_puts}

-- ---- groups one behind the other

pub one_group : (p : Permit) (s : State) (i : Intent) (added : List Rec) (e : End) → Does p s i added e → SpendsFirst p s i added e
one_group p s i added e d = λ rest why.
    subst (λ xs. MayGrow p s (record { intents = i ∷ rest; refused = why }) xs (work_after i rest why e)) (append-nil added)
    (MayGrow.more {s = s} {w = record { intents = i ∷ rest; refused = why }} added (work_after i rest why e) (e, d, refl) MayGrow.nothing)

pub two_groups : (p : Permit) (s : State) (i : Intent) (a b : List Rec) (e : End) → Does p s i a Stays → Does p (after_all s a) i b e → SpendsFirst p s i (a ++ b) e
two_groups p s i a b e first second = λ rest why.
    MayGrow.more {s = s} {w = record { intents = i ∷ rest; refused = why }} a (record { intents = i ∷ rest; refused = why }) (Stays, first, refl)
    (one_group p (after_all s a) i b e second rest why)

-- ---- no mark is taken back

pub never_unmarks : (p : Permit) (s : State) → p.syncs ≡ false → must_unmark p s ≡ false
never_unmarks p s off = ap (λ b. b && s.marked) off

-- ---- a fragment that has room

pub no_vector : (n index : ℕ) → index ≡ n + 1 → (index == 0) ≡ false
no_vector n index h = by (index == 0) refl
  where
    by : (b : Bool) → (index == 0) ≡ b → b ≡ false
    by false e = refl
    by true e = let z : index ≡ 0 = eqb-true index 0 e in absurd (omega (arith, z, h))

-- the records of a fragment: it is cut, then its entry displaces, then it is placed
pub cut_first : (s : State) (id : PieceId) (pin start : ℕ) (payload : List ℕ) (displaced : List Rec) → is_vector id ≡ false
    → cut_records id payload ++ (displaced ++ placed_record s id pin start (length payload) payload ∷ [])
    ≡ rec.Cut id.put id.index (length payload) (digest_of payload) ∷ (displaced ++ placed_record s id pin start (length payload) payload ∷ [])
cut_first s id pin start payload displaced kind = rw kind refl

-- those of a vector: its entry displaces, then it is placed
pub none_cut : (s : State) (id : PieceId) (pin start : ℕ) (payload : List ℕ) (displaced : List Rec) → is_vector id ≡ true
    → cut_records id payload ++ (displaced ++ placed_record s id pin start (length payload) payload ∷ [])
    ≡ displaced ++ placed_record s id pin start (length payload) payload ∷ []
none_cut s id pin start payload displaced kind = rw kind refl

-- the piece, by its put
placed_as : (s : State) (id other : PieceId) (pin n start m bytes size : ℕ) (payload spelled : List ℕ) → id ≡ other → pin ≡ n → start ≡ m → bytes ≡ size → payload ≡ spelled
    → placed_record s id pin start bytes payload ≡ placed_record s other n m size spelled
placed_as s id other pin n start m bytes size payload spelled i p b l q =
    ap (λ (x : PieceId). placed_record s x pin start bytes payload) i
    ∙ (ap (λ x. placed_record s other x start bytes payload) p
    ∙ (ap (λ x. placed_record s other n x bytes payload) b
    ∙ (ap (λ x. placed_record s other n m x payload) l ∙ ap (placed_record s other n m size) q)))

pub fragment_group : (p : Permit) (packed : Bool) (s : State) (id : PieceId) (pin start : ℕ) (payload : List ℕ) (result : Result Placed Stop) (added : List Rec)
    → p.packed ≡ packed → p.syncs ≡ false → IsFragmentOf s id pin start payload → blocks_of (length payload) ≤ budget_of s.geometry → has_room s (length payload) ≡ true
    → PlaceAdds packed s id pin start payload result added → PlacesAt s payload result → Does p s (Fragment id.put id.index payload) added (place_end result)
fragment_group p packed s id pin start payload (Ok placed) added packs off f small room a at = DoesFragment.places refl (record {
  w = f.w;
  displaced = a.displaced;
  cut = f.next;
  unmarked = never_unmarks p s off;
  place = record { small = small; room = room; below = at.2 };
  displaces = subst (λ i. MayDisplace p s i a.displaced) f.id_is (a.pushed p packs);
  is = a.is ∙ (cut_first s id pin start payload a.displaced (no_vector (length f.w.cuts) id.index f.next.next)
      ∙ ap (λ r. rec.Cut id.put id.index (length payload) (digest_of payload) ∷ (a.displaced ++ r ∷ []))
      (placed_as s id (next_fragment_of f.w) pin f.w.pin start (total_length f.w.cuts) (length payload) (length payload) payload payload f.id_is f.pin_is f.start_is refl refl));
})
fragment_group p packed s id pin start payload (Err (stop.Exhausted number)) added packs off f small room a at =
    DoesFragment.exhausted f.w refl f.next (record { room = room; above = omega (arith, at.0, at.1); is = a })
fragment_group p packed s id pin start payload (Err (stop.DeviceFault count)) added packs off f small room a at = absurd at

-- ---- the same behind a flush

-- a piece that stood nowhere stands nowhere behind the records of a flush
none_either : (b : Bool) (one : Option Row) → one ≡ None → (if b then None else one) ≡ None
none_either true one h = refl
none_either false one h = h

none_copied : (b : Bool) (f : Row → Row) (o : Option Row) → o ≡ None → (if b then option_map f o else o) ≡ None
none_copied true f o h = ap (option_map f) h
none_copied false f o h = h

nowhere_after : (s : State) (r : Rec) (id : PieceId) → IsOfFlush r → row_of s id ≡ None → row_of (state_after s r) id ≡ None
nowhere_after s (rec.Began cursor floor) id h none = none
nowhere_after s (rec.Moved piece from place digest) id h none =
    row_in-copied piece id s.rows place digest ∙ none_copied (same_piece piece id) (moved_row place digest) (row_of s id) none
nowhere_after s (rec.Unsaved piece place fault) id h none = none
nowhere_after s (rec.Damaged piece place kept found) id h none = row_in-without piece id s.rows ∙ none_either (same_piece piece id) (row_of s id) none
nowhere_after s (rec.Fault count) id h none = none
nowhere_after s _ id h none = absurd h

still_nowhere : (s : State) (recs : List Rec) (id : PieceId) → AreOfFlush recs → row_of s id ≡ None → row_of (after_all s recs) id ≡ None
still_nowhere s [] id h none = none
still_nowhere s (r ∷ recs) id h none = still_nowhere (state_after s r) recs id h.1 (nowhere_after s r id h.0 none)

later_fragment : (s t : State) (id : PieceId) (pin start : ℕ) (payload : List ℕ) → SamePuts s t → IsFragmentOf s id pin start payload → IsFragmentOf t id pin start payload
later_fragment s t id pin start payload same f = record {
  w = f.w;
  next = record {
    writing = record { quiet = same.pending ∙ f.next.writing.quiet; found = ap (find (λ p. p.put == id.put)) same.puts ∙ f.next.writing.found; is_open = f.next.writing.is_open };
    next = f.next.next;
    few = f.next.few;
    full = f.next.full ∙ ap (λ (g : Geometry). length f.w.cuts * g.fragment) (sym same.geometry);
    some = f.next.some;
    small = rw same.geometry f.next.small;
    of_bytes = f.next.of_bytes;
  };
  id_is = f.id_is;
  pin_is = f.pin_is;
  start_is = f.start_is;
}

-- ---- what was asked

-- what is placed tells no damage, and no call of the device
cut_tells : (id : PieceId) (payload : List ℕ) → TellNoDamage (cut_records id payload) × (effects_told (cut_records id payload) ≡ [])
cut_tells id payload = by (is_vector id)
  where
    by : (b : Bool) → TellNoDamage (if b then [] else rec.Cut id.put id.index (length payload) (digest_of payload) ∷ [])
        × (effects_told (if b then [] else rec.Cut id.put id.index (length payload) (digest_of payload) ∷ []) ≡ [])
    by true = (tt, refl)
    by false = ((refl, tt), refl)

-- records that tell no call, behind others
quiet_adds : (first quiet : List Rec) → effects_told quiet ≡ [] → effects_told (first ++ quiet) ≡ effects_told first
quiet_adds first quiet none = told_append first quiet ∙ (ap (λ counts. effects_told first ++ counts) none ∙ append-nil (effects_told first))

no_damage_placed : (packed : Bool) (s : State) (id : PieceId) (pin start : ℕ) (payload : List ℕ) (added : List Rec) → AreOfPlace packed s id pin start payload added
    → TellNoDamage added
no_damage_placed packed s id pin start payload added a =
    let gone = displaced_unharmed a.displaced (pushed_kinds packed s id a.displaced a.pushed) in
    subst TellNoDamage (sym a.is)
    (all_append (λ r. tells_damage r ≡ false) (cut_records id payload) _ (cut_tells id payload).0
    (all_append (λ r. tells_damage r ≡ false) a.displaced _ gone (refl, tt)))

pub no_damage_adds : (packed : Bool) (s : State) (id : PieceId) (pin start : ℕ) (payload : List ℕ) (result : Result Placed Stop) (added : List Rec)
    → PlaceAdds packed s id pin start payload result added → TellNoDamage added
no_damage_adds packed s id pin start payload (Ok placed) added a = no_damage_placed packed s id pin start payload added a
no_damage_adds packed s id pin start payload (Err why) added a = subst TellNoDamage (sym a) tt

placed_quiet : (packed : Bool) (s : State) (id : PieceId) (pin start : ℕ) (payload : List ℕ) (added : List Rec) → AreOfPlace packed s id pin start payload added
    → effects_told added ≡ []
placed_quiet packed s id pin start payload added a =
    let gone = displaced_quiet a.displaced (pushed_kinds packed s id a.displaced a.pushed) in
    let last : List Rec = placed_record s id pin start (length payload) payload ∷ [] in
    ap effects_told a.is ∙ (quiet_adds (cut_records id payload) (a.displaced ++ last) (quiet_adds a.displaced last refl ∙ gone) ∙ (cut_tells id payload).1)

pub place_quiet : (packed : Bool) (s : State) (id : PieceId) (pin start : ℕ) (payload : List ℕ) (result : Result Placed Stop) (added : List Rec)
    → PlaceAdds packed s id pin start payload result added → effects_told added ≡ []
place_quiet packed s id pin start payload (Ok placed) added a = placed_quiet packed s id pin start payload added a
place_quiet packed s id pin start payload (Err why) added a = ap effects_told a

module _ (now : ℕ) (old mid : Kept) (before : List Call) (device : Device) (id : PieceId) (pin start : ℕ) (payload : List ℕ) (u : Unit {0}) (r : RoomsAsAsked now old mid before device (length payload) (Ok u)) where
  abbrev s : State
  s = state_of old

  abbrev t : State
  t = after_all s r.added

  mid_is : state_of mid ≡ t
  mid_is = ap state_of r.adds ∙ state_of-with_records old r.added

  pub mid_new : IsNewPiece s id payload → IsNewPiece (state_of mid) id payload
  mid_new n =
      subst (λ x. IsNewPiece x id payload) (sym mid_is)
      (record { nowhere = still_nowhere s r.added id r.kinds n.nowhere; small = rw (same_puts s r.added r.kinds).geometry n.small })

  -- a flush made the room, or it was there
  none_added : has_room s (length payload) ≡ true → r.added ≡ []
  none_added h =
      subst (λ b. MatchBool b (r.added ≡ []) (MakesRoom (own_permit now before device.past) s (length payload) r.added Stays)) h
      (r.does (own_permit now before device.past) refl (own_covers now before device.past))

  by_room : (p : Permit) (packed : Bool) (result : Result Placed Stop) (added : List Rec) → p.packed ≡ packed → p.syncs ≡ false → RoomIsMade p s (length payload) r.added (Ok u)
      → IsFragmentOf s id pin start payload → blocks_of (length payload) ≤ budget_of s.geometry → has_room t (length payload) ≡ true
      → PlaceAdds packed t id pin start payload result added → PlacesAt t payload result → (b : Bool) → has_room s (length payload) ≡ b
      → SpendsFirst p s (Fragment id.put id.index payload) (r.added ++ added) (place_end result)
  by_room p packed result added packs off made f small room a at true h =
      let none : r.added ≡ [] = none_added h in
      let same : t ≡ s = ap (after_all s) none in
      subst (λ xs. SpendsFirst p s (Fragment id.put id.index payload) (xs ++ added) (place_end result)) (sym none)
      (one_group p s _ _ _ (fragment_group p packed s id pin start payload result added packs off f small h
      (subst (λ x. PlaceAdds packed x id pin start payload result added) same a) (subst (λ x. PlacesAt x payload result) same at)))
  by_room p packed result added packs off made f small room a at false h =
      let makes : MakesRoom p s (length payload) r.added Stays = subst (λ b. MatchBool b (r.added ≡ []) (MakesRoom p s (length payload) r.added Stays)) h made in
      let same : SamePuts s t = same_puts s r.added r.kinds in
      two_groups p s _ _ _ _ (DoesFragment.rooms f.w f.next makes)
      (fragment_group p packed t id pin start payload result added packs off (later_fragment s t id pin start payload same f) (rw same.geometry small) room a at)

  shape_by : (packed : Bool) (faults : ℕ) (result : Result Placed Stop) (added : List Rec) → has_room t (length payload) ≡ true → PlaceAdds packed t id pin start payload result added
      → PlacesAt t payload result → IsCutOrStoppedAs packed s faults id pin start payload (r.added ++ added) result
  shape_by packed faults (Ok placed) added room a at = record {
    room = r.added;
    piece = added;
    kinds = r.kinds;
    none = none_added;
    live = subst (LiveBefore s) mid_is r.live;
    are = a;
    is = refl;
    place = at.0;
    payload_is = at.1;
  }
  shape_by packed faults (Err (stop.Exhausted number)) added room a at =
      subst (λ xs. IsStoppedAs s faults payload xs (stop.Exhausted number)) (sym (ap (λ xs. r.added ++ xs) a ∙ append-nil r.added)) (record {
        kinds = r.kinds;
        live = subst (LiveBefore s) mid_is r.live;
        why_is = (at.0 ∙ sym (ap (λ b. if b then place_now t + blocks_of (length payload) else copies_end t) room), at.1);
      })
  shape_by packed faults (Err (stop.DeviceFault count)) added room a at = absurd at

  -- a fragment that was placed behind that
  pub cuts_behind : (packed : Bool) (new : Kept) (after : Device) (result : Result Placed Stop) → after ≡ device → PlacesIn packed mid new id pin start payload result
      → IsFragmentOf s id pin start payload → blocks_of (length payload) ≤ budget_of s.geometry → has_room (state_of mid) (length payload) ≡ true
      → CutsAsAsked packed now old new before after id pin start payload result
  cuts_behind packed new after result still places f small room =
      let here : has_room t (length payload) ≡ true = subst (λ x. has_room x (length payload) ≡ true) mid_is room in
      let there : PlacesAt t payload result = subst (λ x. PlacesAt x payload result) mid_is places.at in
      let are : PlaceAdds packed t id pin start payload result places.added = subst (λ x. PlaceAdds packed x id pin start payload result places.added) mid_is places.are in
      let all : List Rec = r.added ++ places.added in
      record {
        added = all;
        adds = places.adds ∙ (ap (λ m. with_records m places.added) r.adds ∙ with_records-append old r.added places.added);
        shape = shape_by packed after.faults result places.added here are there;
        unharmed = λ told. all_append (λ r. tells_damage r ≡ false) r.added _ (r.unharmed (subst TellsAll still told))
            (no_damage_adds packed t id pin start payload result places.added are);
        faults = subst (λ (d : Device). HasEffects before d.past (effects_told all)) (sym still)
            (subst (HasEffects before device.past) (sym (quiet_adds r.added places.added (place_quiet packed t id pin start payload result places.added are))) r.faults);
        does = λ p packs moment covers.
            by_room p packed result places.added packs covers.unsynced (r.does p moment (subst (λ (d : Device). Covers p before d.past) still covers))
            f small here are there (has_room s (length payload)) refl;
      }

-- ---- no room could be made

made_exhausted : (p : Permit) (s : State) (bytes : ℕ) (added : List Rec) → p.syncs ≡ false → MakesRoom p s bytes added (Fails Exhausted) → added ≡ []
made_exhausted p s bytes added off (MakesRoom.exhausted h above is) = is
made_exhausted p s bytes added off (MakesRoom.syncs f h sync behind) = absurd (never_syncs off sync)

-- nothing is added where the tape has an end
abbrev MakesNone : List Rec → Stop → Type 0
MakesNone added (stop.DeviceFault count) = Unit {0}
MakesNone added (stop.Exhausted number) = added ≡ []

none_by : (p : Permit) (s : State) (bytes : ℕ) (added : List Rec) (why : Stop) → p.syncs ≡ false → MakesRoom p s bytes added (stop_end why) → MakesNone added why
none_by p s bytes added (stop.DeviceFault count) off m = tt
none_by p s bytes added (stop.Exhausted number) off m = made_exhausted p s bytes added off m

stopped_by : (s : State) (faults bytes : ℕ) (added : List Rec) (why : Stop) → has_room s bytes ≡ false → StopsWith s faults why → MakesNone added why → FragmentStopsBehind s (after_all s added) faults bytes why
stopped_by s faults bytes added (stop.DeviceFault count) full stops none = (stops, full)
stopped_by s faults bytes added (stop.Exhausted number) full stops none =
    subst (λ t. ReachesLimit t bytes number) (sym (ap (after_all s) none))
    (stops.0 ∙ sym (ap (λ b. if b then place_now s + blocks_of bytes else copies_end s) full), stops.1)

pub cuts_stop : (packed : Bool) (now : ℕ) (old new : Kept) (before : List Call) (after : Device) (id : PieceId) (pin start : ℕ) (payload : List ℕ) (why : Stop)
    → IsFragmentOf (state_of old) id pin start payload → has_room (state_of old) (length payload) ≡ false → StopsWith (state_of old) after.faults why
    → RoomsAsAsked now old new before after (length payload) (Err why)
    → CutsAsAsked packed now old new before after id pin start payload (Err why)
cuts_stop packed now old new before after id pin start payload why f full stops r =
    let s : State = state_of old in
    let state : state_of new ≡ after_all s r.added = ap state_of r.adds ∙ state_of-with_records old r.added in
    let own : Permit = own_permit now before after.past in
    record {
      added = r.added;
      adds = r.adds;
      shape = record {
        kinds = r.kinds;
        live = subst (LiveBefore s) state r.live;
        why_is = stopped_by s after.faults (length payload) r.added why full stops (none_by own s (length payload) r.added why refl (r.does own refl (own_covers now before after.past)));
      };
      unharmed = r.unharmed;
      faults = r.faults;
      does = λ p packs moment covers. one_group p s _ _ _ (DoesFragment.rooms f.w f.next (r.does p moment covers));
    }

-- ---- a vector

vector_cuts : (s : State) (put : ℕ) (w : PutRow) → put_of s put ≡ Some w → length (cuts_of s put) ≡ length w.cuts
vector_cuts s put w h = ap length (cuts_found s put w h)

pub vector_group : (p : Permit) (packed : Bool) (s : State) (id : PieceId) (pin start : ℕ) (payload : List ℕ) (result : Result Placed Stop) (added : List Rec)
    → p.packed ≡ packed → p.syncs ≡ false → IsVectorOf s id pin start payload → is_vector id ≡ true → blocks_of (length payload) ≤ budget_of s.geometry
    → PlaceAdds packed s id pin start payload result added → PlacesAt s payload result → Does p s (Finish id.put (length (cuts_of s id.put))) added (place_end result)
vector_group p packed s id pin start payload (Ok placed) added packs off v kind small a at =
    let count : length (cuts_of s id.put) ≡ length v.w.cuts = vector_cuts s id.put v.w v.cut.writing.found in
    DoesFinish.places refl (record {
      w = v.w;
      displaced = a.displaced;
      cut = record { writing = v.cut.writing; count = sym count; alone = v.cut.alone };
      unmarked = never_unmarks p s off;
      whole = subst (AreLiveTo s v.w) (sym count) v.whole;
      place = record {
        small = subst (λ n. blocks_of n ≤ budget_of s.geometry) v.length_is small;
        room = subst (λ n. has_room s n ≡ true) v.length_is v.room;
        below = subst (λ n. place_now s + blocks_of n < limit) v.length_is at.2;
      };
      displaces = subst (λ i. MayDisplace p s i a.displaced) v.id_is (a.pushed p packs);
      is = a.is ∙ (none_cut s id pin start payload a.displaced kind
          ∙ ap (λ r. a.displaced ++ r ∷ [])
          (placed_as s id (vector_piece v.w.key id.put) pin (greatest_pin (list_of_put s id.put)) start 0 (length payload) (vector_length s id.put) payload (vector_payload s id.put)
          v.id_is v.pin_is v.start_is v.length_is v.payload_is));
    })
vector_group p packed s id pin start payload (Err (stop.Exhausted number)) added packs off v kind small a at =
    let count : length (cuts_of s id.put) ≡ length v.w.cuts = vector_cuts s id.put v.w v.cut.writing.found in
    DoesFinish.exhausted v.w refl (record { writing = v.cut.writing; count = sym count; alone = v.cut.alone }) (subst (AreLiveTo s v.w) (sym count) v.whole)
    (record { room = subst (λ n. has_room s n ≡ true) v.length_is v.room; above = subst (λ n. limit ≤ place_now s + blocks_of n) v.length_is (omega (arith, at.0, at.1)); is = a })
vector_group p packed s id pin start payload (Err (stop.DeviceFault count)) added packs off v kind small a at = absurd at
