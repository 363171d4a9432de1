-- What is left of the memory that was made, and records that leave the actors as they are.
use Rattle.std.proofs.Common.{◌≡◌, ℕ, ◌+◌, ◌-◌, ◌*◌, ◌<◌, ◌≤◌, List, [], ◌∷◌, ◌++◌, refl, sym, ◌∙◌, ap, subst, arith, Bool, true, false, length, Result, Ok, Err}
use Rattle.std.specs.Prelude.{Option, Some, None, if◌then◌else◌, nat_lt}
use Rattle.std.proofs.lemmas.Bool.{le-leb, ltb-false}
use Rattle.agg_buffer.specs.Buffer.{filled_of, next_place_of, room_of}
use Rattle.tape_base.specs.Blocks.{blocks_of}
use Rattle.held_pieces.specs.Held.{IsHeld}
use Rattle.std.specs.List.{AllByRecursion}
use Rattle.std.proofs.lemmas.List.{length-append}
use Rattle.tape_base.specs.declared.geometries.Geometry.{Geometry}
use Rattle.tape_base.specs.declared.digests.Digest.{Digest}
use Rattle.tape_base.specs.declared.pieces.PieceId.{PieceId}
use Rattle.tape_base.specs.Digest.{digest_of}
use Rattle.tape_base.specs.Piece.{is_vector}
use Rattle.logged_disk.specs.Device.{Keeps}
use Rattle.logged_disk.proofs.GoingOn.{asked_nothing}
use Rattle.cyclone.specs.Cyclone.{Seen}
use Rattle.cache_model.specs.declared.cause.Cause.TheVariants as cause
use Rattle.cache_model.specs.declared.record.Rec.{Rec}
use Rattle.cache_model.specs.declared.record.Rec.TheVariants as rec
use Rattle.cache_model.specs.State.{Row, State, after_all, live_row_of, state_after}
use Rattle.cache_model.specs.Kept.{Kept, count_of, state_of, with_records}
use Rattle.cache_model.specs.Room.{has_room, placed_record}
use Rattle.cache_model.proofs.Steps.{after_all-append, all_append}
use Rattle.stripe_actors.specs.Calls.{CutsNext}
use Rattle.stripe_actors.specs.Actors.{ActorsSeen as Actors, AreActors}
use Rattle.stripe_actors.specs.ActorLaws.{speaks_of_actors}
use Rattle.stripe_actors.proofs.Telling.{others}
use Rattle.piece_answers.specs.declared.ahead.Ahead.{Ahead}
use Rattle.piece_answers.specs.declared.answer.Found.{Found}
use Rattle.piece_answers.specs.declared.answer.Found.TheVariants as found
use Rattle.piece_answers.specs.declared.answer.Placed.{Placed}
use Rattle.cache_answers.specs.declared.answers.Refusal.{Refusal}
use Rattle.cache_answers.specs.declared.answers.Refusal.TheVariants as refusal
use Rattle.piece_answers.specs.declared.answer.Stop.{Stop}
use Rattle.piece_answers.specs.declared.answer.Stop.TheVariants as stop
use Rattle.piece_answers.specs.Ahead.{IsMadeFor}
use Rattle.piece_answers.specs.Covers.{Uses}
use Rattle.cache_model.specs.Displacing.{AreOfDisplacement}
use Rattle.cache_model.specs.Troubles.{cause_records}
use Rattle.piece_answers.specs.Find.{find_adds, found_records}
use Rattle.cache_model.specs.Subjects.{IsOfFlush}
use Rattle.piece_answers.specs.Flush.{AreOfFlush}
use Rattle.piece_answers.specs.Place.{AreOfPlace, IsFragmentOf, PlaceAdds}
use Rattle.stripe_pieces.specs.Units.{entries_of_unit, records_of_unit}
use Rattle.piece_answers.specs.Refusals.{refusal_of}
use Rattle.stripe_core.specs.Stripe.{AnswersOrWants, IsSpared}
use Rattle.piece_answers.proofs.RecordsAdded.{state_of-with_records}
use Rattle.piece_answers.proofs.Displacing.{pushed_kinds}
use Rattle.piece_answers.proofs.Groups.{cut_first, no_vector, none_cut}

-- ---- records that speak of no actor

abbrev pub AllOthers : List Rec → Type 0
AllOthers recs = AllByRecursion (λ r. speaks_of_actors r ≡ false) recs

pub others_keep : (s : State) (a : Actors) (recs : List Rec) → AllOthers recs → AreActors s a → AreActors (after_all s recs) a
others_keep s a [] all h = h
others_keep s a (r ∷ recs) all h = others_keep (state_after s r) a recs all.1 (others s a r all.0 h)

reader_stays : (s : State) (r : Rec) → speaks_of_actors r ≡ false → (state_after s r).next_reader ≡ s.next_reader
reader_stays s (rec.Formatted geometry) h = cc
reader_stays s (rec.Opened geometry serial cursor floor next_put clean list) h = cc
reader_stays s (rec.WriteOpened actor put key request response pin) h = cc
reader_stays s (rec.Cut put index length digest) h = cc
reader_stays s (rec.Committed put key length list) h = cc
reader_stays s (rec.Aborted put key) h = cc
reader_stays s (rec.ReadOpened reader actor key request answer) h = cc
reader_stays s (rec.Gave reader index length) h = cc
reader_stays s (rec.ReadClosed reader) h = cc
reader_stays s _ h = refl

pub readers_stay : (s : State) (recs : List Rec) → AllOthers recs → (after_all s recs).next_reader ≡ s.next_reader
readers_stay s [] all = refl
readers_stay s (r ∷ recs) all = readers_stay (state_after s r) recs all.1 ∙ reader_stays s r all.0

-- how many records there are behind more of them
count_with : (k : Kept) (recs : List Rec) → count_of (with_records k recs) ≡ count_of k + length recs
count_with k recs = let both : length (k.since ++ recs) ≡ length k.since + length recs = length-append k.since recs in omega (arith, both)

-- each reader has a record, behind more of them
pub numbered_by : (k new : Kept) (recs : List Rec) (more : ℕ) → new ≡ with_records k recs → (state_of new).next_reader ≡ (state_of k).next_reader + more → more ≤ length recs
    → (state_of k).next_reader < count_of k → (state_of new).next_reader < count_of new
numbered_by k new recs more is reader few h =
    let count : count_of new ≡ count_of k + length recs = ap count_of is ∙ count_with k recs in
    omega (arith, count, reader, few, h)

pub numbered_others : (k new : Kept) (recs : List Rec) → new ≡ with_records k recs → AllOthers recs → (state_of k).next_reader < count_of k → (state_of new).next_reader < count_of new
numbered_others k new recs is all h =
    let same : (state_of new).next_reader ≡ (state_of k).next_reader = ap (λ x. (state_of x).next_reader) is ∙ (ap (λ (t : State). t.next_reader) (state_of-with_records k recs) ∙ readers_stay (state_of k) recs all) in
    numbered_by k new recs 0 is (omega (arith, same)) (omega arith) h

pub actors_with : (k new : Kept) (a : Actors) (recs : List Rec) → new ≡ with_records k recs → AllOthers recs → AreActors (state_of k) a → AreActors (state_of new) a
actors_with k new a recs is all h =
    subst (λ s. AreActors s a) (sym (ap state_of is ∙ state_of-with_records k recs)) (others_keep (state_of k) a recs all h)

-- ---- which these are

causes_are_others : (row : Row) (why : Rattle.cache_model.specs.declared.cause.Cause.Cause) → AllOthers (cause_records row why)
causes_are_others row (cause.DeviceFault count) = (refl, tt)
causes_are_others row (cause.Damaged place kept other) = (refl, tt)
causes_are_others row _ = tt

found_are_others : (o : Option Row) (answer : Found) → AllOthers (found_records o answer)
found_are_others None answer = tt
found_are_others (Some row) (found.Found size) = tt
found_are_others (Some row) (found.Missing why) = causes_are_others row why

pub find_are_others : (s : State) (id : PieceId) (answer : Found) → AllOthers (find_adds s id answer)
find_are_others s id answer = found_are_others (live_row_of s id) answer

other : (r : Rec) → IsOfFlush r → speaks_of_actors r ≡ false
other (rec.Began cursor floor) h = refl
other (rec.Moved piece from place digest) h = refl
other (rec.Unsaved piece place fault) h = refl
other (rec.Damaged piece place kept found) h = refl
other (rec.Fault count) h = refl
other _ h = absurd h

pub flush_is_others : (recs : List Rec) → AreOfFlush recs → AllOthers recs
flush_is_others [] all = tt
flush_is_others (r ∷ recs) all = (other r all.0, flush_is_others recs all.1)

-- what an entry displaces
pub displaced_are_others : (recs : List Rec) → AreOfDisplacement recs → AllOthers recs
displaced_are_others [] all = tt
displaced_are_others (rec.Displaced piece segment live ∷ recs) all = (refl, displaced_are_others recs all.1)
displaced_are_others (_ ∷ recs) all = absurd all.0

-- ---- memory

products : (a b agg : ℕ) → (a + b) * agg ≡ a * agg + b * agg
products a b agg = omega arith

none_less : (f n : ℕ) → n ≡ 0 → f ≡ f - n
none_less f n is = omega (arith, is)

-- what is made for one call more is left, where it used no more than that
left_by : (most units room left used : ℕ) → most * (units + 1) ≤ room → room ≤ left + used → used ≤ most → most * units ≤ left
left_by most units room left used h more few =
    let product : most * (units + 1) ≡ most * units + most = omega arith in
    omega (arith, product, h, more, few)

-- a call that used up so many flushes of the device
spent : (units flushes room left records entries calls : ℕ) (c new : Seen) → IsSpared (units + 1) flushes room c → Uses records entries calls (calls * c.geometry.agg) room left c new
    → records ≤ records_of_unit c.geometry → entries ≤ entries_of_unit c.geometry → calls ≤ 1 → IsSpared units (flushes - calls) left new
spent units flushes room left records entries calls c new h u r e k =
    let agg : new.geometry.agg ≡ c.geometry.agg = ap (λ (g : Geometry). g.agg) u.same in
    let of_calls : c.device.calls ≤ new.device.calls + calls = u.device.calls in
    let of_blocks : c.device.blocks ≤ new.device.blocks + calls * c.geometry.agg = u.device.blocks in
    let before : flushes * c.geometry.agg ≤ c.device.blocks = h.blocks in
    let some : calls ≤ flushes = omega (arith, h.one_each, k) in
    let split : flushes ≡ flushes - calls + calls = omega (arith, some) in
    let product : flushes * c.geometry.agg ≡ (flushes - calls) * c.geometry.agg + calls * c.geometry.agg =
    ap (λ n. n * c.geometry.agg) split ∙ products (flushes - calls) calls c.geometry.agg in
    record {
      for_records = subst (λ (g : Geometry). records_of_unit g * units ≤ left) (sym u.same) (left_by (records_of_unit c.geometry) units room left records h.for_records u.of_records r);
      entries = subst (λ (g : Geometry). entries_of_unit g * units ≤ new.spare) (sym u.same) (left_by (entries_of_unit c.geometry) units c.spare new.spare entries h.entries u.of_entries e);
      one_each = omega (arith, h.one_each, k);
      calls = omega (arith, h.calls, of_calls);
      blocks = subst (λ a. (flushes - calls) * a ≤ new.device.blocks) (sym agg) (omega (arith, product, before, of_blocks));
    }

-- a call that asked nothing of the device
pub spent_calm : (u f room left records entries : ℕ) (c new : Seen) → IsSpared (u + 1) f room c → Uses records entries 0 0 room left c new
    → records ≤ records_of_unit c.geometry → entries ≤ entries_of_unit c.geometry → IsSpared u f left new
spent_calm u f room left records entries c new h uses r e =
    subst (λ n. IsSpared u n left new) (sym (none_less f 0 refl))
    (spent u f room left records entries 0 c new h (record {
      same = uses.same;
      of_records = uses.of_records;
      of_entries = uses.of_entries;
      device = subst (λ k. Keeps 0 k c.device new.device) (none_of c.geometry.agg) uses.device;
      goes = uses.goes;
      leaves = uses.leaves;
      later = uses.later;
    }) r e (omega arith))
  where
    none_of : (k : ℕ) → 0 ≡ 0 * k
    none_of k = omega arith

-- one record
pub one_told : (u f room left : ℕ) (c : Seen) → IsSpared (u + 1) f room c → room ≤ left + 1 → IsSpared u f left c
one_told u f room left c h more = record {
  for_records = left_by (records_of_unit c.geometry) u room left 1 h.for_records more (omega arith);
  entries = left_by (entries_of_unit c.geometry) u c.spare c.spare 0 h.entries (omega arith) (omega arith);
  one_each = omega (arith, h.one_each);
  calls = h.calls;
  blocks = h.blocks;
}

-- room for no less
no_less_room : (most before after : ℕ) → most ≤ before → before ≤ after → most ≤ after
no_less_room most before after h k = omega (arith, h, k)

pub spared_more : (u f room left : ℕ) (c : Seen) → IsSpared u f room c → room ≤ left → IsSpared u f left c
spared_more u f room left c h more = record {
  for_records = no_less_room (records_of_unit c.geometry * u) room left h.for_records more;
  entries = h.entries;
  one_each = h.one_each;
  calls = h.calls;
  blocks = h.blocks;
}

-- a call that may have flushed, and did where it was told so
pub spent_by : (b : Bool) (u f n room left records entries : ℕ) (c new : Seen) → n ≡ (if b then 1 else 0) → IsSpared (u + 1) f room c → Uses records entries 1 c.geometry.agg room left c new
    → records ≤ records_of_unit c.geometry → entries ≤ entries_of_unit c.geometry → (b ≡ false → new.device ≡ c.device) → IsSpared u (f - n) left new
spent_by true u f n room left records entries c new is h uses r e still = subst (λ k. IsSpared u (f - k) left new) (sym is) (spent u f room left records entries 1 c new h (record {
  same = uses.same;
  of_records = uses.of_records;
  of_entries = uses.of_entries;
  device = subst (λ k. Keeps 1 k c.device new.device) (one_of c.geometry.agg) uses.device;
  goes = uses.goes;
  leaves = uses.leaves;
  later = uses.later;
}) r e (omega arith))
  where
    one_of : (k : ℕ) → k ≡ 1 * k
    one_of k = omega arith
spent_by false u f n room left records entries c new is h uses r e still = subst (λ k. IsSpared u k left new) (none_less f n is) (spent_calm u f room left records entries c new h (record {
  same = uses.same;
  of_records = uses.of_records;
  of_entries = uses.of_entries;
  device = subst (λ d. Keeps 0 0 c.device d) (sym (still refl)) (asked_nothing c.device).keeps;
  goes = uses.goes;
  leaves = uses.leaves;
  later = uses.later;
}) r e)

-- room for a record beside those that are to come
pub behind_one : (most records room left : ℕ) → records ≡ most → records + 1 ≤ room → room ≤ left + 1 → most ≤ left
behind_one most records room left is made more = omega (arith, is, made, more)

-- the memory of a flush, for the geometry that stays
pub made_still : (s t : State) (c new : Seen) (a : Ahead) → IsHeld s c → IsHeld t new → new.geometry ≡ c.geometry → IsMadeFor s.geometry a → IsMadeFor t.geometry a
made_still s t c new a h k same made = subst (λ g. IsMadeFor g a) (sym h.geometry ∙ sym same ∙ k.geometry) made

pub made_behind : (k new : Kept) (r : Rec) (a : Ahead) → new ≡ with_records k (r ∷ []) → (state_after (state_of k) r).geometry ≡ (state_of k).geometry
    → IsMadeFor (state_of k).geometry a → IsMadeFor (state_of new).geometry a
made_behind k new r a is same made =
    subst (λ g. IsMadeFor g a) (sym (ap (λ (t : State). t.geometry) (ap state_of is ∙ state_of-with_records k (r ∷ [])) ∙ same)) made

-- an empty buffer, and a piece that has room
pub nothing_in_buffer : (s : State) (c : Seen) (cursor next : ℕ) → IsHeld s c → cursor ≡ c.buffer.cursor → next ≡ next_place_of c.buffer → nat_lt cursor next ≡ false → s.filled ≡ 0
nothing_in_buffer s c cursor next held at from none = let low : next ≤ cursor = ltb-false cursor next none in omega (arith, at, from, low, held.filled)

pub room_for_it : (s : State) (c : Seen) (bytes blocks room : ℕ) → IsHeld s c → blocks ≡ blocks_of bytes → room ≡ room_of c.buffer → nat_lt room blocks ≡ false → has_room s bytes ≡ true
room_for_it s c bytes blocks room held b r none =
    let low : blocks ≤ room = ltb-false room blocks none in
    let reserved : c.buffer.reserved ≡ s.geometry.agg = held.turning.reserved ∙ ap (λ (g : Geometry). g.agg) held.geometry in
    let few : filled_of c.buffer ≤ c.geometry.agg = held.turning.few in
    let agg : c.geometry.agg ≡ s.geometry.agg = ap (λ (g : Geometry). g.agg) held.geometry in
    le-leb (s.filled + blocks_of bytes) s.geometry.agg (omega (arith, b, r, low, held.filled, reserved, few, agg))

-- ---- answers

pub answers_stop : {X : Type 0} (why : Stop) (P : Result X Stop → Type 0) (wanting : Type 0) → P (Err why) → AnswersOrWants {X = X} (Err (refusal_of why)) P wanting
answers_stop (stop.DeviceFault count) P wanting h = h
answers_stop (stop.Exhausted number) P wanting h = h

pub answers_map : {X : Type 0} (result : Result X Refusal) (P Q : Result X Stop → Type 0) (v w : Type 0) → ((r : Result X Stop) → P r → Q r) → (v → w) → AnswersOrWants result P v → AnswersOrWants result Q w
answers_map (Ok x) P Q v w f g h = f (Ok x) h
answers_map (Err (refusal.DeviceFault count)) P Q v w f g h = f (Err (stop.DeviceFault count)) h
answers_map (Err (refusal.Exhausted number)) P Q v w f g h = f (Err (stop.Exhausted number)) h
answers_map (Err (refusal.Memory e)) P Q v w f g h = g h
answers_map (Err refusal.TooManyWriters) P Q v w f g h = absurd h
answers_map (Err refusal.TooManyFragments) P Q v w f g h = absurd h
answers_map (Err (refusal.VectorTooLarge bytes)) P Q v w f g h = absurd h
answers_map (Err (refusal.Lost index why)) P Q v w f g h = absurd h
answers_map (Err refusal.Sealed) P Q v w f g h = absurd h
answers_map (Err refusal.NoSuchWriter) P Q v w f g h = absurd h

-- ---- a fragment that was placed

-- behind the flush that it may need
module _ (packed : Bool) (s : State) (id : PieceId) (pin start : ℕ) (payload : List ℕ) (room piece : List Rec) (kinds : AreOfFlush room) (kind : is_vector id ≡ false)
    (are : AreOfPlace packed (after_all s room) id pin start payload piece) where
  abbrev t : State
  t = after_all s room

  abbrev cut : State
  cut = state_after t (rec.Cut id.put id.index (length payload) (digest_of payload))

  abbrev gone : State
  gone = after_all cut are.displaced

  displaced : AllOthers are.displaced
  displaced = displaced_are_others are.displaced (pushed_kinds packed t id are.displaced are.pushed)

  -- it is cut, then its entry displaces, then it is placed
  pub placed_state : after_all s (room ++ piece) ≡ state_after gone (placed_record t id pin start (length payload) payload)
  placed_state =
      after_all-append s room piece
      ∙ (ap (after_all t) (are.is ∙ cut_first t id pin start payload are.displaced kind)
      ∙ after_all-append cut are.displaced (placed_record t id pin start (length payload) payload ∷ []))

  pub fragment_actors : (a b : Actors) (digest : Digest) → digest ≡ digest_of payload → CutsNext id.put (length payload) digest a b → AreActors s a
      → AreActors (after_all s (room ++ piece)) b
  fragment_actors a b digest is cuts h =
      let here : AreActors t a = others_keep s a room (flush_is_others room kinds) h in
      let behind : AreActors cut b = subst (λ d. AreActors (state_after t (rec.Cut id.put id.index (length payload) d)) b) is (cuts id.index t here) in
      subst (λ x. AreActors x b) (sym placed_state) (others gone b (placed_record t id pin start (length payload) payload) refl (others_keep cut b are.displaced displaced behind))

  pub fragment_readers : (after_all s (room ++ piece)).next_reader ≡ s.next_reader
  fragment_readers = ap (λ (x : State). x.next_reader) placed_state ∙ (readers_stay cut are.displaced displaced ∙ readers_stay s room (flush_is_others room kinds))

-- of a vector
placed_others : (packed : Bool) (s : State) (id : PieceId) (pin start : ℕ) (payload : List ℕ) (added : List Rec) → is_vector id ≡ true
    → AreOfPlace packed s id pin start payload added → AllOthers added
placed_others packed s id pin start payload added kind a =
    subst AllOthers (sym (a.is ∙ none_cut s id pin start payload a.displaced kind))
    (all_append (λ r. speaks_of_actors r ≡ false) a.displaced _ (displaced_are_others a.displaced (pushed_kinds packed s id a.displaced a.pushed)) (refl, tt))

pub vector_others : (packed : Bool) (s : State) (id : PieceId) (pin start : ℕ) (payload : List ℕ) (result : Result Placed Stop) (added : List Rec)
    → is_vector id ≡ true → PlaceAdds packed s id pin start payload result added → AllOthers added
vector_others packed s id pin start payload (Ok placed) added kind a = placed_others packed s id pin start payload added kind a
vector_others packed s id pin start payload (Err why) added kind a = subst AllOthers (sym a) tt

pub vector_state : (packed : Bool) (s : State) (id : PieceId) (pin start : ℕ) (payload : List ℕ) (added : List Rec)
    (a : AreOfPlace packed s id pin start payload added) → is_vector id ≡ true → after_all s added ≡ state_after (after_all s a.displaced) (placed_record s id pin start (length payload) payload)
vector_state packed s id pin start payload added a kind =
    ap (after_all s) (a.is ∙ none_cut s id pin start payload a.displaced kind) ∙ after_all-append s a.displaced (placed_record s id pin start (length payload) payload ∷ [])

-- a fragment is no vector
pub no_vector_id : (s : State) (id : PieceId) (pin start : ℕ) (payload : List ℕ) → IsFragmentOf s id pin start payload → is_vector id ≡ false
no_vector_id s id pin start payload f = no_vector (length f.w.cuts) id.index f.next.next
