-- How a put is finished.
use Rattle.std.proofs.Common.{◌≡◌, ℕ, ◌≤◌, List, [], ◌∷◌, ◌++◌, refl, sym, ◌∙◌, ap, subst, Bool, true, false, cond, length, Ok, Err}
use Rattle.std.specs.Prelude.{Option, Some, None, IsSome, is_some, option_map, option_and_then, unwrap_or, if◌then◌else◌}
use Rattle.std.proofs.lemmas.Bool.{eq-eqb}
use Rattle.std.proofs.lemmas.List.{append-nil}
use Rattle.tape_base.specs.declared.geometries.Geometry.{Geometry}
use Rattle.tape_base.specs.declared.keys.Key.{Key}
use Rattle.tape_base.specs.declared.pieces.PieceId.{PieceId}
use Rattle.tape_base.specs.declared.digests.Digest.{Digest}
use Rattle.tape_base.proofs.NameLaws.{same_piece-same}
use Rattle.tape_base.specs.Blocks.{blocks_of}
use Rattle.tape_base.specs.Geometry.{budget_of}
use Rattle.device_log.specs.Calls.{Call}
use Rattle.fragment_table.specs.Table.{TableRow, total_length}
use Rattle.alternate_vector.specs.Alternates.{Stored, vector_size}
use Rattle.alternate_vector.specs.Spelling.{IsSpelling, vector_bytes}
use Rattle.cache_model.specs.declared.record.Rec.{Rec}
use Rattle.cache_model.specs.declared.record.Rec.TheVariants as rec
use Rattle.cache_model.specs.State.{Closed, Complete, LastVector, Open, PutRow, Row, State, TakenOut, alternate_of, alternates_of, fragment_piece, is_live, last_vector, list_among, list_of_last, list_of_piece, list_of_put, list_of_row, live_row_of, merged_list, only_live, placed_row, put_of, row_in, state_after, vector_piece, with_writing, after_all}
use Rattle.cache_model.specs.Verdict.{cuts_of, live_vector_of, vector_of_last}
use Rattle.cache_model.specs.Legal.{AreLiveTo, FitsAlone, IsCut, IsQuiet, IsWriting, is_writing, Does}
use Rattle.cache_model.specs.Room.{greatest_pin, has_room, placed_record}
use Rattle.cache_model.proofs.ByNumber.{find-changed}
use Rattle.cache_model.specs.Kept.{Kept, state_of, with_records}
use Rattle.cache_model.specs.Permit.{Commit, Done, Exhausted, Fails, Finish}
use Rattle.cache_model.proofs.Found.{cuts_found}
use Rattle.cache_model.proofs.Lists.{row_in-placed}
use Rattle.cache_model.proofs.Steps.{after_all-append}
use Rattle.piece_answers.specs.declared.answer.Placed.{Placed}
use Rattle.cache_answers.specs.declared.answers.Refusal.{Refusal}
use Rattle.cache_answers.specs.declared.answers.Refusal.TheVariants as refusal
use Rattle.piece_answers.specs.declared.answer.Stop.{Stop}
use Rattle.piece_answers.specs.declared.answer.Stop.TheVariants as stop
use Rattle.stripe_answers.specs.Acts.{CommitsAsAsked, committed_record}
use Rattle.stripe_core.specs.Stripe.{AnswersOrWants, HasMemory}
use Rattle.piece_answers.specs.Covers.{Covers}
use Rattle.cache_model.specs.Limits.{ReachesLimit}
use Rattle.piece_answers.specs.Place.{AreOfPlace, IsVectorFor, IsVectorOf, PlacesAt, PlacesIn, PlacesVector}
use Rattle.piece_answers.proofs.Displacing.{displaced_list}
use Rattle.stripe_vectors.specs.declared.spelling.Spelled.{Spelled}
use Rattle.stripe_vectors.specs.Spelled.{IsSpelled, listed_with}
use Rattle.stripe_write.specs.declared.weighing.Vectors.{Vectors}
use Rattle.stripe_write.specs.declared.writer.Writer.{Writer}
use Rattle.stripe_write.specs.Closing.{AreSpelled, IsReadFor}
use Rattle.stripe_write.specs.Finishing.{AreLive, FinishesAsRead, FinishesWhere, IsCurrent, VectorStops, bytes_now, picked, vector_now}
use Rattle.cache_answers.specs.declared.answers.Receipt.{Receipt}
use Rattle.stripe_write.proofs.Pushed.{pushed_by}
use Rattle.stripe_write.proofs.Spending.{last_done, nothing_more, one_group, state_behind, then_all, then_more}
use Rattle.stripe_write.proofs.Ended.{open_put, own_number}
use Rattle.stripe_write.proofs.Reaching.{place_reaches}
use Rattle.cache_calls.specs.Actors.{IsWriterOf, IsAtHand}
use Rattle.cache_calls.specs.Asked.{rest_rows, rows_at_close}
use Rattle.cache_calls.specs.Writers.{alternate_at_close, size_at_close}
use Rattle.stripe_write.specs.Writers.{written_as}

-- ---- no vector is live

none_listed : (s : State) (row : Row) (b : Bool) → is_live s row ≡ b → (if b then Some row else None) ≡ None → (if b then unwrap_or row.alternates [] else []) ≡ []
none_listed s row true e h = cc
none_listed s row false e h = refl

none_in_row : (s : State) (o : Option Row) → option_and_then (only_live s) o ≡ None → unwrap_or (option_map (list_of_row s) o) [] ≡ []
none_in_row s None h = refl
none_in_row s (Some row) h = none_listed s row (is_live s row) refl h

none_last : (s : State) (key : Key) (last : Option LastVector) → option_and_then (live_row_of s) (option_and_then (vector_of_last key) last) ≡ None
    → unwrap_or (option_map (list_of_last s s.rows key) last) [] ≡ []
none_last s key None h = refl
none_last s key (Some (TakenOut put)) h = refl
none_last s key (Some (Complete put)) h = none_in_row s (row_in s.rows (vector_piece key put)) h

-- a key whose vector is not live has no alternates
pub no_alternates : (s : State) (key : Key) → live_vector_of s key ≡ None → alternates_of s key ≡ []
no_alternates s key h = none_last s key (last_vector s key) h

-- ---- the vector that is placed

small_merged : (g : Geometry) (w : Writer) (v : Vectors) (o : Option Spelled) → v.merged ≡ o → AreSpelled g w v → blocks_of (length (unwrap_or o v.alone).bytes.items) ≤ budget_of g
small_merged g w v None e h = h.alone.small
small_merged g w v (Some m) e h = h.merged m e

pub small_picked : (g : Geometry) (w : Writer) (v : Vectors) (b : Bool) → AreSpelled g w v → blocks_of (length (picked v b).bytes.items) ≤ budget_of g
small_picked g w v true h = small_merged g w v v.merged refl h
small_picked g w v false h = h.alone.small

picked_by : (s : State) (w : Writer) (v : Vectors) (o : Option Row) → live_vector_of s w.key ≡ o → AreSpelled s.geometry w v → IsReadFor s w v
    → IsSpelled s.geometry (alternates_of s w.key) (alternate_at_close (written_as w)) (picked v (is_some o))
picked_by s w v None e h read = subst (λ list. IsSpelled s.geometry list (alternate_at_close (written_as w)) v.alone) (sym (no_alternates s w.key e)) h.alone
picked_by s w v (Some row) e h read =
    let m = read row e in
    subst (λ o. IsSpelled s.geometry (alternates_of s w.key) (alternate_at_close (written_as w)) (unwrap_or o v.alone)) (sym m.1) m.2

-- ---- the put, when all is cut

-- its row says what is at hand
pub record IsClosing (s : State) (w : Writer) : Type 0 where
  pub row : PutRow
  pub writing : IsWriting s w.put row
  pub key_is : row.key ≡ w.key
  pub cuts_are : row.cuts ≡ w.table.rows
  pub alternate_is : alternate_of row ≡ alternate_at_close (written_as w)

no_rest : (w : Writer) → w.gathered.items ≡ [] → rows_at_close (written_as w) ≡ w.table.rows
no_rest w h = ap (λ bytes. w.table.rows ++ rest_rows bytes) h ∙ append-nil w.table.rows

pub is_closing : (s : State) (w : Writer) → IsQuiet s → is_writing s w.put ≡ true → IsWriterOf s (written_as w) → w.gathered.items ≡ []
    → IsClosing s w
is_closing s w quiet writing own none =
    let o = open_put (put_of s w.put) writing in
    let here : IsAtHand s.geometry o.0 (written_as w) = own o.0 o.1 o.2 in
    let cuts : o.0.cuts ≡ rows_at_close (written_as w) = here.cuts_are ∙ sym (no_rest w none) in
    let number : o.0.put ≡ w.put = own_number w.put s.puts o.0 o.1 in
    let made : ℕ → ℕ → List Rattle.alternate_vector.specs.Field.Field → List Rattle.alternate_vector.specs.Field.Field → List TableRow → Stored =
    λ n pin q r rows. record { put = n; pin = pin; length = total_length rows; request = q; response = r; table = rows } in
    record {
      row = o.0;
      writing = record { quiet = quiet; found = o.1; is_open = o.2 };
      key_is = here.key_is;
      cuts_are = here.cuts_are;
      alternate_is =
          ap (λ n. made n o.0.pin o.0.request o.0.response o.0.cuts) number
          ∙ (ap (λ n. made w.put n o.0.request o.0.response o.0.cuts) here.pin_is
          ∙ (ap (λ q. made w.put w.pin q o.0.response o.0.cuts) here.request_is
          ∙ (ap (λ r. made w.put w.pin w.request r o.0.cuts) here.response_is ∙ ap (made w.put w.pin w.request w.response) cuts)));
    }

-- what its vector is to list
listed_now : (s : State) (w : Writer) (c : IsClosing s w) → s.displaced ≡ [] → list_of_put s w.put ≡ listed_with s.geometry (alternates_of s w.key) (alternate_at_close (written_as w))
listed_now s w c none =
    ap (λ (o : Option PutRow). unwrap_or (option_map (merged_list s) o) []) c.writing.found
    ∙ (ap (λ (d : List Row). listed_with s.geometry (list_among s (d ++ s.rows) c.row.key) (alternate_of c.row)) none
    ∙ (ap (λ k. listed_with s.geometry (list_among s s.rows k) (alternate_of c.row)) c.key_is ∙ ap (listed_with s.geometry (alternates_of s w.key)) c.alternate_is))

pub is_current : (s : State) (w : Writer) (v : Vectors) (c : IsClosing s w) → s.displaced ≡ [] → AreSpelled s.geometry w v → IsReadFor s w v → IsCurrent s w (vector_now s w v)
is_current s w v c none spelled read =
    let here : IsSpelled s.geometry (alternates_of s w.key) (alternate_at_close (written_as w)) (vector_now s w v) = picked_by s w v (live_vector_of s w.key) refl spelled read in
    let list = listed_now s w c none in
    record {
      payload = here.bytes ∙ ap vector_bytes (sym list);
      size = here.size ∙ ap vector_size (sym list);
      pin = here.pin ∙ ap greatest_pin (sym list);
      lists = here.lists ∙ sym list;
    }

-- that can be spelled
pub lists_spelled : (s : State) (w : Writer) (v : Vectors) (c : IsClosing s w) → s.displaced ≡ [] → AreSpelled s.geometry w v
    → IsReadFor s w v → IsSpelling (vector_bytes (list_of_put s w.put)) (list_of_put s w.put)
lists_spelled s w v c none spelled read =
    let here : IsSpelled s.geometry (alternates_of s w.key) (alternate_at_close (written_as w)) (vector_now s w v) =
    picked_by s w v (live_vector_of s w.key) refl spelled read in
    subst (λ list. IsSpelling (vector_bytes list) list) (sym (listed_now s w c none)) here.again

-- whatever flag tells that the key's vector is live
pub picked_lists : (s : State) (w : Writer) (v : Vectors) (c : IsClosing s w) (live : Bool) (list : List Stored) → live ≡ is_some (live_vector_of s w.key) → list ≡ (picked v live).list
    → AreSpelled s.geometry w v → s.displaced ≡ [] → IsReadFor s w v → list ≡ list_of_put s w.put
picked_lists s w v c live list is lists spelled none read = lists ∙ (ap (λ b. (picked v b).list) is ∙ (is_current s w v c none spelled read).lists)

-- ---- its vector

vector_id : (s : State) (w : Writer) (c : IsClosing s w) → vector_piece w.key w.put ≡ vector_piece c.row.key w.put
vector_id s w c = ap (λ k. vector_piece k w.put) (sym c.key_is)

pub vector_for : (s : State) (w : Writer) (v : Vectors) (payload : List ℕ) (c : IsClosing s w) → AreSpelled s.geometry w v → has_room s (bytes_now s w v) ≡ true
    → payload ≡ (vector_now s w v).bytes.items → IsVectorFor s (vector_piece w.key w.put) 0 payload
vector_for s w v payload c spelled room is =
    record {
      w = c.row;
      writing = c.writing;
      id_is = vector_id s w c;
      start_is = refl;
      small = subst (λ b. blocks_of (length b) ≤ budget_of s.geometry) (sym is) (small_picked s.geometry w v (is_some (live_vector_of s w.key)) spelled);
      room = subst (λ b. has_room s (length b) ≡ true) (sym is) room;
    }

some_is : (o : Option Row) → IsSome o → (row : Row) × (o ≡ Some row)
some_is (Some row) h = (row, refl)
some_is None h = cc

pub live_to : (s : State) (w : Writer) (c : IsClosing s w) (last : ℕ) → AreLive s w last → AreLiveTo s c.row last
live_to s w c last whole = λ index some within.
    let number : c.row.put ≡ w.put = own_number w.put s.puts c.row c.writing.found in
    let id : fragment_piece w.key w.put index ≡ fragment_piece c.row.key c.row.put index = ap (λ k. fragment_piece k w.put index) (sym c.key_is) ∙ ap (λ n. fragment_piece c.row.key n index) (sym number) in
    subst (λ i. (row : Row) × (live_row_of s i ≡ Some row)) id (some_is (live_row_of s (fragment_piece w.key w.put index)) (whole index some within))

pub fits_alone : (s : State) (w : Writer) (c : IsClosing s w) → blocks_of (size_at_close (written_as w)) ≤ budget_of s.geometry → FitsAlone s c.row 0
fits_alone s w c fits = subst (λ (a : Stored). blocks_of (vector_size (a ∷ [])) ≤ budget_of s.geometry) (sym c.alternate_is) fits

pub is_cut : (s : State) (w : Writer) (c : IsClosing s w) → blocks_of (size_at_close (written_as w)) ≤ budget_of s.geometry → IsCut s w.put (length w.table.rows) c.row
is_cut s w c fits = record { writing = c.writing; count = ap length c.cuts_are; alone = fits_alone s w c fits }

pub vector_of_put : (s : State) (w : Writer) (v : Vectors) (pin : ℕ) (payload : List ℕ) (c : IsClosing s w) → AreSpelled s.geometry w v → has_room s (bytes_now s w v) ≡ true
    → payload ≡ (vector_now s w v).bytes.items → pin ≡ (vector_now s w v).pin → AreLive s w (length w.table.rows) → s.displaced ≡ [] → IsReadFor s w v
    → IsVectorOf s (vector_piece w.key w.put) pin 0 payload
vector_of_put s w v pin payload c spelled room is pin_is whole none read =
    let now = is_current s w v c none spelled read in
    record {
      w = c.row;
      cut = record { writing = c.writing; count = refl; alone = fits_alone s w c spelled.fits };
      whole = live_to s w c (length c.row.cuts) (subst (AreLive s w) (sym (ap length c.cuts_are)) whole);
      id_is = vector_id s w c;
      pin_is = pin_is ∙ now.pin;
      start_is = refl;
      payload_is = is ∙ now.payload;
      length_is = ap length is ∙ now.size;
      room = subst (λ b. has_room s (length b) ≡ true) (sym is) room;
    }

-- ---- a put that was committed is not open

closed : (o : Option PutRow) (row : PutRow) → option_map (with_writing Closed) o ≡ Some row → row.writing ≡ Open → ⊥
closed None row h o = cc
closed (Some first) row h o = let same : with_writing Closed first ≡ row = cc in let clash : Closed ≡ Open = ap (λ (p : PutRow). p.writing) same ∙ o in cc

pub closed_writer : (s : State) (w : Writer) (key : Key) (bytes : ℕ) (list : List Stored) → IsWriterOf (state_after s (rec.Committed w.put key bytes list)) (written_as w)
closed_writer s w key bytes list = λ row found o.
    absurd (closed (put_of s w.put) row
    (sym (find-changed (λ (p : PutRow). p.put) (with_writing Closed) (λ p. refl) w.put w.put s.puts ∙ ap (λ b. cond b (option_map (with_writing Closed) (put_of s w.put)) (put_of s w.put)) (eq-eqb w.put w.put refl)) ∙ found) o)

-- ---- a vector that was placed lists what its put was to have

placed_lists : (s : State) (key : Key) (put place blocks pin : ℕ) (digest : Digest)
    → list_of_piece (state_after s (rec.Placed (vector_piece key put) place blocks digest pin)) (vector_piece key put) ≡ list_of_put s put
placed_lists s key put place blocks pin digest =
    let id : PieceId = vector_piece key put in
    let row : Row = placed_row s id place blocks digest pin in
    ap (λ (o : Option Row). unwrap_or (option_and_then (λ (r : Row). r.alternates) o) [])
    (row_in-placed id s.rows row ∙ ap (λ b. if b then Some row else row_in s.rows id) (same_piece-same id))

-- it stands behind what its entry displaces
pub vector_state : {packed : Bool} (s : State) (key : Key) (put pin : ℕ) (payload : List ℕ) (added : List Rec) → (a : AreOfPlace packed s (vector_piece key put) pin 0 payload added)
    → after_all s added ≡ state_after (after_all s a.displaced) (placed_record s (vector_piece key put) pin 0 (length payload) payload)
vector_state s key put pin payload added a = ap (after_all s) a.is ∙ after_all-append s a.displaced (placed_record s (vector_piece key put) pin 0 (length payload) payload ∷ [])

vector_lists : {packed : Bool} (s : State) (key : Key) (put pin : ℕ) (payload : List ℕ) (added : List Rec) → AreOfPlace packed s (vector_piece key put) pin 0 payload added
    → list_of_piece (after_all s added) (vector_piece key put) ≡ list_of_put s put
vector_lists s key put pin payload added a =
    ap (λ t. list_of_piece t (vector_piece key put)) (vector_state s key put pin payload added a)
    ∙ (placed_lists (after_all s a.displaced) key put _ _ _ _
    ∙ displaced_list s a.displaced put (pushed_by s (vector_piece key put) pin 0 payload added a))

-- a vector that has no place adds nothing
nothing_placed : {packed : Bool} (old new : Kept) (piece : PieceId) (pin : ℕ) (payload : List ℕ) (why : Stop) → PlacesIn packed old new piece pin 0 payload (Err why) → new ≡ old
nothing_placed old new piece pin payload why h = h.adds ∙ (ap (with_records old) h.are ∙ nothing_more old)

-- ---- what it makes of the records

pub cuts_at_hand : (s : State) (w : Writer) (c : IsClosing s w) → cuts_of s w.put ≡ w.table.rows
cuts_at_hand s w c = cuts_found s w.put c.row c.writing.found ∙ c.cuts_are

fragments : (s : State) (w : Writer) (c : IsClosing s w) → length (cuts_of s w.put) ≡ length w.table.rows
fragments s w c = ap length (cuts_at_hand s w c)

module _ (packed : Bool) (now : ℕ) (old new : Kept) (before after : List Call) (w : Writer) (v : Vectors) (pin : ℕ) (payload : List ℕ)
    (c : IsClosing (state_of old) w) (of : (state_of old).displaced ≡ [] → IsReadFor (state_of old) w v → IsVectorOf (state_of old) (vector_piece w.key w.put) pin 0 payload) where
  abbrev s : State
  s = state_of old

  abbrev id : PieceId
  id = vector_piece w.key w.put

  vector_at : (number : ℕ) → IsVectorOf s id pin 0 payload → PlacesAt s payload (Err (stop.Exhausted number)) → VectorStops s w (refusal.Exhausted number)
  vector_at number v at = (cuts_at_hand s w c, subst (λ n. ReachesLimit s n number) v.length_is (place_reaches s payload number v.room at))

  -- the vector that has no place
  no_place : (number : ℕ) → PlacesVector packed old new before after id pin 0 payload (Err (stop.Exhausted number)) → FinishesAsRead packed now before after old new w v (Err (refusal.Exhausted number))
  no_place number h = record {
    does = λ p packs at covers none read.
        let d : Does p s (Finish w.put (length w.table.rows)) h.places.added (Fails Exhausted) =
        subst (λ n. Does p s (Finish w.put n) h.places.added (Fails Exhausted)) (fragments s w c) (h.does (of none read) p packs covers) in
        record {
          added = h.places.added;
          adds = h.places.adds;
          does = λ rest why. one_group p s (Finish w.put (length w.table.rows)) h.places.added (Fails Exhausted) d (Commit w.put ∷ rest) why;
          number = subst (λ k. VectorStops (state_of k) w (refusal.Exhausted number)) (sym (nothing_placed old new id pin payload (stop.Exhausted number) h.places)) (vector_at number (of none read) h.places.at);
        };
  }

  pub refused_finishes : (why : Refusal) → AnswersOrWants {X = Placed} (Err why) (PlacesVector packed old new before after id pin 0 payload) (new ≡ old)
      → HasMemory {X = Placed} (Err why) → FinishesAsRead packed now before after old new w v (Err why)
  refused_finishes (refusal.Exhausted number) h memory = no_place number h
  refused_finishes (refusal.DeviceFault number) h memory = absurd h.places.at
  refused_finishes (refusal.Memory e) h memory = absurd memory
  refused_finishes _ h memory = absurd h

  pub completes : (mid : Kept) (between : List Call) (placed : Placed) (receipt : Receipt) (list : List Stored) → (s.displaced ≡ [] → IsReadFor s w v → list ≡ list_of_put s w.put)
      → after ≡ between → PlacesVector packed old mid before between id pin 0 payload (Ok placed)
      → new ≡ with_records mid (committed_record (state_of mid) w.put w.key list ∷ []) → CommitsAsAsked (state_of mid) w.put w.key list → FinishesAsRead packed now before after old new w v (Ok receipt)
  completes mid between placed receipt list lists same h last commits = record {
    does = λ p packs at covers none read.
        let a : List Rec = h.places.added in
        let b : Rec = committed_record (state_of mid) w.put w.key list in
        let there : state_of mid ≡ after_all s a = state_behind old mid a h.places.adds in
        let early : Covers p before between = subst (Covers p before) same covers in
        let stands : list ≡ list_of_piece (state_of mid) id = lists none read ∙ (sym (vector_lists s w.key w.put pin payload a h.places.are) ∙ ap (λ t. list_of_piece t id) (sym there)) in
        let d : Does p s (Finish w.put (length w.table.rows)) a Done = subst (λ n. Does p s (Finish w.put n) a Done) (fragments s w c) (h.does (of none read) p packs early) in
        record {
          added = a ++ b ∷ [];
          adds = then_more old mid new a (b ∷ []) h.places.adds last;
          does = then_all p s (Finish w.put (length w.table.rows)) (Commit w.put ∷ []) a (b ∷ []) Done (one_group p s (Finish w.put (length w.table.rows)) a Done d)
              (last_done p (after_all s a) (Commit w.put) (b ∷ []) (one_group p (after_all s a) (Commit w.put) (b ∷ []) Done (subst (λ t. Does p t (Commit w.put) (b ∷ []) Done) there (commits stands p))));
          number = tt;
        };
  }

-- ---- a vector that was not placed

-- which answers come then
pub vector_where : (packed : Bool) (old new : Kept) (before after : List Call) (t : State) (w : Writer) (piece : PieceId) (pin : ℕ)
    (payload : List ℕ) (why : Refusal)
    → AnswersOrWants {X = Placed} (Err why) (PlacesVector packed old new before after piece pin 0 payload) (new ≡ old)
    → HasMemory {X = Placed} (Err why) → FinishesWhere t w (Err why)
vector_where packed old new before after t w piece pin payload (refusal.Exhausted number) h memory = h.places.at.1
vector_where packed old new before after t w piece pin payload (refusal.DeviceFault count) h memory = tt
vector_where packed old new before after t w piece pin payload (refusal.Memory e) h memory = absurd memory
vector_where packed old new before after t w piece pin payload _ h memory = absurd h

-- nothing was recorded
pub not_placed : (packed : Bool) (old new : Kept) (before after : List Call) (piece : PieceId) (pin : ℕ) (payload : List ℕ) (why : Refusal) → AnswersOrWants {X = Placed} (Err why) (PlacesVector packed old new before after piece pin 0 payload) (new ≡ old) → new ≡ old
not_placed packed old new before after piece pin payload (refusal.Exhausted number) h = nothing_placed old new piece pin payload (stop.Exhausted number) h.places
not_placed packed old new before after piece pin payload (refusal.DeviceFault count) h = nothing_placed old new piece pin payload (stop.DeviceFault count) h.places
not_placed packed old new before after piece pin payload (refusal.Memory e) h = h
not_placed packed old new before after piece pin payload _ h = absurd h

pub refused_writer : (packed : Bool) (old new : Kept) (before after : List Call) (w : Writer) (pin : ℕ) (payload : List ℕ) (why : Refusal)
    → AnswersOrWants {X = Placed} (Err why) (PlacesVector packed old new before after (vector_piece w.key w.put) pin 0 payload) (new ≡ old) → IsWriterOf (state_of old) (written_as w) → IsWriterOf (state_of new) (written_as w)
refused_writer packed old new before after w pin payload why h own = subst (λ k. IsWriterOf (state_of k) (written_as w)) (sym (not_placed packed old new before after (vector_piece w.key w.put) pin payload why h)) own
