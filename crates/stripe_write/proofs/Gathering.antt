-- Bytes that are taken.
use Rattle.std.proofs.Common.{◌≡◌, ℕ, ◌+◌, ◌<◌, ◌≤◌, inl, inr, ◌⊎◌, ◌*◌, List, [], ◌∷◌, refl, sym, ◌∙◌, ap, subst, arith, Bool, true, false, length, take, Result, Ok, Err}
use Rattle.std.specs.Prelude.{◌==◌, if◌then◌else◌, min, find, MatchBool}
use Rattle.std.specs.List.{AllByRecursion}
use Rattle.std.specs.declared.alloc.AllocError.{AllocError}
use Rattle.std.proofs.lemmas.Bool.{eq-eqb, eqb-true}
use Rattle.std.proofs.lemmas.List.{append-nil, length-append, length-take, take-append-le, take_all}
use Rattle.tape_base.specs.declared.geometries.Geometry.{Geometry}
use Rattle.tape_base.specs.declared.pieces.PieceId.{PieceId}
use Rattle.fragment_table.specs.Table.{TableRow, total_length}
use Rattle.cache_model.specs.declared.record.Rec.{Rec}
use Rattle.cache_model.specs.declared.record.Rec.TheVariants as rec
use Rattle.cache_model.specs.State.{PutRow, State, fragment_piece, put_of, most_fragments}
use Rattle.cache_model.specs.Kept.{Kept, state_of, with_records}
use Rattle.device_log.specs.Calls.{Call}
use Rattle.logged_disk.specs.Device.{DeviceState as Device}
use Rattle.cache_model.specs.Legal.{is_writing}
use Rattle.piece_answers.specs.declared.answer.Placed.{Placed}
use Rattle.cache_answers.specs.declared.answers.Refusal.{Refusal}
use Rattle.cache_answers.specs.declared.answers.Refusal.TheVariants as refusal
use Rattle.piece_answers.specs.declared.answer.Stop.{Stop}
use Rattle.piece_answers.specs.declared.answer.Stop.TheVariants as stop
use Rattle.piece_answers.specs.Flush.{AreOfFlush}
use Rattle.piece_answers.specs.Place.{CutsAsAsked, RoomsAsAsked}
use Rattle.stripe_core.specs.Stripe.{AnswersOrWants}
use Rattle.stripe_write.specs.declared.writer.Writer.{Writer}
use Rattle.stripe_write.specs.Writes.{CutsNextAsAsked, IsOverflow, IsReady, OverflowsAsAsked, SameWriter, WritesAs, WritesAsAsked, WritesWhere, left_gathered, next_start, overflow_adds}
use Rattle.cache_model.specs.Subjects.{IsOfPut}
use Rattle.stripe_write.proofs.Ended.{open_put}
use Rattle.stripe_write.proofs.Flushed.{LeavesActors, flush_is_own, flush_leaves, leaves_all}
use Rattle.stripe_write.proofs.Spending.{nothing_more, state_behind}
use Rattle.stripe_write.proofs.Cutting.{cut_is_own, next_no_vector}
use Rattle.cache_calls.specs.Actors.{IsWriterOf, IsAllCut, IsAtHand}
use Rattle.cache_calls.specs.Asked.{taken_of, gathered_with, fills_fragment, next_payload}
use Rattle.cache_calls.specs.Writers.{IsCutting, piece_cut_next}
use Rattle.stripe_write.specs.Writers.{written_as}

-- ---- a writer that is as it was, or has gathered more

pub same_as : (w : Writer) → SameWriter w w
same_as w = record { put = refl; key = refl; request = refl; response = refl; pin = refl; gathered = refl; rows = refl; sealed = refl }

all_cut_still : (w new : Writer) (P : Type 0) → SameWriter w new → IsAllCut (written_as w) ⊎ P → IsAllCut (written_as new) ⊎ P
all_cut_still w new P same (inl all) = inl (record { sealed = same.sealed ∙ all.sealed; empty = same.gathered ∙ all.empty })
all_cut_still w new P same (inr whole) = inr whole

whole_of : (w : Writer) (P : Type 0) → w.sealed ≡ false → IsAllCut (written_as w) ⊎ P → P
whole_of w P unsealed (inl all) = let clash : true ≡ false = sym all.sealed ∙ unsealed in cc
whole_of w P unsealed (inr whole) = whole

pub same_writer : (s : State) (w new : Writer) → SameWriter w new → IsWriterOf s (written_as w) → IsWriterOf s (written_as new)
same_writer s w new same own = λ row found o.
    let here : IsAtHand s.geometry row (written_as w) = own row (ap (put_of s) (sym same.put) ∙ found) o in
    record {
      key_is = here.key_is ∙ sym same.key;
      request_is = here.request_is ∙ sym same.request;
      response_is = here.response_is ∙ sym same.response;
      pin_is = here.pin_is ∙ sym same.pin;
      cuts_are = here.cuts_are ∙ sym same.rows;
      whole = all_cut_still w new (total_length row.cuts ≡ length row.cuts * s.geometry.fragment) same here.whole;
      few = rw same.gathered here.few;
      more = rw same.gathered here.more;
    }

-- the same but for the bytes that are gathered
pub record SameButGathered (old new : Writer) : Type 0 where
  pub put : new.put ≡ old.put
  pub key : new.key ≡ old.key
  pub request : new.request ≡ old.request
  pub response : new.response ≡ old.response
  pub pin : new.pin ≡ old.pin
  pub rows : new.table.rows ≡ old.table.rows
  pub sealed : new.sealed ≡ old.sealed

pub more_writer : (s : State) (w new : Writer) → SameButGathered w new → w.sealed ≡ false → length w.table.rows < most_fragments → length new.gathered.items < s.geometry.fragment → IsWriterOf s (written_as w) → IsWriterOf s (written_as new)
more_writer s w new same unsealed one few own = λ row found o.
    let here : IsAtHand s.geometry row (written_as w) = own row (ap (put_of s) (sym same.put) ∙ found) o in
    record {
      key_is = here.key_is ∙ sym same.key;
      request_is = here.request_is ∙ sym same.request;
      response_is = here.response_is ∙ sym same.response;
      pin_is = here.pin_is ∙ sym same.pin;
      cuts_are = here.cuts_are ∙ sym same.rows;
      whole = inr (whole_of w (total_length row.cuts ≡ length row.cuts * s.geometry.fragment) unsealed here.whole);
      few = few;
      more = λ some. rw here.cuts_are one;
    }

pub few_gathered : (s : State) (w : Writer) → is_writing s w.put ≡ true → IsWriterOf s (written_as w)
    → length w.gathered.items < s.geometry.fragment
few_gathered s w writing own = let o = open_put (put_of s w.put) writing in (own o.0 o.1 o.2).few

pub is_ready : (s : State) (w new : Writer) → is_writing s w.put ≡ true → w.sealed ≡ false → IsWriterOf s (written_as w) → SameButGathered w new → length w.table.rows < most_fragments → length new.gathered.items ≡ s.geometry.fragment → 0 < new.table.room
    → IsReady s new
is_ready s w new writing unsealed own same few size room =
    let o = open_put (put_of s w.put) writing in
    let here : IsAtHand s.geometry o.0 (written_as w) = own o.0 o.1 o.2 in
    record {
      row = o.0;
      found = ap (put_of s) same.put ∙ o.1;
      is_open = o.2;
      key_is = here.key_is ∙ sym same.key;
      request_is = here.request_is ∙ sym same.request;
      response_is = here.response_is ∙ sym same.response;
      pin_is = here.pin_is ∙ sym same.pin;
      cuts_are = here.cuts_are ∙ sym same.rows;
      whole = whole_of w (total_length o.0.cuts ≡ length o.0.cuts * s.geometry.fragment) unsealed here.whole;
      few = rw same.rows few;
      some = omega (arith, size, s.geometry.accepted.fragment_fits.0);
      small = omega (arith, size);
      last = inr size;
      room = room;
    }

-- ---- how many are taken

pub taken_length : (xs : List ℕ) (n : ℕ) → n ≤ length xs → length (take n xs) ≡ n
taken_length xs n h = let cut : length (take n xs) ≡ min n (length xs) = length-take n xs in omega (arith, cut)

pub gathered_length : (w : Writer) (bytes : List ℕ) (n : ℕ) → n ≤ length bytes → length (gathered_with (written_as w) bytes n) ≡ length w.gathered.items + n
gathered_length w bytes n h =
    let both : length (gathered_with (written_as w) bytes n) ≡ length w.gathered.items + length (take n bytes) = length-append w.gathered.items (take n bytes) in
    both ∙ ap (λ k. length w.gathered.items + k) (taken_length bytes n h)

pub cut_now : (g : Geometry) (w : Writer) (n : ℕ) → length w.gathered.items + n ≡ g.fragment → fills_fragment g (written_as w) n ≡ true
cut_now g w n h = eq-eqb (length w.gathered.items + n) g.fragment h

pub not_cut : (g : Geometry) (w : Writer) (n : ℕ) → length w.gathered.items + n < g.fragment → fills_fragment g (written_as w) n ≡ false
not_cut g w n h = by (length w.gathered.items + n == g.fragment) refl
  where
    by : (b : Bool) → (length w.gathered.items + n == g.fragment) ≡ b → b ≡ false
    by false e = refl
    by true e = let same : length w.gathered.items + n ≡ g.fragment = eqb-true (length w.gathered.items + n) g.fragment e in absurd (omega (arith, same, h))

-- ---- the fragment of the writer that has gathered is the one that is asked for

same_cuts : {packed : Bool} (now : ℕ) (old new : Kept) (before : List Call) (after : Device) (w w' : Writer) (r : Result Placed Stop) → SameButGathered w w'
    → CutsAsAsked packed now old new before after (piece_cut_next (written_as w')) w'.pin (next_start w') w'.gathered.items r → CutsAsAsked packed now old new before after (piece_cut_next (written_as w)) w.pin (next_start w) w'.gathered.items r
same_cuts {packed} now old new before after w w' r same h =
    let id : piece_cut_next (written_as w') ≡ piece_cut_next (written_as w) =
    ap (λ k. fragment_piece k w'.put (length w'.table.rows + 1)) same.key ∙ (ap (λ n. fragment_piece w.key n (length w'.table.rows + 1)) same.put ∙ ap (λ (rows : List TableRow). fragment_piece w.key w.put (length rows + 1)) same.rows) in
    subst (λ (rows : List TableRow). CutsAsAsked packed now old new before after (piece_cut_next (written_as w)) w.pin (total_length rows) w'.gathered.items r) same.rows
    (subst (λ n. CutsAsAsked packed now old new before after (piece_cut_next (written_as w)) n (next_start w') w'.gathered.items r) same.pin
    (subst (λ i. CutsAsAsked packed now old new before after i w'.pin (next_start w') w'.gathered.items r) id h))

-- what was asked of the writer that has gathered was asked of the one that took the bytes
asked_does : {packed : Bool} (now : ℕ) (kept kept1 new : Kept) (before before1 : List Call) (after : Device) (w w' : Writer) (bytes : List ℕ) (n : ℕ) (r : Result Placed Stop) → kept1 ≡ kept → before1 ≡ before → SameButGathered w w' → w'.gathered.items ≡ gathered_with (written_as w) bytes n
    → CutsAsAsked packed now kept1 new before1 after (piece_cut_next (written_as w')) w'.pin (next_start w') w'.gathered.items r → CutsAsAsked packed now kept new before after (piece_cut_next (written_as w)) w.pin (next_start w) (gathered_with (written_as w) bytes n) r
asked_does {packed} now kept kept1 new before before1 after w w' bytes n r e f same g h =
    subst (λ q. CutsAsAsked packed now kept new before after (piece_cut_next (written_as w)) w.pin (next_start w) q r) g
    (subst (λ m. CutsAsAsked packed now kept new m after (piece_cut_next (written_as w)) w.pin (next_start w) w'.gathered.items r) f
    (subst (λ k. CutsAsAsked packed now k new before1 after (piece_cut_next (written_as w)) w.pin (next_start w) w'.gathered.items r) e
    (same_cuts now kept1 new before1 after w w' r same h)))

-- ---- what a write adds

-- nothing
pub writes_none : {packed : Bool} (now : ℕ) (old new : Kept) (before : List Call) (after : Device) (w : Writer) (bytes : List ℕ) (result : Result ℕ Refusal) → new ≡ old → WritesAs packed now (state_of old) before after w bytes result []
    → WritesAsAsked packed now old new before after w bytes result
writes_none now old new before after w bytes result same does = record { added = []; adds = same ∙ sym (nothing_more old); own = tt; unharmed = λ told. tt; does = does }

-- memory is wanting
pub writes_wanting : {packed : Bool} (now : ℕ) (old new : Kept) (before : List Call) (after : Device) (w : Writer) (bytes : List ℕ) (e : AllocError) (result : Result ℕ Refusal) → result ≡ Err (refusal.Memory e) → new ≡ old
    → WritesAsAsked packed now old new before after w bytes result
writes_wanting {packed} now old new before after w bytes e result is same =
    subst (WritesAsAsked packed now old new before after w bytes) (sym is) (writes_none now old new before after w bytes (Err (refusal.Memory e)) same refl)

-- bytes that fill no fragment
pub writes_few : {packed : Bool} (now : ℕ) (old new : Kept) (before : List Call) (after : Device) (w : Writer) (bytes : List ℕ) (n : ℕ) → new ≡ old → fills_fragment (state_of old).geometry (written_as w) n ≡ false → WritesAsAsked packed now old new before after w bytes (Ok n)
writes_few {packed} now old new before after w bytes n same few =
    let none : List Rec = [] in
    let nothing : none ≡ none = refl in
    writes_none now old new before after w bytes (Ok n) same
    (subst (λ b. MatchBool b ((placed : Placed) × CutsNextAsAsked packed now (state_of old) before after w (gathered_with (written_as w) bytes n) none (Ok placed)) (none ≡ none)) (sym few) nothing)

-- the put is given up that would have too many fragments
pub writes_over : {packed : Bool} (now : ℕ) (old new : Kept) (before : List Call) (after : Device) (w : Writer) (bytes : List ℕ) (result : Result ℕ Refusal) → IsOverflow result → new ≡ with_records old (overflow_adds w result) → OverflowsAsAsked (state_of old) w
    → WritesAsAsked packed now old new before after w bytes result
writes_over now old new before after w bytes (Err refusal.TooManyFragments) over adds does = record { added = rec.Aborted w.put w.key ∷ []; adds = adds; own = (refl, tt); unharmed = λ told. (refl, tt); does = (refl, does) }
writes_over now old new before after w bytes (Err (refusal.Memory e)) over adds does = writes_none now old new before after w bytes (Err (refusal.Memory e)) (adds ∙ nothing_more old) refl
writes_over now old new before after w bytes (Ok n) over adds does = absurd over
writes_over now old new before after w bytes (Err (refusal.DeviceFault count)) over adds does = absurd over
writes_over now old new before after w bytes (Err (refusal.Exhausted number)) over adds does = absurd over
writes_over now old new before after w bytes (Err refusal.TooManyWriters) over adds does = absurd over
writes_over now old new before after w bytes (Err (refusal.VectorTooLarge size)) over adds does = absurd over
writes_over now old new before after w bytes (Err (refusal.Lost index cause)) over adds does = absurd over
writes_over now old new before after w bytes (Err refusal.Sealed) over adds does = absurd over
writes_over now old new before after w bytes (Err refusal.NoSuchWriter) over adds does = absurd over

-- a fragment that was cut
pub writes_cut : {packed : Bool} (now : ℕ) (old old1 new : Kept) (before before1 : List Call) (after : Device) (w w' : Writer) (bytes : List ℕ) (n : ℕ) (placed : Placed) → old1 ≡ old → before1 ≡ before → SameButGathered w w'
    → w'.gathered.items ≡ gathered_with (written_as w) bytes n → fills_fragment (state_of old).geometry (written_as w) n ≡ true → CutsAsAsked packed now old1 new before1 after (piece_cut_next (written_as w')) w'.pin (next_start w') w'.gathered.items (Ok placed)
    → WritesAsAsked packed now old new before after w bytes (Ok n)
writes_cut {packed} now old old1 new before before1 after w w' bytes n placed e f same g cut h =
    let s : State = state_of old in
    let payload : List ℕ = gathered_with (written_as w) bytes n in
    let mine : CutsAsAsked packed now old new before after (piece_cut_next (written_as w)) w.pin (next_start w) payload (Ok placed) = asked_does now old old1 new before before1 after w w' bytes n (Ok placed) e f same g h in
    let next : CutsNextAsAsked packed now s before after w payload mine.added (Ok placed) =
    record { shape = mine.shape; does = mine.does } in
    record {
      added = mine.added;
      adds = mine.adds;
      own = cut_is_own s (piece_cut_next (written_as w)) w.pin (next_start w) payload mine.added placed (next_no_vector w) mine.shape;
      unharmed = mine.unharmed;
      does = subst (λ b. MatchBool b ((x : Placed) × CutsNextAsAsked packed now s before after w payload mine.added (Ok x)) (mine.added ≡ [])) (sym cut) (placed, next);
    }

-- a fragment that could not be cut
stopped_own : {packed : Bool} (now : ℕ) (old new : Kept) (before : List Call) (after : Device) (w : Writer) (payload : List ℕ) (why : Stop) → (h : CutsAsAsked packed now old new before after (piece_cut_next (written_as w)) w.pin (next_start w) payload (Err why))
    → AllByRecursion (IsOfPut w.put) h.added
stopped_own now old new before after w payload why h = flush_is_own w.put h.added h.shape.kinds

pub writes_refused : {packed : Bool} (now : ℕ) (old old1 new : Kept) (before before1 : List Call) (after : Device) (w w' : Writer) (bytes : List ℕ) (why : Refusal) → old1 ≡ old → before1 ≡ before → SameButGathered w w'
    → w'.gathered.items ≡ next_payload (state_of old) (written_as w) bytes
    → AnswersOrWants {X = Placed} (Err why) (CutsAsAsked packed now old1 new before1 after (piece_cut_next (written_as w')) w'.pin (next_start w') w'.gathered.items) (new ≡ old1) → WritesAsAsked packed now old new before after w bytes (Err why)
writes_refused now old old1 new before before1 after w w' bytes (refusal.DeviceFault count) e f same g h =
    let mine = asked_does now old old1 new before before1 after w w' bytes (taken_of (state_of old).geometry (written_as w) bytes) (Err (stop.DeviceFault count)) e f same g h in
    record {
      added = mine.added;
      adds = mine.adds;
      own = stopped_own now old new before after w (next_payload (state_of old) (written_as w) bytes) (stop.DeviceFault count) mine;
      unharmed = mine.unharmed;
      does = record { shape = mine.shape; does = mine.does };
    }
writes_refused now old old1 new before before1 after w w' bytes (refusal.Exhausted number) e f same g h =
    let mine = asked_does now old old1 new before before1 after w w' bytes (taken_of (state_of old).geometry (written_as w) bytes) (Err (stop.Exhausted number)) e f same g h in
    record {
      added = mine.added;
      adds = mine.adds;
      own = stopped_own now old new before after w (next_payload (state_of old) (written_as w) bytes) (stop.Exhausted number) mine;
      unharmed = mine.unharmed;
      does = record { shape = mine.shape; does = mine.does };
    }
writes_refused now old old1 new before before1 after w w' bytes (refusal.Memory memory) e f same g h = writes_none now old new before after w bytes (Err (refusal.Memory memory)) (h ∙ e) refl
writes_refused now old old1 new before before1 after w w' bytes _ e f same g h = absurd h

-- a cut is refused where the fragment has gathered
pub refused_where : (s : State) (w : Writer) (bytes : List ℕ) (why : Refusal) (P : Result Placed Stop → Type 0) (Wanting : Type 0) → AnswersOrWants {X = Placed} (Err why) P Wanting → IsCutting s (written_as w) bytes → WritesWhere s w bytes (Err why)
refused_where s w bytes (refusal.DeviceFault count) P Wanting h cutting = cutting
refused_where s w bytes (refusal.Exhausted number) P Wanting h cutting = cutting
refused_where s w bytes (refusal.Memory e) P Wanting h cutting = cutting.taking
refused_where s w bytes _ P Wanting h cutting = absurd h

-- ---- a cut that could not be made leaves the puts

-- the puts and the geometry are as they were
pub record SamePuts (s t : State) : Type 0 where
  pub puts : t.puts ≡ s.puts
  pub geometry : t.geometry ≡ s.geometry

pub puts_left : (s t : State) → LeavesActors s t → SamePuts s t
puts_left s t leaves = record { puts = leaves.puts; geometry = leaves.geometry }

flush_behind : (kept new : Kept) (recs : List Rec) → new ≡ with_records kept recs → AreOfFlush recs → LeavesActors (state_of kept) (state_of new)
flush_behind kept new recs is kinds = subst (LeavesActors (state_of kept)) (sym (state_behind kept new recs is)) (flush_leaves (state_of kept) recs kinds)

pub failed_leaves : (packed : Bool) (now : ℕ) (kept new : Kept) (before : List Call) (after : Device) (id : PieceId) (pin start : ℕ) (payload : List ℕ) (why : Refusal)
    → AnswersOrWants {X = Placed} (Err why) (CutsAsAsked packed now kept new before after id pin start payload) (new ≡ kept) → LeavesActors (state_of kept) (state_of new)
failed_leaves packed now kept new before after id pin start payload (refusal.DeviceFault count) h = flush_behind kept new h.added h.adds h.shape.kinds
failed_leaves packed now kept new before after id pin start payload (refusal.Exhausted number) h = flush_behind kept new h.added h.adds h.shape.kinds
failed_leaves packed now kept new before after id pin start payload (refusal.Memory e) h = subst (λ k. LeavesActors (state_of kept) (state_of k)) (sym h) (leaves_all (state_of kept))
failed_leaves packed now kept new before after id pin start payload _ h = absurd h

-- what makes room leaves so, also where none is made
pub room_leaves : (now : ℕ) (old new : Kept) (before : List Call) (after : Device) (bytes : ℕ) (result : Result (Unit {0}) Stop) → RoomsAsAsked now old new before after bytes result → LeavesActors (state_of old) (state_of new)
room_leaves now old new before after bytes result h = flush_behind old new h.added h.adds h.kinds

pub still_writer : (s t : State) (w : Writer) → SamePuts s t → IsWriterOf s (written_as w) → IsWriterOf t (written_as w)
still_writer s t w same own = λ row found o.
    subst (λ g. IsAtHand g row (written_as w)) (sym same.geometry)
    (own row (ap (find (λ (p : PutRow). p.put == w.put)) (sym same.puts) ∙ found) o)

pub left_writer : (s t : State) (w : Writer) → LeavesActors s t → IsWriterOf s (written_as w) → IsWriterOf t (written_as w)
left_writer s t w leaves own = still_writer s t w (puts_left s t leaves) own

-- what was gathered is taken back
pub taken_back : (w : Writer) (bytes : List ℕ) (n before : ℕ) → before ≡ length w.gathered.items → take before (gathered_with (written_as w) bytes n) ≡ w.gathered.items
taken_back w bytes n before is =
    ap (λ k. take k (gathered_with (written_as w) bytes n)) is
    ∙ (take-append-le (length w.gathered.items) w.gathered.items (take n bytes) (omega arith) ∙ take_all (length w.gathered.items) w.gathered.items (omega arith))

pub back : (w w' new : Writer) → SameButGathered w w' → SameButGathered w' new → new.gathered.items ≡ w.gathered.items → SameWriter w new
back w w' new a b g = record {
  put = b.put ∙ a.put;
  key = b.key ∙ a.key;
  request = b.request ∙ a.request;
  response = b.response ∙ a.response;
  pin = b.pin ∙ a.pin;
  gathered = g;
  rows = b.rows ∙ a.rows;
  sealed = b.sealed ∙ a.sealed;
}

-- ---- no bytes

pub none_taken : (s : State) (w : Writer) → is_writing s w.put ≡ true → IsWriterOf s (written_as w) → fills_fragment s.geometry (written_as w) 0 ≡ false
none_taken s w writing own = let few : length w.gathered.items < s.geometry.fragment = few_gathered s w writing own in not_cut s.geometry w 0 (omega (arith, few))

pub left_none : (s : State) (w : Writer) (bytes : List ℕ) → is_writing s w.put ≡ true → IsWriterOf s (written_as w) → w.gathered.items ≡ left_gathered s.geometry w bytes 0
left_none s w bytes writing own =
    let none : fills_fragment s.geometry (written_as w) 0 ≡ false = none_taken s w writing own in
    sym (ap (λ b. if b then [] else gathered_with (written_as w) bytes 0) none ∙ append-nil w.gathered.items)

-- ---- behind a cut

pub left_cut : (g : Geometry) (w : Writer) (bytes : List ℕ) (n : ℕ) → fills_fragment g (written_as w) n ≡ true → left_gathered g w bytes n ≡ []
left_cut g w bytes n cut = ap (λ b. if b then [] else gathered_with (written_as w) bytes n) cut

-- where none was made all stays gathered
pub left_more : (g : Geometry) (w : Writer) (bytes : List ℕ) (n : ℕ) → fills_fragment g (written_as w) n ≡ false
    → left_gathered g w bytes n ≡ gathered_with (written_as w) bytes n
left_more g w bytes n few = ap (λ b. if b then [] else gathered_with (written_as w) bytes n) few
