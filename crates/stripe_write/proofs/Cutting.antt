-- A fragment that has gathered is cut.
use Rattle.std.proofs.Common.{◌≡◌, ℕ, ◌+◌, ◌*◌, ◌<◌, inl, inr, ◌⊎◌, List, [], ◌∷◌, ◌++◌, refl, sym, ◌∙◌, ap, subst, arith, Bool, true, false, length, Result, Ok, Err}
use Rattle.std.specs.Prelude.{Some, option_map, find, ◌==◌, MatchBool, OnOk}
use Rattle.std.specs.List.{AllByRecursion}
use Rattle.device_log.specs.Calls.{Call}
use Rattle.logged_disk.specs.Device.{DeviceState as Device}
use Rattle.std.specs.declared.alloc.AllocError.{AllocError}
use Rattle.std.proofs.lemmas.Bool.{eq-eqb, eqb-true}
use Rattle.std.proofs.lemmas.List.{length-append}
use Rattle.std.proofs.lemmas.List.Sums.{sum_by-append}
use Rattle.hex.specs.Hex.{IsBytes}
use Rattle.tape_base.specs.declared.digests.Digest.{Digest}
use Rattle.tape_base.specs.declared.pieces.PieceId.{PieceId}
use Rattle.tape_base.specs.Digest.{digest_of}
use Rattle.tape_base.specs.Piece.{is_vector}
use Rattle.fragment_table.specs.Table.{TableRow, made_row, total_length}
use Rattle.cache_model.specs.declared.record.Rec.{Rec}
use Rattle.cache_model.specs.declared.record.Rec.TheVariants as rec
use Rattle.cache_model.specs.State.{PutRow, State, after_all, change_put, fragment_piece, put_of, state_after, with_cut}
use Rattle.cache_model.specs.Kept.{Kept, state_of}
use Rattle.cache_model.specs.Legal.{IsQuiet}
use Rattle.cache_model.specs.Room.{placed_record}
use Rattle.cache_model.proofs.Steps.{after_all-append, all_append}
use Rattle.cache_model.proofs.ByNumber.{find-changed}
use Rattle.piece_answers.specs.declared.answer.Placed.{Placed}
use Rattle.cache_answers.specs.declared.answers.Refusal.{Refusal}
use Rattle.cache_answers.specs.declared.answers.Refusal.TheVariants as refusal
use Rattle.cache_model.specs.Limits.{ReachesLimit}
use Rattle.piece_answers.specs.Place.{AreOfPlace, CutsAsAsked, IsCutAs, IsFragmentOf, PlacesAsAsked, PlacesVector}
use Rattle.cache_model.specs.Displacing.{AreOfDisplacement}
use Rattle.stripe_core.specs.Stripe.{AnswersOrWants}
use Rattle.piece_answers.proofs.Displacing.{displaced_puts}
use Rattle.stripe_write.specs.declared.writer.Writer.{Writer}
use Rattle.stripe_write.proofs.Ended.{own_number}
use Rattle.stripe_write.proofs.Flushed.{LeavesActors, flush_is_own, flush_leaves}
use Rattle.stripe_write.proofs.Pushed.{pushed_by, pushed_is_own}
use Rattle.stripe_write.proofs.Spending.{state_behind}
use Rattle.stripe_write.specs.Writes.{IsReady, next_start}
use Rattle.stripe_answers.specs.Numbers.{StopsExhausted}
use Rattle.cache_model.specs.Subjects.{IsOfPut}
use Rattle.cache_calls.specs.Actors.{IsWriterOf, IsAllCut, IsAtHand}
use Rattle.cache_calls.specs.Writers.{piece_cut_next}
use Rattle.stripe_write.specs.Writers.{written_as}

-- ---- it is the next fragment of its put

pub next_no_vector : (w : Writer) → is_vector (piece_cut_next (written_as w)) ≡ false
next_no_vector w = by (length w.table.rows + 1) (omega arith)
  where
    by : (n : ℕ) → 0 < n → (n == 0) ≡ false
    by n h = at (n == 0) refl
      where
        at : (b : Bool) → (n == 0) ≡ b → b ≡ false
        at false e = refl
        at true e = let z : n ≡ 0 = eqb-true n 0 e in absurd (omega (arith, z, h))

pub ready_fragment : (s : State) (w : Writer) → IsQuiet s → IsReady s w → IsBytes w.gathered.items → IsFragmentOf s (piece_cut_next (written_as w)) w.pin (next_start w) w.gathered.items
ready_fragment s w quiet r small =
    let count : length r.row.cuts ≡ length w.table.rows = ap length r.cuts_are in
    let number : r.row.put ≡ w.put = own_number w.put s.puts r.row r.found in
    record {
      w = r.row;
      next = record {
        writing = record { quiet = quiet; found = r.found; is_open = r.is_open };
        next = omega (arith, count);
        few = omega (arith, count, r.few);
        full = r.whole;
        some = r.some;
        small = r.small;
        of_bytes = small;
      };
      id_is = sym (ap (λ k. fragment_piece k r.row.put (length r.row.cuts + 1)) r.key_is
          ∙ (ap (λ n. fragment_piece w.key n (length r.row.cuts + 1)) number ∙ ap (λ n. fragment_piece w.key w.put (n + 1)) count));
      pin_is = sym r.pin_is;
      start_is = sym (ap total_length r.cuts_are);
    }

-- ---- what stands then

-- it was cut
abbrev pub cut_of : PieceId → List ℕ → Rec
cut_of id payload = rec.Cut id.put id.index (length payload) (digest_of payload)

cut_two : {packed : Bool} (s : State) (id : PieceId) (pin start : ℕ) (payload : List ℕ) (added : List Rec) → is_vector id ≡ false → (a : AreOfPlace packed s id pin start payload added)
    → added ≡ cut_of id payload ∷ (a.displaced ++ placed_record s id pin start (length payload) payload ∷ [])
cut_two s id pin start payload added kind a = a.is ∙ rw kind refl

-- the state behind what is displaced for it
abbrev pub pushed_state : {packed : Bool} {s : State} {id : PieceId} {pin start : ℕ} {payload : List ℕ} {added : List Rec} {placed : Placed} → IsCutAs packed s id pin start payload added placed → State
pushed_state {s = s} {id = id} {payload = payload} c = after_all (state_after (after_all s c.room) (cut_of id payload)) c.are.displaced

pub cut_pushed : {packed : Bool} (s : State) (id : PieceId) (pin start : ℕ) (payload : List ℕ) (added : List Rec) (placed : Placed) → (c : IsCutAs packed s id pin start payload added placed)
    → AreOfDisplacement c.are.displaced
cut_pushed s id pin start payload added placed c = pushed_by (after_all s c.room) id pin start payload c.piece c.are

pub cut_state : {packed : Bool} (s : State) (id : PieceId) (pin start : ℕ) (payload : List ℕ) (added : List Rec) (placed : Placed) → is_vector id ≡ false → (c : IsCutAs packed s id pin start payload added placed)
    → after_all s added ≡ state_after (pushed_state c) (placed_record (after_all s c.room) id pin start (length payload) payload)
cut_state s id pin start payload added placed kind c =
    let room : State = after_all s c.room in
    ap (after_all s) c.is
    ∙ (after_all-append s c.room c.piece
    ∙ (ap (after_all room) (cut_two room id pin start payload c.piece kind c.are)
    ∙ after_all-append (state_after room (cut_of id payload)) c.are.displaced (placed_record room id pin start (length payload) payload ∷ [])))

pub cut_quiet : {packed : Bool} (s : State) (id : PieceId) (pin start : ℕ) (payload : List ℕ) (added : List Rec) (placed : Placed) → is_vector id ≡ false → IsCutAs packed s id pin start payload added placed → IsQuiet s
    → IsQuiet (after_all s added)
cut_quiet s id pin start payload added placed kind c quiet =
    let leaves : LeavesActors s (after_all s c.room) = flush_leaves s c.room c.kinds in
    let behind = displaced_puts (state_after (after_all s c.room) (cut_of id payload)) c.are.displaced (cut_pushed s id pin start payload added placed c) in
    subst IsQuiet (sym (cut_state s id pin start payload added placed kind c)) (rw kind (behind.pending ∙ (leaves.pending ∙ quiet)))

found_changed : (put : ℕ) (f : PutRow → PutRow) (puts : List PutRow) (w : PutRow) → ((x : PutRow) → (f x).put ≡ x.put) → find (λ p. p.put == put) puts ≡ Some w
    → find (λ p. p.put == put) (change_put put f puts) ≡ Some (f w)
found_changed put f puts w keeps found =
    find-changed (λ (p : PutRow). p.put) f keeps put put puts ∙ rw (eq-eqb put put refl) (ap (option_map f) found)

one_more : (rows : List TableRow) (row : TableRow) (size : ℕ) → row.length ≡ size → total_length rows ≡ length rows * size → total_length (rows ++ row ∷ []) ≡ length (rows ++ row ∷ []) * size
one_more rows row size is whole =
    let total : total_length (rows ++ row ∷ []) ≡ total_length rows + total_length (row ∷ []) = sum_by-append (λ (r : TableRow). r.length) rows (row ∷ []) in
    let last : total_length (row ∷ []) ≡ size = total_one row ∙ is in
    let count : length (rows ++ row ∷ []) ≡ length rows + 1 = length-append rows (row ∷ []) in
    let more : (length rows + 1) * size ≡ length rows * size + size = omega arith in
    total ∙ (ap (λ n. total_length rows + n) last ∙ (ap (λ n. n + size) whole ∙ (sym more ∙ ap (λ n. n * size) (sym count))))
  where
    total_one : (r : TableRow) → total_length (r ∷ []) ≡ r.length
    total_one r = omega arith

all_cut_or_whole : (w new : Writer) (rows : List TableRow) (row : TableRow) (size : ℕ) → (w.sealed ≡ true) ⊎ (row.length ≡ size) → new.sealed ≡ w.sealed → new.gathered.items ≡ []
    → total_length rows ≡ length rows * size → IsAllCut (written_as new) ⊎ (total_length (rows ++ row ∷ []) ≡ length (rows ++ row ∷ []) * size)
all_cut_or_whole w new rows row size (inl is) same empty whole = inl (record { sealed = same ∙ is; empty = empty })
all_cut_or_whole w new rows row size (inr is) same empty whole = inr (one_more rows row size is whole)

-- the put behind a cut
pub cut_row : {packed : Bool} (s t : State) (w : Writer) (added : List Rec) (placed : Placed) → (r : IsReady s w) → IsCutAs packed s (piece_cut_next (written_as w)) w.pin (next_start w) w.gathered.items added placed → t ≡ after_all s added
    → put_of t w.put ≡ Some (with_cut (made_row (length w.gathered.items) (digest_of w.gathered.items).0) r.row)
cut_row s t w added placed r c is =
    let payload : List ℕ = w.gathered.items in
    let room : State = after_all s c.room in
    let cut : TableRow = made_row (length payload) (digest_of payload).0 in
    let leaves : LeavesActors s room = flush_leaves s c.room c.kinds in
    let behind = displaced_puts (state_after room (cut_of (piece_cut_next (written_as w)) payload)) c.are.displaced (cut_pushed s (piece_cut_next (written_as w)) w.pin (next_start w) payload added placed c) in
    ap (λ (x : State). put_of x w.put) (is ∙ cut_state s (piece_cut_next (written_as w)) w.pin (next_start w) payload added placed (next_no_vector w) c)
    ∙ (ap (find (λ (p : PutRow). p.put == w.put)) behind.puts
    ∙ found_changed w.put (with_cut cut) room.puts r.row (λ x. refl) (ap (find (λ (p : PutRow). p.put == w.put)) leaves.puts ∙ r.found))

-- the writer behind a cut
pub cut_writer : {packed : Bool} (s t : State) (w new : Writer) (added : List Rec) (placed : Placed) → IsReady s w → IsCutAs packed s (piece_cut_next (written_as w)) w.pin (next_start w) w.gathered.items added placed → t ≡ after_all s added
    → new.put ≡ w.put → new.key ≡ w.key → new.request ≡ w.request → new.response ≡ w.response → new.pin ≡ w.pin → new.sealed ≡ w.sealed → new.gathered.items ≡ []
    → new.table.rows ≡ w.table.rows ++ made_row (length w.gathered.items) (digest_of w.gathered.items).0 ∷ [] → IsWriterOf t (written_as new)
cut_writer s t w new added placed r c is put key request response pin sealed gathered rows = λ row found o.
    let payload : List ℕ = w.gathered.items in
    let leaves : LeavesActors s (after_all s c.room) = flush_leaves s c.room c.kinds in
    let behind = displaced_puts (state_after (after_all s c.room) (cut_of (piece_cut_next (written_as w)) payload)) c.are.displaced (cut_pushed s (piece_cut_next (written_as w)) w.pin (next_start w) payload added placed c) in
    let cut : TableRow = made_row (length payload) (digest_of payload).0 in
    let state = is ∙ cut_state s (piece_cut_next (written_as w)) w.pin (next_start w) payload added placed (next_no_vector w) c in
    let there : put_of t w.put ≡ Some (with_cut cut r.row) = cut_row s t w added placed r c is in
    let geometry : t.geometry ≡ s.geometry = ap (λ (x : State). x.geometry) state ∙ (behind.geometry ∙ leaves.geometry) in
    let name : Some row ≡ Some (with_cut cut r.row) = sym found ∙ (ap (put_of t) put ∙ there) in
    let row_is : row ≡ with_cut cut r.row = cc in
    subst (λ (x : PutRow). IsAtHand t.geometry x (written_as new)) (sym row_is) (record {
      key_is = r.key_is ∙ sym key;
      request_is = r.request_is ∙ sym request;
      response_is = r.response_is ∙ sym response;
      pin_is = r.pin_is ∙ sym pin;
      cuts_are = ap (λ cuts. cuts ++ cut ∷ []) r.cuts_are ∙ sym rows;
      whole = rw geometry (all_cut_or_whole w new r.row.cuts cut s.geometry.fragment r.last sealed gathered r.whole);
      few = rw (geometry, gathered) s.geometry.accepted.fragment_fits.0;
      more = λ some. let none : 0 < length new.gathered.items = some in let empty : length new.gathered.items ≡ 0 = ap length gathered in absurd (omega (arith, none, empty));
    })

-- ---- what a placing says of the writer's fragment

module _ (w : Writer) (n t : ℕ) (p : List ℕ) (n_is : n ≡ length w.table.rows) (t_is : t ≡ next_start w) (p_is : p ≡ w.gathered.items) where
  abbrev id : PieceId
  id = record { first = w.key; put = w.put; index = n + 1 }

  id_is : id ≡ piece_cut_next (written_as w)
  id_is = ap (λ k. let i : PieceId = record { first = w.key; put = w.put; index = k + 1 } in i) n_is

  -- what is said of the piece that is placed is said of the next fragment
  at_next : (F : PieceId → ℕ → List ℕ → Type 0) → F id t p → F (piece_cut_next (written_as w)) (next_start w) w.gathered.items
  at_next F h = subst (F (piece_cut_next (written_as w)) (next_start w)) p_is (subst (λ x. F (piece_cut_next (written_as w)) x p) t_is (subst (λ i. F i t p) id_is h))

  pub cuts_behind : (packed : Bool) (now : ℕ) (old new : Kept) (first : List Call) (after : Device) (r : Result Placed Refusal) → AnswersOrWants r (PlacesAsAsked packed now old new first after id w.pin t p) (new ≡ old)
      → AnswersOrWants r (CutsAsAsked packed now old new first after (piece_cut_next (written_as w)) w.pin (next_start w) w.gathered.items) (new ≡ old)
  cuts_behind packed now old new first after r h =
      let there : AnswersOrWants r (PlacesAsAsked packed now old new first after (piece_cut_next (written_as w)) w.pin (next_start w) w.gathered.items)
      (new ≡ old) =
      at_next (λ i x q. AnswersOrWants r (PlacesAsAsked packed now old new first after i w.pin x q) (new ≡ old)) h in
      subst (λ b. AnswersOrWants r (λ x. MatchBool b (PlacesVector packed old new first after.past (piece_cut_next (written_as w)) w.pin (next_start w) w.gathered.items x)
      (CutsAsAsked packed now old new first after (piece_cut_next (written_as w)) w.pin (next_start w) w.gathered.items x)) (new ≡ old)) (next_no_vector w) there

-- a cut that stops at the limit tells the number
pub cut_stops : (packed : Bool) (now : ℕ) (old new : Kept) (first : List Call) (after : Device) (piece : PieceId) (pin start : ℕ) (payload : List ℕ) (why : Refusal)
    → AnswersOrWants {X = Placed} (Err why) (CutsAsAsked packed now old new first after piece pin start payload) (new ≡ old) → StopsExhausted (state_of new) (length payload) why
cut_stops packed now old new first after piece pin start payload (refusal.Exhausted number) h = subst (λ t. ReachesLimit t (length payload) number) (sym (state_behind old new h.added h.adds)) h.shape.why_is
cut_stops packed now old new first after piece pin start payload _ h = tt

-- the records of a cut are its put's own
pub cut_is_own : {packed : Bool} (s : State) (piece : PieceId) (pin start : ℕ) (payload : List ℕ) (added : List Rec) (placed : Placed) → is_vector piece ≡ false → IsCutAs packed s piece pin start payload added placed → AllByRecursion (IsOfPut piece.put) added
cut_is_own s piece pin start payload added placed kind c =
    let room : State = after_all s c.room in
    let pushed = pushed_is_own piece.put c.are.displaced (cut_pushed s piece pin start payload added placed c) in
    let two : AllByRecursion (IsOfPut piece.put) c.piece =
    subst (AllByRecursion (IsOfPut piece.put)) (sym (cut_two room piece pin start payload c.piece kind c.are)) (refl, all_append (IsOfPut piece.put) c.are.displaced _ pushed (tt, tt)) in
    subst (AllByRecursion (IsOfPut piece.put)) (sym c.is) (all_append (IsOfPut piece.put) c.room c.piece (flush_is_own piece.put c.room c.kinds) two)

pub rows_behind : (r : Result (Unit {0}) AllocError) (u : Unit {0}) (before after : List TableRow) (size : ℕ) (digest : Digest) (bytes : List ℕ) → r ≡ Ok u → OnOk r (after ≡ before ++ made_row size digest.0 ∷ [])
    → size ≡ length bytes → digest ≡ digest_of bytes → after ≡ before ++ made_row (length bytes) (digest_of bytes).0 ∷ []
rows_behind (Ok u) v before after size digest bytes is h n d = h ∙ (ap (λ k. before ++ made_row k digest.0 ∷ []) n ∙ ap (λ (x : Digest). before ++ made_row (length bytes) x.0 ∷ []) d)
rows_behind (Err e) v before after size digest bytes is h n d = cc
