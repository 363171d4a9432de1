-- What was read of a key's vector stays read, while the vectors that are live were live before.
use Rattle.std.proofs.Common.{◌≡◌, ℕ, List, [], ◌∷◌, ◌++◌, refl, sym, ◌∙◌, ap, subst, Bool, true, false, length, Ok}
use Rattle.std.specs.Prelude.{Option, Some, None, not, nat_le, option_map, option_and_then, unwrap_or, if◌then◌else◌}
use Rattle.tape_base.specs.declared.keys.Key.{Key}
use Rattle.tape_base.specs.declared.pieces.PieceId.{PieceId}
use Rattle.tape_base.specs.Blocks.{blocks_of}
use Rattle.tape_base.specs.Piece.{is_vector, same_piece}
use Rattle.tape_base.proofs.NameLaws.{same_piece-true}
use Rattle.device_log.specs.Calls.{Call}
use Rattle.logged_disk.specs.Device.{DeviceState as Device}
use Rattle.doc_header.specs.Document.{digest_of_document}
use Rattle.alternate_vector.specs.Alternates.{Stored}
use Rattle.cache_model.specs.declared.record.Rec.{Rec}
use Rattle.cache_model.specs.State.{Complete, LastVector, Row, State, TakenOut, after_all, alternates_of, floor_now, is_live, last_vector, list_of_last, list_of_row, live_row_of, only_live, place_now, placed_row, row_in, state_after, vector_piece, without}
use Rattle.cache_model.specs.Kept.{Kept, state_of}
use Rattle.cache_model.specs.Room.{doc_at, placed_record}
use Rattle.cache_model.specs.Verdict.{live_vector_of, vector_of_last}
use Rattle.cache_model.specs.Displacing.{AreOfDisplacement}
use Rattle.cache_model.specs.Live.{IsSamePiece, LiveBefore}
use Rattle.piece_answers.specs.Flush.{AreOfFlush}
use Rattle.piece_answers.proofs.Displacing.{displaced_puts}
use Rattle.stripe_vectors.specs.Spelled.{IsSpelled}
use Rattle.stripe_write.specs.declared.weighing.Vectors.{Vectors}
use Rattle.stripe_write.specs.declared.writer.Writer.{Writer}
use Rattle.stripe_write.specs.Closing.{IsReadFor}
use Rattle.stripe_write.specs.Resting.{IsRestAs, RestsAsAsked}
use Rattle.stripe_write.specs.Writes.{next_start}
use Rattle.stripe_write.proofs.Spending.{state_behind}
use Rattle.stripe_write.proofs.Pushed.{pushed_vector}
use Rattle.stripe_write.proofs.Cutting.{cut_of, cut_pushed, cut_state, next_no_vector}
use Rattle.stripe_write.proofs.Sealing.{SameAtClose}
use Rattle.stripe_write.proofs.Flushed.{LeavesActors, WasLive, flush_leaves, vector_before}
use Rattle.cache_calls.specs.Writers.{piece_cut_next, alternate_at_close}
use Rattle.stripe_write.specs.Writers.{written_as}

-- ---- what a key's live vector lists

listed_by : (s : State) (r row : Row) (b : Bool) → is_live s r ≡ b → (if b then Some r else None) ≡ Some row → list_of_row s r ≡ unwrap_or row.alternates []
listed_by s r row true e h = let same : r ≡ row = cc in rw e (ap (λ (x : Row). unwrap_or x.alternates []) same)
listed_by s r row false e h = cc

listed_found : (s : State) (o : Option Row) (row : Row) → option_and_then (only_live s) o ≡ Some row → unwrap_or (option_map (list_of_row s) o) [] ≡ unwrap_or row.alternates []
listed_found s None row h = cc
listed_found s (Some r) row h = listed_by s r row (is_live s r) refl h

listed_last : (s : State) (key : Key) (row : Row) (last : Option LastVector) → option_and_then (live_row_of s) (option_and_then (vector_of_last key) last) ≡ Some row
    → unwrap_or (option_map (list_of_last s s.rows key) last) [] ≡ unwrap_or row.alternates []
listed_last s key row (Some (Complete put)) h = listed_found s (row_in s.rows (vector_piece key put)) row h
listed_last s key row (Some (TakenOut put)) h = cc
listed_last s key row None h = cc

-- a live vector's alternates are the key's
pub listed_live : (s : State) (key : Key) (row : Row) → live_vector_of s key ≡ Some row → alternates_of s key ≡ unwrap_or row.alternates []
listed_live s key row h = listed_last s key row (last_vector s key) h

-- ---- a state in which the vectors that are live were live before

pub record KeepsVectors (s t : State) : Type 0 where
  pub geometry : t.geometry ≡ s.geometry
  pub vectors : (key : Key) (row : Row) → live_vector_of t key ≡ Some row → WasLive s key row
  pub displaced : s.displaced ≡ [] → t.displaced ≡ []

itself : (row : Row) → IsSamePiece row row
itself row = record { id = refl; blocks = refl; payload = refl; pin = refl; alternates = refl }

pub keeps_self : (s : State) → KeepsVectors s s
keeps_self s = record { geometry = refl; vectors = λ key row h. record { before = row; live = h; same = itself row }; displaced = λ h. h }

was_then : (s t : State) (key : Key) (row : Row) → KeepsVectors s t → WasLive t key row → WasLive s key row
was_then s t key row a was =
    let first : WasLive s key was.before = a.vectors key was.before was.live in
    record {
      before = first.before;
      live = first.live;
      same = record {
        id = was.same.id ∙ first.same.id;
        blocks = was.same.blocks ∙ first.same.blocks;
        payload = was.same.payload ∙ first.same.payload;
        pin = was.same.pin ∙ first.same.pin;
        alternates = was.same.alternates ∙ first.same.alternates;
      };
    }

keeps_then : (s t u : State) → KeepsVectors s t → KeepsVectors t u → KeepsVectors s u
keeps_then s t u a b = record { geometry = b.geometry ∙ a.geometry; vectors = λ key row h. was_then s t key row a (b.vectors key row h); displaced = λ h. b.displaced (a.displaced h) }

-- behind the records of a flush
pub keeps_flush : (s : State) (recs : List Rec) → AreOfFlush recs → LiveBefore s (after_all s recs) → KeepsVectors s (after_all s recs)
keeps_flush s recs kinds live =
    let leaves : LeavesActors s (after_all s recs) = flush_leaves s recs kinds in
    record {
      geometry = leaves.geometry;
      vectors = λ key row h. vector_before s (after_all s recs) key row leaves.vectors live h;
      displaced = λ h. leaves.displaced ∙ h;
    }

-- a row that is found behind a piece was found before, where it is of another piece
found_by : (x r : Row) (piece id : PieceId) (rows : List Row) (row : Row) (b c : Bool) → same_piece x.id piece ≡ b → same_piece x.id id ≡ c → (id ≡ piece → ⊥)
    → (row_in (without piece rows ++ r ∷ []) id ≡ Some row → row_in rows id ≡ Some row)
    → row_in ((if not b then x ∷ without piece rows else without piece rows) ++ r ∷ []) id ≡ Some row → (if c then Some x else row_in rows id) ≡ Some row
found_by x r piece id rows row true true e f other later h = absurd (other (sym (same_piece-true x.id id f) ∙ same_piece-true x.id piece e))
found_by x r piece id rows row true false e f other later h = later h
found_by x r piece id rows row false true e f other later h = subst (λ b. (if b then Some x else row_in (without piece rows ++ r ∷ []) id) ≡ Some row) f h
found_by x r piece id rows row false false e f other later h = later (subst (λ b. (if b then Some x else row_in (without piece rows ++ r ∷ []) id) ≡ Some row) f h)

last_by : (r row : Row) (id : PieceId) (b : Bool) → same_piece r.id id ≡ b → (id ≡ r.id → ⊥) → (if b then Some r else None) ≡ Some row → None ≡ Some row
last_by r row id true e other h = absurd (other (sym (same_piece-true r.id id e)))
last_by r row id false e other h = h

found_before : (r : Row) (piece id : PieceId) (rows : List Row) (row : Row) → r.id ≡ piece → (id ≡ piece → ⊥) → row_in (without piece rows ++ r ∷ []) id ≡ Some row → row_in rows id ≡ Some row
found_before r piece id [] row is other h = last_by r row id (same_piece r.id id) refl (λ e. other (e ∙ is)) h
found_before r piece id (x ∷ rows) row is other h =
    found_by x r piece id rows row (same_piece x.id piece) (same_piece x.id id) refl refl other (found_before r piece id rows row is other) h

live_then : (s : State) (a b : Option Row) (row : Row) → ((r : Row) → b ≡ Some r → a ≡ Some r) → option_and_then (only_live s) b ≡ Some row → option_and_then (only_live s) a ≡ Some row
live_then s a None row before h = cc
live_then s a (Some r) row before h = rw (before r refl) h

vector_then : (s t : State) (r : Row) (piece : PieceId) (key : Key) (row : Row) (last : Option LastVector) → is_vector piece ≡ false → r.id ≡ piece → t.rows ≡ without piece s.rows ++ r ∷ [] → floor_now t ≡ floor_now s
    → option_and_then (live_row_of t) (option_and_then (vector_of_last key) last) ≡ Some row → option_and_then (live_row_of s) (option_and_then (vector_of_last key) last) ≡ Some row
vector_then s t r piece key row None kind is rows floor h = cc
vector_then s t r piece key row (Some (TakenOut put)) kind is rows floor h = cc
vector_then s t r piece key row (Some (Complete put)) kind is rows floor h =
    let id : PieceId = vector_piece key put in
    let here : option_and_then (only_live s) (row_in (without piece s.rows ++ r ∷ []) id) ≡ Some row =
    subst (λ f. option_and_then (λ (x : Row). if nat_le f x.place then Some x else None) (row_in (without piece s.rows ++ r ∷ []) id) ≡ Some row) floor
    (subst (λ rs. option_and_then (only_live t) (row_in rs id) ≡ Some row) rows h) in
    live_then s (row_in s.rows id) (row_in (without piece s.rows ++ r ∷ []) id) row
    (λ x found. found_before r piece id s.rows x is (λ e. let clash : true ≡ false = ap is_vector e ∙ kind in cc) found) here

-- a fragment that is cut and placed, behind what its entry displaces
keeps_cut : (s : State) (piece : PieceId) (pin start : ℕ) (payload : List ℕ) (displaced : List Rec) → AreOfDisplacement displaced → is_vector piece ≡ false
    → KeepsVectors s (state_after (after_all (state_after s (cut_of piece payload)) displaced) (placed_record s piece pin start (length payload) payload))
keeps_cut s piece pin start payload displaced pushed kind =
    let c : State = state_after s (cut_of piece payload) in
    let d : State = after_all c displaced in
    record {
      geometry = (displaced_puts c displaced pushed).geometry;
      vectors = λ key row h.
          let before : live_vector_of d key ≡ Some row = vector_then d (state_after d (placed_record s piece pin start (length payload) payload)) (placed_row d piece (place_now s) (blocks_of (length payload))
          (digest_of_document (doc_at s piece pin start) payload) pin) piece key row (last_vector d key) kind refl refl refl h in
          record { before = row; live = pushed_vector c displaced key row pushed before; same = itself row };
      displaced = λ h. refl;
    }

keeps_rest_by : (packed : Bool) (s : State) (faults : ℕ) (w : Writer) (bytes : List ℕ) (added : List Rec) (u : Unit {0}) → IsRestAs packed s faults w bytes added (Ok u) → KeepsVectors s (after_all s added)
keeps_rest_by packed s faults w [] added u none = subst (λ recs. KeepsVectors s (after_all s recs)) (sym none) (keeps_self s)
keeps_rest_by packed s faults w (byte ∷ bytes) added u cuts =
    let payload : List ℕ = byte ∷ bytes in
    let cut = cuts.1 in
    let room : State = after_all s cut.room in
    subst (KeepsVectors s) (sym (cut_state s (piece_cut_next (written_as w)) w.pin (next_start w) payload added cuts.0 (next_no_vector w) cut))
    (keeps_then s room _ (keeps_flush s cut.room cut.kinds cut.live)
    (keeps_cut room (piece_cut_next (written_as w)) w.pin (next_start w) payload cut.are.displaced (cut_pushed s (piece_cut_next (written_as w)) w.pin (next_start w) payload added cuts.0 cut) (next_no_vector w)))

pub keeps_rest : {packed : Bool} (now : ℕ) (old new : Kept) (before : List Call) (after : Device) (w : Writer) (u : Unit {0}) → RestsAsAsked packed now old new before after w (Ok u) → KeepsVectors (state_of old) (state_of new)
keeps_rest {packed} now old new before after w u h =
    subst (KeepsVectors (state_of old)) (sym (state_behind old new h.added h.adds)) (keeps_rest_by packed (state_of old) after.faults w w.gathered.items h.added u h.shape)

-- what was read is still so
pub read_kept : (s t : State) (w new : Writer) (v : Vectors) → KeepsVectors s t → SameAtClose w new → IsReadFor s w v → IsReadFor t new v
read_kept s t w new v keeps same read = λ row live.
    let here : live_vector_of t w.key ≡ Some row = subst (λ k. live_vector_of t k ≡ Some row) same.key live in
    let was : WasLive s w.key row = keeps.vectors w.key row here in
    let m = read was.before was.live in
    let alternates : unwrap_or was.before.alternates [] ≡ unwrap_or row.alternates [] = ap (λ (o : Option (List Stored)). unwrap_or o []) (sym was.same.alternates) in
    let lists : alternates_of s w.key ≡ alternates_of t new.key =
    listed_live s w.key was.before was.live ∙ (alternates ∙ (sym (listed_live t w.key row here) ∙ ap (alternates_of t) (sym same.key))) in (
      m.0,
      m.1,
      subst (λ (a : Stored). IsSpelled t.geometry (alternates_of t new.key) a m.0) (sym same.alternate)
          (subst (λ list. IsSpelled t.geometry list (alternate_at_close (written_as w)) m.0) lists (subst (λ g. IsSpelled g (alternates_of s w.key) (alternate_at_close (written_as w)) m.0) (sym keeps.geometry) m.2)),
    )

-- also of the writer itself
pub read_stays : (s t : State) (w : Writer) (v : Vectors) → KeepsVectors s t → IsReadFor s w v → IsReadFor t w v
read_stays s t w v keeps read = read_kept s t w w v keeps (record { put = refl; key = refl; rows = refl; alternate = refl }) read
