-- Which pieces stand, record by record.
use Rattle.std.proofs.Common.{◌≡◌, ℕ, ◌+◌, ◌<◌, ◌≤◌, List, [], ◌∷◌, ◌++◌, refl, sym, ◌∙◌, ap, subst, arith, Bool, true, false, cond, length, ◌/◌}
use Rattle.std.specs.Prelude.{Option, Some, None, IsSome, map, option_map, option_to_list, find, if◌then◌else◌, ◌==◌}
use Rattle.std.specs.List.{AllByRecursion}
use Rattle.std.proofs.lemmas.Bool.{eq-eqb, eqb-true}
use Rattle.std.proofs.lemmas.List.{append-nil, length-append}
use Rattle.tape_base.specs.declared.actors.Actor.{Actor}
use Rattle.tape_base.specs.declared.digests.Digest.{Digest}
use Rattle.tape_base.specs.declared.keys.Key.{Key}
use Rattle.tape_base.specs.declared.pieces.PieceId.{PieceId}
use Rattle.tape_base.specs.Blocks.{blocks_of}
use Rattle.tape_base.specs.Piece.{is_vector, same_piece}
use Rattle.tape_base.proofs.NameLaws.{same_piece-true}
use Rattle.fragment_table.specs.Table.{TableRow, made_row}
use Rattle.alternate_vector.specs.Field.{Field}
use Rattle.alternate_vector.specs.Alternates.{Stored}
use Rattle.alternate_vector.proofs.Loops.{each_push}
use Rattle.cache_model.specs.declared.answer.NextAnswer.{NextAnswer}
use Rattle.cache_model.specs.declared.answer.NextAnswer.TheVariants as next
use Rattle.cache_model.specs.declared.cause.Cause.{Cause}
use Rattle.cache_model.specs.declared.cause.Cause.TheVariants as cause
use Rattle.cache_model.specs.declared.record.Rec.{Rec}
use Rattle.cache_model.specs.declared.record.Rec.TheVariants as rec
use Rattle.cache_model.specs.State.{Closed, Complete, GivenUp, LastVector, Open, PutRow, Row, State, TakenOut, Writing, after_all, change_put, last_vector, live_row_of, most_fragments, moved_row, opened_put, placed_row, put_of, row_in, row_of, state_after, vector_piece, with_cut, with_writing, without, without_earlier}
use Rattle.cache_model.specs.Kept.{Kept, state_of, with_records}
use Rattle.cache_model.specs.Legal.{answer_record}
use Rattle.cache_model.proofs.Steps.{all_as}
use Rattle.cache_model.proofs.Lists.{found_row}
use Rattle.stripe_actors.specs.Actors.{ActorsSeen as Actors, AreActors}
use Rattle.cache_model.proofs.ByNumber.{find-changed}
use Rattle.stripe_actors.proofs.Telling.{was_given}
use Rattle.piece_answers.specs.declared.answer.Found.{Found}
use Rattle.piece_answers.specs.declared.answer.Found.TheVariants as found
use Rattle.cache_model.specs.Troubles.{cause_records}
use Rattle.piece_answers.specs.Find.{find_adds, found_records}
use Rattle.cache_model.specs.Subjects.{IsOfFlush}
use Rattle.piece_answers.specs.Flush.{AreOfFlush}
use Rattle.stripe_answers.specs.Named.{IsNamed, IsOwn, IsOwnOf, IsPieceOf}
use Rattle.piece_answers.specs.Place.{IsFragmentOf, IsNewPiece, IsVectorFor}
use Rattle.piece_answers.proofs.RecordsAdded.{state_of-with_records}
use Rattle.held_pieces.proofs.Going.{all_left}
use Rattle.piece_answers.proofs.SamePuts.{SamePuts, same_puts}
use Rattle.cache_model.specs.Displacing.{AreOfDisplacement}

-- ---- records that leave the names

abbrev pub leaves_names : Rec → Bool
leaves_names (rec.Formatted geometry) = false
leaves_names (rec.Opened geometry serial cursor floor next_put clean list) = false
leaves_names (rec.Placed piece place blocks digest pin) = false
leaves_names (rec.WriteOpened actor put key request response pin) = false
leaves_names (rec.Cut put index length digest) = false
leaves_names (rec.Committed put key length list) = false
leaves_names (rec.Aborted put key) = false
leaves_names _ = true

same : (s t : State) → t.next_put ≡ s.next_put → t.puts ≡ s.puts → t.pending ≡ s.pending → (row : Row) → IsOwn s row → IsOwn t row
same s t n p q row h = record {
  begun = rw n h.begun;
  own = rw (p, q) h.own;
}

named_left : (s t : State) (id : PieceId) → t.next_put ≡ s.next_put → t.puts ≡ s.puts → t.pending ≡ s.pending → t.rows ≡ without id s.rows → IsNamed s → IsNamed t
named_left s t id n p q r h = subst (AllByRecursion (IsOwn t)) (sym r) (all_as (IsOwn s) (IsOwn t) (same s t n p q) (without id s.rows) (all_left (IsOwn s) id s.rows h))

named_same : (s t : State) → t.next_put ≡ s.next_put → t.puts ≡ s.puts → t.pending ≡ s.pending → t.rows ≡ s.rows → IsNamed s → IsNamed t
named_same s t n p q r h = subst (AllByRecursion (IsOwn t)) (sym r) (all_as (IsOwn s) (IsOwn t) (same s t n p q) s.rows h)

-- a piece that is copied keeps its name
moved_in : (P : Row → Type 0) (rows : List Row) (place : ℕ) (digest : Digest) (o : Option Row) → ((row : Row) → P row → P (moved_row place digest row))
    → AllByRecursion P rows → ((row : Row) → o ≡ Some row → P row) → AllByRecursion P (rows ++ map (moved_row place digest) (option_to_list o))
moved_in P rows place digest None keeps all h = subst (AllByRecursion P) (sym (append-nil rows)) all
moved_in P rows place digest (Some row) keeps all h = each_push P rows (moved_row place digest row) all (keeps row (h row refl))

named_moved : (s : State) (piece : PieceId) (from place : ℕ) (digest : Digest) → IsNamed s → IsNamed (state_after s (rec.Moved piece from place digest))
named_moved s piece from place digest h =
    let t : State = state_after s (rec.Moved piece from place digest) in
    let kept : (row : Row) → IsOwn s row → IsOwn t row = same s t refl refl refl in
    moved_in (IsOwn t) (without piece s.rows) place digest (row_of s piece) (λ row own. record { begun = own.begun; own = own.own })
    (all_as (IsOwn s) (IsOwn t) kept (without piece s.rows) (all_left (IsOwn s) piece s.rows h)) (λ row found. kept row (found_row (IsOwn s) piece s.rows row h found))

pub name_left : (s : State) (r : Rec) → leaves_names r ≡ true → IsNamed s → IsNamed (state_after s r)
name_left s (rec.Began cursor floor) h named = named_same s _ refl refl refl refl named
name_left s (rec.Moved piece from place digest) h named = named_moved s piece from place digest named
name_left s (rec.Unsaved piece place fault) h named = named_same s _ refl refl refl refl named
name_left s (rec.Displaced piece segment live) h named = named_left s _ piece refl refl refl refl named
name_left s (rec.Damaged piece place kept other) h named = named_left s _ piece refl refl refl refl named
name_left s (rec.Removed put key) h named = named_left s _ (vector_piece key put) refl refl refl refl named
name_left s (rec.ReadOpened reader actor key request answer) h named = named_same s _ refl refl refl refl named
name_left s (rec.Gave reader index length) h named = named_same s _ refl refl refl refl named
name_left s (rec.Ended reader length) h named = named
name_left s (rec.Waited reader cut) h named = named
name_left s (rec.Broke reader why) h named = named
name_left s (rec.ReadClosed reader) h named = named_same s _ refl refl refl refl named
name_left s (rec.SyncBegun serial cursor clean in_parts) h named = named_same s _ refl refl refl refl named
name_left s (rec.SyncDone serial) h named = named_same s _ refl refl refl refl named
name_left s (rec.Fault count) h named = named_same s _ refl refl refl refl named
name_left s _ h named = cc

abbrev pub AllLeaveNames : List Rec → Type 0
AllLeaveNames recs = AllByRecursion (λ r. leaves_names r ≡ true) recs

names_left : (s : State) (recs : List Rec) → AllLeaveNames recs → IsNamed s → IsNamed (after_all s recs)
names_left s [] all h = h
names_left s (r ∷ recs) all h = names_left (state_after s r) recs all.1 (name_left s r all.0 h)

pub named_with : (k new : Kept) (recs : List Rec) → new ≡ with_records k recs → AllLeaveNames recs → IsNamed (state_of k) → IsNamed (state_of new)
named_with k new recs is all h = subst IsNamed (sym (ap state_of is ∙ state_of-with_records k recs)) (names_left (state_of k) recs all h)

pub named_behind : (k new : Kept) (r : Rec) → new ≡ with_records k (r ∷ []) → IsNamed (state_after (state_of k) r) → IsNamed (state_of new)
named_behind k new r is h = subst IsNamed (sym (ap state_of is ∙ state_of-with_records k (r ∷ []))) h

-- ---- a put that begins

found_later : (put q : ℕ) (row : PutRow) (puts : List PutRow) → row.put ≡ put → q < put → find (λ p. p.put == q) (row ∷ puts) ≡ find (λ p. p.put == q) puts
found_later put q row puts is below = by (row.put == q) refl
  where
    by : (b : Bool) → (row.put == q) ≡ b → cond b (Some row) (find (λ p. p.put == q) puts) ≡ find (λ p. p.put == q) puts
    by true e = let clash : row.put ≡ q = eqb-true row.put q e in absurd (omega (arith, clash, is, below))
    by false e = refl

pub named_opened : (s : State) (who : Actor) (key : Key) (request response : List Field) (pin : ℕ) → IsNamed s → IsNamed (state_after s (rec.WriteOpened who s.next_put key request response pin))
named_opened s who key request response pin h =
    all_as (IsOwn s) (IsOwn (state_after s (rec.WriteOpened who s.next_put key request response pin)))
    (λ row own. record {
      begun = λ few. let begun : row.id.put < s.next_put = own.begun few in omega (arith, begun);
      own = λ few. rw (found_later s.next_put row.id.put (opened_put who.0 s.next_put key request response pin) s.puts refl (own.begun few)) (own.own few);
    }) s.rows h

-- ---- a put that changes

own_changed : (f : PutRow → PutRow) (b : Bool) (x : Option PutRow) (old new : Option PieceId) (id : PieceId)
    → (b ≡ true → IsOwnOf x old id → IsOwnOf (option_map f x) new id) → (b ≡ false → IsOwnOf x old id → IsOwnOf x new id)
    → IsOwnOf x old id → IsOwnOf (cond b (option_map f x) x) new id
own_changed f true x old new id here there h = here refl h
own_changed f false x old new id here there h = there refl h

named_changed : (s : State) (put : ℕ) (f : PutRow → PutRow) (pending : Option PieceId) (rows : List Row) → ((w : PutRow) → (f w).put ≡ w.put)
    → ((x : Option PutRow) (id : PieceId) → IsOwnOf x s.pending id → IsOwnOf (option_map f x) pending id)
    → ((x : Option PutRow) (row : Row) → (put == row.id.put) ≡ false → IsOwnOf x s.pending row.id → IsOwnOf x pending row.id)
    → AllByRecursion (IsOwn s) rows → AllByRecursion (IsOwn (record s { puts = change_put put f s.puts; pending = pending })) rows
named_changed s put f pending rows keeps here there all =
    all_as (IsOwn s) (IsOwn (record s { puts = change_put put f s.puts; pending = pending }))
    (λ row own. record {
      begun = own.begun;
      own = λ few. rw (find-changed (λ (p : PutRow). p.put) f keeps put row.id.put s.puts)
          (own_changed f (put == row.id.put) (put_of s row.id.put) s.pending pending row.id (λ b x. here (put_of s row.id.put) row.id x) (λ b x. there (put_of s row.id.put) row b x) (own.own few));
    }) rows all

longer : (row : TableRow) (pending : Option PieceId) (x : Option PutRow) (id : PieceId) → IsOwnOf x pending id → IsOwnOf (option_map (with_cut row) x) pending id
longer row pending None id h = tt
longer row pending (Some w) id h = λ o.
    let own : IsPieceOf w pending id = h o in
    let count : length (w.cuts ++ row ∷ []) ≡ length w.cuts + 1 = length-append w.cuts (row ∷ []) in
    let cut : id.index ≤ length w.cuts = own.cut in
    record { cut = omega (arith, count, cut); vector = own.vector }

-- a fragment is cut
pub named_cut : (s : State) (put index length : ℕ) (digest : Digest) → IsNamed s → IsNamed (state_after s (rec.Cut put index length digest))
named_cut s put index length digest h =
    let entry : TableRow = made_row length digest.0 in
    all_as (IsOwn (record s { puts = change_put put (with_cut entry) s.puts; pending = s.pending })) (IsOwn (state_after s (rec.Cut put index length digest))) (λ row own. record { begun = own.begun; own = own.own }) s.rows
    (named_changed s put (with_cut entry) s.pending s.rows (λ w. refl) (longer entry s.pending) (λ x row e own. own) h)

ended : (writing : Writing) → (writing ≡ Open → ⊥) → (old new : Option PieceId) (x : Option PutRow) (id : PieceId) → IsOwnOf x old id → IsOwnOf (option_map (with_writing writing) x) new id
ended writing over old new None id h = tt
ended writing over old new (Some w) id h = λ o. absurd (over o)

-- a put is given up
pub named_aborted : (s : State) (put : ℕ) (key : Key) → IsNamed s → IsNamed (state_after s (rec.Aborted put key))
named_aborted s put key h =
    all_as (IsOwn (record s { puts = change_put put (with_writing GivenUp) s.puts; pending = s.pending })) (IsOwn (state_after s (rec.Aborted put key))) (λ row own. record { begun = own.begun; own = own.own }) s.rows
    (named_changed s put (with_writing GivenUp) s.pending s.rows (λ w. refl) (ended GivenUp (λ e. cc) s.pending s.pending) (λ x row e own. own) h)

-- a pending vector is that of its put
other_vector : (pending : Option PieceId) (key : Key) (put : ℕ) (x : Option PutRow) (id : PieceId) → pending ≡ Some (vector_piece key put) → (put == id.put) ≡ false → IsOwnOf x pending id → IsOwnOf x None id
other_vector pending key put None id is other h = tt
other_vector pending key put (Some w) id is other h = λ o.
    let own : IsPieceOf w pending id = h o in
    record {
      cut = own.cut;
      vector = λ v.
          let clash : Some (vector_piece key put) ≡ Some id = sym is ∙ own.vector v in
          let name : vector_piece key put ≡ id = cc in
          let number : put ≡ id.put = ap (λ (i : PieceId). i.put) name in
          absurd (not_other put id.put other number);
    }
  where
    not_other : (a b : ℕ) → (a == b) ≡ false → a ≡ b → ⊥
    not_other a b e f = let t : (a == b) ≡ true = Rattle.std.proofs.lemmas.Bool.eq-eqb a b f in cc

earlier_left : (P : Row → Type 0) (key : Key) (put : ℕ) (last : Option LastVector) (rows : List Row) → AllByRecursion P rows → AllByRecursion P (without_earlier key put last rows)
earlier_left P key put None rows all = all
earlier_left P key put (Some (TakenOut old)) rows all = all
earlier_left P key put (Some (Complete old)) rows all = by (old == put)
  where
    by : (b : Bool) → AllByRecursion P (if b then rows else without (vector_piece key old) rows)
    by true = all
    by false = all_left P (vector_piece key old) rows all

-- a put is complete
pub named_committed : (s : State) (put length : ℕ) (key : Key) (list : List Stored) → s.pending ≡ Some (vector_piece key put) → IsNamed s → IsNamed (state_after s (rec.Committed put key length list))
named_committed s put length key list is h =
    all_as (IsOwn (record s { puts = change_put put (with_writing Closed) s.puts; pending = None })) (IsOwn (state_after s (rec.Committed put key length list))) (λ row own. record { begun = own.begun; own = own.own })
    (without_earlier key put (last_vector s key) s.rows)
    (named_changed s put (with_writing Closed) None (without_earlier key put (last_vector s key) s.rows) (λ w. refl) (ended Closed (λ e. cc) s.pending None) (λ x row e own. other_vector s.pending key put x row.id is e own)
    (earlier_left (IsOwn s) key put (last_vector s key) s.rows h))

-- ---- a piece that is placed

-- nothing is pending, so no other vector of an open put stands
none_pending : (pending new : Option PieceId) (x : Option PutRow) (id : PieceId) → pending ≡ None → IsOwnOf x pending id → IsOwnOf x new id
none_pending pending new None id is h = tt
none_pending pending new (Some w) id is h = λ o.
    let own : IsPieceOf w pending id = h o in
    record { cut = own.cut; vector = λ v. let clash : None ≡ Some id = sym is ∙ own.vector v in cc }

pub named_placed : (s : State) (id : PieceId) (place blocks pin : ℕ) (digest : Digest) (w : PutRow) → IsNamed s → s.pending ≡ None → id.put < s.next_put → put_of s id.put ≡ Some w → id.index ≤ length w.cuts
    → IsNamed (state_after s (rec.Placed id place blocks digest pin))
named_placed s id place blocks pin digest w h quiet begun found cut =
    let t : State = state_after s (rec.Placed id place blocks digest pin) in
    each_push (IsOwn t) (without id s.rows) (placed_row s id place blocks digest pin)
    (all_as (IsOwn s) (IsOwn t) (λ row own. record { begun = own.begun; own = λ few. none_pending s.pending t.pending (put_of s row.id.put) row.id quiet (own.own few) }) (without id s.rows) (all_left (IsOwn s) id s.rows h))
    (record {
      begun = λ few. begun;
      own = λ few. rw found (λ o. record { cut = cut; vector = λ v. rw v refl });
    })

-- ---- what is not there

none_by : (id : PieceId) (row : Row) (rest : Option Row) (b : Bool) → same_piece row.id id ≡ b → (row.id ≡ id → ⊥) → rest ≡ None → cond b (Some row) rest ≡ None
none_by id row rest true e not h = absurd (not (same_piece-true row.id id e))
none_by id row rest false e not h = h

none_in : (id : PieceId) (rows : List Row) → AllByRecursion (λ (row : Row). row.id ≡ id → ⊥) rows → row_in rows id ≡ None
none_in id [] all = refl
none_in id (row ∷ rows) all = none_by id row (row_in rows id) (same_piece row.id id) refl all.0 (none_in id rows all.1)

own_of : (s : State) (id : PieceId) (w : PutRow) (row : Row) → put_of s id.put ≡ Some w → w.writing ≡ Open → id.index ≤ most_fragments → row.id ≡ id → IsOwn s row → IsPieceOf w s.pending id
own_of s id w row found o few is own =
    let there : IsOwnOf (put_of s id.put) s.pending id =
    subst (λ (i : PieceId). i.index ≤ most_fragments → IsOwnOf (put_of s i.put) s.pending i) is own.own few in
    (subst (λ x. IsOwnOf x s.pending id) found there) o

-- the next fragment of a put stands nowhere
pub fragment_nowhere : (s : State) (id : PieceId) (pin start : ℕ) (payload : List ℕ) → IsFragmentOf s id pin start payload → IsNamed s → row_of s id ≡ None
fragment_nowhere s id pin start payload f h =
    none_in id s.rows (all_as (IsOwn s) (λ (row : Row). row.id ≡ id → ⊥)
    (λ row own is.
    let piece : IsPieceOf f.w s.pending id = own_of s id f.w row f.next.writing.found f.next.writing.is_open (omega (arith, f.next.next, f.next.few)) is own in
    let cut : id.index ≤ length f.w.cuts = piece.cut in
    let next : id.index ≡ length f.w.cuts + 1 = f.next.next in
    omega (arith, cut, next)) s.rows h)

-- nor does the vector of an open put
pub vector_nowhere : (s : State) (id : PieceId) (start : ℕ) (payload : List ℕ) → IsVectorFor s id start payload → is_vector id ≡ true → IsNamed s → row_of s id ≡ None
vector_nowhere s id start payload v kind h =
    none_in id s.rows (all_as (IsOwn s) (λ (row : Row). row.id ≡ id → ⊥)
    (λ row own is.
    let first : id.index ≡ 0 = eqb-true id.index 0 kind in
    let piece : IsPieceOf v.w s.pending id = own_of s id v.w row v.writing.found v.writing.is_open (omega (arith, first)) is own in
    let clash : None ≡ Some id = sym v.writing.quiet ∙ piece.vector kind in
    cc) s.rows h)

fewer_blocks : (bytes most : ℕ) → bytes ≤ most → blocks_of bytes ≤ blocks_of most
fewer_blocks bytes most h = omega arith

-- so it is new, and small
pub fragment_new : (s : State) (id : PieceId) (pin start : ℕ) (payload : List ℕ) → IsFragmentOf s id pin start payload → IsNamed s → IsNewPiece s id payload
fragment_new s id pin start payload f h =
    let few : blocks_of (length payload) ≤ blocks_of s.geometry.fragment = fewer_blocks (length payload) s.geometry.fragment f.next.small in
    let fits : blocks_of s.geometry.fragment ≤ s.geometry.agg / 2 = s.geometry.accepted.fragment_fits.1 in
    record { nowhere = fragment_nowhere s id pin start payload f h; small = omega (arith, few, fits) }

pub vector_new : (s : State) (id : PieceId) (start : ℕ) (payload : List ℕ) → IsVectorFor s id start payload → is_vector id ≡ true → IsNamed s → IsNewPiece s id payload
vector_new s id start payload v kind h = record { nowhere = vector_nowhere s id start payload v kind h; small = v.small }

-- ---- a fragment that was cut and placed

some_put : (s : State) (put : ℕ) (w : PutRow) → put_of s put ≡ Some w → IsSome (put_of s put)
some_put s put w h = rw h refl

pub begun_put : (s : State) (a : Actors) (put : ℕ) (w : PutRow) → AreActors s a → put_of s put ≡ Some w → put < s.next_put
begun_put s a put w h found = (was_given (λ (p : PutRow). p.put) put s.next_put s.puts h.puts_fall (some_put s put w found)).1

found_changed : (put : ℕ) (f : PutRow → PutRow) (puts : List PutRow) (w : PutRow) → ((x : PutRow) → (f x).put ≡ x.put) → find (λ p. p.put == put) puts ≡ Some w
    → find (λ p. p.put == put) (change_put put f puts) ≡ Some (f w)
found_changed put f puts w keeps found =
    find-changed (λ (p : PutRow). p.put) f keeps put put puts ∙ rw (eq-eqb put put refl) (ap (option_map f) found)

-- ---- which records leave the names

causes_leave : (row : Row) (why : Cause) → AllLeaveNames (cause_records row why)
causes_leave row (cause.DeviceFault count) = (refl, tt)
causes_leave row (cause.Damaged place kept other) = (refl, tt)
causes_leave row _ = tt

found_leave : (o : Option Row) (answer : Found) → AllLeaveNames (found_records o answer)
found_leave None answer = tt
found_leave (Some row) (found.Found size) = tt
found_leave (Some row) (found.Missing why) = causes_leave row why

pub find_leaves : (s : State) (id : PieceId) (answer : Found) → AllLeaveNames (find_adds s id answer)
find_leaves s id answer = found_leave (live_row_of s id) answer

of_flush : (r : Rec) → IsOfFlush r → leaves_names r ≡ true
of_flush (rec.Began cursor floor) h = refl
of_flush (rec.Moved piece from place digest) h = refl
of_flush (rec.Unsaved piece place fault) h = refl
of_flush (rec.Damaged piece place kept found) h = refl
of_flush (rec.Fault count) h = refl
of_flush _ h = absurd h

pub flush_leaves : (recs : List Rec) → AreOfFlush recs → AllLeaveNames recs
flush_leaves [] all = tt
flush_leaves (r ∷ recs) all = (of_flush r all.0, flush_leaves recs all.1)

-- records of displacements take pieces away, and so leave the names of the others
pub displaced_leaves : (recs : List Rec) → AreOfDisplacement recs → AllLeaveNames recs
displaced_leaves [] all = tt
displaced_leaves (rec.Displaced piece segment live ∷ recs) all = (refl, displaced_leaves recs all.1)
displaced_leaves (_ ∷ recs) all = absurd all.0

pub answer_leaves_names : (s : State) (reader : ℕ) (answer : NextAnswer) → IsNamed s → IsNamed (state_after s (answer_record reader answer))
answer_leaves_names s reader (next.Gave index length) h = name_left s (rec.Gave reader index length) refl h
answer_leaves_names s reader (next.Ended length) h = h
answer_leaves_names s reader (next.Waited cut) h = h
answer_leaves_names s reader (next.Broke why) h = h

-- ---- a fragment behind the flush that it may need

pub geometry_with : (k new : Kept) (recs : List Rec) → new ≡ with_records k recs → AreOfFlush recs → (state_of new).geometry ≡ (state_of k).geometry
geometry_with k new recs is all = ap (λ (t : State). t.geometry) (ap state_of is ∙ state_of-with_records k recs) ∙ (same_puts (state_of k) recs all).geometry

-- it is cut, and placed behind records that leave names and puts, as those of what its entry displaces
named_fragment : (s t : State) (id : PieceId) (place blocks pin size : ℕ) (cut digest : Digest) (w : PutRow) (displaced : List Rec)
    → IsNamed s → s.pending ≡ None → id.put < s.next_put → put_of s id.put ≡ Some w → id.index ≡ length w.cuts + 1 → AllLeaveNames displaced → ((c : State) → SamePuts c (after_all c displaced))
    → t ≡ state_after (after_all (state_after s (rec.Cut id.put id.index size cut)) displaced) (rec.Placed id place blocks digest pin) → IsNamed t
named_fragment s t id place blocks pin size cut digest w displaced h quiet begun found index leave puts is =
    let c : State = state_after s (rec.Cut id.put id.index size cut) in
    let gone : State = after_all c displaced in
    let row : TableRow = made_row size cut.0 in
    let same : SamePuts c gone = puts c in
    let next : gone.next_put ≡ c.next_put = same.next_put in
    let here : put_of c id.put ≡ Some (with_cut row w) = found_changed id.put (with_cut row) s.puts w (λ x. refl) found in
    let there : put_of gone id.put ≡ Some (with_cut row w) = ap (find (λ (p : PutRow). p.put == id.put)) same.puts ∙ here in
    let count : length (w.cuts ++ row ∷ []) ≡ length w.cuts + 1 = length-append w.cuts (row ∷ []) in
    subst IsNamed (sym is)
    (named_placed gone id place blocks pin digest (with_cut row w) (names_left c displaced leave (named_cut s id.put id.index size cut h)) (same.pending ∙ quiet)
    (omega (arith, next, begun)) there (omega (arith, count, index)))

pub fragment_named : (s t : State) (id : PieceId) (place blocks pin start size : ℕ) (payload : List ℕ) (room displaced : List Rec) (cut digest : Digest)
    (f : IsFragmentOf s id pin start payload) → AreOfFlush room → AllLeaveNames displaced → ((c : State) → SamePuts c (after_all c displaced)) → IsNamed s → id.put < s.next_put
    → t ≡ state_after (after_all (state_after (after_all s room) (rec.Cut id.put id.index size cut)) displaced) (rec.Placed id place blocks digest pin) → IsNamed t
fragment_named s t id place blocks pin start size payload room displaced cut digest f kinds leave puts h begun is =
    let behind : State = after_all s room in
    let same : SamePuts s behind = same_puts s room kinds in
    let next : behind.next_put ≡ s.next_put = same.next_put in
    named_fragment behind t id place blocks pin size cut digest f.w displaced (names_left s room (flush_leaves room kinds) h) (same.pending ∙ f.next.writing.quiet)
    (omega (arith, next, begun)) (ap (find (λ (p : PutRow). p.put == id.put)) same.puts ∙ f.next.writing.found) f.next.next leave puts is

-- a vector is placed behind such records
pub vector_named : (s t : State) (id : PieceId) (place blocks pin : ℕ) (digest : Digest) (w : PutRow) (displaced : List Rec) → AllLeaveNames displaced
    → SamePuts s (after_all s displaced) → IsNamed s → s.pending ≡ None → id.put < s.next_put → put_of s id.put ≡ Some w → id.index ≤ length w.cuts
    → t ≡ state_after (after_all s displaced) (rec.Placed id place blocks digest pin) → IsNamed t
vector_named s t id place blocks pin digest w displaced leave same h quiet begun found cut is =
    let gone : State = after_all s displaced in
    let next : gone.next_put ≡ s.next_put = same.next_put in
    subst IsNamed (sym is)
    (named_placed gone id place blocks pin digest w (names_left s displaced leave h) (same.pending ∙ quiet) (omega (arith, next, begun))
    (ap (find (λ (p : PutRow). p.put == id.put)) same.puts ∙ found) cut)
