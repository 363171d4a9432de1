-- The payload of a fragment is the one that its put has cut.
use Rattle.std.proofs.Common.{◌≡◌, ℕ, zero, suc, ◌+◌, ◌-◌, ◌<◌, ◌≤◌, List, [], ◌∷◌, ◌++◌, length, refl, sym, ◌∙◌, ap, subst, arith, Bool, true, false}
use Rattle.std.specs.Prelude.{Option, Some, None, if◌then◌else◌, find, map, option_map, slice_get, ◌==◌}
use Rattle.std.specs.List.{AllByRecursion}
use Rattle.std.proofs.lemmas.Bool.{eqb-true, eq-eqb}
use Rattle.device_log.specs.Calls.{Call}
use Rattle.tape_base.specs.declared.digests.Digest.{Digest}
use Rattle.tape_base.specs.declared.geometries.Geometry.{Geometry}
use Rattle.tape_base.specs.declared.keys.Key.{Key}
use Rattle.tape_base.specs.declared.pieces.PieceId.{PieceId}
use Rattle.tape_base.specs.Digest.{digest_of}
use Rattle.tape_base.specs.Piece.{is_vector, same_piece}
use Rattle.tape_base.proofs.NameLaws.{same_piece-true}
use Rattle.fragment_table.specs.Table.{TableRow, made_row}
use Rattle.alternate_vector.specs.Field.{Field}
use Rattle.cache_model.specs.declared.findings.FoundRow.{FoundRow}
use Rattle.cache_model.specs.declared.record.Rec.{Rec}
use Rattle.cache_model.specs.declared.record.Rec.TheVariants as rec
use Rattle.cache_model.specs.State.{State, Row, PutRow, Closed, GivenUp, after_all, change_put, moved_row, most_fragments, nothing_yet, opened_put, placed_row, put_of, row_in, row_of, row_of_found, state_after, vector_piece, with_cut, with_writing, last_vector}
use Rattle.cache_model.specs.Opening.{Opening}
use Rattle.cache_model.specs.Openings.{IsFoundPiece}
use Rattle.cache_model.specs.Permit.{Permit, Setting, Intent, End, Reason, Work}
use Rattle.cache_model.specs.Room.{MayDisplace, displaced_record}
use Rattle.cache_model.specs.Legal
use Rattle.cache_model.specs.Legal.{Advances, Course, Does, IsLegal, MayGrow, MayOpenWrite, MayPlaceFragment, MayPlaceVector, format_records, more, next_fragment_of, nothing}
use Rattle.cache_model.proofs.Found.{no_truth, none_is, number_of, same_some}
use Rattle.cache_model.proofs.Lists.{found_row, own_piece, row_in-copied, row_in-placed}
use Rattle.cache_model.proofs.Steps.{after_all-append}
use Rattle.session_laws.specs.PayloadLaws.{AreCut, IsCutBy, PutHasCut}
use Rattle.step_laws.specs.VectorLaws.{VectorsAreCounted}
use Rattle.model_laws.proofs.Counted
use Rattle.model_laws.proofs.Counted.{Parts, counted_group, displaced_leaves, legal_counted, parts}
use Rattle.model_laws.proofs.CountedRecords.{AllLeaveCounts, LeavesCounts, changed, earlier_found, find_changed, without_found}

-- ---- lists

get_front : (xs ys : List TableRow) (i : ℕ) (e : TableRow) → slice_get xs i ≡ Some e → slice_get (xs ++ ys) i ≡ Some e
get_front [] ys i e h = none_is h
get_front (x ∷ xs) ys zero e h = h
get_front (x ∷ xs) ys (suc i) e h = get_front xs ys i e h

get_last : (xs : List TableRow) (e : TableRow) → slice_get (xs ++ e ∷ []) (length xs) ≡ Some e
get_last [] e = refl
get_last (x ∷ xs) e = get_last xs e

-- ---- puts that grow

-- what one has cut the other has cut too
abbrev pub Extends : PutRow → PutRow → Type 0
Extends w v = (i : ℕ) (e : TableRow) → slice_get w.cuts i ≡ Some e → slice_get v.cuts i ≡ Some e

abbrev pub Grows : Option PutRow → Option PutRow → Type 0
Grows None None = Unit {0}
Grows None (Some v) = ⊥
Grows (Some w) None = ⊥
Grows (Some w) (Some v) = Extends w v

grows_self : (o : Option PutRow) → Grows o o
grows_self None = tt
grows_self (Some w) = λ i e h. h

grows_on : (o p q : Option PutRow) → Grows o p → Grows p q → Grows o q
grows_on None None None a b = tt
grows_on None None (Some z) a b = absurd b
grows_on None (Some v) q a b = absurd a
grows_on (Some w) None q a b = absurd a
grows_on (Some w) (Some v) None a b = absurd b
grows_on (Some w) (Some v) (Some z) a b = λ i e h. b i e (a i e h)

changed_by : (put : ℕ) (f : PutRow → PutRow) (p : PutRow) (b : Bool) → Extends p (f p) → Extends p (if b then f p else p)
changed_by put f p true h = h
changed_by put f p false h = λ i e k. k

changed_grows : (put : ℕ) (f : PutRow → PutRow) → ((p : PutRow) → Extends p (f p)) → (o : Option PutRow) → Grows o (option_map (changed put f) o)
changed_grows put f h None = tt
changed_grows put f h (Some p) = changed_by put f p (p.put == put) (h p)

-- the put that was there before
was_put : (o : Option PutRow) (v : PutRow) → Grows o (Some v) → (w : PutRow) × (o ≡ Some w) × Extends w v
was_put None v g = absurd g
was_put (Some w) v g = (w, refl, g)

is_put : (w : PutRow) (o : Option PutRow) → Grows (Some w) o → (v : PutRow) × (o ≡ Some v)
is_put w None g = absurd g
is_put w (Some v) g = (v, refl)

-- ---- states

-- the fragments of t are such of s, with their payloads, and no put begins
pub record KeepsCuts (s t : State) : Type 0 where
  pub rows : (id : PieceId) (row : Row) → is_vector id ≡ false → row_of t id ≡ Some row → (old : Row) × (row_of s id ≡ Some old) × (row.payload ≡ old.payload)
  pub puts : (n : ℕ) → Grows (put_of s n) (put_of t n)
  pub next : t.next_put ≡ s.next_put
  pub opened : t.opened ≡ s.opened

keeps_self : (s : State) → KeepsCuts s s
keeps_self s = record { rows = (λ id row fragment found. (row, found, refl)); puts = (λ n. grows_self (put_of s n)); next = refl; opened = refl }

keeps_trans : {s t u : State} → KeepsCuts s t → KeepsCuts t u → KeepsCuts s u
keeps_trans {s} {t} {u} a b = record {
  rows = (λ id row fragment found.
      let mid = b.rows id row fragment found in
      let old = a.rows id mid.0 fragment mid.1 in
      (old.0, old.1, mid.2 ∙ old.2));
  puts = (λ n. grows_on (put_of s n) (put_of t n) (put_of u n) (a.puts n) (b.puts n));
  next = b.next ∙ a.next;
  opened = b.opened ∙ a.opened;
}

pub cut_kept : {s t : State} → KeepsCuts s t → AreCut s → AreCut t
cut_kept {s} {t} k h = record {
  own = (λ id row v fragment few found is.
      let old = k.rows id row fragment found in
      let was = was_put (put_of s id.put) v (subst (Grows (put_of s id.put)) is (k.puts id.put)) in
      let c : IsCutBy was.0 id old.0 = h.own id old.0 was.0 fragment few old.1 was.1 in
      record { entry = c.entry; cut = was.2 _ c.entry c.cut; payload = old.2 ∙ c.payload });
  begun = (λ id row fragment few found. let old = k.rows id row fragment found in rw k.next (h.begun id old.0 fragment few old.1));
  known = (λ none id row fragment found.
      let old = k.rows id row fragment found in
      let was = h.known (sym k.opened ∙ none) id old.0 fragment old.1 in
      (was.0, is_put was.1.0 (put_of t id.put) (subst (λ o. Grows o (put_of t id.put)) was.1.1 (k.puts id.put))));
}

-- ---- records

rows_alone : (s t : State) → t.puts ≡ s.puts → t.next_put ≡ s.next_put → t.opened ≡ s.opened
    → ((id : PieceId) (row : Row) → row_of t id ≡ Some row → (old : Row) × (row_of s id ≡ Some old) × (row.payload ≡ old.payload)) → KeepsCuts s t
rows_alone s t puts next opened rows = record {
  rows = (λ id row fragment found. rows id row found);
  puts = (λ n. subst (λ ps. Grows (put_of s n) (find (λ p. p.put == n) ps)) (sym puts) (grows_self (put_of s n)));
  next = next;
  opened = opened;
}

puts_alone : (s t : State) (put : ℕ) (f : PutRow → PutRow) → ((p : PutRow) → (f p).put ≡ p.put) → ((p : PutRow) → Extends p (f p)) → t.puts ≡ change_put put f s.puts
    → t.next_put ≡ s.next_put → t.opened ≡ s.opened → ((id : PieceId) (row : Row) → row_of t id ≡ Some row → row_of s id ≡ Some row) → KeepsCuts s t
puts_alone s t put f keeps extends puts next opened rows = record {
  rows = (λ id row fragment found. (row, rows id row found, refl));
  puts = (λ n. subst (Grows (put_of s n)) (sym (ap (find (λ q. q.put == n)) puts ∙ find_changed put f keeps n s.puts)) (changed_grows put f extends (put_of s n)));
  next = next;
  opened = opened;
}

moved_by : (s : State) (id : PieceId) (place : ℕ) (digest : Digest) (row : Row) (o : Option Row) (b : Bool) → row_of s id ≡ o
    → (if b then option_map (moved_row place digest) o else o) ≡ Some row → (old : Row) × (row_of s id ≡ Some old) × (row.payload ≡ old.payload)
moved_by s id place digest row (Some old) true e h = (old, e, ap (λ (r : Row). r.payload) (sym (same_some (moved_row place digest old) row _ refl h)))
moved_by s id place digest row None true e h = none_is h
moved_by s id place digest row o false e h = (row, e ∙ h, refl)

keeps_one : (s : State) (r : Rec) → LeavesCounts r → KeepsCuts s (state_after s r)
keeps_one s (rec.Formatted geometry) h = absurd h
keeps_one s (rec.Opened geometry serial cursor floor next_put clean list) h = absurd h
keeps_one s (rec.Placed piece place blocks digest pin) h = absurd h
keeps_one s (rec.WriteOpened actor put key request response pin) h = absurd h
keeps_one s (rec.Committed put key bytes list) h = absurd h
keeps_one s (rec.Moved piece from place digest) h =
    rows_alone s _ refl refl refl (λ id row found. moved_by s id place digest row (row_of s id) (same_piece piece id) refl (sym (row_in-copied piece id s.rows place digest) ∙ found))
keeps_one s (rec.Displaced piece segment live) h = rows_alone s _ refl refl refl (λ id row found. (row, without_found piece id s.rows row found, refl))
keeps_one s (rec.Damaged piece place kept found) h = rows_alone s _ refl refl refl (λ id row there. (row, without_found piece id s.rows row there, refl))
keeps_one s (rec.Removed put key) h = rows_alone s _ refl refl refl (λ id row found. (row, without_found (vector_piece key put) id s.rows row found, refl))
keeps_one s (rec.Cut put index length digest) h =
    puts_alone s _ put (with_cut (made_row length digest.0)) (λ p. refl) (λ p i e k. get_front p.cuts (made_row length digest.0 ∷ []) i e k) refl refl refl (λ id row found. found)
keeps_one s (rec.Aborted put key) h = puts_alone s _ put (with_writing GivenUp) (λ p. refl) (λ p i e k. k) refl refl refl (λ id row found. found)
keeps_one s _ h = rows_alone s _ refl refl refl (λ id row found. (row, found, refl))

pub keeps_all : (s : State) (recs : List Rec) → AllLeaveCounts recs → KeepsCuts s (after_all s recs)
keeps_all s [] h = keeps_self s
keeps_all s (r ∷ recs) h = keeps_trans (keeps_one s r h.0) (keeps_all (state_after s r) recs h.1)

keeps_committed : (s : State) (put : ℕ) (added : List Rec) (e : End) → Legal.DoesCommit s put added e → KeepsCuts s (after_all s added)
keeps_committed s put added e (Legal.DoesCommit.commits w found still pending is) =
    subst (λ recs. KeepsCuts s (after_all s recs)) (sym is)
    (puts_alone s _ put (with_writing Closed) (λ p. refl) (λ p i e k. k) refl refl refl (λ id row there. earlier_found w.key put (last_vector s w.key) s.rows id row there))

-- ---- a put that begins

other_by : (put n : ℕ) (new : PutRow) (o : Option PutRow) (b : Bool) → (put == n) ≡ b → n < put → (if b then Some new else o) ≡ o
other_by put n new o true e below = let same : put ≡ n = eqb-true put n e in absurd (omega (arith, same, below))
other_by put n new o false e below = refl

cut_opened : (s : State) (actor : ℕ) (key : Key) (request response : List Field) (pin : ℕ) (t : State)
    → t ≡ record s { puts = opened_put actor s.next_put key request response pin ∷ s.puts; next_put = s.next_put + 1 } → AreCut s → AreCut t
cut_opened s actor key request response pin t is h =
    let new : PutRow = opened_put actor s.next_put key request response pin in
    subst AreCut (sym is) (record {
      own = (λ id row w fragment few found has.
          h.own id row w fragment few found (sym (other_by s.next_put id.put new (put_of s id.put) (s.next_put == id.put) refl (h.begun id row fragment few found)) ∙ has));
      begun = (λ id row fragment few found. let below = h.begun id row fragment few found in omega (arith, below));
      known = (λ none id row fragment found.
          let was = h.known none id row fragment found in
          (was.0, (was.1.0, other_by s.next_put id.put new (put_of s id.put) (s.next_put == id.put) refl (h.begun id row fragment was.0 found) ∙ was.1.1)));
    })

-- ---- a piece that is placed

-- what is displaced leaves puts as they are, and what was cut last
displaced_leave : (s : State) (segment live : ℕ) (rows : List Row) → ((after_all s (map (displaced_record segment live) rows)).puts ≡ s.puts)
    × ((after_all s (map (displaced_record segment live) rows)).last_cut ≡ s.last_cut)
displaced_leave s segment live [] = (refl, refl)
displaced_leave s segment live (row ∷ rows) = displaced_leave (state_after s (displaced_record segment live row)) segment live rows

pub displaced_left : (p : Permit) (s t : State) (piece : PieceId) (added : List Rec) → MayDisplace p s piece added
    → ((after_all t added).puts ≡ t.puts) × ((after_all t added).last_cut ≡ t.last_cut)
displaced_left p s t piece added m = subst (λ recs. ((after_all t recs).puts ≡ t.puts) × ((after_all t recs).last_cut ≡ t.last_cut)) (sym m.is) (displaced_leave t _ _ m.purged)

vector_by : (piece : PieceId) (placed row : Row) (id : PieceId) (o : Option Row) (b : Bool) → same_piece piece id ≡ b → is_vector piece ≡ true → is_vector id ≡ false
    → (if b then Some placed else o) ≡ Some row → o ≡ Some row
vector_by piece placed row id o true e vector fragment h = no_truth (sym vector ∙ (ap is_vector (same_piece-true piece id e) ∙ fragment))
vector_by piece placed row id o false e vector fragment h = h

keeps_vector : (s : State) (piece : PieceId) (place blocks : ℕ) (digest : Digest) (pin : ℕ) → is_vector piece ≡ true → KeepsCuts s (state_after s (rec.Placed piece place blocks digest pin))
keeps_vector s piece place blocks digest pin vector = record {
  rows = (λ id row fragment found. (
    row,
    vector_by piece (placed_row s piece place blocks digest pin) row id (row_of s id) (same_piece piece id) refl vector fragment
        (sym (row_in-placed id s.rows (placed_row s piece place blocks digest pin)) ∙ found),
    refl,
  ));
  puts = (λ n. grows_self (put_of s n));
  next = refl;
  opened = refl;
}

cut_vector : (p : Permit) (s : State) (put fragments : ℕ) (added : List Rec) → MayPlaceVector p s put fragments added → KeepsCuts s (after_all s added)
cut_vector p s put fragments added m =
    let u : State = after_all s m.displaced in
    subst (KeepsCuts s) (sym (ap (after_all s) m.is ∙ after_all-append s m.displaced _))
    (keeps_trans (keeps_all s m.displaced (displaced_leaves p s _ m.displaced m.displaces)) (keeps_vector u (vector_piece m.w.key put) _ _ _ _ refl))

-- a fragment of a put that has just cut it is placed
module _ (s : State) (w : PutRow) (put : ℕ) (entry : TableRow) (cuts : put_of s put ≡ Some (with_cut entry w)) (number : w.put ≡ put) (below : put < s.next_put)
    (few : length w.cuts < most_fragments) (last : s.last_cut ≡ Some entry) (h : AreCut s) (place blocks : ℕ) (digest : Digest) (pin : ℕ) where
  abbrev piece : PieceId
  piece = next_fragment_of w

  abbrev placed : Row
  placed = placed_row s piece place blocks digest pin

  abbrev behind : State
  behind = state_after s (rec.Placed piece place blocks digest pin)

  found_as : (id : PieceId) (row : Row) → row_of behind id ≡ Some row → (if same_piece piece id then Some placed else row_of s id) ≡ Some row
  found_as id row found = sym (row_in-placed id s.rows placed) ∙ found

  has_put : (id : PieceId) → piece ≡ id → put_of s id.put ≡ Some (with_cut entry w)
  has_put id same = ap (λ (i : PieceId). put_of s i.put) (sym same) ∙ (ap (put_of s) number ∙ cuts)

  payload_is : (id : PieceId) → piece ≡ id → is_vector id ≡ false → placed.payload ≡ Some entry
  payload_is id same fragment = ap (λ b. if b then None else s.last_cut) (ap is_vector same ∙ fragment) ∙ last

  cut_at : (id : PieceId) → piece ≡ id → slice_get (w.cuts ++ entry ∷ []) (id.index - 1) ≡ Some entry
  cut_at id same =
      let index : id.index ≡ length w.cuts + 1 = ap (λ (i : PieceId). i.index) (sym same) in
      let at : id.index - 1 ≡ length w.cuts = omega (arith, index) in
      ap (slice_get (w.cuts ++ entry ∷ [])) at ∙ get_last w.cuts entry

  own_by : (id : PieceId) (row : Row) (v : PutRow) (b : Bool) → same_piece piece id ≡ b → is_vector id ≡ false → id.index ≤ most_fragments
      → (if b then Some placed else row_of s id) ≡ Some row → put_of s id.put ≡ Some v → IsCutBy v id row
  own_by id row v true e fragment small found has_it =
      let same : piece ≡ id = same_piece-true piece id e in
      let its : placed ≡ row = same_some placed row _ refl found in
      let put_is : with_cut entry w ≡ v = same_some (with_cut entry w) v _ (has_put id same) has_it in
      record {
        entry = entry;
        cut = subst (λ (x : PutRow). slice_get x.cuts (id.index - 1) ≡ Some entry) put_is (cut_at id same);
        payload = ap (λ (r : Row). r.payload) (sym its) ∙ payload_is id same fragment;
      }
  own_by id row v false e fragment small found has_it = h.own id row v fragment small found has_it

  begun_by : (id : PieceId) (row : Row) (b : Bool) → same_piece piece id ≡ b → is_vector id ≡ false → id.index ≤ most_fragments
      → (if b then Some placed else row_of s id) ≡ Some row → id.put < s.next_put
  begun_by id row true e fragment small found =
      let its : w.put ≡ id.put = ap (λ (i : PieceId). i.put) (same_piece-true piece id e) in
      omega (arith, its, number, below)
  begun_by id row false e fragment small found = h.begun id row fragment small found

  known_by : s.opened ≡ None → (id : PieceId) (row : Row) (b : Bool) → same_piece piece id ≡ b → is_vector id ≡ false
      → (if b then Some placed else row_of s id) ≡ Some row → (id.index ≤ most_fragments) × ((v : PutRow) × (put_of s id.put ≡ Some v))
  known_by none id row true e fragment found =
      let same : piece ≡ id = same_piece-true piece id e in
      let index : id.index ≡ length w.cuts + 1 = ap (λ (i : PieceId). i.index) (sym same) in
      (omega (arith, index, few), (with_cut entry w, has_put id same))
  known_by none id row false e fragment found = h.known none id row fragment found

  placed_is_cut : AreCut behind
  placed_is_cut = record {
    own = (λ id row v fragment small found has_it. own_by id row v (same_piece piece id) refl fragment small (found_as id row found) has_it);
    begun = (λ id row fragment small found. begun_by id row (same_piece piece id) refl fragment small (found_as id row found));
    known = (λ none id row fragment found. known_by none id row (same_piece piece id) refl fragment (found_as id row found));
  }

cut_fragment : (p : Permit) (s : State) (put index : ℕ) (payload : List ℕ) (added : List Rec) → VectorsAreCounted s → MayPlaceFragment p s put index payload added → AreCut s → AreCut (after_all s added)
cut_fragment p s put index payload added counted m h =
    let entry : TableRow = made_row (length payload) (digest_of payload).0 in
    let cut : Rec = rec.Cut put index (length payload) (digest_of payload) in
    let t : State = state_after s cut in
    let u : State = after_all t m.displaced in
    let left = displaced_left p s t _ m.displaced m.displaces in
    let kept : KeepsCuts s u = keeps_trans (keeps_one s cut tt) (keeps_all t m.displaced (displaced_leaves p s _ m.displaced m.displaces)) in
    let number : m.w.put ≡ put = number_of s put m.w m.cut.writing.found in
    let found : put_of u put ≡ Some (with_cut entry m.w) =
    ap (find (λ q. q.put == put)) left.0 ∙ (find_changed put (with_cut entry) (λ q. refl) put s.puts
    ∙ (ap (option_map (changed put (with_cut entry))) m.cut.writing.found ∙ ap (λ b. Some (if b then with_cut entry m.w else m.w)) (eq-eqb m.w.put put number))) in
    let below : put < u.next_put = rw kept.next (counted.earlier put m.w m.cut.writing.found) in
    subst AreCut (sym (ap (after_all s) m.is ∙ after_all-append t m.displaced _))
    (placed_is_cut u m.w put entry found number below m.cut.few left.1 (cut_kept kept h) _ _ _ _)

-- ---- groups and steps

pub cut_part : (p : Permit) (s : State) (added : List Rec) (e : End) → VectorsAreCounted s → Parts p s added e → AreCut s
    → AreCut (after_all s added)
cut_part p s added e counted (Counted.Parts.left all) h = cut_kept (keeps_all s added all) h
cut_part p s added e counted (Counted.Parts.opens {key = key} {request = request} {response = response} {pin = pin} m) h =
    subst (λ recs. AreCut (after_all s recs)) (sym m.is) (cut_opened s m.who.0 key request response pin _ refl h)
cut_part p s added e counted (Counted.Parts.cuts put index payload m) h = cut_fragment p s put index payload added counted m h
cut_part p s added e counted (Counted.Parts.lists put fragments m) h = cut_kept (cut_vector p s put fragments added m) h
cut_part p s added e counted (Counted.Parts.commits put d) h = cut_kept (keeps_committed s put added e d) h

-- what a group leaves, with the numbers of puts
abbrev Both : State → Type 0
Both s = VectorsAreCounted s × AreCut s

cut_advanced : (p : Permit) (s : State) (is : List Intent) (why : Option Reason) (added : List Rec) (after : Work) → Advances p s is why added after → Both s → Both (after_all s added)
cut_advanced p s [] why added after a h = absurd a
cut_advanced p s (i ∷ is) why added after a h = (counted_group p s i added a.0 h.0 a.1, cut_part p s added a.0 h.0 (parts p s i added a.0 a.1) h.1)

cut_grown : {p : Permit} {s : State} {w after : Work} {recs : List Rec} → MayGrow p s w recs after → Both s → Both (after_all s recs)
cut_grown nothing h = h
cut_grown {p} {s} {w} (more {rest = tail} added between one others) h =
    subst Both (sym (after_all-append s added tail)) (cut_grown others (cut_advanced p s w.intents w.refused added between one h))

-- ---- sessions

-- a found fragment is of an earlier put
earlier_row : (g : Geometry) (o : Opening) (found : List FoundRow) → AllByRecursion (IsFoundPiece g o) found
    → AllByRecursion (λ (row : Row). row.id.index ≤ most_fragments → row.id.put < o.next_put) (map row_of_found found)
earlier_row g o [] each = tt
earlier_row g o (f ∷ found) each = ((λ few. (each.0.number few).1), earlier_row g o found each.1)

begun_found : (g : Geometry) (o : Opening) (id : PieceId) (row : Row) → AllByRecursion (IsFoundPiece g o) o.found → id.index ≤ most_fragments
    → row_in (map row_of_found o.found) id ≡ Some row → id.put < o.next_put
begun_found g o id row each few found =
    let own : row.id ≡ id = own_piece id (map row_of_found o.found) row found in
    let before = found_row (λ (r : Row). r.id.index ≤ most_fragments → r.id.put < o.next_put) id (map row_of_found o.found) row (earlier_row g o o.found each) found in
    subst (λ (i : PieceId). i.index ≤ most_fragments → i.put < o.next_put) own before few

pub payloads_are_cut : (setting : Setting) (past : List Call) (courses : List Course) (recs : List Rec) → IsLegal setting past courses recs → AreCut (after_all nothing_yet recs)
payloads_are_cut setting past courses recs (Legal.IsLegal.begins geometry) = record {
  own = (λ id row w fragment few found has_it. none_is found);
  begun = (λ id row fragment few found. none_is found);
  known = (λ none id row fragment found. none_is found);
}
payloads_are_cut setting past courses recs (Legal.IsLegal.opens geometry o opening) = record {
  own = (λ id row w fragment few found has_it. none_is has_it);
  begun = (λ id row fragment few found. begun_found geometry o id row opening.each few found);
  known = (λ none id row fragment found. none_is (sym none));
}
payloads_are_cut setting past courses recs (Legal.IsLegal.steps {courses = earlier} {before = before} {added = added} course e legal step) =
    subst AreCut (sym (after_all-append nothing_yet before added))
    (cut_grown step.grows (legal_counted setting _ earlier before legal, payloads_are_cut setting _ earlier before legal)).1
payloads_are_cut setting past courses recs (Legal.IsLegal.tells call is legal) = payloads_are_cut setting _ courses recs legal

pub formatted_are_cut : (setting : Setting) (past : List Call) (courses : List Course) (recs : List Rec) (id : PieceId) (row : Row) → IsLegal setting past courses recs
    → (after_all nothing_yet recs).opened ≡ None → is_vector id ≡ false → row_of (after_all nothing_yet recs) id ≡ Some row → PutHasCut (after_all nothing_yet recs) id row
formatted_are_cut setting past courses recs id row legal none fragment found =
    let h : AreCut (after_all nothing_yet recs) = payloads_are_cut setting past courses recs legal in
    let k = h.known none id row fragment found in
    record { w = k.1.0; put = k.1.1; cut = h.own id row k.1.0 fragment k.0 found k.1.1 }
