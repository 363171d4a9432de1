-- Vectors that stand state the lengths with which the fragments of their alternates are recorded.
use Rattle.std.proofs.Common.{◌≡◌, ◌⊎◌, ℕ, ◌+◌, ◌-◌, ◌<◌, ◌==◌, List, [], ◌∷◌, ◌++◌, length, refl, sym, ◌∙◌, ap, subst, arith, inl, inr, Bool, true, false}
use Rattle.std.specs.Prelude.{Option, Some, None, IfSome, if◌then◌else◌, filter, find, map, nat_le, option_map, option_to_list, slice_get, unwrap_or}
use Rattle.std.specs.List.{AllByRecursion}
use Rattle.std.proofs.lemmas.Bool.{eq-eqb, eqb-true, ne_eqb}
use Rattle.device_log.specs.Calls.{Call}
use Rattle.tape_base.specs.declared.digests.Digest.{Digest}
use Rattle.tape_base.specs.declared.keys.Key.{Key}
use Rattle.tape_base.specs.declared.pieces.PieceId.{PieceId}
use Rattle.tape_base.specs.Digest.{digest_of}
use Rattle.tape_base.specs.Key.{same_key}
use Rattle.tape_base.specs.Piece.{is_vector}
use Rattle.tape_base.proofs.NameLaws.{same_key-same, same_key-true}
use Rattle.fragment_table.specs.Table.{TableRow, made_row, total_length}
use Rattle.alternate_vector.specs.Field.{Field}
use Rattle.alternate_vector.specs.Alternates.{Stored}
use Rattle.cache_model.specs.declared.findings.FoundRow.{FoundRow}
use Rattle.cache_model.specs.declared.record.Rec.{Rec}
use Rattle.cache_model.specs.declared.record.Rec.TheVariants as rec
use Rattle.cache_model.specs.State.{State, Mark, Row, PutRow, LastVector, Complete, TakenOut, Closed, GivenUp, Open, after_all, alternate_of, is_live, last_vector, list_among, list_of_last, list_of_piece, list_of_put, list_of_row, live_rows, low_of_sync, merged_list, most_payload, moved_row, nothing_yet, opened_put, placed_row, put_of, row_in, row_of, row_of_found, state_after, vector_piece, with_cut, with_writing, without, without_earlier}
use Rattle.cache_model.specs.Opening.{Opening}
use Rattle.cache_model.specs.Openings.{AreLengthsStated, StatesLength, StatesLengths}
use Rattle.cache_model.specs.Permit.{Permit, Setting, Intent, IsAmong, End, Reason, Work}
use Rattle.cache_model.specs.Tape.{AreApart}
use Rattle.cache_model.specs.Legal
use Rattle.cache_model.specs.Legal.{Advances, Course, Does, IsLegal, IsQuiet, MayGrow, MayOpenWrite, MayPlaceFragment, MayPlaceVector, more, next_fragment_of, nothing}
use Rattle.cache_model.proofs.FewerRows.{row_among}
use Rattle.cache_model.proofs.Found.{no_truth, none_is, number_of, same_some}
use Rattle.cache_model.proofs.Lists.{own_piece}
use Rattle.cache_model.proofs.Rows.{part-filter, part-trans}
use Rattle.cache_model.proofs.SoundFlush.{among_part}
use Rattle.cache_model.proofs.Steps.{after_all-append, all_append, all_as}
use Rattle.cache_model.proofs.Walks.{all_among, among_found}
use Rattle.model_laws.proofs.Among.{among_rest}
use Rattle.model_laws.proofs.Counted
use Rattle.model_laws.proofs.Counted.{Groups, counted_group, displaced_leave_vectors, groups, legal_counted, parts}
use Rattle.model_laws.proofs.CountedRecords.{AllLeaveVectors, LeavesVectors, changed, find_changed, leave_counts}
use Rattle.model_laws.proofs.Quiet.{quiet_or_commits}
use Rattle.step_laws.specs.VectorLaws.{VectorsAreCounted}
use Rattle.session_laws.specs.MarkLaws.{IsBegunBefore, IsOfBegun, IsOpenable, MarksAreOpenable, NamesBegun, AreOneOfEach, StateLengths, StatesFragment, StatesFragments}
use Rattle.session_laws.specs.PayloadLaws.{AreCut}
use Rattle.session_laws.proofs.Asks.{among_holds}
use Rattle.session_laws.proofs.Begun.{AreOfBegun, begun_part, each_merged, legal_begun}
use Rattle.session_laws.proofs.OneVector.{HasOneVector, all_left, by_group, legal_one, still_quiet}
use Rattle.session_laws.proofs.Payloads.{cut_kept, cut_part, displaced_left, keeps_all, payloads_are_cut}

-- ---- among rows

among_either : (x : Row) (xs ys : List Row) → IsAmong x (xs ++ ys) → IsAmong x xs ⊎ IsAmong x ys
among_either x [] ys m = inr m
among_either x (z ∷ xs) ys (inl same) = inl (inl same)
among_either x (z ∷ xs) ys (inr m) = elim (among_either x xs ys m) [
  | inl front ↦ inl (inr front)
  | inr behind ↦ inr behind
]

among_first : (x : Row) (xs ys : List Row) → IsAmong x xs → IsAmong x (xs ++ ys)
among_first x [] ys m = absurd m
among_first x (z ∷ xs) ys (inl same) = inl same
among_first x (z ∷ xs) ys (inr m) = inr (among_first x xs ys m)

both_as : (P Q R : Stored → Type 0) → ((a : Stored) → P a → Q a → R a) → (list : List Stored) → AllByRecursion P list → AllByRecursion Q list → AllByRecursion R list
both_as P Q R joins [] one other = tt
both_as P Q R joins (a ∷ list) one other = (joins a one.0 other.0, both_as P Q R joins list one.1 other.1)

-- all that may be listed of what stands, or was displaced by the insert that goes on
abbrev listing : State → List Row
listing s = s.displaced ++ s.rows

-- ---- rows that are like others

-- the row is one of these but for its place
record IsLike (row : Row) (rows : List Row) : Type 0 where
  old : Row
  among : IsAmong old rows
  id : row.id ≡ old.id
  payload : row.payload ≡ old.payload
  alternates : row.alternates ≡ old.alternates

itself : (row : Row) (rows : List Row) → IsAmong row rows → IsLike row rows
itself row rows m = record { old = row; among = m; id = refl; payload = refl; alternates = refl }

record LikeRows (s t : State) : Type 0 where
  rows : (y : Row) → IsAmong y t.rows → IsLike y s.rows
  listing : (x : Row) → IsAmong x (listing t) → IsLike x (listing s)

like_trans : (row : Row) (some all : List Row) → ((x : Row) → IsAmong x some → IsLike x all) → IsLike row some → IsLike row all
like_trans row some all step h =
    let o = step h.old h.among in
    record { old = o.old; among = o.among; id = h.id ∙ o.id; payload = h.payload ∙ o.payload; alternates = h.alternates ∙ o.alternates }

like_self : (s : State) → LikeRows s s
like_self s = record { rows = λ y m. itself y s.rows m; listing = λ x m. itself x (listing s) m }

like_then : (s t u : State) → LikeRows s t → LikeRows t u → LikeRows s u
like_then s t u a b = record {
  rows = λ y m. like_trans y t.rows s.rows a.rows (b.rows y m);
  listing = λ x m. like_trans x (listing t) (listing s) a.listing (b.listing x m);
}

-- the rows are like those before, and what was displaced is, too
like_of : (s t : State) → ((y : Row) → IsAmong y t.rows → IsLike y s.rows) → ((x : Row) → IsAmong x t.displaced → IsLike x (listing s)) → LikeRows s t
like_of s t rows gone = record {
  rows = rows;
  listing = λ x m. elim (among_either x t.displaced t.rows m) [
    | inl front ↦ gone x front
    | inr behind ↦
        let l = rows x behind in
        record { old = l.old; among = among_rest l.old s.displaced s.rows l.among; id = l.id; payload = l.payload; alternates = l.alternates }
  ];
}

was_displaced : (s : State) (x : Row) → IsAmong x s.displaced → IsLike x (listing s)
was_displaced s x m = itself x (listing s) (among_first x s.displaced s.rows m)

passing_like : (test : Row → Bool) (rows : List Row) (y : Row) → IsAmong y (filter test rows) → IsLike y rows
passing_like test rows y m = itself y rows (among_part y (part-filter test rows) m)

moved_like : (piece : PieceId) (place : ℕ) (digest : Digest) (rows : List Row) (o : Option Row) → row_in rows piece ≡ o
    → (y : Row) → IsAmong y (map (moved_row place digest) (option_to_list o)) → IsLike y rows
moved_like piece place digest rows None e y m = absurd m
moved_like piece place digest rows (Some old) e y (inl same) = record {
  old = old;
  among = row_among piece rows old e;
  id = ap (λ (r : Row). r.id) same;
  payload = ap (λ (r : Row). r.payload) same;
  alternates = ap (λ (r : Row). r.alternates) same;
}
moved_like piece place digest rows (Some old) e y (inr m) = absurd m

taken_like : (s : State) (piece : PieceId) (o : Option Row) → row_of s piece ≡ o → (x : Row) → IsAmong x (option_to_list o) → IsLike x (listing s)
taken_like s piece None e x m = absurd m
taken_like s piece (Some old) e x (inl same) =
    itself x (listing s) (subst (λ (r : Row). IsAmong r (listing s)) (sym same) (among_rest old s.displaced s.rows (row_among piece s.rows old e)))
taken_like s piece (Some old) e x (inr m) = absurd m

like_one : (s : State) (r : Rec) → LeavesVectors r → LikeRows s (state_after s r)
like_one s (rec.Formatted geometry) h = absurd h
like_one s (rec.Opened geometry serial cursor floor next_put clean list) h = absurd h
like_one s (rec.Placed piece place blocks digest pin) h = absurd h
like_one s (rec.WriteOpened actor put key request response pin) h = absurd h
like_one s (rec.Committed put key bytes list) h = absurd h
like_one s (rec.Removed put key) h = absurd h
like_one s (rec.Moved piece from place digest) h =
    like_of s _ (λ y m. elim (among_either y (without piece s.rows) (map (moved_row place digest) (option_to_list (row_of s piece))) m) [
      | inl front ↦ passing_like _ s.rows y front
      | inr behind ↦ moved_like piece place digest s.rows (row_of s piece) refl y behind
    ]) (was_displaced s)
like_one s (rec.Displaced piece segment live) h =
    like_of s _ (passing_like _ s.rows) (λ x m. elim (among_either x s.displaced (option_to_list (row_of s piece)) m) [
      | inl front ↦ was_displaced s x front
      | inr behind ↦ taken_like s piece (row_of s piece) refl x behind
    ])
like_one s (rec.Damaged piece place kept found) h = like_of s _ (passing_like _ s.rows) (was_displaced s)
like_one s _ h = like_of s _ (λ y m. itself y s.rows m) (was_displaced s)

like_all : (s : State) (recs : List Rec) → AllLeaveVectors recs → LikeRows s (after_all s recs)
like_all s [] h = like_self s
like_all s (r ∷ recs) h = like_then s (state_after s r) (after_all (state_after s r) recs) (like_one s r h.0) (like_all (state_after s r) recs h.1)

-- ---- lengths

-- each list states the lengths of the fragments that stand
abbrev AreStated : State → Type 0
AreStated s = (x y : Row) → IsAmong x (listing s) → IsAmong y s.rows → StatesFragments x y

states_like : (x0 y0 x y : Row) → x.id ≡ x0.id → x.alternates ≡ x0.alternates → y.id ≡ y0.id → y.payload ≡ y0.payload → StatesFragments x0 y0 → StatesFragments x y
states_like x0 y0 x y xid lists yid payload h list is same =
    let key : same_key x0.id.first y0.id.first ≡ true =
    ap (λ (i : PieceId). same_key i.first y0.id.first) (sym xid) ∙ (ap (λ (i : PieceId). same_key x.id.first i.first) (sym yid) ∙ same) in
    all_as (StatesFragment y0) (StatesFragment y) (λ a states put some few entry there.
    let same_put : a.put ≡ y0.id.put = put ∙ ap (λ (i : PieceId). i.put) yid in
    let index : y.id.index ≡ y0.id.index = ap (λ (i : PieceId). i.index) yid in
    subst (λ (o : Option TableRow). IfSome o (λ p. entry.length ≡ p.length)) (sym payload)
    (states same_put (omega (arith, some, index)) (omega (arith, few, index)) entry (ap (λ n. slice_get a.table (n - 1)) (sym index) ∙ there)))
    list (h list (sym lists ∙ is) key)

stated_like : (s t : State) → LikeRows s t → AreStated s → AreStated t
stated_like s t like h x y mx my =
    let lx = like.listing x mx in
    let ly = like.rows y my in
    states_like lx.old ly.old x y lx.id lx.alternates ly.id ly.payload (h lx.old ly.old lx.among ly.among)

-- ---- puts that are not written any more

-- the put of a listed alternate is over, or its vector waits for its commit
abbrev IsClosed : State → Stored → Type 0
IsClosed s a = (w : PutRow) → put_of s a.put ≡ Some w → w.writing ≡ Open → s.pending ≡ Some (vector_piece w.key w.put)

-- what an open put was before a record
record WasOpen (s : State) (n : ℕ) (w : PutRow) : Type 0 where
  old : PutRow
  found : put_of s n ≡ Some old
  open_then : old.writing ≡ Open
  key : w.key ≡ old.key
  put : w.put ≡ old.put

open_by : (s : State) (put n : ℕ) (f : PutRow → PutRow) → ((p : PutRow) → (f p).writing ≡ Open → (p.writing ≡ Open) × ((f p).key ≡ p.key) × ((f p).put ≡ p.put))
    → (w p : PutRow) (b : Bool) → put_of s n ≡ Some p → (if b then f p else p) ≡ w → w.writing ≡ Open → WasOpen s n w
open_by s put n f opens w p true found is now =
    let e = opens p (ap (λ (x : PutRow). x.writing) is ∙ now) in
    record { old = p; found = found; open_then = e.0; key = ap (λ (x : PutRow). x.key) (sym is) ∙ e.1; put = ap (λ (x : PutRow). x.put) (sym is) ∙ e.2 }
open_by s put n f opens w p false found is now =
    record { old = p; found = found; open_then = ap (λ (x : PutRow). x.writing) is ∙ now; key = ap (λ (x : PutRow). x.key) (sym is); put = ap (λ (x : PutRow). x.put) (sym is) }

open_in : (s : State) (put n : ℕ) (f : PutRow → PutRow) → ((p : PutRow) → (f p).writing ≡ Open → (p.writing ≡ Open) × ((f p).key ≡ p.key) × ((f p).put ≡ p.put))
    → (w : PutRow) (o : Option PutRow) → put_of s n ≡ o → option_map (changed put f) o ≡ Some w → w.writing ≡ Open → WasOpen s n w
open_in s put n f opens w None found is now = none_is is
open_in s put n f opens w (Some p) found is now =
    open_by s put n f opens w p (p.put == put) found (same_some (changed put f p) w _ refl is) now

given_up : (p : PutRow) → (with_writing GivenUp p).writing ≡ Open → (p.writing ≡ Open) × (p.key ≡ p.key) × (p.put ≡ p.put)
given_up p h = absurd cc

open_back : (s : State) (r : Rec) → LeavesVectors r → (n : ℕ) (w : PutRow) → put_of (state_after s r) n ≡ Some w → w.writing ≡ Open → WasOpen s n w
open_back s (rec.Formatted geometry) h n w found now = absurd h
open_back s (rec.Opened geometry serial cursor floor next_put clean list) h n w found now = absurd h
open_back s (rec.Placed piece place blocks digest pin) h n w found now = absurd h
open_back s (rec.WriteOpened actor put key request response pin) h n w found now = absurd h
open_back s (rec.Committed put key bytes list) h n w found now = absurd h
open_back s (rec.Removed put key) h n w found now = absurd h
open_back s (rec.Cut put index length digest) h n w found now =
    open_in s put n (with_cut (made_row length digest.0)) (λ p is. (is, refl, refl)) w (put_of s n) refl
    (sym (find_changed put (with_cut (made_row length digest.0)) (λ p. refl) n s.puts) ∙ found) now
open_back s (rec.Aborted put key) h n w found now =
    open_in s put n (with_writing GivenUp) given_up w (put_of s n) refl
    (sym (find_changed put (with_writing GivenUp) (λ p. refl) n s.puts) ∙ found) now
open_back s _ h n w found now = record { old = w; found = found; open_then = now; key = refl; put = refl }

-- ---- states

record HasLengths (s : State) : Type 0 where
  stated : AreStated s
  closed : (x : Row) (list : List Stored) → IsAmong x (listing s) → x.alternates ≡ Some list → AllByRecursion (IsClosed s) list
  marks : AllByRecursion (λ (m : Mark). StateLengths m.rows) s.marks

stated_in : (s : State) (some : List Row) → ((y : Row) → IsAmong y some → IsAmong y s.rows) → AreStated s → AllByRecursion (λ (x : Row). AllByRecursion (StatesFragments x) some) some
stated_in s some part h =
    all_among (λ (x : Row). AllByRecursion (StatesFragments x) some) some (λ x mx.
    all_among (StatesFragments x) some (λ y my. h x y (among_rest x s.displaced s.rows (part x mx)) (part y my)))

marks_left : (s : State) (r : Rec) → LeavesVectors r → AreStated s → AllByRecursion (λ (m : Mark). StateLengths m.rows) s.marks → AllByRecursion (λ (m : Mark). StateLengths m.rows) (state_after s r).marks
marks_left s (rec.Formatted geometry) leaves stated h = absurd leaves
marks_left s (rec.Opened geometry serial cursor floor next_put clean list) leaves stated h = absurd leaves
marks_left s (rec.SyncBegun serial cursor clean in_parts) leaves stated h =
    let part = part-trans (part-filter (λ row. nat_le (low_of_sync s cursor clean) row.place) (live_rows s)) (part-filter (is_live s) s.rows) in
    (stated_in s _ (λ y m. among_part y part m) stated, h)
marks_left s _ leaves stated h = h

lengths_one : (s : State) (r : Rec) → LeavesVectors r → IsQuiet s → HasLengths s → HasLengths (state_after s r)
lengths_one s r leaves quiet h =
    let like = like_one s r leaves in
    record {
      stated = stated_like s (state_after s r) like h.stated;
      closed = λ x list m is.
          let l = like.listing x m in
          all_as (IsClosed s) (IsClosed (state_after s r)) (λ a closed w found now.
          let was = open_back s r leaves a.put w found now in
          none_is (sym quiet ∙ closed was.old was.found was.open_then)) list (h.closed l.old list l.among (sym l.alternates ∙ is));
      marks = marks_left s r leaves h.stated h.marks;
    }

lengths_all : (s : State) (recs : List Rec) → AllLeaveVectors recs → HasLengths s × IsQuiet s → HasLengths (after_all s recs) × IsQuiet (after_all s recs)
lengths_all s [] leaves h = h
lengths_all s (r ∷ recs) leaves h =
    lengths_all (state_after s r) recs leaves.1 (lengths_one s r leaves.0 h.1 h.0, still_quiet s r leaves.0 h.1)

-- ---- a fragment is placed

-- what stands in a state without a pending vector, when a piece is placed
module _ (u : State) (h : HasLengths u) (quiet : IsQuiet u) (piece : PieceId) (place blocks : ℕ) (digest : Digest) (pin : ℕ) where
  abbrev placed : Row
  placed = placed_row u piece place blocks digest pin

  abbrev after : State
  after = state_after u (rec.Placed piece place blocks digest pin)

  was_or_is : (x : Row) → IsAmong x after.rows → IsAmong x u.rows ⊎ (x ≡ placed)
  was_or_is x m = elim (among_either x (without piece u.rows) (placed ∷ []) m) [
    | inl front ↦ inl (among_part x (part-filter _ u.rows) front)
    | inr behind ↦ elim behind [
      | inl same ↦ inr same
      | inr none ↦ absurd none
    ]
  ]

  -- lists of those before state the placed piece, and its list states those before
  placed_lengths : ((list : List Stored) → placed.alternates ≡ Some list → (y : Row) → IsAmong y after.rows → same_key piece.first y.id.first ≡ true → AllByRecursion (StatesFragment y) list)
      → ((x : Row) → IsAmong x u.rows → StatesFragments x placed)
      → ((list : List Stored) → placed.alternates ≡ Some list → AllByRecursion (IsClosed after) list)
      → HasLengths after
  placed_lengths own listed closed = record {
    stated = λ x y mx my. elim (was_or_is x mx) [
      | inl old ↦ elim (was_or_is y my) [
        | inl other ↦ h.stated x y (among_rest x u.displaced u.rows old) other
        | inr same ↦ subst (StatesFragments x) (sym same) (listed x old)
      ]
      | inr same ↦ subst (λ (r : Row). StatesFragments r y) (sym same) (λ list is key. own list is y my key)
    ];
    closed = λ x list m is. elim (was_or_is x m) [
      | inl old ↦ all_as (IsClosed u) (IsClosed after) (λ a was w found now. none_is (sym quiet ∙ was w found now)) list
          (h.closed x list (among_rest x u.displaced u.rows old) is)
      | inr same ↦ closed list (ap (λ (r : Row). r.alternates) (sym same) ∙ is)
    ];
    marks = h.marks;
  }

no_index : (n : ℕ) → (n + 1 == 0) ≡ false
no_index n = ne_eqb (n + 1) 0 (λ e. omega (arith, e))

-- a fragment of an open put is in no list
fragment_placed : (u : State) (h : HasLengths u) (quiet : IsQuiet u) (w : PutRow) (open_now : w.writing ≡ Open) (piece : PieceId) → is_vector piece ≡ false
    → put_of u piece.put ≡ Some w → (place blocks : ℕ) (digest : Digest) (pin : ℕ) → HasLengths (state_after u (rec.Placed piece place blocks digest pin))
fragment_placed u h quiet w open_now piece fragment found place blocks digest pin =
    let none : (placed_row u piece place blocks digest pin).alternates ≡ None = ap (λ b. if b then Some (list_of_put u piece.put) else None) fragment in
    placed_lengths u h quiet piece place blocks digest pin
    (λ list is y my key. none_is (sym none ∙ is))
    (λ x old list is key. all_as (IsClosed u) (StatesFragment (placed_row u piece place blocks digest pin)) (λ a closed put some few entry there.
    none_is (sym quiet ∙ closed w (ap (put_of u) put ∙ found) open_now)) list (h.closed x list (among_rest x u.displaced u.rows old) is))
    (λ list is. none_is (sym none ∙ is))

-- ---- a vector is placed

-- what holds of each listed alternate of a key holds of those that its next vector takes over
module _ (P : Stored → Type 0) (u : State) (key : Key)
    (each : (x : Row) (list : List Stored) → IsAmong x (listing u) → x.id.first ≡ key → x.alternates ≡ Some list → AllByRecursion P list) where
  of_list : (x : Row) → IsAmong x (listing u) → x.id.first ≡ key → (o : Option (List Stored)) → x.alternates ≡ o → (b : Bool) → AllByRecursion P (if b then unwrap_or o [] else [])
  of_list x m first None e true = tt
  of_list x m first (Some list) e true = each x list m first e
  of_list x m first o e false = tt

  of_row : (put : ℕ) (o : Option Row) → row_in (listing u) (vector_piece key put) ≡ o → AllByRecursion P (unwrap_or (option_map (list_of_row u) o) [])
  of_row put None e = tt
  of_row put (Some x) e =
      of_list x (row_among (vector_piece key put) (listing u) x e) (ap (λ (i : PieceId). i.first) (own_piece (vector_piece key put) (listing u) x e)) x.alternates refl (is_live u x)

  of_last : (last : Option LastVector) → AllByRecursion P (unwrap_or (option_map (list_of_last u (listing u) key) last) [])
  of_last None = tt
  of_last (Some (Complete put)) = of_row put (row_in (listing u) (vector_piece key put)) refl
  of_last (Some (TakenOut put)) = tt

  of_put : (w : PutRow) → w.key ≡ key → P (alternate_of w) → AllByRecursion P (merged_list u w)
  of_put w is own =
      each_merged P u.geometry.alternates (most_payload u.geometry) (list_among u (listing u) w.key) (alternate_of w)
      (subst (λ (k : Key). AllByRecursion P (list_among u (listing u) k)) (sym is) (of_last (last_vector u key))) own

list_is : (u : State) (put : ℕ) (w : PutRow) → put_of u put ≡ Some w → list_of_put u put ≡ merged_list u w
list_is u put w found = ap (λ o. unwrap_or (option_map (merged_list u) o) []) found

-- the own alternate states what the put has cut
own_states : (u : State) (w : PutRow) (y : Row) → AreCut u → AreApart u.rows → put_of u w.put ≡ Some w → IsAmong y u.rows → StatesFragment y (alternate_of w)
own_states u w y cut apart found m put some few entry there =
    let fragment : is_vector y.id ≡ false = ne_eqb y.id.index 0 (λ e. omega (arith, e, some)) in
    let has : put_of u y.id.put ≡ Some w = ap (put_of u) (sym put) ∙ found in
    let c = cut.own y.id y w fragment few (among_found u.rows y apart m) has in
    let same : entry ≡ c.entry = same_some entry c.entry _ there c.cut in
    subst (λ (o : Option TableRow). IfSome o (λ p. entry.length ≡ p.length)) (sym c.payload) (ap (λ (r : TableRow). r.length) same)

no_fragment : (row : Row) → is_vector row.id ≡ true → (list : List Stored) → AllByRecursion (StatesFragment row) list
no_fragment row vector [] = tt
no_fragment row vector (a ∷ list) = (
  λ put some few entry there. let none : row.id.index ≡ 0 = eqb-true row.id.index 0 vector in absurd (omega (arith, none, some)),
  no_fragment row vector list,
)

vector_placed : (u : State) (h : HasLengths u) (quiet : IsQuiet u) (cut : AreCut u) (apart : AreApart u.rows) (w : PutRow) (put : ℕ) → w.put ≡ put → put_of u put ≡ Some w
    → (place blocks : ℕ) (digest : Digest) (pin : ℕ) → HasLengths (state_after u (rec.Placed (vector_piece w.key put) place blocks digest pin))
vector_placed u h quiet cut apart w put number found place blocks digest pin =
    let piece = vector_piece w.key put in
    let t = state_after u (rec.Placed piece place blocks digest pin) in
    let placed = placed_row u piece place blocks digest pin in
    let own : put_of u w.put ≡ Some w = ap (put_of u) number ∙ found in
    let list_same : (list : List Stored) → placed.alternates ≡ Some list → merged_list u w ≡ list =
    λ list is. sym (list_is u put w found) ∙ same_some (list_of_put u put) list placed.alternates refl is in
    placed_lengths u h quiet piece place blocks digest pin
    (λ list is y my key. elim (was_or_is u h quiet piece place blocks digest pin y my) [
      | inl old ↦ subst (AllByRecursion (StatesFragment y)) (list_same list is)
          (of_put (StatesFragment y) u w.key (λ x l m first lists. h.stated x y m old l lists (ap (λ (k : Key). same_key k y.id.first) first ∙ key)) w refl
          (own_states u w y cut apart own old))
      | inr same ↦ subst (λ (r : Row). AllByRecursion (StatesFragment r) list) (sym same) (no_fragment placed refl list)
    ])
    (λ x old list is key. no_fragment placed refl list)
    (λ list is. subst (AllByRecursion (IsClosed t)) (list_same list is)
    (of_put (IsClosed t) u w.key (λ x l m first lists. all_as (IsClosed u) (IsClosed t) (λ a was v there now. none_is (sym quiet ∙ was v there now)) l (h.closed x l m lists)) w refl
    (λ v there now. ap (λ (n : ℕ). Some (vector_piece w.key n)) (sym number) ∙ ap (λ (p : PutRow). Some (vector_piece p.key p.put)) (same_some w v _ own there))))

-- ---- groups

-- all that holds of a state
record HasAll (s : State) : Type 0 where
  lengths : HasLengths s
  cut : VectorsAreCounted s × AreCut s
  one : HasOneVector s
  begun : AreOfBegun s

group_fragment : (p : Permit) (s : State) (put index : ℕ) (payload : List ℕ) (added : List Rec) → MayPlaceFragment p s put index payload added → HasAll s → HasLengths (after_all s added)
group_fragment p s put index payload added m h =
    let entry : TableRow = made_row (length payload) (digest_of payload).0 in
    let cut : Rec = rec.Cut put index (length payload) (digest_of payload) in
    let t : State = state_after s cut in
    let u : State = after_all t m.displaced in
    let now = lengths_all s (cut ∷ m.displaced) (tt, displaced_leave_vectors p s _ m.displaced m.displaces) (h.lengths, m.cut.writing.quiet) in
    let left = displaced_left p s t _ m.displaced m.displaces in
    let number : m.w.put ≡ put = number_of s put m.w m.cut.writing.found in
    let found : put_of u put ≡ Some (with_cut entry m.w) =
    ap (find (λ q. q.put == put)) left.0 ∙ (find_changed put (with_cut entry) (λ q. refl) put s.puts
    ∙ (ap (option_map (changed put (with_cut entry))) m.cut.writing.found ∙ ap (λ b. Some (if b then with_cut entry m.w else m.w)) (eq-eqb m.w.put put number))) in
    subst HasLengths (sym (ap (after_all s) m.is ∙ after_all-append t m.displaced _))
    (fragment_placed u now.0 now.1 (with_cut entry m.w) m.cut.writing.is_open (next_fragment_of m.w) (no_index (length m.w.cuts)) (ap (put_of u) number ∙ found) _ _ _ _)

group_vector : (p : Permit) (s : State) (put fragments : ℕ) (added : List Rec) → MayPlaceVector p s put fragments added → HasAll s → HasLengths (after_all s added)
group_vector p s put fragments added m h =
    let leaves = displaced_leave_vectors p s _ m.displaced m.displaces in
    let u : State = after_all s m.displaced in
    let now = lengths_all s m.displaced leaves (h.lengths, m.cut.writing.quiet) in
    let left = displaced_left p s s _ m.displaced m.displaces in
    subst HasLengths (sym (ap (after_all s) m.is ∙ after_all-append s m.displaced _))
    (vector_placed u now.0 now.1 (cut_kept (keeps_all s m.displaced (leave_counts m.displaced leaves)) h.cut.1)
    (all_left s m.displaced leaves (h.one, m.cut.writing.quiet)).0.apart m.w put (number_of s put m.w m.cut.writing.found)
    (ap (find (λ q. q.put == put)) left.0 ∙ m.cut.writing.found) _ _ _ _)

-- a put begins: no list has it
other_put : (next n : ℕ) (new w : PutRow) (o : Option PutRow) (b : Bool) → (next == n) ≡ b → n < next → (if b then Some new else o) ≡ Some w → o ≡ Some w
other_put next n new w o true e below is = let same : next ≡ n = eqb-true next n e in absurd (omega (arith, same, below))
other_put next n new w o false e below is = is

group_begins : (s : State) (actor : ℕ) (key : Key) (request response : List Field) (pin : ℕ) (added : List Rec) → MayOpenWrite s actor key request response pin added
    → HasAll s → HasLengths (after_all s added)
group_begins s actor key request response pin added m h =
    let new : PutRow = opened_put m.who.0 s.next_put key request response pin in
    let t : State = state_after s (rec.WriteOpened m.who s.next_put key request response pin) in
    subst (λ recs. HasLengths (after_all s recs)) (sym m.is) (record {
      stated = h.lengths.stated;
      closed = λ x list among is.
          let begun = (among_holds (IsOfBegun s.next_put) x (listing s) (all_append (IsOfBegun s.next_put) s.displaced s.rows h.begun.displaced h.begun.rows) among).listed list is in
          both_as (IsClosed s) (λ (a : Stored). IsBegunBefore s.next_put a.put) (IsClosed t) (λ a closed before w found now.
          closed w (other_put s.next_put a.put new w (put_of s a.put) (s.next_put == a.put) refl before.1 found) now) list (h.lengths.closed x list among is) begun;
      marks = h.lengths.marks;
    })

-- rows that are some of those before, with puts and what waits as they are
fewer_lengths : (s t : State) (some : List Row) → t.displaced ≡ s.displaced → t.rows ≡ some → ((y : Row) → IsAmong y some → IsAmong y s.rows) → t.marks ≡ s.marks
    → ((a : Stored) → IsClosed s a → IsClosed t a) → HasLengths s → HasLengths t
fewer_lengths s t some gone rows part marks closes h =
    let like : LikeRows s t =
    like_of s t (λ y m. itself y s.rows (part y (subst (IsAmong y) rows m))) (λ x m. was_displaced s x (subst (IsAmong x) gone m)) in
    record {
      stated = stated_like s t like h.stated;
      closed = λ x list m is. let l = like.listing x m in all_as (IsClosed s) (IsClosed t) closes list (h.closed l.old list l.among (sym l.alternates ∙ is));
      marks = subst (AllByRecursion (λ (m : Mark). StateLengths m.rows)) (sym marks) h.marks;
    }

group_removes : (s : State) (key : Key) (added : List Rec) (e : End) → Legal.DoesRemove s key added e → HasLengths s → HasLengths (after_all s added)
group_removes s key added e (Legal.DoesRemove.absent quiet none is) h = subst (λ recs. HasLengths (after_all s recs)) (sym is) h
group_removes s key added e (Legal.DoesRemove.removes row quiet live is) h =
    subst (λ recs. HasLengths (after_all s recs)) (sym is)
    (fewer_lengths s (state_after s (rec.Removed row.id.put key)) (without (vector_piece key row.id.put) s.rows) refl refl (λ y m. among_part y (part-filter _ s.rows) m) refl (λ a closed. closed) h)

-- ---- a vector is committed

earlier_part : (key : Key) (put : ℕ) (o : Option LastVector) (rows : List Row) (y : Row) → IsAmong y (without_earlier key put o rows) → IsAmong y rows
earlier_part key put None rows y m = m
earlier_part key put (Some (TakenOut old)) rows y m = m
earlier_part key put (Some (Complete old)) rows y m = by (old == put) m where
  by : (b : Bool) → IsAmong y (if b then rows else without (vector_piece key old) rows) → IsAmong y rows
  by true m' = m'
  by false m' = among_part y (part-filter _ rows) m'

closed_by : (s : State) (put : ℕ) (key : Key) (waits : s.pending ≡ Some (vector_piece key put)) (w p : PutRow) (b : Bool) → (p.put == put) ≡ b
    → (if b then with_writing Closed p else p) ≡ w → w.writing ≡ Open → (p.writing ≡ Open → s.pending ≡ Some (vector_piece p.key p.put)) → ⊥
closed_by s put key waits w p true e is now closed = not_open (ap (λ (x : PutRow). x.writing) is ∙ now) where
  not_open : Closed ≡ Open → ⊥
  not_open h = cc
closed_by s put key waits w p false e is now closed =
    let same : vector_piece p.key p.put ≡ vector_piece key put = same_some _ _ s.pending (closed (ap (λ (x : PutRow). x.writing) is ∙ now)) waits in
    no_truth (sym (eq-eqb p.put put (ap (λ (i : PieceId). i.put) same)) ∙ e)

closed_in : (s : State) (put : ℕ) (key : Key) (waits : s.pending ≡ Some (vector_piece key put)) (a : Stored) (w : PutRow) (o : Option PutRow) → put_of s a.put ≡ o
    → option_map (changed put (with_writing Closed)) o ≡ Some w → w.writing ≡ Open → IsClosed s a → ⊥
closed_in s put key waits a w None e is now closed = none_is is
closed_in s put key waits a w (Some p) e is now closed =
    closed_by s put key waits w p (p.put == put) refl (same_some (changed put (with_writing Closed) p) w _ refl is) now (closed p e)

group_commits : (s : State) (put : ℕ) (added : List Rec) (e : End) → Legal.DoesCommit s put added e → HasLengths s → HasLengths (after_all s added)
group_commits s put added e (Legal.DoesCommit.commits w found still waits is) h =
    subst (λ recs. HasLengths (after_all s recs)) (sym is)
    (fewer_lengths s (state_after s (rec.Committed put w.key (total_length w.cuts) (list_of_piece s (vector_piece w.key put))))
    (without_earlier w.key put (last_vector s w.key) s.rows) refl refl (earlier_part w.key put (last_vector s w.key) s.rows) refl
    (λ a closed v there now. absurd (closed_in s put w.key waits a v (put_of s a.put) refl (sym (find_changed put (with_writing Closed) (λ p. refl) a.put s.puts) ∙ there) now closed)) h)

-- ---- steps

lengths_group : (p : Permit) (s : State) (added : List Rec) (e : End) → IsQuiet s → Groups p s added e → HasAll s → HasLengths (after_all s added)
lengths_group p s added e quiet (Counted.Groups.beside all) h = (lengths_all s added all (h.lengths, quiet)).0
lengths_group p s added e quiet (Counted.Groups.removes key d) h = group_removes s key added e d h.lengths
lengths_group p s added e quiet (Counted.Groups.begins {actor = actor} {key = key} {request = request} {response = response} {pin = pin} m) h =
    group_begins s actor key request response pin added m h
lengths_group p s added e quiet (Counted.Groups.places_fragment put index payload m) h = group_fragment p s put index payload added m h
lengths_group p s added e quiet (Counted.Groups.places_vector put fragments m) h = group_vector p s put fragments added m h
lengths_group p s added e quiet (Counted.Groups.commits_vector put d) h = group_commits s put added e d h.lengths

all_group : (p : Permit) (s : State) (i : Intent) (added : List Rec) (e : End) → Does p s i added e → HasAll s → HasAll (after_all s added)
all_group p s i added e d h = record {
  lengths = elim (quiet_or_commits p s i added e d) [
    | inl quiet ↦ lengths_group p s added e quiet (groups p s i added e d) h
    | inr commits ↦ group_commits s commits.0 added e commits.1 h.lengths
  ];
  cut = (counted_group p s i added e h.cut.0 d, cut_part p s added e h.cut.0 (parts p s i added e d) h.cut.1);
  one = by_group p s i added e d h.one;
  begun = begun_part p s added e (parts p s i added e d) h.begun;
}

all_advanced : (p : Permit) (s : State) (is : List Intent) (why : Option Reason) (added : List Rec) (left : Work) → Advances p s is why added left → HasAll s → HasAll (after_all s added)
all_advanced p s [] why added left a h = absurd a
all_advanced p s (i ∷ is) why added left a h = all_group p s i added a.0 a.1 h

all_grown : {p : Permit} {s : State} {w left : Work} {recs : List Rec} → MayGrow p s w recs left → HasAll s → HasAll (after_all s recs)
all_grown nothing h = h
all_grown {p} {s} {w} (more {rest = tail} added between one others) h =
    subst HasAll (sym (after_all-append s added tail)) (all_grown others (all_advanced p s w.intents w.refused added between one h))

-- ---- sessions

key_turned : (a b : Key) → same_key a b ≡ true → same_key b a ≡ true
key_turned a b h = ap (same_key b) (same_key-true a b h) ∙ same_key-same b

found_payload : (f : FoundRow) (entry : TableRow) (b : Bool) → f.length ≡ entry.length → IfSome (if b then None else Some (made_row f.length f.payload.0)) (λ p. entry.length ≡ p.length)
found_payload f entry true is = tt
found_payload f entry false is = sym is

found_row_of : (found : List FoundRow) (x : Row) → IsAmong x (map row_of_found found) → (f : FoundRow) × IsAmong f found × (x ≡ row_of_found f)
found_row_of [] x m = absurd m
found_row_of (f ∷ found) x (inl same) = (f, inl refl, same)
found_row_of (f ∷ found) x (inr m) = let r = found_row_of found x m in (r.0, inr r.1, r.2)

found_stated : (o : Opening) → AreLengthsStated o → (x y : Row) → IsAmong x (map row_of_found o.found) → IsAmong y (map row_of_found o.found) → StatesFragments x y
found_stated o lengths x y mx my list is key =
    let fx = found_row_of o.found x mx in
    let fy = found_row_of o.found y my in
    let states : StatesLengths fx.0 fy.0 = among_holds (StatesLengths fx.0) fy.0 o.found (among_holds (λ (f : FoundRow). AllByRecursion (StatesLengths f) o.found) fx.0 o.found lengths fx.1) fy.1 in
    let turned : same_key fy.0.id.first fx.0.id.first ≡ true =
    key_turned fx.0.id.first fy.0.id.first (ap (λ (r : Row). same_key r.id.first fy.0.id.first) (sym fx.2) ∙ (ap (λ (r : Row). same_key x.id.first r.id.first) (sym fy.2) ∙ key)) in
    subst (λ (r : Row). AllByRecursion (StatesFragment r) list) (sym fy.2)
    (all_as (StatesLength fy.0) (StatesFragment (row_of_found fy.0)) (λ a length_is put some few entry there.
    found_payload fy.0 entry (is_vector fy.0.id) (length_is put some entry there)) list (states list (ap (λ (r : Row). r.alternates) (sym fx.2) ∙ is) turned))

legal_all : (setting : Setting) (past : List Call) (courses : List Course) (recs : List Rec) → IsLegal setting past courses recs → HasAll (after_all nothing_yet recs)
legal_all setting past courses recs (Legal.IsLegal.begins geometry) = record {
  lengths = record { stated = λ x y mx my. absurd mx; closed = λ x list m is. absurd m; marks = (tt, tt) };
  cut = (legal_counted setting past courses recs (Legal.IsLegal.begins geometry), payloads_are_cut setting past courses recs (Legal.IsLegal.begins geometry));
  one = legal_one setting past courses recs (Legal.IsLegal.begins geometry);
  begun = legal_begun setting past courses recs (Legal.IsLegal.begins geometry);
}
legal_all setting past courses recs (Legal.IsLegal.opens geometry o opening) =
    let stated = found_stated o opening.lengths in
    let rows : List Row = map row_of_found o.found in
    record {
      lengths = record {
        stated = stated;
        closed = λ x list m is. all_closed list;
        marks = (
          all_among (λ (x : Row). AllByRecursion (StatesFragments x) rows) rows (λ x mx. all_among (StatesFragments x) rows (λ y my. stated x y mx my)),
          tt,
        );
      };
      cut = (legal_counted setting past courses recs (Legal.IsLegal.opens geometry o opening), payloads_are_cut setting past courses recs (Legal.IsLegal.opens geometry o opening));
      one = legal_one setting past courses recs (Legal.IsLegal.opens geometry o opening);
      begun = legal_begun setting past courses recs (Legal.IsLegal.opens geometry o opening);
    } where
      all_closed : (list : List Stored) → AllByRecursion (IsClosed (after_all nothing_yet recs)) list
      all_closed [] = tt
      all_closed (a ∷ list) = ((λ w found now. none_is found), all_closed list)
legal_all setting past courses recs (Legal.IsLegal.steps {courses = earlier} {before = before} {added = added} course e legal step) =
    subst HasAll (sym (after_all-append nothing_yet before added)) (all_grown step.grows (legal_all setting _ earlier before legal))
legal_all setting past courses recs (Legal.IsLegal.tells call is legal) = legal_all setting _ courses recs legal

-- ---- all of it

openable : (marks : List Mark) → AllByRecursion NamesBegun marks → AllByRecursion (λ (m : Mark). AreOneOfEach m.rows) marks → AllByRecursion (λ (m : Mark). StateLengths m.rows) marks
    → AllByRecursion IsOpenable marks
openable [] begun one lengths = tt
openable (m ∷ marks) begun one lengths =
    (record { begun = begun.0; one = one.0; lengths = lengths.0 }, openable marks begun.1 one.1 lengths.1)

pub marks_are_openable : MarksAreOpenable
marks_are_openable setting past courses recs legal =
    let all = legal_all setting past courses recs legal in
    openable (after_all nothing_yet recs).marks all.begun.marks all.one.marks all.lengths.marks
