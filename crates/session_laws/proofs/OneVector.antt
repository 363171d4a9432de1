-- Each vector that stands is the last one of its key, or waits for its commit; so no two that a sync names are of one key.
use Rattle.std.proofs.Common.{◌≡◌, ◌⊎◌, ℕ, ◌==◌, List, [], ◌∷◌, ◌++◌, length, append-nil, refl, sym, ◌∙◌, ap, subst, arith, inl, inr, Bool, true, false}
use Rattle.std.specs.Prelude.{Option, Some, None, if◌then◌else◌, All, AllPairs, filter, map, nat_le, not, option_and_then, option_to_list}
use Rattle.std.specs.List.{AllByRecursion, flat_map}
use Rattle.std.specs.Map.{lookup}
use Rattle.std.proofs.lemmas.Bool.{and_from, eq-eqb, eqb-true, false_from_ne_true, not-true}
use Rattle.std.proofs.lemmas.List.Elements.{All-nil, All-cons}
use Rattle.std.proofs.lemmas.List.Kept.{AllPairs-cons}
use Rattle.std.proofs.lemmas.List.Quantifiers.{all_pairs_remove}
use Rattle.device_log.specs.Calls.{Call}
use Rattle.tape_base.specs.declared.digests.Digest.{Digest}
use Rattle.tape_base.specs.declared.keys.Key.{Key}
use Rattle.tape_base.specs.declared.pieces.PieceId.{PieceId}
use Rattle.tape_base.specs.Digest.{digest_of}
use Rattle.tape_base.specs.Key.{same_key}
use Rattle.tape_base.specs.Piece.{is_vector, same_piece}
use Rattle.tape_base.proofs.NameLaws.{same_key-same, same_key-true}
use Rattle.cache_model.specs.declared.findings.FoundRow.{FoundRow}
use Rattle.cache_model.specs.declared.record.Rec.{Rec}
use Rattle.cache_model.specs.declared.record.Rec.TheVariants as rec
use Rattle.cache_model.specs.State.{State, Mark, Row, LastVector, Complete, TakenOut, after_all, is_live, last_vector, live_row_of, live_rows, low_of_sync, moved_row, nothing_yet, only_live, placed_row, row_in, row_of, row_of_found, state_after, vector_of_found, vector_piece, without, without_earlier}
use Rattle.cache_model.specs.Verdict.{live_vector_of, vector_of_last}
use Rattle.cache_model.specs.Openings.{AreOfTwoKeys}
use Rattle.cache_model.specs.Permit.{Permit, Setting, Intent, End, Reason, Work}
use Rattle.cache_model.specs.Tape.{AreApart, NotAmong}
use Rattle.cache_model.specs.Legal
use Rattle.cache_model.specs.Legal.{Advances, Course, Does, IsLegal, IsQuiet, MayGrow, MayPlaceFragment, MayPlaceVector, more, next_fragment_of, nothing}
use Rattle.cache_model.proofs.Found.{no_truth, none_is, same_some}
use Rattle.cache_model.proofs.Lists.{found_row, own_piece}
use Rattle.cache_model.proofs.Rows.{apart-part, apart-placed, each_part, part-filter, part-trans}
use Rattle.cache_model.proofs.Steps.{after_all-append, all_append, all_as}
use Rattle.model_laws.proofs.Counted
use Rattle.model_laws.proofs.Counted.{Groups, displaced_leave_vectors, groups}
use Rattle.model_laws.proofs.CountedRecords.{AllLeaveVectors, LeavesVectors}
use Rattle.model_laws.proofs.Quiet.{quiet_or_commits}
use Rattle.session_laws.specs.MarkLaws.{AreOneOfEach}

-- ---- rows and last vectors

-- a vector is the last one of its key
abbrev IsLast : List (Key × LastVector) → Row → Type 0
IsLast vectors row = is_vector row.id ≡ true → lookup (λ k. same_key k row.id.first) vectors ≡ Some (Complete row.id.put)

-- or it waits for its commit
abbrev pub IsLastOrWaits : Option PieceId → List (Key × LastVector) → Row → Type 0
IsLastOrWaits pending vectors row = is_vector row.id ≡ true
    → (pending ≡ Some row.id) ⊎ (lookup (λ k. same_key k row.id.first) vectors ≡ Some (Complete row.id.put))

-- where none waits it is the last one
is_last : (vectors : List (Key × LastVector)) (pending : Option PieceId) → pending ≡ None → (row : Row) → IsLastOrWaits pending vectors row → IsLast vectors row
is_last vectors pending quiet row h vector = elim (h vector) [
  | inl waits ↦ none_is (sym quiet ∙ waits)
  | inr last ↦ last
]

one_put : (a b : ℕ) → Some (Complete a) ≡ Some (Complete b) → a ≡ b
one_put a b h = cc

-- two pieces of one key and put, both vectors, are one
one_piece : (x y : PieceId) → is_vector x ≡ true → is_vector y ≡ true → same_key x.first y.first ≡ true → x.put ≡ y.put → same_piece x y ≡ true
one_piece x y vx vy key put =
    let ix : x.index ≡ 0 = eqb-true x.index 0 vx in
    let iy : y.index ≡ 0 = eqb-true y.index 0 vy in
    and_from (same_key x.first y.first) _ key (and_from (x.put == y.put) _ (eq-eqb x.put y.put put) (eq-eqb x.index y.index (ix ∙ sym iy)))

module _ (vectors : List (Key × LastVector)) where
  two_keys : (x y : Row) → IsLast vectors x → IsLast vectors y → same_piece x.id y.id ≡ false → AreOfTwoKeys x y
  two_keys x y lx ly apart vx vy = false_from_ne_true (same_key x.id.first y.id.first) (λ same.
      let key : x.id.first ≡ y.id.first = same_key-true x.id.first y.id.first same in
      let its : lookup (λ k. same_key k y.id.first) vectors ≡ Some (Complete x.id.put) =
      subst (λ (f : Key). lookup (λ k. same_key k f) vectors ≡ Some (Complete x.id.put)) key (lx vx) in
      no_truth (sym (one_piece x.id y.id vx vy same (one_put x.id.put y.id.put (sym its ∙ ly vy))) ∙ apart))

  with_each : (x : Row) (rest : List Row) → IsLast vectors x → AllByRecursion (IsLast vectors) rest → NotAmong x.id rest → All (AreOfTwoKeys x) rest
  with_each x [] last each none = All-nil (AreOfTwoKeys x)
  with_each x (y ∷ rest) last each none =
      All-cons (AreOfTwoKeys x) y rest (two_keys x y last each.0 none.0) (with_each x rest last each.1 none.1)

  no_pairs : AllPairs AreOfTwoKeys []
  no_pairs i j d less within = absurd (omega arith)

  of_two_keys : (rows : List Row) → AllByRecursion (IsLast vectors) rows → AreApart rows → AllPairs AreOfTwoKeys rows
  of_two_keys [] each apart = no_pairs
  of_two_keys (x ∷ rest) each apart =
      AllPairs-cons AreOfTwoKeys x rest (with_each x rest each.0 each.1 apart.0) (of_two_keys rest each.1 apart.1)

-- ---- states

pub record HasOneVector (s : State) : Type 0 where
  pub last : AllByRecursion (IsLastOrWaits s.pending s.vectors) s.rows
  pub apart : AreApart s.rows
  pub marks : AllByRecursion (λ (m : Mark). AreOneOfEach m.rows) s.marks

moved_apart : (piece : PieceId) (place : ℕ) (digest : Digest) (rows : List Row) (o : Option Row) → row_in rows piece ≡ o → AreApart rows
    → AreApart (without piece rows ++ map (moved_row place digest) (option_to_list o))
moved_apart piece place digest rows None e apart =
    subst AreApart (sym (append-nil (without piece rows))) (apart-part (part-filter _ rows) apart)
moved_apart piece place digest rows (Some old) e apart =
    subst (λ (i : PieceId). AreApart (without i rows ++ moved_row place digest old ∷ [])) (own_piece piece rows old e)
    (apart-placed rows (moved_row place digest old) apart)

moved_last : (pending : Option PieceId) (vectors : List (Key × LastVector)) (piece : PieceId) (place : ℕ) (digest : Digest) (rows : List Row) (o : Option Row)
    → row_in rows piece ≡ o → AllByRecursion (IsLastOrWaits pending vectors) rows
    → AllByRecursion (IsLastOrWaits pending vectors) (map (moved_row place digest) (option_to_list o))
moved_last pending vectors piece place digest rows None e each = tt
moved_last pending vectors piece place digest rows (Some old) e each = (found_row (IsLastOrWaits pending vectors) piece rows old each e, tt)

-- rows that are some of those before
fewer : (s t : State) (test : Row → Bool) → t.pending ≡ s.pending → t.vectors ≡ s.vectors → t.marks ≡ s.marks → t.rows ≡ filter test s.rows
    → HasOneVector s → HasOneVector t
fewer s t test pending vectors marks rows h = record {
  last = subst (λ (o : Option PieceId). AllByRecursion (IsLastOrWaits o t.vectors) t.rows) (sym pending)
      (subst (λ (v : List (Key × LastVector)). AllByRecursion (IsLastOrWaits s.pending v) t.rows) (sym vectors)
      (subst (AllByRecursion (IsLastOrWaits s.pending s.vectors)) (sym rows) (each_part (IsLastOrWaits s.pending s.vectors) (part-filter test s.rows) h.last)));
  apart = subst AreApart (sym rows) (apart-part (part-filter test s.rows) h.apart);
  marks = subst (AllByRecursion (λ (m : Mark). AreOneOfEach m.rows)) (sym marks) h.marks;
}

module _ (s : State) (h : HasOneVector s) (quiet : IsQuiet s) where
  all_last : AllByRecursion (IsLast s.vectors) s.rows
  all_last = all_as (IsLastOrWaits s.pending s.vectors) (IsLast s.vectors) (is_last s.vectors s.pending quiet) s.rows h.last

  begun : (test : Row → Bool) → AreOneOfEach (filter test (live_rows s))
  begun test =
      let part = part-trans (part-filter test (live_rows s)) (part-filter (is_live s) s.rows) in
      record {
        apart = apart-part part h.apart;
        keys = of_two_keys s.vectors (filter test (live_rows s)) (each_part (IsLast s.vectors) part all_last) (apart-part part h.apart);
      }

one_left : (s : State) (r : Rec) → LeavesVectors r → IsQuiet s → HasOneVector s → HasOneVector (state_after s r)
one_left s (rec.Formatted geometry) leaves quiet h = absurd leaves
one_left s (rec.Opened geometry serial cursor floor next_put clean list) leaves quiet h = absurd leaves
one_left s (rec.Placed piece place blocks digest pin) leaves quiet h = absurd leaves
one_left s (rec.WriteOpened actor put key request response pin) leaves quiet h = absurd leaves
one_left s (rec.Committed put key bytes list) leaves quiet h = absurd leaves
one_left s (rec.Removed put key) leaves quiet h = absurd leaves
one_left s (rec.Moved piece from place digest) leaves quiet h = record {
  last = all_append (IsLastOrWaits s.pending s.vectors) (without piece s.rows) (map (moved_row place digest) (option_to_list (row_of s piece)))
      (each_part (IsLastOrWaits s.pending s.vectors) (part-filter _ s.rows) h.last) (moved_last s.pending s.vectors piece place digest s.rows (row_of s piece) refl h.last);
  apart = moved_apart piece place digest s.rows (row_of s piece) refl h.apart;
  marks = h.marks;
}
one_left s (rec.Displaced piece segment live) leaves quiet h = fewer s _ (λ row. not (same_piece row.id piece)) refl refl refl refl h
one_left s (rec.Damaged piece place kept found) leaves quiet h = fewer s _ (λ row. not (same_piece row.id piece)) refl refl refl refl h
one_left s (rec.SyncBegun serial cursor clean in_parts) leaves quiet h =
    record { last = h.last; apart = h.apart; marks = (begun s h quiet (λ row. nat_le (low_of_sync s cursor clean) row.place), h.marks) }
one_left s _ leaves quiet h = record { last = h.last; apart = h.apart; marks = h.marks }

pub still_quiet : (s : State) (r : Rec) → LeavesVectors r → IsQuiet s → IsQuiet (state_after s r)
still_quiet s (rec.Formatted geometry) leaves quiet = absurd leaves
still_quiet s (rec.Opened geometry serial cursor floor next_put clean list) leaves quiet = absurd leaves
still_quiet s (rec.Placed piece place blocks digest pin) leaves quiet = absurd leaves
still_quiet s (rec.WriteOpened actor put key request response pin) leaves quiet = absurd leaves
still_quiet s (rec.Committed put key bytes list) leaves quiet = absurd leaves
still_quiet s (rec.Removed put key) leaves quiet = absurd leaves
still_quiet s _ leaves quiet = quiet

-- what holds where no vector waits
abbrev pub Rests : State → Type 0
Rests s = HasOneVector s × IsQuiet s

pub all_left : (s : State) (recs : List Rec) → AllLeaveVectors recs → Rests s → Rests (after_all s recs)
all_left s [] leaves h = h
all_left s (r ∷ recs) leaves h = all_left (state_after s r) recs leaves.1 (one_left s r leaves.0 h.1 h.0, still_quiet s r leaves.0 h.1)

-- ---- a piece is placed

-- the others are last, and it is no vector or waits
one_placed : (u : State) (piece : PieceId) (place blocks : ℕ) (digest : Digest) (pin : ℕ) → Rests u → HasOneVector (state_after u (rec.Placed piece place blocks digest pin))
one_placed u piece place blocks digest pin h =
    let pending : Option PieceId = if is_vector piece then Some piece else u.pending in
    let others : AllByRecursion (IsLastOrWaits pending u.vectors) u.rows =
    all_as (IsLast u.vectors) (IsLastOrWaits pending u.vectors) (λ row last vector. inr (last vector)) u.rows (all_last u h.0 h.1) in
    record {
      last = all_append (IsLastOrWaits pending u.vectors) (without piece u.rows) (placed_row u piece place blocks digest pin ∷ [])
          (each_part (IsLastOrWaits pending u.vectors) (part-filter _ u.rows) others)
          (λ vector. inl (ap (λ b. if b then Some piece else u.pending) vector), tt);
      apart = apart-placed u.rows (placed_row u piece place blocks digest pin) h.0.apart;
      marks = h.0.marks;
    }

fragment_placed : (p : Permit) (s : State) (put index : ℕ) (payload : List ℕ) (added : List Rec) → MayPlaceFragment p s put index payload added
    → HasOneVector s → HasOneVector (after_all s added)
fragment_placed p s put index payload added m h =
    let cut : Rec = rec.Cut put index (length payload) (digest_of payload) in
    let rests : Rests (after_all s (cut ∷ m.displaced)) =
    all_left s (cut ∷ m.displaced) (tt, displaced_leave_vectors p s _ m.displaced m.displaces) (h, m.cut.writing.quiet) in
    subst HasOneVector (sym (ap (after_all s) m.is ∙ after_all-append (state_after s cut) m.displaced _))
    (one_placed (after_all s (cut ∷ m.displaced)) (next_fragment_of m.w) _ _ _ _ rests)

vector_placed : (p : Permit) (s : State) (put fragments : ℕ) (added : List Rec) → MayPlaceVector p s put fragments added
    → HasOneVector s → HasOneVector (after_all s added)
vector_placed p s put fragments added m h =
    let rests : Rests (after_all s m.displaced) =
    all_left s m.displaced (displaced_leave_vectors p s _ m.displaced m.displaces) (h, m.cut.writing.quiet) in
    subst HasOneVector (sym (ap (after_all s) m.is ∙ after_all-append s m.displaced _))
    (one_placed (after_all s m.displaced) (vector_piece m.w.key put) _ _ _ _ rests)

-- ---- the last vector of a key is another one, or none

passing_by : (P : Row → Type 0) (test : Row → Bool) (x : Row) (rest : List Row) (b : Bool) → test x ≡ b → P x
    → AllByRecursion (λ (row : Row). P row × (test row ≡ true)) rest → AllByRecursion (λ (row : Row). P row × (test row ≡ true)) (if b then x ∷ rest else rest)
passing_by P test x rest true is p each = ((p, is), each)
passing_by P test x rest false is p each = each

passing_each : (P : Row → Type 0) (test : Row → Bool) (rows : List Row) → AllByRecursion P rows → AllByRecursion (λ (row : Row). P row × (test row ≡ true)) (filter test rows)
passing_each P test [] each = tt
passing_each P test (x ∷ rows) each = passing_by P test x (filter test rows) (test x) refl each.0 (passing_each P test rows each.1)

-- a vector that is not the one that was taken out is another one
not_taken : (row : Row) (key : Key) (put : ℕ) → not (same_piece row.id (vector_piece key put)) ≡ true → is_vector row.id ≡ true
    → same_key key row.id.first ≡ true → row.id.put ≡ put → ⊥
not_taken row key put left vector same is =
    let key_is : key ≡ row.id.first = same_key-true key row.id.first same in
    let first : same_key row.id.first key ≡ true = ap (same_key row.id.first) key_is ∙ same_key-same row.id.first in
    no_truth (sym (one_piece row.id (vector_piece key put) vector refl first is) ∙ not-true (same_piece row.id (vector_piece key put)) left)

-- what the last one of a row's key is, once another record of a key stands in front
module _ (vectors : List (Key × LastVector)) (key : Key) (row : Row) (vector : is_vector row.id ≡ true) where
  of_key : same_key key row.id.first ≡ true → lookup (λ k. same_key k row.id.first) vectors ≡ lookup (λ k. same_key k key) vectors
  of_key same = ap (λ (f : Key). lookup (λ k. same_key k f) vectors) (sym (same_key-true key row.id.first same))

  behind : (last : LastVector) → (same_key key row.id.first ≡ true → last ≡ Complete row.id.put)
      → (same_key key row.id.first ≡ false → lookup (λ k. same_key k row.id.first) vectors ≡ Some (Complete row.id.put))
      → lookup (λ k. same_key k row.id.first) ((key, last) ∷ vectors) ≡ Some (Complete row.id.put)
  behind last its other = by (same_key key row.id.first) refl where
    by : (b : Bool) → same_key key row.id.first ≡ b
        → (if b then Some last else lookup (λ k. same_key k row.id.first) vectors) ≡ Some (Complete row.id.put)
    by true is = ap Some (its is)
    by false is = other is

-- ---- a vector is taken out

removed_last : (s : State) (key : Key) (row : Row) → live_vector_of s key ≡ Some row → last_vector s key ≡ Some (Complete row.id.put)
removed_last s key row live = by (last_vector s key) refl live where
  found : (put : ℕ) (o : Option Row) → row_of s (vector_piece key put) ≡ o → option_and_then (only_live s) o ≡ Some row → row.id.put ≡ put
  found put None e h = none_is h
  found put (Some old) e h = live_by (is_live s old) h where
    live_by : (b : Bool) → (if b then Some old else None) ≡ Some row → row.id.put ≡ put
    live_by true h' =
        let same : old ≡ row = cc in
        ap (λ (r : Row). r.id.put) (sym same) ∙ ap (λ (i : PieceId). i.put) (own_piece (vector_piece key put) s.rows old e)
    live_by false h' = none_is h'

  by : (o : Option LastVector) → last_vector s key ≡ o → option_and_then (live_row_of s) (option_and_then (vector_of_last key) o) ≡ Some row
      → o ≡ Some (Complete row.id.put)
  by None e h = none_is h
  by (Some (TakenOut put)) e h = none_is h
  by (Some (Complete put)) e h = ap (λ n. Some (Complete n)) (sym (found put (row_of s (vector_piece key put)) refl h))

removed : (s : State) (key : Key) (added : List Rec) (e : End) → Legal.DoesRemove s key added e → HasOneVector s → HasOneVector (after_all s added)
removed s key added e (Legal.DoesRemove.absent quiet none is) h = subst (λ recs. HasOneVector (after_all s recs)) (sym is) h
removed s key added e (Legal.DoesRemove.removes row quiet live is) h =
    let put = row.id.put in
    let last : last_vector s key ≡ Some (Complete put) = removed_last s key row live in
    let vectors : List (Key × LastVector) = (key, TakenOut put) ∷ s.vectors in
    let left = λ (r : Row). not (same_piece r.id (vector_piece key put)) in
    let one : (r : Row) → IsLast s.vectors r × (left r ≡ true) → IsLastOrWaits s.pending vectors r = λ r is vector.
    inr (behind s.vectors key r vector (TakenOut put)
    (λ same. absurd (not_taken r key put is.1 vector same (one_put r.id.put put (sym (is.0 vector) ∙ (of_key s.vectors key r vector same ∙ last)))))
    (λ other. is.0 vector)) in
    subst (λ recs. HasOneVector (after_all s recs)) (sym is) (record {
      last = all_as (λ (r : Row). IsLast s.vectors r × (left r ≡ true)) (IsLastOrWaits s.pending vectors) one (filter left s.rows)
          (passing_each (IsLast s.vectors) left s.rows (all_last s h quiet));
      apart = apart-part (part-filter left s.rows) h.apart;
      marks = h.marks;
    })

-- ---- a vector is committed

other_last : {X : Type 0} (n m : ℕ) → Some (TakenOut n) ≡ Some (Complete m) → X
other_last n m h = cc

module _ (s : State) (key : Key) (put : ℕ) (waits : s.pending ≡ Some (vector_piece key put)) (h : HasOneVector s) where
  abbrev vectors : List (Key × LastVector)
  vectors = (key, Complete put) ∷ s.vectors

  own_one : (row : Row) → s.pending ≡ Some row.id → row.id ≡ vector_piece key put
  own_one row own = same_some row.id (vector_piece key put) s.pending own waits

  own_key : (row : Row) → s.pending ≡ Some row.id → same_key key row.id.first ≡ true
  own_key row own = ap (λ (i : PieceId). same_key key i.first) (own_one row own) ∙ same_key-same key

  -- where its own key's last one is no other, it is the last one now
  committed_row : (row : Row) → IsLastOrWaits s.pending s.vectors row
      → (is_vector row.id ≡ true → same_key key row.id.first ≡ true → last_vector s key ≡ Some (Complete row.id.put) → row.id.put ≡ put)
      → IsLastOrWaits None vectors row
  committed_row row is other vector = inr (behind s.vectors key row vector (Complete put)
      (λ same. ap Complete (sym (elim (is vector) [
        | inl own ↦ ap (λ (i : PieceId). i.put) (own_one row own)
        | inr last ↦ other vector same (sym (of_key s.vectors key row vector same) ∙ last)
      ])))
      (λ differs. elim (is vector) [
        | inl own ↦ no_truth (sym (own_key row own) ∙ differs)
        | inr last ↦ last
      ]))

  all_rows : ((row : Row) → is_vector row.id ≡ true → same_key key row.id.first ≡ true → last_vector s key ≡ Some (Complete row.id.put) → row.id.put ≡ put)
      → AllByRecursion (IsLastOrWaits None vectors) s.rows
  all_rows other = all_as (IsLastOrWaits s.pending s.vectors) (IsLastOrWaits None vectors) (λ row is. committed_row row is (other row)) s.rows h.last

  earlier_by : (old : ℕ) (b : Bool) → (old == put) ≡ b → last_vector s key ≡ Some (Complete old)
      → AllByRecursion (IsLastOrWaits None vectors) (if b then s.rows else without (vector_piece key old) s.rows)
  earlier_by old true is e = all_rows (λ row vector same last. one_put row.id.put old (sym last ∙ e) ∙ eqb-true old put is)
  earlier_by old false is e =
      let left = λ (r : Row). not (same_piece r.id (vector_piece key old)) in
      all_as (λ (r : Row). IsLastOrWaits s.pending s.vectors r × (left r ≡ true)) (IsLastOrWaits None vectors)
      (λ row both. committed_row row both.0 (λ vector same last. absurd (not_taken row key old both.1 vector same (one_put row.id.put old (sym last ∙ e)))))
      (filter left s.rows) (passing_each (IsLastOrWaits s.pending s.vectors) left s.rows h.last)

  earlier : (o : Option LastVector) → last_vector s key ≡ o → AllByRecursion (IsLastOrWaits None vectors) (without_earlier key put o s.rows)
  earlier None e = all_rows (λ row vector same last. none_is (sym e ∙ last))
  earlier (Some (TakenOut n)) e = all_rows (λ row vector same last. other_last n row.id.put (sym e ∙ last))
  earlier (Some (Complete old)) e = earlier_by old (old == put) refl e

  apart_by : (old : ℕ) (b : Bool) → AreApart (if b then s.rows else without (vector_piece key old) s.rows)
  apart_by old true = h.apart
  apart_by old false = apart-part (part-filter _ s.rows) h.apart

  earlier_apart : (o : Option LastVector) → AreApart (without_earlier key put o s.rows)
  earlier_apart None = h.apart
  earlier_apart (Some (TakenOut n)) = h.apart
  earlier_apart (Some (Complete old)) = apart_by old (old == put)

committed : (s : State) (put : ℕ) (added : List Rec) (e : End) → Legal.DoesCommit s put added e → HasOneVector s → HasOneVector (after_all s added)
committed s put added e (Legal.DoesCommit.commits w found still waits is) h =
    subst (λ recs. HasOneVector (after_all s recs)) (sym is) (record {
      last = earlier s w.key put waits h (last_vector s w.key) refl;
      apart = earlier_apart s w.key put waits h (last_vector s w.key);
      marks = h.marks;
    })

-- ---- groups and steps

by_quiet : (p : Permit) (s : State) (added : List Rec) (e : End) → IsQuiet s → Groups p s added e → HasOneVector s → HasOneVector (after_all s added)
by_quiet p s added e quiet (Counted.Groups.beside all) h = (all_left s added all (h, quiet)).0
by_quiet p s added e quiet (Counted.Groups.removes key d) h = removed s key added e d h
by_quiet p s added e quiet (Counted.Groups.begins m) h =
    subst (λ recs. HasOneVector (after_all s recs)) (sym m.is) (record { last = h.last; apart = h.apart; marks = h.marks })
by_quiet p s added e quiet (Counted.Groups.places_fragment put index payload m) h = fragment_placed p s put index payload added m h
by_quiet p s added e quiet (Counted.Groups.places_vector put fragments m) h = vector_placed p s put fragments added m h
by_quiet p s added e quiet (Counted.Groups.commits_vector put d) h = committed s put added e d h

pub by_group : (p : Permit) (s : State) (i : Intent) (added : List Rec) (e : End) → Does p s i added e → HasOneVector s → HasOneVector (after_all s added)
by_group p s i added e d h = elim (quiet_or_commits p s i added e d) [
  | inl quiet ↦ by_quiet p s added e quiet (groups p s i added e d) h
  | inr commits ↦ committed s commits.0 added e commits.1 h
]

advanced : (p : Permit) (s : State) (is : List Intent) (why : Option Reason) (added : List Rec) (after : Work) → Advances p s is why added after
    → HasOneVector s → HasOneVector (after_all s added)
advanced p s [] why added after a h = absurd a
advanced p s (i ∷ is) why added after a h = by_group p s i added a.0 a.1 h

grown : {p : Permit} {s : State} {w after : Work} {recs : List Rec} → MayGrow p s w recs after → HasOneVector s → HasOneVector (after_all s recs)
grown nothing h = h
grown {p} {s} {w} (more {rest = tail} added between one others) h =
    subst HasOneVector (sym (after_all-append s added tail)) (grown others (advanced p s w.intents w.refused added between one h))

-- ---- sessions

-- the first of a list and each later one
each_later : (x : Row) (xs : List Row) → AllPairs AreOfTwoKeys (x ∷ xs) → AllByRecursion (AreOfTwoKeys x) xs
each_later x [] pairs = tt
each_later x (y ∷ ys) pairs = (pairs 0 1 x (omega arith) (omega arith), each_later x ys (all_pairs_remove AreOfTwoKeys (x ∷ y ∷ ys) 1 (omega arith) pairs))

module _ (f : FoundRow) (more : List (Key × LastVector)) where
  own_by : (b : Bool) → b ≡ true → lookup (λ k. same_key k f.id.first) ((if b then (f.id.first, Complete f.id.put) ∷ [] else []) ++ more) ≡ Some (Complete f.id.put)
  own_by true is = ap (λ b. if b then Some (Complete f.id.put) else lookup (λ k. same_key k f.id.first) more) (same_key-same f.id.first)
  own_by false is = no_truth (sym is)

  skip_by : (row : Row) (b : Bool) → (b ≡ true → same_key f.id.first row.id.first ≡ false)
      → lookup (λ k. same_key k row.id.first) ((if b then (f.id.first, Complete f.id.put) ∷ [] else []) ++ more) ≡ lookup (λ k. same_key k row.id.first) more
  skip_by row true differs = ap (λ b. if b then Some (Complete f.id.put) else lookup (λ k. same_key k row.id.first) more) (differs refl)
  skip_by row false differs = refl

  others : (rows : List Row) → AllByRecursion (AreOfTwoKeys (row_of_found f)) rows → AllByRecursion (IsLast more) rows
      → AllByRecursion (IsLast (vector_of_found f ++ more)) rows
  others [] keys each = tt
  others (row ∷ rows) keys each = (
    λ vector. skip_by row (is_vector f.id) (λ its. keys.0 its vector) ∙ each.0 vector,
    others rows keys.1 each.1,
  )

found_last : (found : List FoundRow) → AllPairs AreOfTwoKeys (map row_of_found found) → AllByRecursion (IsLast (flat_map vector_of_found found)) (map row_of_found found)
found_last [] pairs = tt
found_last (f ∷ found) pairs =
    let more : List (Key × LastVector) = flat_map vector_of_found found in (
      λ vector. own_by f more (is_vector f.id) vector,
      others f more (map row_of_found found) (each_later (row_of_found f) (map row_of_found found) pairs)
          (found_last found (all_pairs_remove AreOfTwoKeys (row_of_found f ∷ map row_of_found found) 0 (omega arith) pairs)),
    )

pub legal_one : (setting : Setting) (past : List Call) (courses : List Course) (recs : List Rec) → IsLegal setting past courses recs → HasOneVector (after_all nothing_yet recs)
legal_one setting past courses recs (Legal.IsLegal.begins geometry) =
    record { last = tt; apart = tt; marks = (record { apart = tt; keys = no_pairs [] }, tt) }
legal_one setting past courses recs (Legal.IsLegal.opens geometry o opening) =
    let vectors : List (Key × LastVector) = flat_map vector_of_found o.found in
    record {
      last = all_as (IsLast vectors) (IsLastOrWaits None vectors) (λ row last vector. inr (last vector)) (map row_of_found o.found) (found_last o.found opening.keys);
      apart = opening.apart;
      marks = (record { apart = opening.apart; keys = opening.keys }, tt);
    }
legal_one setting past courses recs (Legal.IsLegal.steps {courses = earlier} {before = before} {added = added} course e legal step) =
    subst HasOneVector (sym (after_all-append nothing_yet before added)) (grown step.grows (legal_one setting _ earlier before legal))
legal_one setting past courses recs (Legal.IsLegal.tells call is legal) = legal_one setting _ courses recs legal
