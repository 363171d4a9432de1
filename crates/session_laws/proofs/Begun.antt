-- Each piece that stands, and that a sync names, is of a put that was begun, and lists none but such.
use Rattle.std.proofs.Common.{◌≡◌, ℕ, ◌+◌, ◌<◌, ◌≤◌, ◌==◌, List, [], ◌∷◌, ◌++◌, length, refl, sym, ◌∙◌, ap, subst, arith, Bool, true, false}
use Rattle.std.specs.Prelude.{Option, Some, None, if◌then◌else◌, filter, map, not, find, nat_le, option_map, option_to_list, unwrap_or}
use Rattle.std.specs.List.{AllByRecursion}
use Rattle.device_log.specs.Calls.{Call}
use Rattle.tape_base.specs.declared.digests.Digest.{Digest}
use Rattle.tape_base.specs.declared.geometries.Geometry.{Geometry}
use Rattle.tape_base.specs.declared.keys.Key.{Key}
use Rattle.tape_base.specs.declared.pieces.PieceId.{PieceId}
use Rattle.tape_base.specs.Digest.{digest_of}
use Rattle.tape_base.specs.Piece.{is_vector, same_piece}
use Rattle.fragment_table.specs.Table.{made_row}
use Rattle.alternate_vector.specs.Field.{Field}
use Rattle.alternate_vector.specs.Alternates.{Stored, is_match, is_within, longest_within, merged, with_new}
use Rattle.cache_model.specs.declared.findings.FoundRow.{FoundRow}
use Rattle.cache_model.specs.declared.record.Rec.{Rec}
use Rattle.cache_model.specs.declared.record.Rec.TheVariants as rec
use Rattle.cache_model.specs.State.{State, Row, PutRow, LastVector, Complete, TakenOut, Closed, GivenUp, after_all, alternate_of, change_put, is_live, last_vector, list_among, live_rows, low_of_sync, list_of_last, list_of_put, list_of_row, merged_list, most_payload, moved_row, nothing_yet, placed_row, put_of, row_in, row_of, row_of_found, state_after, vector_piece, with_cut, with_writing, without, without_earlier}
use Rattle.cache_model.specs.Opening.{Opening}
use Rattle.cache_model.specs.Openings.{AreEarlierPuts, IsFoundPiece}
use Rattle.cache_model.specs.Permit.{Permit, Setting, Intent, End, Reason, Work}
use Rattle.cache_model.specs.Legal
use Rattle.cache_model.specs.Legal.{Advances, Course, Does, IsLegal, MayGrow, MayOpenWrite, MayPlaceFragment, MayPlaceVector, format_records, more, next_fragment_of, nothing}
use Rattle.cache_model.proofs.Found.{no_truth, none_is, number_of}
use Rattle.cache_model.proofs.Lists.{found_row}
use Rattle.cache_model.proofs.Rows.{each_part, part-filter}
use Rattle.cache_model.proofs.Steps.{after_all-append, all_append, all_as}
use Rattle.model_laws.proofs.Counted
use Rattle.model_laws.proofs.Counted.{Parts, displaced_leaves, parts}
use Rattle.model_laws.proofs.CountedRecords.{AllLeaveCounts, LeavesCounts, keeps_all}
use Rattle.session_laws.specs.MarkLaws.{IsBegunBefore, IsOfBegun, NamesBegun}

-- ---- what a vector is to list

each_by : {X : Type 0} (P : X → Type 0) (b : Bool) (x : X) (rest : List X) → P x → AllByRecursion P rest → AllByRecursion P (if b then x ∷ rest else rest)
each_by P true x rest p each = (p, each)
each_by P false x rest p each = each

module _ (P : Stored → Type 0) where
  each_passing : (test : Stored → Bool) (list : List Stored) → AllByRecursion P list → AllByRecursion P (filter test list)
  each_passing test [] each = tt
  each_passing test (a ∷ list) each = each_by P (test a) a (filter test list) each.0 (each_passing test list each.1)

  longest_by : (b : Bool) (whole rest : List Stored) → AllByRecursion P whole → AllByRecursion P rest → AllByRecursion P (if b then whole else rest)
  longest_by true whole rest one other = one
  longest_by false whole rest one other = other

  each_longest : (most bytes : ℕ) (list : List Stored) → AllByRecursion P list → AllByRecursion P (longest_within most bytes list)
  each_longest most bytes [] each = tt
  each_longest most bytes (a ∷ list) each =
      longest_by (is_within most bytes (a ∷ list)) (a ∷ list) (longest_within most bytes list) each (each_longest most bytes list each.1)

  pub each_merged : (most bytes : ℕ) (before : List Stored) (new : Stored) → AllByRecursion P before → P new → AllByRecursion P (merged most bytes before new)
  each_merged most bytes before new each p =
      let kept : List Stored = filter (λ a. not (is_match new.request a)) before in
      each_longest most bytes (with_new before new) (all_append P kept (new ∷ []) (each_passing (λ a. not (is_match new.request a)) before each) (p, tt))

module _ (next : ℕ) (s : State) where
  abbrev AreBegun : List Stored → Type 0
  AreBegun list = AllByRecursion (λ (a : Stored). IsBegunBefore next a.put) list

  listed_by : (row : Row) (o : Option (List Stored)) (b : Bool) → ((list : List Stored) → o ≡ Some list → AreBegun list) → AreBegun (if b then unwrap_or o [] else [])
  listed_by row None true each = tt
  listed_by row (Some list) true each = each list refl
  listed_by row o false each = tt

  listed_found : (rows : List Row) (id : PieceId) (o : Option Row) → row_in rows id ≡ o → AllByRecursion (IsOfBegun next) rows
      → AreBegun (unwrap_or (option_map (list_of_row s) o) [])
  listed_found rows id None e each = tt
  listed_found rows id (Some row) e each = listed_by row row.alternates (is_live s row) (found_row (IsOfBegun next) id rows row each e).listed

  listed_last : (rows : List Row) (key : Key) (last : Option LastVector) → AllByRecursion (IsOfBegun next) rows
      → AreBegun (unwrap_or (option_map (list_of_last s rows key) last) [])
  listed_last rows key None each = tt
  listed_last rows key (Some (Complete put)) each = listed_found rows (vector_piece key put) (row_in rows (vector_piece key put)) refl each
  listed_last rows key (Some (TakenOut put)) each = tt

-- ---- states

-- all that stands, or has been displaced by the insert that goes on, and all that a sync names
pub record AreOfBegun (s : State) : Type 0 where
  pub some : 0 < s.next_put
  pub puts : AllByRecursion (λ (w : PutRow). IsBegunBefore s.next_put w.put) s.puts
  pub rows : AllByRecursion (IsOfBegun s.next_put) s.rows
  pub displaced : AllByRecursion (IsOfBegun s.next_put) s.displaced
  pub marks : AllByRecursion NamesBegun s.marks

found_by : (P : PutRow → Type 0) (x w : PutRow) (o : Option PutRow) (b : Bool) → P x → (o ≡ Some w → P w) → (if b then Some x else o) ≡ Some w → P w
found_by P x w o true here rest h = let same : x ≡ w = cc in subst P same here
found_by P x w o false here rest h = rest h

-- a put that is found is one of them
found_put : (P : PutRow → Type 0) (n : ℕ) (puts : List PutRow) (w : PutRow) → AllByRecursion P puts → find (λ p. p.put == n) puts ≡ Some w → P w
found_put P n [] w each h = none_is h
found_put P n (x ∷ puts) w each h = found_by P x w (find (λ p. p.put == n) puts) (x.put == n) each.0 (found_put P n puts w each.1) h

later_put : (low high put : ℕ) → low ≤ high → IsBegunBefore low put → IsBegunBefore high put
later_put low high put le h = (h.0, omega (arith, le, h.1))

later_row : (low high : ℕ) → low ≤ high → (row : Row) → IsOfBegun low row → IsOfBegun high row
later_row low high le row h = record {
  put = λ few. later_put low high row.id.put le (h.put few);
  listed = λ list is. all_as (λ (a : Stored). IsBegunBefore low a.put) (λ (a : Stored). IsBegunBefore high a.put) (λ a. later_put low high a.put le) list (h.listed list is);
  lists = h.lists;
}

-- ---- records that neither begin a put nor place a piece

module _ (next : ℕ) where
  passing : (test : Row → Bool) (rows : List Row) → AllByRecursion (IsOfBegun next) rows → AllByRecursion (IsOfBegun next) (filter test rows)
  passing test rows each = each_part (IsOfBegun next) (part-filter test rows) each

  taken : (id : PieceId) (rows : List Row) (o : Option Row) → row_in rows id ≡ o → AllByRecursion (IsOfBegun next) rows → AllByRecursion (IsOfBegun next) (option_to_list o)
  taken id rows None e each = tt
  taken id rows (Some row) e each = (found_row (IsOfBegun next) id rows row each e, tt)

  moved_all : (place : ℕ) (digest : Digest) (o : Option Row) → AllByRecursion (IsOfBegun next) (option_to_list o)
      → AllByRecursion (IsOfBegun next) (map (moved_row place digest) (option_to_list o))
  moved_all place digest None each = tt
  moved_all place digest (Some row) each = (record { put = each.0.put; listed = each.0.listed; lists = each.0.lists }, tt)

  changed_by : (f : PutRow → PutRow) (p : PutRow) (b : Bool) → (f p).put ≡ p.put → IsBegunBefore next p.put → IsBegunBefore next (if b then f p else p).put
  changed_by f p true keeps h = subst (IsBegunBefore next) (sym keeps) h
  changed_by f p false keeps h = h

  changed_all : (put : ℕ) (f : PutRow → PutRow) → ((p : PutRow) → (f p).put ≡ p.put) → (puts : List PutRow)
      → AllByRecursion (λ (w : PutRow). IsBegunBefore next w.put) puts → AllByRecursion (λ (w : PutRow). IsBegunBefore next w.put) (change_put put f puts)
  changed_all put f keeps [] each = tt
  changed_all put f keeps (p ∷ puts) each = (changed_by f p (p.put == put) (keeps p) each.0, changed_all put f keeps puts each.1)

rows_only : (s t : State) → t.next_put ≡ s.next_put → t.puts ≡ s.puts → t.marks ≡ s.marks
    → AllByRecursion (IsOfBegun s.next_put) t.rows → AllByRecursion (IsOfBegun s.next_put) t.displaced → AreOfBegun s → AreOfBegun t
rows_only s t next puts marks rows displaced h = record {
  some = rw next h.some;
  puts = subst (λ (l : List PutRow). AllByRecursion (λ (w : PutRow). IsBegunBefore t.next_put w.put) l) (sym puts)
      (subst (λ (n : ℕ). AllByRecursion (λ (w : PutRow). IsBegunBefore n w.put) s.puts) (sym next) h.puts);
  rows = subst (λ (n : ℕ). AllByRecursion (IsOfBegun n) t.rows) (sym next) rows;
  displaced = subst (λ (n : ℕ). AllByRecursion (IsOfBegun n) t.displaced) (sym next) displaced;
  marks = subst (AllByRecursion NamesBegun) (sym marks) h.marks;
}

puts_only : (s t : State) → t.next_put ≡ s.next_put → t.rows ≡ s.rows → t.displaced ≡ s.displaced → t.marks ≡ s.marks
    → AllByRecursion (λ (w : PutRow). IsBegunBefore s.next_put w.put) t.puts → AreOfBegun s → AreOfBegun t
puts_only s t next rows displaced marks puts h = record {
  some = rw next h.some;
  puts = subst (λ (n : ℕ). AllByRecursion (λ (w : PutRow). IsBegunBefore n w.put) t.puts) (sym next) puts;
  rows = subst (AllByRecursion (IsOfBegun t.next_put)) (sym rows) (subst (λ (n : ℕ). AllByRecursion (IsOfBegun n) s.rows) (sym next) h.rows);
  displaced = subst (AllByRecursion (IsOfBegun t.next_put)) (sym displaced) (subst (λ (n : ℕ). AllByRecursion (IsOfBegun n) s.displaced) (sym next) h.displaced);
  marks = subst (AllByRecursion NamesBegun) (sym marks) h.marks;
}

begun_one : (s : State) (r : Rec) → LeavesCounts r → AreOfBegun s → AreOfBegun (state_after s r)
begun_one s (rec.Formatted geometry) leaves h = absurd leaves
begun_one s (rec.Opened geometry serial cursor floor next_put clean list) leaves h = absurd leaves
begun_one s (rec.Placed piece place blocks digest pin) leaves h = absurd leaves
begun_one s (rec.WriteOpened actor put key request response pin) leaves h = absurd leaves
begun_one s (rec.Committed put key bytes list) leaves h = absurd leaves
begun_one s (rec.Moved piece from place digest) leaves h =
    rows_only s _ refl refl refl
    (all_append (IsOfBegun s.next_put) (without piece s.rows) (map (moved_row place digest) (option_to_list (row_of s piece)))
    (passing s.next_put (λ row. not (same_piece row.id piece)) s.rows h.rows)
    (moved_all s.next_put place digest (row_of s piece) (taken s.next_put piece s.rows (row_of s piece) refl h.rows))) h.displaced h
begun_one s (rec.Displaced piece segment live) leaves h =
    rows_only s _ refl refl refl (passing s.next_put (λ row. not (same_piece row.id piece)) s.rows h.rows)
    (all_append (IsOfBegun s.next_put) s.displaced (option_to_list (row_of s piece)) h.displaced (taken s.next_put piece s.rows (row_of s piece) refl h.rows)) h
begun_one s (rec.Damaged piece place kept found) leaves h =
    rows_only s _ refl refl refl (passing s.next_put (λ row. not (same_piece row.id piece)) s.rows h.rows) h.displaced h
begun_one s (rec.Removed put key) leaves h =
    rows_only s _ refl refl refl (passing s.next_put (λ row. not (same_piece row.id (vector_piece key put))) s.rows h.rows) h.displaced h
begun_one s (rec.Cut put index length digest) leaves h =
    puts_only s _ refl refl refl refl (changed_all s.next_put put (with_cut (made_row length digest.0)) (λ p. refl) s.puts h.puts) h
begun_one s (rec.Aborted put key) leaves h =
    puts_only s _ refl refl refl refl (changed_all s.next_put put (with_writing GivenUp) (λ p. refl) s.puts h.puts) h
begun_one s (rec.SyncBegun serial cursor clean in_parts) leaves h = record {
  some = h.some;
  puts = h.puts;
  rows = h.rows;
  displaced = h.displaced;
  marks = (
    passing s.next_put (λ row. nat_le (low_of_sync s cursor clean) row.place) (live_rows s) (passing s.next_put (is_live s) s.rows h.rows),
    h.marks,
  );
}
begun_one s _ leaves h = record { some = h.some; puts = h.puts; rows = h.rows; displaced = h.displaced; marks = h.marks }

begun_all : (s : State) (recs : List Rec) → AllLeaveCounts recs → AreOfBegun s → AreOfBegun (after_all s recs)
begun_all s [] leaves h = h
begun_all s (r ∷ recs) leaves h = begun_all (state_after s r) recs leaves.1 (begun_one s r leaves.0 h)

-- ---- a put begins, a piece is placed, and a vector is committed

begun_opened : (s : State) (actor : ℕ) (key : Key) (request response : List Field) (pin : ℕ) (added : List Rec)
    → MayOpenWrite s actor key request response pin added → AreOfBegun s → AreOfBegun (after_all s added)
begun_opened s actor key request response pin added m h =
    let one : s.next_put ≤ s.next_put + 1 = omega arith in
    subst (λ recs. AreOfBegun (after_all s recs)) (sym m.is) (record {
      some = omega arith;
      puts = (
        (h.some, omega arith),
        all_as (λ (w : PutRow). IsBegunBefore s.next_put w.put) (λ (w : PutRow). IsBegunBefore (s.next_put + 1) w.put) (λ w. later_put s.next_put (s.next_put + 1) w.put one) s.puts h.puts,
      );
      rows = all_as (IsOfBegun s.next_put) (IsOfBegun (s.next_put + 1)) (later_row s.next_put (s.next_put + 1) one) s.rows h.rows;
      displaced = all_as (IsOfBegun s.next_put) (IsOfBegun (s.next_put + 1)) (later_row s.next_put (s.next_put + 1) one) s.displaced h.displaced;
      marks = h.marks;
    })

begun_placed : (s : State) (piece : PieceId) (place blocks : ℕ) (digest : Digest) (pin : ℕ) → IsOfBegun s.next_put (placed_row s piece place blocks digest pin)
    → AreOfBegun s → AreOfBegun (state_after s (rec.Placed piece place blocks digest pin))
begun_placed s piece place blocks digest pin placed h = record {
  some = h.some;
  puts = h.puts;
  rows = all_append (IsOfBegun s.next_put) (without piece s.rows) (placed_row s piece place blocks digest pin ∷ [])
      (passing s.next_put (λ row. not (same_piece row.id piece)) s.rows h.rows) (placed, tt);
  displaced = tt;
  marks = h.marks;
}

begun_list : (s : State) (put : ℕ) (o : Option PutRow) → put_of s put ≡ o → AreOfBegun s
    → AllByRecursion (λ (a : Stored). IsBegunBefore s.next_put a.put) (unwrap_or (option_map (merged_list s) o) [])
begun_list s put None e h = tt
begun_list s put (Some w) e h =
    each_merged (λ (a : Stored). IsBegunBefore s.next_put a.put) s.geometry.alternates (most_payload s.geometry) (list_among s (s.displaced ++ s.rows) w.key) (alternate_of w)
    (listed_last s.next_put s (s.displaced ++ s.rows) w.key (last_vector s w.key) (all_append (IsOfBegun s.next_put) s.displaced s.rows h.displaced h.rows))
    (found_put (λ (x : PutRow). IsBegunBefore s.next_put x.put) put s.puts w h.puts e)

no_vector : (n : ℕ) → (n + 1 == 0) ≡ false
no_vector n = grind arith

begun_fragment : (p : Permit) (s : State) (put index : ℕ) (payload : List ℕ) (added : List Rec) → MayPlaceFragment p s put index payload added → AreOfBegun s → AreOfBegun (after_all s added)
begun_fragment p s put index payload added m h =
    let cut : Rec = rec.Cut put index (length payload) (digest_of payload) in
    let t : State = state_after s cut in
    let u : State = after_all t m.displaced in
    let before : AreOfBegun u = begun_all t m.displaced (displaced_leaves p s _ m.displaced m.displaces) (begun_one s cut tt h) in
    let next : u.next_put ≡ s.next_put = (keeps_all t m.displaced (displaced_leaves p s _ m.displaced m.displaces)).next in
    let number : IsBegunBefore u.next_put m.w.put =
    subst (λ (n : ℕ). IsBegunBefore n m.w.put) (sym next) (found_put (λ (w : PutRow). IsBegunBefore s.next_put w.put) put s.puts m.w h.puts m.cut.writing.found) in
    let fragment : is_vector (next_fragment_of m.w) ≡ false = no_vector (length m.w.cuts) in
    subst AreOfBegun (sym (ap (after_all s) m.is ∙ after_all-append t m.displaced _))
    (begun_placed u (next_fragment_of m.w) _ _ _ _ (record {
      put = λ few. number;
      listed = λ list is. none_is (sym (ap (λ b. if b then Some (list_of_put u m.w.put) else None) fragment) ∙ is);
      lists = λ none. ap (λ b. if b then Some (list_of_put u m.w.put) else None) fragment;
    }) before)

begun_vector : (p : Permit) (s : State) (put fragments : ℕ) (added : List Rec) → MayPlaceVector p s put fragments added → AreOfBegun s → AreOfBegun (after_all s added)
begun_vector p s put fragments added m h =
    let leaves : AllLeaveCounts m.displaced = displaced_leaves p s _ m.displaced m.displaces in
    let u : State = after_all s m.displaced in
    let before : AreOfBegun u = begun_all s m.displaced leaves h in
    let next : u.next_put ≡ s.next_put = (keeps_all s m.displaced leaves).next in
    let found = m.cut.writing.found in
    let number : IsBegunBefore u.next_put put =
    subst (λ (n : ℕ). IsBegunBefore u.next_put n) (number_of s put m.w found)
    (subst (λ (n : ℕ). IsBegunBefore n m.w.put) (sym next) (found_put (λ (w : PutRow). IsBegunBefore s.next_put w.put) put s.puts m.w h.puts found)) in
    subst AreOfBegun (sym (ap (after_all s) m.is ∙ after_all-append s m.displaced _))
    (begun_placed u (vector_piece m.w.key put) _ _ _ _ (record {
      put = λ few. number;
      listed = λ list is.
          let same : list_of_put u put ≡ list = cc is in
          subst (λ (l : List Stored). AllByRecursion (λ (a : Stored). IsBegunBefore u.next_put a.put) l) same (begun_list u put (put_of u put) refl before);
      lists = λ none. no_truth none;
    }) before)

earlier_by : (next put old : ℕ) (key : Key) (rows : List Row) (b : Bool) → AllByRecursion (IsOfBegun next) rows
    → AllByRecursion (IsOfBegun next) (if b then rows else without (vector_piece key old) rows)
earlier_by next put old key rows true each = each
earlier_by next put old key rows false each = passing next (λ row. not (same_piece row.id (vector_piece key old))) rows each

earlier_all : (next put : ℕ) (key : Key) (last : Option LastVector) (rows : List Row) → AllByRecursion (IsOfBegun next) rows
    → AllByRecursion (IsOfBegun next) (without_earlier key put last rows)
earlier_all next put key None rows each = each
earlier_all next put key (Some (Complete old)) rows each = earlier_by next put old key rows (old == put) each
earlier_all next put key (Some (TakenOut old)) rows each = each

begun_committed : (s : State) (put : ℕ) (added : List Rec) (e : End) → Legal.DoesCommit s put added e → AreOfBegun s → AreOfBegun (after_all s added)
begun_committed s put added e (Legal.DoesCommit.commits w found still pending is) h =
    subst (λ recs. AreOfBegun (after_all s recs)) (sym is) (record {
      some = h.some;
      puts = changed_all s.next_put put (with_writing Closed) (λ p. refl) s.puts h.puts;
      rows = earlier_all s.next_put put w.key (last_vector s w.key) s.rows h.rows;
      displaced = h.displaced;
      marks = h.marks;
    })

-- ---- groups and steps

pub begun_part : (p : Permit) (s : State) (added : List Rec) (e : End) → Parts p s added e → AreOfBegun s → AreOfBegun (after_all s added)
begun_part p s added e (Counted.Parts.left all) h = begun_all s added all h
begun_part p s added e (Counted.Parts.opens {actor = actor} {key = key} {request = request} {response = response} {pin = pin} m) h =
    begun_opened s actor key request response pin added m h
begun_part p s added e (Counted.Parts.cuts put index payload m) h = begun_fragment p s put index payload added m h
begun_part p s added e (Counted.Parts.lists put fragments m) h = begun_vector p s put fragments added m h
begun_part p s added e (Counted.Parts.commits put d) h = begun_committed s put added e d h

begun_advanced : (p : Permit) (s : State) (is : List Intent) (why : Option Reason) (added : List Rec) (after : Work) → Advances p s is why added after → AreOfBegun s → AreOfBegun (after_all s added)
begun_advanced p s [] why added after a h = absurd a
begun_advanced p s (i ∷ is) why added after a h = begun_part p s added a.0 (parts p s i added a.0 a.1) h

begun_grown : {p : Permit} {s : State} {w after : Work} {recs : List Rec} → MayGrow p s w recs after → AreOfBegun s → AreOfBegun (after_all s recs)
begun_grown nothing h = h
begun_grown {p} {s} {w} (more {rest = tail} added between one others) h =
    subst AreOfBegun (sym (after_all-append s added tail)) (begun_grown others (begun_advanced p s w.intents w.refused added between one h))

-- ---- sessions

found_begun : (g : Geometry) (o : Opening) (found : List FoundRow) → AllByRecursion (IsFoundPiece g o) found → AllByRecursion (AreEarlierPuts o) found
    → AllByRecursion (IsOfBegun o.next_put) (map row_of_found found)
found_begun g o [] each puts = tt
found_begun g o (f ∷ found) each puts = (
  record { put = each.0.number; listed = puts.0; lists = each.0.lists },
  found_begun g o found each.1 puts.1,
)

pub legal_begun : (setting : Setting) (past : List Call) (courses : List Course) (recs : List Rec) → IsLegal setting past courses recs → AreOfBegun (after_all nothing_yet recs)
legal_begun setting past courses recs (Legal.IsLegal.begins geometry) =
    record { some = omega arith; puts = tt; rows = tt; displaced = tt; marks = (tt, tt) }
legal_begun setting past courses recs (Legal.IsLegal.opens geometry o opening) =
    let rows : AllByRecursion (IsOfBegun o.next_put) (map row_of_found o.found) = found_begun geometry o o.found opening.each opening.puts in
    record { some = opening.copy.number.0; puts = tt; rows = rows; displaced = tt; marks = (rows, tt) }
legal_begun setting past courses recs (Legal.IsLegal.steps {courses = earlier} {before = before} {added = added} course e legal step) =
    subst AreOfBegun (sym (after_all-append nothing_yet before added)) (begun_grown step.grows (legal_begun setting _ earlier before legal))
legal_begun setting past courses recs (Legal.IsLegal.tells call is legal) = legal_begun setting _ courses recs legal
