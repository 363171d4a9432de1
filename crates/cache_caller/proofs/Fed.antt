-- What a writer has of a body, one write behind the other.
use Rattle.std.proofs.Common.{◌≡◌, ℕ, ◌+◌, ◌-◌, ◌<◌, ◌≤◌, List, [], ◌∷◌, ◌++◌, refl, sym, ◌∙◌, ap, subst, arith, Bool, true, false, length, drop, take}
use Rattle.std.specs.Prelude.{Option, Some, None, cond, find, map, option_map, unwrap_or, ◌==◌, min, if◌then◌else◌, MatchBool}
use Rattle.std.specs.List.{AllByRecursion}
use Rattle.std.proofs.lemmas.Bool.{eq-eqb}
use Rattle.std.proofs.lemmas.List.{length-append, length-drop, length-take-le}
use Rattle.std.proofs.lemmas.List.Sums.{sum_by-append}
use Rattle.tape_base.specs.declared.actors.Actor.{Actor}
use Rattle.tape_base.specs.declared.keys.Key.{Key}
use Rattle.tape_base.specs.declared.pieces.PieceId.{PieceId}
use Rattle.tape_base.specs.Digest.{digest_of}
use Rattle.fragment_table.specs.Table.{TableRow, made_row, total_length}
use Rattle.alternate_vector.specs.Field.{Field}
use Rattle.cache_model.specs.declared.record.Rec.{Rec}
use Rattle.cache_model.specs.declared.record.Rec.TheVariants as rec
use Rattle.cache_model.specs.State.{Closed, GivenUp, Open, PutRow, Row, State, Writing, after_all, opened_put, put_of, state_after, with_cut}
use Rattle.cache_model.specs.Kept.{state_of}
use Rattle.cache_model.specs.Permit.{Permit, Setting}
use Rattle.cache_model.specs.Room.{MayDisplace, displaced_record, placed_record}
use Rattle.cache_model.specs.Verdict.{is_open}
use Rattle.cache_model.proofs.ByNumber.{find-changed}
use Rattle.cache_model.proofs.Found.{no_truth}
use Rattle.cache_model.proofs.Steps.{after_all-append}
use Rattle.call_laws.specs.Moments.{At}
use Rattle.call_laws.proofs.Joined.{state_behind}
use Rattle.cache_calls.specs.Actors.{IsAtHand, IsWriterOf, WriterSeen}
use Rattle.cache_model.specs.Subjects.{IsOfFlush}
use Rattle.cache_calls.specs.Asked.{fills_fragment, gathered_with, rest_rows, rows_at_close}
use Rattle.cache_calls.specs.Keeping.{KeepsUnharmed, state_at}
use Rattle.cache_calls.specs.Writers.{CutsAs, HasBegun, HasTaken, IsPushedOut, TakesBytes, fragment_records, opened_writer_record, piece_cut_next}

-- how many bytes of its body a writer has
abbrev pub held : WriterSeen → ℕ
held w = total_length w.cuts + length w.gathered

-- ---- the put of a writer

-- its row, where it is open
record IsFoundOpen (s : State) (put : ℕ) : Type 0 where
  pub row : PutRow
  pub found : put_of s put ≡ Some row
  pub is_open : row.writing ≡ Open

open_by : (writing : Writing) → (elim writing [ Open ↦ true | Closed ↦ false | GivenUp ↦ false ]) ≡ true → writing ≡ Open
open_by Open e = refl
open_by Closed e = no_truth (sym e)
open_by GivenUp e = no_truth (sym e)

found_open : (s : State) (put : ℕ) (o : Option PutRow) → put_of s put ≡ o → unwrap_or (option_map is_open o) false ≡ true → IsFoundOpen s put
found_open s put None e writing = no_truth (sym writing)
found_open s put (Some row) e writing = record { row = row; found = e; is_open = open_by row.writing writing }

-- a new one has cut nothing
pub nothing_cut : (old mid : At) (who : Actor) (key : Key) (request response : List Field) (pin : ℕ) (w : WriterSeen)
    → HasBegun old mid (opened_writer_record (state_at old) who key request response pin) w → held w ≡ 0
nothing_cut old mid who key request response pin w begun =
    let cuts : w.cuts ≡ [] = sym (begun.writer row (ap (put_of (state_at mid)) begun.put ∙ (ap (λ (x : State). put_of x s.next_put) there ∙ found)) refl).cuts_are in
    let total : total_length w.cuts ≡ 0 = ap total_length cuts in
    let none : length w.gathered ≡ 0 = ap length begun.empty in
    omega (arith, total, none)
  where
    s : State
    s = state_at old

    row : PutRow
    row = opened_put who.0 s.next_put key request response pin

    there : state_at mid ≡ state_after s (opened_writer_record s who key request response pin)
    there = state_behind old.kept mid.kept (opened_writer_record s who key request response pin ∷ []) begun.adds

    found : put_of (state_after s (opened_writer_record s who key request response pin)) s.next_put ≡ Some row
    found = ap (λ (b : Bool). cond b (Some row) (find (λ (p : PutRow). p.put == s.next_put) s.puts)) (eq-eqb s.next_put s.next_put refl)

-- the records of a flush leave it
one_of_flush : (s : State) (r : Rec) → IsOfFlush r → (state_after s r).puts ≡ s.puts
one_of_flush s (rec.Began cursor floor) h = refl
one_of_flush s (rec.Moved piece from place digest) h = refl
one_of_flush s (rec.Unsaved piece place fault) h = refl
one_of_flush s (rec.Damaged piece place kept found) h = refl
one_of_flush s (rec.Fault count) h = refl
one_of_flush s _ h = absurd h

flush_leaves : (s : State) (recs : List Rec) → AllByRecursion IsOfFlush recs → (after_all s recs).puts ≡ s.puts
flush_leaves s [] h = refl
flush_leaves s (r ∷ recs) h = flush_leaves (state_after s r) recs h.1 ∙ one_of_flush s r h.0

-- nor do those of what an entry displaces
displaced_leave : (segment live : ℕ) (rows : List Row) (s : State) → (after_all s (map (displaced_record segment live) rows)).puts ≡ s.puts
displaced_leave segment live [] s = refl
displaced_leave segment live (row ∷ rows) s = displaced_leave segment live rows (state_after s (displaced_record segment live row))

pushed_leave : (setting : Setting) (s t : State) (id : PieceId) (displaced : List Rec) → IsPushedOut setting s id displaced
    → (after_all t displaced).puts ≡ t.puts
pushed_leave setting s t id displaced pushed =
    let p : Permit = record { packed = setting.packed; syncs = setting.syncs; now = 0; past = []; events = [] } in
    let m : MayDisplace p s id displaced = pushed p refl in
    subst (λ (recs : List Rec). (after_all t recs).puts ≡ t.puts) (sym m.is) (displaced_leave _ _ m.purged t)

abbrev row_for : List ℕ → TableRow
row_for payload = made_row (length payload) (digest_of payload).0

-- and those of a cut make it one fragment longer
cut_found : (old new : At) (w : WriterSeen) (payload : List ℕ) (row : PutRow) → CutsAs old new w payload → put_of (state_at old) w.put ≡ Some row
    → put_of (state_at new) w.put ≡ Some (with_cut (row_for payload) row)
cut_found old new w payload row c found =
    ap (λ (x : State). put_of x w.put) there
    ∙ (ap (find (λ (p : PutRow). p.put == w.put)) (pushed_leave old.setting room cut (piece_cut_next w) c.displaced c.pushed)
    ∙ (find-changed (λ (p : PutRow). p.put) (with_cut (row_for payload)) (λ x. refl) w.put w.put room.puts
    ∙ rw (eq-eqb w.put w.put refl) (ap (option_map (with_cut (row_for payload))) (ap (find (λ (p : PutRow). p.put == w.put)) left ∙ found))))
  where
    room : State
    room = after_all (state_at old) c.room

    cut : State
    cut = state_after room (rec.Cut w.put (length w.cuts + 1) (length payload) (digest_of payload))

    placed : Rec
    placed = placed_record room (piece_cut_next w) w.pin (total_length w.cuts) (length payload) payload

    there : state_at new ≡ state_after (after_all cut c.displaced) placed
    there =
        let recs : List Rec = fragment_records room w payload c.displaced in
        state_behind old.kept new.kept (c.room ++ recs) c.adds
        ∙ (after_all-append (state_at old) c.room recs ∙ after_all-append cut c.displaced (placed ∷ []))

    left : room.puts ≡ (state_at old).puts
    left = flush_leaves (state_at old) c.room c.kinds

-- ---- a write

total_more : (rows : List TableRow) (row : TableRow) → total_length (rows ++ row ∷ []) ≡ total_length rows + row.length
total_more rows row = sum_by-append (λ (r : TableRow). r.length) rows (row ∷ []) ∙ ap (λ k. total_length rows + k) (one row)
  where
    one : (r : TableRow) → total_length (r ∷ []) ≡ r.length
    one r = omega arith

module _ (old new : At) (w v : WriterSeen) (bytes : List ℕ) (n : ℕ) (own : IsWriterOf (state_at old) w)
    (takes : TakesBytes old new w bytes n)
    (has : HasTaken (state_at old).geometry w bytes n v) (later : IsWriterOf (state_at new) v) where
  abbrev s : State
  s = state_at old

  abbrev payload : List ℕ
  payload = gathered_with w bytes n

  there : IsFoundOpen s w.put
  there = found_open s w.put (put_of s w.put) refl takes.taking.0

  hand : IsAtHand s.geometry there.row w
  hand = own there.row there.found there.is_open

  bounds : (n ≤ length bytes) × (0 < length bytes → 0 < n)
  bounds = by s.geometry.fragment (length w.gathered) (length bytes) n hand.few takes.count
    where
      by : (f g len k : ℕ) → g < f → k ≡ min len (f - g) → (k ≤ len) × (0 < len → 0 < k)
      by f g len k few is = (omega (arith, is), λ some. omega (arith, is, few, some))

  size : length payload ≡ length w.gathered + n
  size = length-append w.gathered (take n bytes) ∙ ap (λ k. length w.gathered + k) (length-take-le n bytes bounds.0)

  cuts_of_row : (row : PutRow) → put_of (state_at new) w.put ≡ Some row → row.writing ≡ Open → v.cuts ≡ row.cuts
  cuts_of_row row found is_open_then = sym (later row (ap (put_of (state_at new)) has.put ∙ found) is_open_then).cuts_are

  -- what it has is longer by what was taken
  longer : held v ≡ held w + n
  longer = by (fills_fragment s.geometry w n) refl
    where
      by : (b : Bool) → fills_fragment s.geometry w n ≡ b → held v ≡ held w + n
      by true e =
          let c : CutsAs old new w payload = subst (λ b. MatchBool b (CutsAs old new w payload) (new.kept ≡ old.kept)) e takes.cuts in
          let cuts : v.cuts ≡ w.cuts ++ row_for payload ∷ [] =
          cuts_of_row (with_cut (row_for payload) there.row) (cut_found old new w payload there.row c there.found) there.is_open
          ∙ ap (λ cs. cs ++ row_for payload ∷ []) hand.cuts_are in
          let total : total_length v.cuts ≡ total_length w.cuts + length payload = ap total_length cuts ∙ total_more w.cuts (row_for payload) in
          let none : length v.gathered ≡ 0 = ap length (has.gathered ∙ ap (λ (b : Bool). if b then [] else payload) e) in
          omega (arith, total, none, size)
      by false e =
          let same : new.kept ≡ old.kept = subst (λ b. MatchBool b (CutsAs old new w payload) (new.kept ≡ old.kept)) e takes.cuts in
          let cuts : v.cuts ≡ w.cuts = cuts_of_row there.row (ap (λ k. put_of (state_of k) w.put) same ∙ there.found) there.is_open ∙ hand.cuts_are in
          let total : total_length v.cuts ≡ total_length w.cuts = ap total_length cuts in
          let more : length v.gathered ≡ length w.gathered + n = ap length (has.gathered ∙ ap (λ (b : Bool). if b then [] else payload) e) ∙ size in
          omega (arith, total, more)

-- ---- a body

-- the first cache, and the one behind the writes so far
pub record Fed {S : Type 0} (at : S → At) (holds : S → Type 0) (first mid : S) (w : WriterSeen) (body : List ℕ) (taken : ℕ) : Type 0 where
  pub keeps : KeepsUnharmed at holds first mid
  pub writer : IsWriterOf (state_at (at mid)) w
  pub put_is : w.put ≡ (state_at (at first)).next_put
  pub within : taken ≤ length body
  pub has : held w ≡ taken

-- what is left, as the code names it
abbrev part : List ℕ → ℕ → List ℕ
part body taken = take (length body - taken) (drop taken body)

-- a write of it takes something, and no more than there is
pub record Further (v : WriterSeen) (body : List ℕ) (taken n : ℕ) : Type 0 where
  pub within : taken + n ≤ length body
  pub nearer : length body - (taken + n) < length body - taken
  pub has : held v ≡ taken + n

pub goes_further : (old new : At) (w v : WriterSeen) (body : List ℕ) (taken n : ℕ) → IsWriterOf (state_at old) w → TakesBytes old new w (part body taken) n
    → HasTaken (state_at old).geometry w (part body taken) n v → IsWriterOf (state_at new) v → taken < length body
    → held w ≡ taken → Further v body taken n
goes_further old new w v body taken n own takes has later left so_far =
    let long : length (part body taken) ≡ length body - taken = length-take-le (length body - taken) (drop taken body) (omega (arith, length-drop taken body)) in
    let taken_in : (n ≤ length (part body taken)) × (0 < length (part body taken) → 0 < n) = bounds old new w v (part body taken) n own takes has later in
    let few : n ≤ length (part body taken) = taken_in.0 in
    let some : 0 < n = taken_in.1 (omega (arith, long, left)) in
    let more : held v ≡ held w + n = longer old new w v (part body taken) n own takes has later in
    record { within = omega (arith, long, few, left); nearer = omega (arith, long, few, left, some); has = omega (arith, more, so_far) }

rest_length : (bytes : List ℕ) → total_length (rest_rows bytes) ≡ length bytes
rest_length [] = refl
rest_length (byte ∷ bytes) = one (length (byte ∷ bytes)) (digest_of (byte ∷ bytes)).0
  where
    one : (k : ℕ) (digest : List ℕ) → total_length (made_row k digest ∷ []) ≡ k
    one k digest = omega arith

-- all that a writer has is in the fragments that it closes with
pub all_closed : (w : WriterSeen) → total_length (rows_at_close w) ≡ held w
all_closed w = sum_by-append (λ (r : TableRow). r.length) w.cuts (rest_rows w.gathered) ∙ ap (λ k. total_length w.cuts + k) (rest_length w.gathered)
