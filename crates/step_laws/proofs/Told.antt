-- What each record makes of the vectors' rows and of the puts.
use Rattle.std.proofs.Common.{◌≡◌, ℕ, ◌<◌, List, [], ◌∷◌, ◌++◌, length, refl, sym, ◌∙◌, ap, subst, arith, inl, inr, ◌⊎◌, Bool, true, false, cond, length-append}
use Rattle.std.specs.Prelude.{Option, Some, None, if◌then◌else◌, find, map, option_map, unwrap_or, ◌==◌}
use Rattle.std.specs.List.{AllByRecursion}
use Rattle.std.proofs.lemmas.Bool.{eqb-true}
use Rattle.tape_base.specs.declared.digests.Digest.{Digest}
use Rattle.tape_base.specs.declared.keys.Key.{Key}
use Rattle.tape_base.specs.declared.pieces.PieceId.{PieceId}
use Rattle.fragment_table.specs.Table.{TableRow, IsRow}
use Rattle.alternate_vector.specs.Alternates.{IsStored}
use Rattle.alternate_vector.proofs.Loops.{each_push}
use Rattle.cache_model.specs.declared.record.Rec.{Rec}
use Rattle.cache_model.specs.declared.record.Rec.TheVariants as rec
use Rattle.cache_model.specs.State.{State, Row, PutRow, LastVector, Complete, TakenOut, Writing, Closed, GivenUp, after_all, alternate_of, change_put, last_vector, list_of_last, list_of_put, list_of_row, merged_list, most_payload, placed_row, put_of, state_after, vector_piece, with_cut, with_writing, without}
use Rattle.alternate_vector.specs.Alternates.{merged}
use Rattle.cache_model.specs.Room.{displaced_record}
use Rattle.cache_model.specs.Vectors.{AreTold, AreVectors, IsListed, IsVectorRow}
use Rattle.cache_model.proofs.Found.{none_is, same_some}
use Rattle.cache_model.proofs.Lists.{row_in-moved}
use Rattle.cache_model.proofs.Rows.{ArePart, part-filter, each_part}
use Rattle.cache_model.proofs.Sound.{AllLeaveTape, SameTape, leaves_one}
use Rattle.cache_model.proofs.Aside.{AllAside, LeavesPuts}
use Rattle.cache_model.proofs.Steps.{all_as}

-- ---- rows

pub listed_stays : (s t : State) → t.geometry ≡ s.geometry → (row : Row) → IsListed s row → IsListed t row
listed_stays s t same row listed vector =
    let l = listed vector in
    let v : IsVectorRow s row l.0 = l.1 in
    (l.0, record { start = v.start; lists = v.lists; spelled = v.spelled; digest = rw same v.digest; blocks = v.blocks; small = rw same v.small })

-- rows that stay list what they listed
pub vectors_part : (s t : State) → t.geometry ≡ s.geometry → ArePart t.rows s.rows → AreVectors s → AreVectors t
vectors_part s t same part each = all_as (IsListed s) (IsListed t) (listed_stays s t same) t.rows (each_part (IsListed s) part each)

vectors_one : (s t : State) → SameTape s t → AreVectors s → AreVectors t
vectors_one s t same each = vectors_part s t same.geometry same.rows each

pub vectors_leave : (s : State) (recs : List Rec) → AllLeaveTape recs → AreVectors s → AreVectors (after_all s recs)
vectors_leave s [] h each = each
vectors_leave s (r ∷ recs) h each = vectors_leave (state_after s r) recs h.1 (vectors_one s (state_after s r) (leaves_one s r h.0) each)

-- a row that lists its alternates is placed
pub vectors_placed : (s : State) (piece : PieceId) (place blocks : ℕ) (digest : Digest) (pin : ℕ) → IsListed s (placed_row s piece place blocks digest pin) → AreVectors s
    → AreVectors (state_after s (rec.Placed piece place blocks digest pin))
vectors_placed s piece place blocks digest pin listed each =
    let t : State = state_after s (rec.Placed piece place blocks digest pin) in
    let before : AllByRecursion (IsListed s) (without piece s.rows) = each_part (IsListed s) (part-filter _ s.rows) each in
    all_as (IsListed s) (IsListed t) (listed_stays s t refl) t.rows (each_push (IsListed s) (without piece s.rows) (placed_row s piece place blocks digest pin) before listed)

-- ---- puts

-- a put that is found was there before, as it is or as it was changed
record WasPut (puts : List PutRow) (put : ℕ) (f : PutRow → PutRow) (n : ℕ) (w : PutRow) : Type 0 where
  old : PutRow
  found : find (λ p. p.put == n) puts ≡ Some old
  is : (w ≡ old) ⊎ ((n ≡ put) × (w ≡ f old))

module _ (put : ℕ) (f : PutRow → PutRow) (keeps : (p : PutRow) → (f p).put ≡ p.put) (n : ℕ) (w : PutRow) where
  further : (p : PutRow) (puts : List PutRow) → (p.put == n) ≡ false → WasPut puts put f n w → WasPut (p ∷ puts) put f n w
  further p puts other was = record { old = was.old; found = rw other was.found; is = was.is }

  was_by : (p : PutRow) (puts : List PutRow) (b c : Bool) → (p.put == put) ≡ b → (p.put == n) ≡ c
      → (find (λ q. q.put == n) (change_put put f puts) ≡ Some w → WasPut puts put f n w)
      → cond ((if b then f p else p).put == n) (Some (if b then f p else p)) (find (λ q. q.put == n) (change_put put f puts)) ≡ Some w
      → WasPut (p ∷ puts) put f n w
  was_by p puts true true here found rest h =
      let still : ((f p).put == n) ≡ true = ap (λ m. m == n) (keeps p) ∙ found in
      let same : w ≡ f p = sym (same_some (f p) w (Some (f p)) refl (rw still at h)) in
      let number : n ≡ put = sym (eqb-true p.put n found) ∙ eqb-true p.put put here in
      record { old = p; found = rw found refl; is = inr (number, same) }
  was_by p puts true false here found rest h =
      let still : ((f p).put == n) ≡ false = ap (λ m. m == n) (keeps p) ∙ found in
      further p puts found (rest (rw still at h))
  was_by p puts false true here found rest h =
      let same : w ≡ p = sym (same_some p w (Some p) refl (rw found at h)) in
      record { old = p; found = rw found refl; is = inl same }
  was_by p puts false false here found rest h = further p puts found (rest (rw found at h))

  was_put : (puts : List PutRow) → find (λ q. q.put == n) (change_put put f puts) ≡ Some w → WasPut puts put f n w
  was_put [] h = none_is h
  was_put (p ∷ puts) h = was_by p puts (p.put == put) (p.put == n) refl refl (was_put puts) h

-- the alternate of each put of a list may be kept
abbrev pub AreFit : List PutRow → Type 0
AreFit puts = (put : ℕ) (w : PutRow) → find (λ p. p.put == put) puts ≡ Some w → IsStored (alternate_of w)

-- a put is changed so that its alternate may still be kept
puts_changed : (put : ℕ) (f : PutRow → PutRow) (puts : List PutRow) → ((p : PutRow) → (f p).put ≡ p.put)
    → ((w : PutRow) → find (λ p. p.put == put) puts ≡ Some w → IsStored (alternate_of w) → IsStored (alternate_of (f w))) → AreFit puts → AreFit (change_put put f puts)
puts_changed put f puts keeps fits each n w found =
    let was : WasPut puts put f n w = was_put put f keeps n w puts found in
    let old : IsStored (alternate_of was.old) = each n was.old was.found in
    elim was.is [
      | inl same ↦ subst (λ (x : PutRow). IsStored (alternate_of x)) (sym same) old
      | inr changed ↦ subst (λ (x : PutRow). IsStored (alternate_of x)) (sym changed.1) (fits was.old (subst (λ m. find (λ p. p.put == m) puts ≡ Some was.old) changed.0 was.found) old)
    ]

puts_ended : (put : ℕ) (writing : Writing) (puts : List PutRow) → AreFit puts → AreFit (change_put put (with_writing writing) puts)
puts_ended put writing puts each = puts_changed put (with_writing writing) puts (λ p. refl) (λ w found stored. record {
  put = stored.put;
  pin = stored.pin;
  request = stored.request;
  response = stored.response;
  table = stored.table;
  length = refl;
}) each

-- a fragment more is cut
pub puts_cut : (put : ℕ) (entry : TableRow) (puts : List PutRow) (w : PutRow) → find (λ p. p.put == put) puts ≡ Some w → length w.cuts < 4096 → IsRow entry → AreFit puts
    → AreFit (change_put put (with_cut entry) puts)
puts_cut put entry puts w found few row each = puts_changed put (with_cut entry) puts (λ p. refl) cut each
  where
    cut : (x : PutRow) → find (λ p. p.put == put) puts ≡ Some x → IsStored (alternate_of x) → IsStored (alternate_of (with_cut entry x))
    cut x again stored =
        let same : x ≡ w = same_some x w (find (λ p. p.put == put) puts) again found in
        let fewer : length x.cuts < 4096 = rw same few in
        record {
          put = stored.put;
          pin = stored.pin;
          request = stored.request;
          response = stored.response;
          table = record { few = omega (arith, fewer, length-append x.cuts (entry ∷ [])); each = each_push IsRow x.cuts entry stored.table.each row };
          length = refl;
        }

opened_by : (n : ℕ) (puts : List PutRow) (new w : PutRow) (b : Bool) → IsStored (alternate_of new) → (find (λ p. p.put == n) puts ≡ Some w → IsStored (alternate_of w))
    → cond b (Some new) (find (λ p. p.put == n) puts) ≡ Some w → IsStored (alternate_of w)
opened_by n puts new w true stored rest h = subst (λ (x : PutRow). IsStored (alternate_of x)) (same_some new w (Some new) refl h) stored
opened_by n puts new w false stored rest h = rest h

-- a put opens
pub puts_opened : (new : PutRow) (puts : List PutRow) → IsStored (alternate_of new) → AreFit puts → AreFit (new ∷ puts)
puts_opened new puts stored each n w found = opened_by n puts new w (new.put == n) stored (each n w) found

pub no_puts : AreFit []
no_puts n w found = none_is found

puts_left : (s : State) (r : Rec) → LeavesPuts r → AreFit s.puts → AreFit (state_after s r).puts
puts_left s (rec.Formatted geometry) h each = no_puts
puts_left s (rec.Opened geometry serial cursor floor next_put clean list) h each = no_puts
puts_left s (rec.Displaced piece segment live) h each = absurd h
puts_left s (rec.WriteOpened actor put key request response pin) h each = absurd h
puts_left s (rec.Cut put index length digest) h each = absurd h
puts_left s (rec.Committed put key bytes list) h each = puts_ended put Closed s.puts each
puts_left s (rec.Aborted put key) h each = puts_ended put GivenUp s.puts each
puts_left s _ h each = each

-- ---- what an insert displaces

nothing_displaced : (s : State) (r : Rec) → LeavesPuts r → s.displaced ≡ [] → (state_after s r).displaced ≡ []
nothing_displaced s (rec.Formatted geometry) h none = refl
nothing_displaced s (rec.Opened geometry serial cursor floor next_put clean list) h none = refl
nothing_displaced s (rec.Placed piece place blocks digest pin) h none = refl
nothing_displaced s (rec.Displaced piece segment live) h none = absurd h
nothing_displaced s (rec.WriteOpened actor put key request response pin) h none = absurd h
nothing_displaced s (rec.Cut put index length digest) h none = absurd h
nothing_displaced s _ h none = none

-- a record that leaves the puts
pub told_left : (s : State) (r : Rec) → LeavesPuts r → AreVectors (state_after s r) → AreTold s → AreTold (state_after s r)
told_left s r h vectors told = record { vectors = vectors; puts = puts_left s r h told.puts; displaced = nothing_displaced s r h told.displaced }

pub told_aside : (s : State) (recs : List Rec) → AllAside recs → AreTold s → AreTold (after_all s recs)
told_aside s [] h told = told
told_aside s (r ∷ recs) h told =
    told_aside (state_after s r) recs h.1 (told_left s r h.0.1 (vectors_one s (state_after s r) (leaves_one s r h.0.0) told.vectors) told)

-- what a put is to list stays the same while pieces are displaced for it
last_moved : (s : State) (piece : PieceId) (segment live : ℕ) (key : Key) (last : Option LastVector)
    → (let t : State = state_after s (rec.Displaced piece segment live) in unwrap_or (option_map (list_of_last t (t.displaced ++ t.rows) key) last) [])
    ≡ unwrap_or (option_map (list_of_last s (s.displaced ++ s.rows) key) last) []
last_moved s piece segment live key (Some (Complete put)) = ap (λ (o : Option Row). unwrap_or (option_map (list_of_row s) o) []) (row_in-moved piece (vector_piece key put) s.displaced s.rows)
last_moved s piece segment live key (Some (TakenOut put)) = refl
last_moved s piece segment live key None = refl

put_moved : (s : State) (piece : PieceId) (segment live : ℕ) (o : Option PutRow)
    → unwrap_or (option_map (merged_list (state_after s (rec.Displaced piece segment live))) o) [] ≡ unwrap_or (option_map (merged_list s) o) []
put_moved s piece segment live None = refl
put_moved s piece segment live (Some w) = ap (λ before. merged s.geometry.alternates (most_payload s.geometry) before (alternate_of w)) (last_moved s piece segment live w.key (last_vector s w.key))

-- behind the records of what an insert displaces
pub record IsBehind (s t : State) (put : ℕ) : Type 0 where
  pub list : list_of_put t put ≡ list_of_put s put
  pub puts : t.puts ≡ s.puts

pub displaced_behind : (s : State) (segment live : ℕ) (rows : List Row) (put : ℕ) → IsBehind s (after_all s (map (displaced_record segment live) rows)) put
displaced_behind s segment live [] put = record { list = refl; puts = refl }
displaced_behind s segment live (row ∷ rows) put =
    let rest : IsBehind (state_after s (displaced_record segment live row)) (after_all (state_after s (displaced_record segment live row)) (map (displaced_record segment live) rows)) put =
    displaced_behind (state_after s (displaced_record segment live row)) segment live rows put in
    record { list = rest.list ∙ put_moved s row.id segment live (put_of s put); puts = rest.puts }
