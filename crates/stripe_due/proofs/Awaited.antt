-- A fragment is awaited where the least index that a reader of its put takes next is not behind it.
use Rattle.std.proofs.Common.{◌≡◌, ℕ, ◌+◌, ◌<◌, true, false, cond, List, [], ◌∷◌, Option, Some, None, refl, sym, ap, subst, ◌∙◌, fold, arith}
use Rattle.std.specs.Prelude.{Bool, not, ◌==◌, ◌&&◌, ◌||◌, nat_le, if◌then◌else◌, find, IsSome}
use Rattle.std.specs.List.{list_any}
use Rattle.std.specs.Map.{lookup, values_of}
use Rattle.std.proofs.lemmas.Bool.{eqb-true, eq-eqb}
use Rattle.std.proofs.lemmas.Bool.Decides.{nat_tests}
use Rattle.tape_base.specs.declared.pieces.PieceId.{PieceId}
use Rattle.tape_base.specs.Piece.{is_vector}
use Rattle.open_directory.specs.declared.kept.Reader.{Reader}
use Rattle.open_directory.specs.Directory.{Held, is_number, least_next, min_with, reader_at}
use Rattle.open_directory.proofs.Followers.{is_number_self, same_number}
use Rattle.open_directory.proofs.Rising.{absent_below}
use Rattle.cache_model.specs.State.{State, ReaderRow, most_fragments, reader_of}
use Rattle.cache_model.specs.Due.{is_awaited, is_due_to}
use Rattle.stripe_actors.specs.Actors.{ActorsSeen, AreActors, HasGivenNumbers, IsReaderAs, IsReaderOfRow, NumbersFallBelow, RiseWithin, reader_numbers}
use Rattle.stripe_actors.proofs.Numbered.{rises_within}
use Rattle.stripe_actors.proofs.Telling.{was_given}
use Rattle.stripe_due.specs.Walk.{is_at_or_above, is_left_to_reader}

-- a reader of the put takes a fragment next that is this one or stands before it
abbrev awaits : ℕ → ℕ → Reader → Bool
awaits put index r = r.put == put && nat_le r.next index

abbrev row_awaits : ℕ → ℕ → ReaderRow → Bool
row_awaits put index r = r.put == put && nat_le r.next index

-- ---- the least of all

within_lesser : (index n : ℕ) (least : Option ℕ) → is_at_or_above index (min_with n least) ≡ (nat_le n index || is_at_or_above index least)
within_lesser index n None = elim (nat_le n index) as (λ b. b ≡ (b || false)) [ true ↦ refl | false ↦ refl ]
within_lesser index n (Some m) = grind (arith, nat_tests)

or_moved : (a b c : Bool) → ((a || b) || c) ≡ (b || (a || c))
or_moved true true c = refl
or_moved true false c = refl
or_moved false true c = refl
or_moved false false c = refl

within_fold : (put index : ℕ) (rs : List Reader) (least : Option ℕ)
    → is_at_or_above index (fold (λ least r. if r.put == put then min_with r.next least else least) least rs) ≡ (is_at_or_above index least || list_any (awaits put index) rs)
within_fold put index [] least = elim (is_at_or_above index least) as (λ b. b ≡ (b || false)) [ true ↦ refl | false ↦ refl ]
within_fold put index (r ∷ rs) least = by_test (within_fold put index rs) (r.put == put)
  where
    by_test : ((least : Option ℕ) → is_at_or_above index (fold (λ least r. if r.put == put then min_with r.next least else least) least rs) ≡ (is_at_or_above index least || list_any (awaits put index) rs))
        → (b : Bool) → is_at_or_above index (fold (λ least r. if r.put == put then min_with r.next least else least) (cond b (min_with r.next least) least) rs)
        ≡ (is_at_or_above index least || ((b && nat_le r.next index) || list_any (awaits put index) rs))
    by_test rest true =
        rest (min_with r.next least)
        ∙ (ap (λ b. b || list_any (awaits put index) rs) (within_lesser index r.next least) ∙ or_moved (nat_le r.next index) (is_at_or_above index least) (list_any (awaits put index) rs))
    by_test rest false = rest least

-- ---- the readers of the table, and of the records

-- an entry of the table for which a test holds, and its number
record HasEntry (P : Reader → Bool) (es : List (ℕ × Reader)) : Type 0 where
  number : ℕ
  reader : Reader
  found : lookup (is_number number) es ≡ Some reader
  holds : P reader ≡ true

record HasRow (P : ReaderRow → Bool) (rows : List ReaderRow) : Type 0 where
  row : ReaderRow
  found : find (λ r. r.reader == row.reader) rows ≡ Some row
  holds : P row ≡ true

entry_behind : (P : Reader → Bool) (low high : ℕ) (e : ℕ × Reader) (es : List (ℕ × Reader)) → RiseWithin low high (e ∷ es) → HasEntry P es → HasEntry P (e ∷ es)
entry_behind P low high e es h k = record {
  number = k.number;
  reader = k.reader;
  found = by_test (is_number k.number e.0) refl;
  holds = k.holds;
}
  where
    by_test : (b : Bool) → is_number k.number e.0 ≡ b → cond b (Some e.1) (lookup (is_number k.number) es) ≡ Some k.reader
    by_test true t =
        let same : k.number ≡ e.0 = same_number k.number e.0 t in
        let none : lookup (is_number k.number) es ≡ None = absent_below k.number (e.0 + 1) es (omega arith) (rises_within (e.0 + 1) high es h.1) in
        let never : None ≡ Some k.reader = sym none ∙ k.found in
        cc
    by_test false t = k.found

entry_first : (P : Reader → Bool) (e : ℕ × Reader) (es : List (ℕ × Reader)) → P e.1 ≡ true → HasEntry P (e ∷ es)
entry_first P e es t = record { number = e.0; reader = e.1; found = ap (λ b. cond b (Some e.1) (lookup (is_number e.0) es)) (is_number_self e.0); holds = t }

entry_of : (P : Reader → Bool) (low high : ℕ) (es : List (ℕ × Reader)) → RiseWithin low high es → list_any P (values_of es) ≡ true → HasEntry P es
entry_of P low high [] h some = cc
entry_of P low high (e ∷ es) h some = by_test (entry_of P (e.0 + 1) high es h.1) (P e.1) refl some
  where
    by_test : (list_any P (values_of es) ≡ true → HasEntry P es) → (b : Bool) → P e.1 ≡ b → (b || list_any P (values_of es)) ≡ true → HasEntry P (e ∷ es)
    by_test rest true t k = entry_first P e es t
    by_test rest false t k = entry_behind P low high e es h (rest k)

any_entry : (P : Reader → Bool) (n : ℕ) (r : Reader) (es : List (ℕ × Reader)) → lookup (is_number n) es ≡ Some r → P r ≡ true → list_any P (values_of es) ≡ true
any_entry P n r [] h t = cc
any_entry P n r (e ∷ es) h t = by_test (λ k. any_entry P n r es k t) (is_number n e.0) h
  where
    by_test : (lookup (is_number n) es ≡ Some r → list_any P (values_of es) ≡ true) → (b : Bool) → cond b (Some e.1) (lookup (is_number n) es) ≡ Some r → (P e.1 || list_any P (values_of es)) ≡ true
    by_test rest true k = let same : e.1 ≡ r = cc in ap (λ (x : Reader). P x || list_any P (values_of es)) same ∙ ap (λ b. b || list_any P (values_of es)) t
    by_test rest false k = elim (P e.1) as (λ b. (b || list_any P (values_of es)) ≡ true) [ true ↦ refl | false ↦ rest k ]

row_behind : (P : ReaderRow → Bool) (high : ℕ) (x : ReaderRow) (rows : List ReaderRow) → NumbersFallBelow high (reader_numbers (x ∷ rows)) → HasRow P rows → HasRow P (x ∷ rows)
row_behind P high x rows h k = record { row = k.row; found = by_test (x.reader == k.row.reader) refl; holds = k.holds }
  where
    by_test : (b : Bool) → (x.reader == k.row.reader) ≡ b → cond b (Some x) (find (λ r. r.reader == k.row.reader) rows) ≡ Some k.row
    by_test true t =
        let same : x.reader ≡ k.row.reader = eqb-true x.reader k.row.reader t in
        let some : IsSome (find (λ (r : ReaderRow). r.reader == k.row.reader) rows) = subst (λ (o : Option ReaderRow). IsSome o) (sym k.found) refl in
        let below = was_given (λ (r : ReaderRow). r.reader) k.row.reader x.reader rows h.1 some in
        let less : k.row.reader < x.reader = below.1 in
        absurd (omega arith)
    by_test false t = k.found

row_first : (P : ReaderRow → Bool) (x : ReaderRow) (rows : List ReaderRow) → P x ≡ true → HasRow P (x ∷ rows)
row_first P x rows t = record { row = x; found = ap (λ b. cond b (Some x) (find (λ r. r.reader == x.reader) rows)) (eq-eqb x.reader x.reader refl); holds = t }

row_of_any : (P : ReaderRow → Bool) (high : ℕ) (rows : List ReaderRow) → NumbersFallBelow high (reader_numbers rows) → list_any P rows ≡ true → HasRow P rows
row_of_any P high [] h some = cc
row_of_any P high (x ∷ rows) h some = by_test (row_of_any P x.reader rows h.1) (P x) refl some
  where
    by_test : (list_any P rows ≡ true → HasRow P rows) → (b : Bool) → P x ≡ b → (b || list_any P rows) ≡ true → HasRow P (x ∷ rows)
    by_test rest true t k = row_first P x rows t
    by_test rest false t k = row_behind P high x rows h (rest k)

any_row : (P : ReaderRow → Bool) (n : ℕ) (row : ReaderRow) (rows : List ReaderRow) → find (λ r. r.reader == n) rows ≡ Some row → P row ≡ true → list_any P rows ≡ true
any_row P n row [] h t = cc
any_row P n row (x ∷ rows) h t = by_test (λ k. any_row P n row rows k t) (x.reader == n) h
  where
    by_test : (find (λ r. r.reader == n) rows ≡ Some row → list_any P rows ≡ true) → (b : Bool) → cond b (Some x) (find (λ r. r.reader == n) rows) ≡ Some row → (P x || list_any P rows) ≡ true
    by_test rest true k = let same : x ≡ row = cc in ap (λ (y : ReaderRow). P y || list_any P rows) same ∙ ap (λ b. b || list_any P rows) t
    by_test rest false k = elim (P x) as (λ b. (b || list_any P rows) ≡ true) [ true ↦ refl | false ↦ rest k ]

-- ---- one and the other

same_answer : (put index : ℕ) (row : ReaderRow) (r : Reader) → IsReaderOfRow row r → awaits put index r ≡ row_awaits put index row
same_answer put index row r h = ap (λ (p : ℕ). p == put && nat_le r.next index) h.put ∙ ap (λ (n : ℕ). row.put == put && nat_le n index) h.next

to_row : (put index : ℕ) (n : ℕ) (r : Reader) (rows : List ReaderRow) (o : Option ReaderRow) → find (λ r. r.reader == n) rows ≡ o → IsReaderAs o (Some r) → awaits put index r ≡ true
    → list_any (row_awaits put index) rows ≡ true
to_row put index n r rows None e h t = absurd h
to_row put index n r rows (Some row) e h t = any_row (row_awaits put index) n row rows e (sym (same_answer put index row r h) ∙ t)

to_entry : (put index : ℕ) (n : ℕ) (row : ReaderRow) (es : List (ℕ × Reader)) (o : Option Reader) → lookup (is_number n) es ≡ o → IsReaderAs (Some row) o → row_awaits put index row ≡ true
    → list_any (awaits put index) (values_of es) ≡ true
to_entry put index n row es None e h t = absurd h
to_entry put index n row es (Some r) e h t = any_entry (awaits put index) n r es e (same_answer put index row r h ∙ t)

both_or_none : (a b : Bool) → (a ≡ true → b ≡ true) → (b ≡ true → a ≡ true) → a ≡ b
both_or_none true b to from = sym (to refl)
both_or_none false true to from = from refl
both_or_none false false to from = refl

same_readers : (put index : ℕ) (s : State) (a : ActorsSeen) → HasGivenNumbers a → AreActors s a
    → list_any (awaits put index) (values_of a.held.readers) ≡ list_any (row_awaits put index) s.readers
same_readers put index s a numbered h = both_or_none _ _ to from
  where
    to : list_any (awaits put index) (values_of a.held.readers) ≡ true → list_any (row_awaits put index) s.readers ≡ true
    to some =
        let k = entry_of (awaits put index) 1 a.next_reader a.held.readers numbered.readers some in
        to_row put index k.number k.reader s.readers (reader_of s k.number) refl
        (subst (λ (o : Option Reader). IsReaderAs (reader_of s k.number) o) k.found (h.readers k.number)) k.holds

    from : list_any (row_awaits put index) s.readers ≡ true → list_any (awaits put index) (values_of a.held.readers) ≡ true
    from some =
        let k = row_of_any (row_awaits put index) s.next_reader s.readers h.readers_fall some in
        to_entry put index k.row.reader k.row a.held.readers (reader_at k.row.reader a.held) refl
        (subst (λ (o : Option ReaderRow). IsReaderAs o (reader_at k.row.reader a.held)) k.found (h.readers k.row.reader)) k.holds

-- ---- fragments alone

none_due : (rows : List ReaderRow) → list_any {X = ReaderRow} (λ r. false) rows ≡ false
none_due [] = refl
none_due (r ∷ rows) = none_due rows

-- where a test holds that asks nothing of the reader
with_test : (b : Bool) (P : ReaderRow → Bool) (rows : List ReaderRow) → (b && list_any P rows) ≡ list_any (λ (r : ReaderRow). b && P r) rows
with_test true P rows = refl
with_test false P rows = sym (none_due rows)

of_fragments : (id : PieceId) (rows : List ReaderRow)
    → (not (is_vector id) && (nat_le id.index most_fragments && list_any (row_awaits id.put id.index) rows)) ≡ list_any (is_due_to id) rows
of_fragments id rows =
    ap (λ b. not (is_vector id) && b) (with_test (nat_le id.index most_fragments) (row_awaits id.put id.index) rows)
    ∙ with_test (not (is_vector id)) (λ (r : ReaderRow). nat_le id.index most_fragments && row_awaits id.put id.index r) rows

pub awaited_is : (s : State) (a : ActorsSeen) (held : Held) (id : PieceId) → HasGivenNumbers a → AreActors s a → held ≡ a.held
    → is_left_to_reader id (least_next id.put (values_of held.readers)) ≡ is_awaited s id
awaited_is s a held id numbered h same =
    ap (λ (seen : Held). is_left_to_reader id (least_next id.put (values_of seen.readers))) same
    ∙ (ap (λ b. not (is_vector id) && (nat_le id.index most_fragments && b))
    (within_fold id.put id.index (values_of a.held.readers) None ∙ same_readers id.put id.index s a numbered h)
    ∙ of_fragments id s.readers)
