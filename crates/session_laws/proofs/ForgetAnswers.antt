-- What is answered of keys and readers where puts are forgotten.
use Rattle.std.proofs.Common.{◌≡◌, ℕ, ◌+◌, ◌-◌, ◌<◌, List, [], ◌∷◌, refl, sym, ◌∙◌, ap, arith, inl, inr, ◌⊎◌, true, false}
use Rattle.std.specs.Prelude.{◌≢◌, Option, Some, None, if◌then◌else◌, find, filter, map, fold, drop, take, length, not, ◌==◌, ◌&&◌, ◌||◌, nat_le, option_map, option_and_then, unwrap_or}
use Rattle.std.specs.List.{list_any}
use Rattle.std.specs.Map.{lookup}
use Rattle.std.proofs.lemmas.Bool.{eqb-true, eq-eqb}
use Rattle.tape_base.specs.declared.keys.Key.{Key}
use Rattle.tape_base.specs.declared.pieces.PieceId.{PieceId}
use Rattle.tape_base.specs.Key.{same_key}
use Rattle.alternate_vector.specs.Field.{Field}
use Rattle.alternate_vector.specs.Alternates.{Stored}
use Rattle.fragment_table.specs.Table.{TableRow}
use Rattle.cache_model.specs.declared.cause.Cause.{Cause}
use Rattle.cache_model.specs.declared.cause.Cause.TheVariants as cause
use Rattle.cache_model.specs.declared.answer.ReadAnswer.{ReadAnswer}
use Rattle.cache_model.specs.declared.answer.ReadAnswer.TheVariants as read
use Rattle.cache_model.specs.declared.answer.NextAnswer.{NextAnswer}
use Rattle.cache_model.specs.declared.answer.NextAnswer.TheVariants as next
use Rattle.cache_model.specs.State.{State, Row, PutRow, ReaderRow, LastVector, Complete, TakenOut, alternates_of, last_abort, last_match, last_vector, live_row_of, reader_of, row_of, vector_piece}
use Rattle.cache_model.specs.Verdict
use Rattle.cache_model.specs.Verdict.{cause_of_last, cause_of_loss, cause_of_miss, cause_of_piece, cuts_of, follow_answer, followed, hit, hit_answer, is_open, is_unsaved, lookup_verdict, may_follow, next_piece, next_row, no_match, no_record, passed, piece_at, reader_verdict, table_of}
use Rattle.cache_model.specs.Tape.{IsSound}
use Rattle.cache_model.specs.Forgetting.{forget, forgotten_puts, has_reader, is_among_puts, is_forgotten, put_of_last, without_puts}
use Rattle.cache_model.proofs.Found.{no_truth}
use Rattle.session_laws.specs.ForgetLaws.{IsAnsweredAlike, IsKeyKept, IsNoRecord}
use Rattle.session_laws.proofs.Forgetting.{AreDead, count_stays, forgetting_leaves, forgotten_is_dead, kept_if, loss_stays, lookup_kept, any_found, not_true, passed_stays, piece_stays, put_kept, vector_gone, vector_kept, vector_none, with_reader}

-- ---- why a key is missed

abbrev or_other : Option Cause → Option Cause → Option Cause
or_other (Some why) other = Some why
or_other None other = other

unwrap_other : (a b : Option Cause) (c : Cause) → unwrap_or (or_other a b) c ≡ unwrap_or a (unwrap_or b c)
unwrap_other (Some why) b c = refl
unwrap_other None b c = refl

-- why a piece is not live, where that is on record
abbrev on_piece : State → PieceId → Option Cause
on_piece s id = or_other (cause_of_loss s id) (option_map (passed s) (row_of s id))

piece_is : (s : State) (id : PieceId) → cause_of_piece s id ≡ unwrap_or (on_piece s id) (no_record s)
piece_is s id = sym (unwrap_other (cause_of_loss s id) (option_map (passed s) (row_of s id)) (no_record s))

-- so it is of a key's vector
abbrev on_last : State → Key → LastVector → Option Cause
on_last s key (Complete put) = or_other (option_map (λ (row : Row). no_match s (vector_piece key put)) (live_row_of s (vector_piece key put))) (on_piece s (vector_piece key put))
on_last s key (TakenOut put) = Some cause.Removed

last_is_told : (s : State) (key : Key) (last : LastVector) → cause_of_last s key last ≡ unwrap_or (on_last s key last) (no_record s)
last_is_told s key (Complete put) =
    ap (unwrap_or (option_map (λ (row : Row). no_match s (vector_piece key put)) (live_row_of s (vector_piece key put)))) (piece_is s (vector_piece key put))
    ∙ sym (unwrap_other (option_map (λ (row : Row). no_match s (vector_piece key put)) (live_row_of s (vector_piece key put))) (on_piece s (vector_piece key put)) (no_record s))
last_is_told s key (TakenOut put) = refl

-- and of a key
abbrev on_key : State → Key → Option LastVector → Option Cause
on_key s key (Some last) = on_last s key last
on_key s key None = option_map cause.Aborted (last_abort s key)

miss_is : (s : State) (key : Key) (o : Option LastVector) → last_vector s key ≡ o → cause_of_miss s key ≡ unwrap_or (on_key s key o) (no_record s)
miss_is s key (Some last) h = rw h (last_is_told s key last)
miss_is s key None h = rw h refl

module _ (s : State) (puts : List ℕ) (dead : AreDead s puts) (h : IsSound s) where
  abbrev after : State
  after = without_puts puts s

  on_piece_stays : (id : PieceId) → is_among_puts puts id.put ≡ false → on_piece after id ≡ on_piece s id
  on_piece_stays id k = ap (λ o. or_other o (option_map (passed after) (row_of after id))) (loss_stays s puts dead id k)
      ∙ ap (or_other (cause_of_loss s id)) (passed_stays s puts dead h id k)

  on_last_stays : (key : Key) (last : LastVector) → is_among_puts puts (put_of_last last) ≡ false
      → on_last after key last ≡ on_last s key last
  on_last_stays key (Complete put) k =
      ap (λ o. or_other (option_map (λ (row : Row). no_match after (vector_piece key put)) o) (on_piece after (vector_piece key put))) (piece_stays s puts dead (vector_piece key put))
      ∙ ap (λ n. or_other (option_map (λ (row : Row). cause.NoMatch n) (live_row_of s (vector_piece key put))) (on_piece after (vector_piece key put))) (count_stays s puts (vector_piece key put) k)
      ∙ ap (or_other (option_map (λ (row : Row). no_match s (vector_piece key put)) (live_row_of s (vector_piece key put)))) (on_piece_stays (vector_piece key put) k)
  on_last_stays key (TakenOut put) k = refl

  abort_stays : (key : Key) → ((put : ℕ) → last_abort s key ≡ Some put → is_among_puts puts put ≡ false) → last_abort after key ≡ last_abort s key
  abort_stays key kept = lookup_kept (λ (q : Key). same_key q key) (λ (a : Key × ℕ). not (is_among_puts puts a.1)) s.aborts (λ a is found. ap not (kept a.1 found))

  -- why a key is missed is on record as before
  record NowAsBefore (key : Key) : Type 0 where
    last : Option LastVector
    before : last_vector s key ≡ last
    now : last_vector after key ≡ last
    same : on_key after key last ≡ on_key s key last

  key_by : (key : Key) (o : Option LastVector) → last_vector s key ≡ o → ((last : LastVector) → last_vector s key ≡ Some last → is_among_puts puts (put_of_last last) ≡ false)
      → ((put : ℕ) → last_abort s key ≡ Some put → is_among_puts puts put ≡ false) → NowAsBefore key
  key_by key (Some last) e vector abort = record {
    last = Some last;
    before = e;
    now = vector_kept s puts dead key last e (vector last e) ∙ e;
    same = on_last_stays key last (vector last e);
  }
  key_by key None e vector abort = record { last = None; before = e; now = vector_none s puts dead key e; same = ap (option_map cause.Aborted) (abort_stays key abort) }

-- ---- answers

abbrev answer_of : Option Stored → Option PutRow → Cause → ReadAnswer
answer_of a p why = unwrap_or (option_map hit_answer a) (unwrap_or (option_map follow_answer p) (read.Miss why))

alike_by : (a : Option Stored) (p : Option PutRow) (o : Option Cause) (none now : Cause)
    → (answer_of a p (unwrap_or o now) ≡ answer_of a p (unwrap_or o none))
    ⊎ ((answer_of a p (unwrap_or o none) ≡ read.Miss none) × (answer_of a p (unwrap_or o now) ≡ read.Miss now))
alike_by (Some a) p o none now = inl refl
alike_by None (Some p) o none now = inl refl
alike_by None None (Some why) none now = inl refl
alike_by None None None none now = inr (refl, refl)

missed_by : (a : Option Stored) (p : Option PutRow) (none now : Cause)
    → (answer_of a p now ≡ answer_of a p none) ⊎ ((why : Cause) × (other : Cause) × (answer_of a p none ≡ read.Miss why) × (answer_of a p now ≡ read.Miss other))
missed_by (Some a) p none now = inl refl
missed_by None (Some p) none now = inl refl
missed_by None None none now = inr (none, now, refl, refl)

module _ (cap : ℕ) (s : State) (key : Key) (request : List Field) where
  abbrev kept : State
  kept = forget cap s

  hit_stays : hit kept key request ≡ hit s key request
  hit_stays = ap (last_match request) ((forgetting_leaves cap s).lists key)

  answer_is : (why : Cause) → cause_of_miss kept key ≡ why → lookup_verdict kept key request ≡ answer_of (hit s key request) (followed s key request) why
  answer_is why e = rw (hit_stays, (forgetting_leaves cap s).follows key request, e) refl

  pub given_stays : (lookup_verdict kept key request ≡ lookup_verdict s key request)
      ⊎ ((why : Cause) × (now : Cause) × (lookup_verdict s key request ≡ read.Miss why) × (lookup_verdict kept key request ≡ read.Miss now))
  given_stays = rw (answer_is (cause_of_miss kept key) refl) (missed_by (hit s key request) (followed s key request) (cause_of_miss s key) (cause_of_miss kept key))

  pub kept_is_answered : IsSound s → IsKeyKept cap s key → IsAnsweredAlike s kept key request
  kept_is_answered h k =
      let n : NowAsBefore s (forgotten_puts cap s) (forgotten_is_dead cap s) h key =
      key_by s (forgotten_puts cap s) (forgotten_is_dead cap s) h key (last_vector s key) refl k.vector k.abort in
      let was : cause_of_miss s key ≡ unwrap_or (on_key s key n.last) (no_record s) = miss_is s key n.last n.before in
      let is : cause_of_miss kept key ≡ unwrap_or (on_key s key n.last) (no_record kept) = miss_is kept key n.last n.now ∙ ap (λ o. unwrap_or o (no_record kept)) n.same in
      rw (answer_is (unwrap_or (on_key s key n.last) (no_record kept)) is, was) (alike_by (hit s key request) (followed s key request) (on_key s key n.last) (no_record s) (no_record kept))

-- ---- keys and readers of which something was forgotten

none_hits : (request : List Field) → last_match request [] ≡ None
none_hits request = refl

some_are : (puts : List ℕ) (put : ℕ) → is_among_puts puts put ≡ true → 0 < length puts
some_are [] put h = no_truth (sym h)
some_are (n ∷ puts) put h = omega arith

not_zero : (n : ℕ) → 0 < n → (n == 0) ≡ false
not_zero n h = not_true (n == 0) (λ e. let none : n ≡ 0 = eqb-true n 0 e in omega (arith, h, none))

unrecorded : (s : State) → 0 < s.dropped → no_record s ≡ cause.Unrecorded s.dropped
unrecorded s h = rw (not_zero s.dropped h) refl

pub no_record_is_told : (cap : ℕ) (s : State) → IsNoRecord s (forget cap s)
no_record_is_told cap s = record {
  some = λ h. unrecorded (forget cap s) h;
  none = λ h.
      let never : s.dropped ≡ 0 = omega (arith, h) in
      rw (h, never) refl;
}

unlisted : (s : State) (key : Key) → last_vector s key ≡ None → alternates_of s key ≡ []
unlisted s key h = rw h refl

unheard : (s : State) (key : Key) → last_vector s key ≡ None → last_abort s key ≡ None → cause_of_miss s key ≡ no_record s
unheard s key h k = rw (h, k) refl

pub forgotten_is_unrecorded : (cap : ℕ) (s : State) (key : Key) (request : List Field) (last : LastVector) → last_vector s key ≡ Some last
    → is_forgotten cap s (put_of_last last) ≡ true → followed s key request ≡ None → last_abort (forget cap s) key ≡ None
    → lookup_verdict (forget cap s) key request ≡ read.Miss (cause.Unrecorded (forget cap s).dropped)
forgotten_is_unrecorded cap s key request last h gone alone aborts =
    let puts : List ℕ = forgotten_puts cap s in
    let none : last_vector (forget cap s) key ≡ None = vector_gone s puts (forgotten_is_dead cap s) key last h gone in
    let misses : hit s key request ≡ None = sym (hit_stays cap s key request) ∙ ap (last_match request) (unlisted (forget cap s) key none) in
    let some : 0 < length puts = some_are puts (put_of_last last) gone in
    let why : cause_of_miss (forget cap s) key ≡ cause.Unrecorded (s.dropped + length puts) =
    unheard (forget cap s) key none aborts ∙ unrecorded (forget cap s) (omega (arith, some)) in
    answer_is cap s key request (cause.Unrecorded (s.dropped + length puts)) why ∙ rw (misses, alone) refl

-- an answer to a reader, by what it takes next
abbrev next_of : ReaderRow → Option TableRow → Option Row → Cause → NextAnswer → NextAnswer
next_of r (Some entry) live why end = unwrap_or (option_map (λ (row : Row). next.Gave r.next entry.length) live) (next.Broke why)
next_of r None live why end = end

next_is : (s : State) (r : ReaderRow) (o : Option TableRow) → next_row s r ≡ o
    → reader_verdict s r ≡ next_of r o (live_row_of s (next_piece r)) (cause_of_piece s (next_piece r)) (Verdict.verdict_at_end s r r.table)
next_is s r (Some entry) h = rw h refl
next_is s r None h = rw h refl

next_alike : (r : ReaderRow) (entry : Option TableRow) (live : Option Row) (o : Option Cause) (none now : Cause) (end : NextAnswer)
    → (next_of r entry live (unwrap_or o now) end ≡ next_of r entry live (unwrap_or o none) end)
    ⊎ ((next_of r entry live (unwrap_or o none) end ≡ next.Broke none) × (next_of r entry live (unwrap_or o now) end ≡ next.Broke now))
next_alike r None live o none now end = inl refl
next_alike r (Some entry) (Some row) o none now end = inl refl
next_alike r (Some entry) None (Some why) none now end = inl refl
next_alike r (Some entry) None None none now end = inr (refl, refl)

module _ (s : State) (puts : List ℕ) (dead : AreDead s puts) (h : IsSound s) (r : ReaderRow) (k : is_among_puts puts r.put ≡ false) where
  abbrev behind : State
  behind = without_puts puts s

  table_stays : table_of behind r ≡ table_of s r
  table_stays = ap (λ (o : Option PutRow). unwrap_or r.table (unwrap_or (option_map (λ (p : PutRow). p.cuts) o) [])) (put_kept s puts dead r.put k)

  end_stays : (table : Option (List TableRow)) → Verdict.verdict_at_end behind r table ≡ Verdict.verdict_at_end s r table
  end_stays (Some table) = refl
  end_stays None = ap Verdict.verdict_of_followed (put_kept s puts dead r.put k)

  reader_stays : (reader_verdict behind r ≡ reader_verdict s r)
      ⊎ ((reader_verdict s r ≡ next.Broke (no_record s)) × (reader_verdict behind r ≡ next.Broke (no_record behind)))
  reader_stays =
      let entry : Option TableRow = next_row s r in
      let same : next_row behind r ≡ entry = ap (λ (table : List TableRow). Rattle.std.specs.Prelude.slice_get table (r.next - 1)) table_stays in
      let why : cause_of_piece s (next_piece r) ≡ unwrap_or (on_piece s (next_piece r)) (no_record s) = piece_is s (next_piece r) in
      let now : cause_of_piece behind (next_piece r) ≡ unwrap_or (on_piece s (next_piece r)) (no_record behind) =
      piece_is behind (next_piece r) ∙ ap (λ o. unwrap_or o (no_record behind)) (on_piece_stays s puts dead h (next_piece r) k) in
      rw (next_is behind r entry same, next_is s r entry refl, piece_stays s puts dead (next_piece r), end_stays r.table, why, now)
      (next_alike r entry (live_row_of s (next_piece r)) (on_piece s (next_piece r)) (no_record s) (no_record behind) (Verdict.verdict_at_end s r r.table))

pub reader_is_answered : (cap : ℕ) (s : State) (reader : ℕ) (r : ReaderRow) → IsSound s → reader_of s reader ≡ Some r
    → (reader_verdict (forget cap s) r ≡ reader_verdict s r)
    ⊎ ((reader_verdict s r ≡ next.Broke (no_record s)) × (reader_verdict (forget cap s) r ≡ next.Broke (no_record (forget cap s))))
reader_is_answered cap s reader r h found =
    let puts : List ℕ = forgotten_puts cap s in
    let reads : has_reader s r.put ≡ true =
    any_found (λ (q : ReaderRow). q.reader == reader) (λ (q : ReaderRow). q.put == r.put) s.readers r found (eq-eqb r.put r.put refl) in
    let kept : is_among_puts puts r.put ≡ false = kept_if s puts (forgotten_is_dead cap s) r.put (with_reader s r.put reads) in
    reader_stays s puts (forgotten_is_dead cap s) h r kept
