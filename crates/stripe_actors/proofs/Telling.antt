-- What actors that are in step with a state tell of it.
use Rattle.std.proofs.Common.{◌≡◌, ℕ, ◌+◌, ◌-◌, ◌<◌, ◌≤◌, true, false, cond, List, [], ◌∷◌, length, Option, Some, None, refl, sym, ap, subst, ◌∙◌, arith}
use Rattle.std.specs.Prelude.{Bool, ◌==◌, ◌&&◌, option_map, unwrap_or, slice_get, map, find, IsSome}
use Rattle.std.specs.Map.{lookup}
use Rattle.std.proofs.lemmas.Bool.{eqb-true}
use Rattle.tape_base.specs.declared.keys.Key.{Key}
use Rattle.alternate_vector.specs.Field.{Field}
use Rattle.fragment_table.specs.Table.{TableRow, total_length}
use Rattle.open_directory.specs.declared.kept.KeptPut.{KeptPut}
use Rattle.open_directory.specs.declared.kept.Reader.{Reader}
use Rattle.open_directory.specs.declared.kept.Writer.{Writer}
use Rattle.open_directory.specs.declared.kept.Phase.{Phase}
use Rattle.open_directory.specs.Directory.{IsHeldDirectory, followers_kept, followers_of, is_follower, is_kept_open, is_number, is_open_put, kept_cuts, kept_put, put_followed, put_state, put_state_at, put_state_of, reader_at, row_of_index, rows_kept, table_row}
use Rattle.cache_model.specs.declared.record.Rec.{Rec}
use Rattle.cache_model.specs.declared.record.Rec.TheVariants as rec
use Rattle.cache_model.specs.State.{State, PutRow, ReaderRow, put_of, reader_of, state_after}
use Rattle.cache_model.specs.Verdict.{followed as followed_row, next_row, cuts_of as cuts_in}
use Rattle.cache_model.specs.Legal.{is_writing}
use Rattle.stripe_actors.specs.Actors.{ActorsSeen, AreActors, IsKeptAs, IsPutOf, IsReaderAs, NumbersFallBelow, phase_of_put}
use Rattle.stripe_actors.specs.ActorLaws.{PutIsTold, number_in, put_state_in, speaks_of_actors}
use Rattle.stripe_actors.proofs.InStep.{alike_in_step}
use Rattle.stripe_actors.proofs.Kept.{open_as}
use Rattle.open_directory.proofs.Followers.{is_number_self}
use Rattle.stripe_actors.proofs.Rows.{followed-writers}

pub others : (s : State) (a : ActorsSeen) (r : Rec) → speaks_of_actors r ≡ false → AreActors s a → AreActors (state_after s r) a
others s a (rec.Formatted geometry) e h = absurd (cc)
others s a (rec.Opened geometry serial cursor floor next_put clean list) e h = absurd (cc)
others s a (rec.Began cursor floor) e h = alike_in_step s (state_after s (rec.Began cursor floor)) a refl refl refl refl h
others s a (rec.Placed piece place blocks digest pin) e h = alike_in_step s (state_after s (rec.Placed piece place blocks digest pin)) a refl refl refl refl h
others s a (rec.Moved piece from place digest) e h = alike_in_step s (state_after s (rec.Moved piece from place digest)) a refl refl refl refl h
others s a (rec.Unsaved piece place fault) e h = alike_in_step s (state_after s (rec.Unsaved piece place fault)) a refl refl refl refl h
others s a (rec.Displaced piece segment live) e h = alike_in_step s (state_after s (rec.Displaced piece segment live)) a refl refl refl refl h
others s a (rec.Damaged piece place kept found) e h = alike_in_step s (state_after s (rec.Damaged piece place kept found)) a refl refl refl refl h
others s a (rec.WriteOpened actor put key request response pin) e h = absurd (cc)
others s a (rec.Cut put index n digest) e h = absurd (cc)
others s a (rec.Committed put key n list) e h = absurd (cc)
others s a (rec.Aborted put key) e h = absurd (cc)
others s a (rec.Removed put key) e h = alike_in_step s (state_after s (rec.Removed put key)) a refl refl refl refl h
others s a (rec.ReadOpened reader actor key request answer) e h = absurd (cc)
others s a (rec.Gave reader index n) e h = absurd (cc)
others s a (rec.Ended reader n) e h = h
others s a (rec.Waited reader cut) e h = h
others s a (rec.Broke reader why) e h = h
others s a (rec.ReadClosed reader) e h = absurd (cc)
others s a (rec.SyncBegun serial cursor clean in_parts) e h = alike_in_step s (state_after s (rec.SyncBegun serial cursor clean in_parts)) a refl refl refl refl h
others s a (rec.SyncDone serial) e h = alike_in_step s (state_after s (rec.SyncDone serial)) a refl refl refl refl h
others s a (rec.Fault count) e h = alike_in_step s (state_after s (rec.Fault count)) a refl refl refl refl h

pub writing_is_open : (s : State) (a : ActorsSeen) → AreActors s a → (put : ℕ) → is_kept_open put a.held.puts ≡ is_writing s put
writing_is_open s a h put = open_as (put_of s put) (kept_put put a.held.puts) (h.puts put)

pub followed_same : (s : State) (a : ActorsSeen) → AreActors s a → (key : Key) (request : List Field) → put_followed key request a.held.writers ≡ option_map number_in (followed_row s key request)
followed_same s a h key request = ap (λ (ws : List Writer). put_followed key request ws) h.writers ∙ followed-writers key request s.puts

-- ---- what is told of a put

same_state : (p : PutRow) (kept : KeptPut) → IsPutOf p kept → put_state_of kept ≡ put_state_in p
same_state p kept h =
    ap (λ (phase : Phase). put_state_at phase (length kept.cuts.rows) (total_length kept.cuts.rows)) h.standing
    ∙ ap (λ (rows : List TableRow). put_state_at (phase_of_put p.writing) (length rows) (total_length rows)) h.cuts

told_by : (s : State) (a : ActorsSeen) (put : ℕ) (x : Option PutRow) (k : Option KeptPut) → put_of s put ≡ x → kept_put put a.held.puts ≡ k → IsKeptAs x k → IsSome (option_map put_state_of k) → PutIsTold s a put
told_by s a put x None e f h some = absurd (cc)
told_by s a put None (Some kept) e f h some = absurd h
told_by s a put (Some p) (Some kept) e f h some = record {
  row = p;
  found = e;
  state = ap (λ (o : Option KeptPut). option_map put_state_of o) f ∙ ap Some (same_state p kept h);
  cuts = ap rows_kept f ∙ h.cuts;
}

pub kept_told : (s : State) (a : ActorsSeen) → AreActors s a → (put : ℕ) → IsSome (put_state put a.held.puts) → PutIsTold s a put
kept_told s a h put some = told_by s a put (put_of s put) (kept_put put a.held.puts) refl refl (h.puts put) some

open_some : (k : Option KeptPut) → is_open_put k ≡ true → IsSome (option_map put_state_of k)
open_some None h = absurd (cc)
open_some (Some kept) h = refl

pub writing_told : (s : State) (a : ActorsSeen) → AreActors s a → (put : ℕ) → is_writing s put ≡ true → PutIsTold s a put
writing_told s a h put writes = kept_told s a h put (open_some (kept_put put a.held.puts) (writing_is_open s a h put ∙ writes))

-- ---- readers that follow

counted : (put n : ℕ) (r : Reader) (es : List (ℕ × Reader)) → lookup (is_number n) es ≡ Some r → is_follower put r ≡ true → 0 < followers_of put es
counted put n r [] h f = absurd (cc)
counted put n r (e ∷ es) h f = by_test (is_number n e.0) (counted put n r es) h
  where
    by_test : (b : Bool) → (lookup (is_number n) es ≡ Some r → is_follower put r ≡ true → 0 < followers_of put es) → cond b (Some e.1) (lookup (is_number n) es) ≡ Some r
        → 0 < cond (is_follower put e.1) 1 0 + followers_of put es
    by_test true rest found =
        let same : e.1 ≡ r = cc in
        let one = ap {B = ℕ} (λ (x : Reader). cond (is_follower put x) 1 0) same ∙ ap {B = ℕ} (λ (b : Bool). cond b 1 0) f in
        subst (λ (n : ℕ). 0 < n + followers_of put es) (sym one) (omega arith)
    by_test false rest found = let more = rest found f in omega arith

follows_so : (r : Reader) → r.follows ≡ true → is_follower r.put r ≡ true
follows_so r h = ap (λ (b : Bool). b && is_number r.put r.put) h ∙ is_number_self r.put

kept_some : (k : Option KeptPut) → 0 < followers_kept k → IsSome (option_map put_state_of k)
kept_some None h = absurd (omega arith)
kept_some (Some kept) h = refl

follower_kept : (s : State) (a : ActorsSeen) → IsHeldDirectory a.held → (reader : ℕ) (row : ReaderRow) (o : Option Reader) → reader_at reader a.held ≡ o → IsReaderAs (Some row) o → row.table ≡ None
    → IsSome (put_state row.put a.held.puts)
follower_kept s a held reader row None e h none = absurd h
follower_kept s a held reader row (Some r) e h none =
    let some : 0 < followers_of r.put a.held.readers = counted r.put reader r a.held.readers e (follows_so r (h.follows none)) in
    let known = held.followers r.put in
    let kept : IsSome (put_state r.put a.held.puts) = kept_some (kept_put r.put a.held.puts) (omega (arith, some, known)) in
    subst (λ (put : ℕ). IsSome (put_state put a.held.puts)) h.put kept

reads : (s : State) (a : ActorsSeen) → AreActors s a → (reader : ℕ) (row : ReaderRow) → reader_of s reader ≡ Some row → IsReaderAs (Some row) (reader_at reader a.held)
reads s a h reader row e = subst (λ (o : Option ReaderRow). IsReaderAs o (reader_at reader a.held)) e (h.readers reader)

pub followed_told : (s : State) (a : ActorsSeen) → AreActors s a → IsHeldDirectory a.held → (reader : ℕ) (row : ReaderRow) → reader_of s reader ≡ Some row → row.table ≡ None → PutIsTold s a row.put
followed_told s a h held reader row e none =
    kept_told s a h row.put (follower_kept s a held reader row (reader_at reader a.held) refl (reads s a h reader row e) none)

from_one : (row : ReaderRow) (o : Option Reader) → IsReaderAs (Some row) o → 1 ≤ row.next
from_one row None h = absurd h
from_one row (Some r) h = h.counted

row_from_one : (index : ℕ) (rows : List TableRow) → 1 ≤ index → row_of_index index rows ≡ option_map table_row (slice_get rows (index - 1))
row_from_one index rows h = by_test (index == 0) refl
  where
    by_test : (b : Bool) → (index == 0) ≡ b → cond b None (option_map table_row (slice_get rows (index - 1))) ≡ option_map table_row (slice_get rows (index - 1))
    by_test true t = let none : index ≡ 0 = eqb-true index 0 t in absurd (omega arith)
    by_test false t = refl

pub next_told : (s : State) (a : ActorsSeen) → AreActors s a → IsHeldDirectory a.held → (reader : ℕ) (row : ReaderRow) → reader_of s reader ≡ Some row → row.table ≡ None
    → row_of_index row.next (kept_cuts row.put a.held.puts) ≡ option_map table_row (next_row s row)
next_told s a h held reader row e none =
    let told = followed_told s a h held reader row e none in
    let same : kept_cuts row.put a.held.puts ≡ cuts_in s row.put =
    told.cuts ∙ sym (ap (λ (o : Option PutRow). unwrap_or (option_map (λ (p : PutRow). p.cuts) o) []) told.found) in
    row_from_one row.next (kept_cuts row.put a.held.puts) (from_one row (reader_at reader a.held) (reads s a h reader row e))
    ∙ ap (λ (rows : List TableRow). option_map table_row (slice_get rows (row.next - 1))) same
    ∙ sym (ap (λ (table : Option (List TableRow)). option_map table_row (slice_get (unwrap_or table (cuts_in s row.put)) (row.next - 1))) none)

-- ---- numbers

fall_bounds : (high : ℕ) (ns : List ℕ) → NumbersFallBelow high ns → 1 ≤ high
fall_bounds high [] h = h
fall_bounds high (n ∷ ns) h = let k : n < high = h.0 in omega arith

pub was_given : {X : Type 0} (number : X → ℕ) (n high : ℕ) (xs : List X) → NumbersFallBelow high (map number xs) → IsSome (find (λ x. number x == n) xs) → (1 ≤ n) × (n < high)
was_given number n high [] h some = absurd (cc)
was_given number n high (x ∷ xs) h some = by_test (number x == n) refl (was_given number n (number x) xs h.1) some
  where
    by_test : (b : Bool) → (number x == n) ≡ b → (IsSome (find (λ x. number x == n) xs) → (1 ≤ n) × (n < number x)) → IsSome (cond b (Some x) (find (λ x. number x == n) xs)) → (1 ≤ n) × (n < high)
    by_test true t rest found =
        let same : number x ≡ n = eqb-true (number x) n t in
        let low : 1 ≤ number x = fall_bounds (number x) (map number xs) h.1 in
        let below : number x < high = h.0 in
        (omega arith, omega arith)
    by_test false t rest found =
        let k = rest found in
        let least : 1 ≤ n = k.0 in
        let first : n < number x = k.1 in
        let below : number x < high = h.0 in
        (least, omega arith)
