-- What the open directory tells of the put that a reader follows.
use Rattle.std.proofs.Common.{◌≡◌, ℕ, ◌-◌, List, refl, sym, ◌∙◌, ap, subst, false, length}
use Rattle.std.specs.Prelude.{Option, Some, None, is_some, option_map, slice_get, unwrap_or}
use Rattle.fragment_table.specs.Table.{Table, TableRow, total_length}
use Rattle.open_directory.specs.declared.kept.PutState.{PutState}
use Rattle.open_directory.specs.declared.kept.PutState.TheVariants as state
use Rattle.open_directory.specs.Directory.{IsHeldDirectory, kept_cuts, put_state, put_state_at, row_of_index, table_row}
use Rattle.cache_model.specs.declared.cause.Cause.TheVariants as cause
use Rattle.cache_model.specs.declared.answer.NextAnswer.{NextAnswer}
use Rattle.cache_model.specs.declared.answer.NextAnswer.TheVariants as next
use Rattle.cache_model.specs.State.{Closed, GivenUp, Open, PutRow, ReaderRow, State, Writing}
use Rattle.cache_model.specs.Verdict
use Rattle.cache_model.specs.Verdict.{next_row, verdict_at_end, verdict_of_followed, verdict_of_writing}
use Rattle.cache_model.proofs.Found.{number_of}
use Rattle.stripe_actors.specs.Actors.{ActorsSeen, AreActors, phase_of_put}
use Rattle.stripe_actors.specs.ActorLaws.{PutIsTold, put_state_in}
use Rattle.stripe_actors.proofs.Telling.{followed_told, next_told}
use Rattle.stripe_read.specs.declared.reader.Reader.{Reader}
use Rattle.stripe_read.specs.Readers.{rows_hit, reading_as}
use Rattle.cache_calls.specs.Actors.{IsOpenReader, as_row}

no_rows : (o : Option (List TableRow)) → is_some o ≡ false → o ≡ None
no_rows None h = refl
no_rows (Some rows) h = cc

pub hits_none : (s : State) (r : Reader) (own : IsOpenReader s (reading_as r)) → r.table ≡ None → own.row.table ≡ None
hits_none s r own follows = no_rows own.row.table (own.hit ∙ ap (λ o. is_some (option_map (λ (t : Table). t.rows) o)) follows)

same_next : (s : State) (row : ReaderRow) (r : Reader) → row.put ≡ r.put → row.next ≡ r.next → row.table ≡ rows_hit r → next_row s row ≡ next_row s (as_row (reading_as r))
same_next s row r put next table =
    ap (λ t. slice_get (unwrap_or t (Verdict.cuts_of s row.put)) (row.next - 1)) table
    ∙ (ap (λ q. slice_get (unwrap_or (rows_hit r) (Verdict.cuts_of s q)) (row.next - 1)) put ∙ ap (λ n. slice_get (unwrap_or (rows_hit r) (Verdict.cuts_of s r.put)) (n - 1)) next)

-- the fragment that it takes next
pub followed_next : (s : State) (a : ActorsSeen) (r : Reader) → AreActors s a → IsHeldDirectory a.held → IsOpenReader s (reading_as r)
    → r.table ≡ None
    → row_of_index r.next (kept_cuts r.put a.held.puts) ≡ option_map table_row (next_row s (as_row (reading_as r)))
followed_next s a r actors held own follows =
    let none : own.row.table ≡ None = hits_none s r own follows in
    let table : own.row.table ≡ rows_hit r = none ∙ sym (ap (option_map (λ (t : Table). t.rows)) follows) in
    ap (λ n. row_of_index n (kept_cuts r.put a.held.puts)) (sym own.next_is)
    ∙ (ap (λ q. row_of_index own.row.next (kept_cuts q a.held.puts)) (sym own.put_is)
    ∙ (next_told s a actors held r.reader own.row own.found none ∙ ap (option_map table_row) (same_next s own.row r own.put_is own.next_is table)))

-- what is told of its put
pub put_told : (s : State) (a : ActorsSeen) (r : Reader) → AreActors s a → IsHeldDirectory a.held → IsOpenReader s (reading_as r) → r.table ≡ None
    → PutIsTold s a r.put
put_told s a r actors held own follows = subst (PutIsTold s a) own.put_is (followed_told s a actors held r.reader own.row own.found (hits_none s r own follows))

-- ---- how it stands

abbrev pub stands_as : ℕ → PutState → NextAnswer
stands_as put (state.Open cut) = next.Waited cut
stands_as put (state.Committed cut bytes) = next.Ended bytes
stands_as put (state.Aborted cut) = next.Broke (cause.Aborted put)

stands_by : (p : PutRow) (w : Writing) → stands_as p.put (put_state_at (phase_of_put w) (length p.cuts) (total_length p.cuts)) ≡ verdict_of_writing p w
stands_by p Open = refl
stands_by p Closed = refl
stands_by p GivenUp = refl

pub put_stands : (s : State) (a : ActorsSeen) (r : Reader) (o : PutState) → AreActors s a → IsHeldDirectory a.held → IsOpenReader s (reading_as r)
    → r.table ≡ None
    → put_state r.put a.held.puts ≡ Some o → stands_as r.put o ≡ verdict_at_end s (as_row (reading_as r)) None
put_stands s a r o actors held own follows is =
    let told = put_told s a r actors held own follows in
    let number : told.row.put ≡ r.put = number_of s r.put told.row told.found in
    let state : Some o ≡ Some (put_state_in told.row) = sym is ∙ told.state in
    let same : o ≡ put_state_in told.row = cc in
    ap (stands_as r.put) same
    ∙ (ap (λ n. stands_as n (put_state_in told.row)) (sym number) ∙ (stands_by told.row told.row.writing ∙ ap verdict_of_followed (sym told.found)))

pub put_is_told : (s : State) (a : ActorsSeen) (r : Reader) → AreActors s a → IsHeldDirectory a.held → IsOpenReader s (reading_as r) → r.table ≡ None → put_state r.put a.held.puts ≡ None → ⊥
put_is_told s a r actors held own follows none =
    let told = put_told s a r actors held own follows in
    let clash : None ≡ Some (put_state_in told.row) = sym none ∙ told.state in cc
