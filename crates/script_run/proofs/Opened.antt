-- A put or a reader that opens leaves what stands.
use Rattle.std.proofs.Common.{◌≡◌, ℕ, ◌+◌, ◌<◌, List, [], refl, sym, ◌∙◌, ap, subst, arith}
use Rattle.std.specs.Prelude.{Option, Some, None, cond, option_map, unwrap_or, ◌==◌}
use Rattle.std.specs.List.{AllByRecursion}
use Rattle.tape_base.specs.declared.actors.Actor.{Actor}
use Rattle.tape_base.specs.declared.geometries.Geometry.{Geometry}
use Rattle.tape_base.specs.declared.keys.Key.{Key}
use Rattle.alternate_vector.specs.Field.{Field}
use Rattle.alternate_vector.specs.Alternates.{Stored}
use Rattle.cache_model.specs.declared.answer.ReadAnswer.{ReadAnswer}
use Rattle.cache_model.specs.declared.answer.ReadAnswer.TheVariants as read
use Rattle.cache_model.specs.declared.cause.Cause.{Cause}
use Rattle.cache_model.specs.declared.record.Rec.TheVariants as rec
use Rattle.cache_model.specs.State.{State, PutRow, alternates_of, opened_put, opened_reader, put_of, state_after, table_of_hit}
use Rattle.cache_model.specs.Verdict.{followed, hit, hit_answer, follow_answer, lookup_verdict}
use Rattle.cache_model.specs.Legal.{IsQuiet}
use Rattle.cache_model.proofs.Found.{number_of}
use Rattle.step_laws.proofs.Answered.{hit_matches}
use Rattle.cache_model.proofs.Steps.{all_append}
use Rattle.script_run.specs.Run.{Stream}
use Rattle.script_run.specs.Own.{AreOwnPuts, IsListedOf, IsOwnPut, IsOwnReader, IsTableOf}
use Rattle.script_run.proofs.Saying.{alternates_of_rows, Kind, Stands, rows_carried}
use Rattle.script_run.proofs.Cuts.{no_cuts}
use Rattle.script_run.proofs.Finding.{found_by}
use Rattle.script_run.proofs.Carried.{Carries, put_stays, readers_carried, same_carries, table_carried}
use Rattle.script_run.proofs.Held.{IsHeld, held_readers, quiet_whole}
use Rattle.script_run.proofs.Listed.{is_among, listed_among, listed_table}
use Rattle.script_run.proofs.Values.{other_than}

-- ---- a put

-- a put that was found before is found still
module _ (s : State) (streams : ℕ → Stream) (new : PutRow) (number : new.put ≡ s.next_put) (own : AreOwnPuts s streams) where
  still : (n : ℕ) (w : PutRow) → put_of s n ≡ Some w → cond (new.put == n) (Some new) (put_of s n) ≡ Some w
  still n w found =
      let below : w.put < s.next_put = (own n w found).begun in
      let is : w.put ≡ n = number_of s n w found in
      other_than (Some new) (put_of s n) new.put n (λ e. omega (arith, below, is, number, e)) ∙ found

pub held_opened : (kind : Kind) (g : Geometry) (streams : ℕ → Stream) (s : State) (actor : Actor) (key : Key) (request response : List Field) (pin : ℕ) → IsQuiet s → IsHeld kind g streams s
    → IsHeld kind g streams (state_after s (rec.WriteOpened actor s.next_put key request response pin))
held_opened kind g streams s actor key request response pin quiet h =
    let t : State = state_after s (rec.WriteOpened actor s.next_put key request response pin) in
    let new : PutRow = opened_put actor.0 s.next_put key request response pin in
    let stays : (n : ℕ) (w : PutRow) → put_of s n ≡ Some w → put_of t n ≡ Some w = still s streams new refl h.stands.puts in
    let c : Carries s t = record {
      geometry = refl;
      whole = λ n w found complete. record { now = w; found = stays n w found; key = refl; stands_for = refl; complete = complete };
      puts = λ n w found. record { now = w; found = stays n w found; more = omega arith };
    } in
    let own_new : IsOwnPut t streams new = record {
      begun = omega arith;
      cuts = no_cuts s.geometry.fragment (streams s.next_put).bytes;
      whole = λ closed. absurd cc;
      full = λ is_open unsealed. omega arith;
    } in
    record {
      geometry = h.geometry;
      stands = record {
        puts = λ n x found. found_by (IsOwnPut t streams) new x (put_of s n) (new.put == n) (λ e. own_new) (λ before. put_stays s t streams x refl (omega arith) (h.stands.puts n x before)) found;
        rows = rows_carried kind s t c streams s.rows h.stands.rows;
        readers = readers_carried s t c (omega arith) s.readers h.stands.readers;
      };
      displaced = h.displaced;
      pending = quiet_whole t streams quiet;
    }

-- ---- a reader

abbrev pub OwnOpened : State → State → ℕ → Key → List Field → ReadAnswer → Type 0
OwnOpened s t actor key request answer = AllByRecursion (IsOwnReader t) (opened_reader s s.next_reader actor key request answer)

follow_own : (s t : State) (actor : ℕ) (key : Key) (request : List Field) (why : Cause) (o : Option PutRow) → s.next_reader < t.next_reader
    → OwnOpened s t actor key request (unwrap_or (option_map follow_answer o) (read.Miss why))
follow_own s t actor key request why None on = tt
follow_own s t actor key request why (Some w) on = (record { begun = on; table = tt }, tt)

-- a reader that hits something has the table of an alternate of its key
hit_own : (s t : State) (actor : ℕ) (key : Key) (request : List Field) (other : ReadAnswer) (o : Option Stored) → hit s key request ≡ o → s.next_reader < t.next_reader → Carries s t
    → AllByRecursion (IsListedOf s key) (alternates_of s key) → OwnOpened s t actor key request other → OwnOpened s t actor key request (unwrap_or (option_map hit_answer o) other)
hit_own s t actor key request other None e on c listed rest = rest
hit_own s t actor key request other (Some a) e on c listed rest =
    let own : IsListedOf s key a = is_among (IsListedOf s key) a (alternates_of s key) listed (hit_matches s key request a e).0 in
    let table : table_of_hit s key request ≡ a.table = ap (λ (o : Option Stored). unwrap_or (option_map (λ (b : Stored). b.table) o) []) e in
    (record { begun = on; table = table_carried s t c a.put (table_of_hit s key request) (subst (IsTableOf s a.put) (sym table) (listed_table s key a own)) }, tt)

pub verdict_own : (kind : Kind) (s t : State) (streams : ℕ → Stream) (actor : ℕ) (key : Key) (request : List Field) → s.next_reader < t.next_reader → Carries s t → Stands kind s streams
    → OwnOpened s t actor key request (lookup_verdict s key request)
verdict_own kind s t streams actor key request on c own =
    hit_own s t actor key request _ (hit s key request) refl on c (listed_among s s.rows key (alternates_of_rows kind s streams s.rows own.rows))
    (follow_own s t actor key request _ (followed s key request) on)

pub held_read_opened : (kind : Kind) (g : Geometry) (streams : ℕ → Stream) (s : State) (actor : Actor) (key : Key) (request : List Field) (answer : ReadAnswer)
    → (let t : State = state_after s (rec.ReadOpened s.next_reader actor key request answer) in OwnOpened s t actor.0 key request answer)
    → IsHeld kind g streams s → IsHeld kind g streams (state_after s (rec.ReadOpened s.next_reader actor key request answer))
held_read_opened kind g streams s actor key request answer opened h =
    let t : State = state_after s (rec.ReadOpened s.next_reader actor key request answer) in
    held_readers kind g streams s t.readers (s.next_reader + 1) (omega arith)
    (all_append (IsOwnReader t) (opened_reader s s.next_reader actor.0 key request answer) s.readers opened
    (readers_carried s t (same_carries s t refl refl refl) (omega arith) s.readers h.stands.readers)) h
