-- A reader that a line opens is at its first fragment, and its put has begun.
use Rattle.std.proofs.Common.{◌≡◌, ℕ, ◌<◌, List, [], ◌∷◌, ◌++◌, refl, sym, ◌∙◌, ap, subst, arith, Bool, true, false, cond}
use Rattle.std.specs.Prelude.{Option, Some, None, find, option_map, unwrap_or, ◌==◌}
use Rattle.tape_base.specs.declared.actors.Actor.{Actor}
use Rattle.tape_base.specs.declared.keys.Key.{Key}
use Rattle.alternate_vector.specs.Field.{Field}
use Rattle.alternate_vector.specs.Alternates.{Stored}
use Rattle.cache_model.specs.declared.answer.ReadAnswer.{ReadAnswer}
use Rattle.cache_model.specs.declared.answer.ReadAnswer.TheVariants as read
use Rattle.cache_model.specs.declared.record.Rec.{Rec}
use Rattle.cache_model.specs.declared.record.Rec.TheVariants as rec
use Rattle.cache_model.specs.State.{State, PutRow, ReaderRow, after_all, reader_of, state_after, table_of_hit}
use Rattle.cache_model.specs.Verdict.{cause_of_miss, follow_answer, followed, hit, hit_answer, lookup_verdict, may_follow}
use Rattle.cache_model.specs.Permit.{End, Look, Permit}
use Rattle.cache_model.specs.Given
use Rattle.cache_model.specs.Legal
use Rattle.cache_model.specs.Legal.{IsStep}
use Rattle.step_laws.specs.StepLaws.{NothingAsked, OneGroup}
use Rattle.cache_model.proofs.Found.{none_is, number_of, same_some}
use Rattle.cache_model.proofs.Steps.{after_all-append}
use Rattle.actor_table.specs.Table.{number_of_name as number_in}
use Rattle.script_grammar.specs.declared.step.Step.TheVariants as step
use Rattle.script_run.specs.Run.{Holding, Run, Stream, held_by}
use Rattle.script_run.specs.Asked.{asks_if_free}
use Rattle.script_run.specs.Turn.{Turn}
use Rattle.script_run.specs.Own.{ArePayloadsOwn, IsOwnPut, IsOwnReader, IsTableOf, IsTableOfHit}
use Rattle.script_run.specs.Takes.{SessionTakes}
use Rattle.script_run.proofs.Finding.{found_in}
use Rattle.script_run.proofs.OnlyReading.{reads_keep}
use Rattle.script_run.proofs.Values.{value_here}
use Rattle.line_laws.specs.Along.{IsOpenAt}
use Rattle.line_laws.proofs.Fronts.{own_begun}

-- ---- a put that is followed

-- the put of a number that stands in a list is found there
found_at : (p x : PutRow) (rest : Option PutRow) (b : Bool) → (q : PutRow) × (rest ≡ Some q) → (q : PutRow) × (cond b (Some x) rest ≡ Some q)
found_at p x rest true h = (x, refl)
found_at p x rest false h = h

found_first : (test : Bool) (puts : List PutRow) (p x : PutRow) (rest : Option PutRow) → (rest ≡ Some p → (q : PutRow) × (find (λ (y : PutRow). y.put == p.put) puts ≡ Some q))
    → cond test (Some x) rest ≡ Some p → (q : PutRow) × (find (λ (y : PutRow). y.put == p.put) (x ∷ puts) ≡ Some q)
found_first true puts p x rest others h =
    let same : x ≡ p = same_some x p (Some x) refl h in
    (x, value_here (Some x) (find (λ (y : PutRow). y.put == p.put) puts) x.put p.put (ap (λ (y : PutRow). y.put) same))
found_first false puts p x rest others h = found_at p x (find (λ (y : PutRow). y.put == p.put) puts) (x.put == p.put) (others h)

found_by_number : (test : PutRow → Bool) (puts : List PutRow) (p : PutRow) → find test puts ≡ Some p → (q : PutRow) × (find (λ (y : PutRow). y.put == p.put) puts ≡ Some q)
found_by_number test [] p h = none_is h
found_by_number test (x ∷ puts) p h = found_first (test x) puts p x (find test puts) (found_by_number test puts p) h

pub follow_by : (s : State) (key : Key) (request : List Field) (put : ℕ) (o : Option Stored) (q : Option PutRow)
    → unwrap_or (option_map hit_answer o) (unwrap_or (option_map follow_answer q) (read.Miss (cause_of_miss s key))) ≡ read.Follow put → (p : PutRow) × ((q ≡ Some p) × (p.put ≡ put))
follow_by s key request put (Some a) q h = absurd cc
follow_by s key request put None None h = absurd cc
follow_by s key request put None (Some p) h = (p, (refl, cc))

-- a put that is followed has begun
followed_begun : (s : State) (streams : ℕ → Stream) (key : Key) (request : List Field) (put : ℕ) → ArePayloadsOwn s streams → lookup_verdict s key request ≡ read.Follow put → put < s.next_put
followed_begun s streams key request put own verdict =
    let f = follow_by s key request put (hit s key request) (followed s key request) verdict in
    let q = found_by_number (may_follow key request) s.puts f.0 f.1.0 in
    let p : IsOwnPut s streams q.0 = own.puts f.0.put q.0 q.1 in
    subst (λ k. k < s.next_put) (number_of s f.0.put q.0 q.1 ∙ f.1.1) p.begun

-- ---- a lookup

record OpensAt (put : ℕ) (r : ReaderRow) : Type 0 where
  begun : r.put < put
  first : r.next ≡ 1

front_row : (row r : ReaderRow) (rest : Option ReaderRow) (n : ℕ) → row.reader ≡ n → cond (row.reader == n) (Some row) rest ≡ Some r → row ≡ r
front_row row r rest n same h = same_some row r (Some row) refl (sym (value_here (Some row) rest row.reader n same) ∙ h)

-- no reader had the next number
none_before : (s t : State) (streams : ℕ → Stream) (r : ReaderRow) → ArePayloadsOwn s streams → t.readers ≡ s.readers → find (λ (x : ReaderRow). x.reader == s.next_reader) t.readers ≡ Some r → ⊥
none_before s t streams r own readers found =
    let below : s.next_reader < s.next_reader = own_begun s streams s.next_reader r own (ap (find (λ (x : ReaderRow). x.reader == s.next_reader)) (sym readers) ∙ found) in
    omega (arith, below)

trouble_readers : (p : Permit) (s : State) (row : Rattle.cache_model.specs.State.Row) (before : List Rec) (why : Rattle.cache_model.specs.declared.cause.Cause.Cause) → Given.Trouble p s row before why
    → (after_all s before).readers ≡ s.readers
trouble_readers p s row before why (Given.Trouble.faulted count w m) = refl
trouble_readers p s row before why (Given.Trouble.damaged found d) = refl

opened_by : (s : State) (streams : ℕ → Stream) (who : Actor) (key : Key) (request : List Field) (answer : ReadAnswer) (r : ReaderRow) → ArePayloadsOwn s streams → lookup_verdict s key request ≡ answer
    → (let t : State = state_after s (rec.ReadOpened s.next_reader who key request answer) in ArePayloadsOwn t streams → reader_of t s.next_reader ≡ Some r → OpensAt t.next_put r)
opened_by s streams who key request (read.Hit put) r own verdict behind found =
    let t : State = state_after s (rec.ReadOpened s.next_reader who key request (read.Hit put)) in
    let same = front_row _ r (reader_of s s.next_reader) s.next_reader refl found in
    let o : IsOwnReader t r = found_in (IsOwnReader t) (λ (x : ReaderRow). x.reader == s.next_reader) t.readers r behind.readers found in
    let table : IsTableOf t r.put (table_of_hit s key request) = subst (IsTableOfHit t r) (sym (ap (λ (x : ReaderRow). x.table) same)) o.table in
    let p : IsOwnPut t streams table.w = behind.puts r.put table.w table.found in
    record { begun = subst (λ k. k < t.next_put) (number_of t r.put table.w table.found) p.begun; first = sym (ap (λ (x : ReaderRow). x.next) same) }
opened_by s streams who key request (read.Follow put) r own verdict behind found =
    let same = front_row _ r (reader_of s s.next_reader) s.next_reader refl found in
    record { begun = subst (λ k. k < s.next_put) (ap (λ (x : ReaderRow). x.put) same) (followed_begun s streams key request put own verdict); first = sym (ap (λ (x : ReaderRow). x.next) same) }
opened_by s streams who key request (read.Miss why) r own verdict behind found = absurd (none_before s s streams r own refl found)

looked_by : (p : Permit) (s : State) (streams : ℕ → Stream) (who : Actor) (key : Key) (request : List Field) (before : List Rec) (answer : ReadAnswer) (r : ReaderRow) → ArePayloadsOwn s streams
    → Legal.IsLookup p s key request before answer
    → (let t : State = after_all s (before ++ rec.ReadOpened s.next_reader who key request answer ∷ []) in ArePayloadsOwn t streams → reader_of t s.next_reader ≡ Some r → OpensAt t.next_put r)
looked_by p s streams who key request before answer r own (Legal.IsLookup.verdict x) behind found = opened_by s streams who key request (lookup_verdict s key request) r own refl behind found
looked_by p s streams who key request before answer r own (Legal.IsLookup.trouble row b why live t) behind found =
    let mid : State = after_all s before in
    let there : reader_of mid s.next_reader ≡ Some r =
    subst (λ (x : State). reader_of x s.next_reader ≡ Some r) (after_all-append s before (rec.ReadOpened s.next_reader who key request (read.Miss why) ∷ [])) found in
    absurd (none_before s mid streams r own (trouble_readers p s row before why t) there)

look_opens : (p : Permit) (s : State) (streams : ℕ → Stream) (actor : ℕ) (key : Key) (request : List Field) (added : List Rec) (e : End) (r : ReaderRow) → ArePayloadsOwn s streams
    → Legal.DoesLook p s actor key request added e → ArePayloadsOwn (after_all s added) streams → reader_of (after_all s added) s.next_reader ≡ Some r → OpensAt (after_all s added).next_put r
look_opens p s streams actor key request added e r own (Legal.DoesLook.looks m) behind found =
    subst (λ recs. OpensAt (after_all s recs).next_put r) (sym m.is)
    (looked_by p s streams m.who key request m.before m.answer r own m.right
    (subst (λ recs. ArePayloadsOwn (after_all s recs) streams) m.is behind) (subst (λ recs. reader_of (after_all s recs) s.next_reader ≡ Some r) m.is found))

-- ---- a line

opens_by : (one : OneGroup) (none : NothingAsked) (run : Run) (s : State) (turn : Turn) (actor : ℕ) (key : Key) (request : List Field) (r : ReaderRow) (o : Option Holding) → ArePayloadsOwn s run.streams
    → IsStep turn.device s (asks_if_free o (Look actor key request ∷ [])) turn.added turn.refused → reader_of (after_all s turn.added) s.next_reader ≡ Some r → OpensAt (after_all s turn.added).next_put r
opens_by one none run s turn actor key request r None own legal found =
    let does = one turn.device s (Look actor key request) turn.added turn.refused refl legal in
    look_opens turn.device s run.streams actor key request turn.added does.0 r own does.1 (reads_keep turn.device s run.streams (Look actor key request) turn.added does.0 refl own does.1) found
opens_by one none run s turn actor key request r (Some holding) own legal found =
    let nothing : turn.added ≡ [] = (none turn.device s turn.added turn.refused legal).0 in
    absurd (none_before s s run.streams r own refl (subst (λ recs. reader_of (after_all s recs) s.next_reader ≡ Some r) nothing found))

pub opens_first : (one : OneGroup) (none : NothingAsked) (run : Run) (s : State) (turn : Turn) (actor : List ℕ) (key : Key) (request : List Field) (r : ReaderRow) → ArePayloadsOwn s run.streams
    → SessionTakes run s turn (step.OpenRead actor key request) → reader_of (after_all s turn.added) s.next_reader ≡ Some r
    → IsOpenAt (after_all s turn.added) s.next_reader r × (r.next ≡ 1)
opens_first one none run s turn actor key request r own takes found =
    let o : OpensAt (after_all s turn.added).next_put r = opens_by one none run s turn (number_in run.actors actor) key request r (held_by run actor) own takes.legal found in
    let first : r.next ≡ 1 = o.first in
    (record { found = found; begun = o.begun; first = omega (arith, first); within = omega (arith, first) }, first)
