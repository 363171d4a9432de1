-- Each put of a session was opened by one of its lines.
use Rattle.std.proofs.Common.{◌≡◌, ℕ, List, [], ◌∷◌, refl, ap, subst, inl, inr, Bool, false}
use Rattle.std.specs.Prelude.{Option, Some, None, find, ◌==◌}
use Rattle.std.specs.List.{AllByRecursion}
use Rattle.tape_base.specs.declared.actors.Actor.{Actor}
use Rattle.tape_base.specs.declared.keys.Key.{Key}
use Rattle.fragment_table.specs.Table.{made_row}
use Rattle.alternate_vector.specs.Field.{Field}
use Rattle.cache_model.specs.declared.record.Rec.{Rec}
use Rattle.cache_model.specs.declared.record.Rec.TheVariants as rec
use Rattle.cache_model.specs.State.{State, PutRow, Closed, GivenUp, after_all, change_put, nothing_yet, put_of, state_after, with_cut, with_writing}
use Rattle.cache_model.specs.Permit.{IsAmong}
use Rattle.cache_model.proofs.Found.{number_of}
use Rattle.script_grammar.specs.declared.answer.StepAnswer.{StepAnswer}
use Rattle.script_grammar.specs.declared.step.Step.{Step}
use Rattle.script_grammar.specs.declared.line.LineAnswer.{LineAnswer}
use Rattle.script_grammar.specs.declared.line.LineAnswer.TheVariants as line
use Rattle.script_grammar.specs.Grammar.{reading_of}
use Rattle.script_run.specs.Run.{Run, fresh}
use Rattle.script_run.specs.Turn.{Turn}
use Rattle.script_run.specs.Behind.{after_line, after_reading}
use Rattle.script_run.specs.Takes.{IsRun, LineTakes, ReadingTakes, run_after}
use Rattle.script_run.proofs.Changed.{either}
use Rattle.script_run.proofs.Finding.{found_in}
use Rattle.script_run.specs.Goes.{StepGoes, begins, begins_session, cuts_off, fails, stays, tells_bare, waits, works}
use Rattle.script_run.proofs.Lift.{goes}
use Rattle.line_laws.specs.Along.{AreOfSession, KeepsSession, OpenedAlong}

-- ---- the line that opened a put

-- it is the first of these
opened_here : (run : Run) (turn : Turn) (bytes : List ℕ) (lines : List (List ℕ)) (turns : List Turn) (who : Actor) (put : ℕ) (key : Key) (request response : List Field) (pin : ℕ) → AreOfSession lines
    → IsAmong (rec.WriteOpened who put key request response pin) turn.added → OpenedAlong run (bytes ∷ lines) (turn ∷ turns) put key request response pin
opened_here run turn bytes lines turns who put key request response pin same opened = record {
  before = [];
  earlier = [];
  bytes = bytes;
  turn = turn;
  later = lines;
  rest = turns;
  lines_are = refl;
  turns_are = refl;
  legal = tt;
  who = who;
  opened = opened;
  same_session = same;
}

-- or one behind it
opened_later : (run : Run) (turn : Turn) (bytes : List ℕ) (lines : List (List ℕ)) (turns : List Turn) (put : ℕ) (key : Key) (request response : List Field) (pin : ℕ) → LineTakes run turn bytes
    → OpenedAlong (after_line run turn bytes) lines turns put key request response pin → OpenedAlong run (bytes ∷ lines) (turn ∷ turns) put key request response pin
opened_later run turn bytes lines turns put key request response pin takes o = record {
  before = bytes ∷ o.before;
  earlier = turn ∷ o.earlier;
  bytes = o.bytes;
  turn = o.turn;
  later = o.later;
  rest = o.rest;
  lines_are = ap (λ (xs : List (List ℕ)). bytes ∷ xs) o.lines_are;
  turns_are = ap (λ (xs : List Turn). turn ∷ xs) o.turns_are;
  legal = (takes, o.legal);
  who = o.who;
  opened = o.opened;
  same_session = o.same_session;
}

-- ---- what is said of each put, by its number, its key, its lines and its pin

module _ (P : ℕ → Key → List Field → List Field → ℕ → Type 0) where
  abbrev OfPut : PutRow → Type 0
  OfPut w = P w.put w.key w.request w.response w.pin

  abbrev OfRecord : Rec → Type 0
  OfRecord (rec.WriteOpened who put key request response pin) = P put key request response pin
  OfRecord _ = Unit {0}

  changed_puts : (put : ℕ) (f : PutRow → PutRow) → ((p : PutRow) → OfPut p → OfPut (f p)) → (puts : List PutRow) → AllByRecursion OfPut puts → AllByRecursion OfPut (change_put put f puts)
  changed_puts put f keeps [] each = tt
  changed_puts put f keeps (p ∷ puts) each = (either OfPut put f p (λ e. keeps p each.0) each.0, changed_puts put f keeps puts each.1)

  -- a record leaves it, where it is said of the put that it opens
  record_puts : (s : State) (r : Rec) → AllByRecursion OfPut s.puts → OfRecord r → AllByRecursion OfPut (state_after s r).puts
  record_puts s (rec.Formatted geometry) each said = tt
  record_puts s (rec.Opened geometry serial cursor floor next_put clean list) each said = tt
  record_puts s (rec.WriteOpened who put key request response pin) each said = (said, each)
  record_puts s (rec.Cut put index length digest) each said = changed_puts put (with_cut (made_row length digest.0)) (λ p h. h) s.puts each
  record_puts s (rec.Committed put key length listed) each said = changed_puts put (with_writing Closed) (λ p h. h) s.puts each
  record_puts s (rec.Aborted put key) each said = changed_puts put (with_writing GivenUp) (λ p h. h) s.puts each
  record_puts s _ each said = each

  records_puts : (s : State) (recs : List Rec) → AllByRecursion OfPut s.puts → AllByRecursion OfRecord recs → AllByRecursion OfPut (after_all s recs).puts
  records_puts s [] each said = each
  records_puts s (r ∷ recs) each said = records_puts (state_after s r) recs (record_puts s r each said.0) said.1

  -- it is said of each put that a record among these opens
  abbrev IsSaid : List Rec → Type 0
  IsSaid recs = (who : Actor) (put : ℕ) (key : Key) (request response : List Field) (pin : ℕ) → IsAmong (rec.WriteOpened who put key request response pin) recs → P put key request response pin

  of_record : (r : Rec) → ((who : Actor) (put : ℕ) (key : Key) (request response : List Field) (pin : ℕ) → rec.WriteOpened who put key request response pin ≡ r → P put key request response pin) → OfRecord r
  of_record (rec.WriteOpened who put key request response pin) said = said who put key request response pin refl
  of_record _ said = tt

  of_records : (recs : List Rec) → IsSaid recs → AllByRecursion OfRecord recs
  of_records [] said = tt
  of_records (r ∷ recs) said = (
    of_record r (λ who put key request response pin same. said who put key request response pin (inl same)),
    of_records recs (λ who put key request response pin among. said who put key request response pin (inr among)),
  )

  -- ---- lines

  abbrev OfPuts : Option State → Type 0
  OfPuts None = Unit {0}
  OfPuts (Some s) = AllByRecursion OfPut s.puts

  goes_puts : (run : Run) (turn : Turn) {st : Step} {said : StepAnswer} {after : Run} → StepGoes run turn st said after → AllByRecursion OfRecord turn.added
      → (begins_session st ≡ false → OfPuts run.state) → OfPuts after.state
  goes_puts run turn (stays bad same none) said now = now same
  goes_puts run turn (waits at same none) said now = now same
  goes_puts run turn (works s same e takes) said now = records_puts s turn.added (subst OfPuts e (now same)) said
  goes_puts run turn (begins name g same is) said now = records_puts nothing_yet turn.added tt said
  goes_puts run turn (fails name count same is refuses) said now = tt
  goes_puts run turn (cuts_off choice s e cut) said now = tt
  goes_puts run turn (tells_bare t same e last takes only) said now = now same

  reading_puts : (run : Run) (turn : Turn) (l : LineAnswer) → ReadingTakes run turn l → AllByRecursion OfRecord turn.added → (KeepsSession l → OfPuts run.state) → OfPuts (after_reading run turn l).state
  reading_puts run turn (line.Step st) takes said now = goes_puts run turn (goes run turn st takes) said now
  reading_puts run turn line.Nothing takes said now = now tt
  reading_puts run turn (line.Bad fault) takes said now = absurd takes

  lines_puts : (lines : List (List ℕ)) (turns : List Turn) (run : Run) → IsRun run lines turns → (AreOfSession lines → OfPuts run.state)
      → ((put : ℕ) (key : Key) (request response : List Field) (pin : ℕ) → OpenedAlong run lines turns put key request response pin → P put key request response pin) → OfPuts (run_after run lines turns).state
  lines_puts [] [] run takes now said = now tt
  lines_puts [] (turn ∷ turns) run takes now said = absurd takes
  lines_puts (bytes ∷ lines) [] run takes now said = absurd takes
  lines_puts (bytes ∷ lines) (turn ∷ turns) run takes now said =
      lines_puts lines turns (after_line run turn bytes) takes.1
      (λ same.
      reading_puts run turn (reading_of bytes) takes.0
      (of_records turn.added (λ who put key request response pin among. said put key request response pin (opened_here run turn bytes lines turns who put key request response pin same among)))
      (λ keeps. now (keeps, same)))
      (λ put key request response pin o. said put key request response pin (opened_later run turn bytes lines turns put key request response pin takes.0 o))

-- ---- a put that is found

-- behind a legal script a put of its session that passes a test was opened by a line of it
pub found_opened : (lines : List (List ℕ)) (turns : List Turn) (s : State) (test : PutRow → Bool) (w : PutRow) → IsRun fresh lines turns → (run_after fresh lines turns).state ≡ Some s → find test s.puts ≡ Some w
    → OpenedAlong fresh lines turns w.put w.key w.request w.response w.pin
found_opened lines turns s test w legal state found =
    let all = lines_puts (OpenedAlong fresh lines turns) lines turns fresh legal (λ same. tt) (λ put key request response pin o. o) in
    let each : AllByRecursion (OfPut (OpenedAlong fresh lines turns)) s.puts = subst (OfPuts (OpenedAlong fresh lines turns)) state all in
    found_in (OfPut (OpenedAlong fresh lines turns)) test s.puts w each found

-- and so was that of a number
pub put_opened : (lines : List (List ℕ)) (turns : List Turn) (s : State) (put : ℕ) (w : PutRow) → IsRun fresh lines turns → (run_after fresh lines turns).state ≡ Some s → put_of s put ≡ Some w
    → OpenedAlong fresh lines turns put w.key w.request w.response w.pin
put_opened lines turns s put w legal state found =
    subst (λ n. OpenedAlong fresh lines turns n w.key w.request w.response w.pin) (number_of s put w found)
    (found_opened lines turns s (λ (x : PutRow). x.put == put) w legal state found)
