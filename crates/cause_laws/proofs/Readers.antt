-- A reader that comes to the end was given, by the lines of its actor, all that the writer of its put took.
use Rattle.std.proofs.Common.{◌≡◌, ℕ, ◌+◌, List, [], ◌∷◌, ◌++◌, drop, length, refl, sym, ◌∙◌, ap, subst, arith, append_assoc, inl, inr, ◌⊎◌}
use Rattle.std.specs.Prelude.{Option, Some, None}
use Rattle.std.proofs.Math.Seq.{drop-append-add}
use Rattle.fragment_table.specs.Table.{TableRow}
use Rattle.cache_model.specs.declared.answer.NextAnswer.{NextAnswer}
use Rattle.cache_model.specs.declared.answer.NextAnswer.TheVariants as next
use Rattle.cache_model.specs.declared.cause.Cause.{Cause}
use Rattle.cache_model.specs.declared.cause.Cause.TheVariants as cause
use Rattle.cache_model.specs.declared.record.Rec.{Rec}
use Rattle.cache_model.specs.declared.record.Rec.TheVariants as rec
use Rattle.cache_model.specs.State.{State, Row, PutRow, ReaderRow, Closed, after_all, put_of, reader_of}
use Rattle.cache_model.specs.Verdict.{reader_verdict}
use Rattle.cache_model.specs.Permit.{End, Permit, ReadOn}
use Rattle.cache_model.specs.Given
use Rattle.cache_model.specs.Legal
use Rattle.cache_model.specs.Legal.{IsQuiet, IsStep, answer_record}
use Rattle.cache_model.proofs.Steps.{alone}
use Rattle.step_laws.proofs.Answered.{followed_is_closed}
use Rattle.script_grammar.specs.declared.line.LineAnswer.{LineAnswer}
use Rattle.script_grammar.specs.declared.line.LineAnswer.TheVariants as line
use Rattle.script_grammar.specs.declared.step.Step.TheVariants as step
use Rattle.script_grammar.specs.declared.answer.StepAnswer.{StepAnswer}
use Rattle.script_grammar.specs.declared.answer.StepAnswer.TheVariants as answer
use Rattle.script_grammar.specs.Grammar.{reading_of}
use Rattle.script_run.specs.Run.{Run, fresh, reader_by}
use Rattle.script_run.specs.Asked
use Rattle.script_run.specs.Turn.{Turn, told_in}
use Rattle.script_run.specs.Answers.{broken_said, if_has, next_said, step_answer, step_said}
use Rattle.script_run.specs.Behind.{after_line}
use Rattle.script_run.specs.Own.{IsOwnReader, IsTableOf, IsTableOfHit}
use Rattle.script_run.specs.Takes.{IsNextPiece, IsPiece, IsRun, ReadingTakes, StepTakes, Takes, run_after}
use Rattle.script_run.proofs.Finding.{found_in}
use Rattle.run_promise.specs.Lines.{answers_of, reading_answer}
use Rattle.line_laws.specs.Actors.{IsOpenedBy, asked_by, follows, given_by_name, hits, piece_said, pieces_told}
use Rattle.line_laws.specs.Along.{IsOfScript, StandsKept}
use Rattle.line_laws.specs.Given.{given_to}
use Rattle.line_laws.specs.Laws.{AllGiven, HasGivenAll}
use Rattle.headline.specs.Account.{Account, HistoryTells, RunLogs}
use Rattle.headline.specs.Readers.{IsReadToEnd}
use Rattle.headline.specs.Standing.{ClosesPut, HasRecorded}
use Rattle.cause_laws.proofs.Breaking.{never_stays}
use Rattle.cause_laws.proofs.Listing.{closed_by, closed_here}
use Rattle.account_laws.proofs.Opened.{OfReaders, kept_here, stays_open}
use Rattle.account_laws.proofs.Places.{Found, told_line}
use Rattle.account_laws.proofs.Troubles.{did_before}

-- ---- the bytes of a piece are those that the line gave

broken_tells_none : (why : Cause) → piece_said (Some (broken_said why)) ≡ []
broken_tells_none (cause.DeviceFault count) = refl
broken_tells_none _ = refl

told_piece : (run : Run) (s : State) (reader : ℕ) (given : List ℕ) (told : Option Rec) → IsPiece run s reader given told → piece_said (Some (next_said given told)) ≡ given
told_piece run s reader given (Some (rec.Gave n index size)) own = refl
told_piece run s reader given (Some (rec.Broke n why)) own = broken_tells_none why ∙ sym own
told_piece run s reader given _ own = sym own

next_piece : (run : Run) (s : State) (turn : Turn) (o : Option ℕ) → IsNextPiece run s turn o
    → piece_said (Some (if_has o (λ reader. next_said turn.given (told_in turn.added)))) ≡ turn.given
next_piece run s turn None own = sym own
next_piece run s turn (Some reader) own = told_piece run s reader turn.given (told_in turn.added) own

step_piece : (run : Run) (turn : Turn) (actor : List ℕ) (o : Option State) → Takes run turn o (step.Next actor)
    → piece_said (Some (step_said run turn o (step.Next actor))) ≡ turn.given
step_piece run turn actor None takes = absurd takes
step_piece run turn actor (Some s) takes = next_piece run s turn (reader_by run actor) takes.own

line_piece : (name : List ℕ) (run : Run) (turn : Turn) (l : LineAnswer) → ReadingTakes run turn l
    → asked_by name l (piece_said (reading_answer run turn l)) ≡ asked_by name l turn.given
line_piece name run turn (line.Step (step.Next actor)) takes = ap (asked_by name (line.Step (step.Next actor))) (step_piece run turn actor run.state takes)
line_piece name run turn (line.Step _) takes = refl
line_piece name run turn line.Nothing takes = refl
line_piece name run turn (line.Bad fault) takes = refl

-- so all that is told of pieces is what the lines gave, also where more lines follow
pieces_given : (name : List ℕ) (lines : List (List ℕ)) (turns : List Turn) (run : Run) (more : List (List ℕ)) (others : List Turn) (x : List (Option StepAnswer))
    → IsRun run lines turns
    → pieces_told name lines (answers_of run (lines ++ more) (turns ++ others) ++ x) ≡ given_by_name name lines turns
pieces_given name [] turns run more others x is = refl
pieces_given name (bytes ∷ lines) [] run more others x is = absurd is
pieces_given name (bytes ∷ lines) (turn ∷ turns) run more others x is =
    let rest : List ℕ = pieces_told name lines (answers_of (after_line run turn bytes) (lines ++ more) (turns ++ others) ++ x) in
    ap (λ (xs : List ℕ). xs ++ rest) (line_piece name run turn (reading_of bytes) is.0)
    ∙ ap (λ (xs : List ℕ). asked_by name (reading_of bytes) turn.given ++ xs) (pieces_given name lines turns (after_line run turn bytes) more others x is.1)

-- ---- the answers of lines behind others

answers_length : (lines : List (List ℕ)) (turns : List Turn) (run : Run) → IsRun run lines turns → length (answers_of run lines turns) ≡ length lines
answers_length [] turns run is = refl
answers_length (bytes ∷ lines) [] run is = absurd is
answers_length (bytes ∷ lines) (turn ∷ turns) run is = omega (arith, answers_length lines turns (after_line run turn bytes) is.1)

answers_behind : (before : List (List ℕ)) (earlier : List Turn) (run : Run) (bytes : List ℕ) (later : List (List ℕ)) (turn : Turn) (rest : List Turn) → IsRun run before earlier
    → answers_of run (before ++ bytes ∷ later) (earlier ++ turn ∷ rest)
    ≡ answers_of run before earlier ++ reading_answer (run_after run before earlier) turn (reading_of bytes) ∷ answers_of (after_line (run_after run before earlier) turn bytes) later rest
answers_behind [] [] run bytes later turn rest legal = refl
answers_behind [] (x ∷ earlier) run bytes later turn rest legal = absurd legal
answers_behind (b ∷ before) [] run bytes later turn rest legal = absurd legal
answers_behind (b ∷ before) (x ∷ earlier) run bytes later turn rest legal =
    ap (λ (xs : List (Option StepAnswer)). reading_answer run x (reading_of b) ∷ xs) (answers_behind before earlier (after_line run x b) bytes later turn rest legal.1)

-- ---- a line that is answered the end

broken_ends_none : (why : Cause) (size : ℕ) → broken_said why ≡ answer.End size → ⊥
broken_ends_none (cause.DeviceFault count) size h = cc
broken_ends_none _ size h = cc

verdict_ends : (n : ℕ) (s : State) (r : ReaderRow) (given : List ℕ) (size : ℕ) (a : NextAnswer) → reader_verdict s r ≡ a → next_said given (told_in (answer_record n a ∷ [])) ≡ answer.End size
    → reader_verdict s r ≡ next.Ended size
verdict_ends n s r given size (next.Gave index bytes) verdict h = absurd cc
verdict_ends n s r given size (next.Ended told) verdict h = let same : told ≡ size = cc in verdict ∙ ap next.Ended same
verdict_ends n s r given size (next.Waited cut) verdict h = absurd cc
verdict_ends n s r given size (next.Broke why) verdict h = absurd (broken_ends_none why size h)

trouble_ends_none : (p : Permit) (s : State) (row : Row) (before : List Rec) (why last : Cause) (n : ℕ) (given : List ℕ) (size : ℕ) → Given.Trouble p s row before why
    → next_said given (told_in (before ++ rec.Broke n last ∷ [])) ≡ answer.End size → ⊥
trouble_ends_none p s row before why last n given size (Given.Trouble.faulted count asked m) h = broken_ends_none last size h
trouble_ends_none p s row before why last n given size (Given.Trouble.damaged found d) h = broken_ends_none last size h

fragment_ends_none : (p : Permit) (s : State) (row : Row) (entry : TableRow) (before : List Rec) (why last : Cause) (n : ℕ) (given : List ℕ) (size : ℕ) → Legal.ReadTrouble p s row entry before why
    → next_said given (told_in (before ++ rec.Broke n last ∷ [])) ≡ answer.End size → ⊥
fragment_ends_none p s row entry before why last n given size (Legal.ReadTrouble.troubled b c t) h = trouble_ends_none p s row before why last n given size t h
fragment_ends_none p s row entry before why last n given size (Legal.ReadTrouble.mismatched found read unlike) h = broken_ends_none last size h

reading_ends : (n : ℕ) (p : Permit) (s : State) (r : ReaderRow) (before : List Rec) (a : NextAnswer) (given : List ℕ) (size : ℕ) → Legal.IsReading p s r before a
    → next_said given (told_in (before ++ answer_record n a ∷ [])) ≡ answer.End size → reader_verdict s r ≡ next.Ended size
reading_ends n p s r before a given size (Legal.IsReading.verdict x listed) h = verdict_ends n s r given size (reader_verdict s r) refl h
reading_ends n p s r before a given size (Legal.IsReading.trouble entry row b why e live t) h = absurd (fragment_ends_none p s row entry before why why n given size t h)

-- the reader that ends
record Ends (s : State) (n size : ℕ) : Type 0 where
  reader : ReaderRow
  reading : reader_of s n ≡ Some reader
  verdict : reader_verdict s reader ≡ next.Ended size

reads_on_ends : (n : ℕ) (p : Permit) (s : State) (added : List Rec) (e : End) (given : List ℕ) (size : ℕ) → Legal.DoesReadOn p s n added e → next_said given (told_in added) ≡ answer.End size → Ends s n size
reads_on_ends n p s added e given size (Legal.DoesReadOn.reads_on a m) h = record {
  reader = m.r;
  reading = m.reading;
  verdict = reading_ends n p s m.r m.before a given size m.right (subst (λ recs. next_said given (told_in recs) ≡ answer.End size) m.is h);
}

-- the reader of the actor ends in this line
record EndsHere (run : Run) (name : List ℕ) (size : ℕ) : Type 0 where
  s : State
  state : run.state ≡ Some s
  number : ℕ
  held : reader_by run name ≡ Some number
  ends : Ends s number size

module _ (run : Run) (turn : Turn) (name : List ℕ) (size : ℕ) where
  held_ends : (s : State) (o : Option ℕ) → run.state ≡ Some s → reader_by run name ≡ o → IsStep turn.device s (Asked.asks_if_has o (λ reader. ReadOn reader ∷ [])) turn.added turn.refused
      → if_has o (λ reader. next_said turn.given (told_in turn.added)) ≡ answer.End size → EndsHere run name size
  held_ends s None e held legal said = absurd cc
  held_ends s (Some n) e held legal said =
      let does = alone turn.device s (ReadOn n) turn.added turn.refused (never_stays n turn.device s) legal.grows in
      record { s = s; state = e; number = n; held = held; ends = reads_on_ends n turn.device s turn.added does.0 turn.given size does.1 said }

  state_ends : (o : Option State) → run.state ≡ o → Takes run turn o (step.Next name) → step_said run turn o (step.Next name) ≡ answer.End size → EndsHere run name size
  state_ends None e takes said = absurd takes
  state_ends (Some s) e takes said = held_ends s (reader_by run name) e refl takes.legal said

  ends_here : StepTakes run turn (step.Next name) → answer.End size ≡ step_answer run turn (step.Next name) → EndsHere run name size
  ends_here takes said = state_ends run.state refl takes (sym said)

-- ---- its put is closed

-- the put of a reader that ends
record IsClosed (s : State) (put : ℕ) : Type 0 where
  w : PutRow
  found : put_of s put ≡ Some w
  closed : w.writing ≡ Closed

put_by : (run : Run) (s : State) (n : ℕ) (r : ReaderRow) (size : ℕ) (o : Option (List TableRow)) → r.table ≡ o → StandsKept run s → IsQuiet s → reader_of s n ≡ Some r
    → reader_verdict s r ≡ next.Ended size → IsClosed s r.put
put_by run s n r size (Some table) hit kept quiet found verdict =
    let own : IsOwnReader s r = found_in (IsOwnReader s) _ s.readers r kept.kept.readers found in
    let t : IsTableOf s r.put table = subst (IsTableOfHit s r) hit own.table in
    record { w = t.w; found = t.found; closed = closed_here s t.w r.put quiet t.complete }
put_by run s n r size None none kept quiet found verdict = let c = followed_is_closed s r size none verdict in record { w = c.0; found = c.1.0; closed = c.1.1 }

module _ (laws : OfReaders) (all : AllGiven) (l : RunLogs) (a : Account l) (lines : List (List ℕ)) (name : List ℕ) (size : ℕ) (at : HistoryTells a lines (step.Next name) (answer.End size)) where
  abbrev F : Type 0
  F = Found fresh a.turns lines (step.Next name) (answer.End size) (run_after fresh a.told a.turns)

  abbrev f : F
  f = told_line l a lines (step.Next name) (answer.End size) at

  abbrev Last : Run
  Last = run_after fresh lines f.earlier

  module _ (h : EndsHere Last name size) (o : IsOpenedBy lines f.earlier name h.number) where
    abbrev reader : ℕ
    reader = h.number

    abbrev Before : Run
    Before = run_after fresh o.before o.earlier

    abbrev First : Run
    First = after_line Before o.turn o.bytes

    -- the lines and the turns of the account, from there on
    lines_are : a.told ≡ o.before ++ o.bytes ∷ (o.later ++ at.bytes ∷ at.later)
    lines_are = at.lines_are ∙ (ap (λ (xs : List (List ℕ)). xs ++ at.bytes ∷ at.later) o.lines_are ∙ append_assoc o.before (o.bytes ∷ o.later) (at.bytes ∷ at.later))

    turns_are : a.turns ≡ o.earlier ++ o.turn ∷ (o.rest ++ f.turn ∷ f.later)
    turns_are = f.turns_are ∙ (ap (λ (xs : List Turn). xs ++ f.turn ∷ f.later) o.turns_are ∙ append_assoc o.earlier (o.turn ∷ o.rest) (f.turn ∷ f.later))

    abbrev Front : List (Option StepAnswer)
    Front = answers_of fresh o.before o.earlier

    abbrev Here : Option StepAnswer
    Here = reading_answer Before o.turn (reading_of o.bytes)

    abbrev Behind : List (Option StepAnswer)
    Behind = answers_of First (o.later ++ at.bytes ∷ at.later) (o.rest ++ f.turn ∷ f.later)

    told_are : answers_of fresh a.told a.turns ≡ Front ++ Here ∷ Behind
    told_are =
        ap (λ (xs : List (List ℕ)). answers_of fresh xs a.turns) lines_are
        ∙ (ap (answers_of fresh (o.before ++ o.bytes ∷ (o.later ++ at.bytes ∷ at.later))) turns_are
        ∙ answers_behind o.before o.earlier fresh o.bytes (o.later ++ at.bytes ∷ at.later) o.turn (o.rest ++ f.turn ∷ f.later) o.legal)

    as_many : length Front ≡ length o.before
    as_many = answers_length o.before o.earlier fresh o.legal

    dropped : drop (length o.before + 1) a.answers ≡ Behind ++ a.rest
    dropped =
        ap (λ n. drop (n + 1) a.answers) (sym as_many)
        ∙ (ap (drop (length Front + 1)) (a.says ∙ (ap (λ (xs : List (Option StepAnswer)). xs ++ a.rest) told_are ∙ append_assoc Front (Here ∷ Behind) a.rest))
        ∙ drop-append-add Front (Here ∷ (Behind ++ a.rest)) 1)

    tells : (said : StepAnswer) → step_answer Before o.turn (step.OpenRead o.opens.actor o.opens.key o.opens.request) ≡ said
        → HistoryTells a o.before (step.OpenRead name o.opens.key o.opens.request) said
    tells said is = record {
      bytes = o.bytes;
      reading = o.opens.reading ∙ ap (λ (x : List ℕ). line.Step (step.OpenRead x o.opens.key o.opens.request)) o.actor_is;
      later = o.later ++ at.bytes ∷ at.later;
      lines_are = lines_are;
      front = Front;
      rest = Behind;
      answers_are = told_are ∙ ap (λ (x : Option StepAnswer). Front ++ x ∷ Behind) (ap (reading_answer Before o.turn) o.opens.reading ∙ ap Some is);
      as_many = as_many;
    }

    said : ((n : ℕ) × HistoryTells a o.before (step.OpenRead name o.opens.key o.opens.request) (answer.Hit o.r.put n)) ⊎ HistoryTells a o.before (step.OpenRead name o.opens.key o.opens.request) (answer.Follow o.r.put)
    said = elim o.said [
      | hits n is ↦ inl (n, tells (answer.Hit o.r.put n) is)
      | follows is ↦ inr (tells (answer.Follow o.r.put) is)
    ]

    abbrev body : List ℕ
    body = (Last.streams o.r.put).bytes

    given_all : HasGivenAll 0 body (given_to reader First o.later o.rest) size
    given_all =
        let on : Run = run_after First o.later o.rest in
        let script : IsOfScript Before = record { lines = o.before; turns = o.earlier; legal = o.legal; is = refl } in
        let by_last : reader_by on name ≡ Some o.s.next_reader = subst (λ (run : Run). reader_by run name ≡ Some o.s.next_reader) o.ends (h.held ∙ ap Some (sym o.number)) in
        let takes : StepTakes on f.turn (step.Next name) = subst (λ (run : Run). StepTakes run f.turn (step.Next name)) o.ends f.takes in
        let says : step_answer on f.turn (step.Next name) ≡ answer.End size = subst (λ (run : Run). step_answer run f.turn (step.Next name) ≡ answer.End size) o.ends (sym f.is) in
        let given : HasGivenAll 0 (on.streams o.r.put).bytes (given_to o.s.next_reader First o.later o.rest) size =
        all Before o.s o.turn o.bytes o.later o.rest o.r name f.turn size script o.opens o.goes o.same_session by_last takes says in
        subst (λ n. HasGivenAll 0 body (given_to n First o.later o.rest) size) o.number
        (subst (λ (run : Run). HasGivenAll 0 (run.streams o.r.put).bytes (given_to o.s.next_reader First o.later o.rest) size) (sym o.ends) given)

    pieces : pieces_told name o.later (drop (length o.before + 1) a.answers) ≡ body
    pieces =
        ap (pieces_told name o.later) dropped
        ∙ (pieces_given name o.later o.rest First (at.bytes ∷ at.later) (f.turn ∷ f.later) a.rest o.goes
        ∙ (sym o.given ∙ given_all.is))

    put_is : h.ends.reader.put ≡ o.r.put
    put_is = (stays_open laws lines f.earlier name reader o h.s h.ends.reader h.state h.ends.reading).put_is

    closed : HasRecorded (ClosesPut o.r.put) lines f.earlier
    closed =
        let kept = kept_here laws.kept lines f.earlier h.s f.legal h.state in
        let c : IsClosed h.s h.ends.reader.put = put_by Last h.s reader h.ends.reader size h.ends.reader.table refl kept.0 kept.1 h.ends.reading h.ends.verdict in
        subst (λ put. HasRecorded (ClosesPut put) lines f.earlier) put_is (closed_by lines f.earlier h.s f.legal h.state h.ends.reader.put c.w c.found c.closed)

    read_to_end : IsReadToEnd a lines name size
    read_to_end = record {
      at = record {
        did = did_before l a lines (step.Next name) (answer.End size) f;
        s = h.s;
        state = h.state;
        number = reader;
        held = h.held;
        reader = h.ends.reader;
        reading = h.ends.reading;
      };
      before = o.before;
      bytes = o.bytes;
      later = o.later;
      lines_are = o.lines_are;
      same_session = o.same_session;
      put = o.r.put;
      put_is = put_is;
      opened = record {
        key = o.opens.key;
        request = o.opens.request;
        said = said;
        did = record { earlier = o.earlier; turn = o.turn; later = o.rest ++ f.turn ∷ f.later; turns_are = turns_are; legal = o.legal };
        put_for = o.put_for;
        s = o.s;
        state = o.opens.state;
        number_is = o.number;
        reader = o.r;
        opens = subst (λ n. reader_of (after_all o.s o.turn.added) n ≡ Some o.r) o.number o.opens.found;
        put_is = refl;
      };
      closed = closed;
      pieces = pieces;
      sized = given_all.told;
    }

  pub end_is_read : IsReadToEnd a lines name size
  end_is_read =
      let h : EndsHere Last name size = ends_here Last f.turn name size f.takes f.is in
      read_to_end h (laws.opened lines f.earlier name h.number f.legal h.held)
