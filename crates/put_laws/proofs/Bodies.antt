-- What the writer of a put took whose line was answered so stays that line's body: no actor writes a put that was completed.
use Rattle.std.proofs.Common.{◌≡◌, ℕ, suc, ◌+◌, ◌<◌, List, [], ◌∷◌, ◌++◌, length, take, Bool, true, false, refl, sym, ◌∙◌, ap, subst, arith, append_assoc, append-nil, inl, inr}
use Rattle.std.specs.Prelude.{Option, Some, None, cond, if◌then◌else◌, ◌==◌}
use Rattle.std.specs.List.{AllByRecursion}
use Rattle.tape_base.specs.declared.keys.Key.{Key}
use Rattle.fragment_table.specs.Table.{made_row}
use Rattle.alternate_vector.specs.Alternates.{Stored}
use Rattle.alternate_vector.specs.Field.{Field}
use Rattle.cache_model.specs.declared.record.Rec.{Rec}
use Rattle.cache_model.specs.declared.record.Rec.TheVariants as rec
use Rattle.cache_model.specs.State.{AllAlong, State, PutRow, Closed, GivenUp, Open, after_all, opened_put, put_of, state_after, with_cut, with_writing}
use Rattle.cache_model.specs.Permit.{End, Exhausted, Faulted, GiveUp, Intent, IsAmong, Lost, ManyFragments, ManyWriters, NoSync, Permit, Reason, StillMoving, StillOpen, SyncRuns, TooLarge, Write, work_after}
use Rattle.cache_model.specs.Legal
use Rattle.cache_model.specs.Legal.{IsStep, MayGrow}
use Rattle.cache_model.proofs.Found.{no_truth, none_is, number_of, same_some}
use Rattle.cache_model.proofs.Steps.{First, first_of}
use Rattle.step_laws.specs.StepLaws.{IsNumbered, NumbersFollow}
use Rattle.script_grammar.specs.declared.line.LineAnswer.{LineAnswer}
use Rattle.script_grammar.specs.declared.line.LineAnswer.TheVariants as line
use Rattle.script_grammar.specs.declared.step.Step.{Step}
use Rattle.script_grammar.specs.declared.step.Step.TheVariants as step
use Rattle.script_grammar.specs.declared.answer.Refused.TheVariants as refused
use Rattle.script_grammar.specs.declared.answer.StepAnswer.{StepAnswer}
use Rattle.script_grammar.specs.declared.answer.StepAnswer.TheVariants as answer
use Rattle.script_grammar.specs.Grammar.{reading_of}
use Rattle.script_run.specs.Run.{Holding, Run, Stream, fresh, held_by, put_written_by, with_value}
use Rattle.script_run.specs.Turn.{Turn}
use Rattle.script_run.specs.Asked.{asked, body_intents, put_intents}
use Rattle.script_run.specs.Answers.{feed_said, idle, if_has as has_said, put_said, refusal_said, said, took_of}
use Rattle.script_run.specs.Behind.{after_line, after_reading, behind, fed, in_session, of_put, sealed_by, streams_behind, streams_closed, streams_fed, streams_opened, taken_in_line}
use Rattle.script_run.specs.Own.{AreWriting}
use Rattle.script_run.specs.Takes.{IsRun, LineTakes, ReadingTakes, SessionTakes, Takes, run_after}
use Rattle.script_run.specs.Goes.{StepGoes, begins, begins_session, cuts_off, fails, stays, tells_bare, waits, works}
use Rattle.script_run.proofs.Lift.{goes}
use Rattle.script_run.proofs.Changed.{Changes, Was, changed, changed_from, either, itself}
use Rattle.script_run.proofs.Ended.{IsNotOpen, open_row}
use Rattle.script_run.proofs.Values.{other_than, value_here}
use Rattle.script_laws.proofs.Groups.{IsKept}
use Rattle.script_laws.proofs.Walking.{walked}
use Rattle.line_laws.specs.Along.{AreOfSession, KeepsSession, KeptAlong, StandsKept, StandsWhere}
use Rattle.line_laws.specs.Laws
use Rattle.line_laws.specs.Laws.{IsMeasured, LegalIsKept, PutIsMeasured}
use Rattle.headline.specs.Account.{Account, HistoryTells, RunLogs}
use Rattle.headline.specs.Answered.{RecordedPut}
use Rattle.headline.specs.Bodies.{ClosedPutStays, DataTookItsBytes, GotIsTheBody, PutTookItsBody, taken_told}
use Rattle.headline.specs.Reads.{DidBefore, GotIsWhole, IsWholePut}
use Rattle.account_laws.proofs.Opened.{kept_here}
use Rattle.account_laws.proofs.Places.{Found, OnSession, told_line}
use Rattle.put_laws.proofs.Recording.{allowed_before, answered_put_was_completed, put_answer}
use Rattle.account_laws.proofs.Troubles.{did_before}

-- ---- a put that is over

closed_not_open : Closed ≡ Open → ⊥
closed_not_open h = cc

given_not_open : GivenUp ≡ Open → ⊥
given_not_open h = cc

module _ (put : ℕ) where
  abbrev Over : State → Type 0
  Over s = IsNotOpen s put

  over_changed : (s t : State) (n : ℕ) (f : PutRow → PutRow) → Changes s t n f → ((p : PutRow) → (f p).writing ≡ Open → p.writing ≡ Open)
      → Over s → Over t
  over_changed s t n f c opens over w found writes =
      let was : Was (put_of s put) (changed n f) w = changed_from s t n f put w c found in
      let now : (changed n f was.old).writing ≡ Open = ap (λ (p : PutRow). p.writing) (sym was.is) ∙ writes in
      let before : was.old.writing ≡ Open =
      either (λ (p : PutRow). p.writing ≡ Open → was.old.writing ≡ Open) n f was.old (λ e h. opens was.old h) (λ h. h) now in
      over was.old was.found before

  not_next : (s : State) (n : ℕ) → n ≡ s.next_put → put < s.next_put → n ≡ put → ⊥
  not_next s n next below same = omega (arith, next, below, same)

  over_opened : (s : State) (n : ℕ) (new w : PutRow) → (n ≡ put → ⊥) → Over s → cond (n == put) (Some new) (put_of s put) ≡ Some w
      → w.writing ≡ Open → ⊥
  over_opened s n new w other over found writes = over w (sym (other_than (Some new) (put_of s put) n put other) ∙ found) writes

  over_one : (p : Permit) (s : State) (r : Rec) → IsKept p r → IsNumbered s r → put < s.next_put → Over s → Over (state_after s r)
  over_one p s (rec.Formatted geometry) kept numbered below over = absurd kept
  over_one p s (rec.Opened geometry serial cursor floor next_put clean list) kept numbered below over = absurd kept
  over_one p s (rec.WriteOpened who n key request response pin) kept numbered below over = λ w found writes.
      over_opened s n (opened_put who.0 n key request response pin) w (not_next s n numbered.0 below) over found writes
  over_one p s (rec.Cut n index size digest) kept numbered below over =
      over_changed s (state_after s (rec.Cut n index size digest)) n (with_cut (made_row size digest.0)) (record {
        puts =
            refl;
        keeps = λ x. refl;
      })
      (λ x h. h) over
  over_one p s (rec.Committed n key size list) kept numbered below over =
      over_changed s (state_after s (rec.Committed n key size list)) n (with_writing Closed) (record { puts = refl; keeps = λ x. refl })
      (λ x h. absurd (closed_not_open h)) over
  over_one p s (rec.Aborted n key) kept numbered below over =
      over_changed s (state_after s (rec.Aborted n key)) n (with_writing GivenUp) (record { puts = refl; keeps = λ x. refl })
      (λ x h. absurd (given_not_open h)) over
  over_one p s _ kept numbered below over = over

  next_one : (p : Permit) (s : State) (r : Rec) → IsKept p r → IsNumbered s r → put < s.next_put → put < (state_after s r).next_put
  next_one p s (rec.Formatted geometry) kept numbered below = absurd kept
  next_one p s (rec.Opened geometry serial cursor floor next_put clean list) kept numbered below = absurd kept
  next_one p s (rec.WriteOpened who n key request response pin) kept numbered below =
      let next : n ≡ s.next_put = numbered.0 in
      omega (arith, next, below)
  next_one p s _ kept numbered below = below

  over_all : (p : Permit) (s : State) (recs : List Rec) → AllByRecursion (IsKept p) recs → AllAlong IsNumbered s recs → put < s.next_put
      → Over s
      → Over (after_all s recs) × (put < (after_all s recs).next_put)
  over_all p s [] kept numbered below over = (over, below)
  over_all p s (r ∷ recs) kept numbered below over =
      over_all p (state_after s r) recs kept.1 numbered.1 (next_one p s r kept.0 numbered.0 below)
      (over_one p s r kept.0 numbered.0 below over)

  -- it is, behind the record that it was completed
  committed_over : (s : State) (key : Key) (size : ℕ) (list : List Stored) → Over (state_after s (rec.Committed put key size list))
  committed_over s key size list w found writes =
      let t : State = state_after s (rec.Committed put key size list) in
      let was : Was (put_of s put) (changed put (with_writing Closed)) w =
      changed_from s t put (with_writing Closed) put w (record { puts = refl; keeps = λ x. refl }) found in
      let here : was.old.put ≡ put = number_of s put was.old was.found in
      let is : w ≡ with_writing Closed was.old = was.is ∙ itself put (with_writing Closed) was.old here in
      closed_not_open (ap (λ (x : PutRow). x.writing) (sym is) ∙ writes)

  over_in : (p : Permit) (s : State) (recs : List Rec) (key : Key) (size : ℕ) (list : List Stored) → AllByRecursion (IsKept p) recs
      → AllAlong IsNumbered s recs → put < s.next_put → IsAmong (rec.Committed put key size list) recs
      → Over (after_all s recs) × (put < (after_all s recs).next_put)
  over_in p s [] key size list kept numbered below among = absurd among
  over_in p s (r ∷ recs) key size list kept numbered below (inl same) =
      over_all p (state_after s r) recs kept.1 numbered.1 (next_one p s r kept.0 numbered.0 below)
      (subst (λ (x : Rec). Over (state_after s x)) same (committed_over s key size list))
  over_in p s (r ∷ recs) key size list kept numbered below (inr later) =
      over_in p (state_after s r) recs key size list kept.1 numbered.1 (next_one p s r kept.0 numbered.0 below) later

  -- ---- streams

  beside : (streams : ℕ → Stream) (n : ℕ) (x : Stream) → (put ≡ n → ⊥) → (with_value streams n x put).bytes ≡ (streams put).bytes
  beside streams n x other = ap (λ (y : Stream). y.bytes) (other_than x (streams put) put n other)

  module _ (run : Run) (s t : State) (turn : Turn) (below : put < s.next_put) (over : Over s) (writing : AreWriting run s) where
    other_put : put ≡ s.next_put → ⊥
    other_put same = omega (arith, below, same)

    -- no actor writes it
    not_written : (name : List ℕ) (n : ℕ) → put_written_by run name ≡ Some n → put ≡ n → ⊥
    not_written name n writes same =
        let o = open_row s n (writing name n writes) in
        over o.w (subst (λ m. put_of s m ≡ Some o.w) (sym same) o.found) o.is_open

    opened_stays : (o : Option Holding) → (streams_opened run s o put).bytes ≡ (run.streams put).bytes
    opened_stays None = beside run.streams s.next_put _ other_put
    opened_stays (Some holding) = refl

    fed_by : (n : ℕ) (x : Stream) (b : Bool) → (put ≡ n → ⊥)
        → ((if b then run.streams else with_value run.streams n x) put).bytes ≡ (run.streams put).bytes
    fed_by n x true other = refl
    fed_by n x false other = beside run.streams n x other

    fed_stays : (name body : List ℕ) (why : Option Reason) (o : Option ℕ) → put_written_by run name ≡ o
        → (of_put run o (streams_fed run t body why) put).bytes ≡ (run.streams put).bytes
    fed_stays name body why None writes = refl
    fed_stays name body why (Some n) writes =
        fed_by n (fed (run.streams n) body (taken_in_line run t body why n)) (run.streams n).sealed (not_written name n writes)

    closed_stays : (name : List ℕ) (why : Option Reason) (o : Option ℕ) → put_written_by run name ≡ o
        → (of_put run o (streams_closed run why) put).bytes ≡ (run.streams put).bytes
    closed_stays name why None writes = refl
    closed_stays name why (Some n) writes = beside run.streams n (sealed_by why (run.streams n)) (not_written name n writes)

    bytes_stay : (st : Step) → (streams_behind run s t turn st put).bytes ≡ (run.streams put).bytes
    bytes_stay (step.Put key body request response) = beside run.streams s.next_put _ other_put
    bytes_stay (step.OpenWrite actor key pin request response) = opened_stays (held_by run actor)
    bytes_stay (step.Feed actor body) = fed_stays actor body turn.refused (put_written_by run actor) refl
    bytes_stay (step.Close actor) = closed_stays actor turn.refused (put_written_by run actor) refl
    bytes_stay _ = refl

  -- ---- lines

  -- where there is a session it is over
  abbrev IsOverWhere : Option State → Type 0
  IsOverWhere None = Unit {0}
  IsOverWhere (Some s) = Over s × (put < s.next_put)

  -- and this is what its writer took
  record HasTaken (run : Run) (body : List ℕ) : Type 0 where
    over : IsOverWhere run.state
    bytes : (run.streams put).bytes ≡ body

  module _ (numbers : NumbersFollow) (body : List ℕ) where
    in_session_taken : (run : Run) (turn : Turn) (s : State) (st : Step) → SessionTakes run s turn st → (k : HasTaken run body)
        → run.state ≡ Some s
        → StandsWhere StandsKept run run.state → HasTaken (in_session run s (after_all s turn.added) turn st) body
    in_session_taken run turn s st takes k e stands =
        let was : Over s × (put < s.next_put) = subst IsOverWhere e k.over in
        let below : put < s.next_put = was.1 in
        let over : Over s = was.0 in
        let writing : AreWriting run s = (subst (StandsWhere StandsKept run) e stands).writing in
        let now = over_all turn.device s turn.added (walked takes.legal.grows).kept
        (numbers turn.device s (asked run s st) turn.added turn.refused takes.legal) below over in
        record {
          over = now;
          bytes = bytes_stay run s (after_all s turn.added) turn below over writing st ∙ k.bytes;
        }

    step_taken : (run : Run) (turn : Turn) {st : Step} {says : StepAnswer} {after : Run} → StepGoes run turn st says after → begins_session st ≡ false
        → HasTaken run body → StandsWhere StandsKept run run.state → HasTaken after body
    step_taken run turn (stays bad same none) keeps k stands = k
    step_taken run turn (waits at same none) keeps k stands =
        record { over = k.over; bytes = k.bytes }
    step_taken run turn {st = st} (works s same e takes) keeps k stands = in_session_taken run turn s st takes k e stands
    step_taken run turn (begins name g begun is) keeps k stands = no_truth (sym begun ∙ keeps)
    step_taken run turn (fails name count begun is refuses) keeps k stands = no_truth (sym begun ∙ keeps)
    step_taken run turn (cuts_off choice s e cut) keeps k stands = record { over = tt; bytes = k.bytes }
    step_taken run turn (tells_bare t same e last takes only) keeps k stands = record { over = k.over; bytes = k.bytes }

    reading_taken : (run : Run) (turn : Turn) (x : LineAnswer) → KeepsSession x → ReadingTakes run turn x → HasTaken run body
        → StandsWhere StandsKept run run.state
        → HasTaken (after_reading run turn x) body
    reading_taken run turn (line.Step st) same takes k stands = step_taken run turn (goes run turn st takes) same k stands
    reading_taken run turn line.Nothing same takes k stands = k
    reading_taken run turn (line.Bad fault) same takes k stands = absurd takes

    taken_along : (lines : List (List ℕ)) (turns : List Turn) (run : Run) → IsRun run lines turns → KeptAlong run lines turns
        → HasTaken run body
        → HasTaken (run_after run lines turns) body
    taken_along [] turns run is along k = k
    taken_along (bytes ∷ lines) [] run is along k = absurd is
    taken_along (bytes ∷ lines) (turn ∷ turns) run is along k =
        taken_along lines turns (after_line run turn bytes) is.1 along.2
        (reading_taken run turn (reading_of bytes) along.0 is.0 k along.1)

-- ---- lines behind others

record Split (run : Run) (before : List (List ℕ)) (bytes : List ℕ) (after : List (List ℕ)) (turns : List Turn) : Type 0 where
  earlier : List Turn
  turn : Turn
  rest : List Turn
  are : turns ≡ earlier ++ turn ∷ rest
  legal : IsRun run before earlier
  takes : LineTakes (run_after run before earlier) turn bytes
  goes : IsRun (after_line (run_after run before earlier) turn bytes) after rest
  ends : run_after run (before ++ bytes ∷ after) turns ≡ run_after (after_line (run_after run before earlier) turn bytes) after rest

split : (run : Run) (before : List (List ℕ)) (bytes : List ℕ) (after : List (List ℕ)) (turns : List Turn)
    → IsRun run (before ++ bytes ∷ after) turns
    → Split run before bytes after turns
split run [] bytes after [] is = absurd is
split run [] bytes after (turn ∷ turns) is =
    record { earlier = []; turn = turn; rest = turns; are = refl; legal = tt; takes = is.0; goes = is.1; ends = refl }
split run (b ∷ before) bytes after [] is = absurd is
split run (b ∷ before) bytes after (turn ∷ turns) is =
    let h = split (after_line run turn b) before bytes after turns is.1 in
    record {
      earlier = turn ∷ h.earlier;
      turn = h.turn;
      rest = h.rest;
      are = ap (λ (ts : List Turn). turn ∷ ts) h.are;
      legal = (is.0, h.legal);
      takes = h.takes;
      goes = h.goes;
      ends = h.ends;
    }

as_many : (lines : List (List ℕ)) (turns : List Turn) (run : Run) → IsRun run lines turns → length turns ≡ length lines
as_many [] [] run is = refl
as_many [] (turn ∷ turns) run is = absurd is
as_many (bytes ∷ lines) [] run is = absurd is
as_many (bytes ∷ lines) (turn ∷ turns) run is = ap suc (as_many lines turns (after_line run turn bytes) is.1)

-- what a line did is one turn of the run
record IsOneTurn (front other : List Turn) (x y : Turn) : Type 0 where
  fronts : front ≡ other
  turns : x ≡ y

one_turn : (front other : List Turn) (x y : Turn) (rest others : List Turn) → front ++ x ∷ rest ≡ other ++ y ∷ others
    → length front ≡ length other
    → IsOneTurn front other x y
one_turn [] [] x y rest others h n = record { fronts = refl; turns = cc }
one_turn [] (b ∷ other) x y rest others h n = absurd (omega (arith, n))
one_turn (a ∷ front) [] x y rest others h n = absurd (omega (arith, n))
one_turn (a ∷ front) (b ∷ other) x y rest others h n =
    let heads : a ≡ b = cc in
    let tails : front ++ x ∷ rest ≡ other ++ y ∷ others = cc in
    let same = one_turn front other x y rest others tails (omega (arith, n)) in
    let fronts : front ≡ other = same.fronts in
    record { fronts = cc; turns = same.turns }

same_did : (turns : List Turn) (lines : List (List ℕ)) (d e : DidBefore turns lines) → IsOneTurn d.earlier e.earlier d.turn e.turn
same_did turns lines d e =
    one_turn d.earlier e.earlier d.turn e.turn d.later e.later (sym d.turns_are ∙ e.turns_are)
    (as_many lines d.earlier fresh d.legal ∙ sym (as_many lines e.earlier fresh e.legal))

-- ---- the line of a put

record OpensFirst (s : State) (added : List Rec) : Type 0 where
  first : Rec
  tail : List Rec
  are : added ≡ first ∷ tail
  next : (state_after s first).next_put ≡ s.next_put + 1
  other : (n : ℕ) (key : Key) (size : ℕ) (list : List Stored) → rec.Committed n key size list ≡ first → ⊥

opens_by : (p : Permit) (s : State) (key : Key) (request response : List Field) (rest : List Intent) (first tail : List Rec) (e : End)
    → Legal.DoesWrite s 0 key request response 0 first e
    → MayGrow p (after_all s first) (work_after (Write 0 key request response 0) rest None e) tail (record { intents = []; refused = None })
    → OpensFirst s (first ++ tail)
opens_by p s key request response rest first tail e (Legal.DoesWrite.opens m) grows =
    subst (λ (recs : List Rec). OpensFirst s (recs ++ tail)) (sym m.is)
    (record {
      first = rec.WriteOpened m.who s.next_put key request response 0;
      tail = tail;
      are = refl;
      next = refl;
      other = λ n k size list h. cc;
    })
opens_by p s key request response rest first tail e (Legal.DoesWrite.many q m is) grows = none_is (sym (allowed_before grows refl))
opens_by p s key request response rest first tail e (Legal.DoesWrite.exhausted q m below is) grows =
    none_is (sym (allowed_before grows refl))

opens_first : (p : Permit) (s : State) (key : Key) (body : List ℕ) (request response : List Field) (added : List Rec)
    (why : Option Reason) → why ≡ None
    → IsStep p s (put_intents s key body request response) added why → OpensFirst s added
opens_first p s key body request response added why allowed legal =
    let rest : List Intent = body_intents s.geometry.fragment s.next_put body ++ GiveUp s.next_put ∷ [] in
    let f : First p s (Write 0 key request response 0) rest None added why = first_of p s
    (Write 0 key request response 0) rest None why added legal.grows in
    subst (OpensFirst s) (sym f.split) (opens_by p s key request response rest f.added f.rest f.end f.does
    (subst (λ (o : Option Reason). MayGrow p (after_all s f.added) (work_after (Write 0 key request response 0) rest None f.end) f.rest
    (record { intents = []; refused = o })) allowed f.behind))

module _ (p : Permit) (s : State) (put : ℕ) (key : Key) (size : ℕ) (list : List Stored) where
  abbrev EndsOver : List Rec → Type 0
  EndsOver recs = AllByRecursion (IsKept p) recs → AllAlong IsNumbered s recs → IsAmong (rec.Committed put key size list) recs
      → Over put (after_all s recs) × (put < (after_all s recs).next_put)

  put_over_by : (first : Rec) (tail : List Rec) → (rec.Committed put key size list ≡ first → ⊥) → put < (state_after s first).next_put
      → EndsOver (first ∷ tail)
  put_over_by first tail other below kept numbered (inl same) = absurd (other same)
  put_over_by first tail other below kept numbered (inr later) =
      over_in put p (state_after s first) tail key size list kept.1 numbered.1 below later

  put_over : (added : List Rec) → OpensFirst s added → put ≡ s.next_put → EndsOver added
  put_over added o same =
      let next : (state_after s o.first).next_put ≡ s.next_put + 1 = o.next in
      let below : put < (state_after s o.first).next_put = omega (arith, next, same) in
      subst EndsOver (sym o.are) (put_over_by o.first o.tail (o.other put key size list) below)

-- a whole put that is taken is one of a session
on_put : (run : Run) (turn : Turn) (o : Option State) (key : Key) (body : List ℕ) (request response : List Field)
    → Takes run turn o (step.Put key body request response) → OnSession run turn o (step.Put key body request response)
on_put run turn None key body request response takes = absurd takes
on_put run turn (Some s) key body request response takes = record { s = s; session = refl; state = refl; takes = takes; said = refl; next = refl }

module _ (numbers : NumbersFollow) (l : RunLogs) (a : Account l) (lines : List (List ℕ)) (key : Key) (body : List ℕ)
    (request response : List Field)
    (put size fragments : ℕ) (at : HistoryTells a lines (step.Put key body request response) (answer.Put put size fragments)) where
  abbrev St : Step
  St = step.Put key body request response

  abbrev Says : StepAnswer
  Says = answer.Put put size fragments

  module _ (f : Found fresh a.turns lines St Says (run_after fresh a.told a.turns)) where
    abbrev Before : Run
    Before = run_after fresh lines f.earlier

    on : OnSession Before f.turn Before.state St
    on = on_put Before f.turn Before.state key body request response f.takes

    behind_taken : (o : OnSession Before f.turn Before.state St) → RecordedPut a lines St put size
        → HasTaken put (behind Before f.turn Before.state St) body
    behind_taken o r =
        let t : State = after_all o.s f.turn.added in
        let told = put_answer t o.s.next_put f.turn.refused put size fragments (sym (f.is ∙ o.said)) in
        let same : put ≡ o.s.next_put = sym told.1 in
        let turns = same_did a.turns lines r.records.did (did_before l a lines St Says f) in
        let c : Rec = rec.Committed put r.key size r.alternates in
        let among : IsAmong c f.turn.added = subst (λ (x : Turn). IsAmong c x.added) turns.turns r.records.among in
        let opens : OpensFirst o.s f.turn.added =
        opens_first f.turn.device o.s key body request response f.turn.added f.turn.refused told.0 o.takes.legal in
        let over = put_over f.turn.device o.s put r.key size r.alternates f.turn.added opens same (walked o.takes.legal.grows).kept
        (numbers f.turn.device o.s (asked Before o.s St) f.turn.added f.turn.refused o.takes.legal) among in
        subst (λ (run : Run). HasTaken put run body) (sym o.next) (record {
          over = over;
          bytes = ap (λ (x : Stream). x.bytes)
              (value_here (record { bytes = body; sealed = false }) (Before.streams put) put o.s.next_put same);
        })

    line_taken : RecordedPut a lines St put size → HasTaken put (after_line Before f.turn at.bytes) body
    line_taken r = subst (λ (x : LineAnswer). HasTaken put (after_reading Before f.turn x) body) (sym at.reading) (behind_taken on r)

    sized : RecordedPut a lines St put size → PutIsMeasured → size ≡ length body
    sized r measured =
        let m : IsMeasured (behind Before f.turn Before.state St) put size fragments =
        measured lines f.earlier f.turn St put size fragments f.legal f.takes
        (Laws.AnswersPutComplete.puts key body request response (sym f.is)) in
        m.told ∙ ap length (behind_taken on r).bytes

-- ---- the lines since

module _ (law : LegalIsKept) (numbers : NumbersFollow) (turns : List Turn) (put : ℕ) (taken : List ℕ) (lines since : List (List ℕ))
    (bytes : List ℕ) where
  stays_since : (d : DidBefore turns lines) → HasTaken put (after_line (run_after fresh lines d.earlier) d.turn bytes) taken
      → KeepsSession (reading_of bytes) → AreOfSession since → (did : DidBefore turns (lines ++ bytes ∷ since))
      → ((run_after fresh (lines ++ bytes ∷ since) did.earlier).streams put).bytes ≡ taken
  stays_since d first keeps same did =
      let h = split fresh lines bytes since did.earlier did.legal in
      let is : turns ≡ h.earlier ++ h.turn ∷ (h.rest ++ did.turn ∷ did.later) =
      did.turns_are
      ∙ (ap (λ (ts : List Turn). ts ++ did.turn ∷ did.later) h.are ∙ append_assoc h.earlier (h.turn ∷ h.rest) (did.turn ∷ did.later)) in
      let e : DidBefore turns lines =
      record { earlier = h.earlier; turn = h.turn; later = h.rest ++ did.turn ∷ did.later; turns_are = is; legal = h.legal } in
      let one : IsOneTurn d.earlier h.earlier d.turn h.turn = same_did turns lines d e in
      let here : HasTaken put (after_line (run_after fresh lines h.earlier) h.turn bytes) taken =
      subst (λ (x : Turn). HasTaken put (after_line (run_after fresh lines h.earlier) x bytes) taken) one.turns
      (subst (λ (ts : List Turn). HasTaken put (after_line (run_after fresh lines ts) d.turn bytes) taken) one.fronts first) in
      let along = (law lines (bytes ∷ since) h.earlier (h.turn ∷ h.rest) h.legal (h.takes, h.goes) (keeps, same)).0 in
      let all = taken_along put numbers taken since h.rest
      (after_line (run_after fresh lines h.earlier) h.turn bytes) h.goes along.2 here in
      ap (λ (run : Run). (run.streams put).bytes) h.ends ∙ all.bytes

pub put_took_its_body : (law : LegalIsKept) (measured : PutIsMeasured) (numbers : NumbersFollow) → PutTookItsBody
put_took_its_body law measured numbers l a lines since key body request response put size fragments at same did =
    let asks : Step = step.Put key body request response in
    let says : StepAnswer = answer.Put put size fragments in
    let f = told_line l a lines asks says at in
    let r = answered_put_was_completed law l a lines asks put size fragments at in (
      stays_since law numbers a.turns put body lines since at.bytes (did_before l a lines asks says f)
          (line_taken numbers l a lines key body request response put size fragments at f r)
          (subst KeepsSession (sym at.reading) refl) same did,
      sized numbers l a lines key body request response put size fragments at f r measured,
    )

-- ---- a writer that closes

-- a close that is taken is one of a session
on_close : (run : Run) (turn : Turn) (o : Option State) (name : List ℕ) → Takes run turn o (step.Close name)
    → OnSession run turn o (step.Close name)
on_close run turn None name takes = absurd takes
on_close run turn (Some s) name takes = record { s = s; session = refl; state = refl; takes = takes; said = refl; next = refl }

idle_puts_none : (put size fragments : ℕ) → idle ≡ answer.Put put size fragments → ⊥
idle_puts_none put size fragments h = cc

-- of the put that is answered nothing is refused, and the actor wrote it
record ClosesSo (o : Option ℕ) (why : Option Reason) (put : ℕ) : Type 0 where
  allowed : why ≡ None
  writes : o ≡ Some put

closes_so : (t : State) (o : Option ℕ) (why : Option Reason) (put size fragments : ℕ)
    → has_said o (λ n. said t None why (put_said t n)) ≡ answer.Put put size fragments → ClosesSo o why put
closes_so t None why put size fragments h = absurd (idle_puts_none put size fragments h)
closes_so t (Some n) why put size fragments h =
    let told = put_answer t n why put size fragments h in
    record { allowed = told.0; writes = ap Some told.1 }

module _ (law : LegalIsKept) (numbers : NumbersFollow) (l : RunLogs) (a : Account l) (lines : List (List ℕ)) (name : List ℕ)
    (put size fragments : ℕ) (at : HistoryTells a lines (step.Close name) (answer.Put put size fragments))
    (f : Found fresh a.turns lines (step.Close name) (answer.Put put size fragments) (run_after fresh a.told a.turns)) where
  abbrev Then : Run
  Then = run_after fresh lines f.earlier

  abbrev Old : List ℕ
  Old = (Then.streams put).bytes

  closed_streams : (o : Option ℕ) (why : Option Reason) → ClosesSo o why put → (of_put Then o (streams_closed Then why) put).bytes ≡ Old
  closed_streams o why c =
      subst (λ (x : Option ℕ). (of_put Then x (streams_closed Then why) put).bytes ≡ Old) (sym c.writes)
      (subst (λ (w : Option Reason). (streams_closed Then w put put).bytes ≡ Old) (sym c.allowed)
      (ap (λ (x : Stream). x.bytes) (value_here (Then.streams put) (Then.streams put) put put refl)))

  close_taken : (o : OnSession Then f.turn Then.state (step.Close name)) → RecordedPut a lines (step.Close name) put size
      → HasTaken put (behind Then f.turn Then.state (step.Close name)) Old
  close_taken o r =
      let t : State = after_all o.s f.turn.added in
      let c : ClosesSo (put_written_by Then name) f.turn.refused put =
      closes_so t (put_written_by Then name) f.turn.refused put size fragments (sym (f.is ∙ o.said)) in
      let turns = same_did a.turns lines r.records.did (did_before l a lines (step.Close name) (answer.Put put size fragments) f) in
      let told : Rec = rec.Committed put r.key size r.alternates in
      let among : IsAmong told f.turn.added = subst (λ (x : Turn). IsAmong told x.added) turns.turns r.records.among in
      let stands : StandsKept Then o.s = (kept_here law lines f.earlier o.s f.legal o.state).0 in
      let row = open_row o.s put (stands.writing name put c.writes) in
      let begun : row.w.put < o.s.next_put = (stands.kept.puts put row.w row.found).begun in
      let below : put < o.s.next_put = subst (λ n. n < o.s.next_put) (number_of o.s put row.w row.found) begun in
      let over = over_in put f.turn.device o.s f.turn.added r.key size r.alternates (walked o.takes.legal.grows).kept
      (numbers f.turn.device o.s (asked Then o.s (step.Close name)) f.turn.added f.turn.refused o.takes.legal) below among in
      subst (λ (run : Run). HasTaken put run Old) (sym o.next) (record {
        over = over;
        bytes = closed_streams (put_written_by Then name) f.turn.refused c;
      })

pub closed_put_stays : (law : LegalIsKept) (measured : PutIsMeasured) (numbers : NumbersFollow) → ClosedPutStays
closed_put_stays law measured numbers l a lines since name put size fragments at same before did =
    let asks : Step = step.Close name in
    let says : StepAnswer = answer.Put put size fragments in
    let f = told_line l a lines asks says at in
    let run : Run = run_after fresh lines f.earlier in
    let r = answered_put_was_completed law l a lines asks put size fragments at in
    let k : HasTaken put (behind run f.turn run.state asks) (run.streams put).bytes =
    close_taken law numbers l a lines name put size fragments at f (on_close run f.turn run.state name f.takes) r in
    let first : HasTaken put (after_line run f.turn at.bytes) (run.streams put).bytes =
    subst (λ (x : LineAnswer). HasTaken put (after_reading run f.turn x) (run.streams put).bytes) (sym at.reading) k in
    let m : IsMeasured (behind run f.turn run.state asks) put size fragments =
    measured lines f.earlier f.turn asks put size fragments f.legal f.takes (Laws.AnswersPutComplete.closes name (sym f.is)) in
    let d : DidBefore a.turns lines = did_before l a lines asks says f in
    let one : IsOneTurn f.earlier before.earlier f.turn before.turn = same_did a.turns lines d before in
    let old : (run.streams put).bytes ≡ ((run_after fresh lines before.earlier).streams put).bytes =
    ap (λ (ts : List Turn). ((run_after fresh lines ts).streams put).bytes) one.fronts in (
      stays_since law numbers a.turns put (run.streams put).bytes lines since at.bytes d first
          (subst KeepsSession (sym at.reading) refl) same did ∙ old,
      m.told ∙ ap length (k.bytes ∙ old),
    )

-- ---- what is got

pub got_is_the_body : (whole : GotIsWhole) (took : PutTookItsBody) → GotIsTheBody
got_is_the_body whole took l a lines since key asked body bytes request response wanted put size fragments got at same later =
    let w : IsWholePut a.turns (lines ++ at.bytes ∷ since) asked wanted put got bytes =
    whole l a (lines ++ at.bytes ∷ since) asked wanted put got bytes later in
    let t = took l a lines since key body request response put size fragments at same w.did in
    let is : bytes ≡ body = w.taken ∙ t.0 in
    (is, w.sized ∙ (ap length is ∙ sym t.1))

-- ---- what a `data` line took

refusal_taken : (t : State) (took : Option ℕ) (why : Reason) → taken_told (refusal_said t took why) ≡ took
refusal_taken t took ManyWriters = refl
refusal_taken t took Exhausted = refl
refusal_taken t took (ManyFragments n) = refl
refusal_taken t took (TooLarge n bytes) = refl
refusal_taken t took (Lost n index) = refl
refusal_taken t took (Faulted count) = refl
refusal_taken t took (SyncRuns serial) = refl
refusal_taken t took NoSync = refl
refusal_taken t took (StillOpen writers readers) = refl
refusal_taken t took (StillMoving blocks) = refl

-- a refusal is not `took`
refusal_took : (t : State) (took : Option ℕ) (why : Reason) (count : ℕ) → refusal_said t took why ≡ answer.Took count → ⊥
refusal_took t took ManyWriters count h = cc
refusal_took t took Exhausted count h = cc
refusal_took t took (ManyFragments n) count h = cc
refusal_took t took (TooLarge n bytes) count h = cc
refusal_took t took (Lost n index) count h = cc
refusal_took t took (Faulted fault) count h = cc
refusal_took t took (SyncRuns serial) count h = cc
refusal_took t took NoSync count h = cc
refusal_took t took (StillOpen writers readers) count h = cc
refusal_took t took (StillMoving blocks) count h = cc

-- a whole `data` that is taken is one of a session
on_feed : (run : Run) (turn : Turn) (o : Option State) (name body : List ℕ) → Takes run turn o (step.Feed name body)
    → OnSession run turn o (step.Feed name body)
on_feed run turn None name body takes = absurd takes
on_feed run turn (Some s) name body takes = record { s = s; session = refl; state = refl; takes = takes; said = refl; next = refl }

module _ (run : Run) (t : State) (name body : List ℕ) (count : ℕ) where
  -- what the put of an actor took, and what was told
  record FedBy (o : Option ℕ) (why : Option Reason) (says : StepAnswer) : Type 0 where
    put : ℕ
    is : o ≡ Some put
    taken : (of_put run o (streams_fed run t body why) put).bytes ≡ (run.streams put).bytes ++ take count body
    all : says ≡ answer.Took count → count ≡ length body

  told_taken : (why : Option Reason) (put : ℕ) → taken_told (said t (Some (took_of run t put)) why (answer.Took (length body))) ≡ Some count
      → taken_in_line run t body why put ≡ count
  told_taken None put h = same_some (length body) count (Some (length body)) refl h
  told_taken (Some reason) put h =
      same_some (took_of run t put) count (Some (took_of run t put)) refl (sym (refusal_taken t (Some (took_of run t put)) reason) ∙ h)

  told_all : (why : Option Reason) (put : ℕ) → said t (Some (took_of run t put)) why (answer.Took (length body)) ≡ answer.Took count
      → count ≡ length body
  told_all None put h = let same : length body ≡ count = cc in sym same
  told_all (Some reason) put h = absurd (refusal_took t (Some (took_of run t put)) reason count h)

  fed_here : (why : Option Reason) (put : ℕ) (b : Bool)
      → taken_told
      (if b then answer.Refused refused.Sealed (Some 0) else said t (Some (took_of run t put)) why (answer.Took (length body))) ≡ Some count
      → ((if b then run.streams else with_value run.streams put (fed (run.streams put) body (taken_in_line run t body why put))) put).bytes
      ≡ (run.streams put).bytes ++ take count body
  fed_here why put true h =
      let zero_is : 0 ≡ count = same_some 0 count (Some 0) refl h in
      sym (ap (λ (n : ℕ). (run.streams put).bytes ++ take n body) (sym zero_is) ∙ append-nil (run.streams put).bytes)
  fed_here why put false h =
      ap (λ (x : Stream). x.bytes)
      (value_here (fed (run.streams put) body (taken_in_line run t body why put)) (run.streams put) put put refl)
      ∙ ap (λ (n : ℕ). (run.streams put).bytes ++ take n body) (told_taken why put h)

  all_here : (why : Option Reason) (put : ℕ) (b : Bool)
      → (if b then answer.Refused refused.Sealed (Some 0) else said t (Some (took_of run t put)) why (answer.Took (length body)))
      ≡ answer.Took count
      → count ≡ length body
  all_here why put true h = cc
  all_here why put false h = told_all why put h

  fed_so : (o : Option ℕ) (why : Option Reason) → taken_told (has_said o (feed_said run t body why)) ≡ Some count
      → FedBy o why (has_said o (feed_said run t body why))
  fed_so None why h = none_is h
  fed_so (Some put) why h = record {
    put = put;
    is = refl;
    taken = fed_here why put (run.streams put).sealed h;
    all = all_here why put (run.streams put).sealed;
  }

pub data_took_its_bytes : DataTookItsBytes
data_took_its_bytes l a lines name body says count at told =
    let asks : Step = step.Feed name body in
    let f = told_line l a lines asks says at in
    let run : Run = run_after fresh lines f.earlier in
    let o : OnSession run f.turn run.state asks = on_feed run f.turn run.state name body f.takes in
    let t : State = after_all o.s f.turn.added in
    let is : says ≡ has_said (put_written_by run name) (feed_said run t body f.turn.refused) = f.is ∙ o.said in
    let fed : FedBy run t name body count (put_written_by run name) f.turn.refused
    (has_said (put_written_by run name) (feed_said run t body f.turn.refused)) =
    fed_so run t name body count (put_written_by run name) f.turn.refused (ap taken_told (sym is) ∙ told) in
    let behind_is : after_line run f.turn at.bytes ≡ in_session run o.s t f.turn asks =
    ap (after_reading run f.turn) at.reading ∙ o.next in (
      record {
        did = did_before l a lines asks says f;
        put = fed.put;
        writes = fed.is;
        taken = ap (λ (x : Run). (x.streams fed.put).bytes) behind_is ∙ fed.taken;
      },
      λ took. fed.all (sym is ∙ took),
    )
