-- Where a line that reads on is answered passed or aborted, the lines of its session recorded why.
use Rattle.std.proofs.Common.{◌≡◌, ℕ, ◌-◌, ◌<◌, ◌≤◌, List, [], ◌∷◌, ◌++◌, length, arith, Bool, true, false, refl, sym, ◌∙◌, ap, subst, inl, inr, ◌⊎◌}
use Rattle.std.specs.Prelude.{Option, Some, None, option_map, slice_get, unwrap_or}
use Rattle.std.proofs.lemmas.Option.{slice_get_cases}
use Rattle.tape_base.specs.declared.pieces.PieceId.{PieceId}
use Rattle.fragment_table.specs.Table.{TableRow}
use Rattle.cache_model.specs.declared.cause.Cause.{Cause}
use Rattle.cache_model.specs.declared.cause.Cause.TheVariants as cause
use Rattle.cache_model.specs.declared.answer.NextAnswer.{NextAnswer}
use Rattle.cache_model.specs.declared.answer.NextAnswer.TheVariants as next
use Rattle.cache_model.specs.declared.record.Rec.{Rec}
use Rattle.cache_model.specs.declared.record.Rec.TheVariants as rec
use Rattle.cache_model.specs.State.{State, Row, PutRow, ReaderRow, Writing, Open, Closed, GivenUp, live_row_of, put_of, reader_of, row_of, state_after}
use Rattle.cache_model.specs.Verdict.{cause_of_loss, cause_of_piece, cuts_of, next_piece, next_row, no_record, passed, reader_verdict, table_of, verdict_at_end, verdict_of_followed, verdict_of_fragment, verdict_of_writing}
use Rattle.cache_model.specs.Permit.{End, Permit, ReadOn, Stays}
use Rattle.cache_model.specs.Given
use Rattle.cache_model.specs.Legal
use Rattle.cache_model.specs.Legal.{IsStep, answer_record}
use Rattle.cache_model.proofs.Found.{no_truth, none_is, number_of}
use Rattle.cache_model.proofs.Steps.{alone}
use Rattle.script_grammar.specs.declared.step.Step.TheVariants as step
use Rattle.script_grammar.specs.declared.answer.StepAnswer.{StepAnswer}
use Rattle.script_grammar.specs.declared.answer.StepAnswer.TheVariants as answer
use Rattle.script_run.specs.Run.{Run, fresh, reader_by}
use Rattle.script_run.specs.Asked
use Rattle.script_run.specs.Turn.{Turn, told_in}
use Rattle.script_run.specs.Answers
use Rattle.script_run.specs.Answers.{broken_said, next_said, step_answer, step_said}
use Rattle.script_run.specs.Takes.{IsRun, StepTakes, Takes, run_after}
use Rattle.script_laws.specs.Causes.{is_standing}
use Rattle.script_laws.proofs.Groups.{IsKept}
use Rattle.headline.specs.Account.{Account, HistoryTells, RunLogs}
use Rattle.headline.specs.Breaks.{BrokeAborted, BrokePassed, GivesUpPut}
use Rattle.headline.specs.Standing.{HasRecorded, IsBelowFloor}
use Rattle.account_laws.proofs.Answered.{abort_answered}
use Rattle.account_laws.proofs.Causing.{unknown}
use Rattle.account_laws.proofs.Last.{ByRecord, told_last}
use Rattle.account_laws.proofs.Lost.{no_standing_loss}
use Rattle.account_laws.proofs.Missing.{is_of_device}
use Rattle.account_laws.proofs.Opened.{OfReaders, StaysOpen, stays_open}
use Rattle.account_laws.proofs.Places.{told_line}
use Rattle.cause_laws.proofs.Standing.{is_below}
use Rattle.account_laws.proofs.Troubles.{did_before}
use Rattle.account_laws.proofs.Written.{IsWrittenSo, WritesSo, written_by}

-- ---- what a reader is answered

-- the verdict has the cause, or the device brought it about
abbrev IsBroken : State → ReaderRow → Cause → Type 0
IsBroken s r why = (reader_verdict s r ≡ next.Broke why) ⊎ (is_of_device why ≡ true)

pub broken_is : (w why : Cause) → broken_said w ≡ answer.Broken why → w ≡ why
broken_is (cause.DeviceFault count) why h = absurd cc
broken_is _ why h = cc

pub verdict_breaks : (n : ℕ) (s : State) (r : ReaderRow) (given : List ℕ) (why : Cause) (a : NextAnswer) → reader_verdict s r ≡ a → next_said given (told_in (answer_record n a ∷ [])) ≡ answer.Broken why
    → reader_verdict s r ≡ next.Broke why
verdict_breaks n s r given why (next.Gave index bytes) verdict h = absurd cc
verdict_breaks n s r given why (next.Ended told) verdict h = absurd cc
verdict_breaks n s r given why (next.Waited cut) verdict h = absurd cc
verdict_breaks n s r given why (next.Broke w) verdict h = verdict ∙ ap next.Broke (broken_is w why h)

trouble_said : (p : Permit) (s : State) (row : Row) (before : List Rec) (w last why : Cause) (n : ℕ) (given : List ℕ) → Given.Trouble p s row before w
    → next_said given (told_in (before ++ rec.Broke n last ∷ [])) ≡ answer.Broken why → (last ≡ why) × (is_of_device w ≡ true)
trouble_said p s row before w last why n given (Given.Trouble.faulted count asked m) h = (broken_is last why h, refl)
trouble_said p s row before w last why n given (Given.Trouble.damaged found d) h = (broken_is last why h, refl)

fragment_said : (p : Permit) (s : State) (row : Row) (entry : TableRow) (before : List Rec) (w last why : Cause) (n : ℕ) (given : List ℕ) → Legal.ReadTrouble p s row entry before w
    → next_said given (told_in (before ++ rec.Broke n last ∷ [])) ≡ answer.Broken why → (last ≡ why) × (is_of_device w ≡ true)
fragment_said p s row entry before w last why n given (Legal.ReadTrouble.troubled b c t) h = trouble_said p s row before w last why n given t h
fragment_said p s row entry before w last why n given (Legal.ReadTrouble.mismatched found read unlike) h = (broken_is last why h, refl)

reading_breaks : (n : ℕ) (p : Permit) (s : State) (r : ReaderRow) (before : List Rec) (a : NextAnswer) (given : List ℕ) (why : Cause) → Legal.IsReading p s r before a
    → next_said given (told_in (before ++ answer_record n a ∷ [])) ≡ answer.Broken why → IsBroken s r why
reading_breaks n p s r before a given why (Legal.IsReading.verdict x listed) h = inl (verdict_breaks n s r given why (reader_verdict s r) refl h)
reading_breaks n p s r before a given why (Legal.IsReading.trouble entry row b w e live t) h =
    let said = fragment_said p s row entry before w w why n given t h in
    inr (ap is_of_device (sym said.0) ∙ said.1)

-- the reader that breaks
record Broke (s : State) (n : ℕ) (why : Cause) : Type 0 where
  reader : ReaderRow
  reading : reader_of s n ≡ Some reader
  is : IsBroken s reader why

reads_on_breaks : (n : ℕ) (p : Permit) (s : State) (added : List Rec) (e : End) (given : List ℕ) (why : Cause) → Legal.DoesReadOn p s n added e → next_said given (told_in added) ≡ answer.Broken why → Broke s n why
reads_on_breaks n p s added e given why (Legal.DoesReadOn.reads_on a m) h = record {
  reader = m.r;
  reading = m.reading;
  is = reading_breaks n p s m.r m.before a given why m.right (subst (λ recs. next_said given (told_in recs) ≡ answer.Broken why) m.is h);
}

pub never_stays : (n : ℕ) (p : Permit) (s : State) (added : List Rec) (e : End) → Legal.DoesReadOn p s n added e → e ≡ Stays → ⊥
never_stays n p s added e (Legal.DoesReadOn.reads_on a m) stays = cc

-- the reader of the actor breaks in this line
record BreaksHere (run : Run) (name : List ℕ) (why : Cause) : Type 0 where
  s : State
  state : run.state ≡ Some s
  number : ℕ
  held : reader_by run name ≡ Some number
  broke : Broke s number why

module _ (run : Run) (turn : Turn) (name : List ℕ) (why : Cause) where
  held_breaks : (s : State) (o : Option ℕ) → run.state ≡ Some s → reader_by run name ≡ o → IsStep turn.device s (Asked.asks_if_has o (λ reader. ReadOn reader ∷ [])) turn.added turn.refused
      → Answers.if_has o (λ reader. next_said turn.given (told_in turn.added)) ≡ answer.Broken why → BreaksHere run name why
  held_breaks s None e held legal said = absurd cc
  held_breaks s (Some n) e held legal said =
      let does = alone turn.device s (ReadOn n) turn.added turn.refused (never_stays n turn.device s) legal.grows in
      record { s = s; state = e; number = n; held = held; broke = reads_on_breaks n turn.device s turn.added does.0 turn.given why does.1 said }

  state_breaks : (o : Option State) → run.state ≡ o → Takes run turn o (step.Next name) → step_said run turn o (step.Next name) ≡ answer.Broken why → BreaksHere run name why
  state_breaks None e takes said = absurd takes
  state_breaks (Some s) e takes said = held_breaks s (reader_by run name) e refl takes.legal said

  breaks_here : StepTakes run turn (step.Next name) → answer.Broken why ≡ step_answer run turn (step.Next name) → BreaksHere run name why
  breaks_here takes said = state_breaks run.state refl takes (sym said)

-- ---- how what it is to be given stands

-- the next piece stands below the floor, or is not on record; or the put that is followed was given up
pub data Breaks (s : State) (r : ReaderRow) (why : Cause) : Type 0 where
  under : (entry : TableRow) (row : Row) → next_row s r ≡ Some entry → live_row_of s (next_piece r) ≡ None → row_of s (next_piece r) ≡ Some row → passed s row ≡ why → Breaks s r why
  silent : no_record s ≡ why → Breaks s r why
  over : (w : PutRow) → next_row s r ≡ None → r.table ≡ None → put_of s r.put ≡ Some w → w.writing ≡ GivenUp → cause.Aborted w.put ≡ why → Breaks s r why

module _ (s : State) (r : ReaderRow) (why : Cause) (standing : is_standing why ≡ true) (none_lost : (id : PieceId) (w : Cause) → cause_of_loss s id ≡ Some w → is_standing w ≡ false) where
  module _ (entry : TableRow) (cut : next_row s r ≡ Some entry) where
    by_row : live_row_of s (next_piece r) ≡ None → (o : Option Row) → row_of s (next_piece r) ≡ o → unwrap_or (option_map (passed s) o) (no_record s) ≡ why → Breaks s r why
    by_row dead None e h = silent h
    by_row dead (Some row) e h = under entry row cut dead e h

    by_loss : live_row_of s (next_piece r) ≡ None → (o : Option Cause) → cause_of_loss s (next_piece r) ≡ o
        → unwrap_or o (unwrap_or (option_map (passed s) (row_of s (next_piece r))) (no_record s)) ≡ why → Breaks s r why
    by_loss dead None e h = by_row dead (row_of s (next_piece r)) refl h
    by_loss dead (Some w) e h = no_truth (sym standing ∙ (ap is_standing (sym h) ∙ none_lost (next_piece r) w e))

    by_live : (o : Option Row) → live_row_of s (next_piece r) ≡ o
        → unwrap_or (option_map (λ (live : Row). next.Gave r.next entry.length) o) (next.Broke (cause_of_piece s (next_piece r))) ≡ next.Broke why → Breaks s r why
    by_live (Some row) e h = absurd cc
    by_live None e h = let same : cause_of_piece s (next_piece r) ≡ why = cc in by_loss e (cause_of_loss s (next_piece r)) refl same

  module _ (past : next_row s r ≡ None) where
    by_writing : r.table ≡ None → (w : PutRow) (writing : Writing) → put_of s r.put ≡ Some w → w.writing ≡ writing → verdict_of_writing w writing ≡ next.Broke why → Breaks s r why
    by_writing follows w Open found e h = absurd cc
    by_writing follows w Closed found e h = absurd cc
    by_writing follows w GivenUp found e h = let same : cause.Aborted w.put ≡ why = cc in over w past follows found e same

    by_put : r.table ≡ None → (o : Option PutRow) → put_of s r.put ≡ o → verdict_of_followed o ≡ next.Broke why → Breaks s r why
    by_put follows None e h = absurd cc
    by_put follows (Some w) e h = by_writing follows w w.writing e refl h

    by_table : (o : Option (List TableRow)) → r.table ≡ o → verdict_at_end s r o ≡ next.Broke why → Breaks s r why
    by_table (Some table) e h = absurd cc
    by_table None e h = by_put e (put_of s r.put) refl h

  by_next : (o : Option TableRow) → next_row s r ≡ o → unwrap_or (option_map (verdict_of_fragment s r) o) (verdict_at_end s r r.table) ≡ next.Broke why → Breaks s r why
  by_next None e h = by_table e r.table refl h
  by_next (Some entry) e h = by_live entry e (live_row_of s (next_piece r)) refl h

  pub breaks_so : reader_verdict s r ≡ next.Broke why → Breaks s r why
  breaks_so h = by_next (next_row s r) refl h

-- so it stands before a line that is answered so
breaks_at : (lines : List (List ℕ)) (turns : List Turn) (name : List ℕ) (why : Cause) → IsRun fresh lines turns → (h : BreaksHere (run_after fresh lines turns) name why)
    → is_standing why ≡ true → is_of_device why ≡ false → Breaks h.s h.broke.reader why
breaks_at lines turns name why is h standing own = elim h.broke.is [
  | inr device ↦ no_truth (sym device ∙ own)
  | inl verdict ↦ breaks_so h.s h.broke.reader why standing (no_standing_loss lines turns h.s is h.state) verdict
]

-- ---- a put that was given up

module _ (put : ℕ) where
  abbrev IsGivenUp : State → Type 0
  IsGivenUp = IsWrittenSo put GivenUp

  gives_up : (r : Rec) → WritesSo put GivenUp r → GivesUpPut put r
  gives_up (rec.Committed n key bytes list) w = let other : Closed ≡ GivenUp = w.1 in absurd cc
  gives_up (rec.Aborted n key) w = w.0
  gives_up _ w = absurd w

  given_up_one : (p : Permit) (s : State) (r : Rec) → IsKept p r → IsGivenUp (state_after s r) → ByRecord IsGivenUp (GivesUpPut put) (λ told. ⊥) s r
  given_up_one p s r kept h = elim (written_by put GivenUp (λ (e : GivenUp ≡ Open). cc) p s r kept h) [ inl old ↦ inl (old, λ none. none) | inr w ↦ inr (gives_up r w) ]

-- ---- lines that are answered so

passed_by : (lines : List (List ℕ)) (turns : List Turn) (s : State) (r : ReaderRow) (place floor : ℕ) (unsaved : Bool) → IsRun fresh lines turns → (run_after fresh lines turns).state ≡ Some s
    → Breaks s r (cause.Passed place floor unsaved) → IsBelowFloor lines turns s (next_piece r) place floor unsaved
passed_by lines turns s r place floor unsaved legal state (under entry row cut dead found same) = is_below lines turns s legal state (next_piece r) row place floor unsaved dead found same
passed_by lines turns s r place floor unsaved legal state (silent same) = no_truth (sym (unknown s (cause.Passed place floor unsaved) same))
passed_by lines turns s r place floor unsaved legal state (over w past follows found e same) = absurd cc

pub break_was_passed : (l : RunLogs) (a : Account l) (lines : List (List ℕ)) (name : List ℕ) (place floor : ℕ) (unsaved : Bool)
    → HistoryTells a lines (step.Next name) (answer.Broken (cause.Passed place floor unsaved)) → BrokePassed a.turns lines name place floor unsaved
break_was_passed l a lines name place floor unsaved at =
    let why : Cause = cause.Passed place floor unsaved in
    let said : StepAnswer = answer.Broken why in
    let f = told_line l a lines (step.Next name) said at in
    let run : Run = run_after fresh lines f.earlier in
    let h : BreaksHere run name why = breaks_here run f.turn name why f.takes f.is in
    record {
      at =
          record { did = did_before l a lines (step.Next name) said f; s = h.s; state = h.state; number = h.number; held = h.held; reader = h.broke.reader; reading = h.broke.reading };
      passed = passed_by lines f.earlier h.s h.broke.reader place floor unsaved f.legal h.state (breaks_at lines f.earlier name why f.legal h refl refl);
    }

record Aborted (lines : List (List ℕ)) (turns : List Turn) (s : State) (r : ReaderRow) (put : ℕ) : Type 0 where
  put_is : r.put ≡ put
  follows : r.table ≡ None
  past : length (cuts_of s put) ≤ r.next - 1
  aborted : HasRecorded (GivesUpPut put) lines turns

past_cuts : (s : State) (r : ReaderRow) (cuts : List TableRow) → table_of s r ≡ cuts → next_row s r ≡ None → length cuts ≤ r.next - 1
past_cuts s r cuts is past = elim (slice_get_cases cuts (r.next - 1)).1 [
  | inl within ↦ none_is (sym (subst (λ (table : List TableRow). slice_get table (r.next - 1) ≡ None) is past) ∙ within.2)
  | inr beyond ↦ beyond.0
]

-- what a reader that follows is given from
followed_table : (s : State) (r : ReaderRow) (put : ℕ) → r.table ≡ None → r.put ≡ put → table_of s r ≡ cuts_of s put
followed_table s r put follows put_is = ap (λ (o : Option (List TableRow)). unwrap_or o (cuts_of s r.put)) follows ∙ ap (cuts_of s) put_is

aborted_by : (lines : List (List ℕ)) (turns : List Turn) (s : State) (r : ReaderRow) (put : ℕ) → IsRun fresh lines turns → (run_after fresh lines turns).state ≡ Some s → Breaks s r (cause.Aborted put)
    → Aborted lines turns s r put
aborted_by lines turns s r put legal state (under entry row cut dead found same) = absurd cc
aborted_by lines turns s r put legal state (silent same) = no_truth (sym (unknown s (cause.Aborted put) same))
aborted_by lines turns s r put legal state (over w past follows found e same) =
    let number : w.put ≡ put = cc in
    let put_is : r.put ≡ put = sym (number_of s r.put w found) ∙ number in
    let there : put_of s put ≡ Some w = subst (λ n. put_of s n ≡ Some w) put_is found in
    record {
      put_is = put_is;
      follows = follows;
      past = past_cuts s r (cuts_of s put) (followed_table s r put follows put_is) past;
      aborted = (told_last (IsGivenUp put) (GivesUpPut put) (λ told. ⊥) (λ g h. none_is h.1) (given_up_one put) lines turns s legal state (w, there, e)).is;
    }

pub break_was_aborted : (laws : OfReaders) (l : RunLogs) (a : Account l) (lines : List (List ℕ)) (name : List ℕ) (put : ℕ)
    → HistoryTells a lines (step.Next name) (answer.Broken (cause.Aborted put)) → BrokeAborted a lines name put
break_was_aborted laws l a lines name put at =
    let why : Cause = cause.Aborted put in
    let said : StepAnswer = answer.Broken why in
    let f = told_line l a lines (step.Next name) said at in
    let run : Run = run_after fresh lines f.earlier in
    let h : BreaksHere run name why = breaks_here run f.turn name why f.takes f.is in
    let b : Aborted lines f.earlier h.s h.broke.reader put = aborted_by lines f.earlier h.s h.broke.reader put f.legal h.state (breaks_at lines f.earlier name why f.legal h refl refl) in
    let opened = laws.opened lines f.earlier name h.number f.legal h.held in
    let stays : StaysOpen h.s h.number opened.r.put h.broke.reader = stays_open laws lines f.earlier name h.number opened h.s h.broke.reader h.state h.broke.reading in
    let most : h.broke.reader.next - 1 ≤ length (cuts_of h.s put) =
    subst (λ (table : List TableRow). h.broke.reader.next - 1 ≤ length table) (followed_table h.s h.broke.reader put b.follows b.put_is) stays.is_open.within in
    let first : 0 < h.broke.reader.next = stays.is_open.first in
    let least : length (cuts_of h.s put) ≤ h.broke.reader.next - 1 = b.past in
    let gone = abort_answered l a lines (step.Next name) said at (did_before l a lines (step.Next name) said f) laws.kept put b.aborted in
    record {
      at =
          record { did = did_before l a lines (step.Next name) said f; s = h.s; state = h.state; number = h.number; held = h.held; reader = h.broke.reader; reading = h.broke.reading };
      put_is = b.put_is;
      follows = b.follows;
      given = omega (arith, first, most, least);
      aborted = b.aborted;
      key = gone.0;
      answered = gone.1;
    }
