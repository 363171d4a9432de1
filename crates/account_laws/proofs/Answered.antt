-- What a line was answered that recorded how a put ended.
use Rattle.std.proofs.Common.{◌≡◌, ◌<◌, ℕ, arith, append_assoc, append-nil, zero, suc, ◌+◌, List, [], ◌∷◌, ◌++◌, length, take, drop, refl, sym, ◌∙◌, ap, subst, inl, inr, ◌⊎◌, Bool, true, false}
use Rattle.std.specs.Prelude.{Option, Some, None, cond, filter, if◌then◌else◌, nat_le, ◌==◌}
use Rattle.std.specs.List.{AllByRecursion}
use Rattle.tape_base.specs.declared.geometries.Geometry.{Geometry}
use Rattle.tape_base.specs.declared.keys.Key.{Key}
use Rattle.fragment_table.specs.Table.{total_length}
use Rattle.alternate_vector.specs.Alternates.{Stored}
use Rattle.alternate_vector.specs.Field.{Field}
use Rattle.cache_model.specs.declared.record.Rec.{Rec}
use Rattle.cache_model.specs.declared.record.Rec.TheVariants as rec
use Rattle.cache_model.specs.State.{State, PutRow, after_all, most_fragments, opened_put, put_of}
use Rattle.cache_model.specs.Verdict.{cuts_of}
use Rattle.cache_model.specs.Permit.{IsAmong, Permit, Intent, Commit, End, Exhausted, Faulted, Lost, ManyFragments, Reason, TooLarge, Finish, Fragment, GiveUp, Look, Overflow, Remove, Stays, Weigh, Work, Write, is_cleanup, to_do, work_after}
use Rattle.cache_model.specs.Legal
use Rattle.cache_model.specs.Legal.{IsStep, MayGrow, format_records}
use Rattle.cache_model.proofs.Found.{number_of, same_some}
use Rattle.cache_model.proofs.Steps.{First, all_append, alone, first_of, none_left}
use Rattle.script_grammar.specs.declared.line.LineAnswer.{LineAnswer}
use Rattle.script_grammar.specs.declared.line.LineAnswer.TheVariants as line
use Rattle.script_grammar.specs.declared.step.Step.{Step}
use Rattle.script_grammar.specs.declared.step.Step.TheVariants as step
use Rattle.script_grammar.specs.declared.answer.Refused.TheVariants as refused
use Rattle.script_grammar.specs.declared.answer.StepAnswer.{StepAnswer}
use Rattle.script_grammar.specs.declared.answer.StepAnswer.TheVariants as answer
use Rattle.script_grammar.specs.Grammar.{reading_of}
use Rattle.script_run.specs.Run.{Holding, Run, fresh, gathered_of, held_by, put_written_by, reader_by}
use Rattle.script_run.specs.Asked.{asked, asks_if_free, asks_if_has, body_intents, close_intents, closing, cut_intents, feed_intents, feeding, put_intents, rest_behind, whole_fragments}
use Rattle.script_run.specs.Turn.{Turn}
use Rattle.script_run.specs.Answers.{cause_of_lost, feed_said, if_has as has_said, put_said, refusal_said, remove_said, said, session_said, step_answer, took_of}
use Rattle.script_run.specs.Behind.{after_line, after_step}
use Rattle.script_run.specs.Takes.{IsRun, LineTakes, ReadingTakes, run_after}
use Rattle.script_run.specs.Goes.{StepGoes, begins, cuts_off, fails, stays, tells_bare, waits, works}
use Rattle.script_run.proofs.Lift.{goes}
use Rattle.script_run.proofs.Ended.{IsNotOpen}
use Rattle.script_run.proofs.Listed.{is_among}
use Rattle.script_run.proofs.Values.{value_here}
use Rattle.line_laws.specs.Laws.{LegalIsKept}
use Rattle.run_promise.specs.Lines.{answers_of, reading_answer}
use Rattle.headline.specs.Account.{Account, HistoryTells, RunLogs}
use Rattle.headline.specs.Answered.{AsksToComplete, TakesNext, GivesUpSo, IsUnclosable, ActorWrites, IsUnstorable, RecordsBehind, WasCompleted, WasGivenUpSo, WasPut}
use Rattle.headline.specs.Reads.{DidBefore}
use Rattle.headline.specs.Standing.{ClosesPut, CompletesPut, HasRecorded}
use Rattle.headline.specs.Answered
use Rattle.headline.specs.Breaks.{GivesUpPut}
use Rattle.account_laws.proofs.Opened.{kept_here}
use Rattle.account_laws.proofs.Places.{OnSession}
use Rattle.line_laws.proofs.PutCourse.{Asks, IsGivenUp, IsWhy, Told, all_given, close_asked, course, cuts_asked, left_over, none_given}
use Rattle.line_laws.proofs.PutEnds.{AbortsBy, CommitsBy, EndsBy, IsOfKey, RemovesBy, all_told}

-- ---- the line that recorded it

-- what the line behind these took, and its answer among the others
record At (run : Run) (lines : List (List ℕ)) (bytes : List ℕ) (later : List (List ℕ)) (earlier : List Turn) (turn : Turn) (rest : List Turn) : Type 0 where
  takes : LineTakes (run_after run lines earlier) turn bytes
  front : List (Option StepAnswer)
  back : List (Option StepAnswer)
  answers : answers_of run (lines ++ bytes ∷ later) (earlier ++ turn ∷ rest) ≡ front ++ reading_answer (run_after run lines earlier) turn (reading_of bytes) ∷ back
  as_many : length front ≡ length lines

at_line : (run : Run) (lines : List (List ℕ)) (bytes : List ℕ) (later : List (List ℕ)) (earlier : List Turn) (turn : Turn) (rest : List Turn) → IsRun run lines earlier
    → IsRun run (lines ++ bytes ∷ later) (earlier ++ turn ∷ rest) → At run lines bytes later earlier turn rest
at_line run [] bytes later [] turn rest front all =
    record { takes = all.0; front = []; back = answers_of (after_line run turn bytes) later rest; answers = refl; as_many = refl }
at_line run [] bytes later (x ∷ earlier) turn rest front all = absurd front
at_line run (b ∷ lines) bytes later [] turn rest front all = absurd front
at_line run (b ∷ lines) bytes later (x ∷ earlier) turn rest front all =
    let h = at_line (after_line run x b) lines bytes later earlier turn rest front.1 all.1 in
    record {
      takes = h.takes;
      front = reading_answer run x (reading_of b) ∷ h.front;
      back = h.back;
      answers = ap (λ (xs : List (Option StepAnswer)). reading_answer run x (reading_of b) ∷ xs) h.answers;
      as_many = ap suc h.as_many;
    }

-- the record says how a put ended
abbrev pub SaysEnd : Rec → Type 0
SaysEnd (rec.Committed put key size alternates) = Unit {0}
SaysEnd (rec.Aborted put key) = Unit {0}
SaysEnd (rec.Removed put key) = Unit {0}
SaysEnd _ = ⊥

-- a step on a session, which was answered so
pub record EndsHere {l : RunLogs} (a : Account l) (lines : List (List ℕ)) (run : Run) (turn : Turn) : Type 0 where
  pub asks : Step
  pub on : OnSession run turn run.state asks
  pub tells : HistoryTells a lines asks (session_said run on.s (after_all on.s turn.added) turn asks)

module _ (told : Rec) (ends : SaysEnd told) where
  format_ends_none : (g : Geometry) → IsAmong told (format_records g) → ⊥
  format_ends_none g (inl first) = subst SaysEnd first ends
  format_ends_none g (inr (inl second)) = subst SaysEnd second ends
  format_ends_none g (inr (inr none)) = none

  fault_ends_none : (count : ℕ) → IsAmong told (rec.Fault count ∷ []) → ⊥
  fault_ends_none count (inl same) = subst SaysEnd same ends
  fault_ends_none count (inr none) = none

  session_ends : (run : Run) (turn : Turn) {asks : Step} {says : StepAnswer} {after : Run} → StepGoes run turn asks says after → step_answer run turn asks ≡ says → after_step run turn asks ≡ after
      → IsAmong told turn.added → OnSession run turn run.state asks
  session_ends run turn (stays bad same is) answered next among = absurd (subst (IsAmong told) is among)
  session_ends run turn (waits at same is) answered next among = absurd (subst (λ (t : Turn). IsAmong told t.added) is among)
  session_ends run turn (works s same e takes) answered next among = record { s = s; session = same; state = e; takes = takes; said = answered; next = next }
  session_ends run turn (begins name g same is) answered next among = absurd (format_ends_none g (subst (IsAmong told) is among))
  session_ends run turn (fails name count same is refuses) answered next among = absurd (fault_ends_none count (subst (IsAmong told) is among))
  session_ends run turn (cuts_off choice s e cut) answered next among = absurd (subst (IsAmong told) cut.only.added among)
  session_ends run turn (tells_bare t same e last takes only) answered next among = absurd (subst (IsAmong told) only.added among)

  module _ {l : RunLogs} (a : Account l) (lines : List (List ℕ)) (r : RecordsBehind a lines told) where
    abbrev pub Before : Run
    Before = run_after fresh lines r.did.earlier

    here : At fresh lines r.bytes r.later r.did.earlier r.did.turn r.did.later
    here = at_line fresh lines r.bytes r.later r.did.earlier r.did.turn r.did.later r.did.legal
        (subst (λ (ts : List Turn). IsRun fresh (lines ++ r.bytes ∷ r.later) ts) r.did.turns_are (subst (λ (xs : List (List ℕ)). IsRun fresh xs a.turns) r.lines_are a.legal))

    all_answers : answers_of fresh a.told a.turns ≡ here.front ++ reading_answer Before r.did.turn (reading_of r.bytes) ∷ here.back
    all_answers =
        ap (λ (xs : List (List ℕ)). answers_of fresh xs a.turns) r.lines_are
        ∙ (ap (λ (ts : List Turn). answers_of fresh (lines ++ r.bytes ∷ r.later) ts) r.did.turns_are ∙ here.answers)

    reading_ends : (x : LineAnswer) → reading_of r.bytes ≡ x → ReadingTakes Before r.did.turn x → EndsHere a lines Before r.did.turn
    reading_ends (line.Step asks) reading takes =
        let on : OnSession Before r.did.turn Before.state asks = session_ends Before r.did.turn (goes Before r.did.turn asks takes) refl refl r.among in
        record {
          asks = asks;
          on = on;
          tells = record {
            bytes = r.bytes;
            reading = reading;
            later = r.later;
            lines_are = r.lines_are;
            front = here.front;
            rest = here.back;
            answers_are = all_answers ∙ ap (λ (o : Option StepAnswer). here.front ++ o ∷ here.back) (ap (reading_answer Before r.did.turn) reading ∙ ap Some on.said);
            as_many = here.as_many;
          };
        }
    reading_ends line.Nothing reading takes = absurd (subst (λ (t : Turn). IsAmong told t.added) takes r.among)
    reading_ends (line.Bad fault) reading takes = absurd takes

    pub ends_here : EndsHere a lines Before r.did.turn
    ends_here = reading_ends (reading_of r.bytes) refl here.takes

-- ---- what is asked

-- what holds of all that a writer asks of a put
module _ (A : Intent → Type 0) (put : ℕ) where
  record OfWriter : Type 0 where
    fragment : (index : ℕ) (payload : List ℕ) → A (Fragment put index payload)
    overflow : A (Overflow put)

  record OfClose : Type 0 where
    fragment : (index : ℕ) (payload : List ℕ) → A (Fragment put index payload)
    weigh : (rest : ℕ) → A (Weigh put rest)
    finish : (fragments : ℕ) → A (Finish put fragments)
    commit : A (Commit put)

  cut_by : (cut : ℕ) (payload : List ℕ) (rest : List Intent) (over whole : Bool) → OfWriter → AllByRecursion A rest
      → AllByRecursion A (if over then Overflow put ∷ [] else if whole then Fragment put (cut + 1) payload ∷ rest else [])
  cut_by cut payload rest true whole of h = (of.overflow, tt)
  cut_by cut payload rest false true of h = (of.fragment (cut + 1) payload, h)
  cut_by cut payload rest false false of h = tt

  cuts_of_writer : (most fragment cut : ℕ) (bytes : List ℕ) → OfWriter → AllByRecursion A (cut_intents most fragment put cut bytes)
  cuts_of_writer zero fragment cut bytes of = tt
  cuts_of_writer (suc most) fragment cut [] of = tt
  cuts_of_writer (suc most) fragment cut (byte ∷ bytes) of =
      cut_by cut (take fragment (byte ∷ bytes)) (cut_intents most fragment put (cut + 1) (drop fragment (byte ∷ bytes)))
      (cut == most_fragments) (nat_le fragment (length (byte ∷ bytes))) of (cuts_of_writer most fragment (cut + 1) (drop fragment (byte ∷ bytes)) of)

  all_of_close : (cut : ℕ) (rest : List ℕ) → OfClose → AllByRecursion A (close_intents put cut rest)
  all_of_close cut [] of = (of.weigh 0, (of.finish cut, (of.commit, tt)))
  all_of_close cut (byte ∷ bytes) of = (of.weigh (length (byte ∷ bytes)), (of.fragment (cut + 1) (byte ∷ bytes), (of.finish (cut + 1), (of.commit, tt))))

-- ---- removed

abbrev IsNoRemove : Intent → Type 0
IsNoRemove (Remove key) = ⊥
IsNoRemove _ = Unit {0}

abbrev IsNotRemoved : Rec → Type 0
IsNotRemoved (rec.Removed put key) = ⊥
IsNotRemoved _ = Unit {0}

none_removes : (key : Key) (i : Intent) → IsNoRemove i → RemovesBy key i → ⊥
none_removes key (Remove k) none by = none
none_removes key _ none by = by

removes_only : (s : State) (i : Intent) (e : End) (r : Rec) → IsNoRemove i → EndsBy s i e r → IsNotRemoved r
removes_only s i e (rec.Removed put key) none by = none_removes key i none by
removes_only s i e _ none by = tt

-- a `put` with no intent of another kind
writers_remove_none : (put : ℕ) → OfWriter IsNoRemove put
writers_remove_none put = record { fragment = λ index payload. tt; overflow = tt }

closes_remove_none : (put : ℕ) → OfClose IsNoRemove put
closes_remove_none put = record { fragment = λ index payload. tt; weigh = λ rest. tt; finish = λ fragments. tt; commit = tt }

free_none : (o : Option Holding) (i : Intent) → IsNoRemove i → AllByRecursion IsNoRemove (asks_if_free o (i ∷ []))
free_none None i h = (h, tt)
free_none (Some holding) i h = tt

has_none : (o : Option ℕ) (is : ℕ → List Intent) → ((n : ℕ) → AllByRecursion IsNoRemove (is n))
    → AllByRecursion IsNoRemove (asks_if_has o is)
has_none None is h = tt
has_none (Some n) is h = h n

fed_none : (b : Bool) (is : List Intent) → AllByRecursion IsNoRemove is → AllByRecursion IsNoRemove (if b then [] else is)
fed_none true is h = tt
fed_none false is h = h

-- a line asks for a removal, or removes none
data Removes : Step → Type 0 where
  removes : (key : Key) → Removes (step.Remove key)

asks_none : (run : Run) (s : State) (asks : Step) → Removes asks ⊎ AllByRecursion IsNoRemove (asked run s asks)
asks_none run s (step.Remove key) = inl (removes key)
asks_none run s (step.Format name segments buckets content agg reach fragment generation alternates) = inr tt
asks_none run s (step.Put key body request response) =
    let n : ℕ = s.next_put in
    inr (
      tt,
      all_append IsNoRemove (body_intents s.geometry.fragment n body) (GiveUp n ∷ [])
          (all_append IsNoRemove (feed_intents s.geometry.fragment n 0 body) (close_intents n (whole_fragments s.geometry.fragment body) (rest_behind s.geometry.fragment body))
          (cuts_of_writer IsNoRemove n (length body) s.geometry.fragment 0 body (writers_remove_none n))
          (all_of_close IsNoRemove n (whole_fragments s.geometry.fragment body) (rest_behind s.geometry.fragment body) (closes_remove_none n))) (tt, tt),
    )
asks_none run s (step.Get key request) = inr (tt, (tt, (tt, tt)))
asks_none run s (step.OpenWrite actor key pin request response) = inr (free_none (held_by run actor) (Write _ key request response pin) tt)
asks_none run s (step.Feed actor body) =
    inr (has_none (put_written_by run actor) (feeding run s body) (λ n. fed_none (run.streams n).sealed _
    (cuts_of_writer IsNoRemove n (length (gathered_of run s n ++ body)) s.geometry.fragment (length (cuts_of s n)) (gathered_of run s n ++ body) (writers_remove_none n))))
asks_none run s (step.Close actor) =
    inr (has_none (put_written_by run actor) (closing run s) (λ n. all_of_close IsNoRemove n (length (cuts_of s n)) (gathered_of run s n) (closes_remove_none n)))
asks_none run s (step.Abort actor) = inr (has_none (put_written_by run actor) _ (λ n. (tt, tt)))
asks_none run s (step.OpenRead actor key request) = inr (free_none (held_by run actor) (Look _ key request) tt)
asks_none run s (step.Next actor) = inr (has_none (reader_by run actor) _ (λ n. (tt, tt)))
asks_none run s (step.Done actor) = inr (has_none (reader_by run actor) _ (λ n. (tt, tt)))
asks_none run s step.Flush = inr (tt, tt)
asks_none run s (step.Now moment) = inr tt
asks_none run s (step.Fail nth) = inr tt
asks_none run s (step.StopAfter calls) = inr tt
asks_none run s (step.Flip place byte) = inr tt
asks_none run s (step.Cut choice) = inr tt

-- ---- a removal

remove_stays_never : (s : State) (key : Key) (added : List Rec) (e : End) → Legal.DoesRemove s key added e → e ≡ Stays → ⊥
remove_stays_never s key added e (Legal.DoesRemove.removes row quiet live is) h = cc
remove_stays_never s key added e (Legal.DoesRemove.absent quiet none is) h = cc

-- it was of this key, and this is its answer
abbrev Removal : State → Key → List Rec → ℕ → Key → Type 0
Removal s asks added put key = (asks ≡ key) × (remove_said s asks added ≡ answer.Removed put)

removal_of : (s : State) (asks : Key) (added : List Rec) (e : End) (put : ℕ) (key : Key) → Legal.DoesRemove s asks added e → IsAmong (rec.Removed put key) added → Removal s asks added put key
removal_of s asks added e put key (Legal.DoesRemove.removes row quiet live is) among =
    elim (subst (IsAmong (rec.Removed put key)) is among) [
      | inl same ↦ let keys : key ≡ asks = cc in let puts : put ≡ row.id.put = cc in (sym keys, ap (remove_said s asks) is ∙ ap answer.Removed (sym puts))
      | inr none ↦ absurd none
    ]
removal_of s asks added e put key (Legal.DoesRemove.absent quiet none is) among = absurd (subst (IsAmong (rec.Removed put key)) is among)

pub removal_was_answered : (l : RunLogs) (a : Account l) (lines : List (List ℕ)) (put : ℕ) (key : Key) → RecordsBehind a lines (rec.Removed put key) → HistoryTells a lines (step.Remove key) (answer.Removed put)
removal_was_answered l a lines put key r =
    let h = ends_here (rec.Removed put key) tt a lines r in
    told_by h.on h.tells (asks_none (run_after fresh lines r.did.earlier) h.on.s h.asks)
  where
    told_by : {asks : Step} (on : OnSession (run_after fresh lines r.did.earlier) r.did.turn (run_after fresh lines r.did.earlier).state asks)
        → HistoryTells a lines asks (session_said (run_after fresh lines r.did.earlier) on.s (after_all on.s r.did.turn.added) r.did.turn asks)
        → Removes asks ⊎ AllByRecursion IsNoRemove (asked (run_after fresh lines r.did.earlier) on.s asks) → HistoryTells a lines (step.Remove key) (answer.Removed put)
    told_by on tells (inr none) =
        absurd (is_among IsNotRemoved (rec.Removed put key) r.did.turn.added (all_told IsNoRemove IsNotRemoved removes_only none on.takes.legal.grows) r.among)
    told_by on tells (inl (removes k)) =
        let does = alone r.did.turn.device on.s (Remove k) r.did.turn.added r.did.turn.refused (remove_stays_never on.s k) on.takes.legal.grows in
        let is = removal_of on.s k r.did.turn.added does.0 put key does.1 r.among in
        subst (λ (x : Key). HistoryTells a lines (step.Remove x) (answer.Removed put)) is.0 (subst (HistoryTells a lines (step.Remove k)) is.1 tells)

-- ---- lines that end a put

abbrev Yes : Type 0
Yes = Unit {0}

-- the record says that a put was completed, or given up
abbrev EndsPut : Rec → Type 0
EndsPut (rec.Committed put key size list) = Unit {0}
EndsPut (rec.Aborted put key) = Unit {0}
EndsPut _ = ⊥

abbrev EndsNone : Rec → Type 0
EndsNone (rec.Committed put key size list) = ⊥
EndsNone (rec.Aborted put key) = ⊥
EndsNone _ = Unit {0}

-- it is asked of no put, but that one opens or is cut
abbrev IsIdle : Intent → Type 0
IsIdle (Overflow put) = ⊥
IsIdle (Weigh put rest) = ⊥
IsIdle (Finish put fragments) = ⊥
IsIdle (Commit put) = ⊥
IsIdle (GiveUp put) = ⊥
IsIdle _ = Unit {0}

idle_commits : (put : ℕ) (i : Intent) → IsIdle i → CommitsBy put i → ⊥
idle_commits put (Commit n) idle by = idle
idle_commits put _ idle by = by

idle_aborts : (put : ℕ) (i : Intent) (e : End) → IsIdle i → AbortsBy put i e → ⊥
idle_aborts put (Overflow n) e idle by = idle
idle_aborts put (Weigh n rest) e idle by = idle
idle_aborts put (Finish n fragments) e idle by = idle
idle_aborts put (GiveUp n) e idle by = idle
idle_aborts put _ e idle by = by

idle_ends : (s : State) (i : Intent) (e : End) (r : Rec) → IsIdle i → EndsBy s i e r → EndsNone r
idle_ends s i e (rec.Committed put key size list) idle by = idle_commits put i idle by.0
idle_ends s i e (rec.Aborted put key) idle by = idle_aborts put i e idle by.0
idle_ends s i e _ idle by = tt

ends_clash : (r : Rec) → EndsPut r → EndsNone r → ⊥
ends_clash (rec.Committed put key size list) ends none = none
ends_clash (rec.Aborted put key) ends none = none
ends_clash _ ends none = ends

-- a whole put
module _ (p : Permit) (s : State) (key : Key) (body : List ℕ) (request response : List Field) (none : (w : PutRow) → put_of s s.next_put ≡ Some w → ⊥) (why : Option Reason) where
  abbrev N : ℕ
  N = s.next_put

  abbrev IsKey : Key → Type 0
  IsKey k = k ≡ key

  abbrev Rest : List Intent
  Rest = body_intents s.geometry.fragment N body ++ GiveUp N ∷ []

  abbrev AllTold : List Rec → Type 0
  AllTold recs = AllByRecursion (Told N IsKey Yes Yes Yes (after_all s recs) why) recs

  rest_asked : Asks N IsKey Yes Yes Yes Rest
  rest_asked =
      let feed : List Intent = feed_intents s.geometry.fragment N 0 body in
      let close : List Intent = close_intents N (whole_fragments s.geometry.fragment body) (rest_behind s.geometry.fragment body) in
      subst (Asks N IsKey Yes Yes Yes) (sym (append_assoc feed close (GiveUp N ∷ [])))
      (cuts_asked N IsKey Yes Yes Yes (length body) s.geometry.fragment 0 body (close ++ GiveUp N ∷ []) tt
      (close_asked N IsKey Yes Yes Yes (whole_fragments s.geometry.fragment body) (rest_behind s.geometry.fragment body) (GiveUp N ∷ []) tt ((refl, tt), tt)))

  opened_keyed : (actor : ℕ) (w : PutRow) → cond (N == N) (Some (opened_put actor N key request response 0)) (put_of s N) ≡ Some w → w.key ≡ key
  opened_keyed actor w found =
      let new : PutRow = opened_put actor N key request response 0 in
      sym (ap (λ (x : PutRow). x.key) (same_some new w (Some new) refl (sym (value_here (Some new) (put_of s N) N N refl) ∙ found)))

  refused_first : (reason : Reason) (first tail : List Rec) → first ≡ []
      → MayGrow p (after_all s first) (record { intents = filter is_cleanup Rest; refused = Some reason }) tail (record { intents = []; refused = why }) → AllTold (first ++ tail)
  refused_first reason first tail is grows =
      let not : IsNotOpen (after_all s first) N = subst (λ recs. IsNotOpen (after_all s recs) N) (sym is) (λ w found writing. none w found) in
      let g = none_given N IsKey Yes Yes Yes (left_over N IsKey Yes Yes Yes Rest rest_asked) not grows in
      subst AllTold (sym (ap (λ recs. recs ++ tail) is ∙ g.1)) tt

  by_write : (first tail : List Rec) (e : End) → Legal.DoesWrite s 0 key request response 0 first e
      → MayGrow p (after_all s first) (work_after (Write 0 key request response 0) Rest None e) tail (record { intents = []; refused = why }) → AllTold (first ++ tail)
  by_write first tail e (Legal.DoesWrite.opens m) grows =
      let end : Work = record { intents = []; refused = why } in
      subst (λ recs. MayGrow p (after_all s recs) (to_do Rest) tail end → AllTold (recs ++ tail)) (sym m.is)
      (λ goes. (tt, course N IsKey Yes Yes Yes rest_asked (opened_keyed m.who.0) goes)) grows
  by_write first tail e (Legal.DoesWrite.many q m is) grows = refused_first _ first tail is grows
  by_write first tail e (Legal.DoesWrite.exhausted q m below is) grows = refused_first _ first tail is grows

  put_told : (added : List Rec) → IsStep p s (put_intents s key body request response) added why → AllTold added
  put_told added legal =
      let f : First p s (Write 0 key request response 0) Rest None added why = first_of p s (Write 0 key request response 0) Rest None why added legal.grows in
      subst AllTold (sym f.split) (by_write f.added f.rest f.end f.does f.behind)

module _ (run : Run) (s : State) (turn : Turn) (none : (w : PutRow) → put_of s s.next_put ≡ Some w → ⊥) (told : Rec) (ends : EndsPut told) (among : IsAmong told turn.added) where
  abbrev T : State
  T = after_all s turn.added

  -- a line that ends a put, what it recorded of that, and its answer
  data Puts : Step → StepAnswer → Type 0 where
    whole : (key : Key) (body : List ℕ) (request response : List Field) → Told s.next_put (λ k. k ≡ key) Yes Yes Yes T turn.refused told
        → Puts (step.Put key body request response) (said T None turn.refused (put_said T s.next_put))
    feeds : (name body : List ℕ) (n : ℕ) → put_written_by run name ≡ Some n → Told n (IsOfKey s n) Yes ⊥ ⊥ T turn.refused told
        → Puts (step.Feed name body) (said T (Some (took_of run T n)) turn.refused (answer.Took (length body)))
    closes : (name : List ℕ) (n : ℕ) → put_written_by run name ≡ Some n → Told n (IsOfKey s n) ⊥ Yes ⊥ T turn.refused told → Puts (step.Close name) (said T None turn.refused (put_said T n))
    aborts : (name : List ℕ) (n : ℕ) → put_written_by run name ≡ Some n → IsGivenUp n (IsOfKey s n) ⊥ ⊥ Yes told → Puts (step.Abort name) (answer.Aborted n)

  nothing_asked : IsStep turn.device s [] turn.added turn.refused → ⊥
  nothing_asked legal = subst (IsAmong told) (none_left turn.device s None turn.added _ legal.grows).0 among

  idle_asked : (is : List Intent) → AllByRecursion IsIdle is → IsStep turn.device s is turn.added turn.refused → ⊥
  idle_asked is idle legal = ends_clash told ends (is_among EndsNone told turn.added (all_told IsIdle EndsNone idle_ends idle legal.grows) among)

  free_idle : (o : Option Holding) (i : Intent) → IsIdle i → IsStep turn.device s (asks_if_free o (i ∷ [])) turn.added turn.refused → ⊥
  free_idle None i idle legal = idle_asked (i ∷ []) (idle, tt) legal
  free_idle (Some holding) i idle legal = nothing_asked legal

  has_idle : (o : Option ℕ) (i : ℕ → Intent) → ((n : ℕ) → IsIdle (i n)) → IsStep turn.device s (asks_if_has o (λ n. i n ∷ [])) turn.added turn.refused → ⊥
  has_idle None i idle legal = nothing_asked legal
  has_idle (Some n) i idle legal = idle_asked (i n ∷ []) (idle n, tt) legal

  fed : (name body : List ℕ) (n : ℕ) (b : Bool) → put_written_by run name ≡ Some n
      → IsStep turn.device s (if b then [] else feed_intents s.geometry.fragment n (length (cuts_of s n)) (gathered_of run s n ++ body)) turn.added turn.refused
      → Puts (step.Feed name body) (if b then answer.Refused refused.Sealed (Some 0) else said T (Some (took_of run T n)) turn.refused (answer.Took (length body)))
  fed name body n true writes legal = absurd (nothing_asked legal)
  fed name body n false writes legal =
      let bytes : List ℕ = gathered_of run s n ++ body in
      let is : List Intent = feed_intents s.geometry.fragment n (length (cuts_of s n)) bytes in
      let all : Asks n (IsOfKey s n) Yes ⊥ ⊥ is =
      subst (Asks n (IsOfKey s n) Yes ⊥ ⊥) (append-nil is) (cuts_asked n (IsOfKey s n) Yes ⊥ ⊥ (length bytes) s.geometry.fragment (length (cuts_of s n)) bytes [] tt tt) in
      feeds name body n writes (is_among (Told n (IsOfKey s n) Yes ⊥ ⊥ T turn.refused) told turn.added (course n (IsOfKey s n) Yes ⊥ ⊥ all (λ w found. (w, found, refl)) legal.grows) among)

  feed_by : (name body : List ℕ) (o : Option ℕ) → put_written_by run name ≡ o → IsStep turn.device s (asks_if_has o (feeding run s body)) turn.added turn.refused
      → Puts (step.Feed name body) (has_said o (feed_said run T body turn.refused))
  feed_by name body None writes legal = absurd (nothing_asked legal)
  feed_by name body (Some n) writes legal = fed name body n (run.streams n).sealed writes legal

  close_by : (name : List ℕ) (o : Option ℕ) → put_written_by run name ≡ o → IsStep turn.device s (asks_if_has o (closing run s)) turn.added turn.refused
      → Puts (step.Close name) (has_said o (λ put. said T None turn.refused (put_said T put)))
  close_by name None writes legal = absurd (nothing_asked legal)
  close_by name (Some n) writes legal =
      let is : List Intent = closing run s n in
      let all : Asks n (IsOfKey s n) ⊥ Yes ⊥ is = subst (Asks n (IsOfKey s n) ⊥ Yes ⊥) (append-nil is) (close_asked n (IsOfKey s n) ⊥ Yes ⊥ (length (cuts_of s n)) (gathered_of run s n) [] tt tt) in
      closes name n writes (is_among (Told n (IsOfKey s n) ⊥ Yes ⊥ T turn.refused) told turn.added (course n (IsOfKey s n) ⊥ Yes ⊥ all (λ w found. (w, found, refl)) legal.grows) among)

  abort_by : (name : List ℕ) (o : Option ℕ) → put_written_by run name ≡ o → IsStep turn.device s (asks_if_has o (λ put. GiveUp put ∷ [])) turn.added turn.refused
      → Puts (step.Abort name) (has_said o answer.Aborted)
  abort_by name None writes legal = absurd (nothing_asked legal)
  abort_by name (Some n) writes legal =
      aborts name n writes (is_among (IsGivenUp n (IsOfKey s n) ⊥ ⊥ Yes) told turn.added (all_given n (IsOfKey s n) ⊥ ⊥ Yes ((refl, tt), tt) (λ w found. (w, found, refl)) legal.grows).1 among)

  puts_of : (asks : Step) → IsStep turn.device s (asked run s asks) turn.added turn.refused → Puts asks (session_said run s T turn asks)
  puts_of (step.Put key body request response) legal =
      whole key body request response (is_among (Told s.next_put (λ k. k ≡ key) Yes Yes Yes T turn.refused) told turn.added (put_told turn.device s key body request response none turn.refused turn.added legal) among)
  puts_of (step.Feed name body) legal = feed_by name body (put_written_by run name) refl legal
  puts_of (step.Close name) legal = close_by name (put_written_by run name) refl legal
  puts_of (step.Abort name) legal = abort_by name (put_written_by run name) refl legal
  puts_of (step.Format name segments buckets content agg reach fragment generation alternates) legal = absurd (nothing_asked legal)
  puts_of (step.Get key request) legal = absurd (idle_asked _ (tt, (tt, (tt, tt))) legal)
  puts_of (step.OpenWrite actor key pin request response) legal = absurd (free_idle (held_by run actor) _ tt legal)
  puts_of (step.OpenRead actor key request) legal = absurd (free_idle (held_by run actor) _ tt legal)
  puts_of (step.Next actor) legal = absurd (has_idle (reader_by run actor) _ (λ n. tt) legal)
  puts_of (step.Done actor) legal = absurd (has_idle (reader_by run actor) _ (λ n. tt) legal)
  puts_of (step.Remove key) legal = absurd (idle_asked _ (tt, tt) legal)
  puts_of step.Flush legal = absurd (idle_asked _ (tt, tt) legal)
  puts_of (step.Now moment) legal = absurd (nothing_asked legal)
  puts_of (step.Fail nth) legal = absurd (nothing_asked legal)
  puts_of (step.StopAfter calls) legal = absurd (nothing_asked legal)
  puts_of (step.Flip place byte) legal = absurd (nothing_asked legal)
  puts_of (step.Cut choice) legal = absurd (nothing_asked legal)

-- ---- completed

completed_said : (t : State) (n : ℕ) (why : Option Reason) (put size : ℕ) → put ≡ n → why ≡ None → total_length (cuts_of t n) ≡ size
    → said t None why (put_said t n) ≡ answer.Put put size (length (cuts_of t n))
completed_said t n why put size same allowed sized =
    ap (λ x. said t None x (put_said t n)) allowed ∙ (ap (λ m. answer.Put n m (length (cuts_of t n))) sized ∙ ap (λ m. answer.Put m size (length (cuts_of t n))) (sym same))

-- no put has the next number
next_is_none : (law : LegalIsKept) (lines : List (List ℕ)) (turns : List Turn) (s : State) → IsRun fresh lines turns → (run_after fresh lines turns).state ≡ Some s → (w : PutRow) → put_of s s.next_put ≡ Some w → ⊥
next_is_none law lines turns s legal state w found =
    let begun : w.put < s.next_put = ((kept_here law lines turns s legal state).0.kept.puts s.next_put w found).begun in
    omega (arith, begun, number_of s s.next_put w found)

module _ {l : RunLogs} (a : Account l) (lines : List (List ℕ)) (run : Run) (s : State) (turn : Turn) (none : (w : PutRow) → put_of s s.next_put ≡ Some w → ⊥) (put : ℕ) (key : Key) (state : run.state ≡ Some s) where
  abbrev Behind : State
  Behind = after_all s turn.added

  writer : (name : List ℕ) (n : ℕ) → put_written_by run name ≡ Some n → put ≡ n → IsOfKey s n key → ActorWrites run name key put
  writer name n writes same of = record {
    writes = writes ∙ ap Some (sym same);
    s = s;
    state = state;
    row = of.0;
    found = subst (λ m. put_of s m ≡ Some of.0) (sym same) of.1;
    key_is = of.2;
  }

  takes_next : put ≡ s.next_put → TakesNext run put
  takes_next same = record { s = s; state = state; next = sym same }

  module _ (size : ℕ) (list : List Stored) (among : IsAmong (rec.Committed put key size list) turn.added) where
    completed_by : {asks : Step} {says : StepAnswer} → HistoryTells a lines asks says → Puts run s turn none (rec.Committed put key size list) tt among asks says → WasCompleted a lines run key put size
    completed_by tells (whole k body request response c) = record {
      asks = step.Put k body request response;
      completes = subst (λ x. AsksToComplete run x put (step.Put k body request response)) (sym c.keyed) (Answered.AsksToComplete.puts body request response (takes_next c.put_is));
      fragments = length (cuts_of Behind s.next_put);
      tells = subst (HistoryTells a lines (step.Put k body request response)) (completed_said Behind s.next_put turn.refused put size c.put_is c.allowed c.sized) tells;
    }
    completed_by tells (feeds name body n writes c) = absurd c.closes
    completed_by tells (closes name n writes c) = record {
      asks = step.Close name;
      completes = Answered.AsksToComplete.closes name (writer name n writes c.put_is c.keyed);
      fragments = length (cuts_of Behind n);
      tells = subst (HistoryTells a lines (step.Close name)) (completed_said Behind n turn.refused put size c.put_is c.allowed c.sized) tells;
    }
    completed_by tells (aborts name n writes c) = absurd c

  -- ---- given up

  unclosable : (n : ℕ) (Q : Key → Type 0) (t : State) (reason : Reason) → IsWhy n Q ⊥ Yes ⊥ reason → IsUnclosable (refusal_said t None reason)
  unclosable n Q t (TooLarge m bytes) fits = Answered.IsUnclosable.large bytes
  unclosable n Q t (Lost m index) fits = Answered.IsUnclosable.lost index (cause_of_lost t m index)
  unclosable n Q t _ fits = absurd fits

  unstorable : (n : ℕ) (Q : Key → Type 0) (t : State) (reason : Reason) → IsWhy n Q Yes Yes Yes reason → IsUnstorable (refusal_said t None reason)
  unstorable n Q t (TooLarge m bytes) fits = Answered.IsUnstorable.unclosable _ (Answered.IsUnclosable.large bytes)
  unstorable n Q t (Lost m index) fits = Answered.IsUnstorable.unclosable _ (Answered.IsUnclosable.lost index (cause_of_lost t m index))
  unstorable n Q t (ManyFragments m) fits = Answered.IsUnstorable.fragments
  unstorable n Q t Exhausted fits = Answered.IsUnstorable.exhausted
  unstorable n Q t (Faulted count) fits = Answered.IsUnstorable.faulted count
  unstorable n Q t _ fits = absurd fits

  feed_gives : (name body : List ℕ) (n took : ℕ) (t : State) (reason : Reason) → ActorWrites run name key put → IsWhy n (IsOfKey s n) Yes ⊥ ⊥ reason
      → GivesUpSo run key put (step.Feed name body) (refusal_said t (Some took) reason)
  feed_gives name body n took t (ManyFragments m) writes fits = Answered.GivesUpSo.feeds name body took writes
  feed_gives name body n took t _ writes fits = absurd fits

  module _ (among : IsAmong (rec.Aborted put key) turn.added) where
    given_up_by : {asks : Step} {says : StepAnswer} → Puts run s turn none (rec.Aborted put key) tt among asks says → GivesUpSo run key put asks says
    given_up_by (whole k body request response c) =
        subst (λ x. GivesUpSo run x put (step.Put k body request response) (said Behind None turn.refused (put_said Behind s.next_put))) (sym c.keyed)
        (Answered.GivesUpSo.puts body request response _ (takes_next c.put_is)
        (subst (λ x. IsUnstorable (said Behind None x (put_said Behind s.next_put))) (sym c.is) (unstorable s.next_put (λ x. x ≡ k) Behind c.reason c.fits)))
    given_up_by (feeds name body n writes c) =
        subst (λ x. GivesUpSo run key put (step.Feed name body) (said Behind (Some (took_of run Behind n)) x (answer.Took (length body)))) (sym c.is)
        (feed_gives name body n (took_of run Behind n) Behind c.reason (writer name n writes c.put_is c.keyed) c.fits)
    given_up_by (closes name n writes c) =
        Answered.GivesUpSo.closes name _ (writer name n writes c.put_is c.keyed)
        (subst (λ x. IsUnclosable (said Behind None x (put_said Behind n))) (sym c.is) (unclosable n (IsOfKey s n) Behind c.reason c.fits))
    given_up_by (aborts name n writes c) =
        subst (λ m. GivesUpSo run key put (step.Abort name) (answer.Aborted m)) c.0 (Answered.GivesUpSo.aborts name (writer name n writes c.0 c.1.0))

-- ---- the laws

pub completed_was_answered : (law : LegalIsKept) (l : RunLogs) (a : Account l) (lines : List (List ℕ)) (put : ℕ) (key : Key) (size : ℕ) (list : List Stored)
    → (r : RecordsBehind a lines (rec.Committed put key size list)) → WasCompleted a lines (run_after fresh lines r.did.earlier) key put size
completed_was_answered law l a lines put key size list r =
    let run : Run = run_after fresh lines r.did.earlier in
    let h = ends_here (rec.Committed put key size list) tt a lines r in
    let none = next_is_none law lines r.did.earlier h.on.s r.did.legal h.on.state in
    completed_by a lines run h.on.s r.did.turn none put key h.on.state size list r.among h.tells
    (puts_of run h.on.s r.did.turn none (rec.Committed put key size list) tt r.among h.asks h.on.takes.legal)

pub giving_up_was_answered : (law : LegalIsKept) (l : RunLogs) (a : Account l) (lines : List (List ℕ)) (put : ℕ) (key : Key)
    → (r : RecordsBehind a lines (rec.Aborted put key)) → WasGivenUpSo a lines (run_after fresh lines r.did.earlier) key put
giving_up_was_answered law l a lines put key r =
    let run : Run = run_after fresh lines r.did.earlier in
    let h = ends_here (rec.Aborted put key) tt a lines r in
    let none = next_is_none law lines r.did.earlier h.on.s r.did.legal h.on.state in
    record {
      asks = h.asks;
      said = session_said run h.on.s (after_all h.on.s r.did.turn.added) r.did.turn h.asks;
      gives = given_up_by a lines run h.on.s r.did.turn none put key h.on.state r.among
          (puts_of run h.on.s r.did.turn none (rec.Aborted put key) tt r.among h.asks h.on.takes.legal);
      tells = h.tells;
    }

-- ---- a line that another law names

module _ (l : RunLogs) (a : Account l) where
  given_up_told : (law : LegalIsKept) (lines : List (List ℕ)) (put : ℕ) (key : Key) (told : Rec) → told ≡ rec.Aborted put key → (r : RecordsBehind a lines told)
      → WasGivenUpSo a lines (run_after fresh lines r.did.earlier) key put
  given_up_told law lines put key told same r =
      giving_up_was_answered law l a lines put key
      (record { bytes = r.bytes; later = r.later; lines_are = r.lines_are; did = r.did; among = subst (λ (x : Rec). IsAmong x r.did.turn.added) same r.among })

  put_told_so : (law : LegalIsKept) (lines : List (List ℕ)) (key : Key) (put : ℕ) (told : Rec) → CompletesPut key put told → (r : RecordsBehind a lines told)
      → WasPut a lines (run_after fresh lines r.did.earlier) key put
  put_told_so law lines key put (rec.Committed n k size list) c r =
      let run : Run = run_after fresh lines r.did.earlier in
      (size, subst (λ (x : Key). WasCompleted a lines run x put size) c.1 (subst (λ m. WasCompleted a lines run k m size) c.0 (completed_was_answered law l a lines n k size list r)))
  put_told_so law lines key put _ c r = absurd c

  closed_told : (law : LegalIsKept) (lines : List (List ℕ)) (put : ℕ) (told : Rec) → ClosesPut put told → (r : RecordsBehind a lines told)
      → (key : Key) × WasPut a lines (run_after fresh lines r.did.earlier) key put
  closed_told law lines put (rec.Committed n k size list) c r = (k, put_told_so law lines k put (rec.Committed n k size list) (c, refl) r)
  closed_told law lines put _ c r = absurd c

  gave_up_told : (law : LegalIsKept) (lines : List (List ℕ)) (put : ℕ) (told : Rec) → GivesUpPut put told → (r : RecordsBehind a lines told)
      → (key : Key) × WasGivenUpSo a lines (run_after fresh lines r.did.earlier) key put
  gave_up_told law lines put (rec.Aborted n k) c r =
      let run : Run = run_after fresh lines r.did.earlier in
      (k, subst (λ m. WasGivenUpSo a lines run k m) c (giving_up_was_answered law l a lines n k r))
  gave_up_told law lines put _ c r = absurd c

  module _ (lines : List (List ℕ)) (asks : Step) (says : StepAnswer) (at : HistoryTells a lines asks says) (did : DidBefore a.turns lines) where
    -- it recorded it, behind those before it
    abbrev recorded_behind : {Says : Rec → Type 0} (h : HasRecorded Says lines did.earlier) → RecordsBehind a h.before h.told
    recorded_behind h = record {
      bytes = h.bytes;
      later = h.later ++ at.bytes ∷ at.later;
      lines_are = at.lines_are ∙ (ap (λ (xs : List (List ℕ)). xs ++ at.bytes ∷ at.later) h.lines_are ∙ append_assoc h.before (h.bytes ∷ h.later) (at.bytes ∷ at.later));
      did = record {
        earlier = h.earlier;
        turn = h.turn;
        later = h.rest ++ did.turn ∷ did.later;
        turns_are = did.turns_are ∙ (ap (λ (ts : List Turn). ts ++ did.turn ∷ did.later) h.turns_are ∙ append_assoc h.earlier (h.turn ∷ h.rest) (did.turn ∷ did.later));
        legal = h.legal;
      };
      among = h.among;
    }

    pub removal_answered : (put : ℕ) (key : Key) (h : HasRecorded (λ told. told ≡ rec.Removed put key) lines did.earlier) → HistoryTells a h.before (step.Remove key) (answer.Removed put)
    removal_answered put key h = removal_was_answered l a h.before put key (subst (RecordsBehind a h.before) h.tells (recorded_behind h))

    pub giving_up_answered : (law : LegalIsKept) (put : ℕ) (key : Key) (h : HasRecorded (λ told. told ≡ rec.Aborted put key) lines did.earlier)
        → WasGivenUpSo a h.before (run_after fresh h.before h.earlier) key put
    giving_up_answered law put key h = given_up_told law h.before put key h.told h.tells (recorded_behind h)

    pub abort_answered : (law : LegalIsKept) (put : ℕ) (h : HasRecorded (GivesUpPut put) lines did.earlier)
        → (key : Key) × WasGivenUpSo a h.before (run_after fresh h.before h.earlier) key put
    abort_answered law put h = gave_up_told law h.before put h.told h.tells (recorded_behind h)

    pub put_answered : (law : LegalIsKept) (key : Key) (put : ℕ) (h : HasRecorded (CompletesPut key put) lines did.earlier) → WasPut a h.before (run_after fresh h.before h.earlier) key put
    put_answered law key put h = put_told_so law h.before key put h.told h.tells (recorded_behind h)

    pub closed_answered : (law : LegalIsKept) (put : ℕ) (h : HasRecorded (ClosesPut put) lines did.earlier) → (key : Key) × WasPut a h.before (run_after fresh h.before h.earlier) key put
    closed_answered law put h = closed_told law h.before put h.told h.tells (recorded_behind h)
