-- Removals and flushes as lines on a part.
use Rattle.std.proofs.Common.{◌≡◌, ℕ, List, [], ◌∷◌, refl, sym, ◌∙◌, ap, subst, arith, inl, length, Result, Ok, Err}
use Rattle.std.specs.Prelude.{IfErr, IfOk, Option, Some, None}
use Rattle.std.specs.List.{AllByRecursion}
use Rattle.tape_base.specs.declared.keys.Key.{Key}
use Rattle.cache_model.specs.declared.cause.Cause.{Cause}
use Rattle.cache_model.specs.declared.record.Rec.{Rec}
use Rattle.cache_model.specs.declared.record.Rec.TheVariants as rec
use Rattle.cache_model.specs.State.{State, floor_now}
use Rattle.cache_model.specs.Kept.{state_of}
use Rattle.cache_model.specs.Permit.{Exhausted, Faulted, Flush, Reason, Remove}
use Rattle.cache_model.specs.Vectors.{AreTold}
use Rattle.cache_model.specs.Verdict.{cause_of_miss}
use Rattle.cache_model.specs.Contents.{AnyContents}
use Rattle.call_laws.specs.Moments.{At, NothingKnown}
use Rattle.call_laws.specs.Progress.{AllDone, EndsWith, Progress, Stops}
use Rattle.call_laws.specs.Progress.EndsWith.{in_full, refused as stopped}
use Rattle.call_laws.specs.Serves.{ServesTold}
use Rattle.call_laws.proofs.Joined.{nothing_more}
use Rattle.cache_calls.specs.declared.calls.Calls.{Ghosts as CallsGhosts}
use Rattle.cache_answers.specs.declared.answers.Flushed.{Flushed}
use Rattle.cache_answers.specs.declared.answers.Refusal.{Refusal}
use Rattle.cache_answers.specs.declared.answers.Refusal.TheVariants as refusal
use Rattle.cache_model.specs.Subjects.{IsOfFlush, IsOfPut}
use Rattle.cache_calls.specs.Adds.{AddsAll, AddsSoundly, IsAsItWas}
use Rattle.cache_calls.specs.Asked.{progress_at}
use Rattle.cache_calls.specs.Keeping.{IsAtRest, KeepsUnharmed, state_at}
use Rattle.cache_calls.specs.Plain.{FlushesAs, TellsFlushed}
use Rattle.cache_calls.specs.Standing.{StaysStanding}
use Rattle.script_grammar.specs.declared.step.Step.{Step}
use Rattle.script_grammar.specs.declared.step.Step.TheVariants as step
use Rattle.script_grammar.specs.declared.answer.StepAnswer.{StepAnswer}
use Rattle.script_grammar.specs.declared.answer.StepAnswer.TheVariants as answer
use Rattle.script_run.specs.Run.{Run}
use Rattle.script_run.specs.Answers.{remove_said}
use Rattle.script_run.specs.Own.{AreOwn}
use Rattle.cache_replay.specs.declared.session.Part.{Part}
use Rattle.cache_replay.specs.declared.stop.Stop.{Stop}
use Rattle.cache_replay.specs.declared.stop.Stop.TheVariants.{Memory}
use Rattle.cache_replay.specs.Session.{AnswerTellsCount, IsPart, LeavesBut, at_in, state_in_part}
use Rattle.line_calls.specs.Moves.{MovesOrShows}
use Rattle.cache_replay.specs.OneLine.{AnswersPlainly}
use Rattle.line_calls.specs.Standing.{OwnStands}
use Rattle.run_promise.specs.Outline.{count_of_cause}
use Rattle.cache_replay.specs.Replies.{flush_refused}
use Rattle.cache_replay.proofs.Counts.{miss_counts}
use Rattle.cache_replay.proofs.Frames.{any_leaves, leaves_all, part_behind, same_added}
use Rattle.line_calls.proofs.Whole.{moves_line, serves_whole}

module _ {S W R : Type 0} {c : CallsGhosts S W R} where
  -- ---- in general

  -- a line that is one call
  pub one_call : (now : ℕ) (step : Step) (old new : Part S W R c) (result : Result StepAnswer Stop) → IsPart old → KeepsUnharmed c.at c.holds old.cache new.cache
      → IsAtRest (at_in new) → LeavesBut None None (state_in_part old) (state_in_part new) → length new.page.items ≡ length old.page.items
      → StaysStanding c.stands AnyContents old.cache new.cache
      → IfOk result (λ said. (run : Run) → run.now ≡ now → AreTold (state_in_part old) → MovesOrShows run step (at_in old) (at_in new) said)
      → IfOk result (AnswerTellsCount (Some new)) → IfErr result (λ why. why ≡ Memory)
      → AnswersPlainly now step None None old new result
  one_call now step old new result part keeps rest leaves page stands ends counts stop = record {
    part = part_behind old new part keeps.goes_on rest page None None leaves;
    goes = keeps.goes_on;
    leaves = leaves;
    stands = λ contents told before. stands contents tt before;
    ends = whoever result ends;
    unharmed = λ run moment told own before. inl keeps.unharmed;
    counts = counts;
    stop = stop;
  }
    where
      whoever : (given : Result StepAnswer Stop) → IfOk given (λ said. (run : Run) → run.now ≡ now → AreTold (state_in_part old) → MovesOrShows run step (at_in old) (at_in new) said)
          → IfOk given (λ said. (run : Run) → run.now ≡ now → AreTold (state_in_part old) → AreOwn (state_in_part old) run.streams
          → OwnStands run.streams (state_in_part old) (c.stands old.cache) → MovesOrShows run step (at_in old) (at_in new) said)
      whoever (Ok said) h = λ run moment told own before. h run moment told
      whoever (Err why) h = tt

  -- ---- removals

  removes : (now : ℕ) (old new : Part S W R c) (key : Key) (added : List Rec) (said : StepAnswer) → IsPart old → IsAtRest (at_in new)
      → ServesTold now (at_in old) (at_in new) (Remove key ∷ []) AllDone → AddsAll added (at_in old) (at_in new)
      → remove_said (state_in_part old) key added ≡ said
      → (run : Run) → run.now ≡ now → AreTold (state_in_part old) → MovesOrShows run (step.Remove key) (at_in old) (at_in new) said
  removes now old new key added said part rest serves adds says run moment told =
      let w = serves_whole None in_full part.plain rest.quiet told serves in
      moves_line run (step.Remove key) (at_in old) (at_in new) now part.plain moment {known = NothingKnown} (Remove key ∷ []) None [] said refl refl w refl
      (λ known. ap (remove_said (state_in_part old) key)
      (same_added (at_in old).kept (at_in new).kept w.added added w.happens.adds adds) ∙ says)

  -- an object was removed
  pub removed : (now : ℕ) (old new : Part S W R c) (key : Key) (put : ℕ) → IsPart old → KeepsUnharmed c.at c.holds old.cache new.cache → IsAtRest (at_in new)
      → length new.page.items ≡ length old.page.items → StaysStanding c.stands AnyContents old.cache new.cache
      → ServesTold now (at_in old) (at_in new) (Remove key ∷ []) AllDone → AddsAll (rec.Removed put key ∷ []) (at_in old) (at_in new)
      → AnswersPlainly now (step.Remove key) None None old new (Ok (answer.Removed put))
  removed now old new key put part keeps rest page stands serves adds =
      one_call now (step.Remove key) old new (Ok (answer.Removed put)) part keeps rest
      (any_leaves (at_in old) (at_in new) (λ q. record { added = rec.Removed put key ∷ []; adds = adds; own = (tt, tt) })) page stands
      (removes now old new key (rec.Removed put key ∷ []) (answer.Removed put) part rest serves adds refl) (omega arith) tt

  -- there was none
  pub absent : (now : ℕ) (old new : Part S W R c) (key : Key) (why : Cause) → IsPart old → KeepsUnharmed c.at c.holds old.cache new.cache → IsAtRest (at_in new)
      → length new.page.items ≡ length old.page.items → StaysStanding c.stands AnyContents old.cache new.cache
      → ServesTold now (at_in old) (at_in new) (Remove key ∷ []) AllDone → IsAsItWas (at_in old) (at_in new) → why ≡ cause_of_miss (state_in_part old) key
      → AnswersPlainly now (step.Remove key) None None old new (Ok (answer.Absent why))
  absent now old new key why part keeps rest page stands serves same is =
      one_call now (step.Remove key) old new (Ok (answer.Absent why)) part keeps rest
      (leaves_all None None (state_in_part old) (state_in_part new) (ap state_of same)) page stands
      (removes now old new key [] (answer.Absent why) part rest serves (same ∙ nothing_more (at_in old).kept) (ap answer.Absent (sym is)))
      (omega (arith, ap count_of_cause is ∙ miss_counts (state_in_part old) key part.losses)) tt

  -- memory was wanting
  pub unremoved : (now : ℕ) (old new : Part S W R c) (key : Key) → IsPart old → KeepsUnharmed c.at c.holds old.cache new.cache → IsAtRest (at_in new)
      → length new.page.items ≡ length old.page.items → StaysStanding c.stands AnyContents old.cache new.cache
      → IsAsItWas (at_in old) (at_in new)
      → AnswersPlainly now (step.Remove key) None None old new (Err Memory)
  unremoved now old new key part keeps rest page stands same =
      one_call now (step.Remove key) old new (Err Memory) part keeps rest
      (leaves_all None None (state_in_part old) (state_in_part new) (ap state_of same)) page stands tt tt refl

-- ---- flushes

of_any : (put : ℕ) (r : Rec) → IsOfFlush r → IsOfPut put r
of_any put (rec.Began cursor floor) h = tt
of_any put (rec.Moved piece from place digest) h = tt
of_any put (rec.Unsaved piece place fault) h = tt
of_any put (rec.Damaged piece place kept found) h = tt
of_any put (rec.Fault count) h = tt
of_any put _ h = absurd h

all_of_any : (put : ℕ) (recs : List Rec) → AllByRecursion IsOfFlush recs → AllByRecursion (IsOfPut put) recs
all_of_any put [] h = tt
all_of_any put (r ∷ recs) h = (of_any put r h.0, all_of_any put recs h.1)

pub flush_leaves : (old new : At) → AddsSoundly IsOfFlush old new → LeavesBut None None (state_at old) (state_at new)
flush_leaves old new h = any_leaves old new (λ put. record { added = h.added; adds = h.adds; own = all_of_any put h.added h.own })

-- what a flush answers
abbrev pub flush_answer : Result Flushed Refusal → Result StepAnswer Stop
flush_answer (Ok flushed) = Ok (answer.Flushed flushed.blocks flushed.cursor flushed.floor None)
flush_answer (Err why) = flush_refused why

flushed_is : (s t : State) (flushed : Flushed) → TellsFlushed s t flushed → answer.Flushed s.filled t.cursor (floor_now t) None ≡ answer.Flushed flushed.blocks flushed.cursor
    flushed.floor None
flushed_is s t flushed tells =
    ap (λ n. answer.Flushed n t.cursor (floor_now t) None) (sym tells.blocks)
    ∙ (ap (λ n. answer.Flushed flushed.blocks n (floor_now t) None) (sym tells.cursor) ∙ ap (λ n. answer.Flushed flushed.blocks flushed.cursor n None) (sym tells.floor))

module _ {S W R : Type 0} {c : CallsGhosts S W R} (now : ℕ) (old new : Part S W R c) (part : IsPart old) (rest : IsAtRest (at_in new)) where
  flush_moves : (o : Progress) (why : Option Reason) (said : StepAnswer) → EndsWith o why → ServesTold now (at_in old) (at_in new) (Flush ∷ []) o
      → Rattle.script_run.specs.Answers.flush_said (state_in_part old) (state_in_part new) why ≡ said
      → (run : Run) → run.now ≡ now → AreTold (state_in_part old) → MovesOrShows run step.Flush (at_in old) (at_in new) said
  flush_moves o why said ends serves says run moment told =
      moves_line run step.Flush (at_in old) (at_in new) now part.plain moment {known = NothingKnown} (Flush ∷ []) why [] said refl refl
      (serves_whole why ends part.plain rest.quiet told serves) refl (λ known. says)

  flush_ends : (result : Result Flushed Refusal) → ServesTold now (at_in old) (at_in new) (Flush ∷ []) (progress_at 0 (Flush ∷ []) result)
      → FlushesAs (at_in old) (at_in new) result
      → IfOk (flush_answer result) (λ said. (run : Run) → run.now ≡ now → AreTold (state_in_part old) → MovesOrShows run step.Flush (at_in old) (at_in new) said)
  flush_ends (Ok flushed) serves gives = flush_moves AllDone None _ in_full serves (flushed_is (state_in_part old) (state_in_part new) flushed gives.0)
  flush_ends (Err (refusal.DeviceFault count)) serves gives = flush_moves (Stops (Faulted count)) (Some (Faulted count)) _ (stopped (Faulted count)) serves refl
  flush_ends (Err (refusal.Exhausted number)) serves gives = flush_moves (Stops Exhausted) (Some Exhausted) _ (stopped Exhausted) serves refl
  flush_ends (Err _) serves gives = tt

  flush_counts : (result : Result Flushed Refusal) → FlushesAs (at_in old) (at_in new) result → IfOk (flush_answer result) (AnswerTellsCount (Some new))
  flush_counts (Ok flushed) gives = omega arith
  flush_counts (Err (refusal.DeviceFault count)) gives = let is : count ≡ (at_in new).device.faults = gives.count_is in omega (arith, is)
  flush_counts (Err (refusal.Exhausted number)) gives = omega arith
  flush_counts (Err _) gives = tt

  flush_stops : (result : Result Flushed Refusal) → IfErr (flush_answer result) (λ why. why ≡ Memory)
  flush_stops (Ok flushed) = tt
  flush_stops (Err (refusal.DeviceFault count)) = tt
  flush_stops (Err (refusal.Exhausted number)) = tt
  flush_stops (Err _) = refl

  pub flushes : (result : Result Flushed Refusal) (said : Result StepAnswer Stop) → said ≡ flush_answer result
      → KeepsUnharmed c.at c.holds old.cache new.cache → length new.page.items ≡ length old.page.items
      → StaysStanding c.stands AnyContents old.cache new.cache
      → ServesTold now (at_in old) (at_in new) (Flush ∷ []) (progress_at 0 (Flush ∷ []) result) → FlushesAs (at_in old) (at_in new) result
      → AddsSoundly IsOfFlush (at_in old) (at_in new) → AnswersPlainly now step.Flush None None old new said
  flushes result said is keeps page stands serves gives adds =
      subst (AnswersPlainly now step.Flush None None old new) (sym is)
      (one_call now step.Flush old new (flush_answer result) part keeps rest (flush_leaves (at_in old) (at_in new) adds) page stands
      (flush_ends result serves gives) (flush_counts result gives) (flush_stops result))
