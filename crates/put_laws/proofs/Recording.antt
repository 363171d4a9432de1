-- A line that is answered that a put was completed, removed or given up recorded that.
use Rattle.std.proofs.Common.{◌≡◌, ℕ, List, [], ◌∷◌, ◌++◌, length, Bool, true, false, refl, sym, ◌∙◌, ap, subst, arith, inl, inr, ◌⊎◌}
use Rattle.std.specs.Prelude.{Option, Some, None, if◌then◌else◌}
use Rattle.std.proofs.lemmas.List.{append_cancel_left}
use Rattle.tape_base.specs.declared.keys.Key.{Key}
use Rattle.alternate_vector.specs.Alternates.{Stored}
use Rattle.alternate_vector.specs.Field.{Field}
use Rattle.cache_model.specs.declared.answer.ReadAnswer.{ReadAnswer}
use Rattle.cache_model.specs.declared.answer.ReadAnswer.TheVariants as read
use Rattle.cache_model.specs.declared.cause.Cause.{Cause}
use Rattle.cache_model.specs.declared.cause.Cause.TheVariants as cause
use Rattle.cache_model.specs.declared.record.Rec.{Rec}
use Rattle.cache_model.specs.declared.record.Rec.TheVariants as rec
use Rattle.cache_model.specs.State.{State, after_all}
use Rattle.cache_model.specs.Verdict.{cuts_of}
use Rattle.cache_model.specs.Permit.{IsAmong, Permit, Intent, Commit, GiveUp, End, Stays, Done, Fails, Work, Reason, Exhausted, Faulted, Lost, ManyFragments, ManyWriters, NoSync, StillMoving, StillOpen, SyncRuns, TooLarge, to_do, work_after}
use Rattle.cache_model.specs.Legal
use Rattle.cache_model.specs.Legal.{Advances, Does, IsStep, MayGrow, nothing, more, is_writing}
use Rattle.cache_model.proofs.Found.{no_truth, none_is}
use Rattle.cache_model.proofs.Steps.{alone}
use Rattle.script_grammar.specs.declared.answer.Refused.TheVariants as refused
use Rattle.script_grammar.specs.declared.answer.StepAnswer.{StepAnswer}
use Rattle.script_grammar.specs.declared.answer.StepAnswer.TheVariants as answer
use Rattle.script_grammar.specs.declared.line.LineAnswer.TheVariants as line
use Rattle.script_grammar.specs.declared.step.Step.{Step}
use Rattle.script_grammar.specs.declared.step.Step.TheVariants as step
use Rattle.script_grammar.specs.Grammar.{reading_of}
use Rattle.device_log.specs.Calls.{Call}
use Rattle.script_run.specs.Run.{Holding, Run, fresh, gathered_of, held_by, put_written_by, reader_by}
use Rattle.script_run.specs.Turn.{Turn, lookup_in, told_in}
use Rattle.script_run.specs.Asked.{asked, asks_if_has, body_intents, close_intents, closing, feed_intents, put_intents, rest_behind, rest_intents, whole_fragments}
use Rattle.script_run.specs.Answers.{bare_said, broken_said, end_said, get_said, if_free, if_has as has_said, lookup_said, miss_said, next_said, put_said, refusal_said, remove_said, said, session_said, step_answer, switch_said}
use Rattle.script_run.specs.Behind.{after_step}
use Rattle.script_run.specs.Own.{AreWriting}
use Rattle.script_run.specs.Takes.{run_after}
use Rattle.script_run.specs.Goes.{StepGoes, begins, cuts_off, fails, stays, tells_bare, waits, works}
use Rattle.script_run.proofs.Lift.{goes}
use Rattle.script_laws.proofs.Among.{among_left, among_right}
use Rattle.line_laws.specs.Laws.{LegalIsKept}
use Rattle.headline.specs.Account.{Account, HistoryTells, RunLogs}
use Rattle.headline.specs.Answered
use Rattle.headline.specs.Answered.{ActorWrites, AnsweredAbortWasRecorded, AnsweredPutWasCompleted, AnsweredRemovalWasRecorded, AsksToComplete, GivesUpSo, IsUnclosable, IsUnstorable, RecordedAbort, RecordedPut, RecordsBehind}
use Rattle.account_laws.proofs.Answered.{completed_was_answered, giving_up_was_answered, removal_was_answered}
use Rattle.account_laws.proofs.Opened.{kept_here}
use Rattle.account_laws.proofs.Places.{Found, OnSession, told_line}
use Rattle.account_laws.proofs.Troubles.{did_before}

-- ---- a line has one answer

same_here : {X : Type 0} (front other : List X) (x y : X) (rest others : List X) → front ++ x ∷ rest ≡ other ++ y ∷ others
    → length front ≡ length other → x ≡ y
same_here [] [] x y rest others h n = cc
same_here [] (b ∷ other) x y rest others h n = absurd (omega (arith, n))
same_here (a ∷ front) [] x y rest others h n = absurd (omega (arith, n))
same_here (a ∷ front) (b ∷ other) x y rest others h n =
    let tails : front ++ x ∷ rest ≡ other ++ y ∷ others = cc in
    same_here front other x y rest others tails (omega (arith, n))

-- it asked for one step, and was answered once
record IsSame (asks other : Step) (first second : StepAnswer) : Type 0 where
  asked_same : asks ≡ other
  said_same : first ≡ second

same_line : {l : RunLogs} (a : Account l) (lines : List (List ℕ)) (asks other : Step) (first second : StepAnswer)
    → HistoryTells a lines asks first → HistoryTells a lines other second → IsSame asks other first second
same_line a lines asks other first second t u =
    let tails : t.bytes ∷ t.later ≡ u.bytes ∷ u.later =
    append_cancel_left lines (t.bytes ∷ t.later) (u.bytes ∷ u.later) (sym t.lines_are ∙ u.lines_are) in
    let bytes : t.bytes ≡ u.bytes = cc in
    let steps : line.Step asks ≡ line.Step other = sym t.reading ∙ (ap reading_of bytes ∙ u.reading) in
    let answers : Some first ≡ Some second =
    same_here t.front u.front (Some first) (Some second) t.rest u.rest (sym t.answers_are ∙ u.answers_are) (t.as_many ∙ sym u.as_many) in
    record { asked_same = cc; said_same = cc }

-- ---- which answer it is

-- 1 of a put that was completed, 2 of one that was removed, 3 of one that was given up, and 0 of any other answer
abbrev kind : StepAnswer → ℕ
kind (answer.Put put size fragments) = 1
kind (answer.Removed put) = 2
kind (answer.Aborted put) = 3
kind _ = 0

abbrev Apart : ℕ → ℕ → Type 0
Apart n m = n ≡ m → ⊥

-- an answer has one kind
clash : {X : Type 0} (n a b : ℕ) → n ≡ a → n ≡ b → Apart a b → X
clash n a b first second other = absurd (other (sym first ∙ second))

zero_one : Apart 0 1
zero_one h = omega (arith, h)

zero_two : Apart 0 2
zero_two h = omega (arith, h)

zero_three : Apart 0 3
zero_three h = omega (arith, h)

one_two : Apart 1 2
one_two h = omega (arith, h)

one_three : Apart 1 3
one_three h = omega (arith, h)

two_one : Apart 2 1
two_one h = omega (arith, h)

two_three : Apart 2 3
two_three h = omega (arith, h)

three_one : Apart 3 1
three_one h = omega (arith, h)

three_two : Apart 3 2
three_two h = omega (arith, h)

refusal_kind : (t : State) (took : Option ℕ) (why : Reason) → kind (refusal_said t took why) ≡ 0
refusal_kind t took ManyWriters = refl
refusal_kind t took Exhausted = refl
refusal_kind t took (ManyFragments n) = refl
refusal_kind t took (TooLarge n bytes) = refl
refusal_kind t took (Lost n index) = refl
refusal_kind t took (Faulted count) = refl
refusal_kind t took (SyncRuns serial) = refl
refusal_kind t took NoSync = refl
refusal_kind t took (StillOpen writers readers) = refl
refusal_kind t took (StillMoving blocks) = refl

said_kind : (t : State) (took : Option ℕ) (why : Option Reason) (whole : StepAnswer) → kind whole ≡ 0 → kind (said t took why whole) ≡ 0
said_kind t took None whole h = h
said_kind t took (Some why) whole h = refusal_kind t took why

miss_kind : (why : Cause) → kind (miss_said why) ≡ 0
miss_kind (cause.DeviceFault count) = refl
miss_kind _ = refl

broken_kind : (why : Cause) → kind (broken_said why) ≡ 0
broken_kind (cause.DeviceFault count) = refl
broken_kind _ = refl

lookup_kind : (t : State) (reader : ℕ) (o : Option ReadAnswer) → kind (lookup_said t reader o) ≡ 0
lookup_kind t reader (Some (read.Hit put)) = refl
lookup_kind t reader (Some (read.Follow put)) = refl
lookup_kind t reader (Some (read.Miss why)) = miss_kind why
lookup_kind t reader None = refl

next_kind : (given : List ℕ) (o : Option Rec) → kind (next_said given o) ≡ 0
next_kind given None = refl
next_kind given (Some (rec.Broke reader why)) = broken_kind why
next_kind given (Some _) = refl

end_kind : (put : ℕ) (given : List ℕ) (o : Option Rec) → kind (end_said put given o) ≡ 0
end_kind put given None = refl
end_kind put given (Some (rec.Broke reader why)) = broken_kind why
end_kind put given (Some _) = refl

get_kind : (given : List ℕ) (told : Option Rec) (o : Option ReadAnswer) → kind (get_said given told o) ≡ 0
get_kind given told (Some (read.Hit put)) = end_kind put given told
get_kind given told (Some (read.Follow put)) = refl
get_kind given told (Some (read.Miss why)) = miss_kind why
get_kind given told None = refl

free_kind : (o : Option Holding) (x : StepAnswer) → kind x ≡ 0 → kind (if_free o x) ≡ 0
free_kind None x h = h
free_kind (Some holding) x h = refl

has_kind : (o : Option ℕ) (f : ℕ → StepAnswer) → ((n : ℕ) → kind (f n) ≡ 0) → kind (has_said o f) ≡ 0
has_kind None f h = refl
has_kind (Some n) f h = h n

sealed_kind : (b : Bool) (x : StepAnswer) → kind x ≡ 0 → kind (if b then answer.Refused refused.Sealed (Some 0) else x) ≡ 0
sealed_kind true x h = refl
sealed_kind false x h = h

switch_kind : (told : List Call) (x : StepAnswer) → kind x ≡ 0 → kind (switch_said told x) ≡ 0
switch_kind [] x h = refl
switch_kind (call ∷ told) x h = h

-- a step that ends no put, as it is answered
abbrev EndsNoPut : Step → Type 0
EndsNoPut (step.Put key body request response) = ⊥
EndsNoPut (step.Close name) = ⊥
EndsNoPut (step.Remove key) = ⊥
EndsNoPut (step.Abort name) = ⊥
EndsNoPut _ = Unit {0}

other_kind : (run : Run) (s t : State) (turn : Turn) (asks : Step) → EndsNoPut asks → kind (session_said run s t turn asks) ≡ 0
other_kind run s t turn (step.Format name segments buckets content agg reach fragment generation alternates) other = refl
other_kind run s t turn (step.Get key request) other = get_kind turn.given (told_in turn.added) (lookup_in turn.added)
other_kind run s t turn (step.OpenWrite actor key pin request response) other =
    free_kind (held_by run actor) _ (said_kind t None turn.refused (answer.Writer s.next_put) refl)
other_kind run s t turn (step.Feed actor body) other =
    has_kind (put_written_by run actor) _
    (λ n. sealed_kind (run.streams n).sealed _ (said_kind t _ turn.refused (answer.Took (length body)) refl))
other_kind run s t turn (step.OpenRead actor key request) other =
    free_kind (held_by run actor) _ (lookup_kind t s.next_reader (lookup_in turn.added))
other_kind run s t turn (step.Next actor) other = has_kind (reader_by run actor) _ (λ n. next_kind turn.given (told_in turn.added))
other_kind run s t turn (step.Done actor) other = has_kind (reader_by run actor) _ (λ n. refl)
other_kind run s t turn step.Flush other = said_kind t None turn.refused _ refl
other_kind run s t turn (step.Now moment) other = refl
other_kind run s t turn (step.Fail nth) other = switch_kind turn.told answer.Armed refl
other_kind run s t turn (step.StopAfter calls) other = switch_kind turn.told answer.Armed refl
other_kind run s t turn (step.Flip place byte) other = switch_kind turn.told answer.Flipped refl
other_kind run s t turn (step.Cut choice) other = switch_kind turn.told answer.Cut refl
other_kind run s t turn _ other = absurd other

bare_kind : (turn : Turn) (asks : Step) → kind (bare_said turn asks) ≡ 0
bare_kind turn (step.Fail nth) = switch_kind turn.told answer.Armed refl
bare_kind turn (step.StopAfter calls) = switch_kind turn.told answer.Armed refl
bare_kind turn (step.Cut choice) = switch_kind turn.told answer.Cut refl
bare_kind turn _ = refl

-- a line that is answered so is one of a session
on_session : (run : Run) (turn : Turn) {asks : Step} {says : StepAnswer} {after : Run} → StepGoes run turn asks says after
    → step_answer run turn asks ≡ says → after_step run turn asks ≡ after → (kind says ≡ 0 → ⊥) → OnSession run turn run.state asks
on_session run turn (stays bad same none) answered next ends = absurd (ends refl)
on_session run turn (waits at same none) answered next ends = absurd (ends refl)
on_session run turn (works s same e takes) answered next ends = record { s = s; session = same; state = e; takes = takes; said = answered; next = next }
on_session run turn (begins name g same is) answered next ends = absurd (ends refl)
on_session run turn (fails name count same is refuses) answered next ends = absurd (ends refl)
on_session run turn (cuts_off choice s e cut) answered next ends = absurd (ends refl)
on_session run turn {asks = asks} (tells_bare t same e last takes only) answered next ends = absurd (ends (bare_kind turn asks))

-- a put or a close is answered a put, where nothing is refused, and else none of these
data PutKind (why : Option Reason) (n : ℕ) : Type 0 where
  none : n ≡ 0 → PutKind why n
  puts : why ≡ None → n ≡ 1 → PutKind why n

put_kind : (t : State) (n : ℕ) (why : Option Reason) → PutKind why (kind (said t None why (put_said t n)))
put_kind t n None = puts refl refl
put_kind t n (Some why) = none (refusal_kind t None why)

-- where a put is answered nothing is refused
pub put_answer : (t : State) (n : ℕ) (why : Option Reason) (put size fragments : ℕ)
    → said t None why (put_said t n) ≡ answer.Put put size fragments
    → (why ≡ None) × (n ≡ put)
put_answer t n None put size fragments h = (refl, cc)
put_answer t n (Some why) put size fragments h = absurd (zero_one (sym (refusal_kind t None why) ∙ ap kind h))

puts_only : {X : Type 0} (why : Option Reason) (n k : ℕ) → Apart 0 k → Apart 1 k → n ≡ k → PutKind why n → X
puts_only why n k zero one is (none same) = clash n 0 k same is zero
puts_only why n k zero one is (puts allowed same) = clash n 1 k same is one

close_only : {X : Type 0} (t : State) (why : Option Reason) (k : ℕ) → Apart 0 k → Apart 1 k → (o : Option ℕ)
    → kind (has_said o (λ put. said t None why (put_said t put))) ≡ k → X
close_only t why k zero one None is = absurd (zero is)
close_only t why k zero one (Some n) is = puts_only why _ k zero one is (put_kind t n why)

abort_only : {X : Type 0} (k : ℕ) → Apart 0 k → Apart 3 k → (o : Option ℕ) → kind (has_said o answer.Aborted) ≡ k → X
abort_only k zero three None is = absurd (zero is)
abort_only k zero three (Some n) is = absurd (three is)

-- a removal is answered the put that it recorded, or none of these
record Removal (recs : List Rec) : Type 0 where
  put : ℕ
  key : Key
  among : IsAmong (rec.Removed put key) recs

data RemoveKind (recs : List Rec) (n : ℕ) : Type 0 where
  misses : n ≡ 0 → RemoveKind recs n
  removes : Removal recs → n ≡ 2 → RemoveKind recs n

remove_kind : (s : State) (key : Key) (added : List Rec) → RemoveKind added (kind (remove_said s key added))
remove_kind s key [] = misses refl
remove_kind s key (rec.Removed put k ∷ recs) = removes (record { put = put; key = k; among = inl refl }) refl
remove_kind s key (_ ∷ recs) = misses refl

remove_only : {X : Type 0} (recs : List Rec) (n k : ℕ) → Apart 0 k → Apart 2 k → n ≡ k → RemoveKind recs n → X
remove_only recs n k zero two is (misses same) = clash n 0 k same is zero
remove_only recs n k zero two is (removes r same) = clash n 2 k same is two

-- ---- where nothing is refused, all that is asked is done

-- what was refused stays so
allowed_by : (i : Intent) (is : List Intent) (why : Option Reason) (e : End) → (work_after i is why e).refused ≡ None → why ≡ None
allowed_by i is why Stays h = h
allowed_by i is why Done h = h
allowed_by i is why (Fails reason) h = none_is (sym h)

allowed_first : (p : Permit) (s : State) (is : List Intent) (why : Option Reason) (added : List Rec) (between : Work)
    → Advances p s is why added between
    → between.refused ≡ None → why ≡ None
allowed_first p s [] why added between one h = absurd one
allowed_first p s (i ∷ is) why added between one h = allowed_by i is why one.0 (ap (λ (w : Work). w.refused) (sym one.2) ∙ h)

pub allowed_before : {p : Permit} {s : State} {w after : Work} {recs : List Rec} → MayGrow p s w recs after → after.refused ≡ None
    → w.refused ≡ None
allowed_before nothing h = h
allowed_before {p} {s} {w} (more added between one others) h =
    allowed_first p s w.intents w.refused added between one (allowed_before others h)

-- it was done, by some of these records
record IsDone (p : Permit) (i : Intent) (recs : List Rec) : Type 0 where
  at : State
  added : List Rec
  does : Does p at i added Done
  within : (r : Rec) → IsAmong r added → IsAmong r recs

nearer_by : (p : Permit) (s : State) (i j : Intent) (is : List Intent) (why : Option Reason) (added : List Rec) (e : End) (between : Work)
    → IsAmong i (j ∷ is) → Does p s j added e → between ≡ work_after j is why e → between.refused ≡ None
    → IsAmong i between.intents ⊎ Does p s i added Done
nearer_by p s i j is why added Stays between among does next allowed = inl (subst (λ (w : Work). IsAmong i w.intents) (sym next) among)
nearer_by p s i j is why added Done between (inr later) does next allowed = inl (subst (λ (w : Work). IsAmong i w.intents) (sym next) later)
nearer_by p s i j is why added Done between (inl here) does next allowed =
    inr (subst (λ (k : Intent). Does p s k added Done) (sym here) does)
nearer_by p s i j is why added (Fails reason) between among does next allowed = none_is (sym allowed ∙ ap (λ (w : Work). w.refused) next)

nearer : (p : Permit) (s : State) (i : Intent) (is : List Intent) (why : Option Reason) (added : List Rec) (between : Work) → IsAmong i is
    → Advances p s is why added between → between.refused ≡ None → IsAmong i between.intents ⊎ Does p s i added Done
nearer p s i [] why added between among one allowed = absurd among
nearer p s i (j ∷ is) why added between among one allowed = nearer_by p s i j is why added one.0 between among one.1 one.2 allowed

done_later : (p : Permit) (i : Intent) (added tail : List Rec) → IsDone p i tail → IsDone p i (added ++ tail)
done_later p i added tail d =
    record { at = d.at; added = d.added; does = d.does; within = λ r among. among_right r added tail (d.within r among) }

all_done : (i : Intent) {p : Permit} {s : State} {w after : Work} {recs : List Rec} → IsAmong i w.intents → after ≡ to_do []
    → MayGrow p s w recs after
    → IsDone p i recs
all_done i among ended nothing = absurd (subst (λ (w : Work). IsAmong i w.intents) ended among)
all_done i {p} {s} {w} {after} among ended (more {rest = tail} added between one others) =
    elim (nearer p s i w.intents w.refused added between among one (allowed_before others (ap (λ (x : Work). x.refused) ended))) [
      | inl on ↦ done_later p i added tail (all_done i on ended others)
      | inr here ↦ record { at = s; added = added; does = here; within = λ r there. among_left r added tail there }
    ]

-- ---- completed

record Completed (recs : List Rec) : Type 0 where
  put : ℕ
  key : Key
  size : ℕ
  alternates : List Stored
  among : IsAmong (rec.Committed put key size alternates) recs

commit_told : (s : State) (put : ℕ) (added : List Rec) → Legal.DoesCommit s put added Done → Completed added
commit_told s put added (Legal.DoesCommit.commits w found writes pending is) =
    subst Completed (sym is) (record { put = put; key = w.key; size = _; alternates = _; among = inl refl })

completed_all : (p : Permit) (s : State) (n : ℕ) (is : List Intent) (why : Option Reason) (added : List Rec) → IsAmong (Commit n) is
    → IsStep p s is added why
    → why ≡ None → Completed added
completed_all p s n is why added among legal allowed =
    let grows : MayGrow p s (to_do is) added (to_do []) =
    subst (λ (o : Option Reason). MayGrow p s (to_do is) added (record { intents = []; refused = o })) allowed legal.grows in
    let d : IsDone p (Commit n) added = all_done (Commit n) among refl grows in
    let c : Completed d.added = commit_told d.at n d.added d.does in
    record { put = c.put; key = c.key; size = c.size; alternates = c.alternates; among = d.within _ c.among }

commit_asked : (put cut : ℕ) (rest : List ℕ) → IsAmong (Commit put) (close_intents put cut rest)
commit_asked put cut rest = inr (among_right (Commit put) (rest_intents put cut rest) _ (inr (inl refl)))

put_asked : (s : State) (key : Key) (body : List ℕ) (request response : List Field)
    → IsAmong (Commit s.next_put) (put_intents s key body request response)
put_asked s key body request response =
    let fragment : ℕ = s.geometry.fragment in
    let n : ℕ = s.next_put in
    inr (among_left (Commit n) (body_intents fragment n body) (GiveUp n ∷ [])
    (among_right (Commit n) (feed_intents fragment n 0 body) _
    (commit_asked n (whole_fragments fragment body) (rest_behind fragment body))))

-- ---- given up

record GivenUp (recs : List Rec) : Type 0 where
  put : ℕ
  key : Key
  among : IsAmong (rec.Aborted put key) recs

gives_up_never : (s : State) (put : ℕ) (added : List Rec) (e : End) → Legal.DoesGiveUp s put added e → e ≡ Stays → ⊥
gives_up_never s put added e (Legal.DoesGiveUp.aborts w writing is) h = cc
gives_up_never s put added e (Legal.DoesGiveUp.over quiet over is) h = cc

give_up_told : (s : State) (put : ℕ) (added : List Rec) (e : End) → is_writing s put ≡ true → Legal.DoesGiveUp s put added e → GivenUp added
give_up_told s put added e writes (Legal.DoesGiveUp.aborts w writing is) =
    subst GivenUp (sym is) (record { put = w.put; key = w.key; among = inl refl })
give_up_told s put added e writes (Legal.DoesGiveUp.over quiet over is) = no_truth (sym writes ∙ over)

-- ---- lines

module _ (run : Run) (s : State) (turn : Turn) where
  abbrev T : State
  T = after_all s turn.added

  completed_by : (n m : ℕ) (is : List Intent) → IsAmong (Commit n) is → IsStep turn.device s is turn.added turn.refused → m ≡ 1
      → PutKind turn.refused m
      → Completed turn.added
  completed_by n m is among legal one (none zero) = clash m 0 1 zero one zero_one
  completed_by n m is among legal one (puts allowed same) = completed_all turn.device s n is turn.refused turn.added among legal allowed

  close_by : (o : Option ℕ) → IsStep turn.device s (asks_if_has o (closing run s)) turn.added turn.refused
      → kind (has_said o (λ put. said T None turn.refused (put_said T put))) ≡ 1 → Completed turn.added
  close_by None legal one = absurd (zero_one one)
  close_by (Some n) legal one =
      completed_by n _ (closing run s n) (commit_asked n (length (cuts_of s n)) (gathered_of run s n)) legal one (put_kind T n turn.refused)

  completed : (asks : Step) → IsStep turn.device s (asked run s asks) turn.added turn.refused → kind (session_said run s T turn asks) ≡ 1
      → Completed turn.added
  completed (step.Put key body request response) legal one =
      completed_by s.next_put _ (put_intents s key body request response) (put_asked s key body request response) legal one
      (put_kind T s.next_put turn.refused)
  completed (step.Close name) legal one = close_by (put_written_by run name) legal one
  completed (step.Remove key) legal one = remove_only turn.added _ 1 zero_one two_one one (remove_kind s key turn.added)
  completed (step.Abort name) legal one = abort_only 1 zero_one three_one (put_written_by run name) one
  completed asks legal one = absurd (zero_one (sym (other_kind run s T turn asks tt) ∙ one))

  -- ---- removed

  removed_by : (n : ℕ) → n ≡ 2 → RemoveKind turn.added n → Removal turn.added
  removed_by n two (misses zero) = clash n 0 2 zero two zero_two
  removed_by n two (removes r same) = r

  removed : (asks : Step) → kind (session_said run s T turn asks) ≡ 2 → Removal turn.added
  removed (step.Put key body request response) two = puts_only turn.refused _ 2 zero_two one_two two (put_kind T s.next_put turn.refused)
  removed (step.Close name) two = close_only T turn.refused 2 zero_two one_two (put_written_by run name) two
  removed (step.Remove key) two = removed_by _ two (remove_kind s key turn.added)
  removed (step.Abort name) two = abort_only 2 zero_two three_two (put_written_by run name) two
  removed asks two = absurd (zero_two (sym (other_kind run s T turn asks tt) ∙ two))

  -- ---- given up

  given_by : (writing : AreWriting run s) (name : List ℕ) (o : Option ℕ) → put_written_by run name ≡ o
      → IsStep turn.device s (asks_if_has o (λ put. GiveUp put ∷ [])) turn.added turn.refused → kind (has_said o answer.Aborted) ≡ 3
      → GivenUp turn.added
  given_by writing name None writes legal three = absurd (zero_three three)
  given_by writing name (Some n) writes legal three =
      let does = alone turn.device s (GiveUp n) turn.added turn.refused (gives_up_never s n) legal.grows in
      give_up_told s n turn.added does.0 (writing name n writes) does.1

  given_up : (writing : AreWriting run s) (asks : Step) → IsStep turn.device s (asked run s asks) turn.added turn.refused
      → kind (session_said run s T turn asks) ≡ 3 → GivenUp turn.added
  given_up writing (step.Put key body request response) legal three =
      puts_only turn.refused _ 3 zero_three one_three three (put_kind T s.next_put turn.refused)
  given_up writing (step.Close name) legal three = close_only T turn.refused 3 zero_three one_three (put_written_by run name) three
  given_up writing (step.Remove key) legal three = remove_only turn.added _ 3 zero_three two_three three (remove_kind s key turn.added)
  given_up writing (step.Abort name) legal three = given_by writing name (put_written_by run name) refl legal three
  given_up writing asks legal three = absurd (zero_three (sym (other_kind run s T turn asks tt) ∙ three))

-- ---- the laws

module _ (l : RunLogs) (a : Account l) (lines : List (List ℕ)) (asks : Step) (says : StepAnswer) (at : HistoryTells a lines asks says) where
  module _ (f : Found fresh a.turns lines asks says (run_after fresh a.told a.turns)) where
    abbrev Before : Run
    Before = run_after fresh lines f.earlier

    session_of : (kind says ≡ 0 → ⊥) → OnSession Before f.turn Before.state asks
    session_of ends = on_session Before f.turn (goes Before f.turn asks f.takes) refl refl (λ zero. ends (ap kind f.is ∙ zero))

    abbrev records_of : (told : Rec) → IsAmong told f.turn.added → RecordsBehind a lines told
    records_of told among =
        record { bytes = at.bytes; later = at.later; lines_are = at.lines_are; did = did_before l a lines asks says f; among = among }

    kind_is : (on : OnSession Before f.turn Before.state asks)
        → kind (session_said Before on.s (after_all on.s f.turn.added) f.turn asks) ≡ kind says
    kind_is on = ap kind (sym (f.is ∙ on.said))

pub answered_put_was_completed : (law : LegalIsKept) → AnsweredPutWasCompleted
answered_put_was_completed law l a lines asks put size fragments at =
    let says : StepAnswer = answer.Put put size fragments in
    let f = told_line l a lines asks says at in
    let run : Run = run_after fresh lines f.earlier in
    let on = session_of l a lines asks says at f (λ h. zero_one (sym h)) in
    let c : Completed f.turn.added = completed run on.s f.turn asks on.takes.legal (kind_is l a lines asks says at f on) in
    let r : RecordsBehind a lines (rec.Committed c.put c.key c.size c.alternates) =
    records_of l a lines asks says at f (rec.Committed c.put c.key c.size c.alternates) c.among in
    let w = completed_was_answered law l a lines c.put c.key c.size c.alternates r in
    let same = same_line a lines w.asks asks (answer.Put c.put c.size w.fragments) says w.tells at in
    let told : answer.Put c.put c.size w.fragments ≡ answer.Put put size fragments = same.said_same in
    let number : c.put ≡ put = cc in
    let sized : c.size ≡ size = cc in
    subst (λ n. RecordedPut a lines asks n size) number
    (subst (λ n. RecordedPut a lines asks c.put n) sized (record {
      key = c.key;
      alternates = c.alternates;
      records = r;
      completes = subst (AsksToComplete run c.key c.put) same.asked_same w.completes;
    }))

pub answered_removal_was_recorded : AnsweredRemovalWasRecorded
answered_removal_was_recorded l a lines asks put at =
    let says : StepAnswer = answer.Removed put in
    let f = told_line l a lines asks says at in
    let run : Run = run_after fresh lines f.earlier in
    let on = session_of l a lines asks says at f (λ h. zero_two (sym h)) in
    let c : Removal f.turn.added = removed run on.s f.turn asks (kind_is l a lines asks says at f on) in
    let r : RecordsBehind a lines (rec.Removed c.put c.key) = records_of l a lines asks says at f (rec.Removed c.put c.key) c.among in
    let same = same_line a lines asks (step.Remove c.key) says (answer.Removed c.put) at (removal_was_answered l a lines c.put c.key r) in
    let told : answer.Removed put ≡ answer.Removed c.put = same.said_same in
    let number : c.put ≡ put = cc in
    record {
      key = c.key;
      asks_is = same.asked_same;
      records = subst (λ n. RecordsBehind a lines (rec.Removed n c.key)) number r;
    }

-- an answer that a put was given up is of an abort
record IsAbort (run : Run) (key : Key) (put : ℕ) (asks : Step) (says : StepAnswer) : Type 0 where
  name : List ℕ
  asks_is : asks ≡ step.Abort name
  says_is : says ≡ answer.Aborted put
  writes : ActorWrites run name key put

unclosable_kind : (x : StepAnswer) → IsUnclosable x → kind x ≡ 0
unclosable_kind x (Answered.IsUnclosable.large bytes) = refl
unclosable_kind x (Answered.IsUnclosable.lost index why) = refl

unstorable_kind : (x : StepAnswer) → IsUnstorable x → kind x ≡ 0
unstorable_kind x (Answered.IsUnstorable.unclosable y h) = unclosable_kind y h
unstorable_kind x Answered.IsUnstorable.fragments = refl
unstorable_kind x Answered.IsUnstorable.exhausted = refl
unstorable_kind x (Answered.IsUnstorable.faulted count) = refl

abort_of : (run : Run) (key : Key) (put : ℕ) (asks : Step) (says : StepAnswer) → GivesUpSo run key put asks says → kind says ≡ 3
    → IsAbort run key put asks says
abort_of run key put asks says (Answered.GivesUpSo.aborts name writes) three =
    record { name = name; asks_is = refl; says_is = refl; writes = writes }
abort_of run key put asks says (Answered.GivesUpSo.feeds name body took writes) three = absurd (zero_three three)
abort_of run key put asks says (Answered.GivesUpSo.closes name x writes h) three = clash (kind x) 0 3 (unclosable_kind x h) three zero_three
abort_of run key put asks says (Answered.GivesUpSo.puts body request response x next h) three =
    clash (kind x) 0 3 (unstorable_kind x h) three zero_three

pub answered_abort_was_recorded : (law : LegalIsKept) → AnsweredAbortWasRecorded
answered_abort_was_recorded law l a lines asks put at =
    let says : StepAnswer = answer.Aborted put in
    let f = told_line l a lines asks says at in
    let run : Run = run_after fresh lines f.earlier in
    let on = session_of l a lines asks says at f (λ h. zero_three (sym h)) in
    let writing : AreWriting run on.s = (kept_here law lines f.earlier on.s f.legal on.state).0.writing in
    let c : GivenUp f.turn.added = given_up run on.s f.turn writing asks on.takes.legal (kind_is l a lines asks says at f on) in
    let r : RecordsBehind a lines (rec.Aborted c.put c.key) = records_of l a lines asks says at f (rec.Aborted c.put c.key) c.among in
    let w = giving_up_was_answered law l a lines c.put c.key r in
    let same = same_line a lines w.asks asks w.said says w.tells at in
    let b : IsAbort run c.key c.put w.asks w.said = abort_of run c.key c.put w.asks w.said w.gives (ap kind same.said_same) in
    let told : answer.Aborted c.put ≡ answer.Aborted put = sym b.says_is ∙ same.said_same in
    let number : c.put ≡ put = cc in
    subst (λ n. RecordedAbort a lines asks n) number (record {
      key = c.key;
      name = b.name;
      asks_is = sym same.asked_same ∙ b.asks_is;
      records = r;
      writes = b.writes;
    })
