-- A line that is answered that there is nothing under a key is answered the cause that the state before it has, or one of its
-- device.
use Rattle.std.proofs.Common.{◌≡◌, ℕ, List, [], ◌∷◌, ◌++◌, Bool, true, false, refl, sym, ◌∙◌, ap, inl, inr, ◌⊎◌}
use Rattle.std.specs.Prelude.{Option, Some, None, option_map, unwrap_or}
use Rattle.std.proofs.lemmas.Option.{same_Some}
use Rattle.tape_base.specs.declared.actors.Actor.{Actor}
use Rattle.tape_base.specs.declared.keys.Key.{Key}
use Rattle.alternate_vector.specs.Alternates.{Stored}
use Rattle.alternate_vector.specs.Field.{Field}
use Rattle.cache_model.specs.declared.cause.Cause.{Cause}
use Rattle.cache_model.specs.declared.cause.Cause.TheVariants as cause
use Rattle.cache_model.specs.declared.answer.ReadAnswer.{ReadAnswer}
use Rattle.cache_model.specs.declared.answer.ReadAnswer.TheVariants as read
use Rattle.cache_model.specs.declared.record.Rec.{Rec}
use Rattle.cache_model.specs.declared.record.Rec.TheVariants as rec
use Rattle.cache_model.specs.State.{State, PutRow, after_all}
use Rattle.cache_model.specs.Verdict.{cause_of_miss, follow_answer, followed, hit, hit_answer, live_vector_of, lookup_verdict}
use Rattle.cache_model.specs.Permit.{End, Intent, Look, Permit, Reason, Remove}
use Rattle.cache_model.specs.Given
use Rattle.cache_model.specs.Legal
use Rattle.cache_model.specs.Legal.{IsStep}
use Rattle.cache_model.proofs.Steps.{First, first_of}
use Rattle.script_grammar.specs.declared.step.Step.{Step}
use Rattle.script_grammar.specs.declared.step.Step.TheVariants as step
use Rattle.script_grammar.specs.declared.answer.StepAnswer.{StepAnswer}
use Rattle.script_grammar.specs.declared.answer.StepAnswer.TheVariants as answer
use Rattle.script_run.specs.Run.{Holding, Run, held_by}
use Rattle.script_run.specs.Asked
use Rattle.script_run.specs.Turn.{Turn, lookup_in, told_in}
use Rattle.script_run.specs.Answers.{broken_said, end_said, get_said, if_free, lookup_said, miss_said, remove_said, step_answer, step_said}
use Rattle.script_run.specs.Takes.{StepTakes, Takes}
use Rattle.headline.specs.Misses
use Rattle.headline.specs.Misses.{MissesKey}
use Rattle.headline.specs.Reads
use Rattle.headline.specs.Reads.{AsksFor}

-- the cause is one that the device brought about
abbrev pub is_of_device : Cause → Bool
is_of_device (cause.DeviceFault count) = true
is_of_device (cause.Damaged place kept found) = true
is_of_device _ = false

-- the cause is a device fault
abbrev pub is_fault : Cause → Bool
is_fault (cause.DeviceFault count) = true
is_fault _ = false

-- the cause that the state has
abbrev pub IsCauseOf : State → Key → Cause → Type 0
IsCauseOf s key why = (cause_of_miss s key ≡ why) ⊎ (is_of_device why ≡ true)

-- ---- lookups

-- neither a stored alternate nor an open writer answers the request, for this cause
pub record MissedSo (s : State) (key : Key) (request : List Field) (why : Cause) : Type 0 where
  pub none_matches : hit s key request ≡ None
  pub none_writes : followed s key request ≡ None
  pub is : cause_of_miss s key ≡ why

-- so it is of a lookup, or the device brought it about
abbrev pub IsMissed : State → Key → List Field → Cause → Type 0
IsMissed s key request why = MissedSo s key request why ⊎ (is_of_device why ≡ true)

pub verdict_misses : (s : State) (key : Key) (request : List Field) (why : Cause) (o : Option Stored) (f : Option PutRow) → hit s key request ≡ o → followed s key request ≡ f
    → unwrap_or (option_map hit_answer o) (unwrap_or (option_map follow_answer f) (read.Miss (cause_of_miss s key))) ≡ read.Miss why → MissedSo s key request why
verdict_misses s key request why (Some a) f e g h = absurd cc
verdict_misses s key request why None (Some p) e g h = absurd cc
verdict_misses s key request why None None e g h = let same : cause_of_miss s key ≡ why = cc in record { none_matches = e; none_writes = g; is = same }

looked : (p : Permit) (s : State) (who : Actor) (key : Key) (request : List Field) (before : List Rec) (answer : ReadAnswer) (rest : List Rec) (why : Cause)
    → Legal.IsLookup p s key request before answer
    → lookup_in ((before ++ rec.ReadOpened s.next_reader who key request answer ∷ []) ++ rest) ≡ Some (read.Miss why) → IsMissed s key request why
looked p s who key request before answer rest why (Legal.IsLookup.verdict r) h =
    inl (verdict_misses s key request why (hit s key request) (followed s key request) refl refl (same_Some (lookup_verdict s key request) (read.Miss why) h))
looked p s who key request before answer rest why (Legal.IsLookup.trouble row b other live (Given.Trouble.faulted count w m)) h =
    let same : read.Miss (cause.DeviceFault count) ≡ read.Miss why = same_Some (read.Miss (cause.DeviceFault count)) (read.Miss why) h in
    let is : cause.DeviceFault count ≡ why = cc in
    inr (ap is_of_device (sym is))
looked p s who key request before answer rest why (Legal.IsLookup.trouble row b other live (Given.Trouble.damaged found d)) h =
    let same : read.Miss (Given.damage_cause row row.digest found) ≡ read.Miss why = same_Some (read.Miss (Given.damage_cause row row.digest found)) (read.Miss why) h in
    let is : Given.damage_cause row row.digest found ≡ why = cc in
    inr (ap is_of_device (sym is))

look : (p : Permit) (s : State) (actor : ℕ) (key : Key) (request : List Field) (added rest : List Rec) (e : End) (why : Cause) → Legal.DoesLook p s actor key request added e
    → lookup_in (added ++ rest) ≡ Some (read.Miss why) → IsMissed s key request why
look p s actor key request added rest e why (Legal.DoesLook.looks m) h =
    looked p s m.who key request m.before m.answer rest why m.right (ap (λ recs. lookup_in (recs ++ rest)) (sym m.is) ∙ h)

step_misses : (p : Permit) (s : State) (actor : ℕ) (key : Key) (request : List Field) (more : List Intent) (added : List Rec) (refused : Option Reason) (why : Cause)
    → IsStep p s (Look actor key request ∷ more) added refused → lookup_in added ≡ Some (read.Miss why) → IsMissed s key request why
step_misses p s actor key request more added refused why legal h =
    let f : First p s (Look actor key request) more None added refused = first_of p s (Look actor key request) more None refused added legal.grows in
    look p s actor key request f.added f.rest f.end why f.does (ap lookup_in (sym f.split) ∙ h)

-- ---- what is answered

miss_is : (w why : Cause) → miss_said w ≡ answer.Miss why → w ≡ why
miss_is (cause.DeviceFault count) why h = absurd cc
miss_is _ why h = cc

broken_misses_none : (w why : Cause) → broken_said w ≡ answer.Miss why → ⊥
broken_misses_none (cause.DeviceFault count) why h = cc
broken_misses_none _ why h = cc

end_misses_none : (put : ℕ) (given : List ℕ) (told : Option Rec) (why : Cause) → end_said put given told ≡ answer.Miss why → ⊥
end_misses_none put given None why h = cc
end_misses_none put given (Some (rec.Ended reader size)) why h = cc
end_misses_none put given (Some (rec.Broke reader w)) why h = broken_misses_none w why h
end_misses_none put given (Some _) why h = cc

pub get_misses : (given : List ℕ) (told : Option Rec) (lookup : Option ReadAnswer) (why : Cause) → get_said given told lookup ≡ answer.Miss why → lookup ≡ Some (read.Miss why)
get_misses given told None why h = absurd cc
get_misses given told (Some (read.Hit put)) why h = absurd (end_misses_none put given told why h)
get_misses given told (Some (read.Follow put)) why h = absurd cc
get_misses given told (Some (read.Miss w)) why h = ap (λ c. Some (read.Miss c)) (miss_is w why h)

pub open_misses : (t : State) (reader : ℕ) (lookup : Option ReadAnswer) (why : Cause) → lookup_said t reader lookup ≡ answer.Miss why → lookup ≡ Some (read.Miss why)
open_misses t reader None why h = absurd cc
open_misses t reader (Some (read.Hit put)) why h = absurd cc
open_misses t reader (Some (read.Follow put)) why h = absurd cc
open_misses t reader (Some (read.Miss w)) why h = ap (λ c. Some (read.Miss c)) (miss_is w why h)

absent_is : (s : State) (key : Key) (added : List Rec) (why : Cause) → remove_said s key added ≡ answer.Absent why → cause_of_miss s key ≡ why
absent_is s key [] why h = cc
absent_is s key (rec.Removed put k ∷ recs) why h = absurd cc
absent_is s key (_ ∷ recs) why h = cc

absent_by : (s : State) (key : Key) (added rest : List Rec) (e : End) (why : Cause) → Legal.DoesRemove s key added e → remove_said s key (added ++ rest) ≡ answer.Absent why → live_vector_of s key ≡ None
absent_by s key added rest e why (Legal.DoesRemove.removes row quiet live is) h =
    let other : answer.Removed row.id.put ≡ answer.Absent why = ap (λ recs. remove_said s key (recs ++ rest)) (sym is) ∙ h in
    absurd cc
absent_by s key added rest e why (Legal.DoesRemove.absent quiet none is) h = none

step_absent : (p : Permit) (s : State) (key : Key) (added : List Rec) (refused : Option Reason) (why : Cause) → IsStep p s (Remove key ∷ []) added refused → remove_said s key added ≡ answer.Absent why
    → live_vector_of s key ≡ None
step_absent p s key added refused why legal h =
    let f : First p s (Remove key) [] None added refused = first_of p s (Remove key) [] None refused added legal.grows in
    absent_by s key f.added f.rest f.end why f.does (ap (remove_said s key) (sym f.split) ∙ h)

-- ---- lines

-- there is a session, whose state has the cause
pub record MissesHere (run : Run) (key : Key) (why : Cause) : Type 0 where
  pub s : State
  pub state : run.state ≡ Some s
  pub is : IsCauseOf s key why

-- there is a session, in whose state nothing answers the request
pub record LooksHere (run : Run) (key : Key) (request : List Field) (why : Cause) : Type 0 where
  pub s : State
  pub state : run.state ≡ Some s
  pub is : IsMissed s key request why

-- there is a session, in whose state the key has no live vector
pub record AbsentHere (run : Run) (key : Key) (why : Cause) : Type 0 where
  pub s : State
  pub state : run.state ≡ Some s
  pub is : cause_of_miss s key ≡ why
  pub none : live_vector_of s key ≡ None

cause_is : (s : State) (key : Key) (request : List Field) (why : Cause) → IsMissed s key request why → IsCauseOf s key why
cause_is s key request why (inl missed) = inl missed.is
cause_is s key request why (inr device) = inr device

module _ (run : Run) (turn : Turn) (key : Key) (why : Cause) where
  get_here : (request : List Field) (o : Option State) → run.state ≡ o → Takes run turn o (step.Get key request)
      → step_said run turn o (step.Get key request) ≡ answer.Miss why → LooksHere run key request why
  get_here request None e takes said = absurd takes
  get_here request (Some s) e takes said = record {
    s = s;
    state = e;
    is = step_misses turn.device s 0 key request _ turn.added turn.refused why takes.legal (get_misses turn.given (told_in turn.added) (lookup_in turn.added) why said);
  }

  free_here : (request : List Field) (s t : State) (actor : ℕ) (held : Option Holding) → run.state ≡ Some s
      → IsStep turn.device s (Asked.asks_if_free held (Look actor key request ∷ [])) turn.added turn.refused
      → if_free held (lookup_said t s.next_reader (lookup_in turn.added)) ≡ answer.Miss why → LooksHere run key request why
  free_here request s t actor None e legal said = record {
    s = s;
    state = e;
    is = step_misses turn.device s actor key request [] turn.added turn.refused why legal (open_misses t s.next_reader (lookup_in turn.added) why said);
  }
  free_here request s t actor (Some holding) e legal said = absurd cc

  open_here : (name : List ℕ) (request : List Field) (o : Option State) → run.state ≡ o → Takes run turn o (step.OpenRead name key request)
      → step_said run turn o (step.OpenRead name key request) ≡ answer.Miss why → LooksHere run key request why
  open_here name request None e takes said = absurd takes
  open_here name request (Some s) e takes said = free_here request s (after_all s turn.added) _ (held_by run name) e takes.legal said

  remove_here : (o : Option State) → run.state ≡ o → Takes run turn o (step.Remove key) → step_said run turn o (step.Remove key) ≡ answer.Absent why → AbsentHere run key why
  remove_here None e takes said = absurd takes
  remove_here (Some s) e takes said =
      record { s = s; state = e; is = absent_is s key turn.added why said; none = step_absent turn.device s key turn.added turn.refused why takes.legal said }

  pub absent_here : StepTakes run turn (step.Remove key) → answer.Absent why ≡ step_answer run turn (step.Remove key) → AbsentHere run key why
  absent_here takes said = remove_here run.state refl takes (sym said)

  absent : AbsentHere run key why → MissesHere run key why
  absent h = record { s = h.s; state = h.state; is = inl h.is }

  missed : (request : List Field) → LooksHere run key request why → MissesHere run key why
  missed request h = record { s = h.s; state = h.state; is = cause_is h.s key request why h.is }

  pub misses_here : {asks : Step} {said : StepAnswer} → MissesKey key why asks said → StepTakes run turn asks → said ≡ step_answer run turn asks → MissesHere run key why
  misses_here (Misses.MissesKey.gets request) takes said = missed request (get_here request run.state refl takes (sym said))
  misses_here (Misses.MissesKey.opens name request) takes said = missed request (open_here name request run.state refl takes (sym said))
  misses_here Misses.MissesKey.removes takes said = absent (absent_here takes said)

  pub looks_here : (request : List Field) {asks : Step} → AsksFor key request asks → StepTakes run turn asks → answer.Miss why ≡ step_answer run turn asks → LooksHere run key request why
  looks_here request Reads.AsksFor.gets takes said = get_here request run.state refl takes (sym said)
  looks_here request (Reads.AsksFor.opens name) takes said = open_here name request run.state refl takes (sym said)
