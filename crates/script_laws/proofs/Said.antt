-- Where the causes and the faults come from that a line answers.
use Rattle.std.proofs.Common.{◌≡◌, ℕ, List, [], ◌∷◌, Bool, true, false, refl, subst, inl, inr, ◌⊎◌, append-nil}
use Rattle.std.specs.Prelude.{Option, Some, None, if◌then◌else◌, length, option_map, unwrap_or}
use Rattle.tape_base.specs.declared.keys.Key.{Key}
use Rattle.cache_model.specs.declared.cause.Cause.{Cause}
use Rattle.cache_model.specs.declared.cause.Cause.TheVariants as cause
use Rattle.cache_model.specs.declared.answer.ReadAnswer.{ReadAnswer}
use Rattle.cache_model.specs.declared.answer.ReadAnswer.TheVariants as read
use Rattle.cache_model.specs.declared.record.Rec.{Rec}
use Rattle.cache_model.specs.declared.record.Rec.TheVariants as rec
use Rattle.cache_model.specs.State.{State, PutRow, after_all, floor_now, fragment_piece, put_of}
use Rattle.cache_model.specs.Permit.{IsAmong, Reason, ManyWriters, Exhausted, ManyFragments, TooLarge, Lost, Faulted, SyncRuns, NoSync, StillOpen, StillMoving}
use Rattle.cache_model.specs.Verdict.{cause_of_piece}
use Rattle.cache_model.specs.Legal.{IsStep}
use Rattle.cache_model.proofs.Found.{none_is}
use Rattle.script_grammar.specs.declared.step.Step.{Step}
use Rattle.script_grammar.specs.declared.step.Step.TheVariants as step
use Rattle.script_grammar.specs.declared.answer.Refused.TheVariants as refusing
use Rattle.script_grammar.specs.declared.answer.StepAnswer.{StepAnswer}
use Rattle.script_grammar.specs.declared.answer.StepAnswer.TheVariants as answer
use Rattle.device_log.specs.Calls.{Call}
use Rattle.script_run.specs.Run.{Run, Holding, held_by, reader_by, put_written_by}
use Rattle.script_run.specs.Turn.{Turn, is_told, later, lookup_in, told_in}
use Rattle.script_run.specs.Asked.{asked}
use Rattle.script_run.specs.Takes.{SessionTakes}
use Rattle.script_run.specs.Answers.{broken_said, cause_of_lost, end_said, get_said, if_free, if_has, lookup_said, miss_said, next_said, put_said, refusal_said, remove_said, said, session_said, switch_said, took_of}
use Rattle.script_laws.specs.Causes
use Rattle.script_laws.specs.Causes.{IsTraced, cause_answered, cause_told}
use Rattle.script_laws.proofs.Losses.{traced_right}
use Rattle.script_laws.proofs.Standing.{of_miss, of_piece}
use Rattle.script_laws.proofs.Walking.{causes_are_traced}

-- a record among these tells the cause
pub record IsToldBy (added : List Rec) (why : Cause) : Type 0 where
  pub r : Rec
  pub among : IsAmong r added
  pub tells : cause_told r ≡ Some why

told_first : (r : Rec) (recs : List Rec) (why : Cause) → cause_told r ≡ Some why → IsToldBy (r ∷ recs) why
told_first r recs why e = record { r = r; among = inl refl; tells = e }

told_later : (r : Rec) (recs : List Rec) (why : Cause) → IsToldBy recs why → IsToldBy (r ∷ recs) why
told_later r recs why t = record { r = t.r; among = inr t.among; tells = t.tells }

-- ---- lookups

look_told : (recs : List Rec) (why : Cause) → lookup_in recs ≡ Some (read.Miss why) → IsToldBy recs why
look_told [] why h = none_is h
look_told (rec.ReadOpened reader actor key request answer ∷ recs) why h =
    let same : answer ≡ read.Miss why = cc in
    told_first (rec.ReadOpened reader actor key request answer) recs why (rw same refl)
look_told (rec.Formatted geometry ∷ recs) why h = told_later _ recs why (look_told recs why h)
look_told (rec.Opened geometry serial cursor floor next_put clean list ∷ recs) why h = told_later _ recs why (look_told recs why h)
look_told (rec.Began cursor floor ∷ recs) why h = told_later _ recs why (look_told recs why h)
look_told (rec.Placed piece place blocks digest pin ∷ recs) why h = told_later _ recs why (look_told recs why h)
look_told (rec.Moved piece from place digest ∷ recs) why h = told_later _ recs why (look_told recs why h)
look_told (rec.Unsaved piece place fault ∷ recs) why h = told_later _ recs why (look_told recs why h)
look_told (rec.Displaced piece segment live ∷ recs) why h = told_later _ recs why (look_told recs why h)
look_told (rec.Damaged piece place kept found ∷ recs) why h = told_later _ recs why (look_told recs why h)
look_told (rec.WriteOpened actor put key request response pin ∷ recs) why h = told_later _ recs why (look_told recs why h)
look_told (rec.Cut put index length digest ∷ recs) why h = told_later _ recs why (look_told recs why h)
look_told (rec.Committed put key length listed ∷ recs) why h = told_later _ recs why (look_told recs why h)
look_told (rec.Aborted put key ∷ recs) why h = told_later _ recs why (look_told recs why h)
look_told (rec.Removed put key ∷ recs) why h = told_later _ recs why (look_told recs why h)
look_told (rec.Gave reader index length ∷ recs) why h = told_later _ recs why (look_told recs why h)
look_told (rec.Ended reader length ∷ recs) why h = told_later _ recs why (look_told recs why h)
look_told (rec.Waited reader cut ∷ recs) why h = told_later _ recs why (look_told recs why h)
look_told (rec.Broke reader cause ∷ recs) why h = told_later _ recs why (look_told recs why h)
look_told (rec.ReadClosed reader ∷ recs) why h = told_later _ recs why (look_told recs why h)
look_told (rec.SyncBegun serial cursor clean in_parts ∷ recs) why h = told_later _ recs why (look_told recs why h)
look_told (rec.SyncDone serial ∷ recs) why h = told_later _ recs why (look_told recs why h)
look_told (rec.Fault count ∷ recs) why h = told_later _ recs why (look_told recs why h)

-- ---- readers

-- a break that is told is told by its record
break_told : (r : Rec) (reader : ℕ) (why : Cause) → is_told r ≡ Some (rec.Broke reader why) → cause_told r ≡ Some why
break_told (rec.Broke other cause) reader why h = cc
break_told (rec.Gave other index length) reader why h = absurd cc
break_told (rec.Ended other length) reader why h = absurd cc
break_told (rec.Waited other cut) reader why h = absurd cc
break_told _ reader why h = none_is h

next_by : (r : Rec) (recs : List Rec) (reader : ℕ) (why : Cause) (o : Option Rec) → (o ≡ Some (rec.Broke reader why) → IsToldBy recs why)
    → later (is_told r) o ≡ Some (rec.Broke reader why) → IsToldBy (r ∷ recs) why
next_by r recs reader why None rest h = told_first r recs why (break_told r reader why h)
next_by r recs reader why (Some last) rest h = told_later r recs why (rest h)

next_told : (recs : List Rec) (reader : ℕ) (why : Cause) → told_in recs ≡ Some (rec.Broke reader why) → IsToldBy recs why
next_told [] reader why h = none_is h
next_told (r ∷ recs) reader why h = next_by r recs reader why (told_in recs) (next_told recs reader why) h

-- ---- what an answer tells

-- a device fault that is answered refused the line or is traced, and so is the cause of any other answer
abbrev pub IsSaid : State → Option Reason → List Rec → StepAnswer → Type 0
IsSaid s refused added (answer.DeviceFault count took) = (refused ≡ Some (Faulted count)) ⊎ IsTraced s added (cause.DeviceFault count)
IsSaid s refused added (answer.Miss why) = IsTraced s added why
IsSaid s refused added (answer.Broken why) = IsTraced s added why
IsSaid s refused added (answer.Absent why) = IsTraced s added why
IsSaid s refused added (answer.Refused (refusing.Lost index cause) took) = IsTraced s added cause
IsSaid s refused added _ = Unit {0}

module _ (s t : State) (turn : Turn) (told_traced : (why : Cause) → IsToldBy turn.added why → IsTraced s turn.added why)
    (stands_behind : (why : Cause) → IsTraced t [] why → IsTraced s turn.added why) where
  abbrev Says : StepAnswer → Type 0
  Says a = IsSaid s turn.refused turn.added a

  lost : (put index : ℕ) (o : Option PutRow) → IsTraced t [] (unwrap_or (option_map (λ (w : PutRow). cause_of_piece t (fragment_piece w.key put index)) o) cause.NeverPut)
  lost put index None = Causes.IsTraced.stands refl
  lost put index (Some w) = of_piece t [] (fragment_piece w.key put index)

  refusal : (took : Option ℕ) (why : Reason) → turn.refused ≡ Some why → Says (refusal_said t took why)
  refusal took ManyWriters e = tt
  refusal took Exhausted e = tt
  refusal took (ManyFragments put) e = tt
  refusal took (TooLarge put bytes) e = tt
  refusal took (Lost put index) e = stands_behind (cause_of_lost t put index) (lost put index (put_of t put))
  refusal took (Faulted count) e = inl e
  refusal took (SyncRuns serial) e = tt
  refusal took NoSync e = tt
  refusal took (StillOpen writers readers) e = tt
  refusal took (StillMoving blocks) e = tt

  or_refused : (took : Option ℕ) (o : Option Reason) (whole : StepAnswer) → turn.refused ≡ o → Says whole → Says (said t took o whole)
  or_refused took None whole e h = h
  or_refused took (Some why) whole e h = refusal took why e

  miss : (why : Cause) → IsTraced s turn.added why → Says (miss_said why)
  miss (cause.DeviceFault count) h = inr h
  miss _ h = h

  broken : (why : Cause) → IsTraced s turn.added why → Says (broken_said why)
  broken (cause.DeviceFault count) h = inr h
  broken _ h = h

  look : (reader : ℕ) (o : Option ReadAnswer) → lookup_in turn.added ≡ o → Says (lookup_said t reader o)
  look reader None e = tt
  look reader (Some (read.Hit put)) e = tt
  look reader (Some (read.Follow put)) e = tt
  look reader (Some (read.Miss why)) e = miss why (told_traced why (look_told turn.added why e))

  next : (given : List ℕ) (o : Option Rec) → told_in turn.added ≡ o → Says (next_said given o)
  next given None e = tt
  next given (Some (rec.Broke reader why)) e = broken why (told_traced why (next_told turn.added reader why e))
  next given (Some (rec.Formatted geometry)) e = tt
  next given (Some (rec.Opened geometry serial cursor floor next_put clean list)) e = tt
  next given (Some (rec.Began cursor floor)) e = tt
  next given (Some (rec.Placed piece place blocks digest pin)) e = tt
  next given (Some (rec.Moved piece from place digest)) e = tt
  next given (Some (rec.Unsaved piece place fault)) e = tt
  next given (Some (rec.Displaced piece segment live)) e = tt
  next given (Some (rec.Damaged piece place kept found)) e = tt
  next given (Some (rec.WriteOpened actor put k request response pin)) e = tt
  next given (Some (rec.Cut put index length digest)) e = tt
  next given (Some (rec.Committed put k length listed)) e = tt
  next given (Some (rec.Aborted put k)) e = tt
  next given (Some (rec.Removed put k)) e = tt
  next given (Some (rec.ReadOpened reader actor k request answer)) e = tt
  next given (Some (rec.Gave reader index length)) e = tt
  next given (Some (rec.Ended reader length)) e = tt
  next given (Some (rec.Waited reader cut)) e = tt
  next given (Some (rec.ReadClosed reader)) e = tt
  next given (Some (rec.SyncBegun serial cursor clean in_parts)) e = tt
  next given (Some (rec.SyncDone serial)) e = tt
  next given (Some (rec.Fault count)) e = tt

  at_end : (put : ℕ) (given : List ℕ) (o : Option Rec) → told_in turn.added ≡ o → Says (end_said put given o)
  at_end n given None e = tt
  at_end n given (Some (rec.Broke reader why)) e = broken why (told_traced why (next_told turn.added reader why e))
  at_end n given (Some (rec.Formatted geometry)) e = tt
  at_end n given (Some (rec.Opened geometry serial cursor floor next_put clean list)) e = tt
  at_end n given (Some (rec.Began cursor floor)) e = tt
  at_end n given (Some (rec.Placed piece place blocks digest pin)) e = tt
  at_end n given (Some (rec.Moved piece from place digest)) e = tt
  at_end n given (Some (rec.Unsaved piece place fault)) e = tt
  at_end n given (Some (rec.Displaced piece segment live)) e = tt
  at_end n given (Some (rec.Damaged piece place kept found)) e = tt
  at_end n given (Some (rec.WriteOpened actor put k request response pin)) e = tt
  at_end n given (Some (rec.Cut put index length digest)) e = tt
  at_end n given (Some (rec.Committed put k length listed)) e = tt
  at_end n given (Some (rec.Aborted put k)) e = tt
  at_end n given (Some (rec.Removed put k)) e = tt
  at_end n given (Some (rec.ReadOpened reader actor k request answer)) e = tt
  at_end n given (Some (rec.Gave reader index length)) e = tt
  at_end n given (Some (rec.Ended reader length)) e = tt
  at_end n given (Some (rec.Waited reader cut)) e = tt
  at_end n given (Some (rec.ReadClosed reader)) e = tt
  at_end n given (Some (rec.SyncBegun serial cursor clean in_parts)) e = tt
  at_end n given (Some (rec.SyncDone serial)) e = tt
  at_end n given (Some (rec.Fault count)) e = tt

  get : (given : List ℕ) (o : Option ReadAnswer) → lookup_in turn.added ≡ o → Says (get_said given (told_in turn.added) o)
  get given None e = tt
  get given (Some (read.Hit put)) e = at_end put given (told_in turn.added) refl
  get given (Some (read.Follow put)) e = tt
  get given (Some (read.Miss why)) e = miss why (told_traced why (look_told turn.added why e))

  feed : (took : ℕ) (whole : StepAnswer) (b : Bool) → Says whole
      → Says (if b then answer.Refused refusing.Sealed (Some 0) else said t (Some took) turn.refused whole)
  feed took whole true h = tt
  feed took whole false h = or_refused (Some took) turn.refused whole refl h

  removal : (key : Key) (recs : List Rec) → Says (remove_said s key recs)
  removal key [] = of_miss s turn.added key
  removal key (rec.Removed put k ∷ recs) = tt
  removal key _ = of_miss s turn.added key

  free : (o : Option Holding) (a : StepAnswer) → Says a → Says (if_free o a)
  free None a h = h
  free (Some holding) a h = tt

  has : (o : Option ℕ) (a : ℕ → StepAnswer) → ((n : ℕ) → Says (a n)) → Says (if_has o a)
  has None a h = tt
  has (Some n) a h = h n

  switch : (told : List Call) (a : StepAnswer) → Says a → Says (switch_said told a)
  switch [] a h = tt
  switch (call ∷ told) a h = h

  -- ---- what a line answers

  line : (run : Run) (step : Step) → Says (session_said run s t turn step)
  line run (step.Format name segments buckets content agg reach fragment generation alternates) = tt
  line run (step.Put key body request response) = or_refused None turn.refused (put_said t s.next_put) refl tt
  line run (step.Get key request) = get turn.given (lookup_in turn.added) refl
  line run (step.OpenWrite actor key pin request response) = free (held_by run actor) _ (or_refused None turn.refused (answer.Writer s.next_put) refl tt)
  line run (step.Feed actor body) = has (put_written_by run actor) _ (λ put. feed (took_of run t put) (answer.Took (length body)) (run.streams put).sealed tt)
  line run (step.Close actor) = has (put_written_by run actor) _ (λ put. or_refused None turn.refused (put_said t put) refl tt)
  line run (step.Abort actor) = has (put_written_by run actor) answer.Aborted (λ put. tt)
  line run (step.OpenRead actor key request) = free (held_by run actor) _ (look s.next_reader (lookup_in turn.added) refl)
  line run (step.Next actor) = has (reader_by run actor) _ (λ reader. next turn.given (told_in turn.added) refl)
  line run (step.Done actor) = has (reader_by run actor) _ (λ reader. tt)
  line run (step.Remove key) = removal key turn.added
  line run step.Flush = or_refused None turn.refused (answer.Flushed s.filled t.cursor (floor_now t) None) refl tt
  line run (step.Now at) = tt
  line run (step.Fail nth) = switch turn.told answer.Armed tt
  line run (step.StopAfter calls) = switch turn.told answer.Armed tt
  line run (step.Flip place byte) = switch turn.told answer.Flipped tt
  line run (step.Cut choice) = switch turn.told answer.Cut tt

pub line_said : (run : Run) (s : State) (turn : Turn) (step : Step) → IsStep turn.device s (asked run s step) turn.added turn.refused
    → IsSaid s turn.refused turn.added (session_said run s (after_all s turn.added) turn step)
line_said run s turn step h =
    line s (after_all s turn.added) turn (λ why t. causes_are_traced turn.device s (asked run s step) turn.added turn.refused h t.r why t.among t.tells)
    (λ why traced. subst (λ recs. IsTraced s recs why) (append-nil turn.added) (traced_right s turn.added [] why traced)) run step

-- ---- the cause that is answered

answered_by : (s : State) (refused : Option Reason) (added : List Rec) (a : StepAnswer) (why : Cause) → IsSaid s refused added a → cause_answered a ≡ Some why → IsTraced s added why
answered_by s refused added (answer.Miss cause) why said e = let same : cause ≡ why = cc in subst (IsTraced s added) same said
answered_by s refused added (answer.Broken cause) why said e = let same : cause ≡ why = cc in subst (IsTraced s added) same said
answered_by s refused added (answer.Absent cause) why said e = let same : cause ≡ why = cc in subst (IsTraced s added) same said
answered_by s refused added (answer.Refused (refusing.Lost index cause) took) why said e = let same : cause ≡ why = cc in subst (IsTraced s added) same said
answered_by s refused added (answer.Refused (refusing.Geometry number) took) why said e = none_is e
answered_by s refused added (answer.Refused refusing.TooManyWriters took) why said e = none_is e
answered_by s refused added (answer.Refused refusing.TooManyFragments took) why said e = none_is e
answered_by s refused added (answer.Refused (refusing.VectorTooLarge bytes) took) why said e = none_is e
answered_by s refused added (answer.Refused refusing.Sealed took) why said e = none_is e
answered_by s refused added (answer.Refused refusing.Exhausted took) why said e = none_is e
answered_by s refused added (answer.Refused refusing.Busy took) why said e = none_is e
answered_by s refused added (answer.Refused refusing.Idle took) why said e = none_is e
answered_by s refused added (answer.Refused refusing.NoSwitch took) why said e = none_is e
answered_by s refused added (answer.Refused (refusing.SyncRunning serial) took) why said e = none_is e
answered_by s refused added (answer.Refused refusing.NoSync took) why said e = none_is e
answered_by s refused added (answer.Refused (refusing.StillOpen writers readers) took) why said e = none_is e
answered_by s refused added (answer.Refused (refusing.StillMoving blocks) took) why said e = none_is e
answered_by s refused added (answer.Formatted serial cursor floor) why said e = none_is e
answered_by s refused added (answer.Put put length fragments) why said e = none_is e
answered_by s refused added (answer.Got put length bytes) why said e = none_is e
answered_by s refused added (answer.Follow put) why said e = none_is e
answered_by s refused added (answer.Writer put) why said e = none_is e
answered_by s refused added (answer.Took count) why said e = none_is e
answered_by s refused added (answer.Aborted put) why said e = none_is e
answered_by s refused added (answer.Hit put length) why said e = none_is e
answered_by s refused added (answer.Piece index length bytes) why said e = none_is e
answered_by s refused added (answer.End length) why said e = none_is e
answered_by s refused added (answer.NotYet cut) why said e = none_is e
answered_by s refused added answer.Done why said e = none_is e
answered_by s refused added (answer.Removed put) why said e = none_is e
answered_by s refused added (answer.Flushed blocks cursor floor synced) why said e = none_is e
answered_by s refused added (answer.Now at) why said e = none_is e
answered_by s refused added answer.Armed why said e = none_is e
answered_by s refused added answer.Flipped why said e = none_is e
answered_by s refused added answer.Cut why said e = none_is e
answered_by s refused added (answer.DeviceFault count took) why said e = none_is e

pub answers_are_traced : (run : Run) (s : State) (turn : Turn) (step : Step) (why : Cause) → SessionTakes run s turn step
    → cause_answered (session_said run s (after_all s turn.added) turn step) ≡ Some why → IsTraced s turn.added why
answers_are_traced run s turn step why takes answered =
    answered_by s turn.refused turn.added (session_said run s (after_all s turn.added) turn step) why (line_said run s turn step takes.legal) answered
