-- What lines answer of faults and of damage rests on calls of their devices.
use Rattle.std.proofs.Common.{◌≡◌, ℕ, ◌+◌, ◌<◌, ◌≤◌, List, [], ◌∷◌, ◌++◌, length, refl, sym, ◌∙◌, ap, subst, arith, length-append, append_assoc, inl, inr, Bool, true, false, append-nil}
use Rattle.std.specs.Prelude.{Option, Some, None, option_map, unwrap_or, if◌then◌else◌}
use Rattle.std.proofs.lemmas.Bool.{false_from_ne_true}
use Rattle.device_log.specs.Causes.{Rose}
use Rattle.logged_disk.specs.Device.{DeviceState as Device, TellsAll}
use Rattle.tape_base.specs.declared.pieces.PieceId.{PieceId}
use Rattle.cache_model.specs.declared.cause.Cause.{Cause}
use Rattle.cache_model.specs.declared.cause.Cause.TheVariants as cause
use Rattle.cache_model.specs.declared.record.Rec.{Rec}
use Rattle.cache_model.specs.declared.record.Rec.TheVariants as rec
use Rattle.cache_model.specs.State.{State, after_all, state_after, AllAlong}
use Rattle.cache_model.specs.Damage.{has_damage, is_damage}
use Rattle.cache_model.specs.Permit.{IsAmong, Permit}
use Rattle.cache_model.proofs.Found.{no_truth, none_is}
use Rattle.step_laws.specs.StepLaws.{FaultsRise, IsRisen}
use Rattle.script_grammar.specs.declared.answer.Refused.TheVariants as refused
use Rattle.script_grammar.specs.declared.answer.StepAnswer.{StepAnswer}
use Rattle.script_grammar.specs.declared.answer.StepAnswer.TheVariants as answer
use Rattle.script_grammar.specs.declared.line.LineAnswer.TheVariants as line
use Rattle.script_grammar.specs.declared.step.Step.{Step}
use Rattle.device_log.specs.Calls.{RefusedCall}
use Rattle.script_run.specs.Goes.{begins_session}
use Rattle.script_run.specs.Run.{Harm, Run, fresh, at_hand}
use Rattle.script_run.specs.Turn.{Turn, calls_in}
use Rattle.script_run.specs.Asked.{asked}
use Rattle.script_run.specs.Answers.{session_said}
use Rattle.script_run.specs.Behind.{after_step, harm_in, harm_of, harms_of, harm_of_format}
use Rattle.script_run.specs.Losses.{NoLossIsAFault, is_fault}
use Rattle.script_run.specs.Takes.{SessionTakes, run_after}
use Rattle.script_run.proofs.Listed.{is_among}
use Rattle.script_laws.specs.Causes
use Rattle.script_laws.specs.Causes.{AnswersAreTraced, IsTraced, cause_answered, cause_given}
use Rattle.script_laws.specs.Damages.{DamageIsRecorded, DamageStays}
use Rattle.script_laws.specs.Runs.{answers_damage, answers_fault}
use Rattle.script_laws.specs.Troubles.{FaultIsRecorded}
use Rattle.run_promise.specs.Outline.{count_in}
use Rattle.headline.specs.Account.{Account, ComeBackFrom, HistoryTells, IsDeviceBehind, RunAnswers, RunLogs, sessions_begun, IsDeviceAt, IsDeviceOf, begun_in}
use Rattle.headline.specs.Causes.{WasRefusedInLine, LogHasCalls}
use Rattle.headline.specs.Reads.{DidBefore}
use Rattle.account_laws.proofs.Along.{AreSeen, IsSeen, all_seen, device_seen, no_loss, run_length}
use Rattle.account_laws.proofs.Counting.{counts_are_reached}
use Rattle.account_laws.proofs.Places.{Found, OnSession, kind_of, told_line, OnFormat}

-- ---- a line that an account tells, on a session

module _ (l : RunLogs) (a : Account l) (lines : List (List ℕ)) (asks : Step) (said : StepAnswer) (f : Found fresh a.turns lines asks said (run_after fresh a.told a.turns)) where
  abbrev Before : Run
  Before = run_after fresh lines f.earlier

  abbrev On : Type 0
  On = OnSession Before f.turn Before.state asks

  -- the harm of the session behind the line, and that of those before it
  behind_is : (on : On) → harms_of (after_step Before f.turn asks) ≡ Before.ended ++ harm_in (calls_in f.turn ++ Before.calls) (after_all on.s f.turn.added) ∷ []
  behind_is on = ap harms_of on.next

  begun_is : (on : On) → sessions_begun lines ≡ length Before.ended + 1
  begun_is on =
      let all : length (harms_of Before) ≡ length (harms_of fresh) + sessions_begun lines = run_length lines f.earlier fresh f.legal in
      let here : length (harms_of Before) ≡ length (Before.ended ++ harm_in Before.calls on.s ∷ []) = ap (λ (o : Option State). length (Before.ended ++ harm_of Before.calls (at_hand o Before.last))) on.state in
      omega (arith, all, here, length-append Before.ended (harm_in Before.calls on.s ∷ []))

  -- what the devices that came back show of the run behind the line
  pub come : ComeBackFrom l (harms_of (run_after (after_step Before f.turn asks) f.after f.later))
  come = subst (λ (run : Run). ComeBackFrom l (harms_of run)) f.ends a.recorded

  pub seen_behind : (law : DamageStays) → AreSeen (harms_of (after_step Before f.turn asks)) come.devices
  seen_behind law = all_seen law l (after_step Before f.turn asks) f.after f.later f.goes come

  -- a line on a session is answered of the device before it
  pub own_device : (device : Device) → IsDeviceOf l lines asks device → On → IsDeviceBehind l lines device
  own_device device at on = subst (λ n. IsDeviceAt l n device) (none_more (sessions_begun lines) (begins_session asks) on.session) at
    where
      none_more : (n : ℕ) (b : Bool) → b ≡ false → n + (if b then 1 else 0) ≡ n
      none_more n b e = subst (λ x. n + (if x then 1 else 0) ≡ n) (sym e) (omega arith)

  pub line_seen : (law : DamageStays) (device : Device) → IsDeviceBehind l lines device → (on : On) → IsSeen (harm_in (calls_in f.turn ++ Before.calls) (after_all on.s f.turn.added)) device
  line_seen law device at on =
      device_seen l (sessions_begun lines) device Before.ended (harm_in (calls_in f.turn ++ Before.calls) (after_all on.s f.turn.added)) come.devices come.returned
      (subst (λ (hs : List Harm). AreSeen hs come.devices) (behind_is on) (seen_behind law)) at (begun_is on)

  -- a format whose device refused a call is answered of that one, which made no other
  format_seen : (law : DamageStays) (device : Device) → IsDeviceOf l lines asks device → (on : OnFormat Before f.turn asks) → IsSeen (harm_of_format f.turn.device.events on.count) device
  format_seen law device at on =
      let h : Harm = harm_of_format f.turn.device.events on.count in
      let all : length (harms_of Before) ≡ length (harms_of fresh) + sessions_begun lines = run_length lines f.earlier fresh f.legal in
      device_seen l (sessions_begun lines + begun_in (line.Step asks)) device (harms_of Before) h come.devices come.returned
      (subst (λ (hs : List Harm). AreSeen hs come.devices) (ap harms_of on.next ∙ append-nil (harms_of Before ++ h ∷ [])) (seen_behind law)) at
      (one_more (sessions_begun lines) (length (harms_of Before)) (begins_session asks) on.begins (omega (arith, all)))
    where
      one_more : (n m : ℕ) (b : Bool) → b ≡ true → m ≡ n → n + (if b then 1 else 0) ≡ m + 1
      one_more n m b e same = ap (λ x. n + (if x then 1 else 0)) e ∙ ap (λ k. k + 1) (sym same)

  abbrev pub did_before : DidBefore a.turns lines
  did_before = record { earlier = f.earlier; turn = f.turn; later = f.later; turns_are = f.turns_are; legal = f.legal }

  pub answer_is : (on : On) → said ≡ session_said Before on.s (after_all on.s f.turn.added) f.turn asks
  answer_is on = f.is ∙ on.said

  pub losses : (on : On) → NoLossIsAFault on.s
  losses on = no_loss lines f.earlier on.s f.legal on.state

-- ---- causes that are named

pub named_is : (test : Cause → Bool) (o : Option Cause) → unwrap_or (option_map test o) false ≡ true → (why : Cause) × (o ≡ Some why) × (test why ≡ true)
named_is test None e = no_truth (sym e)
named_is test (Some why) e = (why, refl, e)

-- ---- faults

-- no count of a fault that is recorded is 0
above_none : (before now : ℕ) → Rose before now → 0 < now
above_none before now h = omega (arith, h)

risen_above : (p : Permit) (s : State) (recs : List Rec) (count : ℕ) → AllAlong (IsRisen p) s recs → IsAmong (rec.Fault count) recs → 0 < count
risen_above p s [] count along among = absurd among
risen_above p s (r ∷ recs) count along (inl same) = above_none s.fault count (subst (IsRisen p s) (sym same) along.0).0
risen_above p s (r ∷ recs) count along (inr later) = risen_above p (state_after s r) recs count along.1 later

-- a cause that is a fault was recorded in the line
fault_given : (r : Rec) (count : ℕ) → cause_given r ≡ Some (cause.DeviceFault count) → r ≡ rec.Fault count
fault_given (rec.Fault other) count h = cc
fault_given (rec.Displaced piece segment live) count h = absurd cc
fault_given (rec.Damaged piece place kept found) count h = absurd cc
fault_given _ count h = none_is h

fault_traced : (s : State) (added : List Rec) (count : ℕ) → NoLossIsAFault s → IsTraced s added (cause.DeviceFault count) → IsAmong (rec.Fault count) added
fault_traced s added count none (Causes.IsTraced.stands e) = no_truth (sym e)
fault_traced s added count none (Causes.IsTraced.lost piece h) =
    no_truth (is_among (λ (lost : PieceId × Cause). is_fault lost.1 ≡ false) (piece, cause.DeviceFault count) s.lost none h)
fault_traced s added count none (Causes.IsTraced.recorded g) = subst (λ r. IsAmong r added) (fault_given g.r count g.gives) g.among

-- the count of a cause that an answer names is the one that it tells
count_named : (said : StepAnswer) (count : ℕ) → cause_answered said ≡ Some (cause.DeviceFault count) → count_in said ≡ count
count_named (answer.Miss why) count e = let same : why ≡ cause.DeviceFault count = cc in ap (λ w. count_in (answer.Miss w)) same
count_named (answer.Broken why) count e = let same : why ≡ cause.DeviceFault count = cc in ap (λ w. count_in (answer.Broken w)) same
count_named (answer.Absent why) count e = let same : why ≡ cause.DeviceFault count = cc in ap (λ w. count_in (answer.Absent w)) same
count_named (answer.Refused (refused.Lost index why) took) count e = let same : why ≡ cause.DeviceFault count = cc in ap (λ w. count_in (answer.Refused (refused.Lost index w) took)) same
count_named _ count e = none_is e

module _ (recorded : FaultIsRecorded) (traced : AnswersAreTraced) (rise : FaultsRise) (run : Run) (s : State) (turn : Turn) (asks : Step) (takes : SessionTakes run s turn asks) (none : NoLossIsAFault s) where
  abbrev Said : StepAnswer
  Said = session_said run s (after_all s turn.added) turn asks

  named_above : (why : Cause) → cause_answered Said ≡ Some why → is_fault why ≡ true → 0 < count_in Said
  named_above (cause.DeviceFault count) e fault =
      let above : 0 < count = risen_above turn.device s turn.added count (rise turn.device s (asked run s asks) turn.added turn.refused takes.legal)
      (fault_traced s turn.added count none (traced run s turn asks (cause.DeviceFault count) takes e)) in
      subst (λ n. 0 < n) (sym (count_named Said count e)) above
  named_above _ e fault = no_truth (sym fault)

  -- each fault that the line answers or names has a count
  above_of : (said : StepAnswer) → Said ≡ said → answers_fault said ≡ true → 0 < count_in said
  above_of (answer.DeviceFault count took) is fault = above_none s.fault count (recorded run s turn asks count took takes none is).risen
  above_of said is fault =
      let named = named_is is_fault (cause_answered said) fault in
      subst (λ x. 0 < count_in x) is (named_above named.0 (ap cause_answered is ∙ named.1) named.2)

-- a line that is told is a line
answers_too : (l : RunLogs) (a : Account l) (lines : List (List ℕ)) (asks : Step) (said : StepAnswer) → HistoryTells a lines asks said → RunAnswers a lines asks said
answers_too l a lines asks said at = record {
  bytes = at.bytes;
  reading = at.reading;
  later = at.later ++ a.left;
  lines_are = a.are ∙ (ap (λ (xs : List (List ℕ)). xs ++ a.left) at.lines_are ∙ append_assoc lines (at.bytes ∷ at.later) a.left);
  front = at.front;
  rest = at.rest ++ a.rest;
  answers_are = a.says ∙ (ap (λ (xs : List (Option StepAnswer)). xs ++ a.rest) at.answers_are ∙ append_assoc at.front (Some said ∷ at.rest) a.rest);
  as_many = at.as_many;
}

none_above : (n most : ℕ) → most ≡ 0 → n ≤ most → 0 < n → ⊥
none_above n most none within above = omega (arith, none, within, above)

pub no_false_faults : (recorded : FaultIsRecorded) (traced : AnswersAreTraced) (rise : FaultsRise) (l : RunLogs) (a : Account l) (lines : List (List ℕ)) (asks : Step) (said : StepAnswer) (device : Device)
    → HistoryTells a lines asks said → IsDeviceOf l lines asks device → device.faults ≡ 0 → answers_fault said ≡ false
no_false_faults recorded traced rise l a lines asks said device at which none =
    let f = told_line l a lines asks said at in
    let run : Run = run_after fresh lines f.earlier in
    let within : count_in said ≤ device.faults = counts_are_reached l a lines asks said device (answers_too l a lines asks said at) which in
    elim (kind_of run f.turn asks f.takes) [
      | inl on ↦ false_from_ne_true (answers_fault said) (λ e.
          none_above (count_in said) device.faults none within
          (above_of recorded traced rise run on.s f.turn asks on.takes (losses l a lines asks said f on) said (sym (answer_is l a lines asks said f on)) e))
      | inr other ↦ elim other [
        | inl on ↦ absurd (none_above (count_in said) device.faults none within (subst (λ n. 0 < n) (sym (ap count_in (f.is ∙ on.said))) on.refuses.1))
        | inr u ↦ ap answers_fault f.is ∙ u.no_fault
      ]
    ]

same_count : (count other : ℕ) (took : Option ℕ) → answer.DeviceFault count took ≡ answer.DeviceFault other None → other ≡ count
same_count count other took h = cc

pub faults_were_refused : (recorded : FaultIsRecorded) (law : DamageStays) (l : RunLogs) (a : Account l) (lines : List (List ℕ)) (asks : Step) (count : ℕ) (took : Option ℕ) (device : Device)
    → HistoryTells a lines asks (answer.DeviceFault count took) → IsDeviceOf l lines asks device → WasRefusedInLine a.turns lines asks device count
faults_were_refused recorded law l a lines asks count took device at which =
    let said : StepAnswer = answer.DeviceFault count took in
    let f = told_line l a lines asks said at in
    let run : Run = run_after fresh lines f.earlier in
    elim (kind_of run f.turn asks f.takes) [
      | inl on ↦
          let seen = line_seen l a lines asks said f law device (own_device l a lines asks said f device which on) on in
          let fault = recorded run on.s f.turn asks count took on.takes (losses l a lines asks said f on) (sym (answer_is l a lines asks said f on)) in
          record {
            did = did_before l a lines asks said f;
            made = subst (λ b. LogHasCalls f.turn.device.events (if b then [] else run.calls) device) (sym on.session) (record {
              newer = seen.calls.later ++ f.turn.told;
              is = seen.calls.is
                  ∙ (ap (λ calls. seen.calls.later ++ calls) (append_assoc f.turn.told f.turn.device.events run.calls)
                  ∙ sym (append_assoc seen.calls.later f.turn.told (f.turn.device.events ++ run.calls)));
            });
            asked = fault.counted.0;
            refused = fault.counted.1;
          }
      | inr other ↦ elim other [
        | inl on ↦
            let seen = format_seen l a lines asks said f law device which on in
            let all : device.past ≡ seen.calls.later ++ (f.turn.device.events ++ []) = seen.calls.is ∙ ap (λ calls. seen.calls.later ++ calls) (sym (append-nil f.turn.device.events)) in
            record {
              did = did_before l a lines asks said f;
              made = subst (λ b. LogHasCalls f.turn.device.events (if b then [] else run.calls) device) (sym on.begins) (record { newer = seen.calls.later; is = all });
              asked = on.refuses.0.0;
              refused = subst (λ n. IsAmong (RefusedCall on.refuses.0.0 n) f.turn.device.events) (same_count count on.count took (f.is ∙ on.said)) on.refuses.0.1;
            }
        | inr u ↦ no_truth (ap answers_fault f.is ∙ u.no_fault)
      ]
    ]

-- ---- damage

pub no_false_damage : (recorded : DamageIsRecorded) (law : DamageStays) (l : RunLogs) (a : Account l) (lines : List (List ℕ)) (asks : Step) (said : StepAnswer) (device : Device)
    → HistoryTells a lines asks said → IsDeviceBehind l lines device → TellsAll device → answers_damage said ≡ false
no_false_damage recorded law l a lines asks said device at which tells =
    let f = told_line l a lines asks said at in
    let run : Run = run_after fresh lines f.earlier in
    elim (kind_of run f.turn asks f.takes) [
      | inl on ↦
          let none : has_damage (after_all on.s f.turn.added) ≡ false = (line_seen l a lines asks said f law device which on).unharmed tells in
          false_from_ne_true (answers_damage said) (λ e.
          let named = named_is is_damage (cause_answered said) e in
          no_truth (sym (recorded run on.s f.turn asks named.0 on.takes (ap cause_answered (sym (answer_is l a lines asks said f on)) ∙ named.1) named.2) ∙ none))
      | inr other ↦ elim other [
        | inl on ↦ ap answers_damage (f.is ∙ on.said)
        | inr u ↦ ap answers_damage f.is ∙ u.no_damage
      ]
    ]
