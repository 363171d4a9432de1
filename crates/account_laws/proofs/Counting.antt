-- No line answers a count of faults above that of its device.
use Rattle.std.proofs.Common.{◌≡◌, ℕ, ◌+◌, ◌≤◌, List, [], ◌∷◌, ◌++◌, length, refl, sym, ◌∙◌, ap, subst, arith, length-append, append-nil, inl, inr}
use Rattle.script_grammar.specs.declared.answer.StepAnswer.TheVariants as answer
use Rattle.std.specs.Prelude.{Option, Some, None, option_map, IsSome, if◌then◌else◌, is_none}
use Rattle.std.proofs.lemmas.List.{append_cancel_left}
use Rattle.tape_base.specs.declared.geometries.BadGeometry.{BadGeometry}
use Rattle.tape_base.specs.Limits.{first_refusal}
use Rattle.logged_disk.specs.Device.{DeviceState as Device}
use Rattle.script_grammar.specs.declared.line.LineAnswer.{LineAnswer}
use Rattle.script_grammar.specs.declared.step.Step.{Step}
use Rattle.script_grammar.specs.declared.step.Step.TheVariants as step
use Rattle.script_grammar.specs.declared.answer.StepAnswer.{StepAnswer}
use Rattle.script_grammar.specs.Grammar.{reading_of}
use Rattle.script_run.specs.Run.{Harm, loosened, no_harm}
use Rattle.script_run.specs.Ledger.{IsReached}
use Rattle.run_promise.specs.Outline.{IsAnswered, Outline, all_told, blank_outline, count_in, outline_after, raised, told_of, IsFormatAnswer, IsSwitchAnswer, attached, begun, with_told_count}
use Rattle.run_promise.specs.Lines.{AreAnswered, IsReadAs, outline_of, outline_read}
use Rattle.headline.specs.Account.{Account, AreBack, ComeBackFrom, RunAnswers, RunLogs, sessions_begun, IsDeviceAt, IsDeviceOf}
use Rattle.account_laws.proofs.Devices.{come_within}
use Rattle.account_laws.proofs.Outlines.{outline_length, outline_split, outline_within, split_answers}

-- ---- the device at a place

device_at : (xs : List Harm) (h : Harm) (earlier : List Device) (device : Device) (later : List Device) → AreBack (xs ++ h ∷ []) (earlier ++ device ∷ later) → length earlier ≡ length xs
    → IsReached (loosened h) device
device_at [] h [] device later back n = back.0
device_at [] h (d ∷ earlier) device later back n = absurd (omega (arith, n))
device_at (x ∷ xs) h [] device later back n = absurd (omega (arith, n))
device_at (x ∷ xs) h (d ∷ earlier) device later back n = device_at xs h earlier device later back.1 (omega (arith, n))

pub device_of : (l : RunLogs) (xs : List Harm) (h : Harm) (n : ℕ) (device : Device) → ComeBackFrom l (xs ++ h ∷ []) → IsDeviceAt l n device → n ≡ length xs + 1
    → IsReached (loosened h) device
device_of l xs h n device come at begun =
    let same : come.devices ≡ at.earlier ++ device ∷ at.later = append_cancel_left l.before.returned come.devices (at.earlier ++ device ∷ at.later) (sym come.returned ∙ at.returned) in
    device_at xs h at.earlier device at.later (subst (λ (ds : List Device). AreBack (xs ++ h ∷ []) ds) same come.told) (omega (arith, begun, at.which))

-- ---- a line

module _ (l : RunLogs) (lines : List (List ℕ)) (device : Device) where
  session_counts : (ended : List Harm) (session : Option Harm) (count : ℕ) → IsSome session → ComeBackFrom l (ended ++ told_of (option_map (raised count) session))
      → IsDeviceAt l (sessions_begun lines + 0) device → sessions_begun lines ≡ length (ended ++ told_of session) → count ≤ device.faults
  session_counts ended None count some come at begun = absurd cc
  session_counts ended (Some h) count some come at begun =
      let reached = device_of l ended (raised count h) (sessions_begun lines + 0) device come at (omega (arith, begun, length-append ended (h ∷ []))) in
      omega (arith, reached.counted)

  none_is : (count : ℕ) → count ≡ 0 → count ≤ device.faults
  none_is count e = omega (arith, e)

  -- a device that refused a call of its format counted it
  format_counts : (o : Outline) (name : List ℕ) (content agg : ℕ) (said : StepAnswer) (bad : Option BadGeometry) → IsFormatAnswer content agg said bad
      → ComeBackFrom l (all_told (with_told_count (begun o name said bad) (count_in said)))
      → IsDeviceAt l (sessions_begun lines + (if is_none bad then 1 else 0)) device → sessions_begun lines ≡ length (all_told o) → count_in said ≤ device.faults
  format_counts o name content agg said (Some bad) is come at begun = none_is (count_in said) (ap count_in is)
  format_counts o name content agg said None (inl is) come at begun = none_is (count_in said) (ap count_in is)
  format_counts o name content agg said None (inr fault) come at begun =
      let h : Harm = raised fault.0 no_harm in
      let back : ComeBackFrom l (all_told o ++ h ∷ []) =
      subst (ComeBackFrom l) (append-nil (all_told o ++ h ∷ [])) (subst (λ x. ComeBackFrom l (all_told (with_told_count (attached o name x) (count_in x)))) fault.2 come) in
      let reached = device_of l (all_told o) h (sessions_begun lines + 1) device back at (omega (arith, begun)) in
      omega (arith, reached.counted, ap count_in fault.2)

  -- a line for a switch tells no fault
  switch_counts : (told said : StepAnswer) → count_in told ≡ 0 → IsSwitchAnswer told said → count_in said ≤ device.faults
  switch_counts told said none (inl is) = none_is (count_in said) (ap count_in is ∙ none)
  switch_counts told said none (inr is) = none_is (count_in said) (ap count_in is)

  step_counts : (o : Outline) (asks : Step) (said : StepAnswer) → IsAnswered o asks said → ComeBackFrom l (all_told (outline_after o asks said)) → IsDeviceOf l lines asks device
      → sessions_begun lines ≡ length (all_told o) → count_in said ≤ device.faults
  step_counts o (step.Format name segments buckets content agg reach fragment generation alternates) said is come at begun =
      format_counts o name content agg said (first_refusal segments buckets content agg reach fragment alternates) is.fixed come at begun
  step_counts o (step.Now moment) said is come at begun = none_is (count_in said) (ap count_in is.fixed)
  step_counts o (step.Fail nth) said is come at begun = switch_counts answer.Armed said refl is.fixed
  step_counts o (step.StopAfter calls) said is come at begun = switch_counts answer.Armed said refl is.fixed
  step_counts o (step.Flip place byte) said is come at begun = switch_counts answer.Flipped said refl is.fixed
  step_counts o (step.Cut choice) said is come at begun = switch_counts answer.Cut said refl is.fixed
  step_counts o _ said is come at begun = session_counts o.ended o.session (count_in said) (is.session tt) come at begun

pub counts_are_reached : (l : RunLogs) (a : Account l) (lines : List (List ℕ)) (asks : Step) (said : StepAnswer) (device : Device) → RunAnswers a lines asks said → IsDeviceOf l lines asks device
    → count_in said ≤ device.faults
counts_are_reached l a lines asks said device at which =
    let by_lines : AreAnswered blank_outline (lines ++ at.bytes ∷ at.later) a.answers = subst (λ (xs : List (List ℕ)). AreAnswered blank_outline xs a.answers) at.lines_are a.each in
    let are : AreAnswered blank_outline (lines ++ at.bytes ∷ at.later) (at.front ++ Some said ∷ at.rest) =
    subst (λ (ys : List (Option StepAnswer)). AreAnswered blank_outline (lines ++ at.bytes ∷ at.later) ys) at.answers_are by_lines in
    let split = split_answers blank_outline lines at.bytes at.later at.front (Some said) at.rest at.as_many are in
    let o : Outline = outline_of blank_outline lines at.front in
    let next : Outline = outline_read o (reading_of at.bytes) (Some said) in
    let same : outline_of blank_outline a.lines a.answers ≡ outline_of next at.later at.rest =
    ap (λ (xs : List (List ℕ)). outline_of blank_outline xs a.answers) at.lines_are
    ∙ (ap (λ (ys : List (Option StepAnswer)). outline_of blank_outline (lines ++ at.bytes ∷ at.later) ys) at.answers_are
    ∙ outline_split blank_outline lines at.bytes at.later at.front (Some said) at.rest at.as_many) in
    let last : ComeBackFrom l (all_told (outline_of next at.later at.rest)) = subst (λ (x : Outline). ComeBackFrom l (all_told x)) same a.answered in
    let come : ComeBackFrom l (all_told next) = come_within l (all_told next) (all_told (outline_of next at.later at.rest)) (outline_within next at.later at.rest) last in
    let here : IsAnswered o asks said = subst (λ (r : LineAnswer). IsReadAs o r (Some said)) at.reading split.here in
    step_counts l lines device o asks said here
    (subst (λ (r : LineAnswer). ComeBackFrom l (all_told (outline_read o r (Some said)))) at.reading come) which
    (omega (arith, outline_length blank_outline lines at.front split.first))
