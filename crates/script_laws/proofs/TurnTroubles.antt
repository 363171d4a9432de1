-- What turns recorded of refused calls and damage was told of their devices.
use Rattle.std.proofs.Common.{◌≡◌, ℕ, ◌<◌, List, [], ◌∷◌, ◌++◌, Bool, true, false, refl, sym, ◌∙◌, subst, inl, inr}
use Rattle.std.specs.Prelude.{All}
use Rattle.std.specs.List.{AllByRecursion}
use Rattle.std.proofs.lemmas.Bool.{false_from_ne_true}
use Rattle.std.proofs.lemmas.List.Elements.{All-cons, All-head, All-nil}
use Rattle.device_log.specs.Calls.{Call}
use Rattle.tape_base.specs.declared.geometries.Geometry.{Geometry}
use Rattle.cache_model.specs.declared.record.Rec.{Rec}
use Rattle.cache_model.specs.declared.record.Rec.TheVariants as rec
use Rattle.cache_model.specs.State.{State, after_all}
use Rattle.cache_model.specs.Damage.{TellNoDamage, tells_damage}
use Rattle.cache_model.specs.Legal.{format_records}
use Rattle.cache_model.specs.Permit.{IsAmong, Permit}
use Rattle.cache_model.proofs.Found.{no_truth}
use Rattle.script_grammar.specs.declared.line.LineAnswer.{LineAnswer}
use Rattle.script_grammar.specs.declared.line.LineAnswer.TheVariants as line
use Rattle.script_grammar.specs.declared.step.Step.{Step}
use Rattle.script_grammar.specs.declared.answer.StepAnswer.{StepAnswer}
use Rattle.script_grammar.specs.Grammar.{reading_of}
use Rattle.script_run.specs.Run.{Harm, Run}
use Rattle.script_run.specs.Turn.{Turn, calls_in}
use Rattle.script_run.specs.Behind.{after_line, after_reading, harm_in, harm_of_format, harms_of}
use Rattle.script_run.specs.Goes.{StepGoes, begins, cuts_off, fails, stays, tells_bare, waits, works}
use Rattle.script_run.specs.Takes.{IsRun, ReadingTakes, run_after}
use Rattle.script_run.proofs.Lift.{goes}
use Rattle.script_run.proofs.Listed.{is_among}
use Rattle.step_laws.specs.StepLaws.{IsRefusalCount}
use Rattle.script_laws.specs.TurnTroubles.{TellNoFault, TellsRefusals, tells_fault}
use Rattle.script_laws.proofs.Damages.{told_among}
use Rattle.script_laws.proofs.Groups.{IsKept}
use Rattle.script_laws.proofs.Runs.{all_behind, all_front, faultless_before, none_below, undamaged_before}
use Rattle.script_laws.proofs.Walking.{told_behind, walked}

-- ---- a line

-- the records of each turn are such, where those of a format are, and those of a step on a session, by what was told of its device
module _ (Are : Permit → List Rec → Type 0) (Fine : Harm → Type 0)
    (none : (p : Permit) → Are p []) (formats : (p : Permit) (geometry : Geometry) → Are p (format_records geometry))
    (failed : (p : Permit) (count : ℕ) → IsRefusalCount p count → 0 < count → Fine (harm_of_format p.events count) → Are p (rec.Fault count ∷ []))
    (session : (p : Permit) (calls : List Call) (s : State) (recs : List Rec) → AllByRecursion (IsKept p) recs → Fine (harm_in calls (after_all s recs)) → Are p recs)
    (before : (run : Run) (lines : List (List ℕ)) (turns : List Turn) → IsRun run lines turns → All Fine (harms_of (run_after run lines turns)) → All Fine (harms_of run)) where
  by_step : (run : Run) (turn : Turn) {step : Step} {said : StepAnswer} {after : Run} → StepGoes run turn step said after → All Fine (harms_of after) → Are turn.device turn.added
  by_step run turn (stays bad same is) fine = subst (Are turn.device) (sym is) (none turn.device)
  by_step run turn (waits at same is) fine = subst (λ (t : Turn). Are t.device t.added) (sym is) (none _)
  by_step run turn (works s same e takes) fine =
      let calls : List Call = calls_in turn ++ run.calls in
      let last : Harm = harm_in calls (after_all s turn.added) in
      session turn.device calls s turn.added (walked takes.legal.grows).kept (All-head Fine last [] (all_behind Fine run.ended (last ∷ []) fine))
  by_step run turn (begins name g same is) fine = subst (Are turn.device) (sym is) (formats turn.device g)
  by_step run turn (fails name count same is refuses) fine =
      let h : Harm = harm_of_format turn.device.events count in
      subst (Are turn.device) (sym is)
      (failed turn.device count refuses.0 refuses.1
      (All-head Fine h [] (all_behind Fine (harms_of run) (h ∷ []) (all_front Fine (harms_of run ++ h ∷ []) [] fine))))
  by_step run turn (cuts_off choice s e cut) fine = subst (Are turn.device) (sym cut.only.added) (none turn.device)
  by_step run turn (tells_bare t same e last takes only) fine = subst (Are turn.device) (sym only.added) (none turn.device)

  by_reading : (run : Run) (turn : Turn) (reading : LineAnswer) → ReadingTakes run turn reading
      → All Fine (harms_of (after_reading run turn reading)) → Are turn.device turn.added
  by_reading run turn (line.Step step) takes fine = by_step run turn (goes run turn step takes) fine
  by_reading run turn line.Nothing takes fine = subst (λ (t : Turn). Are t.device t.added) (sym takes) (none _)
  by_reading run turn (line.Bad fault) takes fine = absurd takes

  -- ---- all lines

  each_turn : (run : Run) (lines : List (List ℕ)) (turns : List Turn) → IsRun run lines turns
      → All Fine (harms_of (run_after run lines turns))
      → AllByRecursion (λ (turn : Turn). Are turn.device turn.added) turns
  each_turn run [] [] is fine = tt
  each_turn run [] (turn ∷ turns) is fine = absurd is
  each_turn run (bytes ∷ lines) [] is fine = absurd is
  each_turn run (bytes ∷ lines) (turn ∷ turns) is fine =
      let next : Run = after_line run turn bytes in
      (by_reading run turn (reading_of bytes) is.0 (before next lines turns is.1 fine), each_turn next lines turns is.1 fine)

-- ---- records that are not there

none_tells : (tells : Rec → Bool) (recs : List Rec) → ((r : Rec) → IsAmong r recs → tells r ≡ true → ⊥)
    → AllByRecursion (λ r. tells r ≡ false) recs
none_tells tells [] never = tt
none_tells tells (r ∷ recs) never = (false_from_ne_true (tells r) (never r (inl refl)), none_tells tells recs (λ x among. never x (inr among)))

fault_above : (p : Permit) (s : State) (recs : List Rec) (r : Rec) → AllByRecursion (IsKept p) recs → (after_all s recs).fault ≡ 0
    → IsAmong r recs → tells_fault r ≡ true → ⊥
fault_above p s recs (rec.Fault count) kept none among tells = none_below (after_all s recs).fault none (told_behind p s recs count kept among)
fault_above p s recs r kept none among tells = no_truth (sym tells)

pub faultless_turns : (run : Run) (lines : List (List ℕ)) (turns : List Turn) → IsRun run lines turns
    → All (λ (harm : Harm). harm.fault ≡ 0) (harms_of (run_after run lines turns))
    → AllByRecursion (λ (turn : Turn). TellNoFault turn.added) turns
faultless_turns =
    each_turn (λ p recs. TellNoFault recs) (λ harm. harm.fault ≡ 0) (λ p. tt) (λ p geometry. (refl, (refl, tt)))
    (λ p count refuses some fine. absurd (none_below count fine some))
    (λ p calls s recs kept fine. none_tells tells_fault recs (λ r. fault_above p s recs r kept fine)) faultless_before

pub undamaged_turns : (run : Run) (lines : List (List ℕ)) (turns : List Turn) → IsRun run lines turns
    → All (λ (harm : Harm). harm.damaged ≡ false) (harms_of (run_after run lines turns))
    → AllByRecursion (λ (turn : Turn). TellNoDamage turn.added) turns
undamaged_turns =
    each_turn (λ p recs. TellNoDamage recs) (λ harm. harm.damaged ≡ false) (λ p. tt) (λ p geometry. (refl, (refl, tt)))
    (λ p count refuses some fine. (refl, tt))
    (λ p calls s recs kept fine. none_tells tells_damage recs (λ r among tells. no_truth (sym (told_among p s recs r kept among tells) ∙ fine))) undamaged_before

-- ---- calls

any_harm : (harms : List Harm) → All (λ harm. Unit {0}) harms
any_harm [] = All-nil (λ harm. Unit {0})
any_harm (harm ∷ harms) = All-cons (λ harm. Unit {0}) harm harms tt (any_harm harms)

no_format_fault : (geometry : Geometry) (count : ℕ) → IsAmong (rec.Fault count) (format_records geometry) → ⊥
no_format_fault geometry count (inl same) = absurd cc
no_format_fault geometry count (inr (inl same)) = absurd cc
no_format_fault geometry count (inr (inr none)) = none

only_fault : (count told : ℕ) → IsAmong (rec.Fault told) (rec.Fault count ∷ []) → count ≡ told
only_fault count told (inl same) = cc
only_fault count told (inr none) = absurd none

pub turns_tell_refusals : (run : Run) (lines : List (List ℕ)) (turns : List Turn) → IsRun run lines turns
    → AllByRecursion TellsRefusals turns
turns_tell_refusals run lines turns is =
    each_turn (λ p recs. (count : ℕ) → IsAmong (rec.Fault count) recs → IsRefusalCount p count) (λ harm. Unit {0})
    (λ p count none. absurd none) (λ p geometry count among. absurd (no_format_fault geometry count among))
    (λ p count refuses some fine told among. subst (IsRefusalCount p) (only_fault count told among) refuses)
    (λ p calls s recs kept fine count among. (is_among (IsKept p) (rec.Fault count) recs kept among).0)
    (λ before_run rest played legal fine. any_harm (harms_of before_run)) run lines turns is (any_harm (harms_of (run_after run lines turns)))
