-- The device of a session goes on while its steps are taken.
use Rattle.std.proofs.Common.{◌≡◌, ℕ, ◌≤◌, List, [], ◌∷◌, ◌++◌, ◌∙◌, append_assoc, length, suc, Result, Ok, Err, IfOk, refl, sym, ap, subst, arith}
use Rattle.logged_disk.specs.Device.{DeviceState as Device}
use Rattle.device_log.specs.Calls.{Call}
use Rattle.cache_calls.specs.declared.calls.Calls.{Ghosts as CallsGhosts}
use Rattle.script_grammar.specs.declared.answer.StepAnswer.{StepAnswer}
use Rattle.cache_replay.specs.declared.stop.Stop.{Stop}
use Rattle.cache_replay.specs.OneLine.{AnswersLine}
use Rattle.cache_replay.specs.Session.{AreLater, devices_of, return_in}
use Rattle.shared_steps.specs.declared.shared.Taken.TheVariants.{Said, Stopped, Left}
use Rattle.shared_steps.specs.declared.shared.StepRecord.{StepRecord}
use Rattle.shared_steps.specs.declared.shared.StepRecord.TheVariants.{Began, Took}
use Rattle.shared_steps.specs.Histories.{Goes}
use Rattle.shared_session.specs.declared.session.SharedSession.{SharedSession}
use Rattle.shared_session.specs.declared.step.JobStep.{JobStep}

pub later_same : (devices : List Device) → AreLater devices devices
later_same [] = tt
later_same (d ∷ devices) = (
  record { faults = omega arith; number = refl; switch = refl; made = record { later = []; is = refl }; tells = λ t. t },
  later_same devices,
)

pub later_then : (a b c : List Device) → AreLater a b → AreLater b c → AreLater a c
later_then [] [] c p q = q
later_then [] (e ∷ b) c p q = absurd p
later_then (d ∷ a) [] c p q = absurd p
later_then (d ∷ a) (e ∷ b) [] p q = absurd q
later_then (d ∷ a) (e ∷ b) (f ∷ c) p q = (
  record {
    faults = omega (arith, p.0.faults, q.0.faults);
    number = q.0.number ∙ p.0.number;
    switch = q.0.switch ∙ p.0.switch;
    made = record {
      later = q.0.made.later ++ p.0.made.later;
      is = q.0.made.is
          ∙ (ap (λ (made : List Call). q.0.made.later ++ made) p.0.made.is ∙ sym (append_assoc q.0.made.later p.0.made.later d.past));
    };
    tells = λ t. p.0.tells (q.0.tells t);
  },
  later_then a b c p.1 q.1,
)

pub as_many : (old new : List Device) → AreLater old new → length new ≡ length old
as_many [] [] later = refl
as_many [] (e ∷ new) later = absurd later
as_many (d ∷ old) [] later = absurd later
as_many (d ∷ old) (e ∷ new) later = ap suc (as_many old new later.1)

module _ {S V R : Type 0} {c : CallsGhosts S V R} where
  goes_later : (first : SharedSession S V R c) (rs : List (StepRecord (SharedSession S V R c) JobStep StepAnswer Stop)) (last : SharedSession S V R c)
      → Goes (λ old job new result. AnswersLine job.step old.session new.session result) first rs last → AreLater (return_in first.session) (return_in last.session)
  goes_later first [] last goes = subst (λ (s : SharedSession S V R c). AreLater (return_in first.session) (return_in s.session)) goes (later_same (return_in first.session))
  goes_later first (Took job (Said said) ∷ rs) last goes =
      later_then (return_in first.session) (return_in goes.0.session) (return_in last.session) goes.1.device (goes_later goes.0 rs last goes.2)
  goes_later first (Took job (Stopped why) ∷ rs) last goes = goes.0.device
  goes_later first (Took job Left ∷ rs) last goes = absurd goes
  goes_later first (Began s ∷ rs) last goes = absurd goes

  pub all_later : {Y E : Type 0} (records : Y → List (StepRecord (SharedSession S V R c) JobStep StepAnswer Stop)) (last : Y → SharedSession S V R c) (first : SharedSession S V R c) (result : Result Y E)
      → IfOk result (λ y. Goes (λ old job new said. AnswersLine job.step old.session new.session said) first (records y) (last y))
      → IfOk result (λ y. AreLater (return_in first.session) (return_in (last y).session))
  all_later records last first (Ok y) goes = goes_later first (records y) (last y) goes
  all_later records last first (Err e) goes = tt

  pub same_devices : {Y E : Type 0} (last : Y → SharedSession S V R c) (first : SharedSession S V R c) (result : Result Y E)
      → IfOk result (λ y. AreLater (return_in first.session) (return_in (last y).session)) → IfOk result (λ y. devices_of (last y).session ≡ devices_of first.session)
  same_devices last first (Ok y) later = as_many (return_in first.session) (return_in (last y).session) later
  same_devices last first (Err e) later = tt
