-- A pair is shown in the session of a device that did not tell its content to the end.
use Rattle.std.proofs.Common.{◌≡◌, ℕ, ◌+◌, List, [], ◌∷◌, ◌++◌, length, refl, ◌∙◌, ap, arith, length-append, inl, inr}
use Rattle.std.specs.Prelude.{Option, Some, None, map}
use Rattle.logged_disk.specs.Device.{DeviceState as Device}
use Rattle.cache_model.specs.State.{State}
use Rattle.cache_model.proofs.Found.{no_truth}
use Rattle.script_grammar.specs.declared.step.Step.{Step}
use Rattle.script_grammar.specs.declared.line.LineAnswer.{LineAnswer}
use Rattle.script_grammar.specs.declared.line.LineAnswer.TheVariants as line
use Rattle.script_grammar.specs.Grammar.{reading_of}
use Rattle.script_run.specs.Run.{Harm, Run, at_hand, fresh}
use Rattle.script_run.specs.Turn.{Turn, calls_in}
use Rattle.script_run.specs.Behind.{harm_in, harm_of, harms_of, with_calls_of}
use Rattle.script_run.specs.Takes.{ReadingShows, StepShows, run_after}
use Rattle.headline.specs.Account.{Account, AreBack, ComeBackFrom, IsDoubtedBehind, RunLogs, ShowsNext, doubted_harms, sessions_begun}
use Rattle.account_laws.proofs.Along.{run_length}
use Rattle.account_laws.proofs.Counting.{device_of}
use Rattle.headline.proofs.Honest.{doubt}

-- ---- the device of the last that was told

-- devices, and the one behind as many as these
pub record IsSplit (xs : List Harm) (ds : List Device) : Type 0 where
  pub earlier : List Device
  pub device : Device
  pub later : List Device
  pub are : ds ≡ earlier ++ device ∷ later
  pub as_many : length earlier ≡ length xs

pub split_back : (xs : List Harm) (h : Harm) (ds : List Device) → AreBack (xs ++ h ∷ []) ds → IsSplit xs ds
split_back [] h [] back = absurd back
split_back [] h (d ∷ ds) back = record { earlier = []; device = d; later = ds; are = refl; as_many = refl }
split_back (x ∷ xs) h [] back = absurd back
split_back (x ∷ xs) h (d ∷ ds) back =
    let rest = split_back xs h ds back.1 in
    record {
      earlier = d ∷ rest.earlier;
      device = rest.device;
      later = rest.later;
      are = ap (λ (es : List Device). d ∷ es) rest.are;
      as_many = omega (arith, rest.as_many);
    }

-- ---- a line that shows a pair

module _ (l : RunLogs) (told : List (List ℕ)) (run : Run) (begun : length (harms_of run) ≡ sessions_begun told) where
  last_doubted : (h : Harm) → sessions_begun told ≡ length run.ended + 1 → ComeBackFrom l (run.ended ++ doubt h ∷ []) → IsDoubtedBehind l told
  last_doubted h which come =
      let split = split_back run.ended (doubt h) come.devices come.told in
      record {
        device = split.device;
        behind = record {
          earlier = split.earlier;
          later = split.later;
          returned = come.returned ∙ ap (λ (ds : List Device). l.before.returned ++ ds) split.are;
          which = omega (arith, which, split.as_many);
        };
        none_tells = λ other at tells. no_truth ((device_of l run.ended (doubt h) (sessions_begun told) other come at which).unharmed tells);
      }

  step_doubted : (turn : Turn) (o : Option State) (step : Step) → length (run.ended ++ harm_of run.calls (at_hand o run.last)) ≡ sessions_begun told → StepShows run turn o step
      → ComeBackFrom l (run.ended ++ map doubt (harm_of (calls_in turn ++ run.calls) (at_hand o run.last))) → IsDoubtedBehind l told
  step_doubted turn None step count shows come = absurd shows
  step_doubted turn (Some s) step count shows come =
      last_doubted (harm_in (calls_in turn ++ run.calls) s) (omega (arith, count, length-append run.ended (harm_in run.calls s ∷ []))) come

  reading_doubted : (turn : Turn) (read : LineAnswer) → ReadingShows run turn read → ComeBackFrom l (doubted_harms (with_calls_of run turn)) → IsDoubtedBehind l told
  reading_doubted turn (line.Step step) shows come = step_doubted turn run.state step begun shows come
  reading_doubted turn line.Nothing shows come = absurd shows
  reading_doubted turn (line.Bad fault) shows come = absurd shows

  next_doubted : (lines : List (List ℕ)) → ShowsNext l run lines → IsDoubtedBehind l told
  next_doubted [] shows = absurd shows
  next_doubted (bytes ∷ lines) shows = reading_doubted shows.0 (reading_of bytes) shows.1 shows.2

not_none : (bytes : List ℕ) (later left : List (List ℕ)) → left ≡ bytes ∷ later → left ≡ [] → ⊥
not_none bytes later left more none = cc

pub pairs_are_doubted : (l : RunLogs) (a : Account l) (bytes : List ℕ) (later : List (List ℕ)) → a.left ≡ bytes ∷ later → IsDoubtedBehind l a.told
pairs_are_doubted l a bytes later more =
    let run : Run = run_after fresh a.told a.turns in
    let counted : length (harms_of run) ≡ length (harms_of fresh) + sessions_begun a.told = run_length a.told a.turns fresh a.legal in
    elim a.whole [
      | inl none ↦ absurd (not_none bytes later a.left more none)
      | inr shows ↦ next_doubted l a.told run (omega (arith, counted)) a.left shows
    ]
