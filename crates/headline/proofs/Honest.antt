-- A device that told its content to the end shows no pair.
use Rattle.std.proofs.Common.{◌≡◌, ℕ, List, [], ◌∷◌, ◌++◌, inl, inr, true}
use Rattle.std.specs.Prelude.{Option, Some, None, map}
use Rattle.std.specs.List.{AllByRecursion}
use Rattle.logged_disk.specs.Device.{DeviceState as Device, TellsAll}
use Rattle.cache_model.specs.State.{State}
use Rattle.cache_model.proofs.Found.{no_truth}
use Rattle.script_grammar.specs.declared.step.Step.{Step}
use Rattle.script_grammar.specs.declared.line.LineAnswer.{LineAnswer}
use Rattle.script_grammar.specs.declared.line.LineAnswer.TheVariants as line
use Rattle.script_grammar.specs.Grammar.{reading_of}
use Rattle.script_run.specs.Run.{Harm, Run, at_hand, fresh}
use Rattle.script_run.specs.Turn.{Turn, calls_in}
use Rattle.script_run.specs.Behind.{harm_in, harm_of, with_calls_of}
use Rattle.script_run.specs.Takes.{LineShows, ReadingShows, StepShows, run_after}
use Rattle.headline.specs.Account.{Account, AllTell, AreBack, ComeBackFrom, RunLogs, ShowsNext, doubted_harms}

-- what was told of a device that did not tell its content
abbrev pub doubt : Harm → Harm
doubt harm = record harm { damaged = true }

none_doubted : (hs : List Harm) (h : Harm) (ds : List Device) → AreBack (hs ++ doubt h ∷ []) ds → AllByRecursion TellsAll ds → ⊥
none_doubted [] h [] back tell = absurd back
none_doubted [] h (d ∷ ds) back tell = no_truth (back.0.unharmed tell.0)
none_doubted (x ∷ hs) h [] back tell = absurd back
none_doubted (x ∷ hs) h (d ∷ ds) back tell = none_doubted hs h ds back.1 tell.1

module _ (l : RunLogs) (tell : AllTell l) (run : Run) where
  -- a line without a session shows nothing
  step_shows : (turn : Turn) (o : Option State) (step : Step) → StepShows run turn o step
      → ComeBackFrom l (run.ended ++ map doubt (harm_of (calls_in turn ++ run.calls) (at_hand o run.last))) → ⊥
  step_shows turn None step shows come = absurd shows
  step_shows turn (Some s) step shows come =
      none_doubted run.ended (harm_in (calls_in turn ++ run.calls) s) come.devices come.told (tell come.devices come.returned)

  reading_shows : (turn : Turn) (read : LineAnswer) → ReadingShows run turn read
      → ComeBackFrom l (doubted_harms (with_calls_of run turn)) → ⊥
  reading_shows turn (line.Step step) shows come = step_shows turn run.state step shows come
  reading_shows turn line.Nothing shows come = absurd shows
  reading_shows turn (line.Bad fault) shows come = absurd shows

  pub no_line_shows : (bytes : List ℕ) (turn : Turn) → LineShows run turn bytes
      → ComeBackFrom l (doubted_harms (with_calls_of run turn)) → ⊥
  no_line_shows bytes turn shows come = reading_shows turn (reading_of bytes) shows come

  none_next : (lines : List (List ℕ)) → ShowsNext l run lines → ⊥
  none_next [] shows = absurd shows
  none_next (bytes ∷ lines) shows = no_line_shows bytes shows.0 shows.1 shows.2

pub honest_runs_are_whole : (l : RunLogs) → AllTell l → (a : Account l) → a.left ≡ []
honest_runs_are_whole l tell a = elim a.whole [
  | inl none ↦ none
  | inr shows ↦ absurd (none_next l tell (run_after fresh a.told a.turns) a.left shows)
]
