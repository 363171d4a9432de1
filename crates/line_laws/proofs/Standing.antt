-- Along each legal script what stands is what writers took but for the documents of fragments, and each put that an
-- actor writes is open; and each fragment is that of what its writer took, or a line shows two documents of one
-- SHA-256 in its turn.
use Rattle.std.proofs.Common.{◌≡◌, ℕ, List, [], ◌∷◌, ◌++◌, refl, sym, subst, inl, inr, ◌⊎◌, false}
use Rattle.std.specs.Prelude.{Option, Some, None}
use Rattle.tape_base.specs.declared.geometries.Geometry.{Geometry}
use Rattle.cache_model.specs.State.{State, after_all, nothing_yet}
use Rattle.cache_model.specs.Legal
use Rattle.cache_model.specs.Legal.{IsQuiet, format_records}
use Rattle.cache_model.specs.Pair.{ShowsPair}
use Rattle.cache_model.specs.Permit.{to_do}
use Rattle.step_laws.specs.StepLaws.{NumbersFollow}
use Rattle.cache_model.specs.Tape.{IsSound}
use Rattle.model_laws.specs.TapeLaws.{LegalIsSound, StepsAreSound}
use Rattle.cache_model.specs.Vectors.{AreTold, IsVectorAs}
use Rattle.step_laws.specs.VectorLaws.{FormatsTell, StepsTell}
use Rattle.cache_model.proofs.Found.{none_is}
use Rattle.step_laws.proofs.Pairs.{also_shows}
use Rattle.script_grammar.specs.declared.step.Step.{Step}
use Rattle.script_grammar.specs.declared.answer.StepAnswer.{StepAnswer}
use Rattle.script_grammar.specs.declared.line.LineAnswer.{LineAnswer}
use Rattle.script_grammar.specs.declared.line.LineAnswer.TheVariants as line
use Rattle.script_grammar.specs.Grammar.{reading_of}
use Rattle.script_run.specs.Run.{Run, fresh, no_stream}
use Rattle.script_run.specs.Asked.{asked}
use Rattle.script_run.specs.Turn.{Turn}
use Rattle.device_log.specs.Calls.{Call}
use Rattle.script_run.specs.Behind.{after_line, after_reading, at_moment, in_session, with_calls_of, with_format}
use Rattle.script_run.specs.Laws.{FormatsKeep, FormatsOwn, OwnIsKept, StepsKeep, StepsOwn}
use Rattle.script_run.specs.Own.{AreOwn, ArePayloadsOwn, IsPlacedAs}
use Rattle.script_run.specs.Goes.{StepGoes, begins, cuts_off, fails, stays, tells_bare, waits, works}
use Rattle.script_run.specs.Takes.{IsRun, ReadingShows, ReadingTakes, SessionShows, SessionTakes, StepShows, run_after, streams_with}
use Rattle.line_laws.specs.Along.{AreOfSession, KeptAlong, OwnAlong, QuietWhere, ShowsAlong, StandsKept, StandsOwn, StandsWhere}
use Rattle.script_run.proofs.Alone.{shows_taken}
use Rattle.script_run.proofs.Lift.{EachKeeps, goes, line_keeps, lines_keep}
use Rattle.line_laws.proofs.Stands.{stands_at, stands_kept}
use Rattle.line_laws.proofs.Shown.{shown_behind, shown_front, shown_here, shown_later}
use Rattle.line_laws.proofs.Writing.{AreHeld, are_writing, held_step}

-- what holds of each line, whatever a copy shows
pub record OfKept : Type 0 where
  pub numbers_follow : NumbersFollow
  pub legal_is_sound : LegalIsSound
  pub steps_are_sound : StepsAreSound
  pub formats_keep : FormatsKeep
  pub steps_keep : StepsKeep

-- and what holds where none shows two documents of one SHA-256
pub record OfLines : Type 0 where
  pub kept : OfKept
  pub formats_tell : FormatsTell
  pub steps_tell : StepsTell
  pub formats_own : FormatsOwn
  pub steps_own : StepsOwn

-- ---- whatever a copy shows

-- what holds between lines
pub record Keeps (run : Run) (s : State) : Type 0 where
  pub sound : IsSound s
  pub displaced : s.displaced ≡ []
  pub quiet : IsQuiet s
  pub kept : ArePayloadsOwn s run.streams
  pub held : AreHeld run.held s

-- the same, where there is a session
abbrev pub KeepsIn : Run → Type 0
KeepsIn run = StandsWhere Keeps run run.state

module _ (laws : OfKept) where
  formatted_keeps : (run : Run) (name : List ℕ) (calls : List Call) (g : Geometry) → Keeps (with_format run name calls (format_records g)) (after_all nothing_yet (format_records g))
  formatted_keeps run name calls g = record {
    sound = laws.legal_is_sound (record { packed = false; syncs = false }) [] [] (format_records g) (Legal.IsLegal.begins g);
    displaced = refl;
    quiet = refl;
    kept = laws.formats_keep nothing_yet g (λ put. no_stream);
    held = record { writing = λ i put has. none_is has; apart = λ i j put has also. none_is has };
  }

  moment_keeps : (run : Run) (at : ℕ) (s : State) → Keeps run s → Keeps (at_moment run at) s
  moment_keeps run at s h = record { sound = h.sound; displaced = h.displaced; quiet = h.quiet; kept = h.kept; held = h.held }

  keeps_step : (run : Run) (s : State) (turn : Turn) (st : Step) → SessionTakes run s turn st → Keeps run s → Keeps (in_session run s (after_all s turn.added) turn st) (after_all s turn.added)
  keeps_step run s turn st takes h =
      let k = laws.steps_keep run s turn st h.sound h.displaced h.quiet h.kept (are_writing run s h.held) takes.legal in
      record {
        sound = (laws.steps_are_sound turn.device s (asked run s st) turn.added turn.refused h.sound takes.legal).0;
        displaced = k.1;
        quiet = takes.legal.quiet;
        kept = k.0;
        held = held_step laws.numbers_follow run s turn h.kept h.held st takes.legal;
      }

  each_keeps : EachKeeps KeepsIn
  each_keeps = stands_kept Keeps moment_keeps keeps_step formatted_keeps

  pub reading_keeps : (run : Run) (turn : Turn) (l : LineAnswer) → ReadingTakes run turn l → KeepsIn run → KeepsIn (after_reading run turn l)
  reading_keeps = line_keeps KeepsIn each_keeps

  pub keeps_after : (lines : List (List ℕ)) (turns : List Turn) (run : Run) → IsRun run lines turns → KeepsIn run → KeepsIn (run_after run lines turns)
  keeps_after = lines_keep KeepsIn each_keeps

kept_where : (run : Run) (o : Option State) → StandsWhere Keeps run o → StandsWhere StandsKept run o
kept_where run None h = tt
kept_where run (Some s) h = record { kept = h.kept; writing = are_writing run s h.held }

quiet_where : (run : Run) (o : Option State) → StandsWhere Keeps run o → QuietWhere o
quiet_where run None h = tt
quiet_where run (Some s) h = h.quiet

pub kept_along : (laws : OfKept) (lines : List (List ℕ)) (turns : List Turn) (run : Run) → IsRun run lines turns → AreOfSession lines → KeepsIn run → KeptAlong run lines turns
kept_along laws [] turns run takes keeps h = kept_where run run.state h
kept_along laws (bytes ∷ lines) [] run takes keeps h = absurd takes
kept_along laws (bytes ∷ lines) (turn ∷ turns) run takes keeps h =
    (keeps.0, kept_where run run.state h, kept_along laws lines turns (after_line run turn bytes) takes.1 keeps.1 (reading_keeps laws run turn (reading_of bytes) takes.0 h))

pub legal_is_kept : (laws : OfKept) (before lines : List (List ℕ)) (earlier turns : List Turn) → IsRun fresh before earlier → IsRun (run_after fresh before earlier) lines turns → AreOfSession lines
    → KeptAlong (run_after fresh before earlier) lines turns × QuietWhere (run_after fresh before earlier).state
legal_is_kept laws before lines earlier turns legal takes keeps =
    let run : Run = run_after fresh before earlier in
    let h : KeepsIn run = keeps_after laws before earlier fresh legal tt in
    (kept_along laws lines turns run takes keeps h, quiet_where run run.state h)

-- ---- where no copy shows two documents of one SHA-256

record Holds (run : Run) (s : State) : Type 0 where
  keeps : Keeps run s
  told : AreTold s
  own : AreOwn s run.streams

abbrev HoldsIn : Run → Type 0
HoldsIn run = StandsWhere Holds run run.state

module _ (laws : OfLines) where
  formatted_holds : (run : Run) (name : List ℕ) (calls : List Call) (g : Geometry) → Holds (with_format run name calls (format_records g)) (after_all nothing_yet (format_records g))
  formatted_holds run name calls g =
      record { keeps = formatted_keeps laws.kept run name calls g; told = laws.formats_tell nothing_yet g; own = laws.formats_own nothing_yet g (λ put. no_stream) }

  moment_holds : (run : Run) (at : ℕ) (s : State) → Holds run s → Holds (at_moment run at) s
  moment_holds run at s h = record { keeps = moment_keeps laws.kept run at s h.keeps; told = h.told; own = h.own }

  module _ (run : Run) (turn : Turn) where
    -- a copied vector shows them some way into the step, and so does a fragment
    vector_shows : (s : State) (st : Step) → SessionTakes run s turn st → ShowsPair IsVectorAs turn.device s (asked run s st) turn.added → SessionShows run s turn st
    vector_shows s st takes v =
        shows_taken run.calls run s turn st takes
        (also_shows IsVectorAs (IsPlacedAs (streams_with run s st)) (λ t row document vector. inl vector) turn.device s (to_do (asked run s st)) turn.added v)

    holds_step : (s : State) (st : Step) → SessionTakes run s turn st → Holds run s
        → Holds (in_session run s (after_all s turn.added) turn st) (after_all s turn.added) ⊎ StepShows run turn (Some s) st
    holds_step s st takes h =
        let k : Keeps run s = h.keeps in
        elim (laws.steps_tell turn.device s (asked run s st) turn.added turn.refused k.sound h.told takes.legal) [
          | inr v ↦ inr (vector_shows s st takes v)
          | inl told ↦ elim (laws.steps_own run s turn st k.sound h.told k.quiet h.own (are_writing run s k.held) takes.legal) [
            | inl own ↦ inl (record { keeps = keeps_step laws.kept run s turn st takes k; told = told; own = own })
            | inr shown ↦ inr (shows_taken run.calls run s turn st takes shown)
          ]
        ]

    goes_holds : {st : Step} {said : StepAnswer} {after : Run} → StepGoes run turn st said after → HoldsIn run → HoldsIn after ⊎ StepShows run turn run.state st
    goes_holds (stays bad same none) h = inl h
    goes_holds (waits at same none) h = inl (stands_at Holds moment_holds run at run.state h)
    goes_holds {st = st} (works s same e takes) h =
        subst (λ (o : Option State). HoldsIn (in_session run s (after_all s turn.added) turn st) ⊎ StepShows run turn o st) (sym e) (holds_step s st takes (subst (StandsWhere Holds run) e h))
    goes_holds (begins name g same is) h = inl (subst (λ recs. HoldsIn (with_format run name turn.device.events recs)) (sym is) (formatted_holds run name turn.device.events g))
    goes_holds (fails name count same is refuses) h = inl tt
    goes_holds (cuts_off choice s e cut) h = inl tt
    goes_holds (tells_bare t same e last takes only) h = inl (subst (StandsWhere Holds (with_calls_of run turn)) (sym e) tt)

    reading_holds : (l : LineAnswer) → ReadingTakes run turn l → HoldsIn run → HoldsIn (after_reading run turn l) ⊎ ReadingShows run turn l
    reading_holds (line.Step st) takes h = goes_holds (goes run turn st takes) h
    reading_holds line.Nothing takes h = inl h
    reading_holds (line.Bad fault) takes h = absurd takes

own_where : (run : Run) (o : Option State) → StandsWhere Holds run o → StandsWhere StandsOwn run o
own_where run None h = tt
own_where run (Some s) h = record { own = h.own; writing = are_writing run s h.keeps.held }

keeps_where : (run : Run) (o : Option State) → StandsWhere Holds run o → StandsWhere Keeps run o
keeps_where run None h = tt
keeps_where run (Some s) h = h.keeps

holds_after : (laws : OfLines) (lines : List (List ℕ)) (turns : List Turn) (run : Run) → IsRun run lines turns → HoldsIn run → HoldsIn (run_after run lines turns) ⊎ ShowsAlong run lines turns
holds_after laws [] turns run takes h = inl h
holds_after laws (bytes ∷ lines) [] run takes h = absurd takes
holds_after laws (bytes ∷ lines) (turn ∷ turns) run takes h = elim (reading_holds laws run turn (reading_of bytes) takes.0 h) [
  | inr shows ↦ inr (shown_here run turn bytes lines turns shows)
  | inl now ↦ elim (holds_after laws lines turns (after_line run turn bytes) takes.1 now) [
    | inl last ↦ inl last
    | inr v ↦ inr (shown_later run turn bytes lines turns takes.0 v)
  ]
]

own_along : (laws : OfLines) (lines : List (List ℕ)) (turns : List Turn) (run : Run) → IsRun run lines turns → AreOfSession lines → HoldsIn run → OwnAlong run lines turns ⊎ ShowsAlong run lines turns
own_along laws [] turns run takes keeps h = inl (own_where run run.state h)
own_along laws (bytes ∷ lines) [] run takes keeps h = absurd takes
own_along laws (bytes ∷ lines) (turn ∷ turns) run takes keeps h = elim (reading_holds laws run turn (reading_of bytes) takes.0 h) [
  | inr shows ↦ inr (shown_here run turn bytes lines turns shows)
  | inl now ↦ elim (own_along laws lines turns (after_line run turn bytes) takes.1 keeps.1 now) [
    | inl along ↦ inl (keeps.0, own_where run run.state h, along)
    | inr v ↦ inr (shown_later run turn bytes lines turns takes.0 v)
  ]
]

pub legal_is_own : (laws : OfLines) (before lines : List (List ℕ)) (earlier turns : List Turn) → IsRun fresh before earlier → IsRun (run_after fresh before earlier) lines turns → AreOfSession lines
    → (OwnAlong (run_after fresh before earlier) lines turns × QuietWhere (run_after fresh before earlier).state) ⊎ ShowsAlong fresh (before ++ lines) (earlier ++ turns)
legal_is_own laws before lines earlier turns legal takes keeps =
    let run : Run = run_after fresh before earlier in
    elim (holds_after laws before earlier fresh legal tt) [
      | inr v ↦ inr (shown_front fresh before lines earlier turns v)
      | inl h ↦ elim (own_along laws lines turns run takes keeps h) [
        | inr v ↦ inr (shown_behind fresh before lines earlier turns legal v)
        | inl along ↦ inl (along, quiet_where run run.state (keeps_where run run.state h))
      ]
    ]

-- ---- the one along the other

own_is_kept_where : (is_kept : OwnIsKept) (run : Run) (o : Option State) → StandsWhere StandsOwn run o → StandsWhere StandsKept run o
own_is_kept_where is_kept run None h = tt
own_is_kept_where is_kept run (Some s) h = record { kept = is_kept s run.streams h.own; writing = h.writing }

pub own_is_kept_along : (is_kept : OwnIsKept) (run : Run) (lines : List (List ℕ)) (turns : List Turn) → OwnAlong run lines turns → KeptAlong run lines turns
own_is_kept_along is_kept run [] turns along = own_is_kept_where is_kept run run.state along
own_is_kept_along is_kept run (bytes ∷ lines) [] along = own_is_kept_where is_kept run run.state along
own_is_kept_along is_kept run (bytes ∷ lines) (turn ∷ turns) along =
    (along.0, own_is_kept_where is_kept run run.state along.1, own_is_kept_along is_kept (after_line run turn bytes) lines turns along.2)
