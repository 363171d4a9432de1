-- What a record of a line brings about, and no other record undoes, holds behind each later line of its session.
use Rattle.std.proofs.Common.{◌≡◌, ℕ, List, [], ◌∷◌, ◌++◌, Bool, true, false, sym, ◌∙◌, ap, subst, inl, inr}
use Rattle.std.specs.Prelude.{Option, Some, None, cond}
use Rattle.std.specs.List.{AllByRecursion}
use Rattle.tape_base.specs.declared.geometries.Geometry.{Geometry}
use Rattle.tape_base.specs.declared.keys.Key.{Key}
use Rattle.tape_base.specs.Key.{same_key}
use Rattle.tape_base.proofs.NameLaws.{same_key-same}
use Rattle.cache_model.specs.declared.record.Rec.{Rec}
use Rattle.cache_model.specs.declared.record.Rec.TheVariants as rec
use Rattle.cache_model.specs.State.{State, after_all, state_after}
use Rattle.cache_model.specs.Permit.{IsAmong, Permit}
use Rattle.cache_model.specs.Legal.{format_records}
use Rattle.cache_model.proofs.Found.{no_truth, none_is}
use Rattle.script_grammar.specs.declared.line.LineAnswer.{LineAnswer}
use Rattle.script_grammar.specs.declared.line.LineAnswer.TheVariants as line
use Rattle.script_grammar.specs.declared.step.Step.{Step}
use Rattle.script_grammar.specs.declared.answer.StepAnswer.{StepAnswer}
use Rattle.script_grammar.specs.Grammar.{reading_of}
use Rattle.script_run.specs.Run.{Run, fresh}
use Rattle.script_run.specs.Turn.{Turn}
use Rattle.script_run.specs.Behind.{after_line, after_reading}
use Rattle.script_run.specs.Takes.{IsRun, ReadingTakes, run_after}
use Rattle.script_run.specs.Goes.{StepGoes, begins, begins_session, cuts_off, fails, stays, tells_bare, waits, works}
use Rattle.script_run.proofs.Lift.{goes}
use Rattle.script_laws.proofs.Groups.{IsKept}
use Rattle.script_laws.proofs.Walking.{walked}
use Rattle.line_laws.specs.Along.{AreOfSession, KeepsSession}
use Rattle.line_laws.proofs.Since.{GoesOn, goes_on}
use Rattle.headline.specs.Standing.{HasRecorded}

-- ---- look-ups by a key

-- what is found behind what is not there
pub other_by : {X : Type 0} (b : Bool) (x : X) (o : Option X) → cond b (Some x) o ≡ None → o ≡ None
other_by true x o h = none_is (sym h)
other_by false x o h = h

-- the key finds what is first
pub found_none : {X : Type 0} (key k : Key) (x : X) (o : Option X) → k ≡ key → cond (same_key k key) (Some x) o ≡ None → ⊥
found_none key k x o same h = none_is (sym h ∙ ap (λ b. cond b (Some x) o) (subst (λ n. same_key n key ≡ true) (sym same) (same_key-same key)))

-- ---- lines

module _ (Makes : Rec → Type 0) (Has : State → Type 0)
    (none_of_format : (g : Geometry) (told : Rec) → IsAmong told (format_records g) → Makes told → ⊥)
    (none_of_fault : (count : ℕ) → Makes (rec.Fault count) → ⊥)
    (has_by : (s : State) (r : Rec) → Makes r → Has (state_after s r))
    (has_still : (p : Permit) (s : State) (r : Rec) → IsKept p r → Has s → Has (state_after s r)) where
  -- so it is where there is a session
  abbrev pub HasWhere : Option State → Type 0
  HasWhere None = Unit {0}
  HasWhere (Some s) = Has s

  still_all : (p : Permit) (s : State) (recs : List Rec) → AllByRecursion (IsKept p) recs → Has s → Has (after_all s recs)
  still_all p s [] kept has = has
  still_all p s (r ∷ recs) kept has = still_all p (state_after s r) recs kept.1 (has_still p s r kept.0 has)

  by_among : (p : Permit) (s : State) (recs : List Rec) (told : Rec) → AllByRecursion (IsKept p) recs → IsAmong told recs → Makes told → Has (after_all s recs)
  by_among p s [] told kept among makes = absurd among
  by_among p s (r ∷ recs) told kept (inl same) makes = still_all p (state_after s r) recs kept.1 (has_by s r (subst Makes same makes))
  by_among p s (r ∷ recs) told kept (inr later) makes = by_among p (state_after s r) recs told kept.1 later makes

  -- ---- behind the line that recorded it

  only_fault : (count : ℕ) (told : Rec) → IsAmong told (rec.Fault count ∷ []) → Makes told → ⊥
  only_fault count told (inl same) makes = none_of_fault count (subst Makes same makes)
  only_fault count told (inr none) makes = none

  by_step : (run : Run) (turn : Turn) {st : Step} {said : StepAnswer} {after : Run} (told : Rec) → StepGoes run turn st said after → IsAmong told turn.added → Makes told → HasWhere after.state
  by_step run turn told (stays bad same is) among makes = absurd (subst (IsAmong told) is among)
  by_step run turn told (waits at same is) among makes = absurd (subst (λ (t : Turn). IsAmong told t.added) is among)
  by_step run turn told (works s same e takes) among makes = by_among turn.device s turn.added told (walked takes.legal.grows).kept among makes
  by_step run turn told (begins name g same is) among makes = absurd (none_of_format g told (subst (IsAmong told) is among) makes)
  by_step run turn told (fails name count same is refuses) among makes = absurd (only_fault count told (subst (IsAmong told) is among) makes)
  by_step run turn told (cuts_off choice s e cut) among makes = tt
  by_step run turn told (tells_bare t same e last takes only) among makes = absurd (subst (IsAmong told) only.added among)

  by_reading : (run : Run) (turn : Turn) (l : LineAnswer) (told : Rec) → ReadingTakes run turn l → IsAmong told turn.added → Makes told
      → HasWhere (after_reading run turn l).state
  by_reading run turn (line.Step st) told takes among makes = by_step run turn told (goes run turn st takes) among makes
  by_reading run turn line.Nothing told takes among makes = absurd (subst (λ (t : Turn). IsAmong told t.added) takes among)
  by_reading run turn (line.Bad fault) told takes among makes = absurd takes

  -- ---- and behind each later line of the session

  step_stays : (run : Run) (turn : Turn) {st : Step} {said : StepAnswer} {after : Run} → StepGoes run turn st said after → begins_session st ≡ false → HasWhere run.state → HasWhere after.state
  step_stays run turn (stays bad same none) keeps has = has
  step_stays run turn (waits at same none) keeps has = has
  step_stays run turn (works s same e takes) keeps has = still_all turn.device s turn.added (walked takes.legal.grows).kept (subst HasWhere e has)
  step_stays run turn (begins name g begun is) keeps has = no_truth (sym begun ∙ keeps)
  step_stays run turn (fails name count begun is refuses) keeps has = no_truth (sym begun ∙ keeps)
  step_stays run turn (cuts_off choice s e cut) keeps has = tt
  step_stays run turn (tells_bare t same e last takes only) keeps has = has

  reading_stays : (run : Run) (turn : Turn) (l : LineAnswer) → KeepsSession l → ReadingTakes run turn l → HasWhere run.state → HasWhere (after_reading run turn l).state
  reading_stays run turn (line.Step st) keeps takes has = step_stays run turn (goes run turn st takes) keeps has
  reading_stays run turn line.Nothing keeps takes has = has
  reading_stays run turn (line.Bad fault) keeps takes has = absurd takes

  lines_stay : (lines : List (List ℕ)) (turns : List Turn) (run : Run) → IsRun run lines turns → AreOfSession lines → HasWhere run.state
      → HasWhere (run_after run lines turns).state
  lines_stay [] turns run is same has = has
  lines_stay (bytes ∷ lines) [] run is same has = absurd is
  lines_stay (bytes ∷ lines) (turn ∷ turns) run is same has =
      lines_stay lines turns (after_line run turn bytes) is.1 same.1 (reading_stays run turn (reading_of bytes) same.0 is.0 has)

  pub has_still_where : (lines : List (List ℕ)) (turns : List Turn) → IsRun fresh lines turns → HasRecorded Makes lines turns → HasWhere (run_after fresh lines turns).state
  has_still_where lines turns is h =
      let g : GoesOn fresh h.before h.earlier h.turn h.bytes h.later h.rest = goes_on fresh h.before h.earlier h.turn h.bytes h.later h.rest h.legal
      (subst (λ (xs : List (List ℕ)). IsRun fresh xs (h.earlier ++ h.turn ∷ h.rest)) h.lines_are (subst (IsRun fresh lines) h.turns_are is)) in
      let has : HasWhere (after_line (run_after fresh h.before h.earlier) h.turn h.bytes).state =
      by_reading (run_after fresh h.before h.earlier) h.turn (reading_of h.bytes) h.told g.takes h.among h.tells in
      let behind_all : HasWhere (run_after fresh (h.before ++ h.bytes ∷ h.later) (h.earlier ++ h.turn ∷ h.rest)).state =
      subst (λ (run : Run). HasWhere run.state) (sym g.ends) (lines_stay h.later h.rest _ g.goes h.same_session has) in
      subst (λ (xs : List (List ℕ)). HasWhere (run_after fresh xs turns).state) (sym h.lines_are)
      (subst (λ (xs : List Turn). HasWhere (run_after fresh (h.before ++ h.bytes ∷ h.later) xs).state) (sym h.turns_are) behind_all)

  -- so no line recorded it where it does not hold
  pub recorded_none : (lines : List (List ℕ)) (turns : List Turn) (s : State) → IsRun fresh lines turns → (run_after fresh lines turns).state ≡ Some s → (Has s → ⊥)
      → HasRecorded Makes lines turns → ⊥
  recorded_none lines turns s is e none h = none (subst HasWhere e (has_still_where lines turns is h))
