-- What holds of a session's state, and not at its beginning, a record of a line brought about; and no record since undid it.
use Rattle.std.proofs.Common.{◌≡◌, ℕ, List, [], ◌∷◌, ◌++◌, refl, sym, ap, subst, inl, inr, ◌⊎◌, false}
use Rattle.std.specs.Prelude.{Option, Some, None}
use Rattle.std.specs.List.{AllByRecursion}
use Rattle.tape_base.specs.declared.geometries.Geometry.{Geometry}
use Rattle.cache_model.specs.declared.record.Rec.{Rec}
use Rattle.cache_model.specs.State.{State, after_all, nothing_yet, state_after}
use Rattle.cache_model.specs.Permit.{IsAmong, Permit}
use Rattle.cache_model.specs.Legal.{format_records}
use Rattle.script_grammar.specs.declared.line.LineAnswer.{LineAnswer}
use Rattle.script_grammar.specs.declared.line.LineAnswer.TheVariants as line
use Rattle.script_grammar.specs.declared.step.Step.{Step}
use Rattle.script_grammar.specs.declared.answer.StepAnswer.{StepAnswer}
use Rattle.script_run.specs.Run.{Run, fresh}
use Rattle.script_run.specs.Turn.{Turn}
use Rattle.script_run.specs.Behind.{after_line, after_reading}
use Rattle.script_run.specs.Takes.{IsRun, ReadingTakes, run_after}
use Rattle.script_run.specs.Goes.{StepGoes, begins, begins_session, cuts_off, fails, stays, tells_bare, waits, works}
use Rattle.script_run.proofs.Lift.{goes}
use Rattle.script_laws.proofs.Groups.{IsKept}
use Rattle.script_laws.proofs.Walking.{walked}
use Rattle.line_laws.specs.Along.{KeepsSession}
use Rattle.line_laws.proofs.Since.{HasAlong, made_along}
use Rattle.headline.specs.Standing.{HasRecordedLast, NoneAmong, RecordedNone}

module _ (Holds : State → Type 0) (Tells Undoes : Rec → Type 0) where
  -- behind the record it holds: so it did before it, and the record does not undo it, or the record tells it
  abbrev pub ByRecord : State → Rec → Type 0
  ByRecord s r = (Holds s × (Undoes r → ⊥)) ⊎ Tells r

  abbrev NoneOf : List Rec → Type 0
  NoneOf = NoneAmong Undoes

  none_more : (r : Rec) (recs : List Rec) → (Undoes r → ⊥) → NoneOf recs → NoneOf (r ∷ recs)
  none_more r recs first rest told (inl same) undoes = first (subst Undoes same undoes)
  none_more r recs first rest told (inr later) undoes = rest told later undoes

  none_along : (turn : Turn) (turns : List Turn) → NoneOf turn.added → RecordedNone Undoes turns → RecordedNone Undoes (turn ∷ turns)
  none_along turn turns first rest t (inl same) = λ told among. first told (subst (λ (x : Turn). IsAmong told x.added) same among)
  none_along turn turns first rest t (inr later) = rest t later

  abbrev HoldsIn : Option State → Type 0
  HoldsIn None = ⊥
  HoldsIn (Some s) = Holds s

  -- a record among these tells it, and none behind it undoes it
  record ToldBy (recs : List Rec) : Type 0 where
    front : List Rec
    told : Rec
    back : List Rec
    are : recs ≡ front ++ told ∷ back
    among : IsAmong told recs
    tells : Tells told
    none : NoneOf back

  told_later : (r : Rec) (recs : List Rec) → ToldBy recs → ToldBy (r ∷ recs)
  told_later r recs t =
      record { front = r ∷ t.front; told = t.told; back = t.back; are = ap (λ (rs : List Rec). r ∷ rs) t.are; among = inr t.among; tells = t.tells; none = t.none }

  abbrev ByTurn : Run → Turn → Type 0
  ByTurn run turn = (HoldsIn run.state × NoneOf turn.added) ⊎ ToldBy turn.added

  -- it holds before each of these lines, and none of their turns undoes it
  abbrev LeftAlong : Run → List (List ℕ) → List Turn → Type 0
  LeftAlong = HasAlong (λ run. HoldsIn run.state) (λ turn. NoneOf turn.added) (λ run turn l. ToldBy turn.added)

  none_since : (lines : List (List ℕ)) (turns : List Turn) (run : Run) → IsRun run lines turns → LeftAlong run lines turns → RecordedNone Undoes turns
  none_since [] [] run is since = λ turn among told in_turn undoes. among
  none_since [] (turn ∷ turns) run is since = absurd is
  none_since (bytes ∷ lines) [] run is since = absurd is
  none_since (bytes ∷ lines) (turn ∷ turns) run is since = none_along turn turns since.1 (none_since lines turns (after_line run turn bytes) is.1 since.2)

  module _ (formats : (g : Geometry) → Holds (after_all nothing_yet (format_records g)) → ⊥)
      (one : (p : Permit) (s : State) (r : Rec) → IsKept p r → Holds (state_after s r) → ByRecord s r) where
    in_records : (p : Permit) (s : State) (recs : List Rec) → AllByRecursion (IsKept p) recs → Holds (after_all s recs) → (Holds s × NoneOf recs) ⊎ ToldBy recs
    in_records p s [] kept h = inl (h, λ told among undoes. among)
    in_records p s (r ∷ recs) kept h = elim (in_records p (state_after s r) recs kept.1 h) [
      | inr later ↦ inr (told_later r recs later)
      | inl now ↦ elim (one p s r kept.0 now.0) [
        | inl old ↦ inl (old.0, none_more r recs old.1 now.1)
        | inr here ↦ inr (record { front = []; told = r; back = recs; are = refl; among = inl refl; tells = here; none = now.1 })
      ]
    ]

    -- ---- one line

    by_added : (run : Run) (turn : Turn) (s : State) → run.state ≡ Some s → (Holds s × NoneOf turn.added) ⊎ ToldBy turn.added → ByTurn run turn
    by_added run turn s e (inl old) = inl (subst HoldsIn (sym e) old.0, old.1)
    by_added run turn s e (inr told) = inr told

    by_step : (run : Run) (turn : Turn) {st : Step} {said : StepAnswer} {after : Run} → StepGoes run turn st said after → HoldsIn after.state → ByTurn run turn × (begins_session st ≡ false)
    by_step run turn (stays bad same is) h = (inl (h, λ told among undoes. subst (IsAmong told) is among), same)
    by_step run turn (waits at same is) h = (inl (h, λ told among undoes. subst (λ (t : Turn). IsAmong told t.added) is among), same)
    by_step run turn (works s same e takes) h = (by_added run turn s e (in_records turn.device s turn.added (walked takes.legal.grows).kept h), same)
    by_step run turn (begins name g same is) h = absurd (formats g (subst (λ recs. Holds (after_all nothing_yet recs)) is h))
    by_step run turn (fails name count same is refuses) h = absurd h
    by_step run turn (cuts_off choice s e cut) h = absurd h
    by_step run turn (tells_bare t same e last takes only) h = absurd (subst HoldsIn e h)

    by_reading : (run : Run) (turn : Turn) (l : LineAnswer) → ReadingTakes run turn l → HoldsIn (after_reading run turn l).state → ByTurn run turn × KeepsSession l
    by_reading run turn (line.Step st) takes h = by_step run turn (goes run turn st takes) h
    by_reading run turn line.Nothing takes h = (inl (h, λ told among undoes. subst (λ (t : Turn). IsAmong told t.added) takes among), tt)
    by_reading run turn (line.Bad fault) takes h = absurd takes

    pub told_last : (lines : List (List ℕ)) (turns : List Turn) (s : State) → IsRun fresh lines turns → (run_after fresh lines turns).state ≡ Some s → Holds s
        → HasRecordedLast Tells Undoes lines turns
    told_last lines turns s is e h = elim (made_along (λ run. HoldsIn run.state) (λ turn. NoneOf turn.added) (λ run turn l. ToldBy turn.added) by_reading lines turns fresh is (subst HoldsIn (sym e) h)) [
      | inl old ↦ absurd old.0
      | inr m ↦ record {
        is = record {
          before = m.before;
          bytes = m.bytes;
          later = m.later;
          lines_are = m.lines_are;
          earlier = m.earlier;
          turn = m.turn;
          rest = m.rest;
          turns_are = m.turns_are;
          legal = m.legal;
          told = m.made.told;
          among = m.made.among;
          tells = m.made.tells;
          same_session = m.same_session.1;
        };
        front = m.made.front;
        back = m.made.back;
        added_are = m.made.are;
        none_behind = m.made.none;
        none_later = none_since m.later m.rest (after_line (run_after fresh m.before m.earlier) m.turn m.bytes) m.goes m.since;
      }
    ]
