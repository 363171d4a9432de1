-- What holds behind lines, and not before the first one, came to hold in one of them; and no line since began another session.
use Rattle.std.proofs.Common.{◌≡◌, ℕ, List, [], ◌∷◌, ◌++◌, refl, sym, ◌∙◌, ap, subst, inl, inr, ◌⊎◌, false}
use Rattle.std.specs.Prelude.{Option, Some, None}
use Rattle.tape_base.specs.declared.geometries.Geometry.{Geometry}
use Rattle.cache_model.specs.declared.record.Rec.{Rec}
use Rattle.cache_model.specs.State.{State, after_all, nothing_yet, state_after}
use Rattle.cache_model.specs.Permit.{IsAmong}
use Rattle.cache_model.specs.Legal.{format_records}
use Rattle.script_grammar.specs.declared.line.LineAnswer.{LineAnswer}
use Rattle.script_grammar.specs.declared.line.LineAnswer.TheVariants as line
use Rattle.script_grammar.specs.declared.step.Step.{Step}
use Rattle.script_grammar.specs.declared.answer.StepAnswer.{StepAnswer}
use Rattle.script_grammar.specs.Grammar.{reading_of}
use Rattle.script_run.specs.Run.{Run}
use Rattle.script_run.specs.Turn.{Turn}
use Rattle.script_run.specs.Behind.{after_line, after_reading, in_session}
use Rattle.script_run.specs.Takes.{IsRun, LineTakes, ReadingTakes, SessionTakes, run_after}
use Rattle.script_run.specs.Goes.{StepGoes, begins, begins_session, cuts_off, fails, stays, tells_bare, waits, works}
use Rattle.script_run.proofs.Lift.{goes}
use Rattle.line_laws.specs.Along.{AreOfSession, KeepsSession}

-- ---- lines behind others

-- the line behind these was taken, and those behind it go on from there
pub record GoesOn (run : Run) (before : List (List ℕ)) (earlier : List Turn) (turn : Turn) (bytes : List ℕ) (later : List (List ℕ)) (rest : List Turn) : Type 0 where
  pub takes : LineTakes (run_after run before earlier) turn bytes
  pub goes : IsRun (after_line (run_after run before earlier) turn bytes) later rest
  pub ends : run_after run (before ++ bytes ∷ later) (earlier ++ turn ∷ rest) ≡ run_after (after_line (run_after run before earlier) turn bytes) later rest

pub goes_on : (run : Run) (before : List (List ℕ)) (earlier : List Turn) (turn : Turn) (bytes : List ℕ) (later : List (List ℕ)) (rest : List Turn) → IsRun run before earlier
    → IsRun run (before ++ bytes ∷ later) (earlier ++ turn ∷ rest) → GoesOn run before earlier turn bytes later rest
goes_on run [] [] turn bytes later rest legal is = record { takes = is.0; goes = is.1; ends = refl }
goes_on run [] (x ∷ earlier) turn bytes later rest legal is = absurd legal
goes_on run (b ∷ before) [] turn bytes later rest legal is = absurd legal
goes_on run (b ∷ before) (x ∷ earlier) turn bytes later rest legal is =
    let g : GoesOn (after_line run x b) before earlier turn bytes later rest = goes_on (after_line run x b) before earlier turn bytes later rest legal.1 is.1 in
    record { takes = g.takes; goes = g.goes; ends = g.ends }

-- ---- what came to hold

-- nothing is asked of a turn
abbrev pub AnyTurn : Turn → Type 0
AnyTurn turn = Unit {0}

module _ (Has : Run → Type 0) (Leaves : Turn → Type 0) (Makes : Run → Turn → LineAnswer → Type 0) where
  -- it is so before each of these lines, whose turn leaves it, and behind the last one
  abbrev pub HasAlong : Run → List (List ℕ) → List Turn → Type 0
  HasAlong run [] turns = Has run
  HasAlong run (bytes ∷ lines) [] = Has run
  HasAlong run (bytes ∷ lines) (turn ∷ turns) = Has run × Leaves turn × HasAlong (after_line run turn bytes) lines turns

  -- a line of these made it so, and none since began another session
  pub record MadeAlong (run : Run) (lines : List (List ℕ)) (turns : List Turn) : Type 0 where
    pub before : List (List ℕ)
    pub earlier : List Turn
    pub bytes : List ℕ
    pub turn : Turn
    pub later : List (List ℕ)
    pub rest : List Turn
    pub lines_are : lines ≡ before ++ bytes ∷ later
    pub turns_are : turns ≡ earlier ++ turn ∷ rest
    pub legal : IsRun run before earlier
    pub takes : LineTakes (run_after run before earlier) turn bytes
    pub made : Makes (run_after run before earlier) turn (reading_of bytes)
    pub same_session : AreOfSession (bytes ∷ later)
    pub goes : IsRun (after_line (run_after run before earlier) turn bytes) later rest
    pub since : HasAlong (after_line (run_after run before earlier) turn bytes) later rest
    pub ends : run_after run lines turns ≡ run_after (after_line (run_after run before earlier) turn bytes) later rest

  -- what is so behind a line was so before it, and its turn left it, or the line made it so; and the line begins no session
  abbrev pub ByLine : Type 0
  ByLine = (run : Run) (turn : Turn) (l : LineAnswer) → ReadingTakes run turn l → Has (after_reading run turn l) → ((Has run × Leaves turn) ⊎ Makes run turn l) × KeepsSession l

  made_here : (run : Run) (turn : Turn) (bytes : List ℕ) (lines : List (List ℕ)) (turns : List Turn) → LineTakes run turn bytes → Makes run turn (reading_of bytes)
      → KeepsSession (reading_of bytes)
      → IsRun (after_line run turn bytes) lines turns → HasAlong (after_line run turn bytes) lines turns → AreOfSession lines → MadeAlong run (bytes ∷ lines) (turn ∷ turns)
  made_here run turn bytes lines turns takes made keeps is since same = record {
    before = [];
    earlier = [];
    bytes = bytes;
    turn = turn;
    later = lines;
    rest = turns;
    lines_are = refl;
    turns_are = refl;
    legal = tt;
    takes = takes;
    made = made;
    same_session = (keeps, same);
    goes = is;
    since = since;
    ends = refl;
  }

  made_later : (run : Run) (turn : Turn) (bytes : List ℕ) (lines : List (List ℕ)) (turns : List Turn) → LineTakes run turn bytes
      → MadeAlong (after_line run turn bytes) lines turns
      → MadeAlong run (bytes ∷ lines) (turn ∷ turns)
  made_later run turn bytes lines turns takes m = record {
    before = bytes ∷ m.before;
    earlier = turn ∷ m.earlier;
    bytes = m.bytes;
    turn = m.turn;
    later = m.later;
    rest = m.rest;
    lines_are = ap (λ (xs : List (List ℕ)). bytes ∷ xs) m.lines_are;
    turns_are = ap (λ (xs : List Turn). turn ∷ xs) m.turns_are;
    legal = (takes, m.legal);
    takes = m.takes;
    made = m.made;
    same_session = m.same_session;
    goes = m.goes;
    since = m.since;
    ends = m.ends;
  }

  pub made_along : ByLine → (lines : List (List ℕ)) (turns : List Turn) (run : Run) → IsRun run lines turns → Has (run_after run lines turns)
      → (Has run × HasAlong run lines turns × AreOfSession lines) ⊎ MadeAlong run lines turns
  made_along by_line [] turns run is h = inl (h, h, tt)
  made_along by_line (bytes ∷ lines) [] run is h = absurd is
  made_along by_line (bytes ∷ lines) (turn ∷ turns) run is h = elim (made_along by_line lines turns (after_line run turn bytes) is.1 h) [
    | inr later ↦ inr (made_later run turn bytes lines turns is.0 later)
    | inl now ↦
        let one = by_line run turn (reading_of bytes) is.0 now.0 in
        elim one.0 [
          | inl old ↦ inl (old.0, (old.0, old.1, now.1), (one.1, now.2))
          | inr made ↦ inr (made_here run turn bytes lines turns is.0 made one.1 is.1 now.1 now.2)
        ]
  ]

-- ---- what holds of the state of a session, by records of its lines

module _ (Holds : State → Type 0) (Tells : Rec → Type 0) where
  abbrev pub HoldsWhere : Option State → Type 0
  HoldsWhere None = ⊥
  HoldsWhere (Some s) = Holds s

  -- among the records of a line on the session is one that tells of it
  pub record ToldHere (run : Run) (turn : Turn) (l : LineAnswer) : Type 0 where
    pub s : State
    pub state : run.state ≡ Some s
    pub asks : Step
    pub takes : SessionTakes run s turn asks
    pub next : after_reading run turn l ≡ in_session run s (after_all s turn.added) turn asks
    pub told : Rec
    pub among : IsAmong told turn.added
    pub tells : Tells told

  abbrev pub ToldAlong : Run → List (List ℕ) → List Turn → Type 0
  ToldAlong = MadeAlong (λ run. HoldsWhere run.state) AnyTurn ToldHere

  module _ (formats : (g : Geometry) → Holds (after_all nothing_yet (format_records g)) → ⊥) (one : (s : State) (r : Rec) → Holds (state_after s r) → Holds s ⊎ Tells r) where
    pub told_in : (s : State) (added : List Rec) → Holds (after_all s added) → Holds s ⊎ ((r : Rec) × IsAmong r added × Tells r)
    told_in s [] h = inl h
    told_in s (r ∷ recs) h = elim (told_in (state_after s r) recs h) [
      | inr later ↦ inr (later.0, inr later.1, later.2)
      | inl now ↦ elim (one s r now) [
        | inl old ↦ inl old
        | inr here ↦ inr (r, inl refl, here)
      ]
    ]

    by_steps : (run : Run) (turn : Turn) (st : Step) (s : State) (after : Run) → after ≡ in_session run s (after_all s turn.added) turn st → run.state ≡ Some s
        → SessionTakes run s turn st
        → (l : LineAnswer) → after_reading run turn l ≡ after → Holds s ⊎ ((r : Rec) × IsAmong r turn.added × Tells r) → (HoldsWhere run.state × AnyTurn turn) ⊎ ToldHere run turn l
    by_steps run turn st s after is e takes l ends (inl old) = inl (subst HoldsWhere (sym e) old, tt)
    by_steps run turn st s after is e takes l ends (inr told) =
        inr (record { s = s; state = e; asks = st; takes = takes; next = ends ∙ is; told = told.0; among = told.1; tells = told.2 })

    by_goes : (run : Run) (turn : Turn) {st : Step} {said : StepAnswer} {after : Run} → StepGoes run turn st said after → after_reading run turn (line.Step st) ≡ after → HoldsWhere after.state
        → ((HoldsWhere run.state × AnyTurn turn) ⊎ ToldHere run turn (line.Step st)) × (begins_session st ≡ false)
    by_goes run turn (stays bad same none) ends h = (inl (h, tt), same)
    by_goes run turn (waits at same none) ends h = (inl (h, tt), same)
    by_goes run turn {st = st} (works s same e takes) ends h = (by_steps run turn st s _ refl e takes (line.Step st) ends (told_in s turn.added h), same)
    by_goes run turn (begins name g same is) ends h = absurd (formats g (subst (λ recs. Holds (after_all nothing_yet recs)) is h))
    by_goes run turn (fails name count same is refuses) ends h = absurd h
    by_goes run turn (cuts_off choice s e cut) ends h = absurd h
    by_goes run turn (tells_bare t same e last takes only) ends h = absurd (subst HoldsWhere e h)

    by_line : ByLine (λ run. HoldsWhere run.state) AnyTurn ToldHere
    by_line run turn (line.Step st) takes h = by_goes run turn (goes run turn st takes) refl h
    by_line run turn line.Nothing takes h = (inl (h, tt), tt)
    by_line run turn (line.Bad fault) takes h = absurd takes

    pub told_along : (lines : List (List ℕ)) (turns : List Turn) (run : Run) → IsRun run lines turns → HoldsWhere (run_after run lines turns).state
        → (HoldsWhere run.state × HasAlong (λ run. HoldsWhere run.state) AnyTurn ToldHere run lines turns × AreOfSession lines) ⊎ ToldAlong run lines turns
    told_along = made_along (λ run. HoldsWhere run.state) AnyTurn ToldHere by_line
