-- The reader that an actor has was opened by a line of that actor, and the lines of the actor alone were given its fragments.
use Rattle.std.proofs.Common.{◌≡◌, ℕ, ◌+◌, ◌<◌, ◌≤◌, List, [], ◌∷◌, ◌++◌, length, refl, sym, ◌∙◌, ap, subst, arith, inl, inr, ◌⊎◌, Bool, true, false}
use Rattle.std.specs.Prelude.{Option, Some, None, cond, is_some, option_and_then}
use Rattle.std.specs.Cmp.Lexicographic.{same_text, other_text}
use Rattle.std.proofs.lemmas.Option.{same_Some}
use Rattle.tape_base.specs.declared.keys.Key.{Key}
use Rattle.alternate_vector.specs.Field.{Field}
use Rattle.actor_table.specs.Table.{number_of_name, same_name, with_actor}
use Rattle.cache_model.specs.declared.record.Rec.{Rec}
use Rattle.cache_model.specs.declared.record.Rec.TheVariants as rec
use Rattle.cache_model.specs.State.{State, ReaderRow, AllAlong, after_all, reader_of, state_after}
use Rattle.cache_model.specs.Permit.{Intent, Commit}
use Rattle.cache_model.proofs.Found.{no_truth, none_is}
use Rattle.step_laws.specs.StepLaws.{IsNumbered}
use Rattle.script_grammar.specs.declared.line.LineAnswer.{LineAnswer}
use Rattle.script_grammar.specs.declared.line.LineAnswer.TheVariants as line
use Rattle.script_grammar.specs.declared.answer.StepAnswer.{StepAnswer}
use Rattle.script_grammar.specs.declared.step.Step.{Step}
use Rattle.script_grammar.specs.declared.step.Step.TheVariants as step
use Rattle.script_grammar.specs.Grammar.{reading_of}
use Rattle.script_run.specs.Run.{Holding, HoldsReader, Run, HoldsWriter, actor_of, fresh, held_by, reader_by, reader_in, with_value}
use Rattle.script_run.specs.Asked.{asked}
use Rattle.script_run.specs.Turn.{Turn}
use Rattle.script_run.specs.Behind.{after_line, after_reading, behind, held_behind, holds_behind, in_session, open_reader_at, or_else, still_open, writer_at}
use Rattle.script_run.specs.Takes.{IsRun, ReadingTakes, SessionTakes, run_after}
use Rattle.script_run.proofs.Values.{value_by}
use Rattle.script_run.specs.Goes.{StepGoes, begins, begins_session, cuts_off, fails, stays, tells_bare, waits, works}
use Rattle.script_run.proofs.Lift.{EachKeeps, goes, line_keeps, lines_keep}
use Rattle.line_laws.specs.Given.{given_by_line, given_to, given_where}
use Rattle.line_laws.specs.Actors.{asked_by, given_by_name}
use Rattle.line_laws.proofs.Beside.{AllBeside, AllOther, AnyNumber, IsBeside, IsOther, grown_beside}
use Rattle.line_laws.proofs.Fronts.{own_begun}
use Rattle.reader_laws.proofs.Names.{Extends, HasCome, behind_extends, come, extends_self, extends_then, known_kept, same_number}
use Rattle.line_laws.proofs.Since.{AnyTurn, ByLine, HasAlong}
use Rattle.line_laws.proofs.Standing.{Keeps, KeepsIn, OfKept, reading_keeps}

-- ---- what an actor has behind a step

-- it had the reader before, or the step opened it
reader_open : (t : State) (m n : ℕ) (b : Bool) → is_some (reader_of t m) ≡ b → cond b (Some (HoldsReader m)) None ≡ Some (HoldsReader n) → (m ≡ n) × (is_some (reader_of t m) ≡ true)
reader_open t m n true e h = let same : m ≡ n = cc in (same, e)
reader_open t m n false e h = none_is h

no_writer_reads : (t : State) (m n : ℕ) (b : Bool) → cond b (Some (HoldsWriter m)) None ≡ Some (HoldsReader n) → ⊥
no_writer_reads t m n true h = cc
no_writer_reads t m n false h = cc

still_reads : (t : State) (o : Option Holding) (n : ℕ) → still_open t o ≡ Some (HoldsReader n) → o ≡ Some (HoldsReader n)
still_reads t None n h = none_is h
still_reads t (Some (HoldsWriter put)) n h = absurd (no_writer_reads t put n _ h)
still_reads t (Some (HoldsReader m)) n h = ap (λ k. Some (HoldsReader k)) (reader_open t m n (is_some (reader_of t m)) refl h).0

found_some : (o : Option ReaderRow) → is_some o ≡ true → (r : ReaderRow) × (o ≡ Some r)
found_some None h = no_truth (sym h)
found_some (Some r) h = (r, refl)

-- the step opens this reader, for its actor
pub record OpensHere (run : Run) (s t : State) (name : List ℕ) (st : Step) (n : ℕ) : Type 0 where
  pub key : Key
  pub request : List Field
  pub asks : st ≡ step.OpenRead name key request
  pub free : held_by run name ≡ None
  pub number : s.next_reader ≡ n
  pub r : ReaderRow
  pub found : reader_of t s.next_reader ≡ Some r

opened_by : (run : Run) (s t : State) (name : List ℕ) (key : Key) (request : List Field) (n : ℕ) (o : Option Holding) → held_by run name ≡ o
    → or_else o (open_reader_at t s.next_reader) ≡ Some (HoldsReader n)
    → (o ≡ Some (HoldsReader n)) ⊎ OpensHere run s t name (step.OpenRead name key request) n
opened_by run s t name key request n (Some holding) e h = inl h
opened_by run s t name key request n None e h =
    let is = reader_open t s.next_reader n (is_some (reader_of t s.next_reader)) refl h in
    let r = found_some (reader_of t s.next_reader) is.1 in
    inr (record { key = key; request = request; asks = refl; free = e; number = is.0; r = r.0; found = r.1 })

writer_by : (t : State) (m n : ℕ) (o : Option Holding) → or_else o (writer_at t m) ≡ Some (HoldsReader n) → o ≡ Some (HoldsReader n)
writer_by t m n (Some holding) h = h
writer_by t m n None h = absurd (no_writer_reads t m n _ h)

holds_by : (run : Run) (s t : State) (st : Step) (name : List ℕ) (n : ℕ) → actor_of st ≡ Some name → holds_behind run s t st name ≡ Some (HoldsReader n)
    → (held_by run name ≡ Some (HoldsReader n)) ⊎ OpensHere run s t name st n
holds_by run s t (step.OpenWrite actor key pin request response) name n is h = inl (writer_by t s.next_put n (held_by run name) h)
holds_by run s t (step.OpenRead actor key request) name n is h =
    let same : actor ≡ name = same_Some actor name is in
    subst (λ a. (held_by run name ≡ Some (HoldsReader n)) ⊎ OpensHere run s t name (step.OpenRead a key request) n) (sym same) (opened_by run s t name key request n (held_by run name) refl h)
holds_by run s t (step.Feed actor body) name n is h = inl (still_reads t (held_by run name) n h)
holds_by run s t (step.Close actor) name n is h = inl (still_reads t (held_by run name) n h)
holds_by run s t (step.Abort actor) name n is h = inl (still_reads t (held_by run name) n h)
holds_by run s t (step.Next actor) name n is h = inl (still_reads t (held_by run name) n h)
holds_by run s t (step.Done actor) name n is h = inl (still_reads t (held_by run name) n h)
holds_by run s t _ name n is h = none_is is

-- ---- the line that opened it

module _ (k n : ℕ) where
  abbrev pub Has : Run → Type 0
  Has run = run.held k ≡ Some (HoldsReader n)

  pub record Makes (run : Run) (turn : Turn) (l : LineAnswer) : Type 0 where
    pub name : List ℕ
    pub numbered : number_of_name run.actors name ≡ k
    pub s : State
    pub state : run.state ≡ Some s
    pub st : Step
    pub is : l ≡ line.Step st
    pub opens : OpensHere run s (after_all s turn.added) name st n

  held_before : (run : Run) (turn : Turn) (s : State) (st : Step) (o : Option (List ℕ)) → run.state ≡ Some s → actor_of st ≡ o
      → held_behind run s (after_all s turn.added) st o k ≡ Some (HoldsReader n)
      → (Has run × AnyTurn turn) ⊎ Makes run turn (line.Step st)
  held_before run turn s st None e is h = inl (h, tt)
  held_before run turn s st (Some name) e is h =
      value_by (λ (x : Option Holding). x ≡ Some (HoldsReader n) → (Has run × AnyTurn turn) ⊎ Makes run turn (line.Step st)) (holds_behind run s (after_all s turn.added) st name) (run.held k) k (number_of_name run.actors name)
      (λ same has. elim (holds_by run s (after_all s turn.added) st name n is has) [
        | inl before ↦ inl (ap run.held same ∙ before, tt)
        | inr opens ↦ inr (record { name = name; numbered = sym same; s = s; state = e; st = st; is = refl; opens = opens })
      ])
      (λ other before. inl (before, tt)) h

  step_before : (run : Run) (turn : Turn) {st : Step} {said : StepAnswer} {after : Run} → StepGoes run turn st said after → Has after
      → ((Has run × AnyTurn turn) ⊎ Makes run turn (line.Step st)) × (begins_session st ≡ false)
  step_before run turn (stays bad same none) h = (inl (h, tt), same)
  step_before run turn (waits at same none) h = (inl (h, tt), same)
  step_before run turn {st = st} (works s same e takes) h = (held_before run turn s st (actor_of st) e refl h, same)
  step_before run turn (begins name g same is) h = none_is h
  step_before run turn (fails name count same is refuses) h = none_is h
  step_before run turn (cuts_off choice s e cut) h = none_is h
  step_before run turn (tells_bare t same e last takes only) h = (inl (h, tt), same)

  pub line_before : ByLine Has AnyTurn Makes
  line_before run turn (line.Step st) takes h = step_before run turn (goes run turn st takes) h
  line_before run turn line.Nothing takes h = (inl (h, tt), tt)
  line_before run turn (line.Bad fault) takes h = absurd takes

-- ---- the names of actors

grows : (actors : List (List ℕ)) → EachKeeps (λ run. Extends actors run.actors)
grows actors = record {
  moments = λ run at h. h;
  steps = λ run s turn st e takes h. extends_then actors run.actors _ h (behind_extends run.actors (actor_of st));
  formats = λ run name calls g h. h;
  fails = λ run name calls count h. h;
  ends = λ run s turn choice e cut h. h;
  tells = λ run turn e only h. h;
}

reading_extends : (run : Run) (turn : Turn) (l : LineAnswer) → ReadingTakes run turn l → Extends run.actors (after_reading run turn l).actors
reading_extends run turn l takes = line_keeps (λ next. Extends run.actors next.actors) (grows run.actors) run turn l takes (extends_self run.actors)

pub run_extends : (lines : List (List ℕ)) (turns : List Turn) (run : Run) → IsRun run lines turns → Extends run.actors (run_after run lines turns).actors
run_extends lines turns run is = lines_keep (λ next. Extends run.actors next.actors) (grows run.actors) lines turns run is (extends_self run.actors)

-- the name of an actor that has come is known, with this number
pub record IsKnown (run : Run) (name : List ℕ) (k : ℕ) : Type 0 where
  pub number : number_of_name run.actors name ≡ k
  pub known : number_of_name run.actors name < 1 + length run.actors

pub known_on : (run after : Run) (name : List ℕ) (k : ℕ) → Extends run.actors after.actors → IsKnown run name k → IsKnown after name k
known_on run after name k more h = let on = known_kept run.actors after.actors name more h.known in record { number = on.0 ∙ h.number; known = on.1 }

pub known_opened : (k n : ℕ) (run : Run) (turn : Turn) (l : LineAnswer) (m : Makes k n run turn l) → IsKnown (after_reading run turn l) m.name k
known_opened k n run turn l m =
    let t : State = after_all m.s turn.added in
    let actors : (after_reading run turn l).actors ≡ with_actor run.actors m.name =
    ap (λ (x : LineAnswer). (after_reading run turn x).actors) m.is
    ∙ (ap (λ (st : Step). (behind run turn run.state st).actors) m.opens.asks
    ∙ ap (λ (o : Option State). (behind run turn o (step.OpenRead m.name m.opens.key m.opens.request)).actors) m.state) in
    let h : HasCome run.actors (with_actor run.actors m.name) m.name = come run.actors m.name in
    record {
      number = ap (λ (xs : List (List ℕ)). number_of_name xs m.name) actors ∙ (h.number ∙ m.numbered);
      known = subst (λ (xs : List (List ℕ)). number_of_name xs m.name < 1 + length xs) (sym actors) h.known;
    }

-- ---- no two actors have one reader

pub record AreApart (run : Run) : Type 0 where
  pub apart : (i j m : ℕ) → run.held i ≡ Some (HoldsReader m) → run.held j ≡ Some (HoldsReader m) → i ≡ j
  pub below : (s : State) → run.state ≡ Some s → (i m : ℕ) → run.held i ≡ Some (HoldsReader m) → m < s.next_reader

any_one : (i : Intent) → IsOther AnyNumber AnyNumber i
any_one (Commit put) = tt
any_one _ = tt

any_other : (is : List Intent) → AllOther AnyNumber AnyNumber is
any_other [] = tt
any_other (i ∷ is) = (any_one i, any_other is)

rises_one : (s : State) (r : Rec) → IsNumbered s r → IsBeside AnyNumber AnyNumber r → s.next_reader ≤ (state_after s r).next_reader
rises_one s (rec.Formatted geometry) numbered beside = absurd beside
rises_one s (rec.Opened geometry serial cursor floor next_put clean list) numbered beside = absurd beside
rises_one s (rec.ReadOpened reader actor key request answer) numbered beside = omega (arith, numbered)
rises_one s _ numbered beside = omega arith

rises : (s : State) (recs : List Rec) → AllAlong IsNumbered s recs → AllBeside AnyNumber AnyNumber recs → s.next_reader ≤ (after_all s recs).next_reader
rises s [] numbered beside = omega arith
rises s (r ∷ recs) numbered beside = omega (arith, rises_one s r numbered.0 beside.0, rises (state_after s r) recs numbered.1 beside.1)

module _ (laws : OfKept) (run : Run) (turn : Turn) where
  module _ (s : State) (st : Step) (e : run.state ≡ Some s) (takes : SessionTakes run s turn st) (keeps : Keeps (in_session run s (after_all s turn.added) turn st) (after_all s turn.added)) (h : AreApart run) where
    abbrev Behind : State
    Behind = after_all s turn.added

    on : s.next_reader ≤ Behind.next_reader
    on = rises s turn.added (laws.numbers_follow turn.device s (asked run s st) turn.added turn.refused takes.legal) (grown_beside AnyNumber AnyNumber (any_other (asked run s st)) takes.legal.grows)

    -- what an actor has behind the step it had before, or it is the next reader
    abbrev IsOldOrNext : ℕ → ℕ → Type 0
    IsOldOrNext k m = (run.held k ≡ Some (HoldsReader m)) ⊎ ((s.next_reader ≡ m) × (m < Behind.next_reader))

    old_or_next : (name : List ℕ) (m : ℕ) → actor_of st ≡ Some name → holds_behind run s Behind st name ≡ Some (HoldsReader m) → IsOldOrNext (number_of_name run.actors name) m
    old_or_next name m is has = elim (holds_by run s Behind st name m is has) [
      | inl before ↦ inl before
      | inr o ↦
          let begun : s.next_reader < Behind.next_reader = own_begun Behind _ s.next_reader o.r keeps.kept o.found in
          inr (o.number, subst (λ x. x < Behind.next_reader) o.number begun)
    ]

    module _ (k : ℕ) (new : Option Holding) (c : (m : ℕ) → new ≡ Some (HoldsReader m) → IsOldOrNext k m) where
      clash : (j m : ℕ) → (j ≡ k → ⊥) → new ≡ Some (HoldsReader m) → run.held j ≡ Some (HoldsReader m) → ⊥
      clash j m other now has = elim (c m now) [
        | inl before ↦ other (h.apart j k m has before)
        | inr next ↦ (let below : m < s.next_reader = h.below s e j m has in omega (arith, below, next.0))
      ]

      apart_by : (i j m : ℕ) → with_value run.held k new i ≡ Some (HoldsReader m) → with_value run.held k new j ≡ Some (HoldsReader m) → i ≡ j
      apart_by i j m =
          value_by (λ (a : Option Holding). a ≡ Some (HoldsReader m) → with_value run.held k new j ≡ Some (HoldsReader m) → i ≡ j) new (run.held i) i k
          (λ first now. value_by (λ (a : Option Holding). a ≡ Some (HoldsReader m) → i ≡ j) new (run.held j) j k
          (λ second has. first ∙ sym second) (λ other has. absurd (clash j m other now has)))
          (λ other before. value_by (λ (a : Option Holding). a ≡ Some (HoldsReader m) → i ≡ j) new (run.held j) j k
          (λ second has. absurd (clash i m other has before)) (λ others has. h.apart i j m before has))

      below_by : (i m : ℕ) → with_value run.held k new i ≡ Some (HoldsReader m) → m < Behind.next_reader
      below_by i m =
          value_by (λ (a : Option Holding). a ≡ Some (HoldsReader m) → m < Behind.next_reader) new (run.held i) i k
          (λ same now. elim (c m now) [
            | inl before ↦ (let below : m < s.next_reader = h.below s e k m before in omega (arith, below, on))
            | inr next ↦ next.1
          ])
          (λ other before. (let below : m < s.next_reader = h.below s e i m before in omega (arith, below, on)))

    apart_behind : (o : Option (List ℕ)) → actor_of st ≡ o → (i j m : ℕ) → held_behind run s Behind st o i ≡ Some (HoldsReader m)
        → held_behind run s Behind st o j ≡ Some (HoldsReader m) → i ≡ j
    apart_behind None is i j m = h.apart i j m
    apart_behind (Some name) is i j m = apart_by (number_of_name run.actors name) (holds_behind run s Behind st name) (λ x has. old_or_next name x is has) i j m

    below_behind : (o : Option (List ℕ)) → actor_of st ≡ o → (i m : ℕ) → held_behind run s Behind st o i ≡ Some (HoldsReader m) → m < Behind.next_reader
    below_behind None is i m has = (let below : m < s.next_reader = h.below s e i m has in omega (arith, below, on))
    below_behind (Some name) is i m has = below_by (number_of_name run.actors name) (holds_behind run s Behind st name) (λ x now. old_or_next name x is now) i m has

    step_apart : AreApart (in_session run s Behind turn st)
    step_apart = record {
      apart = apart_behind (actor_of st) refl;
      below = λ t same. subst (λ (x : State). (i m : ℕ) → held_behind run s Behind st (actor_of st) i ≡ Some (HoldsReader m) → m < x.next_reader) (same_Some Behind t same) (below_behind (actor_of st) refl);
    }

  goes_apart : {st : Step} {said : StepAnswer} {after : Run} → StepGoes run turn st said after → KeepsIn after → AreApart run → AreApart after
  goes_apart (stays bad same none) keeps h = h
  goes_apart (waits at same none) keeps h = record { apart = h.apart; below = h.below }
  goes_apart {st = st} (works s same e takes) keeps h = step_apart s st e takes keeps h
  goes_apart (begins name g same is) keeps h = record { apart = λ i j m has. none_is has; below = λ s same i m has. none_is has }
  goes_apart (fails name count same is refuses) keeps h = record { apart = λ i j m has. none_is has; below = λ s same i m has. none_is has }
  goes_apart (cuts_off choice s e cut) keeps h = record { apart = λ i j m has. none_is has; below = λ s same i m has. none_is has }
  goes_apart (tells_bare t same e last takes only) keeps h = record { apart = h.apart; below = h.below }

  pub reading_apart : (l : LineAnswer) → ReadingTakes run turn l → KeepsIn (after_reading run turn l) → AreApart run → AreApart (after_reading run turn l)
  reading_apart (line.Step st) takes keeps h = goes_apart (goes run turn st takes) keeps h
  reading_apart line.Nothing takes keeps h = h
  reading_apart (line.Bad fault) takes keeps h = absurd takes

pub fresh_apart : AreApart fresh
fresh_apart = record { apart = λ i j m has. none_is has; below = λ s same i m has. none_is has }

pub apart_after : (laws : OfKept) (lines : List (List ℕ)) (turns : List Turn) (run : Run) → IsRun run lines turns → KeepsIn run → AreApart run
    → AreApart (run_after run lines turns)
apart_after laws [] turns run is keeps h = h
apart_after laws (bytes ∷ lines) [] run is keeps h = absurd is
apart_after laws (bytes ∷ lines) (turn ∷ turns) run is keeps h =
    let next : KeepsIn (after_line run turn bytes) = reading_keeps laws run turn (reading_of bytes) is.0 keeps in
    apart_after laws lines turns (after_line run turn bytes) is.1 next (reading_apart laws run turn (reading_of bytes) is.0 next h)

-- ---- what is given to it

pub reader_held : (o : Option Holding) (n : ℕ) → option_and_then reader_in o ≡ Some n → o ≡ Some (HoldsReader n)
reader_held None n h = none_is h
reader_held (Some (HoldsWriter put)) n h = none_is h
reader_held (Some (HoldsReader m)) n h = let same : m ≡ n = cc in ap (λ k. Some (HoldsReader k)) same

module _ (name : List ℕ) (k n : ℕ) (run : Run) (turn : Turn) (h : AreApart run) (known : IsKnown run name k) (has : run.held k ≡ Some (HoldsReader n)) where
  -- the actor has it
  own_reader : reader_by run name ≡ Some n
  own_reader = ap (λ i. option_and_then reader_in (run.held i)) known.number ∙ ap (option_and_then reader_in) has

  -- and no other one
  others_none : (actor : List ℕ) (given : List ℕ) (o : Option ℕ) → same_name actor name ≡ false → reader_by run actor ≡ o → given_where n given o ≡ []
  others_none actor given None other e = refl
  others_none actor given (Some m) other e = value_by (λ (xs : List ℕ). xs ≡ []) given [] m n
      (λ same.
      let held : run.held (number_of_name run.actors actor) ≡ Some (HoldsReader n) = reader_held (run.held (number_of_name run.actors actor)) n (e ∙ ap Some same) in
      let number : number_of_name run.actors name ≡ number_of_name run.actors actor = known.number ∙ h.apart k (number_of_name run.actors actor) n has held in
      absurd (other_text actor name (sym other) (sym (same_number run.actors name actor number known.known))))
      (λ apart. refl)

  next_given : (actor : List ℕ) (b : Bool) → same_name actor name ≡ b → given_where n turn.given (reader_by run actor) ≡ cond b turn.given []
  next_given actor true e =
      let same : actor ≡ name = same_text actor name (sym e) in
      ap (λ (a : List ℕ). given_where n turn.given (reader_by run a)) same
      ∙ (ap (given_where n turn.given) own_reader ∙ value_by (λ (xs : List ℕ). xs ≡ turn.given) turn.given [] n n (λ e. refl) (λ other. absurd (other refl)))
  next_given actor false e = others_none actor turn.given (reader_by run actor) e refl

  line_given : (l : LineAnswer) → given_by_line n run turn l ≡ asked_by name l turn.given
  line_given (line.Step (step.Next actor)) = next_given actor (same_name actor name) refl
  line_given (line.Step _) = refl
  line_given line.Nothing = refl
  line_given (line.Bad fault) = refl

module _ (laws : OfKept) (name : List ℕ) (k n : ℕ) where
  pub all_given : (lines : List (List ℕ)) (turns : List Turn) (run : Run) → IsRun run lines turns → KeepsIn run → AreApart run → IsKnown run name k
      → HasAlong (Has k n) AnyTurn (Makes k n) run lines turns
      → given_to n run lines turns ≡ given_by_name name lines turns
  all_given [] turns run is keeps apart known has = refl
  all_given (bytes ∷ lines) [] run is keeps apart known has = refl
  all_given (bytes ∷ lines) (turn ∷ turns) run is keeps apart known has =
      let after : Run = after_line run turn bytes in
      let next : KeepsIn after = reading_keeps laws run turn (reading_of bytes) is.0 keeps in
      let rest = all_given lines turns after is.1 next (reading_apart laws run turn (reading_of bytes) is.0 next apart) (known_on run after name k (reading_extends run turn (reading_of bytes) is.0) known) has.2 in
      ap (λ (xs : List ℕ). xs ++ given_to n after lines turns) (line_given name k n run turn apart known has.0 (reading_of bytes))
      ∙ ap (λ (xs : List ℕ). asked_by name (reading_of bytes) turn.given ++ xs) rest
