-- What the actors have behind a line of one of them, and lines that do nothing.
use Rattle.std.proofs.Common.{◌≡◌, ℕ, ◌+◌, ◌≤◌, List, [], ◌∷◌, ◌++◌, length, refl, sym, ◌∙◌, ap, subst, Bool, true, false, inl, inr, arith, Result, Ok, Err}
use Rattle.std.specs.Prelude.{Option, Some, None, IfSome, IsErrAnd, ◌==◌, if◌then◌else◌, option_map}
use Rattle.std.proofs.lemmas.Bool.{eqb-true, eq-eqb}
use Rattle.std.proofs.lemmas.List.{length-append}
use Rattle.std.specs.Global.{Vec}
use Rattle.std.specs.Vec.{with_items}
use Rattle.actor_table.specs.Table.{TableSeen, number_of_name, slot_of_actor, with_actor}
use Rattle.cache_model.specs.Kept.{state_of}
use Rattle.cache_model.specs.State.{State}
use Rattle.call_laws.specs.Untold.{Untold}
use Rattle.call_laws.specs.Moments.{permit_of}
use Rattle.call_laws.specs.Progress.{in_full}
use Rattle.call_laws.specs.Whole.{IsWholeStep}
use Rattle.call_laws.proofs.Served.{serves_still}
use Rattle.cache_model.specs.Vectors.{AreTold, IsVectorAs}
use Rattle.cache_calls.specs.declared.calls.Calls.{Ghosts as CallsGhosts}
use Rattle.cache_calls.specs.Adds.{IsAsItWas}
use Rattle.cache_calls.specs.Keeping.{Goes, IsAtRest, KeepsUnharmed, state_at}
use Rattle.cache_calls.proofs.Keeping.{goes_still}
use Rattle.script_grammar.specs.declared.step.Step.{Step}
use Rattle.script_grammar.specs.declared.step.Step.TheVariants as step
use Rattle.script_grammar.specs.declared.answer.StepAnswer.{StepAnswer}
use Rattle.script_run.specs.Run.{Run, Stream, actor_of, held_by, with_value, Holding as Held}
use Rattle.script_run.specs.Asked.{asked}
use Rattle.script_run.specs.Switch.{order_of_step}
use Rattle.script_run.specs.Turn.{Turn}
use Rattle.script_run.specs.Answers.{session_said}
use Rattle.script_run.specs.Behind.{actors_behind, held_behind, holds_behind, in_session, streams_behind}
use Rattle.script_run.specs.Own.{AreOwn}
use Rattle.script_run.specs.Takes.{GivesOwn}
use Rattle.cache_replay.specs.declared.session.ActorHolding.{ActorHolding}
use Rattle.cache_replay.specs.declared.session.Part.{Part}
use Rattle.cache_replay.specs.declared.stop.Stop.{Stop}
use Rattle.cache_replay.specs.declared.stop.Stop.TheVariants.{Memory}
use Rattle.line_calls.specs.Moves.{MovesOrShows}
use Rattle.cache_replay.specs.OneLine.{AnswersActor}
use Rattle.run_promise.specs.Outline.{count_in}
use Rattle.cache_replay.specs.Plays.{IsHeldAs, PartEnds, PlaysIn, PlaysPart}
use Rattle.line_calls.specs.Standing.{OwnStands}
use Rattle.cache_replay.specs.Session.{AreHeld, HoldingSeen, IsActive, IsHeldByActor, at_in, holding_seen, slots_of, state_in_part}
use Rattle.cache_replay.proofs.Frames.{Changed, leaves_all, part_behind}
use Rattle.cache_replay.proofs.Plain.{none_else, still_plays}
use Rattle.line_calls.proofs.Whole.{moves_line, serves_whole}

-- ---- slots

pub with_same : {X : Type 0} (f : ℕ → X) (n m : ℕ) (b : Bool) → (m == n) ≡ b → (if b then f n else f m) ≡ f m
with_same f n m true e = ap f (sym (eqb-true m n e))
with_same f n m false e = refl

pub with_other : {X : Type 0} (f : ℕ → X) (n m : ℕ) (x : X) → (m == n) ≡ false → with_value f n x m ≡ f m
with_other f n m x e = ap (λ (b : Bool). if b then x else f m) e

pub with_here : {X : Type 0} (f : ℕ → X) (n m : ℕ) (x : X) → m ≡ n → with_value f n x m ≡ x
with_here f n m x e = ap (λ (b : Bool). if b then x else f m) (eq-eqb m n e)

pub changed_from : (before mid after : ℕ → Option HoldingSeen) (n : ℕ) (x : Option HoldingSeen) → ((m : ℕ) → mid m ≡ before m) → Changed mid after n x
    → Changed before after n x
changed_from before mid after n x same set = λ m. set m ∙ ap (λ (o : Option HoldingSeen). if m == n then x else o) (same m)

twice : {X : Type 0} (b : Bool) (x y z : X) → (if b then x else (if b then y else z)) ≡ (if b then x else z)
twice true x y z = refl
twice false x y z = refl

-- what an actor is given last is what it has
pub changed_again : (before mid after : ℕ → Option HoldingSeen) (n : ℕ) (x y : Option HoldingSeen) → Changed before mid n y → Changed mid after n x → Changed before after n x
changed_again before mid after n x y left set = λ m.
    set m ∙ (ap (λ (o : Option HoldingSeen). if m == n then x else o) (left m) ∙ twice (m == n) x y (before m))

-- it is what it had
pub changed_to_same : (before after : ℕ → Option HoldingSeen) (n : ℕ) (x : Option HoldingSeen) → Changed before after n x → before n ≡ x → (m : ℕ) → after m ≡ before m
changed_to_same before after n x changed had = λ m.
    changed m ∙ (ap (λ (o : Option HoldingSeen). if m == n then o else before m) (sym had) ∙ with_same before n m (m == n) refl)

module _ {S W R : Type 0} (c : CallsGhosts S W R) (before after : TableSeen (ActorHolding W R)) where
  pub seen_same : ((n : ℕ) → slot_of_actor after.slots n ≡ slot_of_actor before.slots n) → (n : ℕ)
      → slots_of c after n ≡ slots_of c before n
  seen_same same = λ n. ap (option_map (holding_seen c)) (same n)

  given : (b : Bool) (x : ActorHolding W R) (o : Option (ActorHolding W R))
      → option_map (holding_seen c) (if b then Some x else o) ≡ (if b then Some (holding_seen c x) else option_map (holding_seen c) o)
  given true x o = refl
  given false x o = refl

  pub seen_set : (n : ℕ) (x : ActorHolding W R)
      → ((m : ℕ) → slot_of_actor after.slots m ≡ (if m == n then Some x else slot_of_actor before.slots m))
      → Changed (slots_of c before) (slots_of c after) n (Some (holding_seen c x))
  seen_set n x set = λ m. ap (option_map (holding_seen c)) (set m) ∙ given (m == n) x (slot_of_actor before.slots m)

-- ---- names

-- names do not become more than one more
pub one_more : (names : List (List ℕ)) (name : List ℕ) → length (with_actor names name) ≤ length names + 1
one_more names name = by (number_of_name names name == length names + 1)
  where
    by : (b : Bool) → length (if b then names ++ name ∷ [] else names) ≤ length names + 1
    by true = subst (λ k. k ≤ length names + 1) (sym (length-append names (name ∷ []))) (omega arith)
    by false = omega arith

pub names_within : (before after : List (List ℕ)) (name : List ℕ) → after ≡ with_actor before name → length after ≤ length before + 1
names_within before after name is = subst (λ (all : List (List ℕ)). length all ≤ length before + 1) (sym is) (one_more before name)

pub names_are : (run : Run) (s t : State) (turn : Turn) (step : Step) (name : List ℕ) (before after : List (List ℕ)) → actor_of step ≡ Some name → run.actors ≡ before
    → after ≡ with_actor before name → (in_session run s t turn step).actors ≡ after
names_are run s t turn step name before after actor is new = ap (actors_behind run.actors) actor ∙ (ap (λ names. with_actor names name) is ∙ sym new)

pub held_is : (run : Run) (s t : State) (step : Step) (name : List ℕ) → actor_of step ≡ Some name
    → held_behind run s t step (actor_of step) ≡ with_value run.held (number_of_name run.actors name) (holds_behind run s t step name)
held_is run s t step name is = ap (held_behind run s t step) is

-- what all have is what they had, where the actor of the line has
pub held_still : (run : Run) (s t : State) (step : Step) (name : List ℕ) → actor_of step ≡ Some name → holds_behind run s t step name ≡ held_by run name
    → (m : ℕ) → held_behind run s t step (actor_of step) m ≡ run.held m
held_still run s t step name actor holds m =
    let n : ℕ = number_of_name run.actors name in
    ap (λ (f : ℕ → Option Held). f m) (held_is run s t step name actor)
    ∙ (ap (λ (x : Option Held). with_value run.held n x m) holds ∙ with_same run.held n m (m == n) refl)

-- ---- what tells no switch

-- a line of an actor
pub no_order : (asks : Step) (name : List ℕ) → actor_of asks ≡ Some name → order_of_step asks ≡ None
no_order (step.Fail nth) name is = cc
no_order (step.StopAfter calls) name is = cc
no_order (step.Flip place byte) name is = cc
no_order _ name is = refl

-- ---- what does nothing

-- beside a run it is asked nothing, and this is its answer
pub record DoesNothing (run : Run) (s : State) (step : Step) (name : List ℕ) (said : StepAnswer) : Type 0 where
  pub asks : asked run s step ≡ []
  pub holds : holds_behind run s s step name ≡ held_by run name
  pub streams : (turn : Turn) → streams_behind run s s turn step ≡ run.streams
  pub own : (turn : Turn) → turn.given ≡ [] → GivesOwn run s turn step
  pub says : (turn : Turn) → session_said run s s turn step ≡ said

-- ---- a part behind a line

-- what is written over the elements of a vector leaves as many
pub refilled : (v : Vec ℕ) (ws : List ℕ) → length (with_items v ws).items ≡ length v.items
refilled v ws = sym (with_items v ws).ok.0 ∙ v.ok.0

module _ {S W R : Type 0} {c : CallsGhosts S W R} where
  -- where no actor has anything else
  pub same_active : (part : Part S W R c) (slots later : ℕ → Option HoldingSeen) → ((m : ℕ) → later m ≡ slots m) → IsActive part slots → IsActive part later
  same_active part slots later same active = record {
    part_is = active.part_is;
    held = λ m. subst (λ o. IfSome o (IsHeldByActor (state_in_part part))) (sym (same m)) (active.held m);
    apart = λ m k a b ne ma kb. active.apart m k a b ne (sym (same m) ∙ ma) (sym (same k) ∙ kb);
  }

  -- where its records are as they were
  pub kept_active : (old new : Part S W R c) (slots later : ℕ → Option HoldingSeen) → IsActive old slots → Goes c.at c.holds old.cache new.cache → IsAtRest (at_in new)
      → length new.page.items ≡ length old.page.items → IsAsItWas (at_in old) (at_in new) → ((m : ℕ) → later m ≡ slots m) → IsActive new later
  kept_active old new slots later active goes rest page kept same =
      let there : state_in_part new ≡ state_in_part old = ap state_of kept in
      let still = same_active old slots later same active in
      record {
        part_is = part_behind old new active.part_is goes rest page None None
            (leaves_all None None (state_in_part old) (state_in_part new) there);
        held = subst (λ t. AreHeld t later) (sym there) still.held;
        apart = still.apart;
      }

  -- ---- a line of an actor for which memory was wanting, and of which nothing is recorded

  pub wanting_line : (now : ℕ) (step : Step) (old new : Part S W R c) (before after : TableSeen (ActorHolding W R)) (name : List ℕ) (result : Result StepAnswer Stop)
      → IsErrAnd result (λ why. why ≡ Memory) → IsActive old (slots_of c before) → KeepsUnharmed c.at c.holds old.cache new.cache → IsAtRest (at_in new)
      → length new.page.items ≡ length old.page.items → IsAsItWas (at_in old) (at_in new)
      → ((m : ℕ) → slots_of c after m ≡ slots_of c before m) → after.names ≡ with_actor before.names name
      → AnswersActor now step old new before after result
  wanting_line now step old new before after name (Ok said) is active keeps rest page kept same names = absurd is
  wanting_line now step old new before after name (Err why) is active keeps rest page kept same names = record {
    active = kept_active old new (slots_of c before) (slots_of c after) active keeps.goes_on rest page kept same;
    goes = keeps.goes_on;
    ends = tt;
    unharmed = λ run plays. keeps.unharmed;
    counts = tt;
    stop = is;
    names = names_within before.names after.names name names;
  }

  -- ---- a line for whose actor memory was wanting, which leaves all as it was

  pub unnamed_line : (now : ℕ) (step : Step) (part : Part S W R c) (before after : TableSeen (ActorHolding W R)) (result : Result StepAnswer Stop)
      → IsErrAnd result (λ why. why ≡ Memory) → IsActive part (slots_of c before) → after ≡ before → AnswersActor now step part part before after result
  unnamed_line now step part before after (Ok said) is active same = absurd is
  unnamed_line now step part before after (Err why) is active same = record {
    active = subst (λ (t : TableSeen (ActorHolding W R)). IsActive part (slots_of c t)) (sym same) active;
    goes = goes_still part.cache active.part_is.holds;
    ends = tt;
    unharmed = λ run plays. (λ (u : Rattle.cache_calls.specs.Keeping.IsUnharmed (at_in part)). u);
    counts = tt;
    stop = is;
    names = subst (λ (t : TableSeen (ActorHolding W R)). length t.names ≤ length before.names + 1) (sym same) (omega arith);
  }

  -- ---- a line of an actor that does nothing

  module _ (part : Part S W R c) (before after : TableSeen (ActorHolding W R)) (step : Step) (name : List ℕ) (actor : actor_of step ≡ Some name)
      (names : after.names ≡ with_actor before.names name) (same : (m : ℕ) → slots_of c after m ≡ slots_of c before m) (active : IsActive part (slots_of c before)) where
    still_moves : (run : Run) (said : StepAnswer) → PlaysPart run part before → DoesNothing run (state_in_part part) step name said
        → MovesOrShows run step (at_in part) (at_in part) said
    still_moves run said plays none =
        let w : IsWholeStep (Untold (at_in part).device IsVectorAs) run.now (at_in part) (at_in part) [] None AreTold =
        serves_whole None in_full active.part_is.plain active.part_is.rest.quiet plays.at.told (serves_still [] (record { kept = refl; past = refl; setting = refl })) in
        let turn : Turn = record { added = w.added; refused = None; device = permit_of run.now (at_in part) w.calls; given = []; told = [] } in
        moves_line run step (at_in part) (at_in part) run.now active.part_is.plain refl [] None [] said none.asks (no_order step name actor) w (none.own turn refl) (λ known. none.says turn)

    -- what stands is as it was: the records are, and so is what writers took
    module _ (run : Run) (said : StepAnswer) (plays : PlaysPart run part before)
        (none : DoesNothing run (state_in_part part) step name said)
        (turn : Turn) where
      still_own : AreOwn (state_in_part part) (streams_behind run (state_in_part part) (state_in_part part) turn step)
      still_own = subst (AreOwn (state_in_part part)) (sym (none.streams turn)) plays.at.own

      still_stands : OwnStands (streams_behind run (state_in_part part) (state_in_part part) turn step) (state_in_part part)
          (c.stands part.cache)
      still_stands = subst (λ (streams : ℕ → Stream). OwnStands streams (state_in_part part) (c.stands part.cache)) (sym (none.streams turn)) plays.stands

      -- the run goes on with what its actors have
      still : PlaysIn (in_session run (state_in_part part) (state_in_part part) turn step) (state_in_part part) (slots_of c before)
      still =
          still_plays None None run (in_session run (state_in_part part) (state_in_part part) turn step) (state_in_part part) (state_in_part part) (slots_of c before)
          (leaves_all None None (state_in_part part) (state_in_part part) refl) (none_else (slots_of c before))
          (λ q other. ap (λ (f : ℕ → Stream). f q) (none.streams turn)) (held_still run (state_in_part part) (state_in_part part) step name actor none.holds)
          refl plays.at.told still_own plays.at

    still_ends : (run : Run) (said : StepAnswer) → PlaysPart run part before → DoesNothing run (state_in_part part) step name said → PartEnds run step part part after said
    still_ends run said plays none = elim (still_moves run said plays none) [
      | inr pair ↦ inr pair
      | inl m ↦ inl (record {
        moves = m;
        plays = record {
          names = names_are run (state_in_part part) (state_in_part part) m.turn step name before.names after.names actor plays.names names;
          at = record {
            state = refl;
            told = plays.at.told;
            own = still_own run said plays none m.turn;
            held = λ k. subst (IsHeldAs (in_session run (state_in_part part) (state_in_part part) m.turn step) (state_in_part part) k)
                (sym (same k))
                ((still run said plays none m.turn).held k);
          };
          stands = still_stands run said plays none m.turn;
        };
      })
    ]

    pub still_line : (now : ℕ) (said : StepAnswer) → ((run : Run) → PlaysPart run part before → DoesNothing run (state_in_part part) step name said) → count_in said ≡ 0
        → AnswersActor now step part part before after (Ok said)
    still_line now said none count = record {
      active = same_active part (slots_of c before) (slots_of c after) same active;
      goes = goes_still part.cache active.part_is.holds;
      ends = λ run moment plays. still_ends run said plays (none run plays);
      unharmed = λ run plays. (λ (u : Rattle.cache_calls.specs.Keeping.IsUnharmed (at_in part)). u);
      counts = omega (arith, count);
      stop = tt;
      names = names_within before.names after.names name names;
    }
