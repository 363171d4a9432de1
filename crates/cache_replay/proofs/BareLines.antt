-- Lines for a bare device, and the cut that leaves one.
use Rattle.std.proofs.Common.{◌≡◌, ℕ, ◌+◌, true, false, List, [], ◌∷◌, ◌++◌, length, refl, sym, ◌∙◌, ap, subst, arith, inl, inr, ◌⊎◌}
use Rattle.std.specs.Prelude.{Bool, IfOk, IsSome, Option, Some, None, Result, Ok, Err, is_some, not, option_map}
use Rattle.std.specs.declared.alloc.AllocError.{AllocError}
use Rattle.std.proofs.lemmas.List.{append-nil}
use Rattle.device_log.specs.declared.choice.CutChoice.{CutChoice}
use Rattle.device_log.specs.Calls.{Call, PowerCut}
use Rattle.logged_disk.specs.Device.{Adds, Affords, DeviceState as Device, Keeps}
use Rattle.logged_disk.specs.declared.device.Disk.{Ghosts as DiskGhosts}
use Rattle.device_bay.specs.Calls.{BayCall, out_of}
use Rattle.cache_answers.specs.Orders.{HasMade}
use Rattle.cache_calls.specs.declared.calls.Calls.{Ghosts as CallsGhosts}
use Rattle.cache_model.specs.State.{State}
use Rattle.cache_model.specs.Legal
use Rattle.call_laws.specs.Moments.{permit_of}
use Rattle.cache_model.proofs.Found.{no_truth}
use Rattle.script_grammar.specs.declared.step.Step.{Step}
use Rattle.script_grammar.specs.declared.step.Step.TheVariants as step
use Rattle.script_grammar.specs.declared.answer.Refused.TheVariants as refused
use Rattle.script_grammar.specs.declared.answer.StepAnswer.{StepAnswer}
use Rattle.script_grammar.specs.declared.answer.StepAnswer.TheVariants as answer
use Rattle.script_run.specs.Run.{Harm, Run, at_hand}
use Rattle.script_run.specs.Turn.{Turn, no_turn}
use Rattle.script_run.specs.Answers.{bare_said, step_said, switch_said}
use Rattle.script_run.specs.Behind.{after_cut, behind, cut_off, harm_in, harm_of, in_session, own_harm, with_calls_of}
use Rattle.script_run.specs.Ledger.{AreReached, IsReached, Ledger, ledger_behind}
use Rattle.script_run.specs.Switch.{CutsPower, OnlyTells, is_of_device}
use Rattle.script_run.specs.Takes.{BareTakes, SessionTakes, Takes}
use Rattle.run_promise.specs.Needs.{NeedsSession}
use Rattle.run_promise.specs.Outline.{IsAnswerOf, IsSwitchAnswer, Outline, begun_by, count_in, has_switch_in, raised, stands_behind, switch_told, switched, told_behind, told_of, with_told_count, with_told_switch}
use Rattle.cache_replay.specs.declared.bare_lines.BareOrder.{BareOrder}
use Rattle.cache_replay.specs.declared.bare_lines.BareOrder.TheVariants as order
use Rattle.cache_replay.specs.declared.session.Bare.{Bare}
use Rattle.cache_replay.specs.declared.session.Part.{Part}
use Rattle.cache_replay.specs.declared.session.Replay.{Replay}
use Rattle.cache_replay.specs.declared.stop.Stop.{Stop}
use Rattle.cache_replay.specs.declared.stop.Stop.TheVariants.{Memory, NoCache}
use Rattle.cache_replay.specs.Bare.{AnswersBare, AnswersOrderTo, IsBareCall, IsBareOf, IsLaidBare, IsToldBare, TellsBare, answer_of_order, is_switchless_at, step_of_bare, told_of_order}
use Rattle.cache_replay.specs.Deals.{AnswersStep}
use Rattle.cache_replay.specs.Plays.{CallsAt, IsUnharmedAt, OwnStandsAt, PlaysAt, PlaysIn, PlaysNone}
use Rattle.cache_replay.specs.Replay.{IsAlone, IsBareAs, IsOutlined, IsReplay, Outlines, PlaysOn, ReplayMoves, actors_in, bare_return, returns_in, stays, tried}
use Rattle.cache_replay.specs.Session.{AreLater, HoldingSeen, IsActive, IsAt, IsLaterDevice, at_in, return_of, slots_in, state_in_part}
use Rattle.cache_replay.specs.Stop.{StopsStep}
use Rattle.cache_replay.proofs.Dispatch.{moves}
use Rattle.cache_replay.proofs.Order.{order_same, order_stays}
use Rattle.cache_replay.proofs.Outlines.{from_later, no_deals, reached_later, switched_later}
use Rattle.cache_replay.proofs.SwitchLines.{made_later}
use Rattle.cache_replay.proofs.Unharming.{plays_reached}

-- ---- an order as a line

-- a line that is an order to a bare device begins no session, and is answered by whether the device has a switch
record IsLineTo (o : BareOrder) (s : Step) : Type 0 where
  needs : NeedsSession s
  device : is_of_device s ≡ true
  begins : (x : Outline) (said : StepAnswer) → begun_by x s said ≡ x
  switch : (said : StepAnswer) → switch_told s said ≡ Some (has_switch_in said)
  fixed : (said : StepAnswer) → IsSwitchAnswer (told_of_order o) said → IsAnswerOf s said
  says : (turn : Turn) → bare_said turn s ≡ switch_said turn.told (told_of_order o)
  stands : (said : StepAnswer) → stands_behind s said false ≡ false

falls : (choice : CutChoice) (said : StepAnswer) → stands_behind (step.Cut choice) said false ≡ false
falls choice answer.Cut = refl
falls choice _ = refl

line_to : (o : BareOrder) → IsLineTo o (step_of_bare o)
line_to (order.Fail nth) = record {
  needs = tt;
  device = refl;
  begins = λ x said. refl;
  switch = λ said. refl;
  fixed = λ said is. is;
  says = λ turn. refl;
  stands = λ said. refl;
}
line_to (order.StopAfter calls) = record {
  needs = tt;
  device = refl;
  begins = λ x said. refl;
  switch = λ said. refl;
  fixed = λ said is. is;
  says = λ turn. refl;
  stands = λ said. refl;
}
line_to (order.Cut choice) = record {
  needs = tt;
  device = refl;
  begins = λ x said. refl;
  switch = λ said. refl;
  fixed = λ said is. is;
  says = λ turn. refl;
  stands = λ said. falls choice said;
}

-- ---- what is answered

told_has : (o : BareOrder) → has_switch_in (told_of_order o) ≡ true
told_has (order.Fail nth) = refl
told_has (order.StopAfter calls) = refl
told_has (order.Cut choice) = refl

told_counts : (o : BareOrder) → count_in (told_of_order o) ≡ 0
told_counts (order.Fail nth) = refl
told_counts (order.StopAfter calls) = refl
told_counts (order.Cut choice) = refl

same_ok : {T E : Type 0} (a b : T) → (let one : Result T E = Ok a in one) ≡ Ok b → a ≡ b
same_ok a b e = cc

-- what an answer says, by whether the device was told
record SaysTo (o : BareOrder) (has : Bool) (asked : Result Bool AllocError) (made : List Call) (said : StepAnswer) : Type 0 where
  by_turn : switch_said made (told_of_order o) ≡ said
  either : IsSwitchAnswer (told_of_order o) said
  counts : count_in said ≡ 0
  switch : has ≡ has_switch_in said

says_to : (o : BareOrder) (has : Bool) (asked : Result Bool AllocError) (made : List Call) (said : StepAnswer) → IfOk asked (λ h. h ≡ has) → IsToldBare o asked made
    → (let one : Result StepAnswer Stop = Ok said in one) ≡ answer_of_order o asked → SaysTo o has asked made said
says_to o has (Ok true) made said h told is =
    let same : said ≡ told_of_order o = same_ok said (told_of_order o) is in
    record {
      by_turn = ap (λ calls. switch_said calls (told_of_order o)) told.2 ∙ sym same;
      either = inl same;
      counts = ap count_in same ∙ told_counts o;
      switch = sym h ∙ (sym (told_has o) ∙ sym (ap has_switch_in same));
    }
says_to o has (Ok false) made said h told is =
    let same : said ≡ answer.Refused refused.NoSwitch None = same_ok said (answer.Refused refused.NoSwitch None) is in
    record {
      by_turn = ap (λ calls. switch_said calls (told_of_order o)) told ∙ sym same;
      either = inr same;
      counts = ap count_in same;
      switch = sym h ∙ sym (ap has_switch_in same);
    }
says_to o has (Err e) made said h told is = absurd cc

wants_memory : (o : BareOrder) (asked : Result Bool AllocError) (why : Stop) → (let one : Result StepAnswer Stop = Err why in one) ≡ answer_of_order o asked → why ≡ Memory
wants_memory o (Ok true) why is = absurd cc
wants_memory o (Ok false) why is = absurd cc
wants_memory o (Err e) why is = cc

-- what is not so, is so
turned : (b : Bool) → not b ≡ true → b ≡ false
turned false h = refl
turned true h = no_truth (sym h)

stays_true : (b : Bool) → not b ≡ false → b ≡ true
stays_true true h = refl
stays_true false h = no_truth h

-- ---- the device

-- the turn of such a line
abbrev bare_turn : List Call → Turn
bare_turn made = record { added = []; refused = None; device = no_turn.device; given = []; told = made }

only : (made : List Call) → OnlyTells (bare_turn made)
only made = record { added = refl; refused = refl; given = refl; events = refl }

-- what was told of the device before is told of it behind the line
reached_then : (calls made : List Call) (t : State) (old new : Device) → HasMade made old new → IsReached (harm_in calls t) old
    → IsReached (harm_in ((made ++ []) ++ calls) t) new
reached_then calls made t old new goes h =
    let past : new.past ≡ (made ++ []) ++ calls =
    goes.past ∙ (ap (λ l. made ++ l) (h.all refl) ∙ ap (λ (l : List Call). l ++ calls) (sym (append-nil made))) in
    record {
      made = record { later = []; is = past };
      all = λ yes. past;
      counted = omega (arith, h.counted, goes.faults);
      unharmed = λ tells. h.unharmed ((made_later made old new goes).tells tells);
      switched = tt;
    }

-- so it is in an outline, which has whether it has a switch
told_then : (session : Option Harm) (has : Bool) (made : List Call) (old new : Device) → HasMade made old new → new.has_switch ≡ has → AreReached (told_of session) (old ∷ [])
    → AreReached (told_of (option_map (switched has) (option_map (raised 0) session))) (new ∷ []) × IsSome session
told_then None has made old new goes switch h = absurd h
told_then (Some harm) has made old new goes switch h =
    let later : IsLaterDevice old new = made_later made old new goes in (
      (
        record {
          made = from_later harm.calls old new later h.0.made;
          all = λ no. cc;
          counted = omega (arith, h.0.counted, later.faults);
          unharmed = λ tells. h.0.unharmed (later.tells tells);
          switched = (switch, switched_later harm.switches old new later h.0.switched);
        },
        tt,
      ),
      refl,
    )

module _ {D S W R : Type 0} {d : DiskGhosts D} {c : CallsGhosts S W R} where
  -- the device at hand was told an order, and is bare behind it
  record IsTold (o : BareOrder) (device : Device) (old new : Replay D S W R d c) (asked : Result Bool AllocError) : Type 0 where
    before : returns_in old ≡ device ∷ []
    part : new.session.part ≡ None
    bare : Bare D d
    is : new.bare ≡ Some bare
    tells : TellsBare o device (d.state bare.device) asked
    slots : (n : ℕ) → slots_in new.session n ≡ None
    names : actors_in new ≡ actors_in old
    now : new.session.now ≡ old.session.now

  module _ (o : BareOrder) (device : Device) (old new : Replay D S W R d c) (asked : Result Bool AllocError) (h : IsTold o device old new asked) where
    abbrev After : Device
    After = d.state h.bare.device

    later : IsLaterDevice device After
    later = made_later h.tells.made device After h.tells.goes

    returns : returns_in new ≡ After ∷ []
    returns = ap (λ p. return_of p ++ bare_return new.bare) h.part ∙ ap bare_return h.is

    both_later : AreLater (returns_in old) (returns_in new)
    both_later = subst (λ (l : List Device). AreLater l (returns_in new)) (sym h.before) (subst (AreLater (device ∷ [])) (sym returns) (later, tt))

    is_replay : IsReplay new
    is_replay = record {
      session = subst (λ p. IsAt p (slots_in new.session)) (sym h.part) h.slots;
      alone = subst (λ p. IsAlone p new.bare) (sym h.part) tt;
    }

    -- beside a run that has no session behind the line
    bare_plays : (run later : Run) (t : State) → PlaysOn run old → later.actors ≡ run.actors → later.now ≡ run.now → later.state ≡ None → ((n : ℕ) → later.held n ≡ None)
        → later.last ≡ Some t → later.calls ≡ (h.tells.made ++ []) ++ run.calls → IsReached (harm_in run.calls t) device → PlaysOn later new
    bare_plays run later t plays actors now none held last calls reached = record {
      session = record {
        names = actors ∙ (plays.session.names ∙ sym h.names);
        now = now ∙ (plays.session.now ∙ sym h.now);
        at = subst (λ p. PlaysAt later p (slots_in new.session)) (sym h.part) (record { state = none; held = held });
        unharmed = subst (λ p. IsUnharmedAt p) (sym h.part) tt;
        stands = subst (λ p. OwnStandsAt later p) (sym h.part) tt;
        calls = subst (λ p. CallsAt later p) (sym h.part) tt;
      };
      bare = subst (λ (l : List Call). IsBareAs l later.last new.bare) (sym calls)
          (subst (λ x. IsBareAs ((h.tells.made ++ []) ++ run.calls) x new.bare) (sym last)
          (subst (IsBareAs ((h.tells.made ++ []) ++ run.calls) (Some t)) (sym h.is) (reached_then run.calls h.tells.made t device After h.tells.goes reached)));
    }

    -- ---- whatever the records are worth

    bare_outlines : (said : StepAnswer) (ledger : Ledger) → SaysTo o device.has_switch asked h.tells.made said
        → ((x : Outline) → IsOutlined x old → stands_behind (step_of_bare o) said x.stands ≡ false) → (x : Outline) → IsOutlined x old → Outlines x (step_of_bare o) new said ledger ledger
    bare_outlines said ledger says falls x was =
        let s : Step = step_of_bare o in
        let has : Bool = has_switch_in said in
        let told : told_behind x s said ≡ with_told_switch (Some has) (with_told_count x 0) =
        ap (λ y. with_told_switch y (with_told_count (begun_by x s said) (count_in said))) ((line_to o).switch said)
        ∙ (ap (λ y. with_told_switch (Some has) (with_told_count y (count_in said))) ((line_to o).begins x said)
        ∙ ap (λ n. with_told_switch (Some has) (with_told_count x n)) says.counts) in
        let reached = told_then x.session has h.tells.made device After h.tells.goes (later.switch ∙ says.switch) (subst (AreReached (told_of x.session)) h.before was.reached) in
        record {
          answered = record {
            session = λ needs. reached.1;
            stands = λ needs other. no_truth (sym (line_to o).device ∙ other);
            fixed = (line_to o).fixed said says.either;
          };
          outlined = record {
            reached = subst (λ (y : Outline). AreReached (told_of y.session) (returns_in new)) (sym told) (subst (AreReached (told_of (option_map (switched has) (option_map (raised 0) x.session)))) (sym returns) reached.0);
            stands = ap (λ (y : Outline). stands_behind s said y.stands) told ∙ (falls x was ∙ sym (ap is_some h.part));
          };
          harms = [];
          ended = ap (λ (y : Outline). y.ended) told ∙ sym (append-nil x.ended);
          names = [];
          named = ap (λ (y : Outline). y.names) told ∙ sym (append-nil x.names);
          deals = no_deals ledger;
        }

    -- ---- as a line

    module _ (past : List BayCall) where
      told_line : (said : StepAnswer) → SaysTo o device.has_switch asked h.tells.made said
          → ((x : Outline) → IsOutlined x old → stands_behind (step_of_bare o) said x.stands ≡ false)
          → ((run : Run) → PlaysOn run old → ReplayMoves run (step_of_bare o) new said) → AnswersStep (step_of_bare o) old new past past (Ok said)
      told_line said says falls ends = record {
        replay = is_replay;
        ends = λ run plays. inl (moves run (step_of_bare o) new said (ledger_behind past) (line_to o).needs (ends run plays));
        outline = bare_outlines said (ledger_behind past) says falls;
        left = tt;
        stop = tt;
        out = ap (λ (l : List Device). out_of past + length l) (h.before ∙ sym (ap (λ (l : List Device). device ∷ []) returns)) ∙ ap (λ (l : List Device). out_of past + length l) (sym returns);
        names = omega (arith, ap length h.names);
        order = order_stays (returns_in old) (returns_in new) past both_later;
        refusals = refl;
      }

      stopped_line : (why : Stop) → why ≡ Memory → AnswersStep (step_of_bare o) old new past past (Err why)
      stopped_line why is = record {
        replay = is_replay;
        ends = tt;
        outline = tt;
        left = λ harms reached. tried (line_to o).needs is (reached_later harms (returns_in old) (returns_in new) both_later reached) refl;
        stop = subst (StopsStep old (step_of_bare o) past past) (sym is) tt;
        out = ap (λ (l : List Device). out_of past + length l) h.before ∙ ap (λ (l : List Device). out_of past + length l) (sym returns);
        names = omega (arith, ap length h.names);
        order = order_stays (returns_in old) (returns_in new) past both_later;
        refusals = λ other. refl;
      }

-- ---- a bare device

-- the state that the last session left, and what was told of the device
record IsLeft (run : Run) (device : Device) : Type 0 where
  none : run.state ≡ None
  t : State
  last : run.last ≡ Some t
  reached : IsReached (harm_in run.calls t) device

takes_bare : (run : Run) (o : BareOrder) (t : State) (asked : Result Bool AllocError) (made : List Call) → IsToldBare o asked made → run.state ≡ None → run.last ≡ Some t
    → (let turn : Turn = bare_turn made in Takes run turn run.state (step_of_bare o))
takes_bare run o t asked made told none last =
    subst (λ x. Takes run (bare_turn made) x (step_of_bare o)) (sym none) (by_none o told)
  where
    only_told : (o : BareOrder) (asked : Result Bool AllocError) → IsToldBare o asked made → ((call : Call) × IsBareCall o call × (made ≡ call ∷ [])) ⊎ (made ≡ [])
    only_told o (Ok true) told = inl told
    only_told o (Ok false) told = inr told
    only_told o (Err e) told = inr told

    orders : (o : BareOrder) → ((call : Call) × IsBareCall o call × (made ≡ call ∷ [])) ⊎ (made ≡ []) → BareTakes (bare_turn made) (Some t) (step_of_bare o)
    orders (order.Fail nth) (inl is) = (only made, (refl, inl (is.2 ∙ ap (λ (x : Call). x ∷ []) is.1)))
    orders (order.Fail nth) (inr none) = (only made, (refl, inr none))
    orders (order.StopAfter calls) (inl is) = (only made, (refl, inl (is.2 ∙ ap (λ (x : Call). x ∷ []) is.1)))
    orders (order.StopAfter calls) (inr none) = (only made, (refl, inr none))
    orders (order.Cut choice) (inl is) = inl (record { only = only made; left = is.1.0; told = is.2 ∙ ap (λ (x : Call). x ∷ []) is.1.1 })
    orders (order.Cut choice) (inr none) = inr (record { only = only made; told = none })

    by_last : (o : BareOrder) → BareTakes (bare_turn made) run.last (step_of_bare o) → Takes run (bare_turn made) None (step_of_bare o)
    by_last (order.Fail nth) takes = takes
    by_last (order.StopAfter calls) takes = takes
    by_last (order.Cut choice) takes = takes

    by_none : (o : BareOrder) → IsToldBare o asked made → Takes run (bare_turn made) None (step_of_bare o)
    by_none o told = by_last o (subst (λ x. BareTakes (bare_turn made) x (step_of_bare o)) (sym last) (orders o (only_told o asked told)))

-- without a session a step is answered, and leaves the run, so
none_says : (run : Run) (o : BareOrder) (turn : Turn) → step_said run turn None (step_of_bare o) ≡ bare_said turn (step_of_bare o)
none_says run (order.Fail nth) turn = refl
none_says run (order.StopAfter calls) turn = refl
none_says run (order.Cut choice) turn = refl

none_behind : (run : Run) (o : BareOrder) (turn : Turn) → behind run turn None (step_of_bare o) ≡ with_calls_of run turn
none_behind run (order.Fail nth) turn = refl
none_behind run (order.StopAfter calls) turn = refl
none_behind run (order.Cut choice) turn = refl

plays_none : {S W R : Type 0} {c : CallsGhosts S W R} (run : Run) (part : Option (Part S W R c)) (slots : ℕ → Option HoldingSeen) → part ≡ None → PlaysAt run part slots
    → PlaysNone run
plays_none run None slots none plays = plays
plays_none run (Some part) slots none plays = absurd cc

module _ {D : Type 0} {d : DiskGhosts D} where
  bare_left : (run : Run) (last : Option State) (bare : Bare D d) → run.state ≡ None → run.last ≡ last → IsBareAs run.calls last (Some bare) → IsLeft run (d.state bare.device)
  bare_left run None bare none last is = absurd is
  bare_left run (Some t) bare none last is = record { none = none; t = t; last = last; reached = is }

module _ {D S W R : Type 0} {d : DiskGhosts D} {c : CallsGhosts S W R} where
  none_beside_bare : (part : Option (Part S W R c)) (bare : Bare D d) → IsAlone part (Some bare) → part ≡ None
  none_beside_bare None bare alone = refl
  none_beside_bare (Some part) bare alone = absurd alone

  module _ (o : BareOrder) (old new : Replay D S W R d c) (none_at : old.session.part ≡ None) (part : new.session.part ≡ None)
      (slots : (n : ℕ) → slots_in new.session n ≡ None) (names : actors_in new ≡ actors_in old) (now : new.session.now ≡ old.session.now) (past : List BayCall) where
    module _ (first bare : Bare D d) (was : old.bare ≡ Some first) (is : new.bare ≡ Some bare) where
      to_bare : (asked : Result Bool AllocError) → TellsBare o (d.state first.device) (d.state bare.device) asked → IsTold o (d.state first.device) old new asked
      to_bare asked tells = record {
        before = ap (λ p. return_of p ++ bare_return old.bare) none_at ∙ ap bare_return was;
        part = part;
        bare = bare;
        is = is;
        tells = tells;
        slots = slots;
        names = names;
        now = now;
      }

      to_bare_ends : (asked : Result Bool AllocError) (tells : TellsBare o (d.state first.device) (d.state bare.device) asked)
          → (said : StepAnswer) → SaysTo o (d.state first.device).has_switch asked tells.made said → (run : Run) → PlaysOn run old → ReplayMoves run (step_of_bare o) new said
      unfolding to_bare
      to_bare_ends asked tells said says run plays =
          let none = plays_none run old.session.part (slots_in old.session) none_at plays.session.at in
          let left : IsLeft run (d.state first.device) = bare_left run run.last first none.state refl (subst (IsBareAs run.calls run.last) was plays.bare) in
          let turn : Turn = bare_turn tells.made in
          record {
            turn = turn;
            takes = takes_bare run o left.t asked tells.made tells.told left.none left.last;
            plays = subst (λ x. PlaysOn x new) (sym (ap (λ x. behind run turn x (step_of_bare o)) left.none ∙ none_behind run o turn))
                (bare_plays o (d.state first.device) old new asked (to_bare asked tells) run (with_calls_of run turn) left.t plays refl refl left.none none.held left.last refl left.reached);
            says = ap (λ x. step_said run turn x (step_of_bare o)) left.none ∙ (none_says run o turn ∙ ((line_to o).says turn ∙ says.by_turn));
          }

      -- what a bare device is told as a line
      bare_told : (result : Result StepAnswer Stop) → AnswersOrderTo o (d.state first.device) (d.state bare.device) result → AnswersStep (step_of_bare o) old new past past result
      unfolding to_bare
      bare_told (Ok said) a =
          let h : IsTold o (d.state first.device) old new a.asked = to_bare a.asked a.tells in
          let says : SaysTo o (d.state first.device).has_switch a.asked a.tells.made said = says_to o (d.state first.device).has_switch a.asked a.tells.made said a.tells.has a.tells.told a.answers in
          told_line o (d.state first.device) old new a.asked h past said says
          (λ x outlined. ap (stands_behind (step_of_bare o) said) (outlined.stands ∙ ap is_some none_at) ∙ (line_to o).stands said)
          (to_bare_ends a.asked a.tells said says)
      bare_told (Err why) a =
          stopped_line o (d.state first.device) old new a.asked (to_bare a.asked a.tells) past why (wants_memory o a.asked why a.answers)

    -- there is no device
    no_device : old.bare ≡ None → new.bare ≡ None → (result : Result StepAnswer Stop) → result ≡ Err NoCache → AnswersStep (step_of_bare o) old new past past result
    no_device was is result why =
        let before : returns_in old ≡ [] = ap (λ p. return_of p ++ bare_return old.bare) none_at ∙ ap bare_return was in
        let behind_ : returns_in new ≡ [] = ap (λ p. return_of p ++ bare_return new.bare) part ∙ ap bare_return is in
        subst (AnswersStep (step_of_bare o) old new past past) (sym why) (record {
          replay = record { session = subst (λ p. IsAt p (slots_in new.session)) (sym part) slots; alone = subst (λ p. IsAlone p new.bare) (sym part) tt };
          ends = tt;
          outline = tt;
          left = λ harms reached. stays (subst (AreReached harms) (before ∙ sym behind_) reached) refl;
          stop = ((line_to o).needs, record { part = none_at; bare = λ of_device. was });
          out = ap (λ (l : List Device). out_of past + length l) (before ∙ sym behind_);
          names = omega (arith, ap length names);
          order = order_stays (returns_in old) (returns_in new) past (subst (λ (l : List Device). AreLater l (returns_in new)) (sym before) (subst (AreLater []) (sym behind_) tt));
          refusals = λ other. refl;
        })

    answers_by : (x y : Option (Bare D d)) → old.bare ≡ x → new.bare ≡ y → (result : Result StepAnswer Stop) → AnswersBare o x y result → AnswersStep (step_of_bare o) old new past past result
    answers_by None None was is result a = no_device was is result a
    answers_by (Some first) (Some bare) was is result a = bare_told first bare was is result a
    answers_by None (Some bare) was is result a = absurd a
    answers_by (Some first) None was is result a = absurd a

    -- a line that needs a device alone, where there is no session
    pub bare_step : (result : Result StepAnswer Stop) → AnswersBare o old.bare new.bare result → AnswersStep (step_of_bare o) old new past past result
    bare_step result a = answers_by old.bare new.bare refl refl result a

  -- beside a bare device no actor has anything
  pub bare_is_alone : (replay : Replay D S W R d c) (bare : Bare D d) → IsReplay replay → replay.bare ≡ Some bare → replay.session.part ≡ None
  bare_is_alone replay bare is was = none_beside_bare replay.session.part bare (subst (IsAlone replay.session.part) was is.alone)

  pub same_slots : (old new : Replay D S W R d c) → IsReplay old → old.session.part ≡ None → new.session ≡ old.session → (n : ℕ) → slots_in new.session n ≡ None
  same_slots old new is none same n = ap (λ s. slots_in s n) same ∙ (subst (λ p. IsAt p (slots_in old.session)) none is.session) n

  -- ---- a cut of a session

  module _ (choice : CutChoice) (old new : Replay D S W R d c) (is : IsReplay old) (at : Part S W R c) (was : old.session.part ≡ Some at) (past : List BayCall) where
    lone : (bare : Option (Bare D d)) → IsAlone (Some at) bare → bare ≡ None
    lone None alone = refl
    lone (Some bare) alone = absurd alone

    no_bare : old.bare ≡ None
    no_bare = lone old.bare (subst (λ p. IsAlone p old.bare) was is.alone)

    abbrev Cuts : Step
    Cuts = step.Cut choice

    abbrev Whose : Device
    Whose = (at_in at).device

    returns_at : returns_in old ≡ Whose ∷ []
    returns_at = ap (λ p. return_of p ++ bare_return old.bare) was ∙ ap (λ b. Whose ∷ bare_return b) no_bare

    module _ (run : Run) (plays : PlaysOn run old) where
      plays_at : PlaysIn run (state_in_part at) (slots_in old.session)
      plays_at = subst (λ p. PlaysAt run p (slots_in old.session)) was plays.session.at

      reached_at : IsReached (harm_in run.calls (state_in_part at)) Whose
      reached_at = (subst (λ harms. AreReached harms (Whose ∷ [])) (ap (λ o. harm_of run.calls (at_hand o run.last)) plays_at.state)
          (subst (AreReached (own_harm run)) returns_at (plays_reached run old is plays))).0

    -- ---- the device has a switch

    module _ (bare : Bare D d) (part : new.session.part ≡ None) (is_bare : new.bare ≡ Some bare) (slots : (n : ℕ) → slots_in new.session n ≡ None)
        (names : actors_in new ≡ actors_in old) (now : new.session.now ≡ old.session.now) (has : Whose.has_switch ≡ true) where
      to_cut : (asked : Result Bool AllocError) → TellsBare (order.Cut choice) Whose (d.state bare.device) asked → IsTold (order.Cut choice) Whose old new asked
      to_cut asked tells = record {
        before = returns_at;
        part = part;
        bare = bare;
        is = is_bare;
        tells = tells;
        slots = slots;
        names = names;
        now = now;
      }

      cut_call : (asked : Result Bool AllocError) (made : List Call) (said : StepAnswer) → IfOk asked (λ h. h ≡ Whose.has_switch) → IsToldBare (order.Cut choice) asked made
          → (let one : Result StepAnswer Stop = Ok said in one) ≡ answer_of_order (order.Cut choice) asked → ((left : List ℕ) × (made ≡ PowerCut choice left ∷ [])) × (said ≡ answer.Cut)
      cut_call (Ok true) made said h told answers = ((told.1.0, told.2 ∙ ap (λ (x : Call). x ∷ []) told.1.1), same_ok said answer.Cut answers)
      cut_call (Ok false) made said h told answers = no_truth (sym (h ∙ has))
      cut_call (Err e) made said h told answers = absurd cc

      cut_ends : (asked : Result Bool AllocError) (tells : TellsBare (order.Cut choice) Whose (d.state bare.device) asked) (said : StepAnswer)
          → ((left : List ℕ) × (tells.made ≡ PowerCut choice left ∷ [])) × (said ≡ answer.Cut) → (run : Run) → PlaysOn run old → ReplayMoves run Cuts new said
      unfolding to_cut
      cut_ends asked tells said call run plays =
          let s : State = state_in_part at in
          let turn : Turn = bare_turn tells.made in
          let state : run.state ≡ Some s = (plays_at run plays).state in
          let cut : CutsPower choice turn = record { only = only tells.made; left = call.0.0; told = call.0.1 } in
          record {
            turn = turn;
            takes = subst (λ x. Takes run turn x Cuts) (sym state) (inr cut);
            plays = subst (λ x. PlaysOn x new) (sym (ap (λ x. behind run turn x Cuts) state ∙ ap (after_cut run s turn choice) call.0.1))
                (bare_plays (order.Cut choice) Whose old new asked (to_cut asked tells) run (cut_off run s turn) s plays refl refl refl (λ n. refl) refl refl (reached_at run plays));
            says = ap (λ x. step_said run turn x Cuts) state ∙ (ap (λ calls. switch_said calls answer.Cut) call.0.1 ∙ sym call.1);
          }

      pub cut_step : (result : Result StepAnswer Stop) → AnswersOrderTo (order.Cut choice) Whose (d.state bare.device) result → AnswersStep Cuts old new past past result
      unfolding to_cut
      cut_step (Ok said) a =
          let o : BareOrder = order.Cut choice in
          let h : IsTold o Whose old new a.asked = to_cut a.asked a.tells in
          let says : SaysTo o Whose.has_switch a.asked a.tells.made said = says_to o Whose.has_switch a.asked a.tells.made said a.tells.has a.tells.told a.answers in
          let call = cut_call a.asked a.tells.made said a.tells.has a.tells.told a.answers in
          told_line o Whose old new a.asked h past said says
          (λ x outlined. subst (λ answered. stands_behind Cuts answered x.stands ≡ false) (sym call.1) refl)
          (cut_ends a.asked a.tells said call)
      cut_step (Err why) a =
          stopped_line (order.Cut choice) Whose old new a.asked (to_cut a.asked a.tells) past why (wants_memory (order.Cut choice) a.asked why a.answers)

    -- ---- it has none

    module _ (has : Whose.has_switch ≡ false) where
      refused_turn : Run → Turn
      refused_turn run = record { added = []; refused = None; device = permit_of run.now (at_in at) []; given = []; told = [] }

      refused_takes : (run : Run) (plays : PlaysOn run old) → SessionTakes run (state_in_part at) (refused_turn run) Cuts
      unfolding refused_turn
      refused_takes run plays =
          let active : IsActive at (slots_in old.session) = subst (λ p. IsAt p (slots_in old.session)) was is.session in
          record {
            packs = ap (λ (setting : Rattle.cache_model.specs.Permit.Setting). setting.packed) active.part_is.plain;
            unsynced = ap (λ (setting : Rattle.cache_model.specs.Permit.Setting). setting.syncs) active.part_is.plain;
            moment = refl;
            past = subst (λ p. CallsAt run p) was plays.session.calls;
            legal = record { grows = Legal.MayGrow.nothing; quiet = active.part_is.rest.quiet; faults = refl; effects = λ unsynced. refl };
            own = refl;
            switch = refl;
          }

      refused_ends : (run : Run) → PlaysOn run old → ReplayMoves run Cuts old (answer.Refused refused.NoSwitch None)
      unfolding refused_turn
      refused_ends run plays =
          let s : State = state_in_part at in
          let turn : Turn = refused_turn run in
          let there : PlaysIn run s (slots_in old.session) = plays_at run plays in
          let later : Run = in_session run s s turn Cuts in
          record {
            turn = turn;
            takes = subst (λ x. Takes run turn x Cuts) (sym there.state) (inl (refused_takes run plays, record { only = record { added = refl; refused = refl; given = refl; events = refl }; told = refl }));
            plays = subst (λ x. PlaysOn (behind run turn x Cuts) old) (sym there.state) (record {
              session = record {
                names = plays.session.names;
                now = plays.session.now;
                at = subst (λ p. PlaysAt later p (slots_in old.session)) (sym was) (record { state = refl; told = there.told; own = there.own; held = there.held });
                unharmed = plays.session.unharmed;
                stands = subst (λ p. OwnStandsAt later p) (sym was) (subst (λ p. OwnStandsAt run p) was plays.session.stands);
                calls = subst (λ p. CallsAt later p) (sym was) (subst (λ p. CallsAt run p) was plays.session.calls);
              };
              bare = plays.bare;
            });
            says = ap (λ x. step_said run turn x Cuts) there.state;
          }

      refused_outlines : (ledger : Ledger) (x : Outline) → IsOutlined x old → Outlines x Cuts old (answer.Refused refused.NoSwitch None) ledger ledger
      refused_outlines ledger x h =
          let reached = told_then x.session false [] Whose Whose (record { size = refl; trust = omega arith; number = refl; switch = refl; settled = refl; first = refl; past = refl; faults = refl }) has
          (subst (AreReached (told_of x.session)) returns_at h.reached) in
          record {
            answered = record { session = λ needs. reached.1; stands = λ needs other. no_truth other; fixed = inr refl };
            outlined = record {
              reached = subst (AreReached (told_of (option_map (switched false) (option_map (raised 0) x.session)))) (sym returns_at) reached.0;
              stands = h.stands;
            };
            harms = [];
            ended = sym (append-nil x.ended);
            names = [];
            named = sym (append-nil x.names);
            deals = no_deals ledger;
          }

      pub refused_step : AnswersStep Cuts old old past past (Ok (answer.Refused refused.NoSwitch None))
      refused_step = record {
        replay = is;
        ends = λ run plays. inl (moves run Cuts old (answer.Refused refused.NoSwitch None) (ledger_behind past) tt (refused_ends run plays));
        outline = refused_outlines (ledger_behind past);
        left = tt;
        stop = tt;
        out = refl;
        names = omega arith;
        order = order_same (returns_in old) past;
        refusals = refl;
      }

  -- ---- as a line

  -- a cut of a device that has no switch
  pub switchless_step : (choice : CutChoice) (replay : Replay D S W R d c) (past : List BayCall) → IsReplay replay → is_switchless_at replay.session.part ≡ true
      → AnswersStep (step.Cut choice) replay replay past past (Ok (answer.Refused refused.NoSwitch None))
  switchless_step choice replay past is none = by_part replay.session.part refl none
    where
      by_part : (part : Option (Part S W R c)) → replay.session.part ≡ part → is_switchless_at part ≡ true → AnswersStep (step.Cut choice) replay replay past past (Ok (answer.Refused refused.NoSwitch None))
      by_part None was none = no_truth (sym none)
      by_part (Some at) was none = refused_step choice replay replay is at was past (turned (at_in at).device.has_switch none)

  -- any other cut
  pub cut_line_step : (choice : CutChoice) (old mid new : Replay D S W R d c) (past : List BayCall) (result : Result StepAnswer Stop) → IsReplay old → is_switchless_at old.session.part ≡ false
      → IsLaidBare old mid → new.session ≡ mid.session → AnswersBare (order.Cut choice) mid.bare new.bare result → AnswersStep (step.Cut choice) old new past past result
  cut_line_step choice old mid new past result is has laid same answers = by_part old.session.part refl has laid.bare
    where
      part : new.session.part ≡ None
      part = ap (λ s. s.part) same ∙ laid.part

      slots : (n : ℕ) → slots_in new.session n ≡ None
      slots n = ap (λ s. slots_in s n) same ∙ laid.slots n

      names : actors_in new ≡ actors_in old
      names = ap (λ s. s.actors.names) same ∙ laid.names

      now : new.session.now ≡ old.session.now
      now = ap (λ s. s.now) same ∙ laid.now

      by_bare : (at : Part S W R c) → old.session.part ≡ Some at → not (at_in at).device.has_switch ≡ false → (bare : Bare D d) → d.state bare.device ≡ (at_in at).device
          → (y : Option (Bare D d)) → new.bare ≡ y → AnswersBare (order.Cut choice) (Some bare) y result → AnswersStep (step.Cut choice) old new past past result
      by_bare at was has bare device None is_bare a = absurd a
      by_bare at was has bare device (Some later) is_bare a =
          cut_step choice old new is at was past later part is_bare slots names now (stays_true (at_in at).device.has_switch has) result
          (subst (λ x. AnswersOrderTo (order.Cut choice) x (d.state later.device) result) device a)

      by_part : (o : Option (Part S W R c)) → old.session.part ≡ o → is_switchless_at o ≡ false → IsBareOf o old.bare mid.bare → AnswersStep (step.Cut choice) old new past past result
      by_part None was has laid_bare =
          bare_step (order.Cut choice) old new was part slots names now past result (subst (λ x. AnswersBare (order.Cut choice) x new.bare result) laid_bare answers)
      by_part (Some at) was has laid_bare =
          by_bare at was has laid_bare.0 laid_bare.2 new.bare refl (subst (λ x. AnswersBare (order.Cut choice) x new.bare result) laid_bare.1 answers)

-- an order to a device that has a switch
pub told_one : (o : BareOrder) (first mid last : Device) (call : Call) → true ≡ first.has_switch → IsBareCall o call → Keeps 0 0 first mid → Affords 1 0 first mid → Keeps 1 0 mid last → Adds call mid last
    → TellsBare o first last (Ok true)
told_one o first mid last call has is keeps affords after adds = record {
  has = has;
  made = call ∷ [];
  told = (call, is, refl);
  goes = record {
    size = after.size ∙ keeps.size;
    trust = omega (arith, after.trust, keeps.trust);
    number = after.number ∙ keeps.number;
    switch = after.switch ∙ keeps.switch;
    settled = after.settled ∙ keeps.settled;
    first = after.first ∙ keeps.first;
    past = adds.past ∙ ap (λ (l : List Call). call ∷ l) affords.past;
    faults = adds.faults ∙ affords.faults;
  };
}
