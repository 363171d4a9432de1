-- A line for the switch of a session's device.
use Rattle.std.proofs.Common.{◌≡◌, ℕ, List, [], ◌∷◌, ◌++◌, Bool, true, false, refl, sym, ◌∙◌, ap, subst, arith, inl, inr, ◌⊎◌, Result, Ok, Err}
use Rattle.std.specs.Prelude.{◌*◌, Option, Some, None, IfOk}
use Rattle.std.specs.declared.alloc.AllocError.{AllocError}
use Rattle.std.proofs.lemmas.List.{append-nil}
use Rattle.tape_base.specs.Geometry.{budget_of}
use Rattle.device_log.specs.Calls.{Call, Flipped, PowerCut, Read, RefusedCall, Synced, Told, Wrote}
use Rattle.logged_disk.specs.Device.{DeviceState as Device, has_flip}
use Rattle.cache_answers.specs.declared.answers.SwitchOrder.{SwitchOrder}
use Rattle.cache_answers.specs.declared.answers.SwitchOrder.TheVariants as order
use Rattle.cache_answers.specs.Orders.{HasMade, call_of_order, calls_of_order}
use Rattle.cache_model.specs.State.{State}
use Rattle.cache_model.specs.Kept.{state_of}
use Rattle.cache_model.specs.Damage.{has_damage}
use Rattle.cache_model.specs.Legal
use Rattle.cache_model.specs.Legal.{IsStep}
use Rattle.cache_model.specs.Vectors.{AreTold}
use Rattle.cache_model.proofs.Found.{no_truth}
use Rattle.call_laws.specs.Moments.{permit_of}
use Rattle.cache_calls.specs.declared.calls.Calls.{Ghosts as CallsGhosts}
use Rattle.cache_calls.specs.Keeping.{IsAtRest, StaysUnharmed}
use Rattle.script_grammar.specs.declared.answer.Refused.TheVariants as refused
use Rattle.script_grammar.specs.declared.answer.StepAnswer.{StepAnswer}
use Rattle.script_grammar.specs.declared.answer.StepAnswer.TheVariants as answer
use Rattle.script_grammar.specs.declared.step.Step.{Step}
use Rattle.script_run.specs.Run.{Run, Stream, actor_of}
use Rattle.script_run.specs.Turn.{Turn}
use Rattle.script_run.specs.Asked.{asked}
use Rattle.script_run.specs.Answers.{session_said, switch_said}
use Rattle.script_run.specs.Behind.{actors_behind, held_behind, in_session, streams_behind}
use Rattle.script_run.specs.Losses.{NoLossIsAFault}
use Rattle.script_run.specs.Own.{AreOwn}
use Rattle.script_run.specs.Switch.{TreatsSwitch, order_of_step}
use Rattle.script_run.specs.Takes.{GivesOwn, TakesBehind}
use Rattle.run_promise.specs.Outline.{count_in, has_switch_in}
use Rattle.line_calls.specs.Moves.{Moves}
use Rattle.line_calls.specs.Standing.{TellsOwn}
use Rattle.cache_replay.specs.declared.session.Part.{Part}
use Rattle.cache_replay.specs.declared.session.Session.{Session}
use Rattle.cache_replay.specs.declared.stop.Stop.{Stop}
use Rattle.cache_replay.specs.declared.stop.Stop.TheVariants.{Memory}
use Rattle.cache_replay.specs.Session.{AreHeld, AreLater, IsActive, IsLaterDevice, IsPart, IsSession, at_in, return_of, slots_in, state_in_part}
use Rattle.cache_replay.specs.OneLine.{AnswersLine}
use Rattle.cache_replay.specs.Plays.{Plays, PlaysPart, StepEnds}
use Rattle.cache_replay.specs.Switching.{AnswerTellsSwitch, AnswersOrder, step_of_order, switch_answer, told_answer}
use Rattle.cache_replay.proofs.Frames.{leaves_all}
use Rattle.cache_replay.proofs.OnPart.{WorksOn, active, part_ends, part_plays, same_devices, wanting_stops}
use Rattle.cache_replay.proofs.Outlines.{TellsBeside}
use Rattle.cache_replay.proofs.Plain.{none_else, still_plays}

-- ---- the device

-- what was not turned behind a call was not before it
unturned_before : (call : Call) (older : List Call) → has_flip (call ∷ older) ≡ false → has_flip older ≡ false
unfolding has_flip
unturned_before (Read at bytes) older h = h
unturned_before (Wrote at bytes) older h = h
unturned_before Synced older h = h
unturned_before (RefusedCall what count) older h = h
unturned_before (Told act) older h = h
unturned_before (PowerCut choice left) older h = h
unturned_before (Flipped at byte) older h = no_truth h

unturned_first : (made older : List Call) → has_flip (made ++ older) ≡ false → has_flip older ≡ false
unturned_first [] older h = h
unturned_first (call ∷ made) older h = unturned_first made older (unturned_before call (made ++ older) h)

-- a device that made calls of its switch goes on
pub made_later : (made : List Call) (old new : Device) → HasMade made old new → IsLaterDevice old new
made_later made old new h = record {
  faults = omega (arith, h.faults);
  number = h.number;
  switch = h.switch;
  made = record { later = made; is = h.past };
  tells = λ tells. record {
    trusted = omega (arith, h.trust, tells.trusted);
    unturned = unturned_first made old.past (sym (ap has_flip h.past) ∙ tells.unturned);
  };
}

-- ---- the line

-- a line that is an order asks nothing of the records, has no actor, and is answered by what the switch was told
record IsLineOf (o : SwitchOrder) (step : Step) : Type 0 where
  on : WorksOn step
  asks : (run : Run) (s : State) → asked run s step ≡ []
  orders : order_of_step step ≡ Some o
  gives : (run : Run) (s : State) (turn : Turn) → turn.given ≡ [] → GivesOwn run s turn step
  streams : (run : Run) (s t : State) (turn : Turn) → streams_behind run s t turn step ≡ run.streams
  actor : actor_of step ≡ None
  says : (run : Run) (s t : State) (turn : Turn) → session_said run s t turn step ≡ switch_said turn.told (told_answer o)
  beside : (said : StepAnswer) (devices : List Device) → (said ≡ told_answer o) ⊎ (said ≡ answer.Refused refused.NoSwitch None)
      → Rattle.cache_replay.proofs.Outlines.AreSwitched (Some (has_switch_in said)) devices → TellsBeside step said devices

line_of : (o : SwitchOrder) → IsLineOf o (step_of_order o)
line_of (order.Fail nth) = record {
  asks = λ run s. refl;
  orders = refl;
  gives = λ run s turn none. none;
  streams = λ run s t turn. refl;
  actor = refl;
  says = λ run s t turn. refl;
  beside = λ said devices is switch. record { fixed = is; switch = switch; stands = λ b. refl };
  on = tt;
}
line_of (order.StopAfter calls) = record {
  asks = λ run s. refl;
  orders = refl;
  gives = λ run s turn none. none;
  streams = λ run s t turn. refl;
  actor = refl;
  says = λ run s t turn. refl;
  beside = λ said devices is switch. record { fixed = is; switch = switch; stands = λ b. refl };
  on = tt;
}
line_of (order.Flip place byte) = record {
  asks = λ run s. refl;
  orders = refl;
  gives = λ run s turn none. none;
  streams = λ run s t turn. refl;
  actor = refl;
  says = λ run s t turn. refl;
  beside = λ said devices is switch. record { fixed = is; switch = switch; stands = λ b. refl };
  on = tt;
}

pub order_on : (o : SwitchOrder) → WorksOn (step_of_order o)
order_on o = (line_of o).on

-- ---- what is answered

told_has : (o : SwitchOrder) → has_switch_in (told_answer o) ≡ true
told_has (order.Fail nth) = refl
told_has (order.StopAfter calls) = refl
told_has (order.Flip place byte) = refl

told_counts : (o : SwitchOrder) → count_in (told_answer o) ≡ 0
told_counts (order.Fail nth) = refl
told_counts (order.StopAfter calls) = refl
told_counts (order.Flip place byte) = refl

same_ok : {T E : Type 0} (a b : T) → (let one : Result T E = Ok a in one) ≡ Ok b → a ≡ b
same_ok a b e = cc

-- what an answer says, by what the cache answered
record SaysOf (o : SwitchOrder) (call : Call) (asked : Result Bool AllocError) (said : StepAnswer) : Type 0 where
  by_turn : switch_said (calls_of_order call asked) (told_answer o) ≡ said
  either : (said ≡ told_answer o) ⊎ (said ≡ answer.Refused refused.NoSwitch None)
  counts : count_in said ≡ 0
  has : (device : Bool) → IfOk asked (λ has. has ≡ device) → device ≡ has_switch_in said

says_of : (o : SwitchOrder) (call : Call) (asked : Result Bool AllocError) (said : StepAnswer) → (let one : Result StepAnswer Stop = Ok said in one) ≡ switch_answer o asked
    → SaysOf o call asked said
says_of o call (Ok true) said is =
    let same : said ≡ told_answer o = same_ok said (told_answer o) is in
    record {
      by_turn = sym same;
      either = inl same;
      counts = ap count_in same ∙ told_counts o;
      has = λ device h. sym h ∙ (sym (told_has o) ∙ sym (ap has_switch_in same));
    }
says_of o call (Ok false) said is =
    let same : said ≡ answer.Refused refused.NoSwitch None = same_ok said (answer.Refused refused.NoSwitch None) is in
    record { by_turn = sym same; either = inr same; counts = ap count_in same; has = λ device h. sym h ∙ sym (ap has_switch_in same) }
says_of o call (Err e) said is = absurd cc

-- what the switch was told is the order, or nothing
told_order : (call : Call) (asked : Result Bool AllocError) → (calls_of_order call asked ≡ call ∷ []) ⊎ (calls_of_order call asked ≡ [])
told_order call (Ok true) = inl refl
told_order call (Ok false) = inr refl
told_order call (Err e) = inr refl

wants_memory : (o : SwitchOrder) (asked : Result Bool AllocError) (why : Stop) → (let one : Result StepAnswer Stop = Err why in one) ≡ switch_answer o asked → why ≡ Memory
wants_memory o (Ok true) why is = absurd cc
wants_memory o (Ok false) why is = absurd cc
wants_memory o (Err e) why is = cc

module _ {S W R : Type 0} {c : CallsGhosts S W R} (session : Session S W R c) (before after : Part S W R c) (was : session.part ≡ Some before) (h : IsSession session)
    (o : SwitchOrder) (rest : IsAtRest (at_in after)) where
  module _ {result : Result StepAnswer Stop} (a : AnswersOrder o before after result) where
    abbrev Call_ : Call
    Call_ = call_of_order (state_in_part before).geometry o

    abbrev Made : List Call
    Made = calls_of_order Call_ a.asked

    same : state_in_part after ≡ state_in_part before
    same = ap state_of a.keeps.kept

    later : IsLaterDevice (at_in before).device (at_in after).device
    later = made_later Made (at_in before).device (at_in after).device a.tells.made

    was_active : IsActive before (slots_in session)
    was_active = active session before was h

    -- ---- the part

    part_then : IsPart after
    part_then = record {
      holds = a.keeps.holds_then;
      rest = rest;
      plain = a.keeps.setting ∙ was_active.part_is.plain;
      losses = subst NoLossIsAFault (sym same) was_active.part_is.losses;
      page = a.page ∙ (was_active.part_is.page ∙ ap (λ (s : State). 512 * budget_of s.geometry) (sym same));
    }

    active_then : IsActive after (slots_in session)
    active_then = record {
      part_is = part_then;
      held = subst (λ t. AreHeld t (slots_in session)) (sym same) was_active.held;
      apart = was_active.apart;
    }

    unharmed_then : StaysUnharmed (at_in before) (at_in after)
    unharmed_then u = record { unharmed = λ tells. ap has_damage same ∙ u.unharmed (later.tells tells) }

    -- ---- beside a run

    module _ (run : Run) where
      abbrev Asks : Step
      Asks = step_of_order o

      abbrev Does : Turn
      Does = record { added = []; refused = None; device = permit_of run.now (at_in before) []; given = []; told = Made }

      abbrev Then : Run
      Then = in_session run (state_in_part before) (state_in_part after) Does Asks

      takes_order : TakesBehind (at_in before).device.past run (state_in_part before) Does Asks
      takes_order = record {
        packs = ap (λ (setting : Rattle.cache_model.specs.Permit.Setting). setting.packed) was_active.part_is.plain;
        unsynced = ap (λ (setting : Rattle.cache_model.specs.Permit.Setting). setting.syncs) was_active.part_is.plain;
        moment = refl;
        past = refl;
        legal = subst (λ is. IsStep Does.device (state_in_part before) is [] None) (sym ((line_of o).asks run (state_in_part before))) (record {
          grows = Legal.MayGrow.nothing;
          quiet = was_active.part_is.rest.quiet;
          faults = refl;
          effects = λ unsynced. refl;
        });
        own = (line_of o).gives run (state_in_part before) Does refl;
        switch = subst (λ x. TreatsSwitch (state_in_part before).geometry x Does) (sym (line_of o).orders) (refl, told_order Call_ a.asked);
      }

      moves_order : (said : StepAnswer) → SaysOf o Call_ a.asked said → Moves run Asks (at_in before) (at_in after) said
      moves_order said says = record {
        turn = Does;
        takes = takes_order;
        calls = a.tells.made.past ∙ ap (λ calls. calls ++ (at_in before).device.past) (sym (append-nil Made));
        state = same;
        says = (line_of o).says run (state_in_part before) (state_in_part after) Does ∙ says.by_turn;
      }

      streams_then : Then.streams ≡ run.streams
      streams_then = (line_of o).streams run (state_in_part before) (state_in_part after) Does

      plays_then : PlaysPart run before session.actors → PlaysPart Then after session.actors
      plays_then there = record {
        names = ap (actors_behind run.actors) (line_of o).actor ∙ there.names;
        at = still_plays None None run Then (state_in_part before) (state_in_part after) (slots_in session)
            (leaves_all None None (state_in_part before) (state_in_part after) same) (none_else (slots_in session))
            (λ q other. ap (λ (f : ℕ → Stream). f q) streams_then)
            (λ n. ap (λ x. held_behind run (state_in_part before) (state_in_part after) Asks x n) (line_of o).actor)
            refl (subst AreTold (sym same) there.at.told)
            (subst (λ (f : ℕ → Stream). AreOwn (state_in_part after) f) (sym streams_then) (subst (λ s. AreOwn s run.streams) (sym same) there.at.own))
            there.at;
        stands = λ contents told.
            a.stands contents tt
            (there.stands contents (subst (λ s. TellsOwn run.streams s contents) same
            (subst (λ (f : ℕ → Stream). TellsOwn f (state_in_part after) contents) streams_then told)));
      }

    -- ---- as a line on the session

    order_ends : (said : StepAnswer) → SaysOf o Call_ a.asked said → (run : Run) → Plays run session
        → StepEnds run (step_of_order o) (record session { part = Some after }) said
    unfolding moves_order
    order_ends said says run plays =
        part_ends session before after session.actors was run (step_of_order o) said (order_on o) plays unharmed_then
        (inl (record { moves = moves_order run said says; plays = plays_then run (part_plays run session before was plays) }))

    later_then : AreLater (return_of session.part) (return_of (Some after))
    later_then = subst (λ x. AreLater (return_of x) (return_of (Some after))) (sym was) (later, tt)

  pub order_line : (result : Result StepAnswer Stop) → AnswersOrder o before after result
      → AnswersLine (step_of_order o) session (record session { part = Some after }) result
  order_line (Ok said) a =
      let says : SaysOf o (Call_ a) a.asked said = says_of o (Call_ a) a.asked said a.answers in
      record {
        session = active_then a;
        ends = order_ends a said says;
        counts = omega (arith, says.counts);
        device = later_then a;
        stop = tt;
        devices = same_devices session before after session.actors was;
        names = omega arith;
      }
  order_line (Err why) a = record {
    session = active_then a;
    ends = tt;
    counts = tt;
    device = later_then a;
    stop = wanting_stops session before after session.actors was (Err why) (wants_memory o a.asked why a.answers);
    devices = same_devices session before after session.actors was;
    names = omega arith;
  }

  pub order_switch : (result : Result StepAnswer Stop) → AnswersOrder o before after result → IfOk result (AnswerTellsSwitch o (Some after))
  order_switch (Ok said) a =
      let says : SaysOf o (Call_ a) a.asked said = says_of o (Call_ a) a.asked said a.answers in
      (says.either, (later a).switch ∙ says.has (at_in before).device.has_switch a.tells.has)
  order_switch (Err why) a = tt

-- what an outline is told by it
pub switch_beside : {S W R : Type 0} {c : CallsGhosts S W R} (o : SwitchOrder) (part : Option (Part S W R c)) (result : Result StepAnswer Stop)
    → IfOk result (AnswerTellsSwitch o part) → IfOk result (λ said. TellsBeside (step_of_order o) said (return_of part))
switch_beside o None (Ok said) is = absurd is
switch_beside o (Some part) (Ok said) is = (line_of o).beside said (return_of (Some part)) is.0 (is.1, tt)
switch_beside o part (Err why) is = tt
