-- Lines on a session leave the bay as it is.
use Rattle.std.proofs.Common.{◌≡◌, ℕ, ◌+◌, true, false, List, [], ◌∷◌, ◌++◌, length, refl, sym, ◌∙◌, ap, subst, arith, inl, inr}
use Rattle.std.specs.Prelude.{IfErr, IfOk, Option, Some, None, Result, Ok, Err}
use Rattle.std.proofs.lemmas.List.{append-nil}
use Rattle.device_log.specs.declared.choice.CutChoice.{CutChoice}
use Rattle.device_log.specs.Calls.{Call}
use Rattle.logged_disk.specs.Device.{DeviceState as Device}
use Rattle.logged_disk.specs.declared.device.Disk.{Ghosts as DiskGhosts}
use Rattle.device_bay.specs.Calls.{BayCall, out_of}
use Rattle.cache_calls.specs.declared.calls.Calls.{Ghosts as CallsGhosts}
use Rattle.cache_model.specs.State.{State}
use Rattle.cache_model.proofs.Found.{no_truth}
use Rattle.script_grammar.specs.declared.step.Step.{Step}
use Rattle.script_grammar.specs.declared.step.Step.TheVariants as step
use Rattle.script_grammar.specs.declared.answer.StepAnswer.{StepAnswer}
use Rattle.script_grammar.specs.declared.answer.StepAnswer.TheVariants as answer
use Rattle.script_run.specs.Run.{Run}
use Rattle.script_run.specs.Turn.{Turn}
use Rattle.script_run.specs.Behind.{after_cut, after_step, behind}
use Rattle.script_run.specs.Switch.{is_of_device, is_of_switch}
use Rattle.cache_replay.specs.declared.session.Bare.{Bare}
use Rattle.cache_replay.specs.declared.session.Part.{Part}
use Rattle.cache_replay.specs.declared.session.Replay.{Replay}
use Rattle.cache_replay.specs.declared.stop.Stop.{Stop}
use Rattle.cache_replay.specs.declared.stop.Stop.TheVariants.{NoCache, BayFault, Memory}
use Rattle.cache_replay.specs.Plays.{Plays, StepEnds, StepMoves}
use Rattle.cache_replay.specs.Replay.{DeviceEnds, DeviceMoves, IsAlone, IsBareAs, IsReplay, PlaysOn, ReplayMoves, actors_in, bare_return, returns_in}
use Rattle.script_run.specs.Ledger.{KeepsOrder, Ledger, ledger_behind}
use Rattle.cache_replay.specs.Session.{AnswerTellsCount, AreLater, IsSession, return_of}
use Rattle.cache_replay.specs.Deals.{AnswersStep}
use Rattle.cache_replay.specs.OneLine.{AnswersLine}
use Rattle.cache_replay.proofs.OnPart.{WorksOn}
use Rattle.cache_replay.proofs.Order.{as_many, order_same, order_stays}
use Rattle.cache_replay.proofs.Outlines.{TellsBeside, all_left, all_outlines, alone_then, moment_outlines, no_deals, nothing_beside, returns_later, shown_outlines}
use Rattle.cache_replay.proofs.Unharming.{plays_outlined}
use Rattle.run_promise.specs.Needs.{NeedsSession}
use Rattle.cache_replay.specs.Stop.{IsSessionStop, RefusesAtStop, StopsStep}

-- what a run says of devices and of the moment
pub record SameBeside (run new : Run) : Type 0 where
  pub ended : new.ended ≡ run.ended
  pub names : new.names ≡ run.names
  pub now : new.now ≡ run.now

same : (run : Run) → SameBeside run run
same run = record { ended = refl; names = refl; now = refl }

cut_beside : (run : Run) (s : State) (turn : Turn) (choice : CutChoice) (told : List Call) → SameBeside run (after_cut run s turn choice told)
cut_beside run s turn choice [] = record { ended = refl; names = refl; now = refl }
cut_beside run s turn choice (call ∷ calls) = record { ended = refl; names = refl; now = refl }

-- a line on a session or on a bare device says nothing new of them
pub same_beside : (run : Run) (turn : Turn) (state : Option State) (step : Step) → NeedsSession step → SameBeside run (behind run turn state step)
same_beside run turn state (step.Format name segments buckets content agg reach fragment generation alternates) needs = absurd needs
same_beside run turn state (step.Now at) needs = absurd needs
same_beside run turn (Some s) (step.Cut choice) needs = cut_beside run s turn choice turn.told
same_beside run turn (Some s) _ needs = record { ended = refl; names = refl; now = refl }
same_beside run turn None _ needs = record { ended = refl; names = refl; now = refl }

module _ {D S W R : Type 0} {d : DiskGhosts D} {c : CallsGhosts S W R} where
  pub moves : (run : Run) (step : Step) (new : Replay D S W R d c) (said : StepAnswer) (ledger : Ledger) → NeedsSession step → ReplayMoves run step new said
      → DeviceMoves run step new said ledger ledger
  moves run step new said ledger needs m =
      let beside = same_beside run m.turn run.state step needs in
      record {
        moves = m;
        harms = [];
        ended = beside.ended ∙ sym (append-nil run.ended);
        names = [];
        named = beside.names ∙ sym (append-nil run.names);
        deals = no_deals ledger;
      }

  -- a line that sets the moment leaves the bay too
  moment_moves : (run : Run) (at : ℕ) (new : Replay D S W R d c) (said : StepAnswer) (ledger : Ledger) → ReplayMoves run (step.Now at) new said
      → DeviceMoves run (step.Now at) new said ledger ledger
  moment_moves run at new said ledger m = record {
    moves = m;
    harms = [];
    ended = sym (append-nil run.ended);
    names = [];
    named = sym (append-nil run.names);
    deals = no_deals ledger;
  }

-- what is no format and sets no moment works on a session
pub needs_session : (s : Step) → ((name : List ℕ) (segments buckets content agg reach fragment generation alternates : ℕ)
    → s ≡ step.Format name segments buckets content agg reach fragment generation alternates → ⊥) → ((at : ℕ) → s ≡ step.Now at → ⊥) → NeedsSession s
needs_session (step.Format name segments buckets content agg reach fragment generation alternates) h k =
    absurd (h name segments buckets content agg reach fragment generation alternates refl)
needs_session (step.Now at) h k = absurd (k at refl)
needs_session _ h k = tt

-- one that is neither for the switch of its device
pub needs_no_switch : (s : Step) → ((nth : ℕ) → s ≡ step.Fail nth → ⊥) → ((calls : ℕ) → s ≡ step.StopAfter calls → ⊥) → ((place byte : ℕ) → s ≡ step.Flip place byte → ⊥)
    → ((choice : CutChoice) → s ≡ step.Cut choice → ⊥) → is_of_switch s ≡ false
needs_no_switch (step.Fail nth) h k f c = absurd (h nth refl)
needs_no_switch (step.StopAfter calls) h k f c = absurd (k calls refl)
needs_no_switch (step.Flip place byte) h k f c = absurd (f place byte refl)
needs_no_switch (step.Cut choice) h k f c = absurd (c choice refl)
needs_no_switch _ h k f c = refl

-- ---- lines on a session

-- what needs a session and is not for its device's switch works on it
pub works_on : (s : Step) → NeedsSession s → is_of_switch s ≡ false → WorksOn s
works_on (step.Format name segments buckets content agg reach fragment generation alternates) needs other = absurd needs
works_on (step.Now at) needs other = absurd needs
works_on (step.Cut choice) needs other = no_truth other
works_on _ needs other = tt

needs_of : (s : Step) → WorksOn s → NeedsSession s
needs_of (step.Format name segments buckets content agg reach fragment generation alternates) on = absurd on
needs_of (step.Now at) on = absurd on
needs_of _ on = tt

-- it needs more than a device
pub of_no_switch : {X : Type 0} (s : Step) → is_of_switch s ≡ false → is_of_device s ≡ true → X
of_no_switch (step.Fail nth) other of_device = no_truth other
of_no_switch (step.StopAfter calls) other of_device = no_truth other
of_no_switch (step.Cut choice) other of_device = no_truth other
of_no_switch _ other of_device = no_truth (sym of_device)

-- it leaves what the run has of a bare device
last_stays : (run : Run) (turn : Turn) (o : Option State) (s : Step) → WorksOn s → (behind run turn o s).last ≡ run.last
last_stays run turn o (step.Format name segments buckets content agg reach fragment generation alternates) on = absurd on
last_stays run turn o (step.Now at) on = absurd on
last_stays run turn o (step.Cut choice) on = absurd on
last_stays run turn None _ on = refl
last_stays run turn (Some t) _ on = refl

none_last : {D : Type 0} {d : DiskGhosts D} (calls : List Call) (last : Option State) (bare : Option (Bare D d)) → bare ≡ None → IsBareAs calls last bare → last ≡ None
none_last calls None bare none is = refl
none_last calls (Some t) None none is = absurd is
none_last calls (Some t) (Some b) none is = absurd cc

-- why a line on a session ends the run
session_stops : {D S W R : Type 0} {d : DiskGhosts D} {c : CallsGhosts S W R} (replay : Replay D S W R d c) (s : Step) (why : Stop) (before now : List BayCall) → WorksOn s
    → (is_of_device s ≡ true → replay.bare ≡ None) → IsSessionStop replay.session why → StopsStep replay s before now why
session_stops replay s NoCache before now on bare is = (needs_of s on, record { part = is; bare = bare })
session_stops replay s BayFault before now on bare is = absurd is
session_stops replay s Memory before now on bare is = tt

-- the bay is as it was
all_refuse_none : (result : Result StepAnswer Stop) (past : List BayCall) → RefusesAtStop past past result
all_refuse_none (Ok said) past = refl
all_refuse_none (Err why) past = λ other. refl

module _ {D S W R : Type 0} {d : DiskGhosts D} {c : CallsGhosts S W R} (s : Step) (old new : Replay D S W R d c) (is : IsReplay old) (on : WorksOn s)
    (same : new.bare ≡ old.bare) (later : AreLater (return_of old.session.part) (return_of new.session.part)) where
  -- beside a session there is no bare device
  no_bare : (said : StepAnswer) → AnswerTellsCount new.session.part said → new.bare ≡ None
  no_bare said tells = bare_of new.session.part new.bare said tells (alone_then old new is same later)
    where
      bare_of : (part : Option (Part S W R c)) (bare : Option (Bare D d)) (said : StepAnswer) → AnswerTellsCount part said → IsAlone part bare → bare ≡ None
      bare_of None bare said tells alone = absurd tells
      bare_of (Some part) None said tells alone = refl
      bare_of (Some part) (Some bare) said tells alone = absurd alone

  -- the session moved on, and so did the replay
  replay_moves : (run : Run) (said : StepAnswer) → AnswerTellsCount new.session.part said → PlaysOn run old → StepMoves run s new.session said
      → ReplayMoves run s new said
  replay_moves run said tells plays m =
      let none : new.bare ≡ None = no_bare said tells in
      let last : (after_step run m.turn s).last ≡ None = last_stays run m.turn run.state s on ∙ none_last run.calls run.last old.bare (sym same ∙ none) plays.bare in
      record {
        turn = m.turn;
        takes = m.takes;
        plays = record {
          session = m.plays;
          bare = subst (λ o. IsBareAs (after_step run m.turn s).calls o new.bare) (sym last) (subst (IsBareAs (after_step run m.turn s).calls None) (sym none) tt);
        };
        says = m.says;
      }

  all_ends : (result : Result StepAnswer Stop) (ledger : Ledger) → IfOk result (AnswerTellsCount new.session.part)
      → IfOk result (λ said. TellsBeside s said (return_of new.session.part))
      → IfOk result (λ said. (run : Run) → Plays run old.session → StepEnds run s new.session said)
      → IfOk result (λ said. (run : Run) → PlaysOn run old → DeviceEnds run s new said ledger ledger)
  all_ends (Ok said) ledger tells beside h = λ run plays.
      elim (h run plays.session) [
        | inl m ↦ inl (moves run s new said ledger (needs_of s on) (replay_moves run said tells plays m))
        | inr pair ↦ inr (record {
          turn = pair.turn;
          shows = pair.shows;
          outlines =
              shown_outlines old new is same later said tells run pair.turn s ledger (needs_of s on) beside pair.calls pair.untold (plays_outlined run old is plays);
        })
      ]
  all_ends (Err why) ledger tells beside h = tt

  all_stops : (result : Result StepAnswer Stop) (before now : List BayCall) → (is_of_device s ≡ true → old.bare ≡ None) → IfErr result (IsSessionStop old.session)
      → IfErr result (StopsStep old s before now)
  all_stops (Ok said) before now bare h = tt
  all_stops (Err why) before now bare h = session_stops old s why before now on bare h

  -- it leaves the bay as it is
  pub line_step : (past : List BayCall) (result : Result StepAnswer Stop) → (is_of_device s ≡ true → old.bare ≡ None)
      → AnswersLine s old.session new.session result → IfOk result (λ said. TellsBeside s said (return_of new.session.part)) → AnswersStep s old new past past result
  line_step past result bare line beside = record {
    replay = record { session = line.session; alone = alone_then old new is same later };
    ends = all_ends result (ledger_behind past) line.counts beside line.ends;
    outline = all_outlines old new is same later result s (ledger_behind past) (needs_of s on) line.counts beside;
    left = all_left old new is same later result s (ledger_behind past) (needs_of s on) line.stop;
    stop = all_stops result past past bare line.stop;
    out = ap (λ n. out_of past + n) (sym (as_many (returns_in old) (returns_in new) (returns_later old new is same later)));
    names = line.names;
    order = order_stays (returns_in old) (returns_in new) past (returns_later old new is same later);
    refusals = all_refuse_none result past;
  }

-- where it is not for the switch of the session's device it tells nothing of that
pub silent_line : {S W R : Type 0} {c : CallsGhosts S W R} (result : Result StepAnswer Stop) (s : Step) (part : Option (Part S W R c)) → NeedsSession s
    → is_of_switch s ≡ false → IfOk result (λ said. TellsBeside s said (return_of part))
silent_line (Ok said) s part needs other = nothing_beside s said (return_of part) needs other
silent_line (Err why) s part needs other = tt

-- ---- the moment

module _ {D S W R : Type 0} {d : DiskGhosts D} {c : CallsGhosts S W R} where
  moment_plays : (run : Run) (at : ℕ) (old new : Replay D S W R d c) (said : StepAnswer) → new.bare ≡ old.bare → PlaysOn run old → StepMoves run (step.Now at) new.session said
      → ReplayMoves run (step.Now at) new said
  moment_plays run at old new said bare plays m = record {
    turn = m.turn;
    takes = m.takes;
    plays = record { session = m.plays; bare = subst (IsBareAs run.calls run.last) (sym bare) plays.bare };
    says = m.says;
  }

  -- the moment is set, and all else stays
  pub moment_step : (at : ℕ) (s : Step) (old new : Replay D S W R d c) (said : StepAnswer) (past : List BayCall) → s ≡ step.Now at → IsReplay old → IsSession new.session
      → ((run : Run) → Plays run old.session → StepMoves run (step.Now at) new.session said) → said ≡ answer.Now at → new.session.part ≡ old.session.part
      → new.bare ≡ old.bare → actors_in new ≡ actors_in old → AnswersStep s old new past past (Ok said)
  moment_step at s old new said past is before h moves_so told part bare names =
      let returns : returns_in new ≡ returns_in old = ap (λ p. return_of p ++ bare_return new.bare) part ∙ ap (λ b. return_of old.session.part ++ bare_return b) bare in
      subst (λ x. AnswersStep x old new past past (Ok said)) (sym is) (record {
        replay = record {
          session = h;
          alone = subst (λ p. IsAlone p new.bare) (sym part) (subst (IsAlone old.session.part) (sym bare) before.alone);
        };
        ends = λ run plays. inl (moment_moves run at new said (ledger_behind past) (moment_plays run at old new said bare plays (moves_so run plays.session)));
        outline = λ o outlined. moment_outlines o at old new said (ledger_behind past) told part bare outlined;
        left = tt;
        stop = tt;
        out = ap (λ (l : List Device). out_of past + length l) (sym returns);
        names = omega (arith, ap length names);
        order = subst (λ (l : List Device). KeepsOrder (returns_in old) past l past) (sym returns) (order_same (returns_in old) past);
        refusals = refl;
      })
