-- A line without an actor, as a line on a session.
use Rattle.std.proofs.Common.{◌≡◌, ℕ, List, length, refl, sym, ◌∙◌, ap, subst, ◌⊎◌, inl, inr, Bool, true, false, arith, Result, Ok, Err}
use Rattle.std.specs.Prelude.{Option, Some, None, IfSome, IfOk, ◌==◌, if◌then◌else◌, option_and_then}
use Rattle.std.proofs.lemmas.Bool.{eq-eqb, eqb-true}
use Rattle.tape_base.specs.declared.keys.Key.{Key}
use Rattle.alternate_vector.specs.Field.{Field}
use Rattle.actor_table.specs.Table.{number_of_name}
use Rattle.cache_model.specs.State.{PutRow, State, put_of}
use Rattle.cache_model.specs.Legal.{is_writing}
use Rattle.cache_model.specs.Contents.{Contents}
use Rattle.cache_calls.specs.declared.calls.Calls.{Ghosts as CallsGhosts}
use Rattle.script_grammar.specs.declared.step.Step.{Step}
use Rattle.script_grammar.specs.declared.step.Step.TheVariants as step
use Rattle.script_grammar.specs.declared.answer.StepAnswer.{StepAnswer}
use Rattle.script_run.specs.Run.{Run, Stream, actor_of, put_in}
use Rattle.script_run.specs.Turn.{Turn}
use Rattle.script_run.specs.Behind.{in_session, streams_behind, with_bytes}
use Rattle.script_run.specs.Own.{AreWriting}
use Rattle.script_run.proofs.Cuts.{HaveCut, have_same}
use Rattle.cache_replay.specs.declared.session.Part.{Part}
use Rattle.cache_replay.specs.declared.session.Session.{Session}
use Rattle.cache_replay.specs.declared.stop.Stop.{Stop}
use Rattle.cache_replay.specs.Session.{AreHeld, HoldingSeen, IsActive, IsHeldByActor, IsPart, IsSession, ReaderHeld, WriterHeld, at_in, slots_in, state_in_part}
use Rattle.line_calls.specs.Moves.{Moves, MovesOrShows, ShowsIn}
use Rattle.cache_replay.specs.Plays.{IsHeldAs, PartEnds, Plays, PlaysIn, PlaysPart, StepEnds}
use Rattle.cache_replay.specs.OneLine.{AnswersLine, AnswersPlainly}
use Rattle.line_calls.specs.Standing.{IsToldPlainly, OwnStands, TellsPut, body_of_step}
use Rattle.cache_replay.proofs.Frames.{SameStreams, some_is}
use Rattle.cache_replay.proofs.Free.{no_next_put, none_reads_next, none_writes_next}
use Rattle.cache_replay.proofs.OnPart.{WorksOn, active, device_goes, part_ends, part_plays, same_devices, shown, wanting_stops}
use Rattle.cache_replay.proofs.Plain.{AllElse, none_else, still_held, still_plays}
use Rattle.cache_replay.proofs.PutsGrown.{grows_same}
use Rattle.cache_replay.proofs.Stood.{IsLawful, Stood, stands_then, stood}

-- ---- each put that an actor writes is open

writes_at : (run : Run) (s : State) (n put : ℕ) (o : Option HoldingSeen) → IsHeldAs run s n o → IfSome o (IsHeldByActor s) → option_and_then put_in (run.held n) ≡ Some put
    → is_writing s put ≡ true
writes_at run s n put None holds held is = let no : None ≡ Some put = ap (option_and_then put_in) (sym holds) ∙ is in cc no
writes_at run s n put (Some (WriterHeld w)) holds held is =
    let e : Some w.put ≡ Some put = ap (option_and_then put_in) (sym holds.0) ∙ is in
    subst (λ q. is_writing s q ≡ true) (some_is w.put put e) held.writing
writes_at run s n put (Some (ReaderHeld r)) holds held is = let no : None ≡ Some put = ap (option_and_then put_in) (sym holds.0) ∙ is in cc no

pub are_writing : (run : Run) (s : State) (slots : ℕ → Option HoldingSeen) → PlaysIn run s slots → AreHeld s slots → AreWriting run s
are_writing run s slots plays held = λ name put is.
    let n : ℕ = number_of_name run.actors name in
    writes_at run s n put (slots n) (plays.held n) (held n) is

-- ---- what stands behind a line

-- as far as it plays a session
pub stands_behind : {S W R : Type 0} {c : CallsGhosts S W R} → IsLawful c → (run : Run) (step : Step) (old new : Part S W R c) (said : StepAnswer)
    (m : Moves run step (at_in old) (at_in new) said) (slots : ℕ → Option HoldingSeen) → IsActive old slots → c.holds new.cache
    → PlaysIn run (state_in_part old) slots → OwnStands (streams_behind run (state_in_part old) (state_in_part new) m.turn step) (state_in_part new) (c.stands new.cache)
    → Stood run step old new said m ⊎ ShowsIn run step (at_in old) (at_in new)
stands_behind lawful run step old new said m slots a holds plays stands =
    stood run step old new said m a.part_is.rest plays.told plays.own (are_writing run (state_in_part old) slots plays a.held) lawful holds stands

-- ---- lines that no actor has anything to do with

-- it has no actor, of the streams it changes only that of this put, which begins with it, and no actor has that put or that reader
pub record IsWithout (put reader : Option ℕ) (step : Step) (s : State) : Type 0 where
  pub needs : WorksOn step
  pub actor : actor_of step ≡ None
  pub streams : (run : Run) (t : State) (turn : Turn) → SameStreams put run (in_session run s t turn step)
  pub body : (run : Run) (t : State) (turn : Turn) → IfSome put (λ n. ((in_session run s t turn step).streams n).bytes ≡ body_of_step step)
  pub fresh : (n : ℕ) → put ≡ Some n → put_of s n ≡ None
  pub others : (slots : ℕ → Option HoldingSeen) → AreHeld s slots → AllElse slots put reader

-- of the streams only that of the new put is another
other_stream : (streams : ℕ → Stream) (put q : ℕ) (body : List ℕ) → (Some put ≡ Some q → ⊥) → with_bytes streams put body q ≡ streams q
other_stream streams put q body other = by (q == put) refl
  where
    by : (b : Bool) → (q == put) ≡ b → (if b then record { bytes = body; sealed = false } else streams q) ≡ streams q
    by true e = absurd (other (ap Some (sym (eqb-true q put e))))
    by false e = refl

-- which is that of the body
own_stream : (streams : ℕ → Stream) (put : ℕ) (body : List ℕ) → (with_bytes streams put body put).bytes ≡ body
own_stream streams put body =
    ap (λ (b : Bool). (if b then record { bytes = body; sealed = false } else streams put).bytes) (eq-eqb put put refl)

module _ {S W R : Type 0} {c : CallsGhosts S W R} where
  pub put_without : (part : Part S W R c) (key : Key) (body : List ℕ) (request response : List Field) → IsPart part
      → IsWithout (Some (state_in_part part).next_put) None (step.Put key body request response) (state_in_part part)
  put_without part key body request response h = record {
    needs = tt;
    actor = refl;
    streams = λ run t turn q other. other_stream run.streams (state_in_part part).next_put q body other;
    body = λ run t turn. own_stream run.streams (state_in_part part).next_put body;
    fresh = λ n is. ap (put_of (state_in_part part)) (some_is n (state_in_part part).next_put (sym is)) ∙ no_next_put (at_in part) h.rest;
    others = λ slots held. none_writes_next (at_in part) h.rest slots held;
  }

  pub get_without : (part : Part S W R c) (key : Key) (request : List Field) → IsPart part
      → IsWithout None (Some (state_in_part part).next_reader) (step.Get key request) (state_in_part part)
  get_without part key request h = record {
    needs = tt;
    actor = refl;
    streams = λ run t turn q other. refl;
    body = λ run t turn. tt;
    fresh = λ n is. cc;
    others = λ slots held. none_reads_next (at_in part) h.rest slots held;
  }

pub remove_without : (s : State) (key : Key) → IsWithout None None (step.Remove key) s
remove_without s key = record {
  needs = tt;
  actor = refl;
  streams = λ run t turn q other. refl;
  body = λ run t turn. tt;
  fresh = λ n is. cc;
  others = λ slots held. none_else slots;
}

pub flush_without : (s : State) → IsWithout None None step.Flush s
flush_without s = record {
  needs = tt;
  actor = refl;
  streams = λ run t turn q other. refl;
  body = λ run t turn. tt;
  fresh = λ n is. cc;
  others = λ slots held. none_else slots;
}

-- ---- as a line on a session

-- of the put of a line it is told that it cuts the line's body
told_of_put : (put : Option ℕ) (t : State) (streams : ℕ → Stream) (step : Step) (contents : Contents)
    → IfSome put (λ n. (streams n).bytes ≡ body_of_step step) → ((n : ℕ) → TellsPut t n (streams n).bytes contents) → IfSome put (λ n. TellsPut t n (body_of_step step) contents)
told_of_put None t streams step contents body told = tt
told_of_put (Some n) t streams step contents body told = subst (λ bytes. TellsPut t n bytes contents) body (told n)

module _ {S W R : Type 0} {c : CallsGhosts S W R} (laws : IsLawful c) where
  module _ (session : Session S W R c) (before after : Part S W R c) (was : session.part ≡ Some before) (h : IsSession session)
      (put reader : Option ℕ) (step : Step) (without : IsWithout put reader step (state_in_part before)) where
    abbrev then_ : Run → Turn → Run
    then_ run turn = in_session run (state_in_part before) (state_in_part after) turn step

    -- a put that was there is not that of the line
    other : (n : ℕ) (w : PutRow) → put_of (state_in_part before) n ≡ Some w → put ≡ Some n → ⊥
    other n w found is = let clash : None ≡ Some w = sym (without.fresh n is) ∙ found in cc

    -- so what it had cut is the same
    cut : (run : Run) (turn : Turn) (n : ℕ) (w : PutRow) → put_of (state_in_part before) n ≡ Some w
        → HaveCut (state_in_part before).geometry.fragment (length w.cuts) (run.streams n).bytes ((then_ run turn).streams n).bytes
    cut run turn n w found =
        subst (λ (x : Stream). HaveCut (state_in_part before).geometry.fragment (length w.cuts) (run.streams n).bytes x.bytes)
        (sym (without.streams run (state_in_part after) turn n (other n w found)))
        (have_same (state_in_part before).geometry.fragment (length w.cuts) (run.streams n).bytes)

    -- what its writers took stands behind it
    stands_on : (run : Run) (said : StepAnswer) (m : Moves run step (at_in before) (at_in after) said) (now : ℕ) (result : Result StepAnswer Stop)
        → AnswersPlainly now step put reader before after result → OwnStands run.streams (state_in_part before) (c.stands before.cache)
        → OwnStands (then_ run m.turn).streams (state_in_part after) (c.stands after.cache)
    stands_on run said m now result answers stands =
        stands_then run step before after said m (IsToldPlainly (state_in_part after) put step)
        (λ n. grows_same (state_in_part before) (state_in_part after) n (λ w found. answers.leaves.puts n (other n w found))
        answers.leaves.geometry)
        (cut run m.turn)
        (λ contents told. record {
          vectors = told.vectors;
          cut = told_of_put put (state_in_part after) (then_ run m.turn).streams step contents (without.body run (state_in_part after) m.turn) told.puts;
        }) answers.stands stands

    -- what no actor has to do with is so for the actors
    plays_on : (run : Run) (said : StepAnswer) (m : Moves run step (at_in before) (at_in after) said) (now : ℕ) (result : Result StepAnswer Stop)
        → AnswersPlainly now step put reader before after result → PlaysPart run before session.actors → Stood run step before after said m
        → PlaysPart (then_ run m.turn) after session.actors
    plays_on run said m now result answers plays there =
        let later : Run = then_ run m.turn in
        record {
          names = ap (Rattle.script_run.specs.Behind.actors_behind run.actors) without.actor ∙ plays.names;
          at = still_plays put reader run later (state_in_part before) (state_in_part after) (slots_in session) answers.leaves
              (without.others (slots_in session) (active session before was h).held) (without.streams run (state_in_part after) m.turn)
              (λ n. ap (λ o. Rattle.script_run.specs.Behind.held_behind run (state_in_part before) (state_in_part after) step o n)
              without.actor)
              refl there.told there.own plays.at;
          stands = stands_on run said m now result answers plays.stands;
        }

    plain_moves : (run : Run) (said : StepAnswer) (result : Result StepAnswer Stop) → AnswersPlainly session.now step put reader before after result → Plays run session
        → MovesOrShows run step (at_in before) (at_in after) said → PartEnds run step before after session.actors said
    plain_moves run said result answers plays (inr pair) = inr pair
    plain_moves run said result answers plays (inl m) =
        let there = part_plays run session before was plays in
        elim (stands_behind laws run step before after said m (slots_in session) (active session before was h) answers.part.holds there.at
        (stands_on run said m session.now result answers there.stands)) [
          | inr pair ↦ inr pair
          | inl stands ↦ inl (record { moves = m; plays = plays_on run said m session.now result answers there stands })
        ]

    plain_ends : (result : Result StepAnswer Stop) → AnswersPlainly session.now step put reader before after result
        → IfOk result (λ said. (run : Run) → Plays run session → StepEnds run step (record session { part = Some after }) said)
    plain_ends (Ok said) answers = λ run plays.
        let there = part_plays run session before was plays in
        elim (answers.unharmed run plays.now there.at.told there.at.own there.stands) [
          | inr pair ↦ inr (shown session before after session.actors was run step plays pair)
          | inl stays ↦ part_ends session before after session.actors was run step said without.needs plays stays
              (plain_moves run said (Ok said) answers plays (answers.ends run plays.now there.at.told there.at.own there.stands))
        ]
    plain_ends (Err why) answers = tt

    -- a line without an actor
    pub plain_line : (result : Result StepAnswer Stop) → AnswersPlainly session.now step put reader before after result
        → AnswersLine step session (record session { part = Some after }) result
    plain_line result answers =
        let a = active session before was h in
        record {
          session = record {
            part_is = answers.part;
            held = still_held put reader (state_in_part before) (state_in_part after) (slots_in session) answers.leaves (without.others (slots_in session) a.held) a.held;
            apart = a.apart;
          };
          ends = plain_ends result answers;
          counts = answers.counts;
          device = device_goes session before after session.actors was answers.goes;
          stop = wanting_stops session before after session.actors was result answers.stop;
          devices = same_devices session before after session.actors was;
          names = omega arith;
        }
