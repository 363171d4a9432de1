-- What a line on an actor's writer makes of the actors, and of the run.
use Rattle.std.proofs.Common.{◌≡◌, ℕ, ◌≤◌, List, [], ◌∷◌, length, refl, sym, ◌∙◌, ap, subst, Bool, true, false, inl, inr, Result, Ok, Err}
use Rattle.std.specs.Prelude.{Option, Some, None, IfSome, IfOk, IfErr, ◌==◌, if◌then◌else◌, is_some, option_and_then, option_map}
use Rattle.std.proofs.lemmas.Bool.{eqb-false, eqb-true}
use Rattle.tape_base.specs.declared.keys.Key.{Key}
use Rattle.alternate_vector.specs.Field.{Field}
use Rattle.actor_table.specs.Table.{TableSeen, number_of_name, slot_of_actor, with_actor}
use Rattle.cache_model.specs.Permit.{GiveUp, Write}
use Rattle.cache_model.specs.Legal.{IsStep}
use Rattle.cache_model.specs.State.{State, after_all}
use Rattle.cache_model.specs.Contents.{AnyContents, Contents}
use Rattle.cache_calls.specs.declared.calls.Calls.{Ghosts as CallsGhosts}
use Rattle.cache_calls.specs.Actors.{WriterSeen}
use Rattle.cache_calls.specs.Keeping.{IsAtRest}
use Rattle.cache_calls.specs.Standing.{IsToldClosed, StaysStanding}
use Rattle.script_grammar.specs.declared.answer.StepAnswer.{StepAnswer}
use Rattle.script_grammar.specs.declared.answer.StepAnswer.TheVariants as answer
use Rattle.script_grammar.specs.declared.step.Step.TheVariants as step
use Rattle.script_run.specs.Run.{Run, HoldsReader, Stream, HoldsWriter, actor_of, held_by, no_stream, put_in, with_value, put_written_by}
use Rattle.script_run.specs.Run.{Holding as Held}
use Rattle.script_run.specs.Answers as says
use Rattle.script_run.specs.Answers.{busy, idle}
use Rattle.script_run.specs.Asked as asks
use Rattle.script_run.specs.Turn.{Turn}
use Rattle.script_run.specs.Behind.{holds_behind, in_session, of_put, or_else, still_open, streams_behind, streams_closed, streams_fed, streams_opened, writer_at}
use Rattle.script_run.specs.Own.{AreOwn, AreWriting}
use Rattle.script_run.proofs.Fragments.{own_is_kept}
use Rattle.cache_replay.specs.declared.session.ActorHolding.{ActorHolding}
use Rattle.cache_replay.specs.declared.session.Part.{Part}
use Rattle.cache_replay.specs.declared.stop.Stop.{Stop}
use Rattle.cache_replay.specs.declared.stop.Stop.TheVariants.{Memory}
use Rattle.line_calls.specs.Moves.{Moves}
use Rattle.cache_replay.specs.OneLine.{AnswersActor}
use Rattle.run_promise.specs.Outline.{count_in}
use Rattle.cache_replay.specs.Plays.{IsHeldAs, IsStreamOf, PartEnds, PlaysIn, PlaysPart}
use Rattle.cache_replay.specs.Session.{ActorsAreApart, AnswerTellsCount, AreHeld, Differ, HoldingSeen, IsActive, IsHeldByActor, IsOpenWriter, LeavesBut, ReaderHeld, WriterHeld, at_in, slots_of}
use Rattle.cache_replay.specs.Session.{state_in_part}
use Rattle.line_calls.specs.Standing.{IsToldFrom, OwnStands, TellsOwn}
use Rattle.cache_replay.specs.WriterLines.{ClosesLine, FeedsLine, GivesUpLine, HasNoWriter, IsPlayed, IsWriterLeft, LeavesWriter, OpenDoes, OpensLine, TakesWriter, WriterDoes, WriterEnds, WriterLine}
use Rattle.cache_replay.specs.WriterLines.{WriterMoves, held_in, step_of_writer, writes_in}
use Rattle.cache_replay.proofs.ActorLines.{DoesNothing, changed_from, held_is, names_are, names_within, seen_same, still_line, with_here, with_other}
use Rattle.cache_replay.proofs.Frames.{Changed, IsElse, IsMine, OthersElse, SameStreams, all_apart, all_held, all_held_as, part_behind, put_leaves}
use Rattle.cache_replay.proofs.Free.{others_write_older}
use Rattle.cache_replay.proofs.OnSession.{are_writing, stands_behind}
use Rattle.cache_replay.proofs.PutsGrown.{GrowsFrom, put_grows}
use Rattle.cache_replay.proofs.Stood.{IsLawful, Stood, kept_then, stands_on, stands_then}
use Rattle.cache_replay.proofs.ToldFrom.{IsLater, gathered_few, later_of}
use Rattle.cache_replay.proofs.ToldWriters.{closed_bytes, closed_cut, fed_cut, opened_cut, told_close, told_fed, writer_cuts}
use Rattle.cache_replay.proofs.WriterSteps.{feeding_asks, has_put}

-- ---- what the actors have

else_by : (w : WriterSeen) (h : HoldingSeen) → Differ (WriterHeld w) h → IsElse (Some w.put) None h
else_by w (WriterHeld v) d = λ same. let is : w.put ≡ v.put = cc in d is
else_by w (ReaderHeld r) d = λ same. cc

-- no other actor has the writer of the same put
pub others_else : (slots : ℕ → Option HoldingSeen) (n : ℕ) (w : WriterSeen) → ActorsAreApart slots → slots n ≡ Some (WriterHeld w) → OthersElse slots n (Some w.put) None
others_else slots n w apart mine = λ m h nope is. else_by w h (apart n m (WriterHeld w) h (λ same. eqb-false m n nope (sym same)) mine is)

-- the writer that is left is open
held_left : (t : State) (put : ℕ) (left : Option WriterSeen) → IsWriterLeft t put left → IfSome (held_in left) (IsHeldByActor t)
held_left t put None h = tt
held_left t put (Some w) h = h.1

mine_left : (t : State) (put : ℕ) (left : Option WriterSeen) → IsWriterLeft t put left → (h : HoldingSeen) → held_in left ≡ Some h → IsMine (Some put) None h
mine_left t put None left h is = cc
mine_left t put (Some w) left h is =
    let same : WriterHeld w ≡ h = cc in
    subst (IsMine (Some put) None) same (ap (λ (n : ℕ). Some n) (sym left.0))

-- ---- the steps of a line on a writer

-- it is a line of that actor
pub actor_is : (line : WriterLine) (name : List ℕ) → actor_of (step_of_writer line name) ≡ Some name
actor_is (FeedsLine body) name = refl
actor_is ClosesLine name = refl
actor_is GivesUpLine name = refl
actor_is (OpensLine key pin request response) name = refl

-- what the actor has behind it, and what the others have
held_here : (line : WriterLine) (run : Run) (s t : State) (turn : Turn) (name : List ℕ) (n : ℕ) → n ≡ number_of_name run.actors name
    → (in_session run s t turn (step_of_writer line name)).held n ≡ holds_behind run s t (step_of_writer line name) name
held_here line run s t turn name n is =
    ap (λ (f : ℕ → Option Held). f n) (held_is run s t (step_of_writer line name) name (actor_is line name)) ∙ with_here run.held (number_of_name run.actors name) n _ is

held_there : (line : WriterLine) (run : Run) (s t : State) (turn : Turn) (name : List ℕ) (n m : ℕ) → n ≡ number_of_name run.actors name → (m == n) ≡ false
    → (in_session run s t turn (step_of_writer line name)).held m ≡ run.held m
held_there line run s t turn name n m is nope =
    ap (λ (f : ℕ → Option Held). f m) (held_is run s t (step_of_writer line name) name (actor_is line name))
    ∙ with_other run.held (number_of_name run.actors name) m _ (ap (λ k. m == k) (sym is) ∙ nope)

-- of the streams that of the put alone is another
same_with : (streams : ℕ → Stream) (put q : ℕ) (x : Stream) → (Some put ≡ Some q → ⊥) → with_value streams put x q ≡ streams q
same_with streams put q x other = by (q == put) refl
  where
    by : (b : Bool) → (q == put) ≡ b → (if b then x else streams q) ≡ streams q
    by true e = absurd (other (ap (λ (n : ℕ). Some n) (sym (eqb-true q put e))))
    by false e = refl

same_fed : (streams : ℕ → Stream) (put q : ℕ) (x : Stream) (b : Bool) → (Some put ≡ Some q → ⊥) → (if b then streams else with_value streams put x) q ≡ streams q
same_fed streams put q x true other = refl
same_fed streams put q x false other = same_with streams put q x other

abbrev writes : Option Held → Option ℕ
writes o = option_and_then put_in o

-- the put of a line: that of the actor's writer, or the next one
abbrev pub IsPutOf : Run → State → WriterLine → List ℕ → ℕ → Type 0
IsPutOf run s (FeedsLine body) name put = held_by run name ≡ Some (HoldsWriter put)
IsPutOf run s ClosesLine name put = held_by run name ≡ Some (HoldsWriter put)
IsPutOf run s GivesUpLine name put = held_by run name ≡ Some (HoldsWriter put)
IsPutOf run s (OpensLine key pin request response) name put = (held_by run name ≡ None) × (s.next_put ≡ put)

same_streams : (line : WriterLine) (run : Run) (s t : State) (turn : Turn) (name : List ℕ) (put : ℕ) → IsPutOf run s line name put
    → SameStreams (Some put) run (in_session run s t turn (step_of_writer line name))
same_streams (FeedsLine body) run s t turn name put held = λ q other.
    subst (λ o. of_put run (writes o) (streams_fed run t body turn.refused) q ≡ run.streams q) (sym held) (same_fed run.streams put q _ (run.streams put).sealed other)
same_streams ClosesLine run s t turn name put held = λ q other.
    subst (λ o. of_put run (writes o) (streams_closed run turn.refused) q ≡ run.streams q) (sym held) (same_with run.streams put q _ other)
same_streams GivesUpLine run s t turn name put held = λ q other. refl
same_streams (OpensLine key pin request response) run s t turn name put held = λ q other.
    subst (λ o. streams_opened run s o q ≡ run.streams q) (sym held.0) (same_with run.streams s.next_put q no_stream (λ e. other (ap (λ (n : ℕ). Some n) (sym held.1) ∙ e)))

-- ---- the run behind a line on a writer

here_left : (run : Run) (t : State) (n : ℕ) (left : Option WriterSeen) → run.held n ≡ writes_in left → IfSome left (λ v. IsStreamOf (run.streams v.put) v)
    → IsHeldAs run t n (held_in left)
here_left run t n None held stream = held
here_left run t n (Some v) held stream = (held, stream)

is_played : (run : Run) (name : List ℕ) (s : State) (slots : ℕ → Option HoldingSeen) (n : ℕ) (w : WriterSeen) → n ≡ number_of_name run.actors name → slots n ≡ Some (WriterHeld w)
    → PlaysIn run s slots
    → IsPlayed run name s w
is_played run name s slots n w is mine plays =
    let here : IsHeldAs run s n (Some (WriterHeld w)) = subst (IsHeldAs run s n) mine (plays.held n) in
    record { held = ap run.held (sym is) ∙ here.0; stream = here.1; told = plays.told }

-- ---- a line that has no writer

-- what is told of the fragments that a line cuts, where it cuts any
abbrev pub ToldBy : WriterLine → State → WriterSeen → Contents → Type 0
ToldBy (FeedsLine body) t w = IsToldFrom t w body
ToldBy ClosesLine t w = IsToldClosed t w
ToldBy GivesUpLine t w = AnyContents
ToldBy (OpensLine key pin request response) t w = AnyContents

-- a line on a writer that is there
abbrev pub IsOnWriter : WriterLine → Type 0
IsOnWriter (OpensLine key pin request response) = ⊥
IsOnWriter (FeedsLine body) = Unit {0}
IsOnWriter ClosesLine = Unit {0}
IsOnWriter GivesUpLine = Unit {0}

put_played : (line : WriterLine) (run : Run) (name : List ℕ) (s : State) (w : WriterSeen) → IsOnWriter line → IsPlayed run name s w → IsPutOf run s line name w.put
put_played (FeedsLine body) run name s w on played = played.held
put_played ClosesLine run name s w on played = played.held
put_played GivesUpLine run name s w on played = played.held
put_played (OpensLine key pin request response) run name s w on played = absurd on

-- what a reader, or nothing, is in the run
none_written : (run : Run) (s : State) (n : ℕ) (o : Option HoldingSeen) → HasNoWriter o → IsHeldAs run s n o
    → (writes (run.held n) ≡ None) × (still_open s (run.held n) ≡ run.held n)
none_written run s n None nope h = (ap writes h, ap (still_open s) h ∙ sym h)
none_written run s n (Some (WriterHeld w)) nope h = absurd nope
none_written run s n (Some (ReaderHeld r)) nope h =
    (ap writes h.0, ap (still_open s) h.0 ∙ (ap (λ o. if is_some o then Some (HoldsReader r.reader) else None) h.1.found ∙ sym h.0))

idles : (line : WriterLine) (run : Run) (s : State) (name : List ℕ) → IsOnWriter line → put_written_by run name ≡ None → still_open s (held_by run name) ≡ held_by run name
    → DoesNothing run s (step_of_writer line name) name idle
idles (OpensLine key pin request response) run s name on none held = absurd on
idles (FeedsLine body) run s name on none held = record {
  asks = ap (λ o. asks.asks_if_has o (asks.feeding run s body)) none;
  holds = held;
  streams = λ turn. ap (λ o. of_put run o (streams_fed run s body turn.refused)) none;
  own = λ turn given. given;
  says = λ turn. ap (λ o. says.if_has o (says.feed_said run s body turn.refused)) none;
}
idles ClosesLine run s name on none held = record {
  asks = ap (λ o. asks.asks_if_has o (asks.closing run s)) none;
  holds = held;
  streams = λ turn. ap (λ o. of_put run o (streams_closed run turn.refused)) none;
  own = λ turn given. given;
  says = λ turn. ap (λ o. says.if_has o (λ put. says.said s None turn.refused (says.put_said s put))) none;
}
idles GivesUpLine run s name on none held = record {
  asks = ap (λ o. asks.asks_if_has o (λ put. GiveUp put ∷ [])) none;
  holds = held;
  streams = λ turn. refl;
  own = λ turn given. given;
  says = λ turn. ap (λ o. says.if_has o answer.Aborted) none;
}

-- an actor that has something opens none
some_in_run : (run : Run) (s : State) (n : ℕ) (h : HoldingSeen) → IsHeldAs run s n (Some h) → (x : Held) × (run.held n ≡ Some x)
some_in_run run s n (WriterHeld w) held = (HoldsWriter w.put, held.0)
some_in_run run s n (ReaderHeld r) held = (HoldsReader r.reader, held.0)

is_busy : (run : Run) (s : State) (name : List ℕ) (key : Key) (pin : ℕ) (request response : List Field) (x : Held) → held_by run name ≡ Some x
    → DoesNothing run s (step.OpenWrite name key pin request response) name busy
is_busy run s name key pin request response x held = record {
  asks = ap (λ o. asks.asks_if_free o (Write (number_of_name run.actors name) key request response pin ∷ [])) held;
  holds = ap (λ o. or_else o (writer_at s s.next_put)) held ∙ sym held;
  streams = λ turn. ap (λ o. streams_opened run s o) held;
  own = λ turn given. given;
  says = λ turn. ap (λ o. says.if_free o (says.said s None turn.refused (answer.Writer s.next_put))) held;
}

-- what holds of each answer holds of the result
ends_if : {E : Type 0} (result : Result StepAnswer E) (given : Option StepAnswer) (P : StepAnswer → Type 0) → IfOk result (λ said. given ≡ Some said)
    → ((said : StepAnswer) → given ≡ Some said → P said) → IfOk result P
ends_if (Ok said) given P h ends = ends said h
ends_if (Err e) given P h ends = tt

some_at : {X : Type 0} (P : X → Type 0) (o : Option X) (x : X) → o ≡ Some x → IfSome o P → P x
some_at P o x is h = subst (λ y. IfSome y P) is h

-- ---- a part, and its actors

module _ {S W R : Type 0} (c : CallsGhosts S W R) where
  -- what the actors have once one was numbered, its writer was taken, and what is left was given back
  pub given_back : (actors numbered taken last : TableSeen (ActorHolding W R)) (n : ℕ) (w : W) (left : Option WriterSeen) → ((m : ℕ) → slot_of_actor numbered.slots m ≡ slot_of_actor actors.slots m)
      → TakesWriter c numbered taken n (Some w) → ((m : ℕ) → slots_of c last m ≡ (if m == n then held_in left else slots_of c taken m))
      → Changed (slots_of c actors) (slots_of c last) n (held_in left)
  given_back actors numbered taken last n w left same takes back = λ m. back m ∙ by m (m == n) refl
    where
      by : (m : ℕ) (b : Bool) → (m == n) ≡ b → (if b then held_in left else slots_of c taken m) ≡ (if b then held_in left else slots_of c actors m)
      by m true e = refl
      by m false e = takes.1 m ∙ (ap (λ (x : Bool). if x then None else slots_of c numbered m) e ∙ seen_same c actors numbered same m)

module _ {S W R : Type 0} {c : CallsGhosts S W R} where
  -- a line on the writer of a put, as it ends beside each run
  module _ (now : ℕ) (line : WriterLine) (part new : Part S W R c) (actors last : TableSeen (ActorHolding W R)) (name : List ℕ) (n put : ℕ) (left : Option W) (given : Option StepAnswer)
      (number : n ≡ number_of_name actors.names name) (names : last.names ≡ with_actor actors.names name) (active : IsActive part (slots_of c actors))
      (others : OthersElse (slots_of c actors) n (Some put) None) (changed : Changed (slots_of c actors) (slots_of c last) n (held_in (option_map c.written left)))
      (page : new.page ≡ part.page) (lawful : IsLawful c) (leaves : LeavesWriter c part.cache new.cache put left given) where
    abbrev s : State
    s = state_in_part part

    abbrev t : State
    t = state_in_part new

    but_put : LeavesBut (Some put) None s t
    but_put = put_leaves put (at_in part) (at_in new) leaves.own

    active_behind : IsActive new (slots_of c last)
    active_behind = record {
      part_is = part_behind part new active.part_is leaves.keeps.goes_on (lawful.rest new.cache leaves.keeps.goes_on.holds_then)
          (ap (λ p. length p.items) page) (Some put) None but_put;
      held = all_held (Some put) None s t (slots_of c actors) (slots_of c last) n (held_in (option_map c.written left)) but_put changed others active.held
          (held_left t put (option_map c.written left) leaves.left_is);
      apart = all_apart (Some put) None (slots_of c actors) (slots_of c last) n (held_in (option_map c.written left)) changed others
          (mine_left t put (option_map c.written left) leaves.left_is) active.apart;
    }

    -- what stands behind it
    abbrev Stands : (run : Run) (said : StepAnswer) → Moves run (step_of_writer line name) (at_in part) (at_in new) said → Type 0
    Stands run said m = OwnStands (streams_behind run s t m.turn (step_of_writer line name)) t (c.stands new.cache)

    moved : (run : Run) (said : StepAnswer) → PlaysPart run part actors → IsPutOf run s line name put
        → (m : WriterMoves run name (at_in part) (at_in new) line (option_map c.written left) said)
        → Stood run (step_of_writer line name) part new said m.moves → Stands run said m.moves
        → PlaysPart (in_session run s t m.moves.turn (step_of_writer line name)) new last
    moved run said plays of m there stands =
        let turn = m.moves.turn in
        let later : Run = in_session run s t turn (step_of_writer line name) in
        let at : n ≡ number_of_name run.actors name = number ∙ ap (λ (all : List (List ℕ)). number_of_name all name) (sym plays.names) in
        record {
          names = names_are run s t turn (step_of_writer line name) name actors.names last.names (actor_is line name) plays.names names;
          at = record {
            state = refl;
            told = there.told;
            own = there.own;
            held = all_held_as (Some put) None run later s t (slots_of c actors) (slots_of c last) n (held_in (option_map c.written left)) but_put
                (same_streams line run s t turn name put of) (λ m nope. held_there line run s t turn name n m at nope) changed others plays.at.held
                (here_left later t n (option_map c.written left) (held_here line run s t turn name n at ∙ m.held) m.stream);
          };
          stands = stands;
        }

    ends_in : (run : Run) (said : StepAnswer) → PlaysPart run part actors → IsPutOf run s line name put
        → ((m : Moves run (step_of_writer line name) (at_in part) (at_in new) said) → Stands run said m)
        → WriterEnds run name (at_in part) (at_in new) line (option_map c.written left) said
        → PartEnds run (step_of_writer line name) part new last said
    ends_in run said plays of stands (inr pair) = inr pair
    ends_in run said plays of stands (inl m) =
        elim (stands_behind lawful run (step_of_writer line name) part new said m.moves (slots_of c actors) active leaves.keeps.goes_on.holds_then plays.at
        (stands m.moves)) [
          | inr pair ↦ inr pair
          | inl there ↦ inl (record { moves = m.moves; plays = moved run said plays of m there (stands m.moves) })
        ]

    answers : (result : Result StepAnswer Stop) → IfOk result (λ said. given ≡ Some said) → IfErr result (λ why. why ≡ Memory)
        → ((run : Run) (said : StepAnswer) → run.now ≡ now → PlaysPart run part actors → given ≡ Some said
        → IsPutOf run s line name put × ((m : Moves run (step_of_writer line name) (at_in part) (at_in new) said) → Stands run said m)
        × WriterEnds run name (at_in part) (at_in new) line (option_map c.written left) said)
        → AnswersActor now (step_of_writer line name) part new actors last result
    answers result said stop does = record {
      active = active_behind;
      goes = leaves.keeps.goes_on;
      ends = ends_if result given (λ said. (run : Run) → run.now ≡ now → PlaysPart run part actors → PartEnds run (step_of_writer line name) part new last said) said
          (λ said is run moment plays. let d = does run said moment plays is in ends_in run said plays d.0 d.1 d.2);
      unharmed = λ run plays. leaves.keeps.unharmed;
      counts = ends_if result given (AnswerTellsCount (Some new)) said
          (λ said is. some_at (λ said. Rattle.script_run.specs.Losses.NoLossIsAFault s → count_in said ≤ (at_in new).device.faults) given said is leaves.counts
          active.part_is.losses);
      stop = stop;
      names = names_within actors.names last.names name names;
    }

  -- ---- what stands behind a line on a writer

  module _ (run : Run) (name : List ℕ) (part new : Part S W R c) (said : StepAnswer) where
    -- of a writer that is fed
    fed_told : (body : List ℕ) (m : Moves run (step.Feed name body) (at_in part) (at_in new) said) (w : WriterSeen)
        → IsPlayed run name (state_in_part part) w → IsOpenWriter (state_in_part part) w → IsAtRest (at_in part)
        → AreOwn (state_in_part part) run.streams
        → (state_in_part new).geometry ≡ (state_in_part part).geometry → (contents : Contents)
        → TellsOwn (of_put run (put_written_by run name) (streams_fed run (state_in_part new) body m.turn.refused))
        (state_in_part new) contents
        → IsToldFrom (state_in_part new) w body contents
    fed_told body m w played at_hand rest own same =
        let s : State = state_in_part part in
        let why = m.turn.refused in
        subst (λ t. (contents : Contents) → TellsOwn (of_put run (put_written_by run name) (streams_fed run t body why)) t contents
        → IsToldFrom t w body contents) (sym m.state)
        (λ contents tells.
        told_fed run s w body at_hand played.stream rest.sound rest.none rest.quiet (own_is_kept s run.streams own) m.turn.device m.turn.added why
        (subst (λ is. IsStep m.turn.device s is m.turn.added why) (feeding_asks run name s w body played at_hand) m.takes.legal)
        (ap (λ (u : State). u.geometry) (sym m.state) ∙ same) contents
        (subst (λ o. TellsOwn (of_put run o (streams_fed run (after_all s m.turn.added) body why)) (after_all s m.turn.added) contents)
        (has_put run name s w played) tells))

    writer_stands : (line : WriterLine) → IsOnWriter line → (m : Moves run (step_of_writer line name) (at_in part) (at_in new) said) (w : WriterSeen)
        → IsPlayed run name (state_in_part part) w → IsOpenWriter (state_in_part part) w → IsAtRest (at_in part)
        → AreOwn (state_in_part part) run.streams → AreWriting run (state_in_part part)
        → ((n : ℕ) → GrowsFrom (state_in_part part) (state_in_part new) n)
        → StaysStanding c.stands (ToldBy line (state_in_part new) w) part.cache new.cache → OwnStands run.streams (state_in_part part) (c.stands part.cache)
        → OwnStands (streams_behind run (state_in_part part) (state_in_part new) m.turn (step_of_writer line name)) (state_in_part new)
        (c.stands new.cache)
    writer_stands (FeedsLine body) on m w played at_hand rest own writing grows stays stands =
        stands_then run (step.Feed name body) part new said m (IsToldFrom (state_in_part new) w body) grows
        (fed_cut run (state_in_part part) name w.put own.puts (has_put run name (state_in_part part) w played) at_hand.writing
        (state_in_part new) body
        m.turn.refused)
        (fed_told body m w played at_hand rest own (grows w.put).geometry) stays stands
    writer_stands ClosesLine on m w played at_hand rest own writing grows stays stands =
        let has = has_put run name (state_in_part part) w played in
        let later : IsLater (state_in_part part) (state_in_part new) w =
        later_of (state_in_part part) (state_in_part new) w at_hand.writing at_hand.writer (grows w.put) in
        stands_then run (step.Close name) part new said m (IsToldClosed (state_in_part new) w) grows
        (closed_cut run (state_in_part part) name w.put own.puts has m.turn.refused)
        (told_close (state_in_part part) (state_in_part new) (run.streams w.put) w (of_put run (put_written_by run name) (streams_closed run m.turn.refused))
        later played.stream (writer_cuts (state_in_part part) run.streams w own.puts at_hand)
        (kept_then run (step.Close name) part new said m rest played.told own writing).puts
        (closed_bytes run (state_in_part part) name w.put own.puts has m.turn.refused)
        (gathered_few (state_in_part part) (state_in_part new) w later.geometry at_hand))
        stays stands
    writer_stands GivesUpLine on m w played at_hand rest own writing grows stays stands =
        stands_on run (step.Abort name) part new said m refl grows stays stands
    writer_stands (OpensLine key pin request response) on m w played at_hand rest own writing grows stays stands = absurd on

  -- a line on the writer that an actor has
  pub writer_answers : (now : ℕ) (line : WriterLine) → IsOnWriter line → (part new : Part S W R c) (actors numbered taken last : TableSeen (ActorHolding W R)) (name : List ℕ) (n : ℕ)
      (w : W) (left : Option W)
      (given : Option StepAnswer) (result : Result StepAnswer Stop) → n ≡ number_of_name actors.names name → ((m : ℕ) → slot_of_actor numbered.slots m ≡ slot_of_actor actors.slots m)
      → last.names ≡ with_actor actors.names name → IsActive part (slots_of c actors)
      → TakesWriter c numbered taken n (Some w) → ((m : ℕ) → slots_of c last m ≡ (if m == n then held_in (option_map c.written left) else slots_of c taken m))
      → new.page ≡ part.page → IsLawful c
      → LeavesWriter c part.cache new.cache (c.written w).put left given
      → StaysStanding c.stands (ToldBy line (state_in_part new) (c.written w)) part.cache new.cache
      → WriterDoes now (at_in part) (at_in new) line (c.written w) (option_map c.written left) given
      → IfOk result (λ said. given ≡ Some said) → IfErr result (λ why. why ≡ Memory)
      → AnswersActor now (step_of_writer line name) part new actors last result
  writer_answers now line on part new actors numbered taken last name n w left given result number same names active takes back page lawful leaves stays does said stop =
      let v : WriterSeen = c.written w in
      let mine : slots_of c actors n ≡ Some (WriterHeld v) = sym (seen_same c actors numbered same n) ∙ takes.0 in
      answers now line part new actors last name n v.put left given number names active (others_else (slots_of c actors) n v active.apart mine)
      (given_back c actors numbered taken last n w (option_map c.written left) same takes back) page lawful leaves result said stop
      (λ run said moment plays is.
      let at : n ≡ number_of_name run.actors name = number ∙ ap (λ (all : List (List ℕ)). number_of_name all name) (sym plays.names) in
      let played = is_played run name (state_in_part part) (slots_of c actors) n v at mine plays.at in (
        put_played line run name (state_in_part part) v on played,
        λ m. writer_stands run name part new said line on m v played
            (some_at (IsHeldByActor (state_in_part part)) (slots_of c actors n) (WriterHeld v) mine (active.held n)) active.part_is.rest
            plays.at.own (are_writing run (state_in_part part) (slots_of c actors) plays.at active.held)
            (λ q. put_grows (at_in part) (at_in new) (lawful.rest new.cache leaves.keeps.goes_on.holds_then) q v.put leaves.own) stays plays.stands,
        some_at (λ said. (run : Run) (name : List ℕ) → run.now ≡ now → IsPlayed run name (state_in_part part) v
            → WriterEnds run name (at_in part) (at_in new) line (option_map c.written left) said)
            given said is does run name moment played,
      ))

  -- an actor that has none
  pub writer_idles : (now : ℕ) (line : WriterLine) → IsOnWriter line → (part : Part S W R c) (actors numbered taken : TableSeen (ActorHolding W R)) (name : List ℕ) (n : ℕ)
      (said : StepAnswer)
      → said ≡ idle → n ≡ number_of_name actors.names name → ((m : ℕ) → slot_of_actor numbered.slots m ≡ slot_of_actor actors.slots m) → taken.names ≡ with_actor actors.names name
      → IsActive part (slots_of c actors) → TakesWriter c numbered taken n None
      → AnswersActor now (step_of_writer line name) part part actors taken (Ok said)
  writer_idles now line on part actors numbered taken name n said is number same names active takes =
      let nope : HasNoWriter (slots_of c actors n) = subst HasNoWriter (seen_same c actors numbered same n) takes.0 in
      subst (λ x. AnswersActor now (step_of_writer line name) part part actors taken (Ok x)) (sym is)
      (still_line part actors taken (step_of_writer line name) name (actor_is line name) names (λ m. takes.1 m ∙ seen_same c actors numbered same m) active now idle
      (λ run plays.
      let at : n ≡ number_of_name run.actors name = number ∙ ap (λ (all : List (List ℕ)). number_of_name all name) (sym plays.names) in
      let none = none_written run (state_in_part part) n (slots_of c actors n) nope (plays.at.held n) in
      idles line run (state_in_part part) name on (ap (λ k. writes (run.held k)) (sym at) ∙ none.0)
      (ap (λ k. still_open (state_in_part part) (run.held k)) (sym at) ∙ (none.1 ∙ ap run.held at))) refl)

  -- an actor that has nothing opens a writer
  pub open_answers : (now : ℕ) (part new : Part S W R c) (actors numbered last : TableSeen (ActorHolding W R)) (name : List ℕ) (key : Key) (pin : ℕ) (request response : List Field) (n : ℕ)
      (left : Option W)
      (given : Option StepAnswer) (result : Result StepAnswer Stop) → n ≡ number_of_name actors.names name → ((m : ℕ) → slot_of_actor numbered.slots m ≡ slot_of_actor actors.slots m)
      → last.names ≡ with_actor actors.names name → IsActive part (slots_of c actors)
      → slot_of_actor numbered.slots n ≡ None → ((m : ℕ) → slots_of c last m ≡ (if m == n then held_in (option_map c.written left) else slots_of c numbered m))
      → new.page ≡ part.page → IsLawful c
      → LeavesWriter c part.cache new.cache (state_in_part part).next_put left given
      → StaysStanding c.stands AnyContents part.cache new.cache
      → OpenDoes (at_in part) (at_in new) n (OpensLine key pin request response) (option_map c.written left) given
      → IfOk result (λ said. given ≡ Some said) → IfErr result (λ why. why ≡ Memory)
      → AnswersActor now (step.OpenWrite name key pin request response) part new actors last result
  open_answers now part new actors numbered last name key pin request response n left given result number same names active free back page lawful leaves stays does said stop =
      let line : WriterLine = OpensLine key pin request response in
      let none : slots_of c actors n ≡ None = ap (option_map (Rattle.cache_replay.specs.Session.holding_seen c)) (sym (same n) ∙ free) in
      answers now line part new actors last name n (state_in_part part).next_put left given number names active
      (others_write_older (at_in part) active.part_is.rest (slots_of c actors) active.held n)
      (changed_from (slots_of c actors) (slots_of c numbered) (slots_of c last) n (held_in (option_map c.written left)) (seen_same c actors numbered same) back) page lawful leaves
      result said stop
      (λ run said moment plays is.
      let at : n ≡ number_of_name run.actors name = number ∙ ap (λ (all : List (List ℕ)). number_of_name all name) (sym plays.names) in
      let nobody : held_by run name ≡ None = ap run.held (sym at) ∙ subst (IsHeldAs run (state_in_part part) n) none (plays.at.held n) in (
        (nobody, refl),
        λ m. stands_then run (step.OpenWrite name key pin request response) part new said m AnyContents
            (λ q. put_grows (at_in part) (at_in new) (lawful.rest new.cache leaves.keeps.goes_on.holds_then) q (state_in_part part).next_put leaves.own)
            (opened_cut run (state_in_part part) (held_by run name) plays.at.own.puts nobody) (λ contents tells. tt) stays plays.stands,
        some_at (λ said. (run : Run) (name : List ℕ) → held_by run name ≡ None → n ≡ number_of_name run.actors name → Rattle.cache_model.specs.Vectors.AreTold (state_in_part part)
            → WriterEnds run name (at_in part) (at_in new) line (option_map c.written left) said) given said is does run name nobody at plays.at.told,
      ))

  -- one that has something is busy
  pub open_busy : (now : ℕ) (part : Part S W R c) (actors numbered : TableSeen (ActorHolding W R)) (name : List ℕ) (key : Key) (pin : ℕ) (request response : List Field) (n : ℕ)
      (h : ActorHolding W R) (said : StepAnswer)
      → said ≡ busy → n ≡ number_of_name actors.names name → ((m : ℕ) → slot_of_actor numbered.slots m ≡ slot_of_actor actors.slots m) → numbered.names ≡ with_actor actors.names name
      → IsActive part (slots_of c actors) → slot_of_actor numbered.slots n ≡ Some h
      → AnswersActor now (step.OpenWrite name key pin request response) part part actors numbered (Ok said)
  open_busy now part actors numbered name key pin request response n h said is number same names active has =
      let mine : slots_of c actors n ≡ Some (Rattle.cache_replay.specs.Session.holding_seen c h) = ap (option_map (Rattle.cache_replay.specs.Session.holding_seen c))
      (sym (same n) ∙ has) in
      subst (λ x. AnswersActor now (step.OpenWrite name key pin request response) part part actors numbered (Ok x)) (sym is)
      (still_line part actors numbered (step.OpenWrite name key pin request response) name refl names (seen_same c actors numbered same) active now busy
      (λ run plays.
      let at : n ≡ number_of_name run.actors name = number ∙ ap (λ (all : List (List ℕ)). number_of_name all name) (sym plays.names) in
      let x = some_in_run run (state_in_part part) n (Rattle.cache_replay.specs.Session.holding_seen c h) (subst (IsHeldAs run (state_in_part part) n) mine (plays.at.held n)) in
      is_busy run (state_in_part part) name key pin request response x.0 (ap run.held (sym at) ∙ x.1)) refl)
