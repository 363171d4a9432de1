-- A line of a reader, from what its calls did.
use Rattle.std.proofs.Common.{◌≡◌, ℕ, List, refl, sym, ◌∙◌, ap, subst, true, inl, inr}
use Rattle.std.specs.Prelude.{Option, Some, None, IfSome, ◌==◌, if◌then◌else◌, option_map, option_and_then}
use Rattle.std.proofs.lemmas.Bool.{eqb-false}
use Rattle.actor_table.specs.Table.{TableSeen, number_of_name, with_actor}
use Rattle.cache_model.specs.State.{State, reader_of}
use Rattle.cache_model.specs.Legal.{is_writing}
use Rattle.cache_model.specs.Contents.{AnyContents}
use Rattle.cache_calls.specs.declared.calls.Calls.{Ghosts as CallsGhosts}
use Rattle.cache_calls.specs.Actors.{IsOpenReader, IsReaderOf, ReaderSeen}
use Rattle.cache_calls.specs.Standing.{StaysStanding}
use Rattle.script_grammar.specs.declared.step.Step.{Step}
use Rattle.script_grammar.specs.declared.answer.StepAnswer.{StepAnswer}
use Rattle.script_run.specs.Run.{Run, HoldsReader, HoldsWriter, Stream, actor_of, held_by, reader_by, reader_in, with_value, Holding as Held}
use Rattle.script_run.specs.Turn.{Turn}
use Rattle.script_run.specs.Behind.{holds_behind, in_session, still_open, streams_behind}
use Rattle.cache_replay.specs.declared.session.ActorHolding.{ActorHolding}
use Rattle.cache_replay.specs.declared.session.Part.{Part}
use Rattle.line_calls.specs.Moves.{Moves}
use Rattle.cache_replay.specs.Plays.{IsHeldAs, PartEnds, PlaysPart}
use Rattle.line_calls.specs.Standing.{OwnStands}
use Rattle.cache_replay.specs.ReaderLines.{as_held, left_without_reader, reader_held}
use Rattle.cache_replay.specs.Session.{ActorsAreApart, Differ, HoldingSeen, IsActive, IsHeldByActor, IsPart, LeavesBut, ReaderHeld, WriterHeld, at_in, slots_of, state_in_part}
use Rattle.cache_replay.proofs.ActorLines.{changed_from, held_is, names_are, with_here, with_other, with_same}
use Rattle.cache_replay.proofs.Frames.{Changed, IsElse, IsMine, OthersElse, all_apart, all_held, all_held_as, some_is}
use Rattle.cache_replay.proofs.OnSession.{stands_behind}
use Rattle.cache_replay.proofs.PutsGrown.{grows_same}
use Rattle.cache_replay.proofs.Stood.{IsLawful, stands_on}

-- ---- the actors behind a line

-- the records of one reader, and what the actors have behind them
pub record Turns (reader : ℕ) (s t : State) (slots new : ℕ → Option HoldingSeen) (n : ℕ) (has : Option ReaderSeen) : Type 0 where
  pub leaves : LeavesBut None (Some reader) s t
  pub changed : Changed slots new n (as_held has)
  pub others : OthersElse slots n None (Some reader)
  pub number : IfSome has (λ r. r.reader ≡ reader)

pub none_some : {X : Type 0} (x : X) → None ≡ Some x → ⊥
none_some x e = cc

-- no other actor has the reader that an actor has
else_reader : (r : ReaderSeen) (h : HoldingSeen) → Differ (ReaderHeld r) h → IsElse None (Some r.reader) h
else_reader r (WriterHeld w) d = λ e. none_some w.put e
else_reader r (ReaderHeld q) d = λ e. d (some_is r.reader q.reader e)

pub apart_else : (slots : ℕ → Option HoldingSeen) (n : ℕ) (r : ReaderSeen) → ActorsAreApart slots → slots n ≡ Some (ReaderHeld r) → OthersElse slots n None (Some r.reader)
apart_else slots n r apart has = λ m h other is. else_reader r h (apart n m (ReaderHeld r) h (λ same. eqb-false m n other (sym same)) has is)

mine_held : (reader : ℕ) (has : Option ReaderSeen) → IfSome has (λ r. r.reader ≡ reader) → (h : HoldingSeen) → as_held has ≡ Some h → IsMine None (Some reader) h
mine_held reader None number h is = absurd (none_some h is)
mine_held reader (Some r) number h is = subst (IsMine None (Some reader)) (some_is (ReaderHeld r) h is) (ap Some (sym number))

open_held : (t : State) (has : Option ReaderSeen) → IfSome has (IsOpenReader t) → IfSome (as_held has) (IsHeldByActor t)
open_held t None h = h
open_held t (Some r) h = h

-- ---- and for the run

abbrev pub as_run : Option ReaderSeen → Option Held
as_run has = option_map (λ (r : ReaderSeen). HoldsReader r.reader) has

has_as : (later : Run) (t : State) (n : ℕ) (has : Option ReaderSeen) → later.held n ≡ as_run has → IfSome has (IsReaderOf t) → IsHeldAs later t n (as_held has)
has_as later t n None held own = held
has_as later t n (Some r) held own = (held, own)

module _ {S W R : Type 0} {c : CallsGhosts S W R} where
  pub turns_active : (old new : Part S W R c) (slots later : ℕ → Option HoldingSeen) (n reader : ℕ) (has : Option ReaderSeen) → IsActive old slots → IsPart new
      → Turns reader (state_in_part old) (state_in_part new) slots later n has → IfSome has (IsOpenReader (state_in_part new))
      → IsActive new later
  turns_active old new slots later n reader has active part turns mine = record {
    part_is = part;
    held = all_held None (Some reader) (state_in_part old) (state_in_part new) slots later n (as_held has) turns.leaves turns.changed turns.others active.held
        (open_held (state_in_part new) has mine);
    apart = all_apart None (Some reader) slots later n (as_held has) turns.changed turns.others (mine_held reader has turns.number) active.apart;
  }

  module _ (laws : IsLawful c) (run : Run) (step : Step) (name : List ℕ) (actor : actor_of step ≡ Some name) (old new : Part S W R c) (before after : TableSeen (ActorHolding W R)) (n : ℕ)
      (number : n ≡ number_of_name before.names name) (names : after.names ≡ with_actor before.names name) (active : IsActive old (slots_of c before))
      (part : IsPart new) (stays : StaysStanding c.stands AnyContents old.cache new.cache) (plays : PlaysPart run old before) (reader : ℕ) (has : Option ReaderSeen)
      (turns : Turns reader (state_in_part old) (state_in_part new) (slots_of c before) (slots_of c after) n has)
      (same : (turn : Turn) → streams_behind run (state_in_part old) (state_in_part new) turn step ≡ run.streams)
      (holds : holds_behind run (state_in_part old) (state_in_part new) step name ≡ as_run has)
      (mine : IfSome has (IsReaderOf (state_in_part new))) where
    -- what each actor has behind it
    held_then : (turn : Turn) (m : ℕ) → IsHeldAs (in_session run (state_in_part old) (state_in_part new) turn step) (state_in_part new) m (slots_of c after m)
    held_then turn =
        let later : Run = in_session run (state_in_part old) (state_in_part new) turn step in
        let there : n ≡ number_of_name run.actors name = number ∙ ap (λ all. number_of_name all name) (sym plays.names) in
        let held : later.held
        ≡ with_value run.held (number_of_name run.actors name) (holds_behind run (state_in_part old) (state_in_part new) step name) =
        held_is run (state_in_part old) (state_in_part new) step name actor in
        all_held_as None (Some reader) run later (state_in_part old) (state_in_part new) (slots_of c before) (slots_of c after) n (as_held has) turns.leaves
        (λ q other. ap (λ (f : ℕ → Stream). f q) (same turn))
        (λ m other. ap (λ (f : ℕ → Option Held). f m) held ∙ with_other run.held (number_of_name run.actors name) m _ (ap (λ (k : ℕ). m == k) (sym there) ∙ other))
        turns.changed turns.others plays.at.held
        (has_as later (state_in_part new) n has (ap (λ (f : ℕ → Option Held). f n) held ∙ (with_here run.held (number_of_name run.actors name) n _ there ∙ holds)) mine)

    -- what its writers took stands behind it: it places nothing
    stands_behind_it : (said : StepAnswer) (m : Moves run step (at_in old) (at_in new) said)
        → OwnStands (in_session run (state_in_part old) (state_in_part new) m.turn step).streams (state_in_part new) (c.stands new.cache)
    stands_behind_it said m =
        stands_on run step old new said m (same m.turn)
        (λ q. grows_same (state_in_part old) (state_in_part new) q (λ w found. turns.leaves.puts q (none_some q)) turns.leaves.geometry) stays plays.stands

    -- a line that did what it must
    pub reader_ends : (said : StepAnswer) → Moves run step (at_in old) (at_in new) said → PartEnds run step old new after said
    reader_ends said m = elim (stands_behind laws run step old new said m (slots_of c before) active part.holds plays.at (stands_behind_it said m)) [
      | inr pair ↦ inr pair
      | inl stands ↦ inl (record {
        moves = m;
        plays = record {
          names = names_are run (state_in_part old) (state_in_part new) m.turn step name before.names after.names actor plays.names names;
          at = record { state = refl; told = stands.told; own = stands.own; held = held_then m.turn };
          stands = stands_behind_it said m;
        };
      })
    ]

-- ---- what is taken and given back

reader_is : (o : Option HoldingSeen) (r : ReaderSeen) → Some r ≡ reader_held o → o ≡ Some (ReaderHeld r)
reader_is None r e = absurd (none_some r (sym e))
reader_is (Some (WriterHeld w)) r e = absurd (none_some r (sym e))
reader_is (Some (ReaderHeld q)) r e = ap (λ (x : ReaderSeen). Some (ReaderHeld x)) (sym (some_is r q e))

-- the actor had the reader, and has nothing
pub record Took (before after : ℕ → Option HoldingSeen) (n : ℕ) (r : ReaderSeen) : Type 0 where
  pub had : before n ≡ Some (ReaderHeld r)
  pub left : Changed before after n None

pub took : (before mid after : ℕ → Option HoldingSeen) (n : ℕ) (r : ReaderSeen) → ((m : ℕ) → mid m ≡ before m)
    → ((m : ℕ) → after m ≡ (if m == n then left_without_reader (mid n) else mid m)) → Some r ≡ reader_held (mid n) → Took before after n r
took before mid after n r same left is =
    let had : mid n ≡ Some (ReaderHeld r) = reader_is (mid n) r is in
    record {
      had = sym (same n) ∙ had;
      left = changed_from before mid after n None same (λ m. left m ∙ ap (λ (o : Option HoldingSeen). if m == n then left_without_reader o else mid m) had);
    }

without_none : (o : Option HoldingSeen) → None ≡ reader_held o → left_without_reader o ≡ o
without_none None e = refl
without_none (Some (WriterHeld w)) e = refl
without_none (Some (ReaderHeld r)) e = absurd (none_some r e)

-- where it has no reader, nothing changes
pub not_taken : (before mid after : ℕ → Option HoldingSeen) (n : ℕ) → ((m : ℕ) → mid m ≡ before m)
    → ((m : ℕ) → after m ≡ (if m == n then left_without_reader (mid n) else mid m)) → None ≡ reader_held (mid n) → (m : ℕ)
    → after m ≡ before m
not_taken before mid after n same left none = λ m.
    left m ∙ (ap (λ (o : Option HoldingSeen). if m == n then o else mid m) (without_none (mid n) none) ∙ (with_same mid n m (m == n) refl ∙ same m))

-- ---- what the run says of an actor

no_reader : (run : Run) (s : State) (n : ℕ) (o : Option HoldingSeen) → None ≡ reader_held o → IsHeldAs run s n o → option_and_then reader_in (run.held n) ≡ None
no_reader run s n None e own = rw own refl
no_reader run s n (Some (WriterHeld w)) e own = let held : run.held n ≡ Some (HoldsWriter w.put) = own.0 in rw held refl
no_reader run s n (Some (ReaderHeld r)) e own = absurd (none_some r e)

open_still : (run : Run) (s : State) (n : ℕ) (o : Option HoldingSeen) → IsHeldAs run s n o → IfSome o (IsHeldByActor s) → still_open s (run.held n) ≡ run.held n
open_still run s n None own held = rw own refl
open_still run s n (Some (WriterHeld w)) own held =
    let is : run.held n ≡ Some (HoldsWriter w.put) = own.0 in
    let open_yet : is_writing s w.put ≡ true = held.writing in
    rw is (rw open_yet refl)
open_still run s n (Some (ReaderHeld r)) own held =
    let is : run.held n ≡ Some (HoldsReader r.reader) = own.0 in
    let found : reader_of s r.reader ≡ Some held.row = held.found in
    rw is (rw found refl)

module _ {S W R : Type 0} {c : CallsGhosts S W R} (run : Run) (part : Part S W R c) (actors : TableSeen (ActorHolding W R))
    (name : List ℕ) (n : ℕ)
    (number : n ≡ number_of_name actors.names name) (plays : PlaysPart run part actors) where
  pub held_there : held_by run name ≡ run.held n
  held_there = ap run.held (ap (λ all. number_of_name all name) plays.names ∙ sym number)

  -- the run says of an actor what it has
  pub held_reader : (r : ReaderSeen) → slots_of c actors n ≡ Some (ReaderHeld r) → (held_by run name ≡ Some (HoldsReader r.reader)) × IsReaderOf (state_in_part part) r
  held_reader r is =
      let own : IsHeldAs run (state_in_part part) n (Some (ReaderHeld r)) =
      subst (IsHeldAs run (state_in_part part) n) is (plays.at.held n) in
      (held_there ∙ own.0, own.1)

  pub reads_with : (r : ReaderSeen) → slots_of c actors n ≡ Some (ReaderHeld r) → reader_by run name ≡ Some r.reader
  reads_with r is = ap (option_and_then reader_in) (held_reader r is).0

  pub reads_none : None ≡ reader_held (slots_of c actors n) → reader_by run name ≡ None
  reads_none none = ap (option_and_then reader_in) held_there
      ∙ no_reader run (state_in_part part) n (slots_of c actors n) none (plays.at.held n)

  pub holds_none : slots_of c actors n ≡ None → held_by run name ≡ None
  holds_none none = held_there ∙ subst (IsHeldAs run (state_in_part part) n) none (plays.at.held n)

  pub still_held : IsActive part (slots_of c actors) → still_open (state_in_part part) (held_by run name) ≡ held_by run name
  still_held active =
      ap (still_open (state_in_part part)) held_there ∙ (open_still run (state_in_part part) n (slots_of c actors n) (plays.at.held n) (active.held n) ∙ sym held_there)
