-- An actor reads on.
use Rattle.std.proofs.Common.{◌≡◌, ℕ, List, [], ◌∷◌, length, refl, sym, ◌∙◌, ap, subst, inl, inr, Result, Ok, Err}
use Rattle.std.specs.Prelude.{Option, Some, None, IfErr, IfOk, if◌then◌else◌, is_some}
use Rattle.actor_table.specs.Table.{TableSeen, number_of_name, with_actor}
use Rattle.cache_model.specs.State.{ReaderRow, State}
use Rattle.cache_model.specs.Permit.{ReadOn}
use Rattle.cache_calls.specs.declared.calls.Calls.{Ghosts as CallsGhosts}
use Rattle.cache_calls.specs.Actors.{IsReaderOf, ReaderSeen}
use Rattle.cache_calls.specs.Keeping.{IsAtRest}
use Rattle.script_grammar.specs.declared.step.Step.TheVariants as step
use Rattle.script_grammar.specs.declared.answer.StepAnswer.{StepAnswer}
use Rattle.script_run.specs.Run.{Run, HoldsReader, held_by}
use Rattle.script_run.specs.Turn.{told_in}
use Rattle.script_run.specs.Asked as asks
use Rattle.script_run.specs.Answers as says
use Rattle.script_run.specs.Behind.{still_open}
use Rattle.script_run.specs.Takes.{IsNextPiece}
use Rattle.cache_replay.specs.declared.session.ActorHolding.{ActorHolding}
use Rattle.cache_replay.specs.declared.session.Part.{Part}
use Rattle.cache_replay.specs.declared.stop.Stop.{Stop}
use Rattle.cache_replay.specs.declared.stop.Stop.TheVariants.{Memory}
use Rattle.cache_replay.specs.OneLine.{AnswersActor}
use Rattle.cache_replay.specs.Plays.{PartEnds, PlaysPart}
use Rattle.cache_replay.specs.ReaderLines.{IsReadBy, LeavesReader, NextEnds, ReadsOnLine, reader_held}
use Rattle.cache_replay.specs.Session.{IsActive, IsPart, ReaderHeld, at_in, slots_of, state_in_part}
use Rattle.cache_replay.proofs.ActorLines.{changed_again, names_within, still_line}
use Rattle.cache_replay.proofs.Frames.{Changed, part_behind, reader_leaves}
use Rattle.cache_replay.proofs.ReaderLines.{Took, Turns, apart_else, held_reader, reader_ends, reads_none, reads_with, still_held, turns_active}
use Rattle.cache_replay.proofs.Stood.{IsLawful}

-- the actor still has it
next_has : (run : Run) (t : State) (name : List ℕ) (r later : ReaderSeen) → held_by run name ≡ Some (HoldsReader r.reader) → later.reader ≡ r.reader → IsReaderOf t later
    → still_open t (held_by run name) ≡ Some (HoldsReader later.reader)
next_has run t name r later by same keeps =
    ap (still_open t) (by ∙ ap (λ n. Some (HoldsReader n)) (sym same))
    ∙ ap (λ (o : Option ReaderRow). if is_some o then Some (HoldsReader later.reader) else None) keeps.found

-- what follows of an answer
if_then : {X E : Type 0} {P Q : X → Type 0} (result : Result X E) → ((x : X) → P x → Q x) → IfOk result P → IfOk result Q
if_then (Ok x) f h = f x h
if_then (Err e) f h = h

module _ {S W R : Type 0} {c : CallsGhosts S W R} where
  module _ (laws : IsLawful c) (old new : Part S W R c) (before mid after : TableSeen (ActorHolding W R)) (name : List ℕ) (n : ℕ) (r later : ReaderSeen)
      (number : n ≡ number_of_name before.names name) (names : after.names ≡ with_actor before.names name) (taken : Took (slots_of c before) (slots_of c mid) n r)
      (set : Changed (slots_of c mid) (slots_of c after) n (Some (ReaderHeld later))) (active : IsActive old (slots_of c before))
      (leaves : LeavesReader c old.cache new.cache r.reader) (rest : IsAtRest (at_in new)) (page : length new.page.items ≡ length old.page.items)
      (result : Result StepAnswer Stop) (reads : ReadsOnLine c old.cache new.cache r later result) where
    turns : Turns r.reader (state_in_part old) (state_in_part new) (slots_of c before) (slots_of c after) n (Some later)
    turns = record {
      leaves = reader_leaves r.reader (at_in old) (at_in new) leaves.own;
      changed = changed_again (slots_of c before) (slots_of c mid) (slots_of c after) n (Some (ReaderHeld later)) None taken.left set;
      others = apart_else (slots_of c before) n r active.apart taken.had;
      number = reads.same;
    }

    part : IsPart new
    part = part_behind old new active.part_is leaves.goes rest page None (Some r.reader) turns.leaves

    read_by : (run : Run) → PlaysPart run old before → IsReadBy run name (state_in_part old) r
    read_by run plays = record {
      held = reads_with run old before name n number plays r taken.had;
      told = plays.at.told;
      own = plays.at.own;
      reader = (held_reader run old before name n number plays r taken.had).1;
    }

    ends : (run : Run) (said : StepAnswer) → PlaysPart run old before → NextEnds run name (at_in old) (at_in new) later said
        → PartEnds run (step.Next name) old new after said
    ends run said plays (inr pair) = inr pair
    ends run said plays (inl m) =
        reader_ends laws run (step.Next name) name refl old new before after n number names active part leaves.stands plays r.reader (Some later) turns (λ turn. refl)
        (next_has run (state_in_part new) name r later (held_reader run old before name n number plays r taken.had).0 reads.same m.keeps) m.keeps said m.moves

    pub next_line : (now : ℕ) → IfErr result (λ why. why ≡ Memory) → AnswersActor now (step.Next name) old new before after result
    next_line now stop = record {
      active = turns_active old new (slots_of c before) (slots_of c after) n r.reader (Some later) active part turns reads.reader;
      goes = leaves.goes;
      ends = if_then result (λ said next run moment plays. ends run said plays (next run name (read_by run plays) plays.stands)) reads.ends;
      unharmed = λ run plays. reads.unharmed run.streams plays.at.own (read_by run plays).reader;
      counts = if_then result (λ said counts. counts active.part_is.losses) reads.counts;
      stop = stop;
      names = names_within before.names after.names name names;
    }

  -- an actor without a reader
  pub next_idle : (now : ℕ) (part : Part S W R c) (before after : TableSeen (ActorHolding W R)) (name : List ℕ) (n : ℕ) (said : StepAnswer) → said ≡ says.idle
      → n ≡ number_of_name before.names name → after.names ≡ with_actor before.names name
      → ((m : ℕ) → slots_of c after m ≡ slots_of c before m)
      → None ≡ reader_held (slots_of c before n) → IsActive part (slots_of c before) → AnswersActor now (step.Next name) part part before after (Ok said)
  next_idle now part before after name n said is number names same none active =
      subst (λ x. AnswersActor now (step.Next name) part part before after (Ok x)) (sym is)
      (still_line part before after (step.Next name) name refl names same active now says.idle (λ run plays.
      let reads = reads_none run part before name n number plays none in
      record {
        asks = ap (λ (o : Option ℕ). asks.asks_if_has o (λ reader. ReadOn reader ∷ [])) reads;
        holds = still_held run part before name n number plays active;
        streams = λ turn. refl;
        own = λ turn given. subst (IsNextPiece run (state_in_part part) turn) (sym reads) given;
        says = λ turn. ap (λ (o : Option ℕ). says.if_has o (λ reader. says.next_said turn.given (told_in turn.added))) reads;
      }) refl)
