-- An actor closes its reader.
use Rattle.std.proofs.Common.{◌≡◌, ℕ, List, [], ◌∷◌, length, refl, sym, ◌∙◌, ap, subst, Bool, cond, inl, inr, arith, Ok}
use Rattle.std.specs.Prelude.{Option, Some, None, if◌then◌else◌, is_some}
use Rattle.std.proofs.lemmas.Bool.{eq-eqb}
use Rattle.actor_table.specs.Table.{TableSeen, number_of_name, with_actor}
use Rattle.cache_model.specs.declared.record.Rec.TheVariants as rec
use Rattle.cache_model.specs.State.{ReaderRow, State, reader_of, state_after}
use Rattle.cache_model.specs.Permit.{StopReading}
use Rattle.cache_model.proofs.ByNumber.{find-without}
use Rattle.cache_model.specs.Contents.{AnyContents}
use Rattle.call_laws.specs.Progress.{AllDone, in_full}
use Rattle.call_laws.specs.Serves.{ServesTold}
use Rattle.call_laws.proofs.Joined.{state_behind}
use Rattle.cache_calls.specs.declared.calls.Calls.{Ghosts as CallsGhosts}
use Rattle.cache_calls.specs.Actors.{ReaderSeen}
use Rattle.cache_model.specs.Subjects.{IsOfReader}
use Rattle.cache_calls.specs.Adds.{AddsAll, AddsOnly}
use Rattle.cache_calls.specs.Keeping.{IsAtRest, KeepsUnharmed}
use Rattle.cache_calls.specs.Standing.{StaysStanding}
use Rattle.script_grammar.specs.declared.step.Step.TheVariants as step
use Rattle.script_grammar.specs.declared.answer.StepAnswer.{StepAnswer}
use Rattle.script_grammar.specs.declared.answer.StepAnswer.TheVariants as answer
use Rattle.script_run.specs.Run.{Run, HoldsReader, held_by}
use Rattle.script_run.specs.Asked as asks
use Rattle.script_run.specs.Answers as says
use Rattle.script_run.specs.Behind.{still_open}
use Rattle.cache_replay.specs.declared.session.ActorHolding.{ActorHolding}
use Rattle.cache_replay.specs.declared.session.Part.{Part}
use Rattle.line_calls.specs.Moves.{MovesOrShows}
use Rattle.cache_replay.specs.OneLine.{AnswersActor}
use Rattle.cache_replay.specs.Plays.{PartEnds, PlaysPart}
use Rattle.cache_replay.specs.ReaderLines.{reader_held}
use Rattle.cache_replay.specs.Session.{IsActive, IsPart, at_in, slots_of, state_in_part}
use Rattle.cache_replay.proofs.ActorLines.{names_within, still_line}
use Rattle.cache_replay.proofs.Frames.{part_behind, reader_leaves}
use Rattle.cache_replay.proofs.ReaderLines.{Took, Turns, apart_else, held_reader, reader_ends, reads_none, reads_with, still_held, turns_active}
use Rattle.cache_replay.proofs.Stood.{IsLawful}
use Rattle.line_calls.proofs.Whole.{moves_line, serves_whole}

-- it is closed then
closed_is_none : (s : State) (reader : ℕ) → reader_of (state_after s (rec.ReadClosed reader)) reader ≡ None
closed_is_none s reader =
    find-without (λ (x : ReaderRow). x.reader) reader reader s.readers ∙ ap (λ (b : Bool). cond b None (reader_of s reader)) (eq-eqb reader reader refl)

closed_has : (run : Run) (s : State) (name : List ℕ) (reader : ℕ) → held_by run name ≡ Some (HoldsReader reader)
    → still_open (state_after s (rec.ReadClosed reader)) (held_by run name) ≡ None
closed_has run s name reader by =
    ap (still_open (state_after s (rec.ReadClosed reader))) by ∙ ap (λ (o : Option ReaderRow). if is_some o then Some (HoldsReader reader) else None) (closed_is_none s reader)

module _ {S W R : Type 0} {c : CallsGhosts S W R} where
  module _ (laws : IsLawful c) (old new : Part S W R c) (before after : TableSeen (ActorHolding W R)) (name : List ℕ) (n : ℕ) (r : ReaderSeen)
      (number : n ≡ number_of_name before.names name) (names : after.names ≡ with_actor before.names name) (taken : Took (slots_of c before) (slots_of c after) n r)
      (active : IsActive old (slots_of c before)) (keeps : KeepsUnharmed c.at c.holds old.cache new.cache) (rest : IsAtRest (at_in new))
      (stays : StaysStanding c.stands AnyContents old.cache new.cache) (page : length new.page.items ≡ length old.page.items)
      (adds : AddsAll (rec.ReadClosed r.reader ∷ []) (at_in old) (at_in new)) (own : AddsOnly (IsOfReader r.reader) (at_in old) (at_in new))
      (serves : (now : ℕ) → ServesTold now (at_in old) (at_in new) (StopReading r.reader ∷ []) AllDone) where
    turns : Turns r.reader (state_in_part old) (state_in_part new) (slots_of c before) (slots_of c after) n None
    turns = record {
      leaves = reader_leaves r.reader (at_in old) (at_in new) own;
      changed = taken.left;
      others = apart_else (slots_of c before) n r active.apart taken.had;
      number = tt;
    }

    part : IsPart new
    part = part_behind old new active.part_is keeps.goes_on rest page None (Some r.reader) turns.leaves

    moves : (run : Run) → PlaysPart run old before → MovesOrShows run (step.Done name) (at_in old) (at_in new) answer.Done
    moves run plays =
        let reads = reads_with run old before name n number plays r taken.had in
        moves_line run (step.Done name) (at_in old) (at_in new) run.now active.part_is.plain refl (StopReading r.reader ∷ []) None [] answer.Done
        (ap (λ (o : Option ℕ). asks.asks_if_has o (λ reader. StopReading reader ∷ [])) reads) refl
        (serves_whole None in_full active.part_is.plain rest.quiet plays.at.told (serves run.now)) refl
        (λ known. ap (λ (o : Option ℕ). says.if_has o (λ reader. answer.Done)) reads)

    ends : (run : Run) → PlaysPart run old before → PartEnds run (step.Done name) old new after answer.Done
    ends run plays = elim (moves run plays) [
      | inr pair ↦ inr pair
      | inl m ↦
          reader_ends laws run (step.Done name) name refl old new before after n number names active part stays plays r.reader None turns (λ turn. refl)
          (ap (λ t. still_open t (held_by run name)) (state_behind (at_in old).kept (at_in new).kept (rec.ReadClosed r.reader ∷ []) adds)
          ∙ closed_has run (state_in_part old) name r.reader (held_reader run old before name n number plays r taken.had).0) tt
          answer.Done m
    ]

    pub done_line : (now : ℕ) → AnswersActor now (step.Done name) old new before after (Ok answer.Done)
    done_line now = record {
      active = turns_active old new (slots_of c before) (slots_of c after) n r.reader None active part turns tt;
      goes = keeps.goes_on;
      ends = λ run moment plays. ends run plays;
      unharmed = λ run plays. keeps.unharmed;
      counts = omega arith;
      stop = tt;
      names = names_within before.names after.names name names;
    }

  -- an actor without a reader
  pub done_idle : (now : ℕ) (part : Part S W R c) (before after : TableSeen (ActorHolding W R)) (name : List ℕ) (n : ℕ) (said : StepAnswer) → said ≡ says.idle
      → n ≡ number_of_name before.names name → after.names ≡ with_actor before.names name
      → ((m : ℕ) → slots_of c after m ≡ slots_of c before m)
      → None ≡ reader_held (slots_of c before n) → IsActive part (slots_of c before) → AnswersActor now (step.Done name) part part before after (Ok said)
  done_idle now part before after name n said is number names same none active =
      subst (λ x. AnswersActor now (step.Done name) part part before after (Ok x)) (sym is)
      (still_line part before after (step.Done name) name refl names same active now says.idle (λ run plays.
      let reads = reads_none run part before name n number plays none in
      record {
        asks = ap (λ (o : Option ℕ). asks.asks_if_has o (λ reader. StopReading reader ∷ [])) reads;
        holds = still_held run part before name n number plays active;
        streams = λ turn. refl;
        own = λ turn given. given;
        says = λ turn. ap (λ (o : Option ℕ). says.if_has o (λ reader. answer.Done)) reads;
      }) refl)
