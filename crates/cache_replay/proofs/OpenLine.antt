-- An actor opens a reader.
use Rattle.std.proofs.Common.{◌≡◌, ℕ, List, [], ◌∷◌, length, refl, sym, ◌∙◌, ap, subst, true, false, inl, inr, Ok}
use Rattle.std.specs.Prelude.{Option, Some, None, IfSome, ◌==◌, find, if◌then◌else◌, is_some, option_and_then, option_map, unwrap_or}
use Rattle.tape_base.specs.declared.actors.Actor.{Actor}
use Rattle.tape_base.specs.declared.keys.Key.{Key}
use Rattle.fragment_table.specs.Table.{TableRow, total_length}
use Rattle.alternate_vector.specs.Field.{Field}
use Rattle.actor_table.specs.Table.{TableSeen, number_of_name, with_actor}
use Rattle.cache_model.specs.State.{ReaderRow, State, after_all, reader_of}
use Rattle.cache_model.specs.Permit.{Look}
use Rattle.cache_model.specs.Vectors.{AreTold, IsVectorAs}
use Rattle.call_laws.specs.Untold.{Untold}
use Rattle.cache_model.specs.Contents.{AnyContents}
use Rattle.call_laws.specs.Progress.{AllDone, in_full}
use Rattle.call_laws.specs.Serves.{ServesFrom}
use Rattle.call_laws.specs.Whole.{IsWholeStep}
use Rattle.call_laws.proofs.Joined.{state_behind}
use Rattle.cache_calls.specs.declared.calls.Calls.{Ghosts as CallsGhosts}
use Rattle.cache_answers.specs.declared.answers.Opened.{Opened}
use Rattle.cache_answers.specs.declared.answers.Opened.TheVariants as opened
use Rattle.cache_calls.specs.Actors.{IsOpenReader, IsReaderOf, ReaderSeen}
use Rattle.cache_model.specs.Subjects.{IsOfReader}
use Rattle.cache_calls.specs.Adds.{AddsOnly}
use Rattle.cache_calls.specs.Keeping.{IsAtRest, KeepsUnharmed}
use Rattle.cache_calls.specs.Readers.{HasLooked, IfReader, TellsReader, answer_in, length_in, open_adds}
use Rattle.cache_calls.specs.Standing.{StaysStanding}
use Rattle.script_grammar.specs.declared.step.Step.TheVariants as step
use Rattle.script_grammar.specs.declared.answer.StepAnswer.{StepAnswer}
use Rattle.script_grammar.specs.declared.answer.StepAnswer.TheVariants as answer
use Rattle.script_run.specs.Run.{Run, HoldsReader, HoldsWriter, held_by}
use Rattle.script_run.specs.Run as running
use Rattle.script_run.specs.Turn.{lookup_in}
use Rattle.script_run.specs.Asked as asks
use Rattle.script_run.specs.Answers as says
use Rattle.script_run.specs.Behind.{open_reader_at, or_else}
use Rattle.cache_replay.specs.declared.session.ActorHolding.{ActorHolding}
use Rattle.cache_replay.specs.declared.session.Part.{Part}
use Rattle.line_calls.specs.Moves.{MovesOrShows}
use Rattle.cache_replay.specs.OneLine.{AnswersActor}
use Rattle.cache_replay.specs.Plays.{IsHeldAs, PartEnds, PlaysPart}
use Rattle.cache_replay.specs.ReaderLines.{as_held, opened_answer, reader_opened}
use Rattle.cache_replay.specs.Session.{HoldingSeen, IsActive, IsPart, ReaderHeld, WriterHeld, at_in, slots_of, state_in_part}
use Rattle.cache_replay.proofs.ActorLines.{names_within, still_line}
use Rattle.cache_replay.proofs.Counts.{missed_tells}
use Rattle.cache_replay.proofs.Frames.{Changed, part_behind, reader_leaves, same_added}
use Rattle.cache_replay.proofs.Free.{no_next_reader, others_read_older}
use Rattle.line_calls.proofs.Lookups.{miss_reads, open_finds}
use Rattle.cache_replay.proofs.ReaderLines.{Turns, as_run, holds_none, none_some, reader_ends, turns_active}
use Rattle.cache_replay.proofs.Stood.{IsLawful}
use Rattle.line_calls.proofs.Whole.{left_by, moves_line, serves_whole, shows_line, shows_piece}

-- ---- what opened

module _ {R : Type 0} (reading : R → ReaderSeen) where
  -- the reader that was opened, as contracts see it
  abbrev pub seen_opened : Opened R → Option ReaderSeen
  seen_opened given = option_map reading (reader_opened given)

  has_number : (number : ℕ) (given : Opened R) → TellsReader reading number given → IfSome (seen_opened given) (λ r. r.reader ≡ number)
  has_number number (opened.Hit reader put length) tells = tells.0
  has_number number (opened.Follow reader put) tells = tells.0
  has_number number (opened.Miss why) tells = tt

  if_opened : (P : ReaderSeen → Type 0) (given : Opened R) → IfReader (λ r. P (reading r)) given → IfSome (seen_opened given) P
  if_opened P (opened.Hit reader put length) h = h
  if_opened P (opened.Follow reader put) h = h
  if_opened P (opened.Miss why) h = tt

  -- the reader that stands behind the records
  reader_stands : (t : State) (number : ℕ) (r : ReaderSeen) → r.reader ≡ number → IsReaderOf t r → open_reader_at t number ≡ Some (HoldsReader r.reader)
  reader_stands t number r is own =
      ap (open_reader_at t) (sym is) ∙ ap (λ (o : Option ReaderRow). if is_some o then Some (HoldsReader r.reader) else None) own.found

  opened_has : (s t : State) (who : Actor) (key : Key) (request : List Field) (given : Opened R) → t ≡ after_all s (open_adds s who key request (answer_in given))
      → reader_of s s.next_reader ≡ None → TellsReader reading s.next_reader given → IfReader (λ r. IsReaderOf t (reading r)) given
      → open_reader_at t s.next_reader ≡ as_run (seen_opened given)
  opened_has s t who key request (opened.Hit reader put length) behind free tells own = reader_stands t s.next_reader (reading reader) tells.0 own
  opened_has s t who key request (opened.Follow reader put) behind free tells own = reader_stands t s.next_reader (reading reader) tells.0 own
  opened_has s t who key request (opened.Miss why) behind free tells own =
      ap (λ (o : Option ReaderRow). if is_some o then Some (HoldsReader s.next_reader) else None)
      (ap (find (λ (x : ReaderRow). x.reader == s.next_reader))
      (ap (λ (u : State). u.readers) behind ∙ miss_reads s who key request why) ∙ free)

  -- ---- what is answered

  table_length : (o : Option (List TableRow)) (size : ℕ) → option_map total_length o ≡ Some size → total_length (unwrap_or o []) ≡ size
  table_length None size e = absurd (none_some size e)
  table_length (Some rows) size e = let is : total_length rows ≡ size = cc in is

  hit_length_is : (t : State) (number : ℕ) (r : ReaderSeen) (size : ℕ) → r.reader ≡ number → length_in r ≡ Some size → IsReaderOf t r → says.hit_length t number ≡ size
  hit_length_is t number r size is long own =
      ap (says.hit_length t) (sym is)
      ∙ (ap (λ (o : Option ReaderRow). total_length (unwrap_or (option_and_then (λ (row : ReaderRow). row.table) o) [])) own.found ∙ table_length r.table size long)

  opened_says : (t : State) (number : ℕ) (given : Opened R) → TellsReader reading number given → IfReader (λ r. IsReaderOf t (reading r)) given
      → says.lookup_said t number (Some (answer_in given)) ≡ opened_answer given
  opened_says t number (opened.Hit reader put length) tells own = ap (answer.Hit put) (hit_length_is t number (reading reader) length tells.0 tells.2 own)
  opened_says t number (opened.Follow reader put) tells own = refl
  opened_says t number (opened.Miss why) tells own = refl

pub none_there : (o : Option HoldingSeen) → is_some o ≡ false → o ≡ None
none_there None e = refl
none_there (Some h) e = let no : true ≡ false = e in cc

-- an actor that has something
some_held : (run : Run) (s : State) (n : ℕ) (o : Option HoldingSeen) → is_some o ≡ true → IsHeldAs run s n o → (h : running.Holding) × (run.held n ≡ Some h)
some_held run s n None some own = let no : false ≡ true = some in cc
some_held run s n (Some (WriterHeld w)) some own = (HoldsWriter w.put, own.0)
some_held run s n (Some (ReaderHeld r)) some own = (HoldsReader r.reader, own.0)

-- ---- the line

module _ {S W R : Type 0} {c : CallsGhosts S W R} where
  module _ (laws : IsLawful c) (old new : Part S W R c) (before after : TableSeen (ActorHolding W R)) (name : List ℕ) (n : ℕ) (who : Actor) (key : Key) (request : List Field) (given : Opened R)
      (number : n ≡ number_of_name before.names name) (who_is : who.0 ≡ n) (names : after.names ≡ with_actor before.names name) (free : slots_of c before n ≡ None)
      (changed : Changed (slots_of c before) (slots_of c after) n (as_held (seen_opened c.reading given)))
      (active : IsActive old (slots_of c before)) (keeps : KeepsUnharmed c.at c.holds old.cache new.cache) (rest : IsAtRest (at_in new))
      (stays : StaysStanding c.stands AnyContents old.cache new.cache) (page : length new.page.items ≡ length old.page.items)
      (looked : HasLooked c.reading (at_in old) (at_in new) who key request given) (own : AddsOnly (IsOfReader (state_in_part old).next_reader) (at_in old) (at_in new))
      (serves : (now : ℕ) → ServesFrom (Untold (at_in new).device IsVectorAs) now (at_in old) (at_in new) (Look who.0 key request ∷ []) AllDone AreTold
      (λ t. IfReader (λ r. IsReaderOf t (c.reading r)) given)) where
    turns : Turns (state_in_part old).next_reader (state_in_part old) (state_in_part new) (slots_of c before) (slots_of c after) n (seen_opened c.reading given)
    turns = record {
      leaves = reader_leaves (state_in_part old).next_reader (at_in old) (at_in new) own;
      changed = changed;
      others = others_read_older (at_in old) active.part_is.rest (slots_of c before) active.held n;
      number = has_number c.reading (state_in_part old).next_reader given looked.tells;
    }

    part : IsPart new
    part = part_behind old new active.part_is keeps.goes_on rest page None (Some (state_in_part old).next_reader) turns.leaves

    behind : state_in_part new ≡ after_all (state_in_part old) (open_adds (state_in_part old) who key request (answer_in given))
    behind = state_behind (at_in old).kept (at_in new).kept (open_adds (state_in_part old) who key request (answer_in given)) looked.adds

    module _ (run : Run) (plays : PlaysPart run old before) where
      nobody : held_by run name ≡ None
      nobody = holds_none run old before name n number plays free

      asked_is : asks.asked run (state_in_part old) (step.OpenRead name key request) ≡ Look who.0 key request ∷ []
      asked_is =
          ap (λ (o : Option running.Holding). asks.asks_if_free o (Look (number_of_name run.actors name) key request ∷ [])) nobody
          ∙ ap (λ m. Look m key request ∷ []) (ap (λ all. number_of_name all name) plays.names ∙ (sym number ∙ sym who_is))

      moves : (w : IsWholeStep (Untold (at_in new).device IsVectorAs) run.now (at_in old) (at_in new) (Look who.0 key request ∷ []) None (λ t. IfReader (λ r. IsReaderOf t (c.reading r)) given))
          → IfReader (λ r. IsReaderOf (state_in_part new) (c.reading r)) given
          → MovesOrShows run (step.OpenRead name key request) (at_in old) (at_in new) (opened_answer given)
      moves w table =
          moves_line run (step.OpenRead name key request) (at_in old) (at_in new) run.now active.part_is.plain refl (Look who.0 key request ∷ []) None [] (opened_answer given)
          asked_is refl w refl (λ known.
          ap (λ (o : Option running.Holding). says.if_free o (says.lookup_said (state_in_part new) (state_in_part old).next_reader (lookup_in w.added))) nobody
          ∙ (ap (says.lookup_said (state_in_part new) (state_in_part old).next_reader)
          (ap lookup_in (same_added (at_in old).kept (at_in new).kept w.added (open_adds (state_in_part old) who key request (answer_in given)) w.happens.adds looked.adds)
          ∙ open_finds (state_in_part old) who key request (answer_in given))
          ∙ opened_says c.reading (state_in_part new) (state_in_part old).next_reader given looked.tells table))

      ends_with : (w : IsWholeStep (Untold (at_in new).device IsVectorAs) run.now (at_in old) (at_in new) (Look who.0 key request ∷ []) None (λ t. IfReader (λ r. IsReaderOf t (c.reading r)) given))
          → PartEnds run (step.OpenRead name key request) old new after (opened_answer given)
      ends_with w = elim w.ends [
        | inr pair ↦ inr (shows_line run (step.OpenRead name key request) (at_in old) (at_in new) run.now active.part_is.plain refl (Look who.0 key request ∷ []) w.calls w.added
            asked_is refl w.happens.past (left_by run (step.OpenRead name key request) (at_in old) (at_in new) run.now active.part_is.plain refl w.calls w.added w.happens)
            (shows_piece run.streams (at_in new).device _ (state_in_part old) (Look who.0 key request ∷ []) w.added pair))
        | inl v ↦ elim (moves w v.1) [
          | inr pair ↦ inr pair
          | inl m ↦
              reader_ends laws run (step.OpenRead name key request) name refl old new before after n number names active part stays plays (state_in_part old).next_reader
              (seen_opened c.reading given) turns (λ turn. refl)
              (ap (λ (o : Option running.Holding). or_else o (open_reader_at (state_in_part new) (state_in_part old).next_reader)) nobody
              ∙ opened_has c.reading (state_in_part old) (state_in_part new) who key request given behind (no_next_reader (at_in old) active.part_is.rest) looked.tells v.1)
              (if_opened c.reading (IsReaderOf (state_in_part new)) given v.1) (opened_answer given) m
        ]
      ]

      ends : PartEnds run (step.OpenRead name key request) old new after (opened_answer given)
      ends = ends_with (serves_whole None in_full active.part_is.plain rest.quiet plays.at.told (serves run.now))

    pub open_line : (now : ℕ) (said : StepAnswer) → said ≡ opened_answer given → AnswersActor now (step.OpenRead name key request) old new before after (Ok said)
    open_line now said is = subst (λ x. AnswersActor now (step.OpenRead name key request) old new before after (Ok x)) (sym is) (record {
      active = turns_active old new (slots_of c before) (slots_of c after) n (state_in_part old).next_reader (seen_opened c.reading given) active part turns
          (if_opened c.reading (IsOpenReader (state_in_part new)) given looked.reader);
      goes = keeps.goes_on;
      ends = λ run moment plays. ends run plays;
      unharmed = λ run plays. keeps.unharmed;
      counts = missed_tells (at_in old) (at_in new) key given active.part_is.losses looked.counted;
      stop = tt;
      names = names_within before.names after.names name names;
    })

  -- an actor that has something
  pub open_busy : (now : ℕ) (part : Part S W R c) (before after : TableSeen (ActorHolding W R)) (name : List ℕ) (key : Key) (request : List Field) (n : ℕ) (said : StepAnswer)
      → said ≡ says.busy → n ≡ number_of_name before.names name → after.names ≡ with_actor before.names name
      → ((m : ℕ) → slots_of c after m ≡ slots_of c before m) → is_some (slots_of c before n) ≡ true → IsActive part (slots_of c before)
      → AnswersActor now (step.OpenRead name key request) part part before after (Ok said)
  open_busy now part before after name key request n said is number names same some active =
      subst (λ x. AnswersActor now (step.OpenRead name key request) part part before after (Ok x)) (sym is)
      (still_line part before after (step.OpenRead name key request) name refl names same active now says.busy (λ run plays.
      let s : State = state_in_part part in
      let has = some_held run s n (slots_of c before n) some (plays.at.held n) in
      let by : held_by run name ≡ Some has.0 = ap run.held (ap (λ all. number_of_name all name) plays.names ∙ sym number) ∙ has.1 in
      record {
        asks = ap (λ (o : Option running.Holding). asks.asks_if_free o (Look (number_of_name run.actors name) key request ∷ [])) by;
        holds = ap (λ (o : Option running.Holding). or_else o (open_reader_at s s.next_reader)) by ∙ sym by;
        streams = λ turn. refl;
        own = λ turn given. given;
        says = λ turn. ap (λ (o : Option running.Holding). says.if_free o (says.lookup_said s s.next_reader (lookup_in turn.added))) by;
      }) refl)
