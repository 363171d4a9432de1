-- What a line that opens a writer does.
use Rattle.std.proofs.Common.{◌≡◌, ℕ, List, [], ◌∷◌, refl, sym, ◌∙◌, ap, subst, arith, Bool, true, false, cond}
use Rattle.std.specs.Prelude.{Option, Some, None, ◌==◌, find, if◌then◌else◌, option_map, unwrap_or}
use Rattle.std.proofs.lemmas.Bool.{eq-eqb}
use Rattle.std.proofs.lemmas.List.{drop_all}
use Rattle.tape_base.specs.declared.keys.Key.{Key}
use Rattle.tape_base.specs.declared.actors.Actor.{Actor}
use Rattle.fragment_table.specs.Table.{total_length}
use Rattle.alternate_vector.specs.Field.{Field}
use Rattle.actor_table.specs.Table.{number_of_name}
use Rattle.cache_model.specs.declared.record.Rec.{Rec}
use Rattle.cache_model.specs.State.{PutRow, State, opened_put, put_of, state_after}
use Rattle.cache_model.specs.Verdict.{is_open}
use Rattle.cache_model.specs.Permit.{Exhausted, Intent, ManyWriters, Reason, Write}
use Rattle.cache_model.specs.Legal.{IsQuiet, is_writing}
use Rattle.call_laws.specs.Moments.{At}
use Rattle.call_laws.specs.Progress as progress
use Rattle.call_laws.specs.Progress.{AllDone, Progress, Stops}
use Rattle.call_laws.specs.Serves.{ServesTold}
use Rattle.call_laws.proofs.Joined.{state_behind}
use Rattle.cache_answers.specs.declared.answers.Refusal.{Refusal}
use Rattle.cache_answers.specs.declared.answers.Refusal.TheVariants as refusal
use Rattle.cache_calls.specs.Actors.{IsWriterOf, WriterSeen}
use Rattle.cache_calls.specs.Adds.{IsAsItWas}
use Rattle.cache_calls.specs.Asked.{refused_at}
use Rattle.cache_calls.specs.Keeping.{IsAtRest, plain_setting, state_at}
use Rattle.cache_calls.specs.Writers.{HasBegun, OpensNone, opened_writer_record}
use Rattle.script_grammar.specs.declared.step.Step.TheVariants as step
use Rattle.script_grammar.specs.declared.answer.StepAnswer.{StepAnswer}
use Rattle.script_grammar.specs.declared.answer.StepAnswer.TheVariants as answer
use Rattle.script_run.specs.Run.{Run, HoldsWriter, held_by, no_stream}
use Rattle.script_run.specs.Run.{Holding as Held}
use Rattle.script_run.specs.Answers as says
use Rattle.script_run.specs.Asked as asks
use Rattle.script_run.specs.Asked.{asked}
use Rattle.script_run.specs.Behind.{or_else, streams_opened, writer_at}
use Rattle.cache_replay.specs.Plays.{IsStreamOf}
use Rattle.cache_replay.specs.Replies.{refused_answer}
use Rattle.cache_replay.specs.WriterLines.{OpenDoes, OpensLine}
use Rattle.cache_replay.proofs.Free.{next_is_free}
use Rattle.line_calls.proofs.Whole.{serves_whole}
use Rattle.cache_replay.proofs.WriterSteps.{writer_ends}

-- ---- a put that has begun

module _ (s : State) (who : Actor) (key : Key) (request response : List Field) (pin : ℕ) where
  abbrev opened : Rec
  opened = opened_writer_record s who key request response pin

  abbrev t : State
  t = state_after s opened

  abbrev row : PutRow
  row = opened_put who.0 s.next_put key request response pin

  found : put_of t s.next_put ≡ Some row
  found = ap (λ (b : Bool). cond b (Some row) (find (λ (p : PutRow). p.put == s.next_put) s.puts)) (eq-eqb s.next_put s.next_put refl)

  pub writes_it : is_writing t s.next_put ≡ true
  writes_it = ap (λ (o : Option PutRow). unwrap_or (option_map is_open o) false) found

  pub nothing_cut : (w : WriterSeen) → w.put ≡ s.next_put → IsWriterOf t w → w.cuts ≡ []
  nothing_cut w is own = sym (own row (ap (put_of t) is ∙ found) refl).cuts_are

new_stream : (w : WriterSeen) → w.cuts ≡ [] → w.gathered ≡ [] → w.sealed ≡ false → IsStreamOf no_stream w
new_stream w rows none open_ =
    let total : total_length w.cuts ≡ 0 = ap total_length rows in
    record { gathered = none ∙ sym (drop_all (total_length w.cuts) [] (omega arith)); within = omega (arith, total); sealed = open_ }

abbrev free_asks : Option Held → ℕ → Key → List Field → List Field → ℕ → List Intent
free_asks o n key request response pin = asks.asks_if_free o (Write n key request response pin ∷ [])

opening_asks : (run : Run) (name : List ℕ) (s : State) (who : Actor) (key : Key) (request response : List Field) (pin : ℕ) → held_by run name ≡ None
    → who.0 ≡ number_of_name run.actors name
    → asked run s (step.OpenWrite name key pin request response) ≡ Write who.0 key request response pin ∷ []
opening_asks run name s who key request response pin none is =
    ap (λ o. free_asks o (number_of_name run.actors name) key request response pin) none ∙ ap (λ n. Write n key request response pin ∷ []) (sym is)

module _ (a b : At) (plain : a.setting ≡ plain_setting) (quiet : IsQuiet (state_at b)) (who : Actor) (key : Key) (request response : List Field) (pin : ℕ) where
  abbrev is : List Intent
  is = Write who.0 key request response pin ∷ []

  -- it opens
  pub opens : (w : WriterSeen) → HasBegun a b (opened_writer_record (state_at a) who key request response pin) w → ((now : ℕ) → ServesTold now a b is AllDone)
      → OpenDoes a b who.0 (OpensLine key pin request response) (Some w) (Some (answer.Writer w.put))
  opens w begun serves = λ run name free whose told.
      let s : State = state_at a in
      let t : State = state_at b in
      let there : t ≡ state_after s (opened_writer_record s who key request response pin) = state_behind a.kept b.kept (opened_writer_record s who key request response pin ∷ []) begun.adds in
      let writing : is_writing t s.next_put ≡ true = ap (λ x. is_writing x s.next_put) there ∙ writes_it s who key request response pin in
      let rows : w.cuts ≡ [] = nothing_cut s who key request response pin w begun.put (subst (λ x. IsWriterOf x w) there begun.writer) in
      let at : streams_opened run s (held_by run name) w.put ≡ no_stream =
      ap (λ o. streams_opened run s o w.put) free ∙ ap (λ (b : Bool). if b then no_stream else run.streams w.put) (eq-eqb w.put s.next_put begun.put) in
      writer_ends run name a b run.now plain refl (OpensLine key pin request response) is None (Some w) (answer.Writer w.put)
      (opening_asks run name s who key request response pin free whose)
      (serves_whole None progress.EndsWith.in_full plain quiet told (serves run.now))
      (λ legal behind known. record {
        held = ap (λ o. or_else o (writer_at t s.next_put)) free
            ∙ (ap (λ (b : Bool). if b then Some (HoldsWriter s.next_put) else None) writing ∙ ap (λ (n : ℕ). Some (HoldsWriter n)) (sym begun.put));
        stream = subst (λ x. IsStreamOf x w) (sym at) (new_stream w rows begun.empty begun.unsealed);
        says = ap (λ o. says.if_free o (answer.Writer s.next_put)) free ∙ ap answer.Writer (sym begun.put);
      })

  -- it is refused
  refused_by : (why : Reason) (said : StepAnswer) → IsAtRest a → IsAsItWas a b
      → ((now : ℕ) → ServesTold now a b is (Stops why)) → says.refusal_said (state_at b) None why ≡ said
      → OpenDoes a b who.0 (OpensLine key pin request response) None (Some said)
  refused_by why said rest same serves is_said = λ run name free whose told.
      let s : State = state_at a in
      let t : State = state_at b in
      let none : is_writing t s.next_put ≡ false = ap (λ k. is_writing (Rattle.cache_model.specs.Kept.state_of k) s.next_put) same ∙ next_is_free a rest in
      writer_ends run name a b run.now plain refl (OpensLine key pin request response) is (Some why) None said
      (opening_asks run name s who key request response pin free whose)
      (serves_whole (Some why) (progress.EndsWith.refused why) plain quiet told (serves run.now))
      (λ legal behind known. record {
        held = ap (λ o. or_else o (writer_at t s.next_put)) free ∙ ap (λ (b : Bool). if b then Some (HoldsWriter s.next_put) else None) none;
        stream = tt;
        says = ap (λ o. says.if_free o (says.refusal_said t None why)) free ∙ is_said;
      })

  pub not_opened : (why : Refusal) → IsAtRest a → IsAsItWas a b → OpensNone (state_at a) why
      → ((now : ℕ) → ServesTold now a b is (refused_at (state_at a).next_put is why))
      → OpenDoes a b who.0 (OpensLine key pin request response) None (refused_answer why None)
  not_opened refusal.TooManyWriters rest same none serves = refused_by ManyWriters _ rest same serves refl
  not_opened (refusal.Exhausted number) rest same none serves = refused_by Exhausted _ rest same serves refl
  not_opened (refusal.Memory e) rest same none serves = tt
  not_opened _ rest same none serves = absurd none
