-- A complete read gave what the writer of one put took, which the records have as the answer.
use Rattle.std.proofs.Common.{◌≡◌, ℕ, List, [], ◌∷◌, length, refl, sym, ◌∙◌, ap, inl, inr}
use Rattle.std.specs.Prelude.{Option, Some, None}
use Rattle.tape_base.specs.declared.keys.Key.{Key}
use Rattle.alternate_vector.specs.Field.{Field}
use Rattle.cache_model.specs.declared.cause.Cause.{Cause}
use Rattle.cache_model.specs.declared.cause.Cause.TheVariants as cause
use Rattle.cache_model.specs.declared.answer.ReadAnswer.{ReadAnswer}
use Rattle.cache_model.specs.declared.answer.ReadAnswer.TheVariants as read
use Rattle.cache_model.specs.State.{State, after_all}
use Rattle.cache_model.specs.Permit.{Look}
use Rattle.cache_model.specs.Legal.{IsStep}
use Rattle.script_grammar.specs.declared.step.Step.{Step}
use Rattle.script_grammar.specs.declared.step.Step.TheVariants as step
use Rattle.script_grammar.specs.declared.answer.StepAnswer.TheVariants as answer
use Rattle.script_run.specs.Run.{Holding, Run, fresh, held_by}
use Rattle.script_run.specs.Asked
use Rattle.script_run.specs.Turn.{Turn, lookup_in, told_in}
use Rattle.script_run.specs.Answers.{if_free, lookup_said, miss_said, step_answer, step_said}
use Rattle.script_run.specs.Takes.{Takes, run_after}
use Rattle.script_run.proofs.Hitting.{IsAnswer, hit_of, step_answers}
use Rattle.reader_laws.proofs.Hits.{got_by}
use Rattle.line_laws.specs.Laws
use Rattle.line_laws.specs.Laws.{AnswersFollow, AnswersHit, FollowIsAsked, GotIsPut, HitIsAsked, LengthIsTold}
use Rattle.headline.specs.Account.{Account, HistoryTells, RunLogs}
use Rattle.headline.specs.Reads.{AsksFor, IsChosenPut, IsFollowed, IsStoredPut, IsWholePut, gets, opens}
use Rattle.account_laws.proofs.Places.{told_line}

-- ---- the put that answers a lookup

no_miss_hits : (why : Cause) (put size : ℕ) → miss_said why ≡ answer.Hit put size → ⊥
no_miss_hits (cause.DeviceFault count) put size h = cc
no_miss_hits _ put size h = cc

lookup_hits : (t : State) (reader : ℕ) (lookup : Option ReadAnswer) (put size : ℕ) → lookup_said t reader lookup ≡ answer.Hit put size → lookup ≡ Some (read.Hit put)
lookup_hits t reader None put size h = absurd cc
lookup_hits t reader (Some (read.Hit hit)) put size h = let same : hit ≡ put = cc in ap (λ n. Some (read.Hit n)) same
lookup_hits t reader (Some (read.Follow writer)) put size h = absurd cc
lookup_hits t reader (Some (read.Miss why)) put size h = absurd (no_miss_hits why put size h)

module _ (run : Run) (turn : Turn) (key : Key) (request : List Field) (put size : ℕ) where
  pub chosen_of : (s : State) → run.state ≡ Some s → IsAnswer s key request (read.Hit put) → IsChosenPut run key request put
  chosen_of s e (inl verdict) =
      let h = hit_of s key request put verdict in
      record { s = s; state = e; alternate = h.a; found = h.found; put_is = h.put_is }
  chosen_of s e (inr miss) = let no : read.Hit put ≡ read.Miss miss.0 = miss.1 in absurd cc

  pub get_chosen : (bytes : List ℕ) (o : Option State) → run.state ≡ o → Takes run turn o (step.Get key request) → step_said run turn o (step.Get key request) ≡ answer.Got put size bytes → IsChosenPut run key request put
  get_chosen bytes None e takes said = absurd takes
  get_chosen bytes (Some s) e takes said =
      chosen_of s e (step_answers turn.device s 0 key request _ turn.added turn.refused (read.Hit put) takes.legal (got_by turn.given (told_in turn.added) (lookup_in turn.added) put size bytes said).hit)

  free_chosen : (s t : State) (actor : ℕ) (held : Option Holding) → run.state ≡ Some s → IsStep turn.device s (Asked.asks_if_free held (Look actor key request ∷ [])) turn.added turn.refused
      → if_free held (lookup_said t s.next_reader (lookup_in turn.added)) ≡ answer.Hit put size → IsChosenPut run key request put
  free_chosen s t actor None e legal said =
      chosen_of s e (step_answers turn.device s actor key request [] turn.added turn.refused (read.Hit put) legal (lookup_hits t s.next_reader (lookup_in turn.added) put size said))
  free_chosen s t actor (Some holding) e legal said = absurd cc

  pub open_chosen : (name : List ℕ) (o : Option State) → run.state ≡ o → Takes run turn o (step.OpenRead name key request) → step_said run turn o (step.OpenRead name key request) ≡ answer.Hit put size → IsChosenPut run key request put
  open_chosen name None e takes said = absurd takes
  open_chosen name (Some s) e takes said = free_chosen s (after_all s turn.added) _ (held_by run name) e takes.legal said

-- ---- whole reads

pub got_is_whole : (got : GotIsPut) (hit : HitIsAsked) (told : LengthIsTold) (l : RunLogs) (a : Account l) (lines : List (List ℕ)) (key : Key) (request : List Field) (put size : ℕ) (bytes : List ℕ)
    → HistoryTells a lines (step.Get key request) (answer.Got put size bytes) → IsWholePut a.turns lines key request put size bytes
got_is_whole got hit told l a lines key request put size bytes at =
    let asks = step.Get key request in
    let f = told_line l a lines asks (answer.Got put size bytes) at in
    let run : Run = run_after fresh lines f.earlier in
    let answers : AnswersHit run f.turn key request put size asks = Laws.AnswersHit.got bytes (sym f.is) in
    let taken : bytes ≡ (run.streams put).bytes = got run f.turn key request put size bytes f.takes (sym f.is) in
    record {
      did = record { earlier = f.earlier; turn = f.turn; later = f.later; turns_are = f.turns_are; legal = f.legal };
      taken = taken;
      sized = told lines f.earlier f.turn asks key request put size f.legal f.takes answers ∙ ap length (sym taken);
      put_for = hit lines f.earlier f.turn asks key request put size f.legal f.takes answers;
      chosen = get_chosen run f.turn key request put size bytes run.state refl f.takes (sym f.is);
    }

pub hit_is_whole : (hit : HitIsAsked) (told : LengthIsTold) (l : RunLogs) (a : Account l) (lines : List (List ℕ)) (name : List ℕ) (key : Key) (request : List Field) (put size : ℕ)
    → HistoryTells a lines (step.OpenRead name key request) (answer.Hit put size) → IsStoredPut a.turns lines key request put size
hit_is_whole hit told l a lines name key request put size at =
    let asks = step.OpenRead name key request in
    let f = told_line l a lines asks (answer.Hit put size) at in
    let answers : AnswersHit (run_after fresh lines f.earlier) f.turn key request put size asks = Laws.AnswersHit.opens name (sym f.is) in
    record {
      did = record { earlier = f.earlier; turn = f.turn; later = f.later; turns_are = f.turns_are; legal = f.legal };
      sized = told lines f.earlier f.turn asks key request put size f.legal f.takes answers;
      put_for = hit lines f.earlier f.turn asks key request put size f.legal f.takes answers;
      chosen = open_chosen (run_after fresh lines f.earlier) f.turn key request put size name (run_after fresh lines f.earlier).state refl f.takes (sym f.is);
    }

follows : (run : Run) (turn : Turn) (asks : Step) (key : Key) (request : List Field) (put : ℕ) → AsksFor key request asks → step_answer run turn asks ≡ answer.Follow put → AnswersFollow run turn key request put asks
follows run turn asks key request put gets said = Laws.AnswersFollow.gets said
follows run turn asks key request put (opens name) said = Laws.AnswersFollow.opens name said

pub follow_was_put : (law : FollowIsAsked) (l : RunLogs) (a : Account l) (lines : List (List ℕ)) (asks : Step) (key : Key) (request : List Field) (put : ℕ)
    → AsksFor key request asks → HistoryTells a lines asks (answer.Follow put) → IsFollowed a.turns lines key request put
follow_was_put law l a lines asks key request put asking at =
    let f = told_line l a lines asks (answer.Follow put) at in
    record {
      did = record { earlier = f.earlier; turn = f.turn; later = f.later; turns_are = f.turns_are; legal = f.legal };
      put_for = law lines f.earlier f.turn asks key request put f.legal f.takes (follows (run_after fresh lines f.earlier) f.turn asks key request put asking (sym f.is));
    }
