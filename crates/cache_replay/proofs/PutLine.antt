-- The line of a whole put, on a part.
use Rattle.std.proofs.Common.{◌≡◌, ℕ, ◌≤◌, List, [], arith, subst, refl, inl, length, Ok, Err, Result}
use Rattle.std.specs.Prelude.{IfErr, IfSome, Option, Some, None}
use Rattle.tape_base.specs.declared.keys.Key.{Key}
use Rattle.alternate_vector.specs.Field.{Field}
use Rattle.cache_model.specs.Permit.{Reason}
use Rattle.cache_model.specs.Vectors.{AreTold, IsVectorAs}
use Rattle.call_laws.specs.Untold.{Untold}
use Rattle.cache_model.specs.Contents.{TellsVectors}
use Rattle.call_laws.specs.Progress
use Rattle.call_laws.specs.Progress.{EndsWith}
use Rattle.call_laws.specs.Serves.{ServesFrom}
use Rattle.cache_calls.specs.declared.calls.Calls.{Ghosts as CallsGhosts}
use Rattle.cache_answers.specs.declared.answers.Receipt.{Receipt}
use Rattle.cache_answers.specs.declared.answers.Refusal.{Refusal}
use Rattle.cache_answers.specs.declared.answers.Refusal.TheVariants as refusal
use Rattle.cache_calls.specs.Keeping.{IsAtRest, KeepsUnharmed}
use Rattle.cache_calls.specs.Standing.{StaysStanding}
use Rattle.script_grammar.specs.declared.answer.StepAnswer.{StepAnswer}
use Rattle.script_grammar.specs.declared.step.Step.{Step}
use Rattle.script_grammar.specs.declared.step.Step.TheVariants as step
use Rattle.script_run.specs.Asked.{put_intents}
use Rattle.script_run.specs.Run.{Run}
use Rattle.cache_replay.specs.declared.session.Part.{Part}
use Rattle.cache_replay.specs.declared.stop.Stop.TheVariants.{Memory}
use Rattle.line_calls.specs.Moves.{MovesOrShows}
use Rattle.cache_replay.specs.OneLine.{AnswersPlainly}
use Rattle.line_calls.specs.Standing.{IsToldPlainly, TellsPut}
use Rattle.run_promise.specs.Outline.{count_in}
use Rattle.cache_replay.specs.Replies.{closed_answer, count_of_refusal, receipt_answer}
use Rattle.cache_replay.specs.Putting.{IsSaidAs, PutsWhere, TellsOfPut, progress_with, reason_of}
use Rattle.cache_replay.specs.Session.{IsPart, at_in, state_in_part}
use Rattle.cache_replay.proofs.Fed.{refused_counts}
use Rattle.cache_replay.proofs.Frames.{part_behind, put_leaves}
use Rattle.line_calls.proofs.Whole.{moves_line, serves_whole}

ends_with : (why : Option Reason) → EndsWith (progress_with why) why
ends_with None = Progress.EndsWith.in_full
ends_with (Some why) = Progress.EndsWith.refused why

-- ---- the counts that are told

receipt_counts : (result : Result Receipt Refusal) (n : ℕ) → IfErr result (λ why. count_of_refusal why ≤ n) → IfSome (closed_answer result) (λ said. count_in said ≤ n)
receipt_counts (Ok receipt) n h = zero_below n
  where
    zero_below : (n : ℕ) → 0 ≤ n
    zero_below n = omega arith
receipt_counts (Err why) n h = refused_counts why None n h

err_now : {X E N : Type 0} (P : E → Type 0) (result : Result X E) → N → IfErr result (λ why. N → P why) → IfErr result P
err_now P (Ok x) n h = tt
err_now P (Err why) n h = h n

module _ {S W R : Type 0} {c : CallsGhosts S W R} (now : ℕ) (old new : Part S W R c) (key : Key) (body : List ℕ) (request response : List Field)
    (part : IsPart old) (rest : IsAtRest (at_in new)) where
  abbrev line : Step
  line = step.Put key body request response

  abbrev put : ℕ
  put = (state_in_part old).next_put

  -- what it was asked has come there, and this is told
  moves : (result : Result Receipt Refusal)
      → ServesFrom (Untold (at_in new).device IsVectorAs) now (at_in old) (at_in new)
      (put_intents (state_in_part old) key body request response)
      (progress_with (reason_of put result)) AreTold (IsSaidAs put result)
      → (run : Run) → run.now ≡ now → AreTold (state_in_part old) → MovesOrShows run line (at_in old) (at_in new) (receipt_answer result)
  moves result serves run moment told =
      moves_line run line (at_in old) (at_in new) now part.plain moment {known = IsSaidAs put result} (put_intents (state_in_part old) key body request response)
      (reason_of put result) [] (receipt_answer result) refl refl (serves_whole (reason_of put result) (ends_with (reason_of put result)) part.plain rest.quiet told serves) refl
      (λ known. known)

  puts : (result : Result Receipt Refusal) → PutsWhere now (at_in old) (at_in new) key body request response result
      → IfSome (closed_answer result) (λ said. (run : Run) → run.now ≡ now → AreTold (state_in_part old) → MovesOrShows run line (at_in old) (at_in new) said)
  puts (Ok receipt) serves = moves (Ok receipt) serves
  puts (Err refusal.TooManyWriters) serves = moves (Err refusal.TooManyWriters) serves
  puts (Err refusal.TooManyFragments) serves = moves (Err refusal.TooManyFragments) serves
  puts (Err (refusal.VectorTooLarge bytes)) serves = moves (Err (refusal.VectorTooLarge bytes)) serves
  puts (Err (refusal.Lost index why)) serves = moves (Err (refusal.Lost index why)) serves
  puts (Err (refusal.DeviceFault count)) serves = moves (Err (refusal.DeviceFault count)) serves
  puts (Err (refusal.Exhausted number)) serves = moves (Err (refusal.Exhausted number)) serves
  puts (Err (refusal.Memory e)) serves = tt
  puts (Err refusal.Sealed) serves = absurd serves
  puts (Err refusal.NoSuchWriter) serves = absurd serves

  module _ (given : Result Receipt Refusal) (page : length new.page.items ≡ length old.page.items) (keeps : KeepsUnharmed c.at c.holds old.cache new.cache)
      (tells : TellsOfPut (at_in old) (at_in new) put given)
      (stands : StaysStanding c.stands (λ contents. TellsVectors contents × TellsPut (state_in_part new) put body contents)
      old.cache new.cache) where
    told_so : StaysStanding c.stands (IsToldPlainly (state_in_part new) (Some put) line) old.cache new.cache
    told_so contents told before = stands contents (told.vectors, told.cut) before

    -- it is answered
    pub put_said : (said : StepAnswer) → closed_answer given ≡ Some said → PutsWhere now (at_in old) (at_in new) key body request response given
        → AnswersPlainly now line (Some put) None old new (Ok said)
    put_said said is serves =
        let leaves = put_leaves put (at_in old) (at_in new) tells.own in
        record {
          part = part_behind old new part keeps.goes_on rest page (Some put) None leaves;
          goes = keeps.goes_on;
          leaves = leaves;
          stands = told_so;
          ends = λ run moment told own before.
              subst (λ o. IfSome o (λ x. (r : Run) → r.now ≡ now → AreTold (state_in_part old) → MovesOrShows r line (at_in old) (at_in new) x)) is
              (puts given serves) run moment told;
          unharmed = λ run moment told own before. inl keeps.unharmed;
          counts = subst (λ o. IfSome o (λ x. count_in x ≤ (at_in new).device.faults)) is
              (receipt_counts given (at_in new).device.faults (err_now (λ why. count_of_refusal why ≤ (at_in new).device.faults) given part.losses tells.counts));
          stop = tt;
        }

    -- or memory was wanting
    pub put_wants : AnswersPlainly now line (Some put) None old new (Err Memory)
    put_wants =
        let leaves = put_leaves put (at_in old) (at_in new) tells.own in
        record {
          part = part_behind old new part keeps.goes_on rest page (Some put) None leaves;
          goes = keeps.goes_on;
          leaves = leaves;
          stands = told_so;
          ends = tt;
          unharmed = λ run moment told own before. inl keeps.unharmed;
          counts = tt;
          stop = refl;
        }
