-- A reader that is answered the end was given all.
use Rattle.std.proofs.Common.{◌≡◌, ℕ, ◌-◌, ◌*◌, ◌<◌, List, [], ◌∷◌, ◌++◌, length, take, drop, refl, sym, ◌∙◌, ap, subst, inl, inr}
use Rattle.std.specs.Prelude.{IsSome, Option, Some, None, option_map, unwrap_or}
use Rattle.fragment_table.specs.Table.{TableRow, total_length}
use Rattle.cache_model.specs.declared.answer.NextAnswer.{NextAnswer}
use Rattle.cache_model.specs.declared.answer.NextAnswer.TheVariants as next
use Rattle.cache_model.specs.declared.cause.Cause.{Cause}
use Rattle.cache_model.specs.declared.cause.Cause.TheVariants as cause
use Rattle.cache_model.specs.declared.record.Rec.{Rec}
use Rattle.cache_model.specs.declared.record.Rec.TheVariants as rec
use Rattle.cache_model.specs.State.{State, Row, ReaderRow, reader_of}
use Rattle.cache_model.specs.Verdict.{next_row, reader_verdict, verdict_at_end, verdict_of_fragment}
use Rattle.cache_model.specs.Permit.{End, Permit, ReadOn}
use Rattle.cache_model.specs.Given
use Rattle.cache_model.specs.Legal
use Rattle.cache_model.specs.Legal.{IsQuiet, IsStep, answer_record}
use Rattle.step_laws.proofs.Answered.{end_is_whole, followed_is_closed}
use Rattle.cache_model.proofs.Found.{none_is, number_of, same_some}
use Rattle.script_grammar.specs.declared.answer.StepAnswer.TheVariants as answer
use Rattle.script_grammar.specs.declared.step.Step.TheVariants as step
use Rattle.script_run.specs.Run.{Run, Stream, reader_by}
use Rattle.script_run.specs.Asked.{asks_if_has}
use Rattle.script_run.specs.Turn.{Turn, told_in}
use Rattle.script_run.specs.Answers
use Rattle.script_run.specs.Answers.{broken_said, next_said, step_answer, step_said}
use Rattle.script_run.specs.Own.{ArePayloadsOwn, IsOwnPut, IsOwnReader, IsTableOf, IsTableOfHit}
use Rattle.script_run.specs.Takes.{IsRun, SessionTakes, StepTakes, Takes, run_after}
use Rattle.script_run.proofs.Finding.{found_in}
use Rattle.script_run.proofs.Reading.{kept_is_followed, kept_is_given}
use Rattle.line_laws.specs.Along.{IsOpenAt, KeptAlong}
use Rattle.line_laws.specs.Given.{given_to}
use Rattle.line_laws.specs.Laws.{HasGivenAll}
use Rattle.line_laws.proofs.Fronts.{reader_begun}
use Rattle.line_laws.proofs.Nexts.{GoesOn}
use Rattle.line_laws.proofs.Lines.{OfSteps}
use Rattle.line_laws.proofs.Running.{run_goes, stands_first}

-- ---- the answer

broken_ends_none : (why : Cause) (size : ℕ) → broken_said why ≡ answer.End size → ⊥
broken_ends_none cause.NeverPut size h = cc
broken_ends_none cause.Removed size h = cc
broken_ends_none (cause.Passed place floor unsaved) size h = cc
broken_ends_none (cause.NoMatch count) size h = cc
broken_ends_none (cause.Displaced segment live) size h = cc
broken_ends_none (cause.Aborted writer) size h = cc
broken_ends_none (cause.BeforeOpening serial) size h = cc
broken_ends_none (cause.Unrecorded dropped) size h = cc
broken_ends_none (cause.DeviceFault count) size h = cc
broken_ends_none (cause.Damaged place kept found) size h = cc

verdict_ends : (n : ℕ) (s : State) (r : ReaderRow) (given : List ℕ) (size : ℕ) (a : NextAnswer) → reader_verdict s r ≡ a → next_said given (told_in (answer_record n a ∷ [])) ≡ answer.End size
    → reader_verdict s r ≡ next.Ended size
verdict_ends n s r given size (next.Gave index bytes) verdict h = absurd cc
verdict_ends n s r given size (next.Ended told) verdict h = let same : told ≡ size = cc in verdict ∙ ap next.Ended same
verdict_ends n s r given size (next.Waited cut) verdict h = absurd cc
verdict_ends n s r given size (next.Broke why) verdict h = absurd (broken_ends_none why size h)

trouble_ends_none : (p : Permit) (s : State) (row : Row) (before : List Rec) (why last : Cause) (n : ℕ) (given : List ℕ) (size : ℕ) → Given.Trouble p s row before why
    → next_said given (told_in (before ++ rec.Broke n last ∷ [])) ≡ answer.End size → ⊥
trouble_ends_none p s row before why last n given size (Given.Trouble.faulted count w m) h = broken_ends_none last size h
trouble_ends_none p s row before why last n given size (Given.Trouble.damaged found d) h = broken_ends_none last size h

reading_ends_none : (p : Permit) (s : State) (row : Row) (entry : TableRow) (before : List Rec) (why last : Cause) (n : ℕ) (given : List ℕ) (size : ℕ)
    → Legal.ReadTrouble p s row entry before why → next_said given (told_in (before ++ rec.Broke n last ∷ [])) ≡ answer.End size → ⊥
reading_ends_none p s row entry before why last n given size (Legal.ReadTrouble.troubled b c t) h = trouble_ends_none p s row before why last n given size t h
reading_ends_none p s row entry before why last n given size (Legal.ReadTrouble.mismatched found read unlike) h = broken_ends_none last size h

reading_ends : (n : ℕ) (p : Permit) (s : State) (r : ReaderRow) (before : List Rec) (a : NextAnswer) (given : List ℕ) (size : ℕ) → Legal.IsReading p s r before a
    → next_said given (told_in (before ++ answer_record n a ∷ [])) ≡ answer.End size → reader_verdict s r ≡ next.Ended size
reading_ends n p s r before a given size (Legal.IsReading.verdict x listed) h = verdict_ends n s r given size (reader_verdict s r) refl h
reading_ends n p s r before a given size (Legal.IsReading.trouble entry row b why e live t) h = absurd (reading_ends_none p s row entry before why why n given size t h)

-- the reader is at its end
record IsEnded (n : ℕ) (s : State) (size : ℕ) : Type 0 where
  r : ReaderRow
  found : reader_of s n ≡ Some r
  verdict : reader_verdict s r ≡ next.Ended size

ended_is : (n : ℕ) (p : Permit) (s : State) (added : List Rec) (e : End) (given : List ℕ) (size : ℕ) → Legal.DoesReadOn p s n added e → next_said given (told_in added) ≡ answer.End size → IsEnded n s size
ended_is n p s added e given size (Legal.DoesReadOn.reads_on a m) h = record {
  r = m.r;
  found = m.reading;
  verdict = reading_ends n p s m.r m.before a given size m.right (subst (λ recs. next_said given (told_in recs) ≡ answer.End size) m.is h);
}

-- ---- all was given

-- the put of a table is complete, and its table has all that its writer took
table_told : (s : State) (streams : ℕ → Stream) (put : ℕ) (table : List TableRow) → IsQuiet s → ArePayloadsOwn s streams → IsTableOf s put table → total_length table ≡ length (streams put).bytes
table_told s streams put table quiet own t =
    let p : IsOwnPut s streams t.w = own.puts put t.w t.found in
    let whole : total_length t.w.cuts ≡ length (streams t.w.put).bytes = elim t.complete [ inl closed ↦ p.whole closed | inr pending ↦ none_is (sym quiet ∙ pending) ] in
    ap total_length (sym t.cuts) ∙ (whole ∙ ap (λ k. length (streams k).bytes) (number_of s put t.w t.found))

at_end : (s : State) (r : ReaderRow) (size : ℕ) (table : List TableRow) → next_row s r ≡ None → r.table ≡ Some table → reader_verdict s r ≡ next.Ended size → total_length table ≡ size
at_end s r size table none hit verdict =
    let last : verdict_at_end s r r.table ≡ next.Ended size = subst (λ (o : Option TableRow). unwrap_or (option_map (verdict_of_fragment s r) o) (verdict_at_end s r r.table) ≡ next.Ended size) none verdict in
    let told : next.Ended (total_length table) ≡ next.Ended size = subst (λ (o : Option (List TableRow)). verdict_at_end s r o ≡ next.Ended size) hit last in
    cc

-- the table of a reader that hit something tells the length of all that the writer of its put took
pub hit_told : (n : ℕ) (s : State) (streams : ℕ → Stream) (r : ReaderRow) (table : List TableRow) → r.table ≡ Some table → ArePayloadsOwn s streams → IsQuiet s → reader_of s n ≡ Some r
    → total_length table ≡ length (streams r.put).bytes
hit_told n s streams r table hit own quiet found =
    let o : IsOwnReader s r = found_in (IsOwnReader s) _ s.readers r own.readers found in
    table_told s streams r.put table quiet own (subst (IsTableOfHit s r) hit o.table)

-- and so does the end that is told
pub end_told : (n : ℕ) (s : State) (streams : ℕ → Stream) (r : ReaderRow) (size : ℕ) (o : Option (List TableRow)) → r.table ≡ o → ArePayloadsOwn s streams → IsQuiet s → reader_of s n ≡ Some r
    → reader_verdict s r ≡ next.Ended size → size ≡ length (streams r.put).bytes
end_told n s streams r size (Some table) hit own quiet found verdict = sym (at_end s r size table (end_is_whole s r size verdict) hit verdict) ∙ hit_told n s streams r table hit own quiet found
end_told n s streams r size None follows own quiet found verdict =
    let c = followed_is_closed s r size follows verdict in
    c.1.2 ∙ table_told s streams r.put c.0.cuts quiet own (record { w = c.0; found = c.1.0; cuts = refl; complete = inl c.1.1 })

all_by : (n : ℕ) (s : State) (streams : ℕ → Stream) (r : ReaderRow) (size : ℕ) (o : Option (List TableRow)) → r.table ≡ o → ArePayloadsOwn s streams → IsQuiet s → 0 < r.next → reader_of s n ≡ Some r
    → reader_verdict s r ≡ next.Ended size → take ((r.next - 1) * s.geometry.fragment) (streams r.put).bytes ≡ (streams r.put).bytes
all_by n s streams r size (Some table) hit own quiet first found verdict = kept_is_given s streams n r table own quiet first found hit (end_is_whole s r size verdict)
all_by n s streams r size None follows own quiet first found verdict =
    let c = followed_is_closed s r size follows verdict in
    kept_is_followed s streams r c.0 own quiet first follows c.1.0 c.1.1 (end_is_whole s r size verdict)

-- ---- behind lines

ended_line : (laws : OfSteps) (run : Run) (s : State) (n : ℕ) (actor : List ℕ) (turn : Turn) (size : ℕ) → run.state ≡ Some s → reader_by run actor ≡ Some n
    → StepTakes run turn (step.Next actor) → step_answer run turn (step.Next actor) ≡ answer.End size → IsEnded n s size
ended_line laws run s n actor turn size e by takes said =
    let here : SessionTakes run s turn (step.Next actor) = subst (λ (o : Option State). Takes run turn o (step.Next actor)) e takes in
    let legal : IsStep turn.device s (ReadOn n ∷ []) turn.added turn.refused =
    subst (λ (o : Option ℕ). IsStep turn.device s (asks_if_has o (λ reader. ReadOn reader ∷ [])) turn.added turn.refused) by here.legal in
    let does = laws.one_group turn.device s (ReadOn n) turn.added turn.refused refl legal in
    let there : step_said run turn (Some s) (step.Next actor) ≡ answer.End size = subst (λ (o : Option State). step_said run turn o (step.Next actor) ≡ answer.End size) e said in
    let told : next_said turn.given (told_in turn.added) ≡ answer.End size =
    subst (λ (o : Option ℕ). Answers.if_has o (λ reader. next_said turn.given (told_in turn.added)) ≡ answer.End size) by there in
    ended_is n turn.device s turn.added does.0 turn.given size does.1 told

has_all : (s t : State) (n : ℕ) (r u : ReaderRow) (old now : ℕ → Stream) (given : List ℕ) (size : ℕ) → IsOpenAt s n r → (g : GoesOn n s.geometry.fragment s t old now given u) → g.r ≡ r
    → t.geometry ≡ s.geometry → ArePayloadsOwn t now → IsQuiet t → reader_of t n ≡ Some u → reader_verdict t u ≡ next.Ended size
    → HasGivenAll ((r.next - 1) * s.geometry.fragment) (now r.put).bytes given size
has_all s t n r u old now given size at g first geometry own quiet found verdict =
    let here : IsOpenAt s n g.r = subst (IsOpenAt s n) (sym first) at in
    let last : IsOpenAt t n u = g.opens here in
    let all : take ((u.next - 1) * t.geometry.fragment) (now u.put).bytes ≡ (now u.put).bytes = all_by n t now u size u.table refl own quiet last.first found verdict in
    let put : u.put ≡ r.put = g.put ∙ ap (λ (x : ReaderRow). x.put) first in
    let fragment : t.geometry.fragment ≡ s.geometry.fragment = ap (λ (x : Rattle.tape_base.specs.declared.geometries.Geometry.Geometry). x.fragment) geometry in
    let whole : take ((u.next - 1) * s.geometry.fragment) (now r.put).bytes ≡ (now r.put).bytes =
    subst (λ k. take ((u.next - 1) * s.geometry.fragment) (now k).bytes ≡ (now k).bytes) put (subst (λ f. take ((u.next - 1) * f) (now u.put).bytes ≡ (now u.put).bytes) fragment all) in
    let is : given ≡ drop ((r.next - 1) * s.geometry.fragment) (take ((u.next - 1) * s.geometry.fragment) (now r.put).bytes) =
    subst (λ (x : ReaderRow). given ≡ drop ((x.next - 1) * s.geometry.fragment) (take ((u.next - 1) * s.geometry.fragment) (now x.put).bytes)) first (g.told here).is in
    record {
      is = is ∙ ap (drop ((r.next - 1) * s.geometry.fragment)) whole;
      told = subst (λ k. size ≡ length (now k).bytes) put (end_told n t now u size u.table refl own quiet found verdict);
    }

-- a reader is asked on a session alone
next_stands : (run : Run) (turn : Turn) (actor : List ℕ) (o : Option State) → Takes run turn o (step.Next actor) → IsSome o
next_stands run turn actor None takes = absurd takes
next_stands run turn actor (Some s) takes = refl

pub end_is_all : (laws : OfSteps) (run : Run) (lines : List (List ℕ)) (turns : List Turn) (s : State) (reader : ℕ) (r : ReaderRow) (actor : List ℕ) (turn : Turn) (size : ℕ)
    → IsRun run lines turns → KeptAlong run lines turns → run.state ≡ Some s → IsQuiet s → IsOpenAt s reader r
    → reader_by (run_after run lines turns) actor ≡ Some reader → StepTakes (run_after run lines turns) turn (step.Next actor)
    → step_answer (run_after run lines turns) turn (step.Next actor) ≡ answer.End size
    → HasGivenAll ((r.next - 1) * s.geometry.fragment) ((run_after run lines turns).streams r.put).bytes (given_to reader run lines turns) size
end_is_all laws run lines turns s reader r actor turn size takes along e quiet at by next said =
    let after : Run = run_after run lines turns in
    let all = run_goes laws reader lines turns run s e takes along quiet (reader_begun run s reader r (stands_first run lines turns s e takes along) at.found) (next_stands after turn actor after.state next) in
    let ended : IsEnded reader all.t size = ended_line laws after all.t reader actor turn size all.state by next said in
    let g = all.goes ended.r ended.found in
    has_all s all.t reader r ended.r run.streams after.streams (given_to reader run lines turns) size at g (same_some g.r r (reader_of s reader) g.found at.found)
    all.geometry all.stands.kept all.quiet ended.found ended.verdict
