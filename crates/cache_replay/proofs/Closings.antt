-- What a line that closes makes of a writer.
use Rattle.std.proofs.Common.{◌≡◌, ℕ, ◌+◌, ◌-◌, ◌≤◌, List, [], ◌∷◌, ◌++◌, length, drop, refl, sym, ◌∙◌, ap, subst, arith, Bool, true, false, inl, inr, ◌⊎◌, append-nil}
use Rattle.std.proofs.Common.{length-append, length-drop}
use Rattle.std.specs.Prelude.{Option, Some, None, IfSome, if◌then◌else◌, option_map, unwrap_or, Result, Ok, Err}
use Rattle.std.proofs.lemmas.Bool.{eq-eqb}
use Rattle.std.proofs.lemmas.List.{drop_all}
use Rattle.std.proofs.lemmas.List.Sums.{sum_by-append}
use Rattle.tape_base.specs.declared.keys.Key.{Key}
use Rattle.fragment_table.specs.Table.{TableRow, total_length}
use Rattle.cache_model.specs.declared.cause.Cause.{Cause}
use Rattle.cache_model.specs.declared.cause.Cause.TheVariants as cause
use Rattle.cache_model.specs.declared.record.Rec.{Rec}
use Rattle.cache_model.specs.State.{PutRow, State, after_all, fragment_piece, put_of}
use Rattle.cache_model.specs.Verdict.{cause_of_piece, cuts_of}
use Rattle.cache_model.specs.Permit.{Commit, Exhausted, Faulted, Finish, Intent, Lost, Permit, Reason, TooLarge, Weigh, to_do}
use Rattle.cache_model.specs.Legal.{IsQuiet, MayGrow, is_writing}
use Rattle.cache_model.specs.Vectors.{AreTold, IsVectorAs}
use Rattle.call_laws.specs.Untold.{Untold}
use Rattle.call_laws.specs.Moments.{At, Facts}
use Rattle.call_laws.specs.Progress as progress
use Rattle.call_laws.specs.Progress.{AllDone, EndsWith, Progress, Stops}
use Rattle.call_laws.specs.Serves.{ServesFrom}
use Rattle.cache_answers.specs.declared.answers.Receipt.{Receipt}
use Rattle.cache_answers.specs.declared.answers.Refusal.{Refusal}
use Rattle.cache_answers.specs.declared.answers.Refusal.TheVariants as refusal
use Rattle.cache_calls.specs.Actors.{WriterSeen}
use Rattle.cache_calls.specs.Asked.{close_asks, ending_asks, progress_at, rest_asks, rest_rows, rows_at_close}
use Rattle.cache_calls.specs.Keeping.{plain_setting, state_at}
use Rattle.cache_calls.specs.Writers.{Closes as ClosesAs, ClosesOpen, CutsRest, KeepsRest, SealsWhere, TellsComplete}
use Rattle.script_grammar.specs.declared.step.Step.TheVariants as step
use Rattle.script_grammar.specs.declared.answer.Refused.TheVariants as refused
use Rattle.script_grammar.specs.declared.answer.StepAnswer.{StepAnswer}
use Rattle.script_grammar.specs.declared.answer.StepAnswer.TheVariants as answer
use Rattle.script_run.specs.Run.{Run, Stream, gathered_of}
use Rattle.script_run.specs.Answers as says
use Rattle.script_run.specs.Answers.{put_said, said}
use Rattle.script_run.specs.Asked as asks
use Rattle.script_run.specs.Asked.{asked, close_intents, count_with, rest_intents}
use Rattle.script_run.specs.Behind.{of_put, sealed_by, still_open, streams_closed}
use Rattle.script_run.specs.Losses.{NoLossIsAFault}
use Rattle.run_promise.specs.Outline.{count_in, count_of_cause}
use Rattle.cache_replay.specs.Plays.{IsStreamOf}
use Rattle.cache_replay.specs.Replies.{closed_answer, receipt_answer}
use Rattle.cache_replay.specs.Session.{IsOpenWriter}
use Rattle.cache_replay.specs.WriterLines.{ClosesLine, IsPlayed, WriterDoes}
use Rattle.cache_replay.proofs.Counts.{at_most, loss_counts}
use Rattle.line_calls.proofs.Endings.{AreClosing, EndsInCommit, IsEnded, ended_along, key_of, rows_then}
use Rattle.line_calls.proofs.Whole.{serves_whole}
use Rattle.cache_replay.proofs.WriterSteps.{LeftOpen, cuts_at, gathered_at, has_put, held_open, key_at, of_left, writer_ends}

-- ---- what is asked

count_rest : (rows : List TableRow) (rest : List ℕ) → count_with (length rows) rest ≡ length (rows ++ rest_rows rest)
count_rest rows [] = ap length (sym (append-nil rows))
count_rest rows (byte ∷ rest) = sym (length-append rows (rest_rows (byte ∷ rest)))

same_rest : (w : WriterSeen) (rest : List ℕ) → rest_intents w.put (length w.cuts) rest ≡ rest_asks w rest
same_rest w [] = refl
same_rest w (byte ∷ rest) = refl

pub same_asks : (w : WriterSeen) → close_intents w.put (length w.cuts) w.gathered ≡ ending_asks w
same_asks w =
    ap (λ (is : List Intent). Weigh w.put (length w.gathered) ∷ (is ++ Finish w.put (count_with (length w.cuts) w.gathered) ∷ Commit w.put ∷ [])) (same_rest w w.gathered)
    ∙ ap (λ n. Weigh w.put (length w.gathered) ∷ (rest_asks w w.gathered ++ Finish w.put n ∷ Commit w.put ∷ [])) (count_rest w.cuts w.gathered)

-- an open put is asked for its ending
pub asks_ending : (s : State) (w : WriterSeen) → is_writing s w.put ≡ true → close_asks s w ≡ ending_asks w
asks_ending s w writing = ap (λ (b : Bool). if b then ending_asks w else []) writing

abbrev end_asks : WriterSeen → List Intent
end_asks w = Finish w.put (length (rows_at_close w)) ∷ Commit w.put ∷ []

closing_rest : (w : WriterSeen) (rest : List ℕ) → AreClosing w.put (rest_asks w rest ++ end_asks w)
closing_rest w [] = (refl, (refl, tt))
closing_rest w (byte ∷ rest) = (refl, (refl, (refl, tt)))

commit_rest : (w : WriterSeen) (rest : List ℕ) → EndsInCommit w.put (Weigh w.put (length w.gathered) ∷ (rest_asks w rest ++ end_asks w))
commit_rest w [] = refl
commit_rest w (byte ∷ rest) = refl

rows_rest : (w : WriterSeen) (rows : List TableRow) (rest : List ℕ) → rows_then (rest_asks w rest ++ end_asks w) rows ≡ rows ++ rest_rows rest
rows_rest w rows [] = sym (append-nil rows)
rows_rest w rows (byte ∷ rest) = refl

-- ---- what stands behind it

total_rest : (rest : List ℕ) → total_length (rest_rows rest) ≡ length rest
total_rest [] = refl
total_rest (byte ∷ rest) = omega arith

pub total_at_close : (w : WriterSeen) → total_length (rows_at_close w) ≡ total_length w.cuts + length w.gathered
total_at_close w = sum_by-append (λ (r : TableRow). r.length) w.cuts (rest_rows w.gathered) ∙ ap (λ n. total_length w.cuts + n) (total_rest w.gathered)

pub all_taken : (stream : Stream) (w : WriterSeen) → IsStreamOf stream w → length stream.bytes ≡ total_length w.cuts + length w.gathered
all_taken stream w of =
    let sum : length w.gathered ≡ length stream.bytes - total_length w.cuts = ap length of.gathered ∙ length-drop (total_length w.cuts) stream.bytes in
    omega (arith, sum, of.within)

-- a writer that was refused is sealed, and has what it took
sealed_stream : (stream : Stream) (w last : WriterSeen) → IsStreamOf stream w → KeepsRest w last ⊎ CutsRest w last → last.sealed ≡ true
    → IsStreamOf (record { bytes = stream.bytes; sealed = true }) last
sealed_stream stream w last of (inl keeps) sealed = record {
  gathered = keeps.gathered ∙ (of.gathered ∙ ap (λ (rows : List TableRow). drop (total_length rows) stream.bytes) (sym keeps.cuts));
  within = subst (λ (rows : List TableRow). total_length rows ≤ length stream.bytes) (sym keeps.cuts) of.within;
  sealed = sealed;
}
sealed_stream stream w last of (inr cuts) sealed =
    let total : total_length last.cuts ≡ length stream.bytes = ap total_length cuts.cuts ∙ (total_at_close w ∙ sym (all_taken stream w of)) in
    record {
      gathered = cuts.empty ∙ sym (drop_all (total_length last.cuts) stream.bytes (omega (arith, total)));
      within = omega (arith, total);
      sealed = sealed;
    }

pub rested_put : (w last : WriterSeen) → KeepsRest w last ⊎ CutsRest w last → last.put ≡ w.put
rested_put w last (inl keeps) = keeps.put
rested_put w last (inr cuts) = cuts.put

clashes : {P : Type 0} (b : Bool) → b ≡ false → b ≡ true → P
clashes b nope yea = let clash : true ≡ false = sym yea ∙ nope in cc

-- the cause of a fragment's loss, by the key of its writer
pub cause_at : (t : State) (put index : ℕ) (key : Key) (o : Option PutRow) → option_map (λ (p : PutRow). p.key) o ≡ Some key
    → unwrap_or (option_map (λ (w : PutRow). cause_of_piece t (fragment_piece w.key put index)) o) cause.NeverPut ≡ cause_of_piece t (fragment_piece key put index)
cause_at t put index key None h = cc
cause_at t put index key (Some row) h = let same : row.key ≡ key = cc in ap (λ k. cause_of_piece t (fragment_piece k put index)) same

-- the put behind what closing asks, as far as that came
pub closing_ended : (p : Permit) (s : State) (w : WriterSeen) (added : List Rec) (why : Option Reason) → IsOpenWriter s w
    → MayGrow p s (to_do (ending_asks w)) added (record { intents = []; refused = why })
    → IsEnded why (after_all s added) w.put (rows_at_close w) (key_of s w.put)
closing_ended p s w added why own grows =
    let along = ended_along grows w.put (ending_asks w) why refl refl (refl, closing_rest w w.gathered) (commit_rest w w.gathered) in
    subst (λ rows. IsEnded why (after_all s added) w.put rows (key_of s w.put))
    (rows_rest w (cuts_of s w.put) w.gathered ∙ ap (λ (rows : List TableRow). rows ++ rest_rows w.gathered) (cuts_at s w own)) along

-- the answer to a put that is complete
pub complete_said : (t : State) (w : WriterSeen) (receipt : Receipt) (key : Option Key) → TellsComplete w receipt → IsEnded None t w.put (rows_at_close w) key
    → put_said t w.put ≡ receipt_answer (Ok receipt)
complete_said t w receipt key whole end =
    ap (λ (rows : List TableRow). answer.Put w.put (total_length rows) (length rows)) end.1
    ∙ (ap (λ q. answer.Put q (total_length (rows_at_close w)) (length (rows_at_close w))) (sym whole.put)
    ∙ (ap (λ n. answer.Put receipt.put n (length (rows_at_close w))) (sym whole.bytes) ∙ ap (answer.Put receipt.put receipt.length) (sym whole.fragments)))

-- ---- the line

module _ (now : ℕ) (a b : At) (plain : a.setting ≡ plain_setting) (quiet : IsQuiet (state_at b)) (w last : WriterSeen) (left : Option WriterSeen)
    (own : IsOpenWriter (state_at a) w)
    (rested : KeepsRest w last ⊎ CutsRest w last) (open_left : LeftOpen (state_at b) last left) where
  abbrev s : State
  s = state_at a

  abbrev t : State
  t = state_at b

  -- where the put ended
  abbrev Ended : Option Reason → Type 0
  Ended why = IsEnded why t w.put (rows_at_close w) (key_of s w.put)

  closing_asks : (run : Run) (name : List ℕ) → IsPlayed run name s w → asked run s (step.Close name) ≡ ending_asks w
  closing_asks run name played =
      ap (λ o. asks.asks_if_has o (asks.closing run s)) (has_put run name s w played)
      ∙ (ap (λ (rows : List TableRow). close_intents w.put (length rows) (gathered_of run s w.put)) (cuts_at s w own)
      ∙ (ap (λ (bytes : List ℕ). close_intents w.put (length w.cuts) bytes) (gathered_at run name s w played own) ∙ same_asks w))

  closed_moves : {o : Progress} {known : Facts} (why : Option Reason) (said_ : StepAnswer) → EndsWith o why
      → ServesFrom (Untold b.device IsVectorAs) now a b (ending_asks w) o AreTold known
      → (Ended why → (stream : Stream) → IsStreamOf stream w → is_writing t w.put ≡ true → IsStreamOf (sealed_by why stream) last)
      → (Ended why → said t None why (put_said t w.put) ≡ said_)
      → WriterDoes now a b ClosesLine w left (Some said_)
  closed_moves {known = known} why said_ ends serves stream is_said = λ run name moment played.
      let has = has_put run name s w played in
      let put_is = rested_put w last rested in
      let x : Stream = sealed_by why (run.streams w.put) in
      let at : of_put run (Rattle.script_run.specs.Run.put_written_by run name) (streams_closed run why) last.put ≡ x =
      ap (λ o. of_put run o (streams_closed run why) last.put) has ∙ ap (λ (b : Bool). if b then x else run.streams last.put) (eq-eqb last.put w.put put_is) in
      writer_ends run name a b now plain moment ClosesLine (ending_asks w) why left said_ (closing_asks run name played)
      (serves_whole why ends plain quiet played.told serves)
      (λ legal there behind.
      let end_ : Ended why = subst (λ x. IsEnded why x w.put (rows_at_close w) (key_of s w.put)) (sym there) (closing_ended _ s w _ why own legal.grows) in
      record {
        held = ap (still_open t) played.held ∙ held_open t w.put last left put_is open_left;
        stream = of_left (λ v. IsStreamOf (of_put run (Rattle.script_run.specs.Run.put_written_by run name) (streams_closed run why) v.put) v) t last left open_left
            (λ o. subst (λ y. IsStreamOf y last) (sym at) (stream end_ (run.streams w.put) played.stream (ap (is_writing t) (sym put_is) ∙ o)));
        says = ap (λ o. says.if_has o (λ put. said t None why (put_said t put))) has ∙ is_said end_;
      })

  -- each answer
  closes_open : {known : Facts} (result : Result Receipt Refusal) → ClosesOpen a b w result
      → ServesFrom (Untold b.device IsVectorAs) now a b (ending_asks w) (progress_at w.put (ending_asks w) result) AreTold known → SealsWhere w last result
      → WriterDoes now a b ClosesLine w left (closed_answer result)
  closes_open (Ok receipt) how serves seals = closed_moves None (answer.Put receipt.put receipt.length receipt.fragments) progress.EndsWith.in_full serves
      (λ end_ stream of o. clashes (is_writing t w.put) end_.0 o) (λ end_. complete_said t w receipt (key_of s w.put) how end_)
  closes_open (Err (refusal.VectorTooLarge size)) how serves seals = closed_moves (Some (TooLarge w.put size)) _ (progress.EndsWith.refused (TooLarge w.put size)) serves
      (λ end_ stream of o. clashes (is_writing t w.put) end_ o) (λ end_. refl)
  closes_open (Err (refusal.Lost index why)) how serves seals = closed_moves (Some (Lost w.put index)) _ (progress.EndsWith.refused (Lost w.put index)) serves
      (λ end_ stream of o. clashes (is_writing t w.put) end_.0 o)
      (λ end_. ap (λ (c : Cause). answer.Refused (refused.Lost index c) None) (cause_at t w.put index w.key (put_of t w.put) (end_.1 ∙ key_at s w own) ∙ sym how))
  closes_open (Err (refusal.DeviceFault count)) how serves seals = closed_moves (Some (Faulted count)) _ (progress.EndsWith.refused (Faulted count)) serves
      (λ end_ stream of o. sealed_stream stream w last of rested seals) (λ end_. refl)
  closes_open (Err (refusal.Exhausted number)) how serves seals = closed_moves (Some Exhausted) _ (progress.EndsWith.refused Exhausted) serves
      (λ end_ stream of o. sealed_stream stream w last of rested seals) (λ end_. refl)
  closes_open (Err (refusal.Memory e)) how serves seals = tt
  closes_open (Err refusal.NoSuchWriter) how serves seals = absurd how
  closes_open (Err refusal.TooManyWriters) how serves seals = absurd how
  closes_open (Err refusal.TooManyFragments) how serves seals = absurd how
  closes_open (Err refusal.Sealed) how serves seals = absurd how

-- it was open
pub closes_as_open : (a b : At) (w : WriterSeen) (result : Result Receipt Refusal) → is_writing (state_at a) w.put ≡ true → ClosesAs a b w result → ClosesOpen a b w result
closes_as_open a b w (Err refusal.NoSuchWriter) writing how = clashes (is_writing (state_at a) w.put) how.0 writing
closes_as_open a b w (Ok receipt) writing how = how.1
closes_as_open a b w (Err (refusal.VectorTooLarge size)) writing how = how.1
closes_as_open a b w (Err (refusal.Lost index why)) writing how = how.1
closes_as_open a b w (Err (refusal.DeviceFault count)) writing how = how.1
closes_as_open a b w (Err (refusal.Exhausted number)) writing how = how.1
closes_as_open a b w (Err (refusal.Memory e)) writing how = how.1
closes_as_open a b w (Err refusal.TooManyWriters) writing how = how.1
closes_as_open a b w (Err refusal.TooManyFragments) writing how = how.1
closes_as_open a b w (Err refusal.Sealed) writing how = how.1

pub closes_line : {known : Facts} (now : ℕ) (a b : At) → a.setting ≡ plain_setting → IsQuiet (state_at b) → (w last : WriterSeen) (left : Option WriterSeen)
    → IsOpenWriter (state_at a) w
    → KeepsRest w last ⊎ CutsRest w last → LeftOpen (state_at b) last left → (result : Result Receipt Refusal) → ClosesAs a b w result
    → ServesFrom (Untold b.device IsVectorAs) now a b (close_asks (state_at a) w) (progress_at w.put (close_asks (state_at a) w) result) AreTold known → SealsWhere w last result
    → WriterDoes now a b ClosesLine w left (closed_answer result)
closes_line {known} now a b plain quiet w last left own rested open_left result how serves seals =
    closes_open now a b plain quiet w last left own rested open_left result (closes_as_open a b w result own.writing how)
    (subst (λ is. ServesFrom (Untold b.device IsVectorAs) now a b is (progress_at w.put is result) AreTold known) (asks_ending (state_at a) w own.writing) serves) seals

-- ---- the count that is told

pub closed_counts : (a b : At) (w : WriterSeen) (result : Result Receipt Refusal) → NoLossIsAFault (state_at b) → ClosesOpen a b w result
    → IfSome (closed_answer result) (λ said. count_in said ≤ b.device.faults)
closed_counts a b w (Ok receipt) none how = omega arith
closed_counts a b w (Err (refusal.VectorTooLarge size)) none how = omega arith
closed_counts a b w (Err (refusal.Lost index why)) none how = at_most (count_of_cause why) b.device.faults (ap count_of_cause how ∙ loss_counts (state_at b) _ none)
closed_counts a b w (Err (refusal.DeviceFault count)) none how = how.reached
closed_counts a b w (Err (refusal.Exhausted number)) none how = omega arith
closed_counts a b w (Err (refusal.Memory e)) none how = tt
closed_counts a b w (Err refusal.NoSuchWriter) none how = absurd how
closed_counts a b w (Err refusal.TooManyWriters) none how = absurd how
closed_counts a b w (Err refusal.TooManyFragments) none how = absurd how
closed_counts a b w (Err refusal.Sealed) none how = absurd how

-- what holds of an answer where something does
pub some_when : {X N : Type 0} (P : X → Type 0) (o : Option X) → (N → IfSome o P) → IfSome o (λ x. N → P x)
some_when P None h = tt
some_when P (Some x) h = h
