-- The length that is told of what a line hits is that of all that the put's writer took.
use Rattle.std.proofs.Common.{◌≡◌, ℕ, ◌+◌, List, [], ◌∷◌, ◌++◌, length, refl, sym, ◌∙◌, ap, subst, inl, inr, ◌⊎◌, Bool, true, false, cond}
use Rattle.std.specs.Prelude.{Option, Some, None, option_and_then, option_map, unwrap_or, ◌==◌}
use Rattle.std.specs.List.{AllByRecursion}
use Rattle.std.proofs.lemmas.Option.{same_Some}
use Rattle.tape_base.specs.declared.keys.Key.{Key}
use Rattle.fragment_table.specs.Table.{TableRow, total_length}
use Rattle.alternate_vector.specs.Field.{Field}
use Rattle.cache_model.specs.declared.answer.NextAnswer.{NextAnswer}
use Rattle.cache_model.specs.declared.answer.NextAnswer.TheVariants as next
use Rattle.cache_model.specs.declared.answer.ReadAnswer.{ReadAnswer}
use Rattle.cache_model.specs.declared.answer.ReadAnswer.TheVariants as read
use Rattle.cache_model.specs.declared.cause.Cause.{Cause}
use Rattle.cache_model.specs.declared.record.Rec.{Rec}
use Rattle.cache_model.specs.declared.record.Rec.TheVariants as rec
use Rattle.cache_model.specs.State.{State, Row, ReaderRow, after_all, reader_of, state_after}
use Rattle.cache_model.specs.Verdict.{reader_verdict}
use Rattle.cache_model.specs.Permit.{End, Stays, Done, Fails, Look, Permit, ReadAll, Reason, StopReading, Work, work_after}
use Rattle.cache_model.specs.Given
use Rattle.cache_model.specs.Legal
use Rattle.cache_model.specs.Legal.{Advances, IsQuiet, IsStep, MayGrow, nothing, more, answer_record}
use Rattle.step_laws.specs.StepLaws.{OneGroup}
use Rattle.cache_model.proofs.Found.{none_is, same_some}
use Rattle.cache_model.proofs.Steps.{First, all_append, first_of, none_left}
use Rattle.actor_table.specs.Table.{number_of_name as number_in}
use Rattle.script_grammar.specs.declared.answer.StepAnswer.TheVariants as answer
use Rattle.script_grammar.specs.declared.line.LineAnswer.TheVariants as line
use Rattle.script_grammar.specs.declared.step.Step.{Step}
use Rattle.script_grammar.specs.declared.step.Step.TheVariants as step
use Rattle.script_run.specs.Run.{Run, Stream, fresh, held_by}
use Rattle.script_run.specs.Asked.{get_intents}
use Rattle.script_run.specs.Turn.{Turn, is_told, later, lookup_in, told_in}
use Rattle.script_run.specs.Answers.{hit_length, step_said}
use Rattle.script_run.specs.Behind.{after_step, behind}
use Rattle.script_run.specs.Own.{ArePayloadsOwn}
use Rattle.script_run.specs.Takes.{IsRun, StepTakes, Takes, run_after}
use Rattle.script_run.proofs.OnlyReading.{reads_keep}
use Rattle.line_laws.specs.Along.{StandsWhere}
use Rattle.line_laws.specs.Laws
use Rattle.line_laws.specs.Laws.{AnswersHit}
use Rattle.reader_laws.proofs.Ending.{end_told, hit_told}
use Rattle.reader_laws.proofs.Hits.{IsGot, OpensHit, free_hit, got_by, look_hit}
use Rattle.line_laws.proofs.Keeping.{gave_reader}
use Rattle.line_laws.proofs.Standing.{Keeps, KeepsIn, OfKept, keeps_after, reading_keeps}

-- ---- the ends that records tell

module _ (total : ℕ) where
  -- an end that the record tells has this length
  abbrev TellsEnd : Rec → Type 0
  TellsEnd r = (reader size : ℕ) → is_told r ≡ Some (rec.Ended reader size) → size ≡ total

  abbrev AllTell : List Rec → Type 0
  AllTell recs = AllByRecursion TellsEnd recs

  told_by : (reader size : ℕ) (r : Rec) (o : Option Rec) → TellsEnd r → (o ≡ Some (rec.Ended reader size) → size ≡ total) → later (is_told r) o ≡ Some (rec.Ended reader size) → size ≡ total
  told_by reader size r (Some last) now rest h = rest h
  told_by reader size r None now rest h = now reader size h

  -- what is told last is told
  told_last : (reader size : ℕ) (recs : List Rec) → AllTell recs → told_in recs ≡ Some (rec.Ended reader size) → size ≡ total
  told_last reader size [] all h = none_is h
  told_last reader size (r ∷ recs) all h = told_by reader size r (told_in recs) all.0 (told_last reader size recs all.1) h

  trouble_tells : (p : Permit) (s : State) (row : Row) (before : List Rec) (why : Cause) → Given.Trouble p s row before why → AllTell before
  trouble_tells p s row before why (Given.Trouble.faulted count w m) = ((λ reader size h. none_is h), tt)
  trouble_tells p s row before why (Given.Trouble.damaged found d) = ((λ reader size h. none_is h), tt)

  lookup_tells : (p : Permit) (s : State) (key : Key) (request : List Field) (before : List Rec) (answer : ReadAnswer) → Legal.IsLookup p s key request before answer → AllTell before
  lookup_tells p s key request before answer (Legal.IsLookup.verdict x) = tt
  lookup_tells p s key request before answer (Legal.IsLookup.trouble row b why live t) = trouble_tells p s row before why t

  look_tells : (p : Permit) (s : State) (actor : ℕ) (key : Key) (request : List Field) (added : List Rec) (e : End) → Legal.DoesLook p s actor key request added e → AllTell added
  look_tells p s actor key request added e (Legal.DoesLook.looks m) =
      subst AllTell (sym m.is) (all_append TellsEnd m.before _ (lookup_tells p s key request m.before m.answer m.right) ((λ reader size h. none_is h), tt))

  fragment_tells : (p : Permit) (s : State) (row : Row) (entry : TableRow) (before : List Rec) (why : Cause) → Legal.ReadTrouble p s row entry before why → AllTell before
  fragment_tells p s row entry before why (Legal.ReadTrouble.troubled b c t) = trouble_tells p s row before why t
  fragment_tells p s row entry before why (Legal.ReadTrouble.mismatched found read unlike) = ((λ reader size h. none_is h), tt)

  answer_tells : (n : ℕ) (a : NextAnswer) → ((size : ℕ) → a ≡ next.Ended size → size ≡ total) → TellsEnd (answer_record n a)
  answer_tells n (next.Gave index bytes) ends reader size h = absurd cc
  answer_tells n (next.Ended last) ends reader size h = let same : last ≡ size = cc in ends size (ap next.Ended same)
  answer_tells n (next.Waited cut) ends reader size h = absurd cc
  answer_tells n (next.Broke why) ends reader size h = absurd cc

  reading_tells : (n : ℕ) (p : Permit) (s : State) (r : ReaderRow) (before : List Rec) (a : NextAnswer) → Legal.IsReading p s r before a
      → ((size : ℕ) → reader_verdict s r ≡ next.Ended size → size ≡ total) → AllTell (before ++ answer_record n a ∷ [])
  reading_tells n p s r before a (Legal.IsReading.verdict x listed) ends = (answer_tells n (reader_verdict s r) ends, tt)
  reading_tells n p s r before a (Legal.IsReading.trouble entry row b why e live t) ends =
      all_append TellsEnd before (rec.Broke n why ∷ []) (fragment_tells p s row entry before why t) ((λ reader size h. absurd cc), tt)

  stop_tells : (s : State) (n : ℕ) (added : List Rec) (e : End) → Legal.DoesStopReading s n added e → AllTell added
  stop_tells s n added e (Legal.DoesStopReading.closes r q l is) = subst AllTell (sym is) ((λ reader size h. none_is h), tt)
  stop_tells s n added e (Legal.DoesStopReading.closed q l is) = subst AllTell (sym is) tt

-- ---- a put that is read to its end

module _ (p : Permit) (streams : ℕ → Stream) (n put : ℕ) where
  abbrev Total : ℕ
  Total = length (streams put).bytes

  -- a reader, where there is one, reads this put
  abbrev ReadsPut : Option ReaderRow → Type 0
  ReadsPut o = (r : ReaderRow) → o ≡ Some r → r.put ≡ put

  -- what stands is what writers took but for the documents of fragments, and the reader reads this put
  record IsReadingPut (s : State) : Type 0 where
    kept : ArePayloadsOwn s streams
    reads : ReadsPut (reader_of s n)

  gave_put : (next : ℕ) (b : Bool) (o : Option ReaderRow) → ReadsPut o → ReadsPut (cond b (option_map (λ (r : ReaderRow). record r { next = next }) o) o)
  gave_put next true None reads u h = none_is h
  gave_put next true (Some r) reads u h = sym (ap (λ (x : ReaderRow). x.put) (same_Some (record r { next = next }) u h)) ∙ reads r refl
  gave_put next false o reads u h = reads u h

  answered_put : (s : State) (a : NextAnswer) → ReadsPut (reader_of s n) → ReadsPut (reader_of (state_after s (answer_record n a)) n)
  answered_put s (next.Gave index size) reads = subst ReadsPut (sym (gave_reader n n (index + 1) s.readers)) (gave_put (index + 1) (n == n) (reader_of s n) reads)
  answered_put s (next.Ended size) reads = reads
  answered_put s (next.Waited cut) reads = reads
  answered_put s (next.Broke why) reads = reads

  reading_put : (s : State) (r : ReaderRow) (before : List Rec) (a : NextAnswer) → Legal.IsReading p s r before a → ReadsPut (reader_of s n)
      → ReadsPut (reader_of (after_all s (before ++ answer_record n a ∷ [])) n)
  reading_put s r before a (Legal.IsReading.verdict x listed) reads = answered_put s (reader_verdict s r) reads
  reading_put s r before a (Legal.IsReading.trouble entry row b why e live (Legal.ReadTrouble.troubled c d (Given.Trouble.faulted count w m))) reads = reads
  reading_put s r before a (Legal.IsReading.trouble entry row b why e live (Legal.ReadTrouble.troubled c d (Given.Trouble.damaged found m))) reads = reads
  reading_put s r before a (Legal.IsReading.trouble entry row b why e live (Legal.ReadTrouble.mismatched found read unlike)) reads = reads

  read_put : (s : State) (added : List Rec) (e : End) → Legal.DoesReadAll p s n added e → ReadsPut (reader_of s n) → ReadsPut (reader_of (after_all s added) n)
  read_put s added e (Legal.DoesReadAll.reads_on a hit m x) reads = subst (λ recs. ReadsPut (reader_of (after_all s recs) n)) (sym m.is) (reading_put s m.r m.before a m.right reads)
  read_put s added e (Legal.DoesReadAll.has_none q x is y) reads = subst (λ recs. ReadsPut (reader_of (after_all s recs) n)) (sym is) reads

  stays_reading : (s : State) (added : List Rec) (e : End) → Legal.DoesReadAll p s n added e → IsReadingPut s → IsReadingPut (after_all s added)
  stays_reading s added e does at = record { kept = reads_keep p s streams (ReadAll n) added e refl at.kept does; reads = read_put s added e does at.reads }

  read_tells : (s : State) (added : List Rec) (e : End) → Legal.DoesReadAll p s n added e → IsReadingPut s → AllTell Total added
  read_tells s added e (Legal.DoesReadAll.reads_on a hit m x) at =
      subst (AllTell Total) (sym m.is) (reading_tells Total n p s m.r m.before a m.right
      (λ size verdict. end_told n s streams m.r size m.r.table refl at.kept m.quiet m.reading verdict ∙ ap (λ k. length (streams k).bytes) (at.reads m.r m.reading)))
  read_tells s added e (Legal.DoesReadAll.has_none q x is y) at = subst (AllTell Total) (sym is) tt

  -- ---- along its groups

  stopped_by : (s : State) (why : Option Reason) (added tail : List Rec) (e : End) (between after : Work) → Legal.DoesStopReading s n added e → between ≡ work_after (StopReading n) [] why e
      → MayGrow p (after_all s added) between tail after → tail ≡ []
  stopped_by s why added tail e between after (Legal.DoesStopReading.closes r q l is) left grows =
      (none_left p (after_all s added) why tail after (subst (λ (w : Work). MayGrow p (after_all s added) w tail after) left grows)).0
  stopped_by s why added tail e between after (Legal.DoesStopReading.closed q l is) left grows =
      (none_left p (after_all s added) why tail after (subst (λ (w : Work). MayGrow p (after_all s added) w tail after) left grows)).0

  stop_grown : {s : State} {w after : Work} {recs : List Rec} → w.intents ≡ StopReading n ∷ [] → MayGrow p s w recs after → AllTell Total recs
  stop_grown asked nothing = tt
  stop_grown {s} {w} {after} asked (more {rest = tail} added between one others) =
      let here : Advances p s (StopReading n ∷ []) w.refused added between = subst (λ is. Advances p s is w.refused added between) asked one in
      all_append (TellsEnd Total) added tail (stop_tells Total s n added here.0 here.1)
      (subst (AllTell Total) (sym (stopped_by s w.refused added tail here.0 between after here.1 here.2 others)) tt)

  left_by : (why : Option Reason) (e : End) → (let w : Work = work_after (ReadAll n) (StopReading n ∷ []) why e in
      (w.intents ≡ ReadAll n ∷ StopReading n ∷ []) ⊎ (w.intents ≡ StopReading n ∷ []))
  left_by why Stays = inl refl
  left_by why Done = inr refl
  left_by why (Fails reason) = inr refl

  read_grown : {s : State} {w after : Work} {recs : List Rec} → w.intents ≡ ReadAll n ∷ StopReading n ∷ [] → IsReadingPut s → MayGrow p s w recs after → AllTell Total recs
  read_grown asked at nothing = tt
  read_grown {s} {w} asked at (more {rest = tail} added between one others) =
      let here : Advances p s (ReadAll n ∷ StopReading n ∷ []) w.refused added between = subst (λ is. Advances p s is w.refused added between) asked one in
      let left = ap (λ (x : Work). x.intents) here.2 in
      all_append (TellsEnd Total) added tail (read_tells s added here.0 here.1 at) (elim (left_by w.refused here.0) [
        | inl on ↦ read_grown (left ∙ on) (stays_reading s added here.0 here.1 at) others
        | inr last ↦ stop_grown (left ∙ last) others
      ])

looked_grown : (p : Permit) (s : State) (streams : ℕ → Stream) (key : Key) (request : List Field) (added rest : List Rec) (e : End) (put : ℕ) (after : Work) → ArePayloadsOwn s streams
    → Legal.DoesLook p s 0 key request added e → lookup_in (added ++ rest) ≡ Some (read.Hit put)
    → MayGrow p (after_all s added) (work_after (Look 0 key request) (ReadAll s.next_reader ∷ StopReading s.next_reader ∷ []) None e) rest after → AllTell (length (streams put).bytes) rest
looked_grown p s streams key request added rest e put after kept (Legal.DoesLook.looks m) told grows =
    let n : ℕ = s.next_reader in
    let t : State = after_all s added in
    let h : OpensHit t n put = look_hit p s 0 key request added rest e put (Legal.DoesLook.looks m) told in
    read_grown p streams n put refl (record {
      kept = reads_keep p s streams (Look 0 key request) added e refl kept (Legal.DoesLook.looks m);
      reads = λ r found. ap (λ (x : ReaderRow). x.put) (same_some r h.r (reader_of t n) found h.found) ∙ h.put_is;
    }) grows

got_told : (p : Permit) (s : State) (streams : ℕ → Stream) (key : Key) (request : List Field) (added : List Rec) (why : Option Reason) (put reader size : ℕ) → ArePayloadsOwn s streams
    → IsStep p s (get_intents s key request) added why → lookup_in added ≡ Some (read.Hit put) → told_in added ≡ Some (rec.Ended reader size) → size ≡ length (streams put).bytes
got_told p s streams key request added why put reader size kept step looked told =
    let is : List Rattle.cache_model.specs.Permit.Intent = ReadAll s.next_reader ∷ StopReading s.next_reader ∷ [] in
    let f : First p s (Look 0 key request) is None added why = first_of p s (Look 0 key request) is None why added step.grows in
    let total : ℕ = length (streams put).bytes in
    let rest : AllTell total f.rest = looked_grown p s streams key request f.added f.rest f.end put _ kept f.does (ap lookup_in (sym f.split) ∙ looked) f.behind in
    told_last total reader size (f.added ++ f.rest) (all_append (TellsEnd total) f.added f.rest (look_tells total p s 0 key request f.added f.end f.does) rest)
    (ap told_in (sym f.split) ∙ told)

-- ---- a reader that opens

opens_told : (t : State) (streams : ℕ → Stream) (n put : ℕ) → OpensHit t n put → IsQuiet t → ArePayloadsOwn t streams → hit_length t n ≡ length (streams put).bytes
opens_told t streams n put h quiet kept =
    ap (λ (o : Option ReaderRow). total_length (unwrap_or (option_and_then (λ (r : ReaderRow). r.table) o) [])) h.found
    ∙ (ap (λ (o : Option (List TableRow)). total_length (unwrap_or o [])) h.hit
    ∙ (hit_told n t streams h.r h.table h.hit kept quiet h.found ∙ ap (λ k. length (streams k).bytes) h.put_is))

-- ---- lines

module _ (one : OneGroup) (run : Run) (turn : Turn) (key : Key) (request : List Field) (put size : ℕ) where
  got_length : (bytes : List ℕ) (o : Option State) → StandsWhere Keeps run o → Takes run turn o (step.Get key request)
      → step_said run turn o (step.Get key request) ≡ answer.Got put size bytes → size ≡ length (run.streams put).bytes
  got_length bytes None keeps takes said = absurd takes
  got_length bytes (Some s) keeps takes said =
      let g : IsGot turn.given (told_in turn.added) (lookup_in turn.added) put size bytes = got_by turn.given (told_in turn.added) (lookup_in turn.added) put size bytes said in
      got_told turn.device s run.streams key request turn.added turn.refused put g.reader size keeps.kept takes.legal g.hit g.ended

  opens_length : (actor : List ℕ) (o : Option State) → KeepsIn (behind run turn o (step.OpenRead actor key request)) → Takes run turn o (step.OpenRead actor key request)
      → step_said run turn o (step.OpenRead actor key request) ≡ answer.Hit put size → size ≡ length (run.streams put).bytes
  opens_length actor None keeps takes said = absurd takes
  opens_length actor (Some s) keeps takes said =
      let h = free_hit one run s turn key request put size (number_in run.actors actor) (held_by run actor) takes.legal said in
      sym h.1 ∙ opens_told (after_all s turn.added) run.streams s.next_reader put h.0 keeps.quiet keeps.kept

  length_told : {asks : Step} → KeepsIn run → KeepsIn (after_step run turn asks) → StepTakes run turn asks → AnswersHit run turn key request put size asks → size ≡ length (run.streams put).bytes
  length_told before after takes (Laws.AnswersHit.got bytes said) = got_length bytes run.state before takes said
  length_told before after takes (Laws.AnswersHit.opens actor said) = opens_length actor run.state after takes said

pub length_is_told : (laws : OfKept) (one : OneGroup) (lines : List (List ℕ)) (turns : List Turn) (turn : Turn) (asks : Step) (key : Key) (request : List Field) (put size : ℕ) → IsRun fresh lines turns
    → StepTakes (run_after fresh lines turns) turn asks → AnswersHit (run_after fresh lines turns) turn key request put size asks
    → size ≡ length ((run_after fresh lines turns).streams put).bytes
length_is_told laws one lines turns turn asks key request put size legal takes said =
    let run : Run = run_after fresh lines turns in
    let before : KeepsIn run = keeps_after laws lines turns fresh legal tt in
    length_told one run turn key request put size before (reading_keeps laws run turn (line.Step asks) takes before) takes said
