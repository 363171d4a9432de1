-- Where a `get` is answered that what it hit is passed, the lines of its session recorded why.
use Rattle.std.proofs.Common.{◌≡◌, ℕ, ◌-◌, ◌<◌, ◌≤◌, length, arith, List, [], ◌∷◌, ◌++◌, refl, sym, ◌∙◌, ap, subst, inl, inr, ◌⊎◌, Bool, true, false, cond}
use Rattle.std.specs.Prelude.{Option, Some, None, option_map, unwrap_or, ◌+◌, ◌==◌}
use Rattle.std.specs.List.{AllByRecursion}
use Rattle.std.proofs.lemmas.Bool.{cases_lt}
use Rattle.std.proofs.lemmas.Option.{same_Some, slice_get_within}
use Rattle.tape_base.specs.declared.actors.Actor.{Actor}
use Rattle.tape_base.specs.declared.keys.Key.{Key}
use Rattle.tape_base.specs.declared.pieces.PieceId.{PieceId}
use Rattle.fragment_table.specs.Table.{TableRow}
use Rattle.alternate_vector.specs.Alternates.{Stored}
use Rattle.alternate_vector.specs.Field.{Field}
use Rattle.cache_model.specs.declared.cause.Cause.{Cause}
use Rattle.cache_model.specs.declared.cause.Cause.TheVariants as cause
use Rattle.cache_model.specs.declared.answer.ReadAnswer.{ReadAnswer}
use Rattle.cache_model.specs.declared.answer.ReadAnswer.TheVariants as read
use Rattle.cache_model.specs.declared.answer.NextAnswer.{NextAnswer}
use Rattle.cache_model.specs.declared.answer.NextAnswer.TheVariants as next
use Rattle.cache_model.specs.declared.record.Rec.{Rec}
use Rattle.cache_model.specs.declared.record.Rec.TheVariants as rec
use Rattle.cache_model.specs.State.{State, Row, ReaderRow, after_all, fragment_piece, live_row_of, reader_of, row_of, state_after, table_of_hit}
use Rattle.cache_model.specs.Verdict.{cause_of_loss, cuts_of, hit, lookup_verdict, next_piece, next_row, passed, reader_verdict, table_of}
use Rattle.cache_model.specs.Permit.{End, Done, Fails, Intent, Look, Permit, ReadAll, Reason, Stays, StopReading, Work, work_after}
use Rattle.cache_model.specs.Given
use Rattle.cache_model.specs.Legal
use Rattle.cache_model.specs.Legal.{Advances, IsStep, MayGrow, answer_record, is_given, more, nothing}
use Rattle.cache_model.proofs.Found.{no_truth, none_is, same_some}
use Rattle.step_laws.proofs.Answered.{given_is_own}
use Rattle.cache_model.proofs.Steps.{First, all_append, first_of, none_left}
use Rattle.script_grammar.specs.declared.step.Step.TheVariants as step
use Rattle.script_grammar.specs.declared.answer.StepAnswer.{StepAnswer}
use Rattle.script_grammar.specs.declared.answer.StepAnswer.TheVariants as answer
use Rattle.script_run.specs.Run.{Run, fresh}
use Rattle.script_run.specs.Asked.{get_intents}
use Rattle.script_run.specs.Turn.{Turn, is_told, later, lookup_in, told_in}
use Rattle.script_run.specs.Answers.{broken_said, end_said, get_said, miss_said, step_answer, step_said}
use Rattle.script_run.specs.Takes.{IsRun, StepTakes, Takes, run_after}
use Rattle.script_run.proofs.Hitting.{IsAnswer, step_answers}
use Rattle.script_run.proofs.Values.{value_here}
use Rattle.line_laws.proofs.Keeping.{gave_reader}
use Rattle.headline.specs.Account.{Account, HistoryTells, RunLogs}
use Rattle.headline.specs.Breaks.{GetPassed}
use Rattle.headline.specs.Reads.{AreLiveBefore, IsChosenPut}
use Rattle.headline.specs.Standing.{IsBelowFloor}
use Rattle.cause_laws.proofs.Breaking.{Breaks, breaks_so, broken_is, over, silent, under}
use Rattle.account_laws.proofs.Causing.{unknown}
use Rattle.account_laws.proofs.Lost.{no_standing_loss}
use Rattle.account_laws.proofs.Missing.{is_fault, is_of_device}
use Rattle.account_laws.proofs.Places.{told_line}
use Rattle.cause_laws.proofs.Standing.{is_below}
use Rattle.account_laws.proofs.Troubles.{did_before}
use Rattle.account_laws.proofs.Whole.{chosen_of}

-- ---- what the reader of a `get` is told

-- nothing but readers changed
abbrev pub AsBefore : State → State → Type 0
AsBefore s t = t ≡ record s { readers = t.readers; next_reader = t.next_reader }

module _ (s : State) (key : Key) (put : ℕ) (table : List TableRow) where
  -- it reads this put of the key, by this table, and what it was given may be read
  pub record IsOfPut (r : ReaderRow) : Type 0 where
    pub key_is : r.key ≡ key
    pub put_is : r.put ≡ put
    pub table_is : r.table ≡ Some table
    pub first : 0 < r.next
    pub live : AreLiveBefore s key put r.next

  -- a reader, where there is one, does
  abbrev ReadsPut : Option ReaderRow → Type 0
  ReadsPut o = (r : ReaderRow) → o ≡ Some r → IsOfPut r

  -- the verdict is that of a reader of the put, in a state that has the pieces of this one
  pub record GoneBy (why : Cause) : Type 0 where
    pub t : State
    pub r : ReaderRow
    pub of_put : IsOfPut r
    pub same : AsBefore s t
    pub verdict : reader_verdict t r ≡ next.Broke why

  -- the next piece of such a reader is live, and there is trouble with it
  pub record TroubledBy (p : Permit) (why : Cause) : Type 0 where
    pub t : State
    pub r : ReaderRow
    pub of_put : IsOfPut r
    pub same : AsBefore s t
    pub row : Row
    pub entry : TableRow
    pub before : List Rec
    pub next_is : next_row t r ≡ Some entry
    pub live : live_row_of t (next_piece r) ≡ Some row
    pub trouble : Legal.ReadTrouble p t row entry before why

  -- one or the other
  abbrev pub IsGone : Permit → Cause → Type 0
  IsGone p why = TroubledBy p why ⊎ GoneBy why

  -- what it takes next is in the table
  pub is_listed : (t : State) (r : ReaderRow) (entry : TableRow) → IsOfPut r → next_row t r ≡ Some entry → r.next ≤ length table
  is_listed t r entry of_put cut =
      let within : r.next - 1 < length (table_of t r) = slice_get_within (table_of t r) (r.next - 1) entry cut in
      let same : length (table_of t r) ≡ length table = ap (λ (o : Option (List TableRow)). length (unwrap_or o (cuts_of t r.put))) of_put.table_is in
      omega (arith, within, same)

  gave_put : (next : ℕ) (b : Bool) (o : Option ReaderRow) → ReadsPut o → ((r : ReaderRow) → o ≡ Some r → IsOfPut (record r { next = next }))
      → ReadsPut (cond b (option_map (λ (r : ReaderRow). record r { next = next }) o) o)
  gave_put next true None reads goes u h = none_is h
  gave_put next true (Some r) reads goes u h = subst IsOfPut (same_Some (record r { next = next }) u h) (goes r refl)
  gave_put next false o reads goes u h = reads u h

  -- a fragment that is given may be read
  live_more : (t : State) (r : ReaderRow) (index bytes : ℕ) → AsBefore s t → IsOfPut r → reader_verdict t r ≡ next.Gave index bytes → AreLiveBefore s key put (index + 1)
  live_more t r index bytes same of_put verdict i some below =
      let own = given_is_own t r index bytes verdict in
      let number : index ≡ r.next = own.0 in
      let here : live_row_of s (fragment_piece r.key r.put index) ≡ Some own.1.0 = sym (ap (λ (x : State). live_row_of x (fragment_piece r.key r.put index)) same) ∙ own.1.1 in
      elim (cases_lt i r.next) [
        | inl before ↦ of_put.live i some before
        | inr last ↦
            let name : index ≡ i = omega (arith, number, last, below) in (
              own.1.0,
              sym (ap (λ k. live_row_of s (fragment_piece k put i)) of_put.key_is) ∙ (sym (ap (λ k. live_row_of s (fragment_piece r.key k i)) of_put.put_is)
                  ∙ (sym (ap (λ k. live_row_of s (fragment_piece r.key r.put k)) name) ∙ here)),
            )
      ]

  further : (t : State) (r u : ReaderRow) (index bytes : ℕ) → AsBefore s t → IsOfPut r → reader_verdict t r ≡ next.Gave index bytes → r ≡ u → IsOfPut (record u { next = index + 1 })
  further t r u index bytes same of_put verdict is = subst (λ (x : ReaderRow). IsOfPut (record x { next = index + 1 })) is (record {
    key_is = of_put.key_is;
    put_is = of_put.put_is;
    table_is = of_put.table_is;
    first = omega arith;
    live = live_more t r index bytes same of_put verdict;
  })

module _ (p : Permit) (s : State) (n : ℕ) (key : Key) (put : ℕ) (table : List TableRow) where
  -- the pieces are those of this state, and the reader reads the put
  record IsReading (t : State) : Type 0 where
    same : AsBefore s t
    reads : ReadsPut s key put table (reader_of t n)

  abbrev Gone : Cause → Type 0
  Gone why = IsGone s key put table p why

  -- a break that the record tells has such a cause
  abbrev TellsBreak : Rec → Type 0
  TellsBreak r = (m : ℕ) (why : Cause) → is_told r ≡ Some (rec.Broke m why) → Gone why

  abbrev AllTell : List Rec → Type 0
  AllTell recs = AllByRecursion TellsBreak recs

  told_by : (m : ℕ) (why : Cause) (r : Rec) (o : Option Rec) → TellsBreak r → (o ≡ Some (rec.Broke m why) → Gone why) → later (is_told r) o ≡ Some (rec.Broke m why) → Gone why
  told_by m why r None first rest h = first m why h
  told_by m why r (Some last) first rest h = rest h

  told_last : (m : ℕ) (why : Cause) (recs : List Rec) → AllTell recs → told_in recs ≡ Some (rec.Broke m why) → Gone why
  told_last m why [] all h = none_is h
  told_last m why (r ∷ recs) all h = told_by m why r (told_in recs) all.0 (told_last m why recs all.1) h

  trouble_tells : (t : State) (row : Row) (before : List Rec) (why : Cause) → Given.Trouble p t row before why → AllTell before
  trouble_tells t row before why (Given.Trouble.faulted count w m) = ((λ k c h. none_is h), tt)
  trouble_tells t row before why (Given.Trouble.damaged found d) = ((λ k c h. none_is h), tt)

  lookup_tells : (request : List Field) (before : List Rec) (a : ReadAnswer) → Legal.IsLookup p s key request before a → AllTell before
  lookup_tells request before a (Legal.IsLookup.verdict x) = tt
  lookup_tells request before a (Legal.IsLookup.trouble row b why live t) = trouble_tells s row before why t

  look_tells : (request : List Field) (added : List Rec) (e : End) → Legal.DoesLook p s 0 key request added e → AllTell added
  look_tells request added e (Legal.DoesLook.looks m) =
      subst AllTell (sym m.is) (all_append TellsBreak m.before _ (lookup_tells request m.before m.answer m.right) ((λ k c h. none_is h), tt))

  fragment_tells : (t : State) (row : Row) (entry : TableRow) (before : List Rec) (why : Cause) → Legal.ReadTrouble p t row entry before why → AllTell before
  fragment_tells t row entry before why (Legal.ReadTrouble.troubled b c trouble) = trouble_tells t row before why trouble
  fragment_tells t row entry before why (Legal.ReadTrouble.mismatched found read unlike) = ((λ k c h. none_is h), tt)

  answer_tells : (a : NextAnswer) → ((why : Cause) → a ≡ next.Broke why → Gone why) → TellsBreak (answer_record n a)
  answer_tells (next.Gave index bytes) breaks m why h = absurd cc
  answer_tells (next.Ended last) breaks m why h = absurd cc
  answer_tells (next.Waited cut) breaks m why h = absurd cc
  answer_tells (next.Broke w) breaks m why h = let same : w ≡ why = cc in breaks why (ap next.Broke same)

  broke_tells : (w : Cause) → Gone w → TellsBreak (rec.Broke n w)
  broke_tells w gone m why h = let same : w ≡ why = cc in subst Gone same gone

  reading_tells : (t : State) (r : ReaderRow) (before : List Rec) (a : NextAnswer) → IsReading t → reader_of t n ≡ Some r → Legal.IsReading p t r before a → AllTell (before ++ answer_record n a ∷ [])
  reading_tells t r before a at found (Legal.IsReading.verdict x listed) =
      (answer_tells (reader_verdict t r) (λ why verdict. inr (record { t = t; r = r; of_put = at.reads r found; same = at.same; verdict = verdict })), tt)
  reading_tells t r before a at found (Legal.IsReading.trouble entry row b why e live trouble) =
      let by : TroubledBy s key put table p why = record {
        t = t;
        r = r;
        of_put = at.reads r found;
        same = at.same;
        row = row;
        entry = entry;
        before = before;
        next_is = e;
        live = live;
        trouble = trouble;
      } in
      all_append TellsBreak before (rec.Broke n why ∷ []) (fragment_tells t row entry before why trouble) (broke_tells why (inl by), tt)

  stop_tells : (t : State) (added : List Rec) (e : End) → Legal.DoesStopReading t n added e → AllTell added
  stop_tells t added e (Legal.DoesStopReading.closes r q l is) = subst AllTell (sym is) ((λ k c h. none_is h), tt)
  stop_tells t added e (Legal.DoesStopReading.closed q l is) = subst AllTell (sym is) tt

  read_tells : (t : State) (added : List Rec) (e : End) → IsReading t → Legal.DoesReadAll p t n added e → AllTell added
  read_tells t added e at (Legal.DoesReadAll.reads_on a hit m x) = subst AllTell (sym m.is) (reading_tells t m.r m.before a at m.reading m.right)
  read_tells t added e at (Legal.DoesReadAll.has_none q x is y) = subst AllTell (sym is) tt

  -- ---- along its groups

  answered_still : (t : State) (r : ReaderRow) (a : NextAnswer) → reader_of t n ≡ Some r → reader_verdict t r ≡ a → IsReading t → IsReading (state_after t (answer_record n a))
  answered_still t r (next.Gave index bytes) found verdict at =
      let goes : (u : ReaderRow) → reader_of t n ≡ Some u → IsOfPut s key put table (record u { next = index + 1 }) =
      λ u there. further s key put table t r u index bytes at.same (at.reads r found) verdict (same_some r u (reader_of t n) found there) in
      record {
        same = ap (λ (x : State). record x { readers = (state_after t (rec.Gave n index bytes)).readers }) at.same;
        reads = subst (ReadsPut s key put table) (sym (gave_reader n n (index + 1) t.readers)) (gave_put s key put table (index + 1) (n == n) (reader_of t n) at.reads goes);
      }
  answered_still t r (next.Ended last) found verdict at = at
  answered_still t r (next.Waited cut) found verdict at = at
  answered_still t r (next.Broke w) found verdict at = at

  reading_still : (t : State) (r : ReaderRow) (before : List Rec) (a : NextAnswer) → reader_of t n ≡ Some r → Legal.IsReading p t r before a → cond (is_given a) Stays Done ≡ Stays → IsReading t
      → IsReading (after_all t (before ++ answer_record n a ∷ []))
  reading_still t r before a found (Legal.IsReading.verdict x listed) stays at = answered_still t r (reader_verdict t r) found refl at
  reading_still t r before a found (Legal.IsReading.trouble entry row b why e live trouble) stays at = absurd cc

  stays_reading : (t : State) (added : List Rec) (e : End) → Legal.DoesReadAll p t n added e → e ≡ Stays → IsReading t → IsReading (after_all t added)
  stays_reading t added e (Legal.DoesReadAll.reads_on a hit m x) stays at = subst (λ recs. IsReading (after_all t recs)) (sym m.is) (reading_still t m.r m.before a m.reading m.right (sym x ∙ stays) at)
  stays_reading t added e (Legal.DoesReadAll.has_none q x is y) stays at = subst (λ recs. IsReading (after_all t recs)) (sym is) at

  stopped_by : (t : State) (why : Option Reason) (added tail : List Rec) (e : End) (between after : Work) → Legal.DoesStopReading t n added e → between ≡ work_after (StopReading n) [] why e
      → MayGrow p (after_all t added) between tail after → tail ≡ []
  stopped_by t why added tail e between after (Legal.DoesStopReading.closes r q l is) left grows =
      (none_left p (after_all t added) why tail after (subst (λ (w : Work). MayGrow p (after_all t added) w tail after) left grows)).0
  stopped_by t why added tail e between after (Legal.DoesStopReading.closed q l is) left grows =
      (none_left p (after_all t added) why tail after (subst (λ (w : Work). MayGrow p (after_all t added) w tail after) left grows)).0

  stop_grown : {t : State} {w after : Work} {recs : List Rec} → w.intents ≡ StopReading n ∷ [] → MayGrow p t w recs after → AllTell recs
  stop_grown asked nothing = tt
  stop_grown {t} {w} {after} asked (more {rest = tail} added between one others) =
      let here : Advances p t (StopReading n ∷ []) w.refused added between = subst (λ is. Advances p t is w.refused added between) asked one in
      all_append TellsBreak added tail (stop_tells t added here.0 here.1)
      (subst AllTell (sym (stopped_by t w.refused added tail here.0 between after here.1 here.2 others)) tt)

  left_by : (why : Option Reason) (e : End) → (let w : Work = work_after (ReadAll n) (StopReading n ∷ []) why e in
      ((e ≡ Stays) × (w.intents ≡ ReadAll n ∷ StopReading n ∷ [])) ⊎ (w.intents ≡ StopReading n ∷ []))
  left_by why Stays = inl (refl, refl)
  left_by why Done = inr refl
  left_by why (Fails reason) = inr refl

  read_grown : {t : State} {w after : Work} {recs : List Rec} → w.intents ≡ ReadAll n ∷ StopReading n ∷ [] → IsReading t → MayGrow p t w recs after → AllTell recs
  read_grown asked at nothing = tt
  read_grown {t} {w} asked at (more {rest = tail} added between one others) =
      let here : Advances p t (ReadAll n ∷ StopReading n ∷ []) w.refused added between = subst (λ is. Advances p t is w.refused added between) asked one in
      let left = ap (λ (x : Work). x.intents) here.2 in
      all_append TellsBreak added tail (read_tells t added here.0 at here.1) (elim (left_by w.refused here.0) [
        | inl on ↦ read_grown (left ∙ on.1) (stays_reading t added here.0 here.1 on.0 at) others
        | inr last ↦ stop_grown (left ∙ last) others
      ])

-- ---- a lookup that hits

module _ (p : Permit) (s : State) (key : Key) (put : ℕ) (request : List Field) where
  abbrev Opened : State → Type 0
  Opened t = IsReading p s s.next_reader key put (table_of_hit s key request) t

  opened_by : (who : Actor) (a : ReadAnswer) → a ≡ read.Hit put → Opened (state_after s (rec.ReadOpened s.next_reader who key request a))
  opened_by who a is =
      let r : ReaderRow = record { actor = who.0; reader = s.next_reader; key = key; put = put; table = Some (table_of_hit s key request); next = 1 } in
      let t : State = state_after s (rec.ReadOpened s.next_reader who key request (read.Hit put)) in
      let there : reader_of t s.next_reader ≡ Some r = value_here (Some r) (reader_of s s.next_reader) s.next_reader s.next_reader refl in
      subst (λ (x : ReadAnswer). Opened (state_after s (rec.ReadOpened s.next_reader who key request x))) (sym is)
      (record {
        same = refl;
        reads = λ u found.
            let same : r ≡ u = same_some r u (reader_of t s.next_reader) there found in
            subst (IsOfPut s key put (table_of_hit s key request)) same (record {
              key_is = refl;
              put_is = refl;
              table_is = refl;
              first = omega arith;
              live = λ index some below. absurd (omega (arith, some, below));
            });
      })

  look_opens : (who : Actor) (before : List Rec) (a : ReadAnswer) (rest : List Rec) → Legal.IsLookup p s key request before a
      → lookup_in ((before ++ rec.ReadOpened s.next_reader who key request a ∷ []) ++ rest) ≡ Some (read.Hit put)
      → Opened (after_all s (before ++ rec.ReadOpened s.next_reader who key request a ∷ []))
  look_opens who before a rest (Legal.IsLookup.verdict x) h = opened_by who (lookup_verdict s key request) (same_Some (lookup_verdict s key request) (read.Hit put) h)
  look_opens who before a rest (Legal.IsLookup.trouble row b why live (Given.Trouble.faulted count w m)) h = absurd cc
  look_opens who before a rest (Legal.IsLookup.trouble row b why live (Given.Trouble.damaged found d)) h = absurd cc

  does_open : (added rest : List Rec) (e : End) → Legal.DoesLook p s 0 key request added e → lookup_in (added ++ rest) ≡ Some (read.Hit put) → Opened (after_all s added) × (e ≡ Done)
  does_open added rest e (Legal.DoesLook.looks m) h =
      let opens = look_opens m.who m.before m.answer rest m.right (ap (λ recs. lookup_in (recs ++ rest)) (sym m.is) ∙ h) in
      (subst (λ recs. Opened (after_all s recs)) (sym m.is) opens, refl)

-- a `get` that breaks
get_broke : (p : Permit) (s : State) (key : Key) (request : List Field) (added : List Rec) (refused : Option Reason) (put m : ℕ) (why : Cause) → IsStep p s (get_intents s key request) added refused
    → lookup_in added ≡ Some (read.Hit put) → told_in added ≡ Some (rec.Broke m why) → IsGone s key put (table_of_hit s key request) p why
get_broke p s key request added refused put m why legal looked told =
    let n : ℕ = s.next_reader in
    let table : List TableRow = table_of_hit s key request in
    let is : List Intent = ReadAll n ∷ StopReading n ∷ [] in
    let f : First p s (Look 0 key request) is None added refused = first_of p s (Look 0 key request) is None refused added legal.grows in
    let opens = does_open p s key put request f.added f.rest f.end f.does (ap lookup_in (sym f.split) ∙ looked) in
    let left : (work_after (Look 0 key request) is None f.end).intents ≡ is = ap (λ (e : End). (work_after (Look 0 key request) is None e).intents) opens.1 in
    told_last p s n key put table m why (f.added ++ f.rest)
    (all_append (TellsBreak p s n key put table) f.added f.rest (look_tells p s n key put table request f.added f.end f.does) (read_grown p s n key put table left opens.0 f.behind))
    (ap told_in (sym f.split) ∙ told)

-- ---- what is answered

misses_break_none : (w why : Cause) → miss_said w ≡ answer.Broken why → ⊥
misses_break_none (cause.DeviceFault count) why h = cc
misses_break_none _ why h = cc

broken_own : (w why : Cause) → broken_said w ≡ answer.Broken why → is_fault w ≡ false
broken_own (cause.DeviceFault count) why h = absurd cc
broken_own _ why h = refl

-- the answer is that a reader broke, of something that was hit
record Broken (told : Option Rec) (lookup : Option ReadAnswer) (why : Cause) : Type 0 where
  put : ℕ
  reader : ℕ
  hits : lookup ≡ Some (read.Hit put)
  breaks : told ≡ Some (rec.Broke reader why)
  own : is_fault why ≡ false

end_breaks : (put : ℕ) (given : List ℕ) (told : Option Rec) (why : Cause) → end_said put given told ≡ answer.Broken why → Broken told (Some (read.Hit put)) why
end_breaks put given None why h = absurd cc
end_breaks put given (Some (rec.Ended reader size)) why h = absurd cc
end_breaks put given (Some (rec.Broke reader w)) why h =
    let same : w ≡ why = broken_is w why h in
    record { put = put; reader = reader; hits = refl; breaks = ap (λ c. Some (rec.Broke reader c)) same; own = ap is_fault (sym same) ∙ broken_own w why h }
end_breaks put given (Some _) why h = absurd cc

get_breaks : (given : List ℕ) (told : Option Rec) (lookup : Option ReadAnswer) (why : Cause) → get_said given told lookup ≡ answer.Broken why → Broken told lookup why
get_breaks given told None why h = absurd cc
get_breaks given told (Some (read.Hit put)) why h = end_breaks put given told why h
get_breaks given told (Some (read.Follow put)) why h = absurd cc
get_breaks given told (Some (read.Miss w)) why h = absurd (misses_break_none w why h)

-- ---- lines

pub record GoneHere (run : Run) (turn : Turn) (key : Key) (request : List Field) (why : Cause) : Type 0 where
  pub s : State
  pub state : run.state ≡ Some s
  pub put : ℕ
  pub hits : IsAnswer s key request (read.Hit put)
  pub is : IsGone s key put (table_of_hit s key request) turn.device why
  pub own : is_fault why ≡ false

module _ (run : Run) (turn : Turn) (key : Key) (request : List Field) (why : Cause) where
  state_gone : (o : Option State) → run.state ≡ o → Takes run turn o (step.Get key request) → step_said run turn o (step.Get key request) ≡ answer.Broken why → GoneHere run turn key request why
  state_gone None e takes said = absurd takes
  state_gone (Some s) e takes said =
      let b : Broken (told_in turn.added) (lookup_in turn.added) why = get_breaks turn.given (told_in turn.added) (lookup_in turn.added) why said in
      record {
        s = s;
        state = e;
        put = b.put;
        hits = step_answers turn.device s 0 key request _ turn.added turn.refused (read.Hit b.put) takes.legal b.hits;
        is = get_broke turn.device s key request turn.added turn.refused b.put b.reader why takes.legal b.hits b.breaks;
        own = b.own;
      }

  pub gone_here : StepTakes run turn (step.Get key request) → answer.Broken why ≡ step_answer run turn (step.Get key request) → GoneHere run turn key request why
  gone_here takes said = state_gone run.state refl takes (sym said)

trouble_is : (p : Permit) (t : State) (row : Row) (before : List Rec) (why : Cause) → Given.Trouble p t row before why → is_of_device why ≡ true
trouble_is p t row before why (Given.Trouble.faulted count w m) = refl
trouble_is p t row before why (Given.Trouble.damaged found d) = refl

pub fragment_is : (p : Permit) (t : State) (row : Row) (entry : TableRow) (before : List Rec) (why : Cause) → Legal.ReadTrouble p t row entry before why → is_of_device why ≡ true
fragment_is p t row entry before why (Legal.ReadTrouble.troubled b c trouble) = trouble_is p t row before why trouble
fragment_is p t row entry before why (Legal.ReadTrouble.mismatched found read unlike) = refl

-- such a piece stands below the floor, in the state before the line too
module _ (lines : List (List ℕ)) (turns : List Turn) (s : State) (legal : IsRun fresh lines turns) (state : (run_after fresh lines turns).state ≡ Some s) (key : Key) (put : ℕ)
    (table : List TableRow) (p : Permit) (place floor : ℕ) (unsaved : Bool) where
  abbrev Why : Cause
  Why = cause.Passed place floor unsaved

  record PieceBelow : Type 0 where
    piece : PieceId
    key_is : piece.first ≡ key
    put_is : piece.put ≡ put
    some : 0 < piece.index
    within : piece.index ≤ length table
    live : AreLiveBefore s key put piece.index
    passed : IsBelowFloor lines turns s piece place floor unsaved

  piece_by : (t : State) (r : ReaderRow) → IsOfPut s key put table r → AsBefore s t → Breaks t r Why → PieceBelow
  piece_by t r of_put same (under entry row cut dead found is) = record {
    piece = next_piece r;
    key_is = of_put.key_is;
    put_is = of_put.put_is;
    some = of_put.first;
    within = is_listed s key put table t r entry of_put cut;
    live = of_put.live;
    passed =
        is_below lines turns s legal state (next_piece r) row place floor unsaved (sym (ap (λ (x : State). live_row_of x (next_piece r)) same) ∙ dead)
        (sym (ap (λ (x : State). row_of x (next_piece r)) same) ∙ found) (sym (ap (λ (x : State). passed x row) same) ∙ is);
  }
  piece_by t r of_put same (silent is) = no_truth (sym (unknown t Why is))
  piece_by t r of_put same (over w past follows found e is) = absurd cc

  gone_below : IsGone s key put table p Why → PieceBelow
  gone_below (inl by) = no_truth (sym (fragment_is p by.t by.row by.entry by.before Why by.trouble))
  gone_below (inr g) =
      piece_by g.t g.r g.of_put g.same
      (breaks_so g.t g.r Why refl (λ id w lost. no_standing_loss lines turns s legal state id w (sym (ap (λ (x : State). cause_of_loss x id) g.same) ∙ lost)) g.verdict)

-- the fragments of what is hit are those of the alternate that is chosen
pub chosen_table : (run : Run) (s : State) (key : Key) (request : List Field) (put : ℕ) → run.state ≡ Some s → (c : IsChosenPut run key request put) → table_of_hit s key request ≡ c.alternate.table
chosen_table run s key request put state c =
    let same : c.s ≡ s = same_some c.s s run.state c.state state in
    let found : hit s key request ≡ Some c.alternate = subst (λ (x : State). hit x key request ≡ Some c.alternate) same c.found in
    ap (λ (o : Option Stored). unwrap_or (option_map (λ (a : Stored). a.table) o) []) found

pub get_was_passed : (l : RunLogs) (a : Account l) (lines : List (List ℕ)) (key : Key) (request : List Field) (place floor : ℕ) (unsaved : Bool)
    → HistoryTells a lines (step.Get key request) (answer.Broken (cause.Passed place floor unsaved)) → GetPassed a.turns lines key request place floor unsaved
get_was_passed l a lines key request place floor unsaved at =
    let why : Cause = cause.Passed place floor unsaved in
    let said : StepAnswer = answer.Broken why in
    let f = told_line l a lines (step.Get key request) said at in
    let h : GoneHere (run_after fresh lines f.earlier) f.turn key request why = gone_here (run_after fresh lines f.earlier) f.turn key request why f.takes f.is in
    let b = gone_below lines f.earlier h.s f.legal h.state key h.put (table_of_hit h.s key request) f.turn.device place floor unsaved h.is in
    let hits : IsChosenPut (run_after fresh lines f.earlier) key request h.put = chosen_of (run_after fresh lines f.earlier) f.turn key request h.put 0 h.s h.state h.hits in
    let chosen : IsChosenPut (run_after fresh lines f.earlier) key request b.piece.put = subst (IsChosenPut (run_after fresh lines f.earlier) key request) (sym b.put_is) hits in
    record {
      did = did_before l a lines (step.Get key request) said f;
      s = h.s;
      state = h.state;
      piece = b.piece;
      key_is = b.key_is;
      chosen = chosen;
      listed = (b.some, subst (λ (table : List TableRow). b.piece.index ≤ length table) (chosen_table (run_after fresh lines f.earlier) h.s key request b.piece.put h.state chosen) b.within);
      live = subst (λ put. AreLiveBefore h.s key put b.piece.index) (sym b.put_is) b.live;
      passed = b.passed;
    }
