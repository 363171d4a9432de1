-- One fragment after the other, up to the end.
use Rattle.std.proofs.Common.{◌≡◌, ℕ, zero, suc, min, ◌+◌, ◌-◌, ◌*◌, ◌<◌, ◌≤◌, List, [], ◌∷◌, ◌++◌, length}
use Rattle.std.proofs.Common.{length-take, take, refl, sym, ◌∙◌, ap, subst, Bool, true, false, cond, ◌⊎◌, inl, inr, arith}
use Rattle.std.specs.Prelude.{Err, Ok, Option, Result, Some, None, if◌then◌else◌, is_some, option_map, option_and_then, unwrap_or, slice_get}
use Rattle.std.specs.declared.alloc.AllocError.{AllocError}
use Rattle.std.proofs.Math.Nat.{add-mul}
use Rattle.std.proofs.Math.Seq.{take-add}
use Rattle.device_log.specs.Calls.{Call}
use Rattle.logged_disk.specs.Device.{DeviceState as Device, IsAfter, TellsAll}
use Rattle.tape_base.specs.declared.geometries.Geometry.{Geometry}
use Rattle.fragment_table.specs.Table.{TableRow}
use Rattle.cache_model.specs.declared.cause.Cause.{Cause}
use Rattle.cache_model.specs.declared.answer.ReadAnswer.{ReadAnswer}
use Rattle.cache_model.specs.declared.answer.ReadAnswer.TheVariants as read
use Rattle.cache_model.specs.declared.answer.NextAnswer.{NextAnswer}
use Rattle.cache_model.specs.declared.answer.NextAnswer.TheVariants as next
use Rattle.cache_model.specs.declared.record.Rec.{Rec}
use Rattle.cache_model.specs.declared.record.Rec.TheVariants as rec
use Rattle.cache_model.specs.State.{ReaderRow, Row, State, after_all, live_row_of, reader_of}
use Rattle.cache_model.specs.Kept.{state_of, with_records}
use Rattle.cache_model.specs.Verdict
use Rattle.cache_model.specs.Verdict.{next_piece, next_row}
use Rattle.cache_model.specs.Permit.{Done, End, Intent, Permit, ReadAll, ReadOn, Stays, StopReading, Work, to_do, work_after}
use Rattle.cache_model.specs.Legal
use Rattle.cache_model.specs.Legal.{Advances, Does, IsQuiet, IsReading, MayGrow, MayReadOn, answer_record, has_hit, is_given, live_next, more, nothing}
use Rattle.cache_model.specs.Pair.{Documents, IsPair, IsPairNext, ShowsPair}
use Rattle.cache_model.specs.ToRead
use Rattle.cache_model.specs.ToRead.{to_read, IsToRead}
use Rattle.cache_model.specs.Vectors.{AreTold, IsVectorAs}
use Rattle.cache_model.proofs.Found.{none_is, no_truth, same_some}
use Rattle.cache_model.proofs.Steps.{after_all-append, alone, grows_by, grows_on, seen}
use Rattle.cache_model.proofs.Aside.{AllAside, reading_on_aside}
use Rattle.step_laws.proofs.Answered.{end_is_whole}
use Rattle.step_laws.proofs.Pairs.{also_pair, also_pair_of}
use Rattle.step_laws.proofs.Told.{told_aside}
use Rattle.call_laws.specs.Untold.{Untold}
use Rattle.cache_model.specs.Contents.{AnyContents, Contents}
use Rattle.call_laws.specs.Moments.{At, NothingKnown, permit_of}
use Rattle.call_laws.specs.Progress.{AllDone}
use Rattle.call_laws.specs.Serves.{InStep, IsCall, ServesFrom, Upshots}
use Rattle.call_laws.proofs.Grown.{shown_first}
use Rattle.call_laws.proofs.Joined.{call_as, call_then, state_behind}
use Rattle.call_laws.proofs.Kept.{tells_or_not}
use Rattle.cache_calls.specs.declared.calls.Calls.{Ghosts as CallsGhosts}
use Rattle.cache_answers.specs.declared.answers.NextPiece.{NextPiece}
use Rattle.cache_answers.specs.declared.answers.NextPiece.TheVariants as piece
use Rattle.cache_calls.specs.Actors.{IsReaderOf, ReaderSeen, as_row, row_by}
use Rattle.cache_model.specs.Subjects.{IsOfReader}
use Rattle.cache_calls.specs.Adds.{AddsOnly}
use Rattle.cache_calls.specs.Keeping.{IsAtRest, state_at}
use Rattle.cache_calls.specs.Readers.{GoesOnReading, HasRead, IsBehindAnswer, IsFragment, IsGivenAs, IsToldTo, ReaderGoesOn, listed_length, next_trouble, noted, read_adds}
use Rattle.cache_calls.specs.Standing.{GivesAsTold, GivesPayload, StaysStanding}
use Rattle.call_laws.proofs.Whole.{encloses_own}
use Rattle.cache_calls.proofs.Others.{reads_leave_others}
use Rattle.script_run.specs.Run.{Run, Stream}
use Rattle.script_run.specs.Turn.{is_told, later, lookup_in, told_in}
use Rattle.script_run.specs.Answers.{broken_said}
use Rattle.script_run.specs.Own.{AreOwn, IsPlacedAs, piece_of}
use Rattle.script_run.proofs.OnlyReading.{reads_own}
use Rattle.script_run.proofs.Reading.{all_is_given, read_is_own}
use Rattle.script_grammar.specs.declared.answer.StepAnswer.{StepAnswer}
use Rattle.script_grammar.specs.declared.answer.StepAnswer.TheVariants as answer
use Rattle.cache_replay.proofs.Frames.{same_added}
use Rattle.cache_replay.proofs.NextLine.{later_none}
use Rattle.line_calls.proofs.OwnContents.{given_is_own, tells_own}
use Rattle.line_calls.proofs.SameGeometry.{grown_same}
use Rattle.line_calls.proofs.Whole.{later_shows}
use Rattle.cache_replay.specs.Getting.{AnswersGet, ComesOfCache, GetIsAnswered, IsHit, IsKnownTo, IsUnderway, Knowing, Underway, rows_to_give}
use Rattle.line_calls.specs.Standing.{OwnStands, own_contents}

-- ---- what was answered among records

later_later : (a b c : Option Rec) → later a (later b c) ≡ later (later a b) c
later_later a b None = refl
later_later a b (Some r) = refl

told_append : (a b : List Rec) → told_in (a ++ b) ≡ later (told_in a) (told_in b)
told_append [] b = sym (later_none (told_in b))
told_append (r ∷ a) b = ap (later (is_told r)) (told_append a b) ∙ later_later (is_told r) (told_in a) (told_in b)

abbrev first_of : Option ReadAnswer → Option ReadAnswer → Option ReadAnswer
first_of (Some x) o = Some x
first_of None o = o

first_none : (o : Option ReadAnswer) → first_of o None ≡ o
first_none None = refl
first_none (Some x) = refl

lookup_append : (a b : List Rec) → lookup_in (a ++ b) ≡ first_of (lookup_in a) (lookup_in b)
lookup_append [] b = refl
lookup_append (rec.ReadOpened reader actor key request answer ∷ a) b = refl
lookup_append (rec.Formatted geometry ∷ a) b = lookup_append a b
lookup_append (rec.Opened geometry serial cursor floor next_put clean list ∷ a) b = lookup_append a b
lookup_append (rec.Began cursor floor ∷ a) b = lookup_append a b
lookup_append (rec.Placed piece place blocks digest pin ∷ a) b = lookup_append a b
lookup_append (rec.Moved piece from place digest ∷ a) b = lookup_append a b
lookup_append (rec.Unsaved piece place fault ∷ a) b = lookup_append a b
lookup_append (rec.Displaced piece segment live ∷ a) b = lookup_append a b
lookup_append (rec.Damaged piece place kept other ∷ a) b = lookup_append a b
lookup_append (rec.WriteOpened actor put key request response pin ∷ a) b = lookup_append a b
lookup_append (rec.Cut put index size digest ∷ a) b = lookup_append a b
lookup_append (rec.Committed put key size listed ∷ a) b = lookup_append a b
lookup_append (rec.Aborted put key ∷ a) b = lookup_append a b
lookup_append (rec.Removed put key ∷ a) b = lookup_append a b
lookup_append (rec.Gave reader index size ∷ a) b = lookup_append a b
lookup_append (rec.Ended reader size ∷ a) b = lookup_append a b
lookup_append (rec.Waited reader cut ∷ a) b = lookup_append a b
lookup_append (rec.Broke reader why ∷ a) b = lookup_append a b
lookup_append (rec.ReadClosed reader ∷ a) b = lookup_append a b
lookup_append (rec.SyncBegun serial cursor clean in_parts ∷ a) b = lookup_append a b
lookup_append (rec.SyncDone serial ∷ a) b = lookup_append a b
lookup_append (rec.Fault count ∷ a) b = lookup_append a b

pub lookup_first : (a b : List Rec) (x : ReadAnswer) → lookup_in a ≡ Some x → lookup_in (a ++ b) ≡ Some x
lookup_first a b x h = lookup_append a b ∙ ap (λ (o : Option ReadAnswer). first_of o (lookup_in b)) h

pub lookup_stays : (a b : List Rec) → lookup_in b ≡ None → lookup_in (a ++ b) ≡ lookup_in a
lookup_stays a b h = lookup_append a b ∙ (ap (first_of (lookup_in a)) h ∙ first_none (lookup_in a))

told_one : (n : ℕ) (a : NextAnswer) → told_in (answer_record n a ∷ []) ≡ Some (answer_record n a)
told_one n (next.Gave index size) = refl
told_one n (next.Ended size) = refl
told_one n (next.Waited cut) = refl
told_one n (next.Broke why) = refl

-- the answer of a reader that reads on is what it was told last
told_last : (added before : List Rec) (n : ℕ) (a : NextAnswer) → told_in (added ++ (before ++ answer_record n a ∷ [])) ≡ Some (answer_record n a)
told_last added before n a =
    told_append added (before ++ answer_record n a ∷ [])
    ∙ ap (later (told_in added)) (told_append before (answer_record n a ∷ []) ∙ ap (later (told_in before)) (told_one n a))

-- ---- the answer of a group

abbrev last_of : Rec → List Rec → Rec
last_of x [] = x
last_of x (y ∷ ys) = last_of y ys

last_is : (a : List Rec) (x y : Rec) → last_of y (a ++ x ∷ []) ≡ x
last_is [] x y = refl
last_is (z ∷ a) x y = last_is a x z

abbrev as_answer : Rec → Option NextAnswer
as_answer (rec.Gave reader index size) = Some (next.Gave index size)
as_answer (rec.Ended reader size) = Some (next.Ended size)
as_answer (rec.Waited reader cut) = Some (next.Waited cut)
as_answer (rec.Broke reader why) = Some (next.Broke why)
as_answer _ = None

answer_is : (n : ℕ) (a : NextAnswer) → as_answer (answer_record n a) ≡ Some a
answer_is n (next.Gave index size) = refl
answer_is n (next.Ended size) = refl
answer_is n (next.Waited cut) = refl
answer_is n (next.Broke why) = refl

same_answer : (a b : List Rec) (n : ℕ) (x y : NextAnswer) → a ++ answer_record n x ∷ [] ≡ b ++ answer_record n y ∷ [] → y ≡ x
same_answer a b n x y h =
    let same : answer_record n x ≡ answer_record n y =
    sym (last_is a (answer_record n x) (rec.Fault 0)) ∙ (ap (last_of (rec.Fault 0)) h ∙ last_is b (answer_record n y) (rec.Fault 0)) in
    same_some y x (Some y) refl (sym (answer_is n y) ∙ (ap as_answer (sym same) ∙ answer_is n x))

may_read : (p : Permit) (s : State) (n : ℕ) (before : List Rec) (a : NextAnswer) → Does p s (ReadOn n) (before ++ answer_record n a ∷ []) Done
    → MayReadOn p s n a (before ++ answer_record n a ∷ [])
may_read p s n before a (Legal.DoesReadOn.reads_on x m) = subst (λ y. MayReadOn p s n y (before ++ answer_record n a ∷ [])) (same_answer before m.before n a x m.is) m

hit_is : (s : State) (r : ReaderSeen) → IsReaderOf s r → is_some r.table ≡ true → has_hit s r.reader ≡ true
hit_is s r own hit = ap (λ (o : Option ReaderRow). is_some (option_and_then (λ (x : ReaderRow). x.table) o)) own.found ∙ hit

reads_all : (p : Permit) (s : State) (r : ReaderSeen) (before : List Rec) (a : NextAnswer) → IsReaderOf s r → is_some r.table ≡ true
    → Does p s (ReadOn r.reader) (before ++ answer_record r.reader a ∷ []) Done
    → Does p s (ReadAll r.reader) (before ++ answer_record r.reader a ∷ []) (cond (is_given a) Stays Done)
reads_all p s r before a own hit d = Legal.DoesReadAll.reads_on a (hit_is s r own hit) (may_read p s r.reader before a d) refl

-- the verdict on a reader that hit something
fragment_waits : (s : State) (r : ReaderRow) (entry : TableRow) (o : Option Row) (n : ℕ)
    → unwrap_or (option_map (λ (live : Row). next.Gave r.next entry.length) o) (next.Broke (Verdict.cause_of_piece s (next_piece r))) ≡ next.Waited n → ⊥
fragment_waits s r entry (Some row) n h = cc
fragment_waits s r entry None n h = cc

end_waits : (s : State) (r : ReaderRow) (o : Option (List TableRow)) (n : ℕ) → is_some o ≡ true → Verdict.verdict_at_end s r o ≡ next.Waited n → ⊥
end_waits s r (Some table) n hit h = cc
end_waits s r None n hit h = no_truth (sym hit)

waits_none : (s : State) (r : ReaderRow) (o : Option TableRow) (n : ℕ) → is_some r.table ≡ true
    → unwrap_or (option_map (Verdict.verdict_of_fragment s r) o) (Verdict.verdict_at_end s r r.table) ≡ next.Waited n → ⊥
waits_none s r (Some entry) n hit h = fragment_waits s r entry (live_row_of s (next_piece r)) n h
waits_none s r None n hit h = end_waits s r r.table n hit h

never_waits : (p : Permit) (s : State) (r : ReaderRow) (before : List Rec) (a : NextAnswer) (n : ℕ) → is_some r.table ≡ true → a ≡ next.Waited n → IsReading p s r before a → ⊥
never_waits p s r before a n hit e (Legal.IsReading.verdict x listed) = waits_none s r (next_row s r) n hit e
never_waits p s r before a n hit e (Legal.IsReading.trouble entry row b why m live t) = cc

ends_behind : (p : Permit) (s : State) (r : ReaderRow) (before : List Rec) (a : NextAnswer) (n : ℕ) → a ≡ next.Ended n → IsReading p s r before a → next_row s r ≡ None
ends_behind p s r before a n e (Legal.IsReading.verdict x listed) = end_is_whole s r n e
ends_behind p s r before a n e (Legal.IsReading.trouble entry row b why m live t) = cc

-- ---- bytes

pub more_front : (fragment index : ℕ) (bytes body part : List ℕ) → 1 ≤ index → body ≡ take ((index - 1) * fragment) bytes → part ≡ piece_of fragment bytes index
    → body ++ part ≡ take ((index + 1 - 1) * fragment) bytes
more_front fragment index bytes body part some front here =
    let e : index + 1 - 1 ≡ (index - 1) + 1 = omega arith in
    let one : 1 * fragment ≡ fragment = omega arith in
    let size : (index + 1 - 1) * fragment ≡ (index - 1) * fragment + fragment =
    ap (λ n. n * fragment) e ∙ (add-mul (index - 1) 1 fragment ∙ ap (λ n. (index - 1) * fragment + n) one) in
    ap (λ xs. xs ++ part) front ∙ (ap (λ xs. take ((index - 1) * fragment) bytes ++ xs) here
    ∙ (sym (take-add ((index - 1) * fragment) fragment bytes) ∙ ap (λ n. take n bytes) (sym size)))

-- ---- what is read next

-- the fragment that a reader takes next, where it is live
pub next_reads : (s : State) (n : ℕ) (r : ReaderRow) (entry : TableRow) (row : Row) → reader_of s n ≡ Some r → next_row s r ≡ Some entry
    → live_row_of s (next_piece r) ≡ Some row → to_read s (ReadOn n) ≡ Some row
next_reads s n r entry row found cut live =
    ap (option_and_then (live_next s)) found ∙ (ap (option_and_then (λ (e : TableRow). live_row_of s (next_piece r))) cut ∙ live)

-- the same of one that hit something and reads to the end
all_reads : (s : State) (n : ℕ) → has_hit s n ≡ true → to_read s (ReadAll n) ≡ to_read s (ReadOn n)
all_reads s n hit = ap (λ (b : Bool). if b then to_read s (ReadOn n) else None) hit

-- ---- one call behind another

-- what comes of both, where no pair is shown in the first
pub knows_then : {now : ℕ} {run : Run} {asks : List Intent} {stands : Contents → Type 0} {first a b : At} {one last all : Upshots} → IsAfter a.device b.device
    → ((p : Permit) (earlier calls more : List Call) (added others : List Rec) → OwnStands run.streams (state_of first.kept) stands
    → one (record { step = p; earlier = earlier; calls = calls; state = state_of first.kept; added = added })
    → last (record { step = p; earlier = calls ++ earlier; calls = more; state = after_all (state_of first.kept) added; added = others })
    → all (record { step = p; earlier = earlier; calls = more ++ calls; state = state_of first.kept; added = added ++ others })
    ⊎ ShowsPair (Untold b.device (IsPlacedAs run.streams)) p (state_of first.kept) asks (added ++ others))
    → IsCall now first a (Knowing stands a.device run asks one) → IsCall now a b last → IsCall now first b (Knowing stands b.device run asks all)
knows_then {run = run} {asks = asks} {first = first} {a = a} {b = b} goes law f l = call_then (λ p earlier calls more added others known next. λ is standing.
    elim (known is standing) [
      | inr pair ↦ inr (later_shows run.streams a.device b.device goes p (state_of first.kept) asks (added ++ others)
          (shown_first (Untold a.device (IsPlacedAs run.streams)) p (state_of first.kept) (to_do asks) added others pair))
      | inl way ↦ law p earlier calls more added others standing way next
    ]) f l

-- what is asked alone, and is done by one group
abbrev pub IsDoneAtOnce : Intent → Type 0
IsDoneAtOnce i = (p : Permit) (s : State) (added : List Rec) (e : End) → Does p s i added e → e ≡ Done

pub one_done : (i : Intent) → IsDoneAtOnce i → (p : Permit) (s : State) (added : List Rec) → MayGrow p s (to_do (i ∷ [])) added (to_do []) → Does p s i added Done
one_done i done p s added grows =
    let d : (e : End) × Does p s i added e = alone p s i added None (λ recs e does stays. clash (sym (done p s recs e does) ∙ stays)) grows in
    subst (λ e. Does p s i added e) (done p s added d.0 d.1) d.1
  where
    clash : Done ≡ Stays → ⊥
    clash e = cc

none_left : (p : Permit) {s : State} {w after : Work} {added : List Rec} → w.intents ≡ [] → MayGrow p s w added after → after.intents ≡ []
none_left p e nothing = e
none_left p {s} {w} e (more added between one others) = absurd (subst (λ is. Advances p s is w.refused added between) e one)

-- a pair that it shows is shown before its group
pub one_pair : (P : Documents) (i : Intent) → IsDoneAtOnce i → (p : Permit) (s : State) (added : List Rec) → ShowsPair P p s (i ∷ []) added → IsPair P p s i
one_pair P i done p s added h = elim (seen h.grows) [
  | inl e ↦ subst (λ (w : Work). IsPairNext P p s w.intents) (sym e.1) (subst (λ recs. IsPairNext P p (after_all s recs) h.left.intents) e.0 h.pair)
  | inr v ↦
      let over : v.between.intents ≡ [] =
      ap (λ (w : Work). w.intents) (v.first.2 ∙ ap (work_after i [] None) (done p s v.added v.first.0 v.first.1)) in
      absurd (subst (λ is. IsPairNext P p (after_all s h.before) is) (none_left p over v.behind) h.pair)
]

-- one group behind the others
pub grown : (p : Permit) (s t : State) (a b : List Rec) (w : Work) (i : Intent) (rest : List Intent) (e : End) → after_all s a ≡ t
    → MayGrow p s w a (to_do (i ∷ rest)) → Does p t i b e → MayGrow p s w (a ++ b) (work_after i rest None e)
grown p s t a b w i rest e is grows d =
    grows_on grows (subst (λ u. MayGrow p u (to_do (i ∷ rest)) b (work_after i rest None e)) (sym is) (grows_by p t (to_do (i ∷ rest)) _ b (e, d, refl)))

-- a pair of a vector is one of a piece
pub placed_pair : (streams : ℕ → Stream) (last : Device) (p : Permit) (s : State) (i : Intent) → IsPair (Untold last IsVectorAs) p s i
    → IsPair (Untold last (IsPlacedAs streams)) p s i
placed_pair streams last p s i pair =
    also_pair (Untold last IsVectorAs) (Untold last (IsPlacedAs streams)) (λ s row document is. (inl is.0, is.1)) p s i pair

-- what is read for a reader that reads on
on_reads : (p : Permit) (s : State) (n : ℕ) (row : Row) → IsToRead p s (ReadOn n) row → to_read s (ReadOn n) ≡ Some row
on_reads p s n row (ToRead.IsToRead.asked_for found) = found
on_reads p s n row (ToRead.IsToRead.copied first can came) = no_truth (sym first)

-- ---- a reader is closed behind its answer

-- its record closes it
record Closing (n : ℕ) (c : InStep) : Type 0 where
  does : Does c.step c.state (StopReading n) c.added Done
  is : c.added ≡ rec.ReadClosed n ∷ []

pub closes_hit : {S W R : Type 0} (c : CallsGhosts S W R) {first a b : S} {asks : List Intent} {given : List ℕ} {said : StepAnswer} {served : ℕ → Upshots}
    (n : ℕ) (row : ReaderRow)
    → IsQuiet (state_at (c.at a)) → reader_of (state_at (c.at a)) n ≡ Some row → (c.at b).kept ≡ with_records (c.at a).kept (rec.ReadClosed n ∷ [])
    → IsAfter (c.at a).device (c.at b).device → ((now : ℕ) → IsCall now (c.at a) (c.at b) (served now))
    → GetIsAnswered c first a asks (StopReading n ∷ []) given said → GetIsAnswered c first b asks [] given said
closes_hit c {first = first} {a = a} {b = b} {asks = asks} n row quiet found adds goes serves answered = λ now run.
    let closing : IsCall now (c.at a) (c.at b) (Closing n) = call_as (λ p earlier calls added step happens h.
    let is : added ≡ rec.ReadClosed n ∷ [] = same_added (c.at a).kept (c.at b).kept added (rec.ReadClosed n ∷ []) happens.adds adds in
    record { does = Legal.DoesStopReading.closes row quiet found is; is = is }) (serves now) in
    knows_then goes (λ p earlier calls more added others standing way last.
    let told : told_in (added ++ others) ≡ told_in added = ap (λ recs. told_in (added ++ recs)) last.is ∙ told_append added (rec.ReadClosed n ∷ []) in
    let found : lookup_in (added ++ others) ≡ lookup_in added =
    ap (λ recs. lookup_in (added ++ recs)) last.is ∙ lookup_stays added (rec.ReadClosed n ∷ []) refl in
    inl (record {
      grows = grown p (state_at (c.at first)) (after_all (state_at (c.at first)) added) added others (to_do asks) (StopReading n) [] Done refl way.grows last.does;
      body = rw (told, found) way.body;
      says = rw (told, found) way.says;
    })) (answered now run) closing

-- ---- a call that reads on

reads_done : (n : ℕ) → IsDoneAtOnce (ReadOn n)
reads_done n p s added e (Legal.DoesReadOn.reads_on a m) = refl

-- vectors list their alternates behind it, as before
reads_tell : (p : Permit) (s : State) (n : ℕ) (added : List Rec) → Does p s (ReadOn n) added Done → AreTold s → AreTold (after_all s added)
reads_tell p s n added (Legal.DoesReadOn.reads_on a m) told = told_aside s added (subst AllAside (sym m.is) (reading_on_aside p s n a added m)) told

-- it is one of this state, by these records, which may come there, or a pair is shown; a fragment that it gives is that of the records
record ReadsIn (last : Device) (s : State) (r : ReaderSeen) (a : NextPiece) (into : List ℕ) (c : InStep) : Type 0 where
  state : c.state ≡ s
  is : c.added ≡ read_adds s r a
  does : AreTold s → IsReaderOf s r
      → Does c.step s (ReadOn r.reader) (read_adds s r a) Done ⊎ IsPair (Untold last IsVectorAs) c.step s (ReadOn r.reader)
  given : IsGivenAs c.step s r a into

reads_in : {now : ℕ} {a b : At} {r : ReaderSeen} {next : NextPiece} {into : List ℕ} → HasRead a b r next into
    → ServesFrom (Untold b.device IsVectorAs) now a b (ReadOn r.reader ∷ []) AllDone (IsToldTo r) NothingKnown
    → IsCall now a b (ReadsIn b.device (state_at a) r next into)
reads_in {now} {a} {b} {r} {next} {into} reads serves = call_as (λ p earlier calls added step happens h.
    let is : added ≡ read_adds (state_at a) r next = same_added a.kept b.kept added (read_adds (state_at a) r next) happens.adds reads.adds in
    record {
      state = refl;
      is = is;
      does = λ told own. elim (h.from (told, own)) [
        | inl v ↦ inl (subst (λ recs. Does p (state_at a) (ReadOn r.reader) recs Done) is (one_done (ReadOn r.reader) (reads_done r.reader) p (state_at a) added v.spends))
        | inr pair ↦ inr (one_pair (Untold b.device IsVectorAs) (ReadOn r.reader) (reads_done r.reader) p (state_at a) added pair)
      ];
      given = reads.given now p earlier calls happens.past step;
    }) serves

-- ---- the step

module _ (p : Permit) (earlier calls : List Call) (run : Run) (last : Device) (asks : List Intent) (s0 s t : State) (added : List Rec) (r : ReaderSeen)
    (body : List ℕ)
    (at : after_all s0 added ≡ s) (way : Underway asks r body run (record { step = p; earlier = earlier; calls = calls; state = s0; added = added }))
    (hit : is_some r.table ≡ true) (some : 1 ≤ r.next) where
  told_there : AreTold s
  told_there = subst AreTold at way.known.told

  own_there : AreOwn s run.streams
  own_there = subst (λ u. AreOwn u run.streams) at way.known.own

  reader_there : IsReaderOf s r
  reader_there = subst (λ u. IsReaderOf u r) at way.reader

  abbrev adds_of : NextPiece → List Rec
  adds_of a = read_adds s r a

  abbrev ReadsAs : NextPiece → Type 0
  ReadsAs a = Does p s (ReadOn r.reader) (adds_of a) Done

  -- bodies are cut as they were where the read began
  geometry_there : s.geometry ≡ s0.geometry
  geometry_there = ap (λ (u : State). u.geometry) (sym at) ∙ grown_same way.grows

  -- pairs are of pieces, on a device that did not tell its content
  abbrev Placed : Documents
  Placed = Untold last (IsPlacedAs run.streams)

  -- a pair of what is read next
  shows_read : (a : NextPiece) → IsPair Placed p s (ReadOn r.reader) → ShowsPair Placed p s0 asks (added ++ adds_of a)
  shows_read a pair =
      let all : IsPair Placed p s (ReadAll r.reader) = record {
        row = pair.row;
        read = IsToRead.asked_for (all_reads s r.reader (hit_is s r reader_there hit) ∙ on_reads p s r.reader pair.row pair.read);
        pair = pair.pair;
      } in
      record {
        before = added;
        rest = adds_of a;
        left = to_do (ReadAll r.reader ∷ StopReading r.reader ∷ []);
        is = refl;
        grows = way.grows;
        pair = subst (λ u. IsPair Placed p u (ReadAll r.reader)) (sym at) all;
      }

  group_of : (a : NextPiece) → ReadsAs a → Does p s (ReadAll r.reader) (adds_of a) (cond (is_given (noted (listed_length s r) a)) Stays Done)
  group_of a d = reads_all p s r (next_trouble (live_next s (as_row r)) a) (noted (listed_length s r) a) reader_there hit d

  reading_of : (a : NextPiece) → ReadsAs a → MayReadOn p s r.reader (noted (listed_length s r) a) (adds_of a)
  reading_of a d = may_read p s r.reader (next_trouble (live_next s (as_row r)) a) (noted (listed_length s r) a) d

  -- the reader of the records is the one at hand
  row_is : (a : NextPiece) (m : MayReadOn p s r.reader (noted (listed_length s r) a) (adds_of a)) → m.r ≡ row_by reader_there.actor r
  row_is a m = same_some m.r (row_by reader_there.actor r) (reader_of s r.reader) m.reading reader_there.found

  hit_behind : (a : NextPiece) → lookup_in (added ++ adds_of a) ≡ Some (read.Hit r.put)
  hit_behind a = lookup_first added (adds_of a) (read.Hit r.put) way.hit

  told_behind : (a : NextPiece) → told_in (added ++ adds_of a) ≡ Some (answer_record r.reader (noted (listed_length s r) a))
  told_behind a = told_last added (next_trouble (live_next s (as_row r)) a) r.reader (noted (listed_length s r) a)

  -- what is left behind an answer that gives nothing
  stop_grows : (a : NextPiece) → is_given (noted (listed_length s r) a) ≡ false → ReadsAs a
      → MayGrow p s0 (to_do asks) (added ++ adds_of a) (to_do (StopReading r.reader ∷ []))
  stop_grows a none d = grown p s0 s added (adds_of a) (to_do asks) (ReadAll r.reader) (StopReading r.reader ∷ []) Done at way.grows
      (subst (λ x. Does p s (ReadAll r.reader) (adds_of a) (cond x Stays Done)) none (group_of a d))

  end_way : (size : ℕ) → IsQuiet s → ReadsAs (piece.End size)
      → AnswersGet asks (StopReading r.reader ∷ []) body (answer.Got r.put size body) run
      (record { step = p; earlier = earlier; calls = calls; state = s0; added = added ++ adds_of (piece.End size) })
  end_way size quiet d =
      let m = reading_of (piece.End size) d in
      let none : next_row s (row_by reader_there.actor r) ≡ None =
      subst (λ (x : ReaderRow). next_row s x ≡ None) (row_is (piece.End size) m) (ends_behind p s m.r m.before (next.Ended size) size refl m.right) in
      let front : body ≡ take ((r.next - 1) * s.geometry.fragment) (run.streams r.put).bytes =
      subst (λ (u : State). body ≡ take ((r.next - 1) * u.geometry.fragment) (run.streams r.put).bytes) at way.front in
      record {
        grows = stop_grows (piece.End size) refl d;
        body = rw (told_behind (piece.End size), hit_behind (piece.End size)) (front ∙ all_of r.table refl hit none);
        says = rw (told_behind (piece.End size), hit_behind (piece.End size)) refl;
      }
    where
      all_of : (o : Option (List TableRow)) → r.table ≡ o → is_some o ≡ true → next_row s (row_by reader_there.actor r) ≡ None
          → take ((r.next - 1) * s.geometry.fragment) (run.streams r.put).bytes ≡ (run.streams r.put).bytes
      all_of None e h none = no_truth (sym h)
      all_of (Some rows) e h none = all_is_given s run.streams r.reader (row_by reader_there.actor r) rows own_there quiet some reader_there.found e none

  broken_way : (why : Cause) → ReadsAs (piece.Broken why)
      → AnswersGet asks (StopReading r.reader ∷ []) [] (broken_said why) run
      (record { step = p; earlier = earlier; calls = calls; state = s0; added = added ++ adds_of (piece.Broken why) })
  broken_way why d = record {
    grows = stop_grows (piece.Broken why) refl d;
    body = rw (told_behind (piece.Broken why)) refl;
    says = rw (told_behind (piece.Broken why), hit_behind (piece.Broken why)) refl;
  }

  waits_way : {X : Type 0} (cut : ℕ) → ReadsAs (piece.NotYet cut) → X
  waits_way cut d =
      let m = reading_of (piece.NotYet cut) d in
      absurd (never_waits p s m.r m.before (next.Waited cut) cut (ap (λ (x : ReaderRow). is_some x.table) (row_is (piece.NotYet cut) m) ∙ hit) refl m.right)

  -- what is known behind a piece
  known_behind : (a : NextPiece) → t ≡ after_all s (adds_of a) → ReadsAs a → IsKnownTo run t
  known_behind a is d = record {
    told = subst AreTold (sym is) (reads_tell p s r.reader (adds_of a) d told_there);
    own = subst (λ u. AreOwn u run.streams) (sym is) (reads_own p s run.streams (ReadOn r.reader) (adds_of a) Done refl own_there d);
  }

  -- a fragment is given as that is told, where the device told its content
  abbrev GivesOwn : (index size : ℕ) (into : List ℕ) → Type 0
  GivesOwn index size into =
      GivesPayload (own_contents s0.geometry.fragment run.streams) (live_next s (as_row r)) (Ok (piece.Piece index size)) into ⊎ (TellsAll last → ⊥)

  -- so it is that part of what the put's writer took, or such a pair is shown
  is_own : (index size : ℕ) (into : List ℕ) → IsFragment p s r index size into → GivesOwn index size into
      → (take size into ≡ piece_of s.geometry.fragment (run.streams r.put).bytes r.next) ⊎ IsPair Placed p s (ReadOn r.reader)
  is_own index size into f (inl gives) = inl (subst (λ (g : Geometry). take size into ≡ piece_of g.fragment (run.streams r.put).bytes r.next) (sym geometry_there)
      (given_is_own s run.streams r s0.geometry.fragment index size into f.entry f.row own_there some f.cut f.live gives))
  is_own index size into f (inr untold) = elim (read_is_own p s run.streams (as_row r) f.row size into own_there some f.live f.document) [
    | inl same ↦ inl same
    | inr pair ↦ inr (record {
      row = f.row;
      read = IsToRead.asked_for (next_reads s r.reader (row_by reader_there.actor r) f.entry f.row reader_there.found f.cut f.live);
      pair = also_pair_of (IsPlacedAs run.streams) Placed (λ u row document is. (is, untold)) p s f.row pair;
    })
  ]

  piece_way : (index size : ℕ) (into : List ℕ) (r2 : ReaderSeen) → t ≡ after_all s (adds_of (piece.Piece index size)) → t.geometry ≡ s.geometry
      → IsBehindAnswer r (piece.Piece index size) r2 → IsReaderOf t r2 → IsFragment p s r index size into → GivesOwn index size into → ReadsAs (piece.Piece index size)
      → Underway asks r2 (body ++ take size into) run (record { step = p; earlier = earlier; calls = calls; state = s0; added = added ++ adds_of (piece.Piece index size) })
      ⊎ ShowsPair Placed p s0 asks (added ++ adds_of (piece.Piece index size))
  piece_way index size into r2 is geometry goes own f gives d =
      let a : NextPiece = piece.Piece index size in
      let there : t ≡ after_all s0 (added ++ adds_of a) = is ∙ (ap (λ u. after_all u (adds_of a)) (sym at) ∙ sym (after_all-append s0 added (adds_of a))) in
      elim (is_own index size into f gives) [
        | inr pair ↦ inr (shows_read a pair)
        | inl same ↦ inl (record {
          grows = subst (λ n. MayGrow p s0 (to_do asks) (added ++ adds_of a) (to_do (ReadAll n ∷ StopReading n ∷ []))) (sym goes.reader)
              (grown p s0 s added (adds_of a) (to_do asks) (ReadAll r.reader) (StopReading r.reader ∷ []) Stays at way.grows (group_of a d));
          known = subst (IsKnownTo run) there (known_behind a is d);
          reader = subst (λ u. IsReaderOf u r2) there own;
          hit = hit_behind a ∙ ap (λ n. Some (read.Hit n)) (sym goes.put);
          front = subst (λ (u : State). body ++ take size into ≡ take ((r2.next - 1) * u.geometry.fragment) (run.streams r2.put).bytes) there (front_behind same);
        })
      ]
    where
      front_behind : take size into ≡ piece_of s.geometry.fragment (run.streams r.put).bytes r.next
          → body ++ take size into ≡ take ((r2.next - 1) * t.geometry.fragment) (run.streams r2.put).bytes
      front_behind same =
          let front : body ≡ take ((r.next - 1) * s.geometry.fragment) (run.streams r.put).bytes =
          subst (λ (u : State). body ≡ take ((r.next - 1) * u.geometry.fragment) (run.streams r.put).bytes) at way.front in
          more_front s.geometry.fragment r.next (run.streams r.put).bytes body (take size into) some front same
          ∙ (ap (λ n. take ((n - 1) * s.geometry.fragment) (run.streams r.put).bytes) (sym goes.next)
          ∙ (ap (λ (g : Geometry). take ((r2.next - 1) * g.fragment) (run.streams r.put).bytes) (sym geometry)
          ∙ ap (λ n. take ((r2.next - 1) * t.geometry.fragment) (run.streams n).bytes) (sym goes.put)))

-- ---- calls

-- a reader was read on, at any moment
abbrev pub ServedOn : (a b : At) → ReaderSeen → Type 0
ServedOn a b r = (now : ℕ) → ServesFrom (Untold b.device IsVectorAs) now a b (ReadOn r.reader ∷ []) AllDone (IsToldTo r) NothingKnown

module _ {S W R : Type 0} {c : CallsGhosts S W R} {first a b : S} {asks : List Intent} {r : ReaderSeen} {body into : List ℕ} (rest : IsAtRest (c.at a))
    (hit : is_some r.table ≡ true) (some : 1 ≤ r.next) (goes_on : IsAfter (c.at a).device (c.at b).device) (under : IsUnderway c first a asks r body) where
  -- what comes of it, where what was read comes to that
  read_then : (all : Run → Upshots) (next : NextPiece) → HasRead (c.at a) (c.at b) r next into → ServedOn (c.at a) (c.at b) r
      → ((run : Run) (p : Permit) (earlier calls more : List Call) (added : List Rec) (at : after_all (state_at (c.at first)) added ≡ state_at (c.at a))
      → OwnStands run.streams (state_at (c.at first)) (c.stands first)
      → Underway asks r body run (record { step = p; earlier = earlier; calls = calls; state = state_at (c.at first); added = added })
      → IsGivenAs p (state_at (c.at a)) r next into → Does p (state_at (c.at a)) (ReadOn r.reader) (read_adds (state_at (c.at a)) r next) Done
      → all run (record { step = p; earlier = earlier; calls = more ++ calls; state = state_at (c.at first); added = added ++ read_adds (state_at (c.at a)) r next })
      ⊎ ShowsPair (Untold (c.at b).device (IsPlacedAs run.streams)) p (state_at (c.at first)) asks (added ++ read_adds (state_at (c.at a)) r next))
      → ComesOfCache c first b asks all
  read_then all next reads serves law now run = knows_then goes_on (λ p earlier calls more added others standing way last.
      subst (λ recs. all run (record { step = p; earlier = earlier; calls = more ++ calls; state = state_at (c.at first); added = added ++ recs })
      ⊎ ShowsPair (Untold (c.at b).device (IsPlacedAs run.streams)) p (state_at (c.at first)) asks (added ++ recs)) (sym last.is)
      (elim (last.does (told_there p earlier calls run (c.at b).device asks (state_at (c.at first)) (state_at (c.at a)) (state_at (c.at b)) added r body
      last.state way hit some) (reader_there p earlier calls run (c.at b).device asks (state_at (c.at first)) (state_at (c.at a)) (state_at (c.at b)) added r body
      last.state way hit some)) [
        | inl d ↦ law run p earlier calls more added last.state standing way last.given d
        | inr pair ↦ inr (shows_read p earlier calls run (c.at b).device asks (state_at (c.at first)) (state_at (c.at a)) (state_at (c.at b)) added r body
            last.state way hit some next (placed_pair run.streams (c.at b).device p (state_at (c.at a)) (ReadOn r.reader) pair))
      ])) (under.comes now run) (reads_in reads (serves now))

  pub piece_comes : (index size : ℕ) (r2 : ReaderSeen) → HasRead (c.at a) (c.at b) r (piece.Piece index size) into → ServedOn (c.at a) (c.at b) r
      → AddsOnly (IsOfReader r.reader) (c.at a) (c.at b) → IsBehindAnswer r (piece.Piece index size) r2
      → (IsReaderOf (state_at (c.at a)) r → IsReaderOf (state_at (c.at b)) r2)
      → GivesAsTold c.at c.stands a b r (Ok (piece.Piece index size)) into → StaysStanding c.stands AnyContents a b
      → IsUnderway c first b asks r2 (body ++ take size into)
  piece_comes index size r2 reads serves own goes keeps exact stands = record {
    comes = read_then _ (piece.Piece index size) reads serves (λ run p earlier calls more added at standing way given d.
        piece_way p earlier (more ++ calls) run (c.at b).device asks (state_at (c.at first)) (state_at (c.at a)) (state_at (c.at b)) added r body at
        (record { grows = way.grows; known = way.known; reader = way.reader; hit = way.hit; front = way.front }) hit some index size into r2
        (state_behind (c.at a).kept (c.at b).kept (read_adds (state_at (c.at a)) r (piece.Piece index size)) reads.adds)
        (reads_leave_others r.reader (c.at a) (c.at b) own).geometry goes (keeps (subst (λ u. IsReaderOf u r) at way.reader)) given (gives run standing) d);
    stands = λ contents any stood. stands contents any (under.stands contents any stood);
  }
    where
      -- what writers took stands since the read began, so that a device that told its content gives that
      gives : (run : Run) → OwnStands run.streams (state_at (c.at first)) (c.stands first)
          → GivesPayload (own_contents (state_at (c.at first)).geometry.fragment run.streams) (live_next (state_at (c.at a)) (as_row r))
          (Ok (piece.Piece index size)) into ⊎ (TellsAll (c.at b).device → ⊥)
      gives run standing = elim (tells_or_not (c.at b).device) [
        | inl tells ↦
            let contents : Contents = own_contents (state_at (c.at first)).geometry.fragment run.streams in
            inl (exact tells contents (under.stands contents tt (standing contents (tells_own run.streams (state_at (c.at first))))))
        | inr untold ↦ inr untold
      ]

  pub end_comes : (size : ℕ) → HasRead (c.at a) (c.at b) r (piece.End size) into → ServedOn (c.at a) (c.at b) r
      → GetIsAnswered c first b asks (StopReading r.reader ∷ []) body (answer.Got r.put size body)
  end_comes size reads serves = read_then _ (piece.End size) reads serves (λ run p earlier calls more added at standing way given d.
      inl (end_way p earlier (more ++ calls) run (c.at b).device asks (state_at (c.at first)) (state_at (c.at a)) (state_at (c.at b)) added r body at
      (record { grows = way.grows; known = way.known; reader = way.reader; hit = way.hit; front = way.front }) hit some size rest.quiet d))

  pub broken_comes : (why : Cause) → HasRead (c.at a) (c.at b) r (piece.Broken why) into → ServedOn (c.at a) (c.at b) r
      → GetIsAnswered c first b asks (StopReading r.reader ∷ []) [] (broken_said why)
  broken_comes why reads serves = read_then _ (piece.Broken why) reads serves (λ run p earlier calls more added at standing way given d.
      inl (broken_way p earlier (more ++ calls) run (c.at b).device asks (state_at (c.at first)) (state_at (c.at a)) (state_at (c.at b)) added r body at
      (record { grows = way.grows; known = way.known; reader = way.reader; hit = way.hit; front = way.front }) hit some why d))

  pub waits_comes : (all : Run → Upshots) (cut : ℕ) → HasRead (c.at a) (c.at b) r (piece.NotYet cut) into → ServedOn (c.at a) (c.at b) r → ComesOfCache c first b asks all
  waits_comes all cut reads serves = read_then all (piece.NotYet cut) reads serves (λ run p earlier calls more added at standing way given d.
      waits_way p earlier calls run (c.at b).device asks (state_at (c.at first)) (state_at (c.at a)) (state_at (c.at b)) added r body at way hit some cut d)

-- ---- the end

within_list : {X : Type 0} (xs : List X) (i : ℕ) (x : X) → slice_get xs i ≡ Some x → i < length xs
within_list [] i x h = none_is h
within_list (y ∷ xs) zero x h = omega arith
within_list (y ∷ xs) (suc i) x h = let k : i < length xs = within_list xs i x h in omega (arith, k)

rows_cut : (s : State) (r : ReaderSeen) (o : Option (List TableRow)) (entry : TableRow) → r.table ≡ o → is_some o ≡ true → next_row s (as_row r) ≡ Some entry
    → r.next - 1 < length (unwrap_or r.table [])
rows_cut s r None entry e hit cut = no_truth (sym hit)
rows_cut s r (Some rows) entry e hit cut =
    let there : slice_get rows (r.next - 1) ≡ Some entry = rw e at cut in
    rw e (within_list rows (r.next - 1) entry there)

-- ---- the fragment in the step of its call alone

module _ {a b : At} {r : ReaderSeen} {index size : ℕ} {into : List ℕ} (reads : HasRead a b r (piece.Piece index size) into)
    (made : List Call) (past : b.device.past ≡ made ++ a.device.past) where
  fragment_of : IsFragment (permit_of 0 a made) (state_at a) r index size into
  fragment_of = reads.given 0 (permit_of 0 a made) [] made past (encloses_own 0 a made)

  pub taken_is : length (take size into) ≡ size
  taken_is = let f = fragment_of in ap length f.document.payload ∙ sym f.document.size_is

  pub size_within : size ≤ length into
  size_within =
      let taken : length (take size into) ≡ min size (length into) = length-take size into in
      omega (arith, taken_is, taken)

  pub nearer : (r2 : ReaderSeen) → IsBehindAnswer r (piece.Piece index size) r2 → is_some r.table ≡ true → 1 ≤ r.next
      → rows_to_give r2 < rows_to_give r
  nearer r2 goes hit some =
      let f = fragment_of in
      let cut : r.next - 1 < length (unwrap_or r.table []) = rows_cut (state_at a) r r.table f.entry refl hit f.cut in
      let next : r2.next ≡ r.next + 1 = goes.next in
      let rows : length (unwrap_or r2.table []) ≡ length (unwrap_or r.table []) = ap (λ (t : Option (List TableRow)). length (unwrap_or t [])) goes.table in
      omega (arith, cut, next, rows, some)

-- the same answer of the reader and under other names
pub answered_as : {S W R : Type 0} (c : CallsGhosts S W R) {first new : S} {asks : List Intent} {given : List ℕ} (n m : ℕ) (said other : StepAnswer) → n ≡ m
    → said ≡ other → GetIsAnswered c first new asks (StopReading n ∷ []) given said → GetIsAnswered c first new asks (StopReading m ∷ []) given other
answered_as c {first = first} {new = new} {asks = asks} {given = given} n m said other same is h =
    subst (λ x. GetIsAnswered c first new asks (StopReading m ∷ []) given x) is (subst (λ i. GetIsAnswered c first new asks (StopReading i ∷ []) given said) same h)

-- ---- the reader behind it

hit_same : (result : Result NextPiece AllocError) (r r2 : ReaderSeen) → GoesOnReading r result r2 → (r2.reader ≡ r.reader) × (r2.put ≡ r.put) × (r2.table ≡ r.table)
hit_same (Ok next) r r2 goes = (goes.reader, goes.put, goes.table)
hit_same (Err e) r r2 goes = (ap (λ (x : ReaderSeen). x.reader) goes, ap (λ (x : ReaderSeen). x.put) goes, ap (λ (x : ReaderSeen). x.table) goes)

pub same_reader : (result : Result NextPiece AllocError) (s t : State) (r r2 : ReaderSeen) → ReaderGoesOn r result s t r2 → r2.reader ≡ r.reader
same_reader result s t r r2 goes = (hit_same result r r2 goes.goes).0

pub still_hit : (result : Result NextPiece AllocError) (s t : State) (r r2 : ReaderSeen) → ReaderGoesOn r result s t r2 → is_some r.table ≡ true → IsHit t r2 r.put
still_hit result s t r r2 goes hit =
    let same = hit_same result r r2 goes.goes in
    record { reader = goes.reader; hit = ap is_some same.2 ∙ hit; put_is = sym same.1 }
