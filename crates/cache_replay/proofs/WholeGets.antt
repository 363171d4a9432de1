-- A lookup, and what is read of what it hit.
use Rattle.std.proofs.Common.{◌≡◌, ℕ, ◌-◌, ◌*◌, List, [], ◌∷◌, take, refl, sym, ◌∙◌, ap, subst, false, ◌⊎◌, inl, inr, arith, append-nil}
use Rattle.std.specs.Prelude.{Option, Some, None, Result, Ok, Err, IfOk, ◌==◌, find, is_some, option_map, option_and_then, unwrap_or}
use Rattle.std.proofs.lemmas.Bool.{eq-eqb}
use Rattle.device_log.specs.Calls.{Call}
use Rattle.tape_base.specs.declared.actors.Actor.{Actor}
use Rattle.tape_base.specs.declared.keys.Key.{Key}
use Rattle.alternate_vector.specs.Field.{Field}
use Rattle.cache_model.specs.declared.cause.Cause.{Cause}
use Rattle.cache_model.specs.declared.answer.ReadAnswer.{ReadAnswer}
use Rattle.cache_model.specs.declared.answer.ReadAnswer.TheVariants as read
use Rattle.cache_model.specs.declared.record.Rec.{Rec}
use Rattle.cache_model.specs.declared.record.Rec.TheVariants as rec
use Rattle.cache_model.specs.State.{ReaderRow, State, after_all, reader_of, state_after, table_of_hit}
use Rattle.cache_model.specs.Kept.{Kept, state_of, with_records}
use Rattle.cache_model.specs.Verdict.{live_vector_of}
use Rattle.cache_model.specs.Permit.{Done, Intent, Look, Permit, ReadAll, StopReading, to_do}
use Rattle.cache_model.specs.Pair.{Documents, IsPair, ShowsPair}
use Rattle.cache_model.specs.Vectors.{AreTold, IsVectorAs}
use Rattle.cache_model.specs.Legal
use Rattle.cache_model.specs.Legal.{Does, IsQuiet, MayGrow, has_hit, nothing}
use Rattle.cache_model.proofs.Aside.{AllAside, IsAside, lookup_aside, one_aside}
use Rattle.cache_model.proofs.Steps.{after_all-append, all_append, grows_by}
use Rattle.step_laws.proofs.Told.{told_aside}
use Rattle.call_laws.specs.Untold.{Untold}
use Rattle.cache_model.specs.Contents.{AnyContents}
use Rattle.call_laws.specs.Progress.{AllDone}
use Rattle.call_laws.specs.Serves.{ServesFrom, Upshots}
use Rattle.call_laws.proofs.Joined.{call_as, state_behind}
use Rattle.cache_calls.specs.Actors.{IsReaderOf, ReaderSeen, row_by}
use Rattle.cache_calls.specs.Keeping.{IsAtRest, state_at}
use Rattle.cache_calls.specs.Readers.{open_adds, vector_trouble}
use Rattle.cache_calls.specs.declared.calls.Calls.{Ghosts as CallsGhosts}
use Rattle.cache_calls.specs.Standing.{StaysStanding}
use Rattle.script_run.specs.Run.{Run}
use Rattle.script_run.specs.Asked.{get_intents}
use Rattle.script_run.specs.Answers.{miss_said}
use Rattle.script_run.specs.Own.{IsPlacedAs}
use Rattle.script_run.proofs.OnlyReading.{reads_own}
use Rattle.script_grammar.specs.declared.answer.StepAnswer.TheVariants as answer
use Rattle.cache_replay.specs.Getting.{ComesOfCache, GetIsAnswered, IsKnownTo, IsUnderway}
use Rattle.cache_replay.proofs.Frames.{same_added}
use Rattle.cache_replay.proofs.Free.{no_next_reader}
use Rattle.line_calls.proofs.Lookups.{miss_reads, open_finds, open_tells}
use Rattle.cache_replay.proofs.WholeReads.{IsDoneAtOnce, grown, one_done, one_pair, placed_pair}

-- ---- the reader that opens

abbrev pub nobody : Actor
nobody = record { 0 = 0 }

found_new : (u : State) (n put : ℕ) (key : Key) (request : List Field)
    → reader_of (state_after u (rec.ReadOpened n nobody key request (read.Hit put))) n
    ≡ Some (record { actor = 0; reader = n; key = key; put = put; table = Some (table_of_hit u key request); next = 1 })
found_new u n put key request = rw (eq-eqb n n refl) refl

-- it takes the first fragment next
first_next : (k k1 : Kept) (key : Key) (request : List Field) (put : ℕ) (r : ReaderSeen)
    → k1 ≡ with_records k (open_adds (state_of k) nobody key request (read.Hit put)) → r.reader ≡ (state_of k).next_reader
    → IsReaderOf (state_of k1) r → r.next ≡ 1
first_next k k1 key request put r is number own =
    let s : State = state_of k in
    let trouble : List Rec = vector_trouble (live_vector_of s key) (read.Hit put) in
    let u : State = after_all s trouble in
    let behind : state_of k1 ≡ state_after u (rec.ReadOpened s.next_reader nobody key request (read.Hit put)) =
    state_behind k k1 (open_adds s nobody key request (read.Hit put)) is ∙ after_all-append s trouble (rec.ReadOpened s.next_reader nobody key request (read.Hit put) ∷ []) in
    let found : Some (row_by own.actor r) ≡ Some (record { actor = 0; reader = s.next_reader; key = key; put = put; table = Some (table_of_hit u key request); next = 1 }) =
    sym own.found ∙ (ap (λ (t : State). reader_of t r.reader) behind
    ∙ (ap (reader_of (state_after u (rec.ReadOpened s.next_reader nobody key request (read.Hit put)))) number ∙ found_new u s.next_reader put key request)) in
    ap (λ (o : Option ReaderRow). unwrap_or (option_map (λ (x : ReaderRow). x.next) o) 0) found

none_yet : (fragment next : ℕ) (bytes : List ℕ) → next ≡ 1 → [] ≡ take ((next - 1) * fragment) bytes
none_yet fragment next bytes first =
    let z : (1 - 1) * fragment ≡ 0 = omega arith in
    sym (ap (λ n. take ((n - 1) * fragment) bytes) first ∙ ap (λ n. take n bytes) z)

-- a miss opens none
-- ---- a lookup

looks_done : (key : Key) (request : List Field) → IsDoneAtOnce (Look 0 key request)
looks_done key request p s added e (Legal.DoesLook.looks m) = refl

-- vectors list their alternates behind it, as before
looks_tell : (p : Permit) (s : State) (key : Key) (request : List Field) (added : List Rec) → Does p s (Look 0 key request) added Done → AreTold s
    → AreTold (after_all s added)
looks_tell p s key request added (Legal.DoesLook.looks m) told =
    told_aside s added (subst AllAside (sym m.is) (all_append IsAside m.before _ (lookup_aside p s key request m.before m.answer m.right) one_aside)) told

module _ {S W R : Type 0} (c : CallsGhosts S W R) (a b : S) (rest : IsAtRest (c.at a)) (key : Key) (request : List Field) where
  abbrev old : State
  old = state_at (c.at a)

  abbrev new : State
  new = state_at (c.at b)

  abbrev asks_of : List Intent
  asks_of = get_intents old key request

  abbrev look_of : Intent
  look_of = Look 0 key request

  abbrev adds_of : ReadAnswer → List Rec
  adds_of x = open_adds old nobody key request x

  abbrev reads_of : List Intent
  reads_of = ReadAll old.next_reader ∷ StopReading old.next_reader ∷ []

  -- pairs are of vectors, on a device that did not tell its content
  abbrev Listed : Documents
  Listed = Untold (c.at b).device IsVectorAs

  shows_key : (run : Run) (p : Permit) (x : ReadAnswer) → IsPair Listed p old look_of
      → ShowsPair (Untold (c.at b).device (IsPlacedAs run.streams)) p old asks_of (adds_of x)
  shows_key run p x pair = record {
    before = [];
    rest = adds_of x;
    left = to_do asks_of;
    is = refl;
    grows = nothing;
    pair = placed_pair run.streams (c.at b).device p old look_of pair;
  }

  looked : (p : Permit) (x : ReadAnswer) → Does p old look_of (adds_of x) Done → MayGrow p old (to_do asks_of) (adds_of x) (to_do reads_of)
  looked p x d = grows_by p old (to_do asks_of) _ (adds_of x) (Done, d, refl)

  -- nothing more is read where nothing was hit
  looked_only : (p : Permit) (x : ReadAnswer) → new ≡ after_all old (adds_of x) → IsQuiet new → has_hit new old.next_reader ≡ false
      → Does p old look_of (adds_of x) Done → MayGrow p old (to_do asks_of) (adds_of x) (to_do (StopReading old.next_reader ∷ []))
  looked_only p x there quiet none d =
      subst (λ recs. MayGrow p old (to_do asks_of) recs (to_do (StopReading old.next_reader ∷ []))) (append-nil (adds_of x))
      (grown p old new (adds_of x) [] (to_do asks_of) (ReadAll old.next_reader) (StopReading old.next_reader ∷ []) Done (sym there)
      (looked p x d) (Legal.DoesReadAll.has_none quiet none refl refl))

  -- it was served at any moment, and this is known behind it
  abbrev Looked : (Known : State → Type 0) → Type 0
  Looked Known = (now : ℕ) → ServesFrom Listed now (c.at a) (c.at b) (look_of ∷ []) AllDone AreTold Known

  -- what comes of it
  looked_then : (all : Run → Upshots) (Known : State → Type 0) (x : ReadAnswer) → (c.at b).kept ≡ with_records (c.at a).kept (adds_of x) → Looked Known
      → ((run : Run) (p : Permit) (earlier calls : List Call) → IsKnownTo run old → Known new → Does p old look_of (adds_of x) Done
      → all run (record { step = p; earlier = earlier; calls = calls; state = old; added = adds_of x }))
      → ComesOfCache c a b asks_of all
  looked_then all Known x adds serves law now run = call_as (λ p earlier calls added step happens h. λ is standing.
      let same : added ≡ adds_of x = same_added (c.at a).kept (c.at b).kept added (adds_of x) happens.adds adds in
      subst (λ recs. all run (record { step = p; earlier = earlier; calls = calls; state = old; added = recs })
      ⊎ ShowsPair (Untold (c.at b).device (IsPlacedAs run.streams)) p old asks_of recs) (sym same)
      (elim (h.from is.told) [
        | inl v ↦ inl (law run p earlier calls is (subst Known (sym (state_behind (c.at a).kept (c.at b).kept added happens.adds)) v.behind)
            (subst (λ recs. Does p old look_of recs Done) same (one_done look_of (looks_done key request) p old added v.spends)))
        | inr pair ↦ inr (shows_key run p x (one_pair Listed look_of (looks_done key request) p old added pair))
      ])) (serves now)

  pub hit_under : (put : ℕ) (r : ReaderSeen) → (c.at b).kept ≡ with_records (c.at a).kept (adds_of (read.Hit put)) → r.reader ≡ old.next_reader → put ≡ r.put
      → Looked (λ t. IsReaderOf t r) → StaysStanding c.stands AnyContents a b → IsUnderway c a b asks_of r []
  hit_under put r adds number same serves stands =
      let there : new ≡ after_all old (adds_of (read.Hit put)) = state_behind (c.at a).kept (c.at b).kept (adds_of (read.Hit put)) adds in
      record {
        comes = looked_then _ (λ t. IsReaderOf t r) (read.Hit put) adds serves (λ run p earlier calls is own d. record {
          grows = subst (λ n. MayGrow p old (to_do asks_of) (adds_of (read.Hit put)) (to_do (ReadAll n ∷ StopReading n ∷ []))) (sym number) (looked p (read.Hit put) d);
          known = record {
            told = looks_tell p old key request (adds_of (read.Hit put)) d is.told;
            own = reads_own p old run.streams look_of (adds_of (read.Hit put)) Done refl is.own d;
          };
          reader = subst (λ u. IsReaderOf u r) there own;
          hit = open_finds old nobody key request (read.Hit put) ∙ ap (λ n. Some (read.Hit n)) same;
          front = none_yet _ r.next (run.streams r.put).bytes (first_next (c.at a).kept (c.at b).kept key request put r adds number own);
        });
        stands = stands;
      }

  follows_none : (r : ReaderSeen) → IsReaderOf new r → r.table ≡ None → has_hit new r.reader ≡ false
  follows_none r own none = ap (λ (o : Option ReaderRow). is_some (option_and_then (λ (x : ReaderRow). x.table) o)) own.found ∙ ap is_some none

  pub follow_answered : (put : ℕ) (r : ReaderSeen) → IsQuiet new → (c.at b).kept ≡ with_records (c.at a).kept (adds_of (read.Follow put))
      → r.reader ≡ old.next_reader → r.table ≡ None → Looked (λ t. IsReaderOf t r)
      → GetIsAnswered c a b asks_of (StopReading r.reader ∷ []) [] (answer.Follow put)
  follow_answered put r quiet adds number none serves =
      let there : new ≡ after_all old (adds_of (read.Follow put)) = state_behind (c.at a).kept (c.at b).kept (adds_of (read.Follow put)) adds in
      looked_then _ (λ t. IsReaderOf t r) (read.Follow put) adds serves (λ run p earlier calls is own d. record {
        grows = subst (λ n. MayGrow p old (to_do asks_of) (adds_of (read.Follow put)) (to_do (StopReading n ∷ []))) (sym number)
            (looked_only p (read.Follow put) there quiet (ap (has_hit new) (sym number) ∙ follows_none r own none) d);
        body = rw (open_tells old nobody key request (read.Follow put)) refl;
        says = rw (open_finds old nobody key request (read.Follow put)) refl;
      })

  pub miss_answered : (why : Cause) → IsQuiet new → (c.at b).kept ≡ with_records (c.at a).kept (adds_of (read.Miss why))
      → Looked (λ t. Unit {0}) → GetIsAnswered c a b asks_of [] [] (miss_said why)
  miss_answered why quiet adds serves =
      let n : ℕ = old.next_reader in
      let there : new ≡ after_all old (adds_of (read.Miss why)) = state_behind (c.at a).kept (c.at b).kept (adds_of (read.Miss why)) adds in
      let gone : reader_of new n ≡ None =
      ap (λ (t : State). reader_of t n) there ∙ (ap (find (λ (x : ReaderRow). x.reader == n)) (miss_reads old nobody key request why) ∙ no_next_reader (c.at a) rest) in
      let unhit : has_hit new n ≡ false = ap (λ (o : Option ReaderRow). is_some (option_and_then (λ (x : ReaderRow). x.table) o)) gone in
      looked_then _ (λ t. Unit {0}) (read.Miss why) adds serves (λ run p earlier calls is own d. record {
        grows = subst (λ recs. MayGrow p old (to_do asks_of) recs (to_do [])) (append-nil (adds_of (read.Miss why)))
            (grown p old new (adds_of (read.Miss why)) [] (to_do asks_of) (StopReading n) [] Done (sym there)
            (looked_only p (read.Miss why) there quiet unhit d) (Legal.DoesStopReading.closed quiet gone refl));
        body = rw (open_tells old nobody key request (read.Miss why)) refl;
        says = rw (open_finds old nobody key request (read.Miss why)) refl;
      })

-- what holds of a result, as something else
pub ok_as : {T E : Type 0} (P Q : T → Type 0) (r : Result T E) → ((x : T) → P x → Q x) → IfOk r P → IfOk r Q
ok_as P Q (Ok x) f h = f x h
ok_as P Q (Err e) f h = tt
