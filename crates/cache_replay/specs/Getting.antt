-- What a whole read does in one line.
use Rattle.std.specs.Prelude.{ℕ, ◌≡◌, ◌+◌, ◌-◌, ◌*◌, ◌<◌, ◌≤◌, ◌⊎◌, ◌++◌, true, List, [], ◌∷◌, length, take, Some, is_some, unwrap_or, Result, IfOk}
use Rattle.std.specs.declared.alloc.AllocError.{AllocError}
use Rattle.tape_base.specs.declared.keys.Key.{Key}
use Rattle.device_log.specs.Calls.{Call}
use Rattle.alternate_vector.specs.Field.{Field}
use Rattle.cache_model.specs.declared.answer.ReadAnswer.TheVariants as read
use Rattle.cache_model.specs.declared.record.Rec.{Rec}
use Rattle.logged_disk.specs.Device.{DeviceState as Device}
use Rattle.cache_model.specs.State.{State, after_all}
use Rattle.cache_model.specs.Permit.{Intent, Permit, ReadAll, StopReading, to_do}
use Rattle.cache_model.specs.Legal.{MayGrow}
use Rattle.cache_model.specs.Pair.{ShowsPair}
use Rattle.cache_model.specs.Vectors.{AreTold}
use Rattle.call_laws.specs.Untold.{Untold}
use Rattle.cache_model.specs.Contents.{AnyContents, Contents}
use Rattle.call_laws.specs.Moments.{At, Encloses}
use Rattle.call_laws.specs.Serves.{InStep, IsCall, Upshots}
use Rattle.cache_answers.specs.declared.answers.NextPiece.{NextPiece}
use Rattle.cache_answers.specs.declared.answers.NextPiece.TheVariants as piece
use Rattle.cache_calls.specs.declared.calls.Calls.{Ghosts as CallsGhosts}
use Rattle.cache_calls.specs.Actors.{IsOpenReader, IsReaderOf, ReaderSeen}
use Rattle.cache_calls.specs.Keeping.{StaysUnharmed, state_at}
use Rattle.cache_calls.specs.Standing.{StaysStanding}
use Rattle.script_grammar.specs.declared.answer.StepAnswer.{StepAnswer}
use Rattle.script_grammar.specs.declared.answer.StepAnswer.TheVariants as answer
use Rattle.script_run.specs.Run.{Run, Stream}
use Rattle.script_run.specs.Asked.{get_intents}
use Rattle.script_run.specs.Losses.{NoLossIsAFault}
use Rattle.script_run.specs.Turn.{lookup_in, told_in}
use Rattle.script_run.specs.Answers.{broken_said, get_said, miss_said}
use Rattle.script_run.specs.Own.{AreOwn, IsPlacedAs}
use Rattle.script_run.specs.Takes.{IsBody}
use Rattle.line_calls.specs.Standing.{OwnStands}
use Rattle.cache_replay.specs.declared.getting.Got.{Got}
use Rattle.cache_replay.specs.declared.getting.Got.TheVariants as got
use Rattle.run_promise.specs.Outline.{count_in, count_of_cause}

-- ---- answers

-- the bytes that are given
abbrev pub given_in : Got → List ℕ
given_in (got.Whole put length body) = body.items
given_in _ = []

-- what a line answers; of a read that broke the cause alone, without the bytes before it
abbrev pub got_answer : Got → StepAnswer
got_answer (got.Whole put length body) = answer.Got put length body.items
got_answer (got.Broken why) = broken_said why
got_answer (got.Follow put) = answer.Follow put
got_answer (got.Miss why) = miss_said why

-- the count of the device fault for which a reader breaks; 0 where it does not break so
abbrev pub count_in_piece : NextPiece → ℕ
count_in_piece (piece.Broken why) = count_of_cause why
count_in_piece _ = 0

-- ---- what is known of a run

-- vectors list their alternates, and what stands belongs to what writers took
pub record IsKnownTo (run : Run) (s : State) : Type 0 where
  pub told : AreTold s
  pub own : AreOwn s run.streams

-- what comes of a call in a step where that is known before it, and what is told of the pieces stands; or two documents of one SHA-256
-- are shown in it, on a device that did not tell its content up to a moment
abbrev pub Knowing : (stands : Contents → Type 0) (last : Device) → Run → List Intent → Upshots → Upshots
Knowing stands last run asks comes = λ (k : InStep). IsKnownTo run k.state → OwnStands run.streams k.state stands
    → comes k ⊎ ShowsPair (Untold last (IsPlacedAs run.streams)) k.step k.state asks k.added

-- the step of a permit begins with the calls between two moments
pub record HasCalls (now : ℕ) (old new : At) (p : Permit) : Type 0 where
  pub calls : List Call
  pub past : new.device.past ≡ calls ++ old.device.past
  pub step : Encloses now old p [] calls

-- some records show such a pair in a step
pub record ShowsBy (run : Run) (last : Device) (p : Permit) (s : State) (asks : List Intent) : Type 0 where
  pub added : List Rec
  pub shows : ShowsPair (Untold last (IsPlacedAs run.streams)) p s asks added

-- ---- a whole read

-- by these records as much was done as leaves this, with this answer and these bytes: those that the put's writer took
pub record AnswersGet (asks left : List Intent) (given : List ℕ) (said : StepAnswer) (run : Run) (k : InStep) : Type 0 where
  pub grows : MayGrow k.step k.state (to_do asks) k.added (to_do left)
  pub body : IsBody run given (told_in k.added) (lookup_in k.added)
  pub says : get_said given (told_in k.added) (lookup_in k.added) ≡ said

-- something was hit, the reader has the fragments of the records, and this is the front of what the put's writer took
pub record Underway (asks : List Intent) (r : ReaderSeen) (body : List ℕ) (run : Run) (k : InStep) : Type 0 where
  pub grows : MayGrow k.step k.state (to_do asks) k.added (to_do (ReadAll r.reader ∷ StopReading r.reader ∷ []))
  pub known : IsKnownTo run (after_all k.state k.added)
  pub reader : IsReaderOf (after_all k.state k.added) r
  pub hit : lookup_in k.added ≡ Some (read.Hit r.put)
  pub front : body ≡ take ((r.next - 1) * (after_all k.state k.added).geometry.fragment) (run.streams r.put).bytes

-- a reader of this put that hit something and is open
pub record IsHit (s : State) (r : ReaderSeen) (put : ℕ) : Type 0 where
  pub reader : IsOpenReader s r
  pub hit : is_some r.table ≡ true
  pub put_is : put ≡ r.put

-- how many fragments of what it hit it was not given yet
abbrev pub rows_to_give : ReaderSeen → ℕ
rows_to_give r = length (unwrap_or r.table []) + 1 - r.next

-- a fragment that was given leaves fewer to be given, so that the read ends
abbrev pub IsNearer : ReaderSeen → NextPiece → ReaderSeen → Type 0
IsNearer old (piece.Piece index size) new = rows_to_give new < rows_to_give old
IsNearer old _ new = Unit {0}

module _ {S W R : Type 0} (c : CallsGhosts S W R) where
  -- what comes of a cache from the moment on at which it was asked, beside any run
  abbrev pub ComesOfCache : (origin new : S) → List Intent → (Run → Upshots) → Type 0
  ComesOfCache origin new asks comes = (now : ℕ) (run : Run)
      → IsCall now (c.at origin) (c.at new) (Knowing (c.stands origin) (c.at new).device run asks (comes run))

  -- what was asked from the first of three moments on leaves the cache unharmed between the other two, where that is known
  -- there; or a pair is shown in each step that begins with the calls up to the last
  abbrev pub StaysSound : (origin old new : S) → List Intent → Type 0
  StaysSound origin old new asks = (now : ℕ) (run : Run) (p : Permit) → IsKnownTo run (state_at (c.at origin))
      → OwnStands run.streams (state_at (c.at origin)) (c.stands origin) → HasCalls now (c.at origin) (c.at new) p
      → StaysUnharmed (c.at old) (c.at new) ⊎ ShowsBy run (c.at new).device p (state_at (c.at origin)) asks

  -- it was answered so, with these bytes
  abbrev pub GetIsAnswered : (origin new : S) → (asks left : List Intent) → List ℕ → StepAnswer → Type 0
  GetIsAnswered origin new asks left given said = ComesOfCache origin new asks (AnswersGet asks left given said)

  -- it was read so far, and what stood stands
  pub record IsUnderway (origin new : S) (asks : List Intent) (r : ReaderSeen) (body : List ℕ) : Type 0 where
    pub comes : ComesOfCache origin new asks (Underway asks r body)
    pub stands : StaysStanding c.stands AnyContents origin new

  -- what reading a hit to its end came to, whatever was asked before it: an answer, and that nothing is harmed meanwhile
  pub record ReadsWhole (old new : S) (r : ReaderSeen) (left : List Intent) (result : Result Got AllocError) : Type 0 where
    pub answers : IfOk result (λ got. (origin : S) (asks : List Intent)
        → IsUnderway origin old asks r [] → GetIsAnswered origin new asks left (given_in got) (got_answer got))
    pub unharmed : (origin : S) (asks : List Intent) → IsUnderway origin old asks r [] → StaysSound origin old new asks
    pub counts : IfOk result (λ got. NoLossIsAFault (state_at (c.at old)) → count_in (got_answer got) ≤ (c.at new).device.faults)

  -- a reader of a hit is closed: what was left to be done of a read is done
  abbrev pub ClosesHit : (old new : S) → ℕ → Type 0
  ClosesHit old new reader = (origin : S) (asks : List Intent) (given : List ℕ) (said : StepAnswer)
      → GetIsAnswered origin old asks (StopReading reader ∷ []) given said → GetIsAnswered origin new asks [] given said

  -- what a whole read came to
  pub record Gets (old new : S) (key : Key) (request : List Field) (result : Result Got AllocError) : Type 0 where
    pub answers : IfOk result
        (λ got. GetIsAnswered old new (get_intents (state_at (c.at old)) key request) [] (given_in got) (got_answer got))
    pub unharmed : StaysSound old old new (get_intents (state_at (c.at old)) key request)
    pub counts : IfOk result (λ got. NoLossIsAFault (state_at (c.at old)) → count_in (got_answer got) ≤ (c.at new).device.faults)

  -- ---- one fragment after the other

  -- what comes of the next one, by what the reader was told; none that hit something waits
  abbrev pub ComesOf : (origin new : S) → List Intent → ℕ → ReaderSeen → List ℕ → NextPiece → Type 0
  ComesOf origin new asks put r body (piece.Piece index size) = IsUnderway origin new asks r body
  ComesOf origin new asks put r body (piece.End size) = GetIsAnswered origin new asks (StopReading r.reader ∷ []) body (answer.Got put size body)
  ComesOf origin new asks put r body (piece.NotYet cut) = GetIsAnswered origin new asks (StopReading r.reader ∷ []) [] (answer.Follow put)
  ComesOf origin new asks put r body (piece.Broken why) = GetIsAnswered origin new asks (StopReading r.reader ∷ []) [] (broken_said why)

  -- what reading the next fragment came to: what comes of the read, the reader of the same hit, and that nothing is harmed where
  -- the fragment belongs to what its writer took
  pub record ReadsMore (old new : S) (r later : ReaderSeen) (body more : List ℕ) (result : Result NextPiece AllocError) : Type 0 where
    pub comes : IfOk result (λ next. (origin : S) (asks : List Intent)
        → IsUnderway origin old asks r body → ComesOf origin new asks r.put later more next)
    pub hit : IsHit (state_at (c.at new)) later r.put
    pub same : later.reader ≡ r.reader
    pub nearer : IfOk result (λ next. IsNearer r next later)
    pub unharmed : (streams : ℕ → Stream) → AreOwn (state_at (c.at old)) streams → IsReaderOf (state_at (c.at old)) r
        → StaysUnharmed (c.at old) (c.at new)
    pub counts : IfOk result (λ next. NoLossIsAFault (state_at (c.at old)) → count_in_piece next ≤ (c.at new).device.faults)
