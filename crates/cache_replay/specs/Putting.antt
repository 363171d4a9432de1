-- What a whole put does in one line.
use Rattle.std.specs.Prelude.{ℕ, ◌≡◌, ◌++◌, ◌≤◌, false, List, [], ◌∷◌, Option, Some, None, Result, Ok, Err, IfErr}
use Rattle.tape_base.specs.declared.keys.Key.{Key}
use Rattle.alternate_vector.specs.Field.{Field}
use Rattle.cache_model.specs.State.{State}
use Rattle.cache_model.specs.Permit.{Exhausted, Faulted, GiveUp, Intent, Lost, ManyFragments, ManyWriters, Reason, TooLarge}
use Rattle.cache_model.specs.Legal.{is_writing}
use Rattle.cache_model.specs.Vectors.{AreTold, IsVectorAs}
use Rattle.call_laws.specs.Untold.{Untold}
use Rattle.call_laws.specs.Moments.{At, Facts}
use Rattle.call_laws.specs.Progress.{AllDone, Progress, Stops}
use Rattle.call_laws.specs.Serves.{ServesFrom}
use Rattle.cache_answers.specs.declared.answers.Receipt.{Receipt}
use Rattle.cache_answers.specs.declared.answers.Refusal.{Refusal}
use Rattle.cache_answers.specs.declared.answers.Refusal.TheVariants as refusal
use Rattle.cache_calls.specs.Actors.{WriterSeen}
use Rattle.cache_model.specs.Subjects.{IsOfPut}
use Rattle.cache_calls.specs.Adds.{AddsOnly}
use Rattle.cache_calls.specs.Keeping.{state_at}
use Rattle.script_run.specs.Answers.{put_said, said}
use Rattle.script_run.specs.Asked.{body_intents, put_intents}
use Rattle.script_run.specs.Losses.{NoLossIsAFault}
use Rattle.cache_replay.specs.Replies.{count_of_refusal, receipt_answer}

-- ---- what becomes of a put

-- why less was done than was asked, by the answer; for none of the others is less recorded
abbrev pub reason_of : ℕ → Result Receipt Refusal → Option Reason
reason_of put (Ok receipt) = None
reason_of put (Err refusal.TooManyWriters) = Some ManyWriters
reason_of put (Err refusal.TooManyFragments) = Some (ManyFragments put)
reason_of put (Err (refusal.VectorTooLarge bytes)) = Some (TooLarge put bytes)
reason_of put (Err (refusal.Lost index cause)) = Some (Lost put index)
reason_of put (Err (refusal.DeviceFault count)) = Some (Faulted count)
reason_of put (Err (refusal.Exhausted number)) = Some Exhausted
reason_of put (Err _) = None

-- all was done, or that refused it
abbrev pub progress_with : Option Reason → Progress
progress_with None = AllDone
progress_with (Some why) = Stops why

-- what is told of a put that came there is what is answered
abbrev pub Says : State → ℕ → Result Receipt Refusal → Type 0
Says t put result = said t None (reason_of put result) (put_said t put) ≡ receipt_answer result

-- it is not open any more where it is complete or lost
abbrev pub PutIsOver : State → ℕ → Result Receipt Refusal → Type 0
PutIsOver t put (Ok receipt) = is_writing t put ≡ false
PutIsOver t put (Err (refusal.Lost index cause)) = is_writing t put ≡ false
PutIsOver t put (Err _) = Unit {0}

-- where memory is wanting, nothing is said; a put is not refused for what only a line on a writer meets
abbrev pub UnlessMemory : Result Receipt Refusal → Type 0 → Type 0
UnlessMemory (Err (refusal.Memory e)) So = Unit {0}
UnlessMemory (Err refusal.Sealed) So = ⊥
UnlessMemory (Err refusal.NoSuchWriter) So = ⊥
UnlessMemory result So = So

-- ---- a body that is fed and closed

-- a writer that took nothing yet
pub record IsFreshWriter (w : WriterSeen) : Type 0 where
  pub cuts : w.cuts ≡ []
  pub gathered : w.gathered ≡ []
  pub unsealed : w.sealed ≡ false

-- known behind it, unless two documents of one SHA-256 are shown: what is told of the put
abbrev pub IsFilledAs : ℕ → Result Receipt Refusal → Facts
IsFilledAs put result t = Says t put result × PutIsOver t put result

-- a body is fed and closed as far as that comes, with this answer
abbrev pub FillsWhere : (now : ℕ) (old new : At) → WriterSeen → List ℕ → Result Receipt Refusal → Type 0
FillsWhere now old new w body result = UnlessMemory result
    (ServesFrom (Untold new.device IsVectorAs) now old new (body_intents (state_at old).geometry.fragment w.put body) (progress_with (reason_of w.put result))
    AreTold (IsFilledAs w.put result))

-- ---- a body that is put, with the put given up where it is still open

-- to feed and to close the body, and then to give the put up, which leaves one that ended as it is
abbrev pub ending_intents : State → ℕ → List ℕ → List Intent
ending_intents s put body = body_intents s.geometry.fragment put body ++ GiveUp put ∷ []

-- known behind it: what is told of the put
abbrev pub IsSaidAs : ℕ → Result Receipt Refusal → Facts
IsSaidAs put result t = Says t put result

-- all that was done or refused, with this answer
abbrev pub BodyEndsWhere : (now : ℕ) (old new : At) → ℕ → List ℕ → Result Receipt Refusal → Type 0
BodyEndsWhere now old new put body result = UnlessMemory result
    (ServesFrom (Untold new.device IsVectorAs) now old new (ending_intents (state_at old) put body) (progress_with (reason_of put result))
    AreTold (IsSaidAs put result))

-- why a body was refused, unless memory was wanting to give its put up
abbrev pub unless_memory : Result ℕ Refusal → Refusal → Refusal
unless_memory (Err (refusal.Memory e)) why = refusal.Memory e
unless_memory end why = why

-- ---- a whole put

-- all that was asked was done or refused, with this answer
abbrev pub PutsWhere : (now : ℕ) (old new : At) → Key → List ℕ → (request response : List Field) → Result Receipt Refusal → Type 0
PutsWhere now old new key body request response result = UnlessMemory result
    (ServesFrom (Untold new.device IsVectorAs) now old new (put_intents (state_at old) key body request response)
    (progress_with (reason_of (state_at old).next_put result)) AreTold (IsSaidAs (state_at old).next_put result))

-- whose records there are, and that no answer tells a count to which the device has not come
pub record TellsOfPut (old new : At) (put : ℕ) (result : Result Receipt Refusal) : Type 0 where
  pub own : AddsOnly (IsOfPut put) old new
  pub counts : IfErr result (λ why. NoLossIsAFault (state_at old) → count_of_refusal why ≤ new.device.faults)
