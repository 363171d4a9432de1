-- What a writer that is fed does, and how far it comes.
use Rattle.std.specs.Prelude.{ℕ, ◌≡◌, ◌+◌, ◌-◌, ◌≤◌, true, false, List, [], ◌++◌, length, take, drop, Option, Some, None, IfSome}
use Rattle.fragment_table.specs.Table.{total_length}
use Rattle.cache_model.specs.State.{State}
use Rattle.cache_model.specs.Verdict.{cuts_of}
use Rattle.cache_model.specs.Permit.{Exhausted, Faulted, Intent, ManyFragments}
use Rattle.cache_model.specs.Legal.{is_writing}
use Rattle.call_laws.specs.Moments.{At}
use Rattle.call_laws.specs.Progress.{AllDone, Progress, Stops, Wants}
use Rattle.call_laws.specs.Serves.{Serves}
use Rattle.cache_answers.specs.declared.answers.Refusal.{Refusal}
use Rattle.cache_answers.specs.declared.answers.Refusal.TheVariants as refusal
use Rattle.cache_calls.specs.Actors.{IsWriterOf, WriterSeen}
use Rattle.cache_model.specs.Subjects.{IsOfPut}
use Rattle.cache_calls.specs.Adds.{AddsOnly, IsAsItWas}
use Rattle.cache_calls.specs.Keeping.{state_at}
use Rattle.script_run.specs.Asked.{feed_intents, rest_behind, whole_fragments}
use Rattle.cache_replay.specs.Replies.{count_of_refusal}

-- ---- what is recorded

-- a writer that takes these bytes is asked for the whole fragments among what it has gathered then
abbrev pub feed_asks : State → WriterSeen → List ℕ → List Intent
feed_asks s w bytes = feed_intents s.geometry.fragment w.put (length w.cuts) (w.gathered ++ bytes)

-- what becomes of that by each refusal
abbrev pub feed_progress : ℕ → Option Refusal → Progress
feed_progress put None = AllDone
feed_progress put (Some refusal.TooManyFragments) = Stops (ManyFragments put)
feed_progress put (Some (refusal.DeviceFault count)) = Stops (Faulted count)
feed_progress put (Some (refusal.Exhausted number)) = Stops Exhausted
feed_progress put (Some _) = Wants

-- a writer that is not sealed is fed at a moment: what is asked has come there
pub record FeedsAsAsked (now : ℕ) (old new : At) (w : WriterSeen) (bytes : List ℕ) (why : Option Refusal) : Type 0 where
  pub open_still : w.sealed ≡ false
  pub serves : Serves now old new (feed_asks (state_at old) w bytes) (feed_progress w.put why)

-- which answers may come of the writer of an open put; of want of memory nothing is said
abbrev pub FeedsWhere : (now : ℕ) (old new : At) → WriterSeen → List ℕ → Option Refusal → Type 0
FeedsWhere now old new w bytes (Some (refusal.Memory e)) = Unit {0}
FeedsWhere now old new w bytes (Some refusal.Sealed) = (w.sealed ≡ true) × Serves now old new [] AllDone × IsAsItWas old new
FeedsWhere now old new w bytes (Some refusal.TooManyWriters) = ⊥
FeedsWhere now old new w bytes (Some refusal.NoSuchWriter) = ⊥
FeedsWhere now old new w bytes (Some (refusal.VectorTooLarge size)) = ⊥
FeedsWhere now old new w bytes (Some (refusal.Lost index cause)) = ⊥
FeedsWhere now old new w bytes why = FeedsAsAsked now old new w bytes why

-- ---- how far it comes

-- all bytes are taken where nothing is refused, and else those of the fragments that were cut
abbrev pub taken_by_feed : State → WriterSeen → List ℕ → Option Refusal → ℕ
taken_by_feed t w bytes None = length bytes
taken_by_feed t w bytes (Some why) = total_length (cuts_of t w.put) - (total_length w.cuts + length w.gathered)

-- the writer is open unless it had one fragment too many
abbrev pub IsOpenBehind : State → ℕ → Option Refusal → Type 0
IsOpenBehind t put (Some refusal.TooManyFragments) = is_writing t put ≡ false
IsOpenBehind t put _ = is_writing t put ≡ true

-- It is the writer of the same put, and gathered what it took and did not cut: whatever it took before what it
-- had gathered.
pub record IsFed (w : WriterSeen) (bytes : List ℕ) (taken : ℕ) (new : WriterSeen) : Type 0 where
  pub put : new.put ≡ w.put
  pub sealed : new.sealed ≡ w.sealed
  pub gathered : (front : List ℕ) → length front ≡ total_length w.cuts
      → new.gathered ≡ drop (total_length new.cuts) (front ++ (w.gathered ++ take taken bytes))
  pub within : total_length new.cuts ≤ total_length w.cuts + length w.gathered + taken

-- all that it gathered and took is in whole fragments, but for the rest
pub record IsCutUp (fragment : ℕ) (w : WriterSeen) (bytes : List ℕ) (new : WriterSeen) : Type 0 where
  pub fragments : length new.cuts ≡ length w.cuts + whole_fragments fragment (w.gathered ++ bytes)
  pub rest : new.gathered ≡ rest_behind fragment (w.gathered ++ bytes)

-- so it is where nothing was refused
abbrev pub IsCutWhere : ℕ → WriterSeen → List ℕ → Option Refusal → WriterSeen → Type 0
IsCutWhere fragment w bytes None new = IsCutUp fragment w bytes new
IsCutWhere fragment w bytes (Some why) new = Unit {0}

-- what a writer is behind it, and what its records tell
pub record HasFed (old new : At) (w : WriterSeen) (bytes : List ℕ) (taken : ℕ) (why : Option Refusal) (later : WriterSeen) : Type 0 where
  pub own : AddsOnly (IsOfPut w.put) old new
  pub writer : IsWriterOf (state_at new) later
  pub fed : IsFed w bytes taken later
  pub most : taken ≤ length bytes
  pub taken_is : taken ≡ taken_by_feed (state_at new) w bytes why
  pub cut : IsCutWhere (state_at old).geometry.fragment w bytes why later
  pub writing : IsOpenBehind (state_at new) w.put why
  pub counts : IfSome why (λ refused. count_of_refusal refused ≤ new.device.faults)
