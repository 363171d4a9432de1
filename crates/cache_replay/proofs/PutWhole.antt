-- A body that is put: it is filled, and the put is given up where it is still open.
use Rattle.std.proofs.Common.{◌≡◌, ℕ, ◌≤◌, List, [], ◌∷◌, ◌++◌, refl, sym, ◌∙◌, subst, arith, true, false, inl, Ok, Err, Result}
use Rattle.std.specs.Prelude.{Option, Some, None}
use Rattle.cache_model.specs.State.{State}
use Rattle.cache_model.specs.Kept.{state_of}
use Rattle.cache_model.specs.Permit.{Done, GiveUp, Intent, Reason}
use Rattle.cache_model.specs.Legal.{DoesGiveUp, IsQuiet, is_writing}
use Rattle.cache_model.specs.Tape.{IsSound}
use Rattle.cache_model.specs.Pair.{Documents}
use Rattle.logged_disk.specs.Device.{TellsAll}
use Rattle.step_laws.proofs.ToldGroups.{told_group}
use Rattle.cache_model.specs.Vectors.{AreTold}
use Rattle.call_laws.specs.Moments.{At, Facts}
use Rattle.call_laws.specs.Progress.{AllDone}
use Rattle.call_laws.specs.Serves.{ServesFrom, ServesTold}
use Rattle.call_laws.specs.Whole.{LeavesListed}
use Rattle.call_laws.proofs.Grown.{one_spends}
use Rattle.call_laws.proofs.Joined.{call_still}
use Rattle.call_laws.proofs.Kept.{serves_told}
use Rattle.call_laws.proofs.Known.{serves_carries, serves_known}
use Rattle.call_laws.proofs.Served.{serves_fails, serves_then}
use Rattle.cache_answers.specs.declared.answers.Receipt.{Receipt}
use Rattle.cache_answers.specs.declared.answers.Refusal.{Refusal}
use Rattle.cache_answers.specs.declared.answers.Refusal.TheVariants as refusal
use Rattle.cache_calls.specs.Actors.{WriterSeen}
use Rattle.cache_model.specs.Subjects.{IsOfPut}
use Rattle.cache_calls.specs.Adds.{AddsOnly}
use Rattle.cache_calls.specs.Asked.{given_up_at}
use Rattle.cache_calls.specs.Keeping.{state_at}
use Rattle.cache_calls.specs.Writers.{GivesUp}
use Rattle.cache_replay.specs.Replies.{count_of_refusal}
use Rattle.cache_replay.specs.Putting.{BodyEndsWhere, FillsWhere, IsFilledAs, IsSaidAs, PutIsOver, Says, TellsOfPut, UnlessMemory, progress_with, reason_of, unless_memory}
use Rattle.line_calls.proofs.FeedRounds.{PairsAt, serves_later}
use Rattle.cache_replay.proofs.Frames.{adds_then}
use Rattle.line_calls.proofs.KeptPuts.{leave_puts}

-- what holds unless memory was wanting, as something else
pub unless_as : {A B : Type 0} (result : Result Receipt Refusal) → (A → B) → UnlessMemory result A → UnlessMemory result B
unless_as (Ok receipt) from h = from h
unless_as (Err (refusal.Memory e)) from h = tt
unless_as (Err refusal.Sealed) from h = h
unless_as (Err refusal.NoSuchWriter) from h = h
unless_as (Err refusal.TooManyWriters) from h = from h
unless_as (Err refusal.TooManyFragments) from h = from h
unless_as (Err (refusal.VectorTooLarge bytes)) from h = from h
unless_as (Err (refusal.Lost index why)) from h = from h
unless_as (Err (refusal.DeviceFault count)) from h = from h
unless_as (Err (refusal.Exhausted number)) from h = from h

-- a clean-up behind all that was asked, done or refused
pub serves_ending : {P : Documents} {now : ℕ} {a b c : At} {asked : List Intent} {before between known : Facts} (why : Option Reason) (put : ℕ)
    → ServesFrom P now a b asked (progress_with why) before between → ServesFrom P now b c (GiveUp put ∷ []) AllDone between known
    → ServesFrom P now a c (asked ++ GiveUp put ∷ []) (progress_with why) before known
serves_ending None put f l = serves_then f l
serves_ending (Some why) put f l = serves_fails (GiveUp put ∷ []) f l

-- a put that is over, by what is known, is not given up
over_serves : (now : ℕ) (a : At) (put : ℕ) (known : State → Type 0) → IsQuiet (state_at a)
    → ServesFrom (PairsAt a) now a a (GiveUp put ∷ []) AllDone (λ t. known t × (is_writing t put ≡ false)) known
over_serves now a put known quiet = call_still (record { kept = refl; past = refl; setting = refl }) (λ p earlier step. record {
  from = λ k. inl (record {
    spends = one_spends p (state_at a) (GiveUp put) [] Done (DoesGiveUp.over quiet k.1 refl);
    behind = k.0;
  });
})

-- ---- it is complete

pub complete_ends : (now : ℕ) (old new : At) (w : WriterSeen) (body : List ℕ) (receipt : Receipt) → IsQuiet (state_at new) → FillsWhere now old new w body (Ok receipt)
    → BodyEndsWhere now old new w.put body (Ok receipt)
complete_ends now old new w body receipt quiet fills = serves_ending None w.put fills (over_serves now new w.put (λ t. Says t w.put (Ok receipt)) quiet)

-- ---- it is given up

-- what is told of a refused put that is open is told of it behind that
says_still : (s t : State) (put : ℕ) (why : Refusal) → is_writing s put ≡ true → Says s put (Err why) → PutIsOver s put (Err why) → Says t put (Err why)
says_still s t put (refusal.Lost index why) writing says over = let clash : true ≡ false = sym writing ∙ over in cc
says_still s t put refusal.TooManyWriters writing says over = says
says_still s t put refusal.TooManyFragments writing says over = says
says_still s t put (refusal.VectorTooLarge bytes) writing says over = says
says_still s t put (refusal.DeviceFault count) writing says over = says
says_still s t put (refusal.Exhausted number) writing says over = says
says_still s t put refusal.Sealed writing says over = cc
says_still s t put refusal.NoSuchWriter writing says over = cc
says_still s t put (refusal.Memory e) writing says over = cc

module _ (now : ℕ) (old mid new : At) (w v : WriterSeen) (body : List ℕ) (sound : IsSound (state_at old)) (listed : LeavesListed mid.device (state_at mid))
    (told : TellsAll new.device → TellsAll mid.device) (number : v.put ≡ w.put) where
  -- the clean-up is done, and what was told of the put is told behind it
  ends_with : (why : Refusal) → FillsWhere now old mid w body (Err why)
      → (Says (state_at mid) w.put (Err why) → PutIsOver (state_at mid) w.put (Err why) → Says (state_at new) w.put (Err why))
      → ServesTold now mid new (GiveUp w.put ∷ []) AllDone → BodyEndsWhere now old new w.put body (Err why)
  ends_with why fills says gives =
      unless_as (Err why) (λ (f : ServesFrom (PairsAt mid) now old mid _ (progress_with (reason_of w.put (Err why))) AreTold (IsFilledAs w.put (Err why))).
      serves_ending (reason_of w.put (Err why)) w.put (serves_later new told (serves_told told_group leave_puts sound listed f))
      (serves_known (IsSaidAs w.put (Err why)) (λ k. k.1)
      (serves_carries (IsFilledAs w.put (Err why)) (IsSaidAs w.put (Err why)) (λ k. says k.0 k.1) gives))) fills

  gives_up : (end : Result ℕ Refusal) (why : Refusal) → FillsWhere now old mid w body (Err why) → GivesUp mid new v end
      → ServesTold now mid new (GiveUp v.put ∷ []) (given_up_at v.put end) → BodyEndsWhere now old new w.put body (Err (unless_memory end why))
  gives_up (Ok put) why fills gives serves =
      ends_with why fills (says_still (state_at mid) (state_at new) w.put why (subst (λ q. is_writing (state_at mid) q ≡ true) number gives.1))
      (subst (λ q. ServesTold now mid new (GiveUp q ∷ []) AllDone) number serves)
  gives_up (Err refusal.NoSuchWriter) why fills gives serves =
      ends_with why fills (λ says over. subst (λ k. Says (state_of k) w.put (Err why)) (sym gives.1) says)
      (subst (λ q. ServesTold now mid new (GiveUp q ∷ []) AllDone) number serves)
  gives_up (Err (refusal.Memory e)) why fills gives serves = tt
  gives_up (Err (refusal.VectorTooLarge bytes)) why fills gives serves = absurd gives
  gives_up (Err (refusal.Lost index cause)) why fills gives serves = absurd gives
  gives_up (Err (refusal.DeviceFault count)) why fills gives serves = absurd gives
  gives_up (Err (refusal.Exhausted number_)) why fills gives serves = absurd gives
  gives_up (Err refusal.TooManyWriters) why fills gives serves = absurd gives
  gives_up (Err refusal.TooManyFragments) why fills gives serves = absurd gives
  gives_up (Err refusal.Sealed) why fills gives serves = absurd gives

  pub body_ends : (end : Result ℕ Refusal) (why answer : Refusal) → FillsWhere now old mid w body (Err why) → GivesUp mid new v end
      → ServesTold now mid new (GiveUp v.put ∷ []) (given_up_at v.put end) → answer ≡ unless_memory end why → BodyEndsWhere now old new w.put body (Err answer)
  body_ends end why answer fills gives serves is =
      subst (λ r. BodyEndsWhere now old new w.put body (Err r)) (sym is) (gives_up end why fills gives serves)

-- no count is told to which the device has not come
unless_counts : (n m : ℕ) (end : Result ℕ Refusal) (why : Refusal) → n ≤ m → count_of_refusal why ≤ n → count_of_refusal (unless_memory end why) ≤ m
unless_counts n m end why later h = by end
  where
    kept : count_of_refusal why ≤ m
    kept = omega (arith, h, later)

    by : (end : Result ℕ Refusal) → count_of_refusal (unless_memory end why) ≤ m
    by (Err (refusal.Memory e)) = omega arith
    by (Ok put) = kept
    by (Err refusal.TooManyWriters) = kept
    by (Err refusal.TooManyFragments) = kept
    by (Err (refusal.VectorTooLarge size)) = kept
    by (Err (refusal.Lost index why)) = kept
    by (Err refusal.Sealed) = kept
    by (Err (refusal.Exhausted number)) = kept
    by (Err (refusal.DeviceFault count)) = kept
    by (Err refusal.NoSuchWriter) = kept

-- what is told of a put that is given up
pub tells_ended : (old mid new : At) (put : ℕ) (end : Result ℕ Refusal) (why answer : Refusal) → mid.device.faults ≤ new.device.faults → TellsOfPut old mid put (Err why)
    → AddsOnly (IsOfPut put) mid new → answer ≡ unless_memory end why → TellsOfPut old new put (Err answer)
tells_ended old mid new put end why answer later tells own is = record {
  own = adds_then (IsOfPut put) old mid new tells.own own;
  counts = λ none. subst (λ r. count_of_refusal r ≤ new.device.faults) (sym is) (unless_counts mid.device.faults new.device.faults end why later (tells.counts none));
}
