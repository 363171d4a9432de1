-- Laws of what calls did, each as one sentence.
use Rattle.std.specs.Prelude.{ℕ, ◌≡◌, ◌⊎◌, true, List, [], ◌∷◌, ◌++◌, Option}
use Rattle.device_log.specs.Calls.{Call}
use Rattle.cache_model.specs.declared.record.Rec.{Rec}
use Rattle.cache_model.specs.State.{Row, State, after_all}
use Rattle.cache_model.specs.Kept.{state_of}
use Rattle.cache_model.specs.Permit.{End, Intent, Permit, Reason, Work}
use Rattle.cache_model.specs.Legal.{Does, IsQuiet, MayGrow}
use Rattle.cache_model.specs.Tape.{IsSound}
use Rattle.cache_model.specs.Pair.{Documents, IsPair}
use Rattle.cache_model.specs.Vectors.{AreTold, IsVectorAs}
use Rattle.logged_disk.specs.Device.{DeviceState as Device}
use Rattle.call_laws.specs.Untold.{Untold}
use Rattle.call_laws.specs.Moments.{NothingKnown, At, BothFacts, Encloses, Facts, IsStillAt}
use Rattle.call_laws.specs.Progress.{AllDone, EndsWith, FallsShort, Leaves, Progress, Stops, Wants, cleanups, left_with, progress_of}
use Rattle.call_laws.specs.Happens.{Happens}
use Rattle.call_laws.specs.Serves.{IsCall, Serves, ServesFrom, Upshots}
use Rattle.call_laws.specs.Whole.{GroupsKeep, GroupsLeavePuts, GroupsLeaveTold, IsWholeStep, LeavesListed}

-- ---- one call

-- a call that does nothing leaves all that it was asked, and what was known; where nothing was asked, all is done
abbrev pub ServesStill : Documents → (known : Facts) → Type 0
ServesStill IsPlaced known = (now : ℕ) (a b : At) (asked : List Intent)
    → IsStillAt a b → ServesFrom IsPlaced now a b asked (Leaves asked) known known

module _ (IsPlaced : Documents) (before known : Facts) where
  -- a call that does some of what is asked leaves the rest, and what it left of its own
  abbrev pub ServesPart : Type 0
  ServesPart = (now : ℕ) (a b : At) (asked left more : List Intent)
      → ServesFrom IsPlaced now a b asked (Leaves left) before known
      → ServesFrom IsPlaced now a b (asked ++ more) (Leaves (left ++ more)) before known

  -- where it falls short nothing comes of the rest, if that has no clean-up
  abbrev pub ServesShort : Type 0
  ServesShort = (now : ℕ) (a b : At) (asked more : List Intent) (o : Progress) → FallsShort o → cleanups more ≡ []
      → ServesFrom IsPlaced now a b asked o before known → ServesFrom IsPlaced now a b (asked ++ more) o before known

  -- wherever it comes, it has begun what is asked, as where memory is wanting
  abbrev pub ServesBegins : Type 0
  ServesBegins = (now : ℕ) (a b : At) (asked : List Intent) (o : Progress)
      → ServesFrom IsPlaced now a b asked o before known → ServesFrom IsPlaced now a b asked Wants before known

-- ---- one call behind the other

module _ (IsPlaced : Documents) (before between known : Facts) where
  -- some is done, and then the rest comes somewhere
  abbrev pub ServesThen : Type 0
  ServesThen = (now : ℕ) (a b c : At) (asked more : List Intent) (o : Progress)
      → ServesFrom IsPlaced now a b asked AllDone before between → ServesFrom IsPlaced now b c more o between known
      → ServesFrom IsPlaced now a c (asked ++ more) o before known

  -- the first is done, and then the others come somewhere
  abbrev pub ServesFirst : Type 0
  ServesFirst = (now : ℕ) (a b c : At) (i : Intent) (more : List Intent) (o : Progress)
      → ServesFrom IsPlaced now a b (i ∷ []) AllDone before between → ServesFrom IsPlaced now b c more o between known
      → ServesFrom IsPlaced now a c (i ∷ more) o before known

  -- what one call leaves is what the next one is asked
  abbrev pub ServesOn : Type 0
  ServesOn = (now : ℕ) (a b c : At) (asked left : List Intent) (o : Progress)
      → ServesFrom IsPlaced now a b asked (Leaves left) before between → ServesFrom IsPlaced now b c left o between known
      → ServesFrom IsPlaced now a c asked o before known

  -- of all that was asked the next one is done
  abbrev pub ServesNext : Type 0
  ServesNext = (now : ℕ) (a b c : At) (asked : List Intent) (i : Intent) (more : List Intent)
      → ServesFrom IsPlaced now a b asked (Leaves (i ∷ more)) before between → ServesFrom IsPlaced now b c (i ∷ []) AllDone between known
      → ServesFrom IsPlaced now a c asked (Leaves more) before known

  -- or it falls short, and what is behind it has no clean-up
  abbrev pub ServesEnds : Type 0
  ServesEnds = (now : ℕ) (a b c : At) (asked : List Intent) (i : Intent) (more : List Intent) (o : Progress)
      → ServesFrom IsPlaced now a b asked (Leaves (i ∷ more)) before between → ServesFrom IsPlaced now b c (i ∷ []) o between known
      → FallsShort o → cleanups more ≡ [] → ServesFrom IsPlaced now a c asked o before known

  -- behind a refusal the clean-ups of the rest are done, and the refusal stands
  abbrev pub ServesFails : Type 0
  ServesFails = (now : ℕ) (a b c : At) (asked more : List Intent) (why : Reason)
      → ServesFrom IsPlaced now a b asked (Stops why) before between → ServesFrom IsPlaced now b c (cleanups more) AllDone between known
      → ServesFrom IsPlaced now a c (asked ++ more) (Stops why) before known

  -- or these fall short too
  abbrev pub ServesFailsAgain : Type 0
  ServesFailsAgain = (now : ℕ) (a b c : At) (asked more : List Intent) (why : Reason) (o : Progress)
      → ServesFrom IsPlaced now a b asked (Stops why) before between → FallsShort o
      → ServesFrom IsPlaced now b c (cleanups more) o between known
      → ServesFrom IsPlaced now a c (asked ++ more) o before known

-- in any step, what comes of a call from this state and of the next one comes of both together
abbrev pub ComeTogether : State → (first last both : Upshots) → Type 0
ComeTogether s first last both = (p : Permit) (earlier calls more : List Call) (added others : List Rec)
    → first (record { step = p; earlier = earlier; calls = calls; state = s; added = added })
    → last (record { step = p; earlier = calls ++ earlier; calls = more; state = after_all s added; added = others })
    → both (record { step = p; earlier = earlier; calls = more ++ calls; state = s; added = added ++ others })

-- so it is of two calls
abbrev pub CallsJoin : (first last both : Upshots) → Type 0
CallsJoin first last both = (now : ℕ) (a b c : At) → ComeTogether (state_of a.kept) first last both
    → IsCall now a b first → IsCall now b c last → IsCall now a c both

-- ---- one group of records

-- a group of records that rests on no call of the device serves what is asked by it
abbrev pub RecordsServe : Documents → (before : Facts) → Type 0
RecordsServe IsPlaced before = (now : ℕ) (a b : At) (i : Intent) (e : End) (added : List Rec) → Happens a b [] added
    → ((p : Permit) → Does p (state_of a.kept) i added e) → ServesFrom IsPlaced now a b (i ∷ []) (progress_of i e) before NothingKnown

-- where that is no record, and nothing happened, what was known stands
abbrev pub NoneServes : Documents → (known : Facts) → Type 0
NoneServes IsPlaced known = (now : ℕ) (a b : At) (i : Intent) (e : End) → IsStillAt a b
    → ((p : Permit) → Does p (state_of a.kept) i [] e) → ServesFrom IsPlaced now a b (i ∷ []) (progress_of i e) known known

-- ---- what is known

-- what is known before may be more
abbrev pub ServesGiven : Documents → (before known other : Facts) → Type 0
ServesGiven IsPlaced before known other = (now : ℕ) (a b : At) (asked : List Intent) (o : Progress)
    → (other (state_of a.kept) → before (state_of a.kept))
    → ServesFrom IsPlaced now a b asked o before known → ServesFrom IsPlaced now a b asked o other known

-- what is known behind may be less, by what the call left
abbrev pub ServesKnown : Documents → (before known other : Facts) → Type 0
ServesKnown IsPlaced before known other = (now : ℕ) (a b : At) (asked : List Intent) (o : Progress)
    → (known (state_of b.kept) → other (state_of b.kept))
    → ServesFrom IsPlaced now a b asked o before known → ServesFrom IsPlaced now a b asked o before other

-- from one moment to the other this follows from that
abbrev pub IsBrought : (old new : At) → (carried brought : Facts) → Type 0
IsBrought old new carried brought = carried (state_of old.kept) → brought (state_of new.kept)

-- so it is carried over a call, by whatever else is known of that
abbrev pub ServesCarries : Documents → (before known carried brought : Facts) → Type 0
ServesCarries IsPlaced before known carried brought = (now : ℕ) (a b : At) (asked : List Intent) (o : Progress)
    → IsBrought a b carried brought
    → ServesFrom IsPlaced now a b asked o before known → ServesFrom IsPlaced now a b asked o (BothFacts before carried) (BothFacts known brought)

-- a pair may be one of more documents
abbrev pub ServesWider : (IsPlaced other : Documents) → (before known : Facts) → Type 0
ServesWider IsPlaced other before known = (now : ℕ) (a b : At) (asked : List Intent) (o : Progress)
    → ((s : State) (row : Row) (document : List ℕ) → IsPlaced s row document → other s row document)
    → ServesFrom IsPlaced now a b asked o before known → ServesFrom other now a b asked o before known

-- what each group of records keeps is kept by a call
abbrev pub ServesKeeps : Documents → (before known : Facts) → (State → Type 0) → Type 0
ServesKeeps IsPlaced before known IsSo = (now : ℕ) (a b : At) (asked : List Intent) (o : Progress) → GroupsKeep IsPlaced IsSo
    → (before (state_of a.kept) → IsSo (state_of a.kept))
    → ServesFrom IsPlaced now a b asked o before known → ServesFrom IsPlaced now a b asked o before (BothFacts IsSo known)

-- So a call that starts from vectors that list their alternates, on a sound tape, leaves them so, where a device that tells its
-- content up to a moment leaves them so: on any other device a pair may be shown.
abbrev pub ServesWhereTold : (known : Facts) → Type 0
ServesWhereTold known = (now : ℕ) (a b : At) (last : Device) (asked : List Intent) (o : Progress) → GroupsLeaveTold → GroupsLeavePuts
    → IsSound (state_of a.kept) → LeavesListed last (state_of b.kept)
    → ServesFrom (Untold last IsVectorAs) now a b asked o AreTold known
    → ServesFrom (Untold last IsVectorAs) now a b asked o AreTold (BothFacts AreTold known)

-- and serves
abbrev pub ToldServes : (known : Facts) → Type 0
ToldServes known = (now : ℕ) (a b : At) (asked : List Intent) (o : Progress) → GroupsLeaveTold → GroupsLeavePuts → IsSound (state_of a.kept)
    → LeavesListed b.device (state_of b.kept)
    → ServesFrom (Untold b.device IsVectorAs) now a b asked o AreTold known → Serves now a b asked o

-- ---- steps

-- a call that leaves nothing of what is asked, and no vector that is not committed, is a step of its own
abbrev pub ServesStep : Documents → (before known : Facts) → Type 0
ServesStep IsPlaced before known =
    (now : ℕ) (a b : At) (asked : List Intent) (o : Progress) (why : Option Reason) → EndsWith o why
    → IsQuiet (state_of b.kept)
    → before (state_of a.kept)
    → ServesFrom IsPlaced now a b asked o before known → IsWholeStep IsPlaced now a b asked why known

-- what records make of some work they make of it with more asked behind it, and something refused before it
abbrev pub GrowsWithMore : Type 0
GrowsWithMore =
    (p : Permit) (s : State) (w after : Work) (added : List Rec) (more : List Intent) (before : Option Reason) → MayGrow p s w added after
    → MayGrow p s (left_with more before w.intents w.refused) added (left_with more before after.intents after.refused)
