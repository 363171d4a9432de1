-- A close of three asks, and its exits, each by one term. What each call did is supposed here.
use Rattle.std.proofs.Common.{◌≡◌, ℕ, true, List, [], ◌∷◌, refl}
use Rattle.std.specs.Prelude.{None}
use Rattle.device_log.specs.Calls.{Call}
use Rattle.cache_model.specs.Kept.{state_of}
use Rattle.cache_model.specs.Permit.{Weigh, Finish, Commit, GiveUp, Intent, Reason}
use Rattle.cache_model.specs.Legal.{IsQuiet}
use Rattle.cache_model.specs.Vectors.{AreTold, IsVectorAs}
use Rattle.call_laws.specs.Moments.{NothingKnown, At, Facts}
use Rattle.call_laws.specs.Progress.{AllDone, FallsShort, IfDone, Leaves, Progress, Stops, in_full}
use Rattle.call_laws.specs.Serves.{ServesFrom}
use Rattle.call_laws.specs.Whole.{IsWholeStep}
use Rattle.call_laws.proofs.Known.{serves_known}
use Rattle.call_laws.proofs.Served.{serves_fails, serves_first, serves_on, serves_refused}
use Rattle.call_laws.proofs.Whole.{serves_step}

-- what was asked came there, from vectors that list their alternates, or a pair is shown of one of them
abbrev ServesAs : (now : ℕ) → (old new : At) → List Intent → Progress → Type 0
ServesAs now old new asked o = ServesFrom IsVectorAs now old new asked o AreTold NothingKnown

module _ (now put rest fragments : ℕ) (a b c d : At) (Weighed : Facts) where
  -- what a close is asked
  abbrev closes : List Intent
  closes = Weigh put rest ∷ Finish put fragments ∷ Commit put ∷ []

  -- each call, and where it comes; what weighing makes known is what finishing needs
  abbrev Weighs : Progress → Type 0
  Weighs o = ServesFrom IsVectorAs now a b (Weigh put rest ∷ []) o AreTold (IfDone o Weighed)

  abbrev Finishes : Progress → Type 0
  Finishes o = ServesFrom IsVectorAs now b c (Finish put fragments ∷ []) o Weighed NothingKnown

  abbrev Commits : Progress → Type 0
  Commits o = ServesFrom IsVectorAs now c d (Commit put ∷ []) o NothingKnown NothingKnown

  -- all is done
  done : Weighs AllDone → Finishes AllDone → Commits AllDone → ServesAs now a d closes AllDone
  done weighs finishes commits = serves_first weighs (serves_first finishes commits)

  -- the last call comes anywhere
  last : (o : Progress) → Weighs AllDone → Finishes AllDone → Commits o → ServesAs now a d closes o
  last o weighs finishes commits = serves_first weighs (serves_first finishes commits)

  -- the second one falls short
  lost : (o : Progress) → FallsShort o → Weighs AllDone → Finishes o → ServesAs now a c closes o
  lost o short weighs finishes = serves_first weighs (serves_refused finishes short refl)

  -- the first one does
  stopped : (o : Progress) → FallsShort o → Weighs o → ServesAs now a b closes o
  stopped o short weighs = serves_known NothingKnown (λ k. tt) (serves_refused weighs short refl)

  -- finishing is two calls, of which the first makes room
  roomed : ServesFrom IsVectorAs now a b (Finish put fragments ∷ []) (Leaves (Finish put fragments ∷ [])) Weighed Weighed → Finishes AllDone
      → ServesFrom IsVectorAs now a c (Finish put fragments ∷ []) AllDone Weighed NothingKnown
  roomed rooms places = serves_on rooms places

  -- a close that was refused is given up
  given_up : (why : Reason) → ServesAs now a b closes (Stops why) → ServesFrom IsVectorAs now b c (GiveUp put ∷ []) AllDone NothingKnown NothingKnown
      → ServesAs now a c (Weigh put rest ∷ Finish put fragments ∷ Commit put ∷ GiveUp put ∷ []) (Stops why)
  given_up why closing gives = serves_fails (GiveUp put ∷ []) closing gives

  -- a close that is a step of its own
  whole : AreTold (state_of a.kept) → IsQuiet (state_of d.kept)
      → ServesFrom IsVectorAs now a d closes AllDone AreTold AreTold → IsWholeStep IsVectorAs now a d closes None AreTold
  whole known quiet serves = serves_step None in_full quiet known serves
