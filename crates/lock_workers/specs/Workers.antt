-- Workers before and behind their jobs, and what comes of all of them.
use Rattle.std.specs.Prelude.{◌≡◌, ℕ, suc, ◌<◌, Bool, false, List, [], ◌∷◌, ◌++◌, length, map, slice_index_or, ⊤}
use Rattle.atomic_table.specs.Seated.{TableId}
use Rattle.stripe_lock.specs.declared.view.StripeTurn.{StripeTurn}
use Rattle.stripe_lock.specs.declared.view.PassTurns.{PassTurns}
use Rattle.stripe_lock.specs.History.{AreBelow, first_number, places_of}
use Rattle.stripe_lock.specs.Passes.{PassState}
use Rattle.lock_workers.specs.declared.worker.Worker.{Worker}
use Rattle.lock_workers.specs.Jobs.{AreJobsFrom, AreJobsUnder, DidFront, HasDone}

module _ {R J : Type 0} (lock : TableId) (chronicle : List R) where
  -- a worker of this number that has done nothing yet
  pub record IsHired (n : ℕ) (jobs : List J) (w : Worker R J) : Type 0 where
    pub lock_is : w.pass.lock ≡ lock
    pub chronicle_is : w.pass.chronicle ≡ chronicle
    pub seen : w.pass.seen ≡ []
    pub owned : w.pass.owned ≡ record { number = n; places = [] } ∷ []
    pub jobs_are : w.jobs.items ≡ jobs

  -- such workers, for each of these lists of jobs one, by the numbers from n on
  abbrev pub AreHired : ℕ → List (Worker R J) → List (List J) → Type 0
  AreHired n [] [] = ⊤
  AreHired n (w ∷ ws) (jobs ∷ others) = IsHired n jobs w × AreHired (suc n) ws others
  AreHired n _ _ = ⊥

module _ {J R A : Type 0} (number : J → ℕ) (fits : J → J → List R → List (StripeTurn R) → StripeTurn R → A → Type 0) where
  -- a worker may begin: its pass is one of this lock, with one number, under which there is no turn
  pub record MayBegin (lock : TableId) (w : Worker R J) : Type 0 where
    pub lock_is : w.pass.lock ≡ lock
    pub fresh : HasDone number fits (first_number w.pass.owned) [] w.pass

  -- it did its jobs, or the first of them
  pub record Works (lock : TableId) (old new : Worker R J) : Type 0 where
    pub lock_is : new.pass.lock ≡ lock
    pub chronicle_is : new.pass.chronicle ≡ old.pass.chronicle
    pub did : DidFront number fits (first_number old.pass.owned) old.jobs.items new.pass new.short

  -- so did each of these
  abbrev pub AllWork : TableId → (olds news : List (Worker R J)) → Type 0
  AllWork lock olds news = (i : ℕ) (d : Worker R J) → i < length olds → Works lock (slice_index_or olds i d) (slice_index_or news i d)

  module _ (lock : TableId) (chronicle : List R) where
    -- a worker of this number did its jobs, or the first of them
    pub record IsThrough (n : ℕ) (jobs : List J) (w : Worker R J) : Type 0 where
      pub lock_is : w.pass.lock ≡ lock
      pub chronicle_is : w.pass.chronicle ≡ chronicle
      pub did : DidFront number fits n jobs w.pass w.short

    -- so did the workers of the numbers from n on
    abbrev pub AreThrough : ℕ → List (Worker R J) → List (List J) → Type 0
    AreThrough n [] [] = ⊤
    AreThrough n (w ∷ ws) (jobs ∷ others) = IsThrough n jobs w × AreThrough (suc n) ws others
    AreThrough n _ _ = ⊥

  -- the turns under each of these numbers, whose places are known, are those of these jobs
  abbrev pub Knows : (chronicle : List R) (turns : List (StripeTurn R)) → List (ℕ × List J) → List PassTurns → Type 0
  Knows chronicle turns [] [] = ⊤
  Knows chronicle turns (w ∷ ws) (k ∷ ks) = (k.number ≡ w.0) × (k.places ≡ places_of w.0 turns) × AreJobsUnder number fits chronicle turns w.0 w.1 × Knows chronicle turns ws ks
  Knows chronicle turns _ _ = ⊥

-- the jobs of each worker
abbrev pub jobs_of : {R J : Type 0} → List (Worker R J) → List (List J)
jobs_of = map (λ w. w.jobs.items)

-- lists with their numbers, from n on
abbrev pub numbered : {J : Type 0} → ℕ → List (List J) → List (ℕ × List J)
numbered n [] = []
numbered n (jobs ∷ others) = (n, jobs) ∷ numbered (suc n) others

-- the first of these jobs, and all of them where memory was not short
pub record IsFront {J : Type 0} (short : Bool) (done jobs : List J) : Type 0 where
  pub rest : List J
  pub split : jobs ≡ done ++ rest
  pub whole : short ≡ false → rest ≡ []

-- so it is of the jobs of each worker
abbrev pub AreFronts : {J : Type 0} → Bool → (dones jobs : List (List J)) → Type 0
AreFronts short [] [] = ⊤
AreFronts short (done ∷ dones) (jobs ∷ others) = IsFront short done jobs × AreFronts short dones others
AreFronts short _ _ = ⊥

module _ {J R A : Type 0} (number : J → ℕ) (fits : J → J → List R → List (StripeTurn R) → StripeTurn R → A → Type 0) where
  -- a pass of the number `own`, under which there is no turn, took in the first workers, whose numbers are from 0 on
  pub record Gathers (lock : TableId) (chronicle : List R) (own : ℕ) (jobs : List (List J)) (pass : PassState R) (left : List (Worker R J)) (short : Bool) : Type 0 where
    pub lock_is : pass.lock ≡ lock
    pub chronicle_is : pass.chronicle ≡ chronicle
    pub before : List (List J)
    pub after : List (List J)
    pub split : jobs ≡ before ++ after
    pub dones : List (List J)
    pub fronts : AreFronts short dones before
    pub through : AreThrough number fits lock chronicle (length before) left after
    pub knows : Knows number fits pass.chronicle pass.seen ((own, []) ∷ numbered 0 dones) pass.owned

  -- The turns under each worker's number are those of its jobs, each once and in its order, and no turn is under another
  -- number. Where memory was short, they are those of its first jobs.
  pub record IsShared (chronicle : List R) (turns : List (StripeTurn R)) (jobs : List (List J)) (short : Bool) : Type 0 where
    pub dones : List (List J)
    pub fronts : AreFronts short dones jobs
    pub each : AreJobsFrom number fits chronicle turns 0 dones
    pub no_others : AreBelow (length jobs) turns
