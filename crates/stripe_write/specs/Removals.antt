-- What a removal answers, and what it records.
use Rattle.std.specs.Prelude.{◌≡◌, true, false, List, [], ◌∷◌, is_some, Result, IfOk, OnErr}
use Rattle.std.specs.declared.alloc.AllocError.{AllocError}
use Rattle.tape_base.specs.declared.keys.Key.{Key}
use Rattle.logged_disk.specs.declared.device.Disk.{Ghosts as DiskGhosts}
use Rattle.dir_table.specs.declared.directory.Directory.{Ghosts as DirectoryGhosts}
use Rattle.cache_chronicle.specs.declared.chronicle.Chronicle.{Ghosts as ChronicleGhosts}
use Rattle.cache_model.specs.declared.record.Rec.{Rec}
use Rattle.cache_model.specs.declared.record.Rec.TheVariants as rec
use Rattle.cache_model.specs.State.{State}
use Rattle.cache_model.specs.Kept.{with_records}
use Rattle.cache_model.specs.Verdict.{cause_of_miss, live_vector_of}
use Rattle.cache_model.specs.Permit.{Done, Permit, Remove}
use Rattle.cache_model.specs.Legal.{Does}
use Rattle.held_pieces.specs.Still.{IsStill}
use Rattle.stripe_core.specs.declared.stripe.Stripe.{Stripe}
use Rattle.stripe_core.specs.Between.{Rests}
use Rattle.stripe_core.specs.Stripe.{kept_in, seen_in, state_in}
use Rattle.cache_answers.specs.declared.answers.Removal.{Removal}
use Rattle.cache_answers.specs.declared.answers.Removal.TheVariants as removal

-- the record of a removal; none where there was no object
abbrev pub removal_adds : Key → Removal → List Rec
removal_adds key (removal.Removed put) = rec.Removed put key ∷ []
removal_adds key (removal.Absent why) = []

-- an object is removed where its vector is live; else the cause is that of a lookup
abbrev pub RemovesWhere : State → Key → Removal → Type 0
RemovesWhere s key (removal.Removed put) = is_some (live_vector_of s key) ≡ true
RemovesWhere s key (removal.Absent why) = (is_some (live_vector_of s key) ≡ false) × (why ≡ cause_of_miss s key)

-- these records do what removing asks, in any step; so do none, where there was no object
abbrev pub RemovesAsIsAsked : State → Key → Removal → Type 0
RemovesAsIsAsked s key answer = (p : Permit) → Does p s (Remove key) (removal_adds key answer) Done

-- ---- what a stripe makes of it

module _ {D R C : Type 0} {d : DiskGhosts D} {r : DirectoryGhosts R} {c : ChronicleGhosts C} where
  -- what a removal comes to
  pub record RemovesInStripe (old new : Stripe D R C d r c) (key : Key) (result : Result Removal AllocError) : Type 0 where
    pub rests : Rests old new
    pub adds : IfOk result (λ answer. kept_in new ≡ with_records (kept_in old) (removal_adds key answer))
    pub removes : IfOk result (RemovesWhere (state_in old) key)
    pub does : IfOk result (RemovesAsIsAsked (state_in old) key)
    pub err : OnErr result (kept_in new ≡ kept_in old)
    pub still : IsStill (seen_in old).device (seen_in new).device
