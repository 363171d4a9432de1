-- One call of a reader behind another.
use Rattle.std.proofs.Common.{◌≡◌, ℕ, ◌*◌, List, [], length, sym, ◌∙◌, ap, subst}
use Rattle.tape_base.specs.declared.geometries.Geometry.{Geometry}
use Rattle.tape_base.specs.Geometry.{budget_of}
use Rattle.cache_model.specs.declared.record.Rec.{Rec}
use Rattle.cache_model.specs.Contents.{AnyContents}
use Rattle.call_laws.specs.Moments.{At}
use Rattle.call_laws.proofs.Joined.{nothing_more}
use Rattle.cache_calls.specs.declared.calls.Calls.{Ghosts as CallsGhosts}
use Rattle.cache_model.specs.Subjects.{IsOfReader}
use Rattle.cache_calls.specs.Adds.{AddsOnly}
use Rattle.cache_calls.specs.Keeping.{KeepsUnharmed, state_at}
use Rattle.cache_calls.specs.Standing.{StaysStanding}
use Rattle.cache_calls.proofs.Keeping.{goes_still, goes_then}
use Rattle.cache_calls.proofs.Others.{reads_leave_others}
use Rattle.script_run.specs.Losses.{NoLossIsAFault}
use Rattle.cache_replay.proofs.Frames.{adds_then, losses_kept}
use Rattle.cache_replay.specs.ReaderLines.{IsReadyToRead, LeavesReader}

own_still : (P : Rec → Type 0) (a : At) → AddsOnly P a a
own_still P a = record { added = []; adds = nothing_more a.kept; own = tt }

pub losses_read : (n : ℕ) (a b : At) → AddsOnly (IsOfReader n) a b → NoLossIsAFault (state_at a) → NoLossIsAFault (state_at b)
losses_read n a b own none = losses_kept a b own.added own.adds none

module _ {S W R : Type 0} {c : CallsGhosts S W R} where
  pub leaves_still : (n : ℕ) (a : S) → c.holds a → LeavesReader c a a n
  leaves_still n a holds = record { goes = goes_still a holds; stands = λ contents any stood. stood; own = own_still (IsOfReader n) (c.at a) }

  -- the number of the second is that of the first
  pub leaves_more : (n m : ℕ) (x y z : S) → m ≡ n → LeavesReader c x y n → LeavesReader c y z m → LeavesReader c x z n
  leaves_more n m x y z same first next = record {
    goes = goes_then first.goes next.goes;
    stands = λ contents any stood. next.stands contents any (first.stands contents any stood);
    own = adds_then (IsOfReader n) (c.at x) (c.at y) (c.at z) first.own
        (subst (λ k. AddsOnly (IsOfReader k) (c.at y) (c.at z)) same next.own);
  }

  pub closed_leaves : (n : ℕ) (a b : S) → KeepsUnharmed c.at c.holds a b → StaysStanding c.stands AnyContents a b → AddsOnly (IsOfReader n) (c.at a) (c.at b)
      → LeavesReader c a b n
  closed_leaves n a b keeps stands own = record { goes = keeps.goes_on; stands = stands; own = own }

  pub still_ready : (n : ℕ) (a b : S) (page more : List ℕ) → LeavesReader c a b n → length more ≡ length page → IsReadyToRead c a page → IsReadyToRead c b more
  still_ready n a b page more leaves same ready = record {
    holds = leaves.goes.holds_then;
    page_is = same ∙ (ready.page_is ∙ ap (λ (g : Geometry). 512 * budget_of g) (sym (reads_leave_others n (c.at a) (c.at b) leaves.own).geometry));
  }
