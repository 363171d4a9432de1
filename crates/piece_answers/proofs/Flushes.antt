-- What a flush may add, and what a read and records use up.
use Rattle.std.proofs.Common.{◌≡◌, ℕ, ◌+◌, ◌<◌, ◌≤◌, List, [], refl, ◌∙◌, ap, subst, arith, inl, inr, Result}
use Rattle.std.proofs.lemmas.Bool.{le-leb, leb-true, lt-leb}
use Rattle.edge_io.specs.declared.source.Failed.{Failed}
use Rattle.power_cuts.specs.Surviving.{LeaveCopies, NoneMade}
use Rattle.power_cuts.proofs.Surviving.{leave_further}
use Rattle.cyclone.specs.Cyclone.{Seen, ReadsBlocks, SameTape}
use Rattle.cyclone.proofs.Calls.{reads_ask}
use Rattle.logged_disk.proofs.GoingOn.{asked_further, asked_nothing, goes_further, stays_put}
use Rattle.cache_model.specs.State.{State}
use Rattle.cache_model.specs.Permit.{Permit, Flush, Done, Fails, Exhausted}
use Rattle.cache_model.specs.Room.{copies_end, limit}
use Rattle.cache_model.specs.Legal
use Rattle.cache_model.specs.Legal.{Does, IsQuiet}
use Rattle.piece_answers.specs.Covers.{Uses}
use Rattle.piece_answers.specs.Flush.{WritesNothing}
use Rattle.piece_answers.proofs.Leaving.{read_leaves}

pub empty_does : (p : Permit) (s : State) → IsQuiet s → s.filled ≡ 0 → Does p s Flush [] Done
empty_does p s quiet h = Legal.DoesFlush.empty quiet h refl

pub can : (s : State) → IsQuiet s → 0 < s.filled → copies_end s < limit → Legal.CanFlush s
can s quiet some below = record { quiet = quiet; filled = some; below = lt-leb limit (copies_end s) below }

pub exhausted_does : (p : Permit) (s : State) → IsQuiet s → 0 < s.filled → limit ≤ copies_end s → Does p s Flush [] (Fails Exhausted)
exhausted_does p s quiet some above = Legal.DoesFlush.exhausted quiet some (le-leb limit (copies_end s) above) refl

-- then it is written out, where its copies end below the limit
pub writes_some : (s : State) → 0 < s.filled → copies_end s < limit → WritesNothing s → ⊥
writes_some s some below (inl none) = omega (arith, some, none)
writes_some s some below (inr ended) = let above : limit ≤ copies_end s = leb-true limit (copies_end s) ended in omega (arith, below, above)

-- what a read uses up, and what is done behind it
pub read_uses : (records room left : ℕ) (c mid new : Seen) (place blocks : ℕ) (result : Result (Unit {0}) Failed) (bytes : List ℕ) → SameTape c mid → ReadsBlocks c mid place blocks result bytes
    → Uses records 0 0 0 room left mid new → Uses records 0 0 0 room left c new
read_uses records room left c mid new place blocks result bytes tape read uses =
    let spare : mid.spare ≡ c.spare = ap (λ (y : Seen). y.spare) tape in
    let geometry : mid.geometry ≡ c.geometry = ap (λ (y : Seen). y.geometry) tape in
    let asked = reads_ask c mid place blocks result bytes read in
    record {
      same = uses.same ∙ geometry;
      of_records = uses.of_records;
      of_entries = omega (arith, uses.of_entries, spare);
      device = (asked_further c.device mid.device new.device asked (record { keeps = uses.device; later = uses.later; goes = uses.goes })).keeps;
      goes = goes_further c.device mid.device new.device asked.goes uses.goes;
      leaves = leave_further c.geometry c.device.past mid.device.past new.device.past (read_leaves c mid place blocks result bytes read)
          (subst (λ g. LeaveCopies g mid.device.past new.device.past) geometry uses.leaves);
      later = omega (arith, asked.later, uses.later);
    }

-- records alone
pub records_use : (records room left : ℕ) (c : Seen) → room ≤ left + records → Uses records 0 0 0 room left c c
records_use records room left c few = record {
  same = refl;
  of_records = few;
  of_entries = omega arith;
  device = (asked_nothing c.device).keeps;
  goes = stays_put c.device;
  leaves = NoneMade;
  later = omega arith;
}
