-- What was passed is brought, and what is left is due from the place on.
use Rattle.std.proofs.Common.{◌≡◌, ◌≤◌, ◌+◌, ◌-◌, ◌++◌, vec_len, vec_capacity}
use Rattle.cache_model.specs.Kept.{state_of}
use Rattle.cache_model.specs.Due.{due_candidates}
use Rattle.stripe_due.specs.Walk.{candidates_from}
use Rattle.stripe_due.proofs.finding.find_due.Given as goal

abbrev pub invariant-walk : goal.invariant-walk
invariant-walk g l =
    let s = state_of (g.C.Chronicle.kept l.chronicle) in
    record {
      due : l.into.items ++ candidates_from s l.now l.place l.next ≡ due_candidates s l.now;
      few : vec_len l.into + l.floor ≤ l.place;
      room : vec_capacity l.initial.into ≤ vec_capacity l.into;
    }

abbrev pub decreases-walk : goal.decreases-walk
decreases-walk g l = l.next - l.place
