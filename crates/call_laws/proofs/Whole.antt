-- A call that is a step of its own.
use Rattle.std.proofs.Common.{◌≡◌, ℕ, ◌+◌, ◌≤◌, arith, true, false, List, [], ◌++◌, refl, sym, ◌∙◌, ap, subst, append-nil, inl, inr}
use Rattle.std.specs.Prelude.{Option}
use Rattle.device_log.specs.Calls.{Call}
use Rattle.cache_model.specs.declared.record.Rec.{Rec}
use Rattle.cache_model.specs.State.{State, after_all}
use Rattle.cache_model.specs.Kept.{state_of}
use Rattle.cache_model.specs.Permit.{Intent, Permit, Reason, to_do}
use Rattle.cache_model.specs.Legal.{IsQuiet, MayGrow}
use Rattle.cache_model.specs.Pair.{Documents}
use Rattle.call_laws.specs.Moments.{At, Encloses, Facts, permit_of}
use Rattle.call_laws.specs.Progress
use Rattle.call_laws.specs.Progress.{EndsWith, Progress, Spends}
use Rattle.call_laws.specs.Serves.{ServesFrom}
use Rattle.call_laws.specs.Whole.{IsWholeStep}
use Rattle.call_laws.proofs.Joined.{state_behind}

pub encloses_own : (now : ℕ) (a : At) (calls : List Call) → Encloses now a (permit_of now a calls) [] calls
encloses_own now a calls = record { later = []; moment = refl; packed = refl; syncs = refl; past = refl; events = sym (append-nil calls) }

grows_whole : (p : Permit) (s : State) (asked : List Intent) (added : List Rec) (o : Progress) (why : Option Reason) → EndsWith o why
    → Spends p s asked added o
    → MayGrow p s (to_do asked) added (record { intents = []; refused = why })
grows_whole p s asked added o why Progress.EndsWith.in_full h = h
grows_whole p s asked added o why (Progress.EndsWith.refused reason) h = h

pub serves_step : {P : Documents} {now : ℕ} {a b : At} {asked : List Intent} {o : Progress} {before known : Facts} (why : Option Reason) → EndsWith o why
    → IsQuiet (state_of b.kept) → before (state_of a.kept)
    → ServesFrom P now a b asked o before known
    → IsWholeStep P now a b asked why known
serves_step {P} {now} {a} {b} {asked} {o} {before} {known} why ends quiet k f =
    let p : Permit = permit_of now a f.calls in
    let there : state_of b.kept ≡ after_all (state_of a.kept) f.added = state_behind a.kept b.kept f.added f.happens.adds in
    record {
      calls = f.calls;
      added = f.added;
      happens = f.happens;
      ends = elim ((f.does p [] (encloses_own now a f.calls)).from k) [
        | inr pair ↦ inr pair
        | inl v ↦ inl (
          record {
            grows = grows_whole p (state_of a.kept) asked f.added o why ends v.spends;
            quiet = subst IsQuiet there quiet;
            faults = f.happens.faults;
            effects = f.happens.effects;
          },
          subst known (sym there) v.behind,
        )
      ];
    }
