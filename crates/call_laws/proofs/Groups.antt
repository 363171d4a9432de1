-- Groups of records that rest on no call, and what they serve.
use Rattle.std.proofs.Common.{◌≡◌, ℕ, false, List, [], ◌∷◌, ◌++◌, refl, ap, inl}
use Rattle.device_log.specs.Calls.{Call}
use Rattle.cache_model.specs.declared.record.Rec.{Rec}
use Rattle.cache_model.specs.Kept.{state_of, with_records}
use Rattle.cache_model.specs.Permit.{End, Intent, Permit}
use Rattle.cache_model.specs.Given.{denials, effects_in, effects_told}
use Rattle.cache_model.specs.Legal.{Does}
use Rattle.cache_model.specs.Pair.{Documents}
use Rattle.call_laws.specs.Moments.{NothingKnown, At, Facts, IsStillAt}
use Rattle.call_laws.specs.Progress.{progress_of}
use Rattle.call_laws.specs.Happens.{Happens}
use Rattle.call_laws.specs.Serves.{ServesFrom}
use Rattle.call_laws.proofs.Grown.{one_spends}
use Rattle.call_laws.proofs.Joined.{happens_nothing}

-- ---- what happens

-- of a stripe that does not sync
pub happens_plainly : {a b : At} (calls : List Call) (added : List Rec) → a.setting.syncs ≡ false → b.setting ≡ a.setting
    → b.device.past ≡ calls ++ a.device.past → b.kept ≡ with_records a.kept added → effects_told added ≡ effects_in calls → Happens a b calls added
happens_plainly {a} calls added unsynced setting past adds effects = record {
  setting = setting;
  past = past;
  adds = adds;
  faults = ap denials effects;
  effects = λ u. effects;
}

-- a group of no records, without a call, and what was known stands
pub serves_none : {P : Documents} {now : ℕ} {a b : At} {known : Facts} (i : Intent) (e : End) → IsStillAt a b
    → ((p : Permit) → Does p (state_of a.kept) i [] e)
    → ServesFrom P now a b (i ∷ []) (progress_of i e) known known
serves_none {a = a} i e still does = record {
  calls = [];
  added = [];
  happens = happens_nothing still;
  does = λ p earlier step. record {
    from = λ k. inl (record {
      spends = one_spends p (state_of a.kept) i [] e (does p);
      behind = k;
    });
  };
}

-- a group of records that rests on no call
pub serves_recorded : {P : Documents} {now : ℕ} {a b : At} {before : Facts} (i : Intent) (e : End) (added : List Rec) → Happens a b [] added
    → ((p : Permit) → Does p (state_of a.kept) i added e)
    → ServesFrom P now a b (i ∷ []) (progress_of i e) before NothingKnown
serves_recorded {a = a} i e added happens does = record {
  calls = [];
  added = added;
  happens = happens;
  does = λ p earlier step. record {
    from = λ k. inl (record {
      spends = one_spends p (state_of a.kept) i added e (does p);
      behind = tt;
    });
  };
}
