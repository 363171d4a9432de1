-- What is known before a call and behind it, said in other words.
use Rattle.std.proofs.Common.{◌≡◌, ℕ, List, [], ◌∷◌, ◌++◌, sym, subst, inl, inr}
use Rattle.device_log.specs.Calls.{Call}
use Rattle.cache_model.specs.State.{Row, State}
use Rattle.cache_model.specs.Kept.{state_of}
use Rattle.cache_model.specs.Permit.{Intent, Permit}
use Rattle.cache_model.specs.Pair.{Documents, IsPairNext, IsPairOf}
use Rattle.call_laws.specs.Moments.{At, BothFacts, Facts}
use Rattle.call_laws.specs.Progress.{Progress}
use Rattle.call_laws.specs.Serves.{ServesFrom}
use Rattle.call_laws.proofs.Joined.{call_as, state_behind}

-- more is known before
pub serves_given : {P : Documents} {now : ℕ} {a b : At} {asked : List Intent} {o : Progress} {before known : Facts} (more : Facts)
    → (more (state_of a.kept) → before (state_of a.kept)) → ServesFrom P now a b asked o before known
    → ServesFrom P now a b asked o more known
serves_given more law f = call_as (λ p earlier calls added step happens h. record { from = λ k. h.from (law k) }) f

-- something else is known behind, by what the call left
pub serves_known : {P : Documents} {now : ℕ} {a b : At} {asked : List Intent} {o : Progress} {before known : Facts} (other : Facts)
    → (known (state_of b.kept) → other (state_of b.kept)) → ServesFrom P now a b asked o before known
    → ServesFrom P now a b asked o before other
serves_known {a = a} {b = b} {known = known} other law f = call_as (λ p earlier calls added step happens h. record {
  from = λ k. elim (h.from k) [
    | inl v ↦ inl (record {
      spends = v.spends;
      behind = subst other (state_behind a.kept b.kept added happens.adds)
          (law (subst known (sym (state_behind a.kept b.kept added happens.adds)) v.behind));
    })
    | inr pair ↦ inr pair
  ];
}) f

-- what the call leaves as it was, by whatever else is known of it, is known behind too
pub serves_carries : {P : Documents} {now : ℕ} {a b : At} {asked : List Intent} {o : Progress} {before known : Facts} (carried brought : Facts)
    → (carried (state_of a.kept) → brought (state_of b.kept))
    → ServesFrom P now a b asked o before known → ServesFrom P now a b asked o (BothFacts before carried) (BothFacts known brought)
serves_carries {a = a} {b = b} carried brought law f = call_as (λ p earlier calls added step happens h. record {
  from = λ k. elim (h.from k.0) [
    | inl v ↦ inl (record {
      spends = v.spends;
      behind = (v.behind, subst brought (state_behind a.kept b.kept added happens.adds) (law k.1));
    })
    | inr pair ↦ inr pair
  ];
}) f

-- ---- of which documents a pair may be

module _ (P Q : Documents) (wider : (s : State) (row : Row) (document : List ℕ) → P s row document → Q s row document) where
  pair_of_wider : (p : Permit) (s : State) (row : Row) → IsPairOf P p s row → IsPairOf Q p s row
  pair_of_wider p s row h =
      record { document = h.document; bytes = h.bytes; live = h.live; placed = wider s row h.document h.placed; given = h.given; collide = h.collide }

  pub next_of_wider : (p : Permit) (s : State) (is : List Intent) → IsPairNext P p s is → IsPairNext Q p s is
  next_of_wider p s [] h = absurd h
  next_of_wider p s (i ∷ is) h = record { row = h.row; read = h.read; pair = pair_of_wider p s h.row h.pair }

  -- such a pair is one of more documents
  pub serves_wider : {now : ℕ} {a b : At} {asked : List Intent} {o : Progress} {before known : Facts} → ServesFrom P now a b asked o before known
      → ServesFrom Q now a b asked o before known
  serves_wider {a = a} f = call_as (λ p earlier calls added step happens h. record {
    from = λ k. elim (h.from k) [
      | inl v ↦ inl (record { spends = v.spends; behind = v.behind })
      | inr v ↦ inr (record { before = v.before; rest = v.rest; left = v.left; is = v.is; grows = v.grows; pair = next_of_wider p _ v.left.intents v.pair })
    ];
  }) f
