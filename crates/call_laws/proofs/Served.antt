-- What calls did, one behind the other.
use Rattle.std.proofs.Common.{◌≡◌, ℕ, List, [], ◌∷◌, ◌++◌, sym, subst, inl, inr}
use Rattle.device_log.specs.Calls.{Call}
use Rattle.cache_model.specs.declared.record.Rec.{Rec}
use Rattle.cache_model.specs.State.{State, after_all}
use Rattle.cache_model.specs.Kept.{state_of}
use Rattle.cache_model.specs.Permit.{Intent, Permit, Reason, to_do}
use Rattle.cache_model.specs.Pair.{Documents, ShowsPair}
use Rattle.cache_model.proofs.Steps.{after_all-append}
use Rattle.call_laws.specs.Moments.{At, Facts, IsStillAt}
use Rattle.call_laws.specs.Progress.{AllDone, FallsShort, Leaves, Progress, Spends, Stops, Wants, cleanups}
use Rattle.call_laws.specs.Serves.{ServesFrom}
use Rattle.call_laws.proofs.Grown.{shown_fails, shown_first, shown_later, shown_with, spends_begins, spends_fails, spends_fails_again, spends_none, spends_on, spends_part, spends_short}
use Rattle.call_laws.proofs.Joined.{call_as, call_still, call_then}

-- ---- one call

-- the same call, by a law of what is asked
turned : {P : Documents} {now : ℕ} {a b : At} {is ks : List Intent} {o all : Progress} {before known : Facts}
    → ((p : Permit) (s : State) (r : List Rec) → Spends p s is r o → Spends p s ks r all)
    → ((p : Permit) (s : State) (r : List Rec) → ShowsPair P p s is r → ShowsPair P p s ks r)
    → ServesFrom P now a b is o before known → ServesFrom P now a b ks all before known
turned {a = a} law pairs f = call_as (λ p earlier calls added step happens h. record {
  from = λ k. elim (h.from k) [
    | inl v ↦ inl (record {
      spends = law p (state_of a.kept) added v.spends;
      behind = v.behind;
    })
    | inr pair ↦ inr (pairs p (state_of a.kept) added pair)
  ];
}) f

-- nothing is done
pub serves_still : {P : Documents} {now : ℕ} {a b : At} {known : Facts} (is : List Intent) → IsStillAt a b
    → ServesFrom P now a b is (Leaves is) known known
serves_still {a = a} is still = call_still still (λ p earlier step. record {
  from = λ k. inl (record {
    spends = spends_none p (state_of a.kept) is;
    behind = k;
  });
})

-- some of what is asked is done
pub serves_part : {P : Documents} {now : ℕ} {a b : At} {is left : List Intent} {before known : Facts} (js : List Intent)
    → ServesFrom P now a b is (Leaves left) before known → ServesFrom P now a b (is ++ js) (Leaves (left ++ js)) before known
serves_part {P} {is = is} {left = left} js f = turned (λ p s r. spends_part p s is left js r) (λ p s r h. shown_with P p s (to_do is) r js _ h) f

-- it is done up to some point
pub serves_begins : {P : Documents} {now : ℕ} {a b : At} {is : List Intent} {o : Progress} {before known : Facts}
    → ServesFrom P now a b is o before known → ServesFrom P now a b is Wants before known
serves_begins {is = is} {o = o} f = turned (λ p s r. spends_begins p s is r o) (λ p s r h. h) f

-- it falls short, and nothing comes of the rest
pub serves_short : {P : Documents} {now : ℕ} {a b : At} {is : List Intent} {o : Progress} {before known : Facts} (js : List Intent) → FallsShort o
    → cleanups js ≡ []
    → ServesFrom P now a b is o before known → ServesFrom P now a b (is ++ js) o before known
serves_short {P} {is = is} {o = o} js short none f = turned (λ p s r. spends_short p s is js r o short.short none) (λ p s r h. shown_with P p s (to_do is) r js _ h) f

-- ---- one behind the other

-- two calls, by laws of what is asked
joined : {P : Documents} {now : ℕ} {a b c : At} {is js ks : List Intent} {o last all : Progress} {before between known : Facts}
    → ((p : Permit) (s : State) (r u : List Rec) → Spends p s is r o → Spends p (after_all s r) js u last → Spends p s ks (r ++ u) all)
    → ((p : Permit) (s : State) (r u : List Rec) → ShowsPair P p s is r → ShowsPair P p s ks (r ++ u))
    → ((p : Permit) (s : State) (r u : List Rec) → Spends p s is r o → ShowsPair P p (after_all s r) js u → ShowsPair P p s ks (r ++ u))
    → ServesFrom P now a b is o before between → ServesFrom P now b c js last between known → ServesFrom P now a c ks all before known
joined {a = a} {known = known} law pairs later f l = call_then (λ p earlier calls more added others g h. record {
  from = λ k. elim (g.from k) [
    | inr pair ↦ inr (pairs p (state_of a.kept) added others pair)
    | inl v ↦ elim (h.from v.behind) [
      | inr pair ↦ inr (later p (state_of a.kept) added others v.spends pair)
      | inl w ↦ inl (record {
        spends = law p (state_of a.kept) added others v.spends w.spends;
        behind = subst known (sym (after_all-append (state_of a.kept) added others)) w.behind;
      })
    ]
  ];
}) f l

-- what is left is asked next
pub serves_on : {P : Documents} {now : ℕ} {a b c : At} {is js : List Intent} {o : Progress} {before between known : Facts}
    → ServesFrom P now a b is (Leaves js) before between → ServesFrom P now b c js o between known → ServesFrom P now a c is o before known
serves_on {P} {is = is} {js = js} {o = o} f l = joined (λ p s r u. spends_on p s is js r u o) (λ p s r u h. shown_first P p s (to_do is) r u h)
    (λ p s r u g h. shown_later P p s (to_do is) (to_do js) r u g h) f l

-- some are done, and then others
pub serves_then : {P : Documents} {now : ℕ} {a b c : At} {is js : List Intent} {o : Progress} {before between known : Facts}
    → ServesFrom P now a b is AllDone before between → ServesFrom P now b c js o between known → ServesFrom P now a c (is ++ js) o before known
serves_then {js = js} f l = serves_on (serves_part js f) l

-- the first, and then others
pub serves_first : {P : Documents} {now : ℕ} {a b c : At} {i : Intent} {js : List Intent} {o : Progress} {before between known : Facts}
    → ServesFrom P now a b (i ∷ []) AllDone before between → ServesFrom P now b c js o between known → ServesFrom P now a c (i ∷ js) o before known
serves_first f l = serves_then f l

-- the first falls short
pub serves_refused : {P : Documents} {now : ℕ} {a b : At} {i : Intent} {js : List Intent} {o : Progress} {before known : Facts}
    → ServesFrom P now a b (i ∷ []) o before known → FallsShort o → cleanups js ≡ [] → ServesFrom P now a b (i ∷ js) o before known
serves_refused {js = js} f short none = serves_short js short none f

-- behind a refusal the clean-ups are done
pub serves_fails : {P : Documents} {now : ℕ} {a b c : At} {is : List Intent} {why : Reason} {before between known : Facts} (js : List Intent)
    → ServesFrom P now a b is (Stops why) before between → ServesFrom P now b c (cleanups js) AllDone between known
    → ServesFrom P now a c (is ++ js) (Stops why) before known
serves_fails {P} {is = is} {why = why} js f l = joined (λ p s r u. spends_fails p s is js why r u)
    (λ p s r u h. shown_first P p s (to_do (is ++ js)) r u (shown_with P p s (to_do is) r js _ h)) (λ p s r u. shown_fails P p s is js why r u) f l

-- or fall short too
pub serves_fails_again : {P : Documents} {now : ℕ} {a b c : At} {is : List Intent} {why : Reason} {o : Progress} {before between known : Facts} (js : List Intent)
    → ServesFrom P now a b is (Stops why) before between → FallsShort o → ServesFrom P now b c (cleanups js) o between known
    → ServesFrom P now a c (is ++ js) o before known
serves_fails_again {P} {is = is} {why = why} {o = o} js f short l = joined (λ p s r u. spends_fails_again p s is js why r u o short.short)
    (λ p s r u h. shown_first P p s (to_do (is ++ js)) r u (shown_with P p s (to_do is) r js _ h)) (λ p s r u. shown_fails P p s is js why r u) f l

-- ---- so far: all that was asked, and what is left of it

-- the next is done
pub serves_next : {P : Documents} {now : ℕ} {a b c : At} {all js : List Intent} {i : Intent} {before between known : Facts}
    → ServesFrom P now a b all (Leaves (i ∷ js)) before between → ServesFrom P now b c (i ∷ []) AllDone between known
    → ServesFrom P now a c all (Leaves js) before known
serves_next {js = js} far next = serves_on far (serves_part js next)

-- or falls short
pub serves_ends : {P : Documents} {now : ℕ} {a b c : At} {all js : List Intent} {i : Intent} {o : Progress} {before between known : Facts}
    → ServesFrom P now a b all (Leaves (i ∷ js)) before between → ServesFrom P now b c (i ∷ []) o between known → FallsShort o → cleanups js ≡ []
    → ServesFrom P now a c all o before known
serves_ends far next short none = serves_on far (serves_refused next short none)
