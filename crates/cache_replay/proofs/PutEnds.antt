-- A body that is fed to a new writer, which is then closed.
use Rattle.std.proofs.Common.{◌≡◌, ℕ, ◌+◌, List, [], ◌∷◌, ◌++◌, length, refl, sym, ◌∙◌, ◌≤◌, ap, subst, arith, true, false, inl, inr, Ok, Err, Result}
use Rattle.std.specs.Prelude.{Option, Some, None, IfErr}
use Rattle.fragment_table.specs.Table.{TableRow}
use Rattle.cache_model.specs.declared.cause.Cause.{Cause}
use Rattle.cache_model.specs.declared.record.Rec.{Rec}
use Rattle.cache_model.specs.State.{State, after_all, fragment_piece, put_of}
use Rattle.cache_model.specs.Verdict.{cause_of_piece}
use Rattle.cache_model.specs.Kept.{state_of}
use Rattle.cache_model.specs.Permit.{Exhausted, Faulted, Intent, Lost, ManyFragments, Permit, Reason, TooLarge, to_do}
use Rattle.cache_model.specs.Legal.{MayGrow, is_writing}
use Rattle.cache_model.specs.Pair.{Documents}
use Rattle.logged_disk.specs.Device.{TellsAll}
use Rattle.cache_model.specs.Vectors.{AreTold}
use Rattle.call_laws.specs.Moments.{At, Facts}
use Rattle.call_laws.specs.Progress.{AllDone, Progress, Spends, Stops, cleanups}
use Rattle.call_laws.specs.Serves.{Serves, ServesFrom}
use Rattle.call_laws.proofs.Joined.{call_as}
use Rattle.call_laws.proofs.Known.{serves_known}
use Rattle.call_laws.proofs.Served.{serves_short, serves_then}
use Rattle.cache_answers.specs.declared.answers.Receipt.{Receipt}
use Rattle.cache_answers.specs.declared.answers.Refusal.{Refusal}
use Rattle.cache_answers.specs.declared.answers.Refusal.TheVariants as refusal
use Rattle.cache_calls.specs.Actors.{WriterSeen}
use Rattle.cache_calls.specs.Asked.{close_asks, ending_asks, progress_at, rows_at_close}
use Rattle.cache_calls.specs.Keeping.{state_at}
use Rattle.cache_calls.specs.Writers.{Closes}
use Rattle.script_grammar.specs.declared.answer.Refused.TheVariants as refused
use Rattle.script_grammar.specs.declared.answer.StepAnswer.TheVariants as answer
use Rattle.script_run.specs.Losses.{NoLossIsAFault}
use Rattle.script_run.specs.Asked.{body_intents, close_intents, feed_intents, rest_behind, whole_fragments}
use Rattle.cache_replay.specs.Feeding.{FeedsAsAsked, FeedsWhere, IsCutUp, feed_progress}
use Rattle.run_promise.specs.Outline.{count_of_cause}
use Rattle.cache_replay.specs.Replies.{count_of_refusal}
use Rattle.cache_replay.specs.Putting.{FillsWhere, IsFilledAs, IsFreshWriter, PutIsOver, Says, progress_with, reason_of}
use Rattle.cache_replay.specs.Session.{IsOpenWriter}
use Rattle.cache_replay.proofs.Closings.{asks_ending, cause_at, closing_ended, complete_said, same_asks}
use Rattle.cache_replay.proofs.Counts.{at_most, loss_counts}
use Rattle.line_calls.proofs.Endings.{IsEnded}
use Rattle.line_calls.proofs.FeedRounds.{PairsAt, serves_later}
use Rattle.cache_replay.proofs.WriterSteps.{key_at}

-- nothing that closing asks is a clean-up
pub closing_cleans_none : (put cut : ℕ) (rest : List ℕ) → cleanups (close_intents put cut rest) ≡ []
closing_cleans_none put cut [] = refl
closing_cleans_none put cut (byte ∷ rest) = refl

-- something else is known behind a call, by what it did of what it was asked
pub serves_tells : {P : Documents} {now : ℕ} {a b : At} {asked : List Intent} {o : Progress} {before known : Facts} (IsSo : State → Type 0)
    → ((p : Permit) (added : List Rec) → Spends p (state_of a.kept) asked added o → IsSo (after_all (state_of a.kept) added))
    → ServesFrom P now a b asked o before known → ServesFrom P now a b asked o before IsSo
serves_tells IsSo law f = call_as (λ p earlier calls added step happens h. record {
  from = λ k. elim (h.from k) [
    | inl v ↦ inl (record { spends = v.spends; behind = law p added v.spends })
    | inr pair ↦ inr pair
  ];
}) f

-- what closing leaves of a put, by the key of its writer
ends_as : (p : Permit) (s : State) (w : WriterSeen) (added : List Rec) (why : Option Reason) → IsOpenWriter s w
    → MayGrow p s (to_do (ending_asks w)) added (record { intents = []; refused = why })
    → IsEnded why (after_all s added) w.put (rows_at_close w) (Some w.key)
ends_as p s w added why own grows = subst (IsEnded why (after_all s added) w.put (rows_at_close w)) (key_at s w own) (closing_ended p s w added why own grows)

-- what is told of one that lost a fragment
lost_said : (t : State) (w : WriterSeen) (index : ℕ) (why : Cause) → why ≡ cause_of_piece t (fragment_piece w.key w.put index)
    → IsEnded (Some (Lost w.put index)) t w.put (rows_at_close w) (Some w.key) → Says t w.put (Err (refusal.Lost index why))
lost_said t w index why is end = ap (λ c. answer.Refused (refused.Lost index c) None) (cause_at t w.put index w.key (put_of t w.put) end.1 ∙ sym is)

-- ---- all is fed, and the writer closed

module _ (now : ℕ) (old mid new : At) (w v : WriterSeen) (body : List ℕ) (fresh : IsFreshWriter w) (number : v.put ≡ w.put)
    (cut : IsCutUp (state_at old).geometry.fragment w body v) (own : IsOpenWriter (state_at mid) v) (told : TellsAll new.device → TellsAll mid.device) where
  abbrev f : ℕ
  f = (state_at old).geometry.fragment

  abbrev closing : List Intent
  closing = close_intents w.put (whole_fragments f body) (rest_behind f body)

  rows_are : length v.cuts ≡ whole_fragments f body
  rows_are =
      cut.fragments ∙ (ap (λ (rows : List TableRow). length rows + whole_fragments f (w.gathered ++ body)) fresh.cuts
      ∙ (none_more (whole_fragments f (w.gathered ++ body)) ∙ ap (λ xs. whole_fragments f (xs ++ body)) fresh.gathered))
    where
      none_more : (k : ℕ) → 0 + k ≡ k
      none_more k = omega arith

  rest_is : v.gathered ≡ rest_behind f body
  rest_is = cut.rest ∙ ap (λ xs. rest_behind f (xs ++ body)) fresh.gathered

  closes_are : ending_asks v ≡ closing
  closes_are =
      sym (same_asks v) ∙ (ap (λ q. close_intents q (length v.cuts) v.gathered) number
      ∙ (ap (λ n. close_intents w.put n v.gathered) rows_are ∙ ap (close_intents w.put (whole_fragments f body)) rest_is))

  -- what is known behind the close
  tells_closed : (result : Result Receipt Refusal) → (o : Progress) → ServesFrom (PairsAt new) now mid new (ending_asks v) o AreTold (IsFilledAs v.put result)
      → Serves now old mid (feed_intents f w.put 0 body) AllDone → o ≡ progress_with (reason_of v.put result)
      → ServesFrom (PairsAt new) now old new (body_intents f w.put body) (progress_with (reason_of w.put result)) AreTold (IsFilledAs w.put result)
  tells_closed result o serves feeds is =
      subst (λ q. ServesFrom (PairsAt new) now old new (body_intents f w.put body) (progress_with (reason_of q result)) AreTold (IsFilledAs q result)) number
      (subst (λ x. ServesFrom (PairsAt new) now old new (body_intents f w.put body) x AreTold (IsFilledAs v.put result)) is
      (serves_then (serves_later new told feeds) (subst (λ (is : List Intent). ServesFrom (PairsAt new) now mid new is o AreTold (IsFilledAs v.put result)) closes_are serves)))

  module _ (feeds : Serves now old mid (feed_intents f w.put 0 body) AllDone) where
    -- refused for what only the answer tells
    refuses : {known : Facts} (why : Refusal) (reason : Reason) → reason_of v.put (Err why) ≡ Some reason
        → ((t : State) → Says t v.put (Err why) × PutIsOver t v.put (Err why))
        → ServesFrom (PairsAt new) now mid new (ending_asks v) (Stops reason) AreTold known
        → ServesFrom (PairsAt new) now old new (body_intents f w.put body) (progress_with (reason_of w.put (Err why))) AreTold (IsFilledAs w.put (Err why))
    refuses why reason is says serves =
        tells_closed (Err why) (Stops reason) (serves_known (IsFilledAs v.put (Err why)) (λ k. says (state_of new.kept)) serves) feeds (sym (ap progress_with is))

    by_answer : {known : Facts} (result : Result Receipt Refusal) → Closes mid new v result
        → ServesFrom (PairsAt new) now mid new (ending_asks v) (progress_at v.put (ending_asks v) result) AreTold known → FillsWhere now old new w body result
    by_answer (Ok receipt) gives serves =
        tells_closed (Ok receipt) AllDone
        (serves_tells (λ t. Says t v.put (Ok receipt) × PutIsOver t v.put (Ok receipt)) (λ p added spends.
        let end : IsEnded None (after_all (state_at mid) added) v.put (rows_at_close v) (Some v.key) = ends_as p (state_at mid) v added None own spends in
        (complete_said (after_all (state_at mid) added) v receipt (Some v.key) gives.1 end, end.0)) serves) feeds refl
    by_answer (Err (refusal.VectorTooLarge bytes)) gives serves = refuses (refusal.VectorTooLarge bytes) (TooLarge v.put bytes) refl (λ t. (refl, tt)) serves
    by_answer (Err (refusal.Lost index why)) gives serves =
        tells_closed (Err (refusal.Lost index why)) (Stops (Lost v.put index)) (lost_closes index why gives.1 serves) feeds refl
      where
        lost_closes : {known : Facts} (index : ℕ) (why : Cause)
            → why ≡ cause_of_piece (state_at new) (fragment_piece v.key v.put index)
            → ServesFrom (PairsAt new) now mid new (ending_asks v) (Stops (Lost v.put index)) AreTold known
            → ServesFrom (PairsAt new) now mid new (ending_asks v) (Stops (Lost v.put index)) AreTold (IsFilledAs v.put (Err (refusal.Lost index why)))
        lost_closes index why is serves =
            serves_known (IsFilledAs v.put (Err (refusal.Lost index why))) (λ (end : IsEnded (Some (Lost v.put index)) (state_at new) v.put (rows_at_close v) (Some v.key)).
            (lost_said (state_at new) v index why is end, end.0))
            (serves_tells (λ t. IsEnded (Some (Lost v.put index)) t v.put (rows_at_close v) (Some v.key))
            (λ p added spends. ends_as p (state_at mid) v added (Some (Lost v.put index)) own spends) serves)
    by_answer (Err (refusal.DeviceFault count)) gives serves = refuses (refusal.DeviceFault count) (Faulted count) refl (λ t. (refl, tt)) serves
    by_answer (Err (refusal.Exhausted limit)) gives serves = refuses (refusal.Exhausted limit) Exhausted refl (λ t. (refl, tt)) serves
    by_answer (Err (refusal.Memory e)) gives serves = tt
    by_answer (Err refusal.NoSuchWriter) gives serves = let clash : true ≡ false = sym own.writing ∙ gives.0 in cc
    by_answer (Err refusal.TooManyWriters) gives serves = absurd gives.1
    by_answer (Err refusal.TooManyFragments) gives serves = absurd gives.1
    by_answer (Err refusal.Sealed) gives serves = absurd gives.1

  pub closes_fill : {known : Facts} (result : Result Receipt Refusal) → FeedsAsAsked now old mid w body None → Closes mid new v result
      → ServesFrom (PairsAt new) now mid new (close_asks (state_at mid) v) (progress_at v.put (close_asks (state_at mid) v) result) AreTold known
      → FillsWhere now old new w body result
  closes_fill {known} result fed gives serves =
      by_answer
      (subst (λ (is : List Intent). Serves now old mid is AllDone) (ap (λ (rows : List TableRow). feed_intents f w.put (length rows) (w.gathered ++ body)) fresh.cuts
      ∙ ap (λ xs. feed_intents f w.put 0 (xs ++ body)) fresh.gathered) fed.serves)
      result gives
      (subst (λ (is : List Intent). ServesFrom (PairsAt new) now mid new is (progress_at v.put is result) AreTold known) (asks_ending (state_at mid) v own.writing) serves)

-- what a refusal has wherever that holds, it has where this does
pub err_when : {X E M N : Type 0} (P : E → Type 0) (result : Result X E) → (N → M) → IfErr result (λ why. M → P why) → IfErr result (λ why. N → P why)
err_when P (Ok x) from h = tt
err_when P (Err why) from h = λ n. h (from n)

-- no close tells a count to which the device has not come
pub close_counts : (old new : At) (w : WriterSeen) (result : Result Receipt Refusal) → is_writing (state_at old) w.put ≡ true → Closes old new w result
    → IfErr result (λ why. NoLossIsAFault (state_at new) → count_of_refusal why ≤ new.device.faults)
close_counts old new w (Ok receipt) writing gives = tt
close_counts old new w (Err (refusal.DeviceFault count)) writing gives = λ none. gives.1.reached
close_counts old new w (Err (refusal.Lost index why)) writing gives = λ none. at_most (count_of_cause why) new.device.faults (ap count_of_cause gives.1 ∙ loss_counts (state_at new) _ none)
close_counts old new w (Err _) writing gives = λ none. omega arith

-- ---- a write is refused

module _ (now : ℕ) (old new : At) (w : WriterSeen) (body : List ℕ) (fresh : IsFreshWriter w) where
  abbrev g : ℕ
  g = (state_at old).geometry.fragment

  stops : (why : Refusal) (reason : Reason) → FeedsAsAsked now old new w body (Some why) → feed_progress w.put (Some why) ≡ Stops reason
      → ((t : State) → Says t w.put (Err why) × PutIsOver t w.put (Err why))
      → ServesFrom (PairsAt new) now old new (body_intents g w.put body) (Stops reason) AreTold (IsFilledAs w.put (Err why))
  stops why reason fed is says =
      serves_known (IsFilledAs w.put (Err why)) (λ k. says (state_of new.kept))
      (serves_short (close_intents w.put (whole_fragments g body) (rest_behind g body)) (record { short = refl })
      (closing_cleans_none w.put (whole_fragments g body) (rest_behind g body))
      (subst (λ (is : List Intent). Serves now old new is (Stops reason)) (ap (λ (rows : List TableRow). feed_intents g w.put (length rows) (w.gathered ++ body)) fresh.cuts
      ∙ ap (λ xs. feed_intents g w.put 0 (xs ++ body)) fresh.gathered)
      (subst (λ o. Serves now old new (feed_intents g w.put (length w.cuts) (w.gathered ++ body)) o) is fed.serves)))

  pub refused_fill : (why : Refusal) → FeedsWhere now old new w body (Some why) → FillsWhere now old new w body (Err why)
  refused_fill refusal.TooManyFragments fed = stops refusal.TooManyFragments (ManyFragments w.put) fed refl (λ t. (refl, tt))
  refused_fill (refusal.DeviceFault count) fed = stops (refusal.DeviceFault count) (Faulted count) fed refl (λ t. (refl, tt))
  refused_fill (refusal.Exhausted limit) fed = stops (refusal.Exhausted limit) Exhausted fed refl (λ t. (refl, tt))
  refused_fill (refusal.Memory e) fed = tt
  refused_fill refusal.Sealed fed = let clash : true ≡ false = sym fed.0 ∙ fresh.unsealed in cc
  refused_fill refusal.TooManyWriters fed = absurd fed
  refused_fill refusal.NoSuchWriter fed = absurd fed
  refused_fill (refusal.VectorTooLarge size) fed = absurd fed
  refused_fill (refusal.Lost index cause) fed = absurd fed
