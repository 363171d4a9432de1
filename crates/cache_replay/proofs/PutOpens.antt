-- A whole put: it is opened and ends, or is not opened.
use Rattle.std.proofs.Common.{◌≡◌, ℕ, ◌≤◌, List, [], ◌∷◌, ◌++◌, refl, sym, ◌∙◌, ap, subst, arith, true, false, Err, Result}
use Rattle.std.proofs.lemmas.List.Elements.{filter-append}
use Rattle.tape_base.specs.declared.keys.Key.{Key}
use Rattle.tape_base.specs.declared.actors.Actor.{Actor}
use Rattle.alternate_vector.specs.Field.{Field}
use Rattle.cache_model.specs.State.{State, state_after}
use Rattle.cache_model.specs.Kept.{state_of}
use Rattle.cache_model.specs.Permit.{Done, Exhausted, GiveUp, Intent, ManyWriters, Reason, Write, is_cleanup}
use Rattle.cache_model.specs.Legal.{DoesGiveUp, IsQuiet, is_writing}
use Rattle.cache_model.specs.Tape.{IsSound}
use Rattle.logged_disk.specs.Device.{TellsAll}
use Rattle.step_laws.proofs.ToldGroups.{told_group}
use Rattle.cache_model.specs.Vectors.{AreTold}
use Rattle.call_laws.specs.Moments.{At, NothingKnown}
use Rattle.call_laws.specs.Progress.{AllDone, Stops, cleanups}
use Rattle.call_laws.specs.Serves.{ServesFrom, ServesTold}
use Rattle.call_laws.specs.Whole.{LeavesListed}
use Rattle.call_laws.proofs.Groups.{serves_none}
use Rattle.call_laws.proofs.Joined.{state_behind}
use Rattle.call_laws.proofs.Kept.{told_serves}
use Rattle.call_laws.proofs.Known.{serves_known}
use Rattle.call_laws.proofs.Served.{serves_fails, serves_first}
use Rattle.cache_answers.specs.declared.answers.Receipt.{Receipt}
use Rattle.cache_answers.specs.declared.answers.Refusal.{Refusal}
use Rattle.cache_answers.specs.declared.answers.Refusal.TheVariants as refusal
use Rattle.cache_calls.specs.Actors.{IsWriterOf, WriterSeen}
use Rattle.cache_calls.specs.Adds.{IsAsItWas}
use Rattle.cache_calls.specs.Asked.{refused_at}
use Rattle.cache_calls.specs.Keeping.{IsAtRest, state_at}
use Rattle.cache_calls.specs.Writers.{HasBegun, OpensNone, opened_writer_record}
use Rattle.script_run.specs.Asked.{body_intents, close_intents, feed_intents, put_intents, rest_behind, whole_fragments}
use Rattle.cache_replay.specs.Replies.{count_of_refusal}
use Rattle.cache_replay.specs.Putting.{BodyEndsWhere, IsFreshWriter, IsSaidAs, PutsWhere, Says, ending_intents, progress_with, reason_of}
use Rattle.cache_replay.specs.Session.{IsOpenWriter}
use Rattle.cache_replay.proofs.FeedRefused.{feed_cleans_none}
use Rattle.line_calls.proofs.FeedRounds.{PairsAt, serves_later}
use Rattle.cache_replay.proofs.Free.{next_is_free}
use Rattle.line_calls.proofs.KeptPuts.{leave_puts}
use Rattle.cache_replay.proofs.Openings.{nothing_cut, writes_it}
use Rattle.cache_replay.proofs.PutEnds.{closing_cleans_none}
use Rattle.cache_replay.proofs.PutWhole.{unless_as}

-- ---- it is opened

module _ (old mid : At) (who : Actor) (key : Key) (request response : List Field) (w : WriterSeen)
    (begun : HasBegun old mid (opened_writer_record (state_at old) who key request response 0) w) where
  abbrev s : State
  s = state_at old

  there : state_at mid ≡ state_after s (opened_writer_record s who key request response 0)
  there = state_behind old.kept mid.kept (opened_writer_record s who key request response 0 ∷ []) begun.adds

  pub is_open : IsOpenWriter (state_at mid) w
  is_open = record {
    writing = subst (λ q. is_writing (state_at mid) q ≡ true) (sym begun.put) (ap (λ x. is_writing x s.next_put) there ∙ writes_it s who key request response 0);
    writer = begun.writer;
  }

  pub is_fresh : IsFreshWriter w
  is_fresh =
      record { cuts = nothing_cut s who key request response 0 w begun.put (subst (λ x. IsWriterOf x w) there begun.writer); gathered = begun.empty; unsealed = begun.unsealed }

  pub puts_opened : (now : ℕ) (new : At) (body : List ℕ) → IsSound s → LeavesListed mid.device (state_at mid) → (TellsAll new.device → TellsAll mid.device)
      → who.0 ≡ 0 → ServesTold now old mid (Write who.0 key request response 0 ∷ []) AllDone
      → (result : Result Receipt Refusal) → BodyEndsWhere now mid new w.put body result → PutsWhere now old new key body request response result
  puts_opened now new body sound listed told nobody opens result ends =
      let same : ending_intents (state_at mid) w.put body ≡ ending_intents s s.next_put body =
      ap (λ (x : State). ending_intents x w.put body) there ∙ ap (λ n. ending_intents s n body) begun.put in
      unless_as result
      (λ (f : ServesFrom (PairsAt new) now mid new (ending_intents (state_at mid) w.put body) (progress_with (reason_of w.put result)) AreTold (IsSaidAs w.put result)).
      subst (λ n. ServesFrom (PairsAt new) now old new (Write n key request response 0 ∷ ending_intents s s.next_put body)
      (progress_with (reason_of s.next_put result)) AreTold (IsSaidAs s.next_put result)) nobody
      (serves_first (serves_later new told (told_serves told_group leave_puts sound listed opens))
      (subst (λ q. ServesFrom (PairsAt new) now mid new (ending_intents s s.next_put body) (progress_with (reason_of q result)) AreTold (IsSaidAs q result)) begun.put
      (subst (λ (is : List Intent). ServesFrom (PairsAt new) now mid new is (progress_with (reason_of w.put result)) AreTold (IsSaidAs w.put result)) same f)))) ends

-- ---- it is not opened

-- of a body that ends only the giving up is a clean-up
ending_cleaned : (s : State) (put : ℕ) (body : List ℕ) → cleanups (ending_intents s put body) ≡ GiveUp put ∷ []
ending_cleaned s put body =
    let f : ℕ = s.geometry.fragment in
    let closing : List Intent = close_intents put (whole_fragments f body) (rest_behind f body) in
    filter-append is_cleanup (body_intents f put body) (GiveUp put ∷ [])
    ∙ ap (λ (is : List Intent). is ++ GiveUp put ∷ [])
    (filter-append is_cleanup (feed_intents f put 0 body) closing
    ∙ (ap (λ (is : List Intent). is ++ cleanups closing) (feed_cleans_none f put 0 body) ∙ closing_cleans_none put (whole_fragments f body) (rest_behind f body)))

module _ (now : ℕ) (old new : At) (rest : IsAtRest old) (quiet : IsQuiet (state_at new)) (who : Actor) (key : Key) (body : List ℕ) (request response : List Field)
    (nobody : who.0 ≡ 0) (same : IsAsItWas old new) where
  abbrev put : ℕ
  put = (state_at old).next_put

  stops : (why : Refusal) (reason : Reason) → ((t : State) → Says t put (Err why))
      → ServesTold now old new (Write who.0 key request response 0 ∷ []) (Stops reason)
      → ServesFrom (PairsAt new) now old new (put_intents (state_at old) key body request response) (Stops reason) AreTold (IsSaidAs put (Err why))
  stops why reason says serves =
      let none : is_writing (state_at new) put ≡ false = ap (λ k. is_writing (state_of k) put) same ∙ next_is_free old rest in
      let ending : List Intent = ending_intents (state_at old) put body in
      subst (λ n. ServesFrom (PairsAt new) now old new (Write n key request response 0 ∷ ending) (Stops reason) AreTold (IsSaidAs put (Err why))) nobody
      (serves_fails ending serves
      (subst (λ (is : List Intent). ServesFrom (PairsAt new) now new new is AllDone NothingKnown (IsSaidAs put (Err why))) (sym (ending_cleaned (state_at old) put body))
      (serves_known (IsSaidAs put (Err why)) (λ k. says (state_at new))
      (serves_none (GiveUp put) Done (record { kept = refl; past = refl; setting = refl }) (λ p. DoesGiveUp.over quiet none refl)))))

  pub puts_refused : (why : Refusal) → OpensNone (state_at old) why
      → ServesTold now old new (Write who.0 key request response 0 ∷ []) (refused_at put (Write who.0 key request response 0 ∷ []) why)
      → PutsWhere now old new key body request response (Err why)
  puts_refused refusal.TooManyWriters none serves = stops refusal.TooManyWriters ManyWriters (λ t. refl) serves
  puts_refused (refusal.Exhausted number) none serves = stops (refusal.Exhausted number) Exhausted (λ t. refl) serves
  puts_refused (refusal.Memory e) none serves = tt
  puts_refused _ none serves = absurd none

-- nor is a count told then
pub open_counts : (s : State) (why : Refusal) (n : ℕ) → OpensNone s why → count_of_refusal why ≤ n
open_counts s (refusal.DeviceFault count) n none = absurd none
open_counts s (refusal.Lost index why) n none = absurd none
open_counts s _ n none = omega arith
