-- Feeding ends where a write is refused.
use Rattle.std.proofs.Common.{◌≡◌, ℕ, ◌+◌, ◌-◌, ◌<◌, ◌≤◌, List, [], ◌∷◌, ◌++◌, refl, sym, ◌∙◌, ap, subst, arith, true, false, length, take, drop, Err}
use Rattle.std.specs.Prelude.{Option, Some, option_map, unwrap_or, find, ◌==◌}
use Rattle.std.proofs.lemmas.Bool.{eqb-true, eq-eqb}
use Rattle.std.proofs.lemmas.List.{append-nil, length-append}
use Rattle.std.proofs.Math.Seq.{take-append-add, drop-append_seam}
use Rattle.fragment_table.specs.Table.{total_length}
use Rattle.cache_model.specs.declared.record.Rec.TheVariants as rec
use Rattle.cache_model.specs.State.{GivenUp, PutRow, State, most_fragments, put_of, state_after, with_writing}
use Rattle.cache_model.specs.Kept.{state_of}
use Rattle.cache_model.specs.Verdict.{cuts_of, is_open}
use Rattle.cache_model.specs.Permit.{Exhausted, Faulted, Fragment, Intent, ManyFragments, Reason}
use Rattle.cache_model.specs.Legal.{is_writing}
use Rattle.cache_model.proofs.Found.{cuts_found}
use Rattle.logged_disk.specs.Device.{TellsAll}
use Rattle.call_laws.specs.Moments.{At}
use Rattle.call_laws.specs.Progress.{Leaves, Progress, Stops, cleanups}
use Rattle.call_laws.specs.Serves.{Serves}
use Rattle.call_laws.proofs.Joined.{state_behind}
use Rattle.call_laws.proofs.Served.{serves_refused}
use Rattle.cache_answers.specs.declared.answers.Refusal.{Refusal}
use Rattle.cache_answers.specs.declared.answers.Refusal.TheVariants as refusal
use Rattle.cache_calls.specs.Actors.{IsWriterOf, WriterSeen}
use Rattle.cache_model.specs.Subjects.{IsOfFlush, IsOfPut}
use Rattle.cache_calls.specs.Adds.{AddsOnly}
use Rattle.cache_calls.specs.Asked.{cuts_next, gathered_with, next_payload, refused_at, taken_of, write_asks}
use Rattle.cache_calls.specs.Keeping.{state_at}
use Rattle.cache_calls.specs.Writers.{IsCutting, Writes}
use Rattle.script_run.specs.Asked.{feed_intents}
use Rattle.script_run.proofs.Ended.{IsFoundOpen, open_row}
use Rattle.cache_replay.specs.Replies.{count_of_refusal}
use Rattle.cache_replay.specs.Feeding.{FeedsAsAsked, FeedsWhere, IsOpenBehind, feed_progress}
use Rattle.line_calls.proofs.CutBodies.{cut_first, cut_many, no_cleanup, not_most}
use Rattle.line_calls.proofs.FeedRounds.{asks_cut, asks_many, asks_sealed, few_of, flush_leaves, found_changed, takes_within, writing_found}
use Rattle.cache_replay.proofs.FeedEnds.{Ends}

-- nothing that a writer is asked is a clean-up
pub feed_cleans_none : (f put cut : ℕ) (bytes : List ℕ) → cleanups (feed_intents f put cut bytes) ≡ []
feed_cleans_none f put cut bytes = ap cleanups (sym (append-nil (feed_intents f put cut bytes))) ∙ no_cleanup (length bytes) f put cut bytes []

-- ---- the put behind it

-- what the refused call leaves of the put
record LeavesPut (s t : State) (put : ℕ) (why : Refusal) : Type 0 where
  pub cuts : cuts_of t put ≡ cuts_of s put
  pub writing : IsOpenBehind t put (Some why)

module _ (s t : State) (put : ℕ) (why : Refusal) (stays : is_writing t put ≡ true → IsOpenBehind t put (Some why)) (writing : is_writing s put ≡ true) where
  same_puts : t.puts ≡ s.puts → LeavesPut s t put why
  same_puts same =
      let found : put_of t put ≡ put_of s put = ap (find (λ (p : PutRow). p.put == put)) same in
      record {
        cuts = ap (λ (o : Option PutRow). unwrap_or (option_map (λ (p : PutRow). p.cuts) o) []) found;
        writing = stays (ap (λ (o : Option PutRow). unwrap_or (option_map is_open o) false) found ∙ writing);
      }

aborted : (s : State) (w : WriterSeen) → is_writing s w.put ≡ true → LeavesPut s (state_after s (rec.Aborted w.put w.key)) w.put refusal.TooManyFragments
aborted s w writing =
    let o : IsFoundOpen s w.put = open_row s w.put writing in
    let t : State = state_after s (rec.Aborted w.put w.key) in
    let there : put_of t w.put ≡ Some (with_writing GivenUp o.w) = found_changed w.put (with_writing GivenUp) s.puts o.w (λ x. refl) o.found in
    record {
      cuts = cuts_found t w.put (with_writing GivenUp o.w) there ∙ sym (cuts_found s w.put o.w o.found);
      writing = writing_found t w.put (with_writing GivenUp o.w) there;
    }

module _ (now : ℕ) (old new : At) (w : WriterSeen) (bytes : List ℕ) (own : IsWriterOf (state_at old) w) (writing : is_writing (state_at old) w.put ≡ true) where
  abbrev s : State
  s = state_at old

  abbrev t : State
  t = state_at new

  abbrev f : ℕ
  f = s.geometry.fragment

  abbrev all : List ℕ
  all = w.gathered ++ bytes

  some : 0 < f
  some = s.geometry.accepted.fragment_fits.0

  flushed : (why : Refusal) → (is_writing t w.put ≡ true → IsOpenBehind t w.put (Some why)) → AddsOnly IsOfFlush old new → LeavesPut s t w.put why
  flushed why stays flush =
      let puts : t.puts ≡ s.puts =
      ap (λ (x : State). x.puts) (state_behind old.kept new.kept flush.added flush.adds) ∙ (flush_leaves s flush.added flush.own).puts in
      same_puts s t w.put why stays writing puts

  as_it_was : (why : Refusal) → (is_writing t w.put ≡ true → IsOpenBehind t w.put (Some why)) → new.kept ≡ old.kept → LeavesPut s t w.put why
  as_it_was why stays same = same_puts s t w.put why stays writing (ap (λ k. (state_of k).puts) same)

  leaves : (why : Refusal) → Writes old new w bytes (Err why) → LeavesPut s t w.put why
  leaves (refusal.DeviceFault count) gives = flushed (refusal.DeviceFault count) (λ x. x) gives.2.stops.flush
  leaves (refusal.Exhausted number) gives = flushed (refusal.Exhausted number) (λ x. x) gives.2.flush
  leaves refusal.TooManyFragments gives =
      subst (λ x. LeavesPut s x w.put refusal.TooManyFragments) (sym (state_behind old.kept new.kept (rec.Aborted w.put w.key ∷ []) gives.3)) (aborted s w writing)
  leaves (refusal.Memory e) gives = as_it_was (refusal.Memory e) (λ x. x) gives.1
  leaves refusal.Sealed gives = as_it_was refusal.Sealed (λ x. x) gives.2
  leaves refusal.NoSuchWriter gives = as_it_was refusal.NoSuchWriter (λ x. x) gives.1
  leaves refusal.TooManyWriters gives = absurd gives
  leaves (refusal.VectorTooLarge size) gives = absurd gives
  leaves (refusal.Lost index cause) gives = absurd gives

  -- ---- what it was asked

  -- the first fragment fails, and nothing behind it is done
  stopped : (why : Refusal) (reason : Reason) → IsCutting s w bytes → Serves now old new (write_asks s w bytes) (Stops reason) → feed_progress w.put (Some why) ≡ Stops reason
      → FeedsAsAsked now old new w bytes (Some why)
  stopped why reason cutting serves is =
      let n : ℕ = taken_of s.geometry w bytes in
      let few : length w.gathered < f = few_of s w writing own in
      let full : length w.gathered + n ≡ f = eqb-true (length w.gathered + n) f cutting.full in
      let bounds : (n ≤ length bytes) × (length w.gathered + n ≤ f) = takes_within f (length w.gathered) (length bytes) n few refl in
      let size : length all ≡ length w.gathered + length bytes = length-append w.gathered bytes in
      let whole : f ≤ length all = omega (arith, size, full, bounds.0) in
      let take_is : take f all ≡ gathered_with w bytes n = ap (λ k. take k all) (sym full) ∙ take-append-add w.gathered bytes n in
      let others : List Intent = feed_intents f w.put (length w.cuts + 1) (drop f all) in
      let intents : feed_intents f w.put (length w.cuts) all ≡ cuts_next w (next_payload s w bytes) ∷ others =
      cut_first f w.put (length w.cuts) all some whole (not_most (length w.cuts) cutting.few)
      ∙ ap (λ xs. Fragment w.put (length w.cuts + 1) xs ∷ others) take_is in
      let first : Serves now old new (cuts_next w (next_payload s w bytes) ∷ []) (Stops reason) =
      subst (λ (is : List Intent). Serves now old new is (Stops reason)) (asks_cut s w bytes cutting.taking (λ more. cutting.few) cutting.full) serves in
      record {
        open_still = cutting.taking.1;
        serves = subst (λ (o : Progress). Serves now old new (feed_intents f w.put (length w.cuts) all) o) (sym is)
            (subst (λ (is : List Intent). Serves now old new is (Stops reason)) (sym intents)
            (serves_refused first (record { short = refl }) (feed_cleans_none f w.put (length w.cuts + 1) (drop f all))));
      }

  feeds : (why : Refusal) → Writes old new w bytes (Err why) → Serves now old new (write_asks s w bytes) (refused_at w.put (write_asks s w bytes) why)
      → FeedsWhere now old new w bytes (Some why)
  feeds (refusal.DeviceFault count) gives serves = stopped (refusal.DeviceFault count) (Faulted count) gives.0 serves refl
  feeds (refusal.Exhausted number) gives serves = stopped (refusal.Exhausted number) Exhausted gives.0 serves refl
  feeds refusal.TooManyFragments gives serves =
      let size : length all ≡ length w.gathered + length bytes = length-append w.gathered bytes in
      let many : (length w.cuts == most_fragments) ≡ true = eq-eqb (length w.cuts) most_fragments gives.2 in
      record {
        open_still = gives.0.1;
        serves = subst (λ (is : List Intent). Serves now old new is (Stops (ManyFragments w.put)))
            (asks_many s w bytes gives.0 gives.1 gives.2 ∙ sym (cut_many f w.put (length w.cuts) all some (omega (arith, size, gives.1)) many)) serves;
      }
  feeds (refusal.Memory e) gives serves = tt
  feeds refusal.Sealed gives serves = (gives.1, subst (λ (is : List Intent). Serves now old new is (Leaves is)) (asks_sealed s w bytes gives.1) serves, gives.2)
  feeds refusal.NoSuchWriter gives serves = let clash : true ≡ false = sym writing ∙ gives.0 in cc
  feeds refusal.TooManyWriters gives serves = absurd gives
  feeds (refusal.VectorTooLarge size) gives serves = absurd gives
  feeds (refusal.Lost index cause) gives serves = absurd gives

  -- the count that is told is the device's
  counted : (why : Refusal) → Writes old new w bytes (Err why) → count_of_refusal why ≤ new.device.faults
  counted (refusal.DeviceFault count) gives = let is : count ≡ new.device.faults = gives.2.count_is in omega (arith, is)
  counted (refusal.Lost index cause) gives = absurd gives
  counted _ gives = omega arith

  pub refused_ends : (why : Refusal) → Writes old new w bytes (Err why) → Serves now old new (write_asks s w bytes) (refused_at w.put (write_asks s w bytes) why)
      → AddsOnly (IsOfPut w.put) old new → (TellsAll new.device → TellsAll old.device) → Ends now old new w w bytes 0 (Some why)
  refused_ends why gives serves adds told =
      let o : IsFoundOpen s w.put = open_row s w.put writing in
      let left : LeavesPut s t w.put why = leaves why gives in
      let rows : cuts_of t w.put ≡ w.cuts = left.cuts ∙ (cuts_found s w.put o.w o.found ∙ (own o.w o.found o.is_open).cuts_are) in
      let total : total_length (cuts_of t w.put) ≡ total_length w.cuts = ap total_length rows in
      record {
        feeds = feeds why gives serves;
        counts = counted why gives;
        takes = let none : 0 ≡ total_length (cuts_of t w.put) - (total_length w.cuts + length w.gathered) = omega (arith, total) in none;
        fed = record {
          put = refl;
          sealed = refl;
          gathered = λ front sized.
              sym (ap (λ k. drop k (front ++ (w.gathered ++ take 0 bytes))) (sym sized)
              ∙ (drop-append_seam front (w.gathered ++ take 0 bytes) ∙ append-nil w.gathered));
          within = omega arith;
        };
        cut = tt;
        writing = left.writing;
        own = adds;
        grown = omega (arith, total);
        told = told;
      }
