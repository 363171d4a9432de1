-- How a writer closes, step by step.
use Rattle.std.proofs.Common.{◌≡◌, ℕ, ◌+◌, List, [], ◌∷◌, ◌++◌, refl, sym, ◌∙◌, ap, subst, Bool, true, false, length, Result, Ok, Err, inl, inr}
use Rattle.std.specs.Prelude.{◌<◌, ◌==◌, Option, option_map, unwrap_or, find, if◌then◌else◌, IfErr}
use Rattle.std.proofs.lemmas.List.{append-nil, append_assoc}
use Rattle.device_log.specs.Calls.{Call}
use Rattle.logged_disk.specs.Device.{DeviceState as Device, IsAfter}
use Rattle.fragment_table.specs.Table.{TableRow, total_length}
use Rattle.alternate_vector.specs.Alternates.{Stored, vector_size}
use Rattle.cache_model.specs.declared.record.Rec.{Rec}
use Rattle.cache_model.specs.State.{PutRow, State, after_all, fragment_piece, put_of}
use Rattle.cache_model.specs.Kept.{Kept, state_of, with_records}
use Rattle.cache_model.specs.Verdict.{cause_of_piece, cuts_of}
use Rattle.cache_model.specs.Permit.{Commit, Done, End, Exhausted, Fails, Faulted, Finish, Intent, Permit, Reason, Stays, TooLarge, Weigh}
use Rattle.cache_model.specs.Legal.{MayGrow, is_writing, vector_length}
use Rattle.cache_model.specs.Vectors.{AreTold, IsVectorAs}
use Rattle.cache_model.proofs.Steps.{grows_on}
use Rattle.cache_answers.specs.declared.answers.Refusal.{Refusal}
use Rattle.cache_answers.specs.declared.answers.Refusal.TheVariants as refusal
use Rattle.piece_answers.specs.declared.answer.Stop.{Stop}
use Rattle.piece_answers.specs.declared.answer.Stop.TheVariants as stop
use Rattle.piece_answers.specs.Covers.{Covers, SpendsFirst}
use Rattle.piece_answers.specs.Flush.{stop_end}
use Rattle.cache_model.specs.Limits.{ReachesLimit}
use Rattle.held_pieces.specs.Still.{IsStill, IsUnwritten}
use Rattle.stripe_core.specs.Stripe.{AnswersOrWants, Wanting}
use Rattle.piece_answers.proofs.Covering.{covers_first, covers_last}
use Rattle.stripe_core.proofs.Stills.{still_shows, still_then, unwritten_then}
use Rattle.cache_model.specs.Pair.{IsKeyPair}
use Rattle.call_laws.specs.Untold.{Untold}
use Rattle.cache_answers.specs.declared.answers.Receipt.{Receipt}
use Rattle.stripe_write.specs.declared.weighing.Vectors.{Vectors}
use Rattle.stripe_write.specs.declared.writer.Writer.{Writer}
use Rattle.stripe_write.specs.Writes.{SameButBytes, SameWriter}
use Rattle.stripe_write.specs.Closing.{IsReadFor, SpendsAll, Weighs, WeighsAsAsked, WeighsWhere, weigh_end, work_behind}
use Rattle.stripe_write.specs.Resting.{RestsAsAsked}
use Rattle.stripe_write.specs.Finishing.{FinishesAsRead, FinishesWhere, finish_end, finish_intents}
use Rattle.stripe_write.specs.Closes.{ClosesAsAsked, ClosesInStripe, ClosesWhere, EndsAsAsked, EndsWhere, IsRested, SealsInStripeWhere, Spent, UntouchedWhere, close_end, end_intents, is_sealed_by}
use Rattle.stripe_answers.specs.Numbers.{StopsExhausted}
use Rattle.stripe_write.proofs.Ended.{open_put}
use Rattle.stripe_write.proofs.Keeping.{KeepsVectors, keeps_rest, read_kept}
use Rattle.stripe_answers.proofs.KeyPairs.{key_later}
use Rattle.stripe_write.proofs.LastCut.{rest_puts}
use Rattle.stripe_write.proofs.Reaching.{finished_stops, rest_stops}
use Rattle.stripe_write.proofs.Sealing.{IsSealed, SameAtClose, alike_same, cut_same, sealed_same, sealed_writer, then_same}
use Rattle.stripe_write.proofs.Spending.{nothing_more, state_behind, then_all, then_more}
use Rattle.cache_calls.specs.Actors.{IsWriterOf}
use Rattle.cache_calls.specs.Asked.{rest_rows, rows_at_close, rest_asks, ending_asks}
use Rattle.cache_calls.specs.Writers.{TellsComplete, bytes_next}
use Rattle.stripe_write.specs.Writers.{written_as}

-- ---- what is asked, one behind the other

spends_append : (p : Permit) (s : State) (is js : List Intent) (a b : List Rec) (e : End) → SpendsAll p s is a Done → SpendsAll p (after_all s a) js b e → SpendsAll p s (is ++ js) (a ++ b) e
spends_append p s is js a b e first second = λ rest why.
    subst (λ (xs : List Intent). MayGrow p s (record { intents = xs; refused = why }) (a ++ b) (work_behind rest why e)) (sym (append_assoc is js rest)) (grows_on (first (js ++ rest) why) (second rest why))

-- a writer that has no rest has all that is there at the end
whole_rows : (w new : Writer) → SameAtClose w new → new.gathered.items ≡ [] → new.table.rows ≡ rows_at_close (written_as w)
whole_rows w new same none = sym (append-nil new.table.rows) ∙ (ap (λ b. new.table.rows ++ rest_rows b) (sym none) ∙ same.rows)

-- the put that is finished is the same
finish_same : (w new : Writer) → SameAtClose w new → new.gathered.items ≡ [] → finish_intents new ≡ Finish w.put (length (rows_at_close (written_as w))) ∷ Commit w.put ∷ []
finish_same w new same none =
    let rows : new.table.rows ≡ rows_at_close (written_as w) = whole_rows w new same none in
    ap (λ (r : List TableRow). Finish new.put (length r) ∷ Commit new.put ∷ []) rows ∙ ap (λ n. Finish n (length (rows_at_close (written_as w))) ∷ Commit n ∷ []) same.put

end_same : (t : State) (w new : Writer) (result : Result Receipt Refusal) → new.put ≡ w.put → FinishesWhere t new result → finish_end new result ≡ close_end w result
end_same t w new (Ok receipt) same f = refl
end_same t w new (Err (refusal.Lost index why)) same f = ap (λ n. Fails (Rattle.cache_model.specs.Permit.Lost n index)) same
end_same t w new (Err (refusal.DeviceFault count)) same f = refl
end_same t w new (Err (refusal.Exhausted number)) same f = refl
end_same t w new (Err refusal.TooManyWriters) same f = absurd f
end_same t w new (Err refusal.TooManyFragments) same f = absurd f
end_same t w new (Err (refusal.VectorTooLarge size)) same f = absurd f
end_same t w new (Err refusal.Sealed) same f = absurd f
end_same t w new (Err refusal.NoSuchWriter) same f = absurd f
end_same t w new (Err (refusal.Memory e)) same f = absurd f

same_rests : (w sealed : Writer) (bytes : List ℕ) → IsSealed w sealed → rest_asks (written_as sealed) bytes ≡ rest_asks (written_as w) bytes
same_rests w sealed [] is = refl
same_rests w sealed (byte ∷ bytes) is =
    ap (λ n. Rattle.cache_model.specs.Permit.Fragment n (length sealed.table.rows + 1) (byte ∷ bytes) ∷ []) is.put
    ∙ ap (λ (r : List TableRow). Rattle.cache_model.specs.Permit.Fragment w.put (length r + 1) (byte ∷ bytes) ∷ []) is.rows

-- what was read stays read behind the rest
pub rest_reads : {packed : Bool} (now : ℕ) (old mid : Kept) (before : List Call) (between : Device)
    (w sealed cut : Writer) (v : Vectors) (u : Unit {0}) → IsSealed w sealed → SameButBytes sealed cut
    → cut.table.rows ≡ rows_at_close (written_as sealed) → cut.gathered.items ≡ [] → RestsAsAsked packed now old mid before between sealed (Ok u)
    → IsReadFor (state_of old) w v → IsReadFor (state_of mid) cut v
rest_reads now old mid before between w sealed cut v u is same rows none rests read =
    read_kept (state_of old) (state_of mid) w cut v (keeps_rest now old mid before between sealed u rests)
    (then_same w sealed cut (sealed_same w sealed is) (cut_same sealed cut same rows none)) read

-- the rest is cut, and the put is finished
module _ (packed : Bool) (now : ℕ) (old mid new : Kept) (first between last : Device) (w sealed cut : Writer) (v : Vectors) where
  pub rest_then_finish : (u : Unit {0}) (result : Result Receipt Refusal) → IsSealed w sealed → SameButBytes sealed cut → cut.table.rows ≡ rows_at_close (written_as sealed) → cut.gathered.items ≡ []
      → IsAfter first between → IsAfter between last → RestsAsAsked packed now old mid first.past between sealed (Ok u)
      → FinishesWhere (state_of new) cut result → FinishesAsRead packed now between.past last.past mid new cut v result → EndsAsAsked packed now first.past last.past old new w v result
  rest_then_finish u result is same rows none f l rests where_ ends = record {
    does = λ p packs at covers displaced read.
        let s : State = state_of old in
        let a : List Rec = rests.added in
        let there : state_of mid ≡ after_all s a = state_behind old mid a rests.adds in
        let all : SameAtClose w cut = then_same w sealed cut (sealed_same w sealed is) (cut_same sealed cut same rows none) in
        let keeps : KeepsVectors s (state_of mid) = keeps_rest now old mid first.past between sealed u rests in
        let finished = ends.does p packs at (covers_last p first.past between.past last.past f.made f.past covers) (keeps.displaced displaced)
        (rest_reads now old mid first.past between w sealed cut v u is same rows none rests read) in
        let intents : rest_asks (written_as sealed) sealed.gathered.items ≡ rest_asks (written_as w) w.gathered.items = ap (rest_asks (written_as sealed)) is.gathered ∙ same_rests w sealed w.gathered.items is in
        let cut_all : SpendsAll p s (rest_asks (written_as w) w.gathered.items) a Done =
        subst (λ (is : List Intent). SpendsAll p s is a Done) intents (rests.does p packs at (covers_first p first.past between.past last.past l.made l.past covers)) in
        let finish_all : SpendsAll p (after_all s a) (Finish w.put (length (rows_at_close (written_as w))) ∷ Commit w.put ∷ []) finished.added (close_end w result) =
        subst (λ e. SpendsAll p (after_all s a) (Finish w.put (length (rows_at_close (written_as w))) ∷ Commit w.put ∷ []) finished.added e) (end_same (state_of new) w cut result all.put where_)
        (subst (λ (is : List Intent). SpendsAll p (after_all s a) is finished.added (finish_end cut result)) (finish_same w cut all none)
        (subst (λ t. SpendsAll p t (finish_intents cut) finished.added (finish_end cut result)) there finished.does)) in
        record {
          added = a ++ finished.added;
          adds = then_more old mid new a finished.added rests.adds finished.adds;
          does = spends_append p s (rest_asks (written_as w) w.gathered.items) (Finish w.put (length (rows_at_close (written_as w))) ∷ Commit w.put ∷ []) a finished.added (close_end w result) cut_all finish_all;
          number = finished_stops (state_of new) w cut result all.put (whole_rows w cut all none) finished.number;
        };
  }

-- what is left behind a refusal
fails_all : (p : Permit) (s : State) (is : List Intent) (put n : ℕ) (added : List Rec) (reason : Reason) → SpendsAll p s is added (Fails reason)
    → SpendsAll p s (is ++ Finish put n ∷ Commit put ∷ []) added (Fails reason)
fails_all p s is put n added reason h = λ rest why.
    subst (λ (xs : List Intent). MayGrow p s (record { intents = xs; refused = why }) added (work_behind rest why (Fails reason))) (sym (append_assoc is (Finish put n ∷ Commit put ∷ []) rest))
    (h (Finish put n ∷ Commit put ∷ rest) why)

-- what the put has cut is still what the writer has
still_cut : {packed : Bool} (now : ℕ) (old new : Kept) (before : List Call) (after : Device) (w sealed : Writer) (why : Stop) → is_writing (state_of old) w.put ≡ true → IsWriterOf (state_of old) (written_as w)
    → RestsAsAsked packed now old new before after sealed (Err why) → cuts_of (state_of new) w.put ≡ w.table.rows
still_cut now old new before after w sealed why writing own rests =
    let o = open_put (put_of (state_of old) w.put) writing in
    let same : put_of (state_of new) w.put ≡ put_of (state_of old) w.put = ap (λ (puts : List PutRow). find (λ (q : PutRow). q.put == w.put) puts) (rest_puts now old new before after sealed why rests) in
    ap (λ (x : Option PutRow). unwrap_or (option_map (λ (q : PutRow). q.cuts) x) []) (same ∙ o.1) ∙ (own o.0 o.1 o.2).cuts_are

rest_stops_at : {packed : Bool} (now : ℕ) (old new : Kept) (before : List Call) (after : Device) (w sealed : Writer) (why : Stop) (number : ℕ) → IsSealed w sealed → is_writing (state_of old) w.put ≡ true → IsWriterOf (state_of old) (written_as w) → 0 < length sealed.gathered.items
    → RestsAsAsked packed now old new before after sealed (Err why) → ReachesLimit (state_of new) (length sealed.gathered.items) number → ReachesLimit (state_of new) (bytes_next (state_of new) (written_as w)) number
rest_stops_at now old new before after w sealed why number is writing own some rests reaches =
    let gathered = ap length is.gathered in
    rest_stops (state_of new) w number (still_cut now old new before after w sealed why writing own rests) (subst (λ n. 0 < n) gathered some) (subst (λ n. ReachesLimit (state_of new) n number) gathered reaches)

-- the rest that was refused is what was asked of the writer before it was sealed
rest_fails : {packed : Bool} (now : ℕ) (old new : Kept) (before : List Call) (after : Device) (w sealed : Writer) (why : Stop) (reason : Reason) → IsSealed w sealed → (rests : RestsAsAsked packed now old new before after sealed (Err why)) → stop_end why ≡ Fails reason
    → (p : Permit) → p.packed ≡ packed → p.now ≡ now → Covers p before after.past → SpendsAll p (state_of old) (end_intents w) rests.added (Fails reason)
rest_fails now old new before after w sealed why reason is rests ends p packs at covers =
    let intents : rest_asks (written_as sealed) sealed.gathered.items ≡ rest_asks (written_as w) w.gathered.items = ap (rest_asks (written_as sealed)) is.gathered ∙ same_rests w sealed w.gathered.items is in
    fails_all p (state_of old) (rest_asks (written_as w) w.gathered.items) w.put (length (rows_at_close (written_as w))) rests.added reason
    (subst (λ (is : List Intent). SpendsAll p (state_of old) is rests.added (Fails reason)) intents
    (subst (λ e. SpendsAll p (state_of old) (rest_asks (written_as sealed) sealed.gathered.items) rests.added e) ends
    (rests.does p packs at covers)))

pub no_rest_ends : {packed : Bool} (now : ℕ) (old new : Kept) (before : List Call) (after : Device) (w sealed : Writer) (v : Vectors) (why : Refusal) → IsSealed w sealed
    → is_writing (state_of old) w.put ≡ true → IsWriterOf (state_of old) (written_as w) → 0 < length sealed.gathered.items → StopsExhausted (state_of new) (length sealed.gathered.items) why
    → AnswersOrWants {X = Unit {0}} (Err why) (RestsAsAsked packed now old new before after sealed) ⊥ → EndsAsAsked packed now before after.past old new w v (Err why)
no_rest_ends now old new before after w sealed v (refusal.DeviceFault count) is writing own some stops rests = record {
  does = λ p packs at covers none read. record {
    added = rests.added;
    adds = rests.adds;
    does = rest_fails now old new before after w sealed (stop.DeviceFault count) (Faulted count) is rests refl p packs at covers;
    number = tt;
  };
}
no_rest_ends now old new before after w sealed v (refusal.Exhausted number) is writing own some stops rests = record {
  does = λ p packs at covers none read. record {
    added = rests.added;
    adds = rests.adds;
    does = rest_fails now old new before after w sealed (stop.Exhausted number) Exhausted is rests refl p packs at covers;
    number = rest_stops_at now old new before after w sealed (stop.Exhausted number) number is writing own some rests stops;
  };
}
no_rest_ends now old new before after w sealed v _ is writing own some stops rests = absurd rests

-- ---- weighing, and then the rest

-- the answers that come once the vector is weighed
spent_by : (p : Permit) (s t : State) (w : Writer) (result : Result Receipt Refusal) (added : List Rec) → EndsWhere t w result → SpendsAll p s (ending_asks (written_as w)) added (close_end w result) → Spent p s w result added
spent_by p s t w (Ok receipt) added e h = h
spent_by p s t w (Err (refusal.Lost index why)) added e h = h
spent_by p s t w (Err (refusal.DeviceFault count)) added e h = h
spent_by p s t w (Err (refusal.Exhausted number)) added e h = h
spent_by p s t w (Err refusal.TooManyWriters) added e h = absurd e
spent_by p s t w (Err refusal.TooManyFragments) added e h = absurd e
spent_by p s t w (Err (refusal.VectorTooLarge size)) added e h = absurd e
spent_by p s t w (Err refusal.Sealed) added e h = absurd e
spent_by p s t w (Err refusal.NoSuchWriter) added e h = absurd e
spent_by p s t w (Err (refusal.Memory e')) added e h = absurd e

pub weighed_closes : {packed : Bool} (now : ℕ) (old mid new : Kept) (before between after : Device) (w : Writer) (v : Vectors) (result : Result Receipt Refusal) → IsAfter before between → IsAfter between after
    → WeighsAsAsked before between old mid w (Ok v) → (state_of mid).displaced ≡ (state_of old).displaced → EndsWhere (state_of new) w result → EndsAsAsked packed now between.past after.past mid new w v result
    → ClosesAsAsked packed now before.past after old new w result
weighed_closes now old mid new before between after w v result f l weighs displaced where_ ends = record {
  does = λ p packs at covers told.
      let h : Weighs p between old mid w (Ok v) = weighs.does p (covers_first p before.past between.past after.past l.made l.past covers) in
      let there : state_of mid ≡ after_all (state_of old) h.added = state_behind old mid h.added h.adds in
      elim (h.told told.vectors) [
        | inl read ↦
            let ended = ends.does p packs at (covers_last p before.past between.past after.past f.made f.past covers) (displaced ∙ told.displaced) read in
            inl (record {
              added = h.added ++ ended.added;
              adds = then_more old mid new h.added ended.added h.adds ended.adds;
              does = spent_by p (state_of old) (state_of new) w result (h.added ++ ended.added) where_
                  (then_all p (state_of old) (Weigh w.put (length w.gathered.items)) (end_intents w) h.added ended.added (close_end w result) h.does
                  (subst (λ t. SpendsAll p t (end_intents w) ended.added (close_end w result)) there ended.does));
              number = ended.number;
            })
        | inr collision ↦ inr (key_later between after l p (state_of old) w.key collision)
      ];
}

-- ---- weighing that fails

weigh_fails_by : (p : Permit) (s : State) (w : Writer) (bytes : List ℕ) (added : List Rec) (reason : Reason) → SpendsFirst p s (Weigh w.put (length w.gathered.items)) added (Fails reason)
    → SpendsAll p s (Weigh w.put (length w.gathered.items) ∷ (rest_asks (written_as w) bytes ++ Finish w.put (length (rows_at_close (written_as w))) ∷ Commit w.put ∷ [])) added (Fails reason)
weigh_fails_by p s w [] added reason h = λ rest why. h (Finish w.put (length (rows_at_close (written_as w))) ∷ Commit w.put ∷ rest) why
weigh_fails_by p s w (byte ∷ bytes) added reason h = λ rest why.
    h (Rattle.cache_model.specs.Permit.Fragment w.put (length w.table.rows + 1) (byte ∷ bytes) ∷ Finish w.put (length (rows_at_close (written_as w))) ∷ Commit w.put ∷ rest) why

refused_spent : (p : Permit) (s t : State) (w : Writer) (why : Refusal) (added : List Rec) → WeighsWhere t w (Err why) → SpendsFirst p s (Weigh w.put (length w.gathered.items)) added (weigh_end w (Err why)) → Spent p s w (Err why) added
refused_spent p s t w (refusal.VectorTooLarge size) added where_ h = weigh_fails_by p s w w.gathered.items added (TooLarge w.put size) h
refused_spent p s t w (refusal.DeviceFault count) added where_ h = weigh_fails_by p s w w.gathered.items added (Faulted count) h
refused_spent p s t w (refusal.Memory e) added where_ h = h
refused_spent p s t w _ added where_ h = absurd where_

-- weighing does not come to the end of the tape
weighed_stops : (s t : State) (w : Writer) (why : Refusal) → WeighsWhere s w (Err why) → StopsExhausted t (bytes_next t (written_as w)) why
weighed_stops s t w (refusal.Exhausted number) where_ = absurd where_
weighed_stops s t w _ where_ = tt

pub refused_closes : {packed : Bool} (now : ℕ) (old new : Kept) (before after : Device) (w : Writer) (why : Refusal) → WeighsWhere (state_of old) w (Err why) → WeighsAsAsked before after old new w (Err why) → ClosesAsAsked packed now before.past after old new w (Err why)
refused_closes now old new before after w why where_ weighs = record {
  does = λ p packs at covers told.
      let h : Weighs p after old new w (Err why) = weighs.does p covers in
      inl (record { added = h.added; adds = h.adds; does = refused_spent p (state_of old) (state_of old) w why h.added where_ h.does; number = weighed_stops (state_of old) (state_of new) w why where_ });
}

-- ---- before anything is recorded

pub wanting_closes : {packed : Bool} (now : ℕ) (old new : Kept) (before : List Call) (after : Device) (w : Writer) (why : Refusal) (e : Rattle.std.specs.declared.alloc.AllocError.AllocError) → why ≡ refusal.Memory e → new ≡ old → ClosesAsAsked packed now before after old new w (Err why)
wanting_closes now old new before after w why e is same = record {
  does = λ p packs at covers told. inl (subst (λ (r : Refusal). ClosesInStripe p old new w (Err r)) (sym is) (record { added = []; adds = same ∙ sym (nothing_more old); does = λ rest reason. MayGrow.nothing; number = tt }));
}

-- a writer of the same alternate, and the same bytes gathered
pub record SameCloser (old new : Writer) : Type 0 where
  pub put : new.put ≡ old.put
  pub key : new.key ≡ old.key
  pub gathered : new.gathered.items ≡ old.gathered.items
  pub rows : new.table.rows ≡ old.table.rows

same_close : (w new : Writer) → SameCloser w new → ending_asks (written_as new) ≡ ending_asks (written_as w)
same_close w new same =
    let rest : (bytes : List ℕ) → rest_asks (written_as new) bytes ≡ rest_asks (written_as w) bytes = same_rest_of w new same in
    let rows : rows_at_close (written_as new) ≡ rows_at_close (written_as w) = ap (λ (r : List TableRow). r ++ rest_rows new.gathered.items) same.rows ∙ ap (λ b. w.table.rows ++ rest_rows b) same.gathered in
    ap (λ n. Weigh n (length new.gathered.items) ∷ (rest_asks (written_as new) new.gathered.items ++ Finish n (length (rows_at_close (written_as new))) ∷ Commit n ∷ [])) same.put
    ∙ (ap (λ b. Weigh w.put (length b) ∷ (rest_asks (written_as new) b ++ Finish w.put (length (rows_at_close (written_as new))) ∷ Commit w.put ∷ [])) same.gathered
    ∙ (ap (λ (is : List Intent). Weigh w.put (length w.gathered.items) ∷ (is ++ Finish w.put (length (rows_at_close (written_as new))) ∷ Commit w.put ∷ [])) (rest w.gathered.items)
    ∙ ap (λ (r : List TableRow). Weigh w.put (length w.gathered.items) ∷ (rest_asks (written_as w) w.gathered.items ++ Finish w.put (length r) ∷ Commit w.put ∷ [])) rows))
  where
    same_rest_of : (w new : Writer) → SameCloser w new → (bytes : List ℕ) → rest_asks (written_as new) bytes ≡ rest_asks (written_as w) bytes
    same_rest_of w new same [] = refl
    same_rest_of w new same (byte ∷ bytes) =
        ap (λ n. Rattle.cache_model.specs.Permit.Fragment n (length new.table.rows + 1) (byte ∷ bytes) ∷ []) same.put
        ∙ ap (λ (r : List TableRow). Rattle.cache_model.specs.Permit.Fragment w.put (length r + 1) (byte ∷ bytes) ∷ []) same.rows

spent_same : (p : Permit) (s : State) (w new : Writer) (result : Result Receipt Refusal) (added : List Rec) → SameCloser w new → Spent p s new result added → Spent p s w result added
spent_same p s w new (Ok receipt) added same h = subst (λ (is : List Intent). SpendsAll p s is added Done) (same_close w new same) h
spent_same p s w new (Err (refusal.VectorTooLarge size)) added same h =
    subst (λ n. SpendsAll p s (ending_asks (written_as w)) added (Fails (TooLarge n size))) same.put (subst (λ (is : List Intent). SpendsAll p s is added (Fails (TooLarge new.put size))) (same_close w new same) h)
spent_same p s w new (Err (refusal.Lost index why)) added same h =
    subst (λ n. SpendsAll p s (ending_asks (written_as w)) added (Fails (Rattle.cache_model.specs.Permit.Lost n index))) same.put
    (subst (λ (is : List Intent). SpendsAll p s is added (Fails (Rattle.cache_model.specs.Permit.Lost new.put index))) (same_close w new same) h)
spent_same p s w new (Err (refusal.DeviceFault count)) added same h = subst (λ (is : List Intent). SpendsAll p s is added (Fails (Faulted count))) (same_close w new same) h
spent_same p s w new (Err (refusal.Exhausted number)) added same h = subst (λ (is : List Intent). SpendsAll p s is added (Fails Exhausted)) (same_close w new same) h
spent_same p s w new (Err (refusal.Memory e)) added same h =
    subst (λ b. SpendsFirst p s (Weigh w.put (length b)) added Stays) same.gathered (subst (λ n. SpendsFirst p s (Weigh n (length new.gathered.items)) added Stays) same.put h)
spent_same p s w new (Err refusal.NoSuchWriter) added same h = h
spent_same p s w new (Err refusal.TooManyWriters) added same h = subst (λ (is : List Intent). SpendsAll p s is added Stays) (same_close w new same) h
spent_same p s w new (Err refusal.TooManyFragments) added same h = subst (λ (is : List Intent). SpendsAll p s is added Stays) (same_close w new same) h
spent_same p s w new (Err refusal.Sealed) added same h = subst (λ (is : List Intent). SpendsAll p s is added Stays) (same_close w new same) h

next_same : (t : State) (w new : Writer) → SameCloser w new → bytes_next t (written_as new) ≡ bytes_next t (written_as w)
next_same t w new same =
    let rows : rows_at_close (written_as new) ≡ rows_at_close (written_as w) = ap (λ (r : List TableRow). r ++ rest_rows new.gathered.items) same.rows ∙ ap (λ b. w.table.rows ++ rest_rows b) same.gathered in
    ap (λ n. if length (cuts_of t n) == length (rows_at_close (written_as new)) then vector_length t n else length new.gathered.items) same.put
    ∙ (ap (λ (r : List TableRow). if length (cuts_of t w.put) == length r then vector_length t w.put else length new.gathered.items) rows
    ∙ ap (λ (b : List ℕ). if length (cuts_of t w.put) == length (rows_at_close (written_as w)) then vector_length t w.put else length b) same.gathered)

stops_same : (t : State) (w new : Writer) (result : Result Receipt Refusal) → SameCloser w new → IfErr result (StopsExhausted t (bytes_next t (written_as new))) → IfErr result (StopsExhausted t (bytes_next t (written_as w)))
stops_same t w new result same h = subst (λ n. IfErr result (StopsExhausted t n)) (next_same t w new same) h

pub closes_same : {packed : Bool} (now : ℕ) (kept old new : Kept) (first before : List Call) (after : Device) (w used : Writer) (result : Result Receipt Refusal) → old ≡ kept → before ≡ first → SameCloser w used
    → ClosesAsAsked packed now before after old new used result → ClosesAsAsked packed now first after kept new w result
closes_same now kept old new first before after w used result e f same h = record {
  does = λ p packs at covers told.
      let cover : Covers p before after.past = subst (λ (calls : List Call). Covers p calls after.past) (sym f) covers in
      elim (h.does p packs at cover (subst (λ (k : Kept). AreTold (state_of k)) (sym e) told)) [
        | inl c ↦ inl (record {
          added = c.added;
          adds = c.adds ∙ ap (λ k. with_records k c.added) e;
          does = spent_same p (state_of kept) w used result c.added same (subst (λ (k : Kept). Spent p (state_of k) used result c.added) e c.does);
          number = stops_same (state_of new) w used result same c.number;
        })
        | inr collision ↦ inr (subst (λ k. IsKeyPair (Untold after IsVectorAs) p (state_of kept) k) same.key
            (subst (λ (k : Kept). IsKeyPair (Untold after IsVectorAs) p (state_of k) used.key) e collision))
      ];
}

-- ---- which answers come

pub refused_where : (s t : State) (w : Writer) (why : Refusal) → is_writing s w.put ≡ true → WeighsWhere s w (Err why) → ClosesWhere s t w (Err why)
refused_where s t w (refusal.VectorTooLarge size) writing h = (writing, h.0, h.1)
refused_where s t w (refusal.DeviceFault count) writing h = writing
refused_where s t w (refusal.Memory e) writing h = writing
refused_where s t w _ writing h = absurd h

-- once the vector is weighed, those of finishing, for the writer that cut its rest
pub finished_where : (t : State) (w cut : Writer) (result : Result Receipt Refusal) → cut.put ≡ w.put → cut.key ≡ w.key
    → cut.table.rows ≡ rows_at_close (written_as w) → FinishesWhere t cut result → EndsWhere t w result
finished_where t w cut (Ok receipt) put key rows h =
    record { put = h.put ∙ put; bytes = h.bytes ∙ ap total_length rows; fragments = h.fragments ∙ ap length rows }
finished_where t w cut (Err (refusal.Lost index why)) put key rows h =
    h
    ∙ (ap (λ k. cause_of_piece t (fragment_piece k cut.put index)) key ∙ ap (λ n. cause_of_piece t (fragment_piece w.key n index)) put)
finished_where t w cut (Err (refusal.DeviceFault count)) put key rows h = tt
finished_where t w cut (Err (refusal.Exhausted number)) put key rows h = h
finished_where t w cut (Err _) put key rows h = absurd h

-- and where the rest cannot be cut
pub no_rest_where : (t : State) (w : Writer) (bytes : ℕ) (why : Refusal) (answers : Result (Unit {0}) Stop → Type 0)
    → AnswersOrWants {X = Unit {0}} (Err why) answers ⊥ → StopsExhausted t bytes why → EndsWhere t w (Err why)
no_rest_where t w bytes (refusal.DeviceFault count) answers h stops = tt
no_rest_where t w bytes (refusal.Exhausted number) answers h stops = stops.1
no_rest_where t w bytes _ answers h stops = absurd h

-- so they are of all of closing
pub ended_where : (s t : State) (w : Writer) (result : Result Receipt Refusal) → is_writing s w.put ≡ true → EndsWhere t w result
    → ClosesWhere s t w result
ended_where s t w (Ok receipt) writing ends = (writing, ends)
ended_where s t w (Err (refusal.Lost index why)) writing ends = (writing, ends)
ended_where s t w (Err (refusal.DeviceFault count)) writing ends = writing
ended_where s t w (Err (refusal.Exhausted number)) writing ends = (writing, ends)
ended_where s t w (Err _) writing ends = absurd ends

complete_same : (w used : Writer) (receipt : Receipt) → SameAtClose w used → TellsComplete (written_as used) receipt → TellsComplete (written_as w) receipt
complete_same w used receipt same h =
    record { put = h.put ∙ same.put; bytes = h.bytes ∙ ap total_length same.rows; fragments = h.fragments ∙ ap length same.rows }

-- of a writer as it was the same come
pub closes_where_same : (s t : State) (w used : Writer) (result : Result Receipt Refusal) → SameWriter w used → ClosesWhere s t used result
    → ClosesWhere s t w result
closes_where_same s t w used (Ok receipt) same h =
    (subst (λ n. is_writing s n ≡ true) same.put h.0, complete_same w used receipt (alike_same w used same) h.1)
closes_where_same s t w used (Err refusal.NoSuchWriter) same h = subst (λ n. is_writing s n ≡ false) same.put h
closes_where_same s t w used (Err (refusal.VectorTooLarge size)) same h = (
  subst (λ n. is_writing s n ≡ true) same.put h.0,
  h.1 ∙ ap (λ (a : Stored). vector_size (a ∷ [])) (alike_same w used same).alternate,
  h.2,
)
closes_where_same s t w used (Err (refusal.Lost index why)) same h = (
  subst (λ n. is_writing s n ≡ true) same.put h.0,
  h.1
      ∙ (ap (λ k. cause_of_piece t (fragment_piece k used.put index)) same.key
      ∙ ap (λ n. cause_of_piece t (fragment_piece w.key n index)) same.put),
)
closes_where_same s t w used (Err (refusal.DeviceFault count)) same h = subst (λ n. is_writing s n ≡ true) same.put h
closes_where_same s t w used (Err (refusal.Exhausted number)) same h = (subst (λ n. is_writing s n ≡ true) same.put h.0, h.1)
closes_where_same s t w used (Err (refusal.Memory e)) same h = subst (λ n. is_writing s n ≡ true) same.put h
closes_where_same s t w used (Err _) same h = absurd h

-- the writer behind a refusal
abbrev pub sealed_by : Refusal → Writer → Writer
sealed_by why w = record { put = w.put; key = w.key; request = w.request; response = w.response; pin = w.pin; gathered = w.gathered; table = w.table; sealed = is_sealed_by why w.sealed }

pub refused_seals : (s : State) (w : Writer) (why : Refusal) → WeighsWhere s w (Err why) → SealsInStripeWhere w (sealed_by why w) (Err why)
refused_seals s w (refusal.DeviceFault count) h = refl
refused_seals s w (refusal.Memory e) h = record { put = refl; key = refl; request = refl; response = refl; pin = refl; gathered = refl; rows = refl; sealed = refl }
refused_seals s w (refusal.VectorTooLarge size) h = record { put = refl; key = refl; request = refl; response = refl; pin = refl; gathered = refl; rows = refl; sealed = refl }
refused_seals s w _ h = absurd h

writers_alike : (a b c : Writer) → SameWriter a b → SameWriter b c → SameWriter a c
writers_alike a b c front back = record {
  put = back.put ∙ front.put;
  key = back.key ∙ front.key;
  request = back.request ∙ front.request;
  response = back.response ∙ front.response;
  pin = back.pin ∙ front.pin;
  gathered = back.gathered ∙ front.gathered;
  rows = back.rows ∙ front.rows;
  sealed = back.sealed ∙ front.sealed;
}

pub seals_same : (w same new : Writer) (result : Result Receipt Refusal) → SameWriter w same → SealsInStripeWhere same new result → SealsInStripeWhere w new result
seals_same w same new (Err (refusal.Memory e)) is h = writers_alike w same new is h
seals_same w same new (Err (refusal.VectorTooLarge size)) is h = writers_alike w same new is h
seals_same w same new (Err refusal.NoSuchWriter) is h = writers_alike w same new is h
seals_same w same new (Err (refusal.DeviceFault count)) is h = h
seals_same w same new (Err (refusal.Exhausted number)) is h = h
seals_same w same new (Err (refusal.Lost index why)) is h = tt
seals_same w same new (Err refusal.TooManyWriters) is h = tt
seals_same w same new (Err refusal.TooManyFragments) is h = tt
seals_same w same new (Err refusal.Sealed) is h = tt
seals_same w same new (Ok receipt) is h = tt

pub ended_seals : (s : State) (w new : Writer) (result : Result Receipt Refusal) → EndsWhere s w result → new.sealed ≡ true → SealsInStripeWhere w new result
ended_seals s w new (Err (refusal.DeviceFault count)) ends sealed = sealed
ended_seals s w new (Err (refusal.Exhausted number)) ends sealed = sealed
ended_seals s w new (Err (refusal.Lost index why)) ends sealed = tt
ended_seals s w new (Ok receipt) ends sealed = tt
ended_seals s w new (Err _) ends sealed = absurd ends

pub refused_own : (s t : State) (w : Writer) (why : Refusal) → WeighsWhere t w (Err why) → IsWriterOf s (written_as w)
    → IsWriterOf s (written_as (sealed_by why w))
refused_own s t w (refusal.DeviceFault count) h own =
    sealed_writer s w (sealed_by (refusal.DeviceFault count) w) (record { put = refl; key = refl; request = refl; response = refl; pin = refl; gathered = refl; rows = refl; sealed = refl }) own
refused_own s t w _ h own = own

-- ---- what a writer has at hand once it was closed

pub rested_same : (w same new : Writer) → SameWriter w same → IsRested same new → IsRested w new
rested_same w same new is (inl keeps) = inl (record { put = keeps.put ∙ is.put; gathered = keeps.gathered ∙ is.gathered; cuts = keeps.cuts ∙ is.rows })
rested_same w same new is (inr cuts) = inr (record {
  put = cuts.put ∙ is.put;
  empty = cuts.empty;
  cuts = cuts.cuts ∙ (ap (λ (rows : List TableRow). rows ++ rest_rows same.gathered.items) is.rows ∙ ap (λ bytes. w.table.rows ++ rest_rows bytes) is.gathered);
})

-- ---- what stands of the device

pub refused_leaves : (s : State) (w : Writer) (old new : Device) (why : Refusal) → WeighsWhere s w (Err why) → IsUnwritten old new → UntouchedWhere old new (Err why)
refused_leaves s w old new (refusal.DeviceFault count) h shows = tt
refused_leaves s w old new (refusal.Memory e) h shows = shows
refused_leaves s w old new (refusal.VectorTooLarge size) h shows = shows
refused_leaves s w old new _ h shows = absurd h

pub ended_leaves : (s : State) (w : Writer) (old new : Device) (result : Result Receipt Refusal) → EndsWhere s w result → UntouchedWhere old new result
ended_leaves s w old new (Ok receipt) ends = tt
ended_leaves s w old new (Err (refusal.DeviceFault count)) ends = tt
ended_leaves s w old new (Err (refusal.Exhausted number)) ends = tt
ended_leaves s w old new (Err (refusal.Lost index why)) ends = tt
ended_leaves s w old new (Err _) ends = absurd ends

pub prepared_leaves : (old mid new : Device) (result : Result Receipt Refusal) → IsStill old mid → UntouchedWhere mid new result → UntouchedWhere old new result
prepared_leaves old mid new (Ok receipt) still h = tt
prepared_leaves old mid new (Err refusal.TooManyWriters) still h = tt
prepared_leaves old mid new (Err refusal.TooManyFragments) still h = tt
prepared_leaves old mid new (Err (refusal.VectorTooLarge bytes)) still h = unwritten_then old mid new (still_shows old mid still) h
prepared_leaves old mid new (Err (refusal.Lost index why)) still h = tt
prepared_leaves old mid new (Err (refusal.DeviceFault count)) still h = tt
prepared_leaves old mid new (Err refusal.Sealed) still h = tt
prepared_leaves old mid new (Err (refusal.Exhausted number)) still h = tt
prepared_leaves old mid new (Err refusal.NoSuchWriter) still h = still_then old mid new still h
prepared_leaves old mid new (Err (refusal.Memory e)) still h = unwritten_then old mid new (still_shows old mid still) h

-- ---- where memory is wanting

pub wanting_any : {X : Type 0} (r : Result X Refusal) (P : Type 0) → P → Wanting r P
wanting_any (Err (refusal.Memory e)) P h = h
wanting_any (Ok x) P h = tt
wanting_any (Err _) P h = tt

pub wanting_map : {X : Type 0} (r : Result X Refusal) (P Q : Type 0) → (P → Q) → Wanting r P → Wanting r Q
wanting_map (Err (refusal.Memory e)) P Q f h = f h
wanting_map (Ok x) P Q f h = tt
wanting_map (Err _) P Q f h = tt

pub ended_wants : (s : State) (w : Writer) (result : Result Receipt Refusal) (P : Type 0) → EndsWhere s w result → Wanting result P
ended_wants s w (Err (refusal.Memory e)) P ends = absurd ends
ended_wants s w (Ok receipt) P ends = tt
ended_wants s w (Err _) P ends = tt
