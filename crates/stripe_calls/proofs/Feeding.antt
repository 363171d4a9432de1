-- A writer takes bytes.
use Rattle.std.proofs.Common.{◌≡◌, ℕ, ◌+◌, ◌<◌, ◌==◌, ◌&&◌, arith, true, false, Bool, List, [], ◌∷◌, ◌++◌, refl, sym, ◌∙◌, ap, subst, Result, Ok, Err, inl, length}
use Rattle.std.specs.Prelude.{IfErr, IfOk, MatchBool, OnErr, if◌then◌else◌, not, nat_lt}
use Rattle.std.proofs.lemmas.Bool.{eq-eqb, eqb-true, ltb-false, ltb-true}
use Rattle.logged_disk.specs.Device.{DeviceState as Device}
use Rattle.tape_base.specs.Digest.{digest_of}
use Rattle.cache_model.specs.declared.record.Rec.{Rec}
use Rattle.cache_model.specs.declared.record.Rec.TheVariants as rec
use Rattle.cache_model.specs.State.{State, after_all, most_fragments}
use Rattle.cache_model.specs.Kept.{Kept, state_of, with_records}
use Rattle.cache_model.specs.Permit.{Exhausted, Fails, Faulted, Intent, ManyFragments, Overflow, Reason}
use Rattle.cache_model.specs.Room.{placed_record}
use Rattle.cache_model.specs.Contents.{Contents}
use Rattle.cache_model.specs.Vectors.{AreTold}
use Rattle.call_laws.specs.Progress.{AllDone, Leaves, Progress, Stops}
use Rattle.call_laws.specs.Serves.{ServesTold}
use Rattle.call_laws.proofs.Grown.{one_spends}
use Rattle.call_laws.proofs.Joined.{state_behind}
use Rattle.piece_answers.specs.declared.answer.Placed.{Placed}
use Rattle.cache_answers.specs.declared.answers.Refusal.{Refusal}
use Rattle.cache_answers.specs.declared.answers.Refusal.TheVariants as refusal
use Rattle.piece_answers.specs.declared.answer.Stop.{Stop}
use Rattle.piece_answers.specs.declared.answer.Stop.TheVariants as stop
use Rattle.piece_answers.specs.Covers.{SpendsFirst}
use Rattle.piece_answers.specs.Faults.{IsAccounted}
use Rattle.piece_answers.specs.Place.{IsCutAs, IsStoppedAs, cut_records, place_end}
use Rattle.stripe_write.specs.declared.writer.Writer.{Writer}
use Rattle.stripe_answers.specs.Numbers as numbers
use Rattle.stripe_write.specs.Writers as writers
use Rattle.stripe_write.specs.Writes as writes
use Rattle.stripe_write.specs.Writes.{CutsNextAsAsked, SameWriter, WritesAsAsked, WritesWhere, next_start}
use Rattle.stripe_write.proofs.Cutting.{next_no_vector}
use Rattle.stripe_write.proofs.Faulted.{alone, covers_alone, cut_recorded}
use Rattle.stripe_write.proofs.Spending.{nothing_more}
use Rattle.cache_model.specs.Subjects.{IsOfPut}
use Rattle.cache_calls.specs.Adds.{AddsSoundly}
use Rattle.cache_calls.specs.Asked.{cuts_next, fed_asks, progress_at, write_asks, taken_of, gathered_with, fills_fragment, next_payload}
use Rattle.cache_model.specs.Live.{LiveBefore}
use Rattle.cache_calls.specs.Writers.{CutsAs, IsCutting, StopsAs, WriterGoesOn, Writes, fragment_records, IsTaking, piece_cut_next, HasTaken}
use Rattle.stripe_calls.specs.Seen.{at_by}
use Rattle.stripe_calls.proofs.Serving.{all_left, one_done, one_fails, serves_by}
use Rattle.cache_calls.specs.Actors.{IsWriterOf}
use Rattle.stripe_write.specs.Writers.{written_as}

-- ---- what is asked

not_over : (n rows : ℕ) → (0 < n → rows < most_fragments) → (nat_lt 0 n && rows == most_fragments) ≡ false
not_over n rows few = by (nat_lt 0 n) (rows == most_fragments) refl refl
  where
    by : (a b : Bool) → nat_lt 0 n ≡ a → (rows == most_fragments) ≡ b → (a && b) ≡ false
    by false b first second = refl
    by true false first second = refl
    by true true first second =
        let whole : rows ≡ most_fragments = eqb-true rows most_fragments second in
        absurd (omega (arith, few (ltb-true 0 n first), whole))

over : (n rows : ℕ) → 0 < n → rows ≡ most_fragments → (nat_lt 0 n && rows == most_fragments) ≡ true
over n rows some whole = by (nat_lt 0 n) (rows == most_fragments) refl refl
  where
    by : (a b : Bool) → nat_lt 0 n ≡ a → (rows == most_fragments) ≡ b → (a && b) ≡ true
    by true true first second = refl
    by false b first second = absurd (omega (arith, some, ltb-false 0 n first))
    by true false first second = let clash : true ≡ false = sym (eq-eqb rows most_fragments whole) ∙ second in cc

module _ (s : State) (w : Writer) (bytes : List ℕ) where
  abbrev asks : List Intent
  asks = write_asks s (written_as w) bytes

  -- to cut, or nothing
  abbrev cut_asks : Bool → List ℕ → List Intent
  cut_asks b payload = if b then cuts_next (written_as w) payload ∷ [] else []

  taking_asks : IsTaking s (written_as w) → asks ≡ fed_asks s (written_as w) bytes
  taking_asks h =
      ap (λ b. if b && not w.sealed then fed_asks s (written_as w) bytes else []) h.0
      ∙ ap (λ b. if not b then fed_asks s (written_as w) bytes else []) h.1

  taken_asks : IsTaking s (written_as w) → (0 < length bytes → length w.table.rows < most_fragments)
      → asks ≡ cut_asks (fills_fragment s.geometry (written_as w) (taken_of s.geometry (written_as w) bytes)) (next_payload s (written_as w) bytes)
  taken_asks h few =
      taking_asks h
      ∙ ap (λ b. if b then Overflow w.put
      ∷ [] else cut_asks (fills_fragment s.geometry (written_as w) (taken_of s.geometry (written_as w) bytes)) (next_payload s (written_as w) bytes))
      (not_over (length bytes) (length w.table.rows) few)

  cutting_asks : IsCutting s (written_as w) bytes → asks ≡ cuts_next (written_as w) (next_payload s (written_as w) bytes) ∷ []
  cutting_asks h = taken_asks h.taking (λ some. h.few) ∙ ap (λ b. cut_asks b (next_payload s (written_as w) bytes)) h.full

  over_asks : IsTaking s (written_as w) → 0 < length bytes → length w.table.rows ≡ most_fragments → asks ≡ Overflow w.put ∷ []
  over_asks h some whole =
      taking_asks h
      ∙ ap (λ b. if b then Overflow w.put
      ∷ [] else cut_asks (fills_fragment s.geometry (written_as w) (taken_of s.geometry (written_as w) bytes)) (next_payload s (written_as w) bytes))
      (over (length bytes) (length w.table.rows) some whole)

-- ---- what it serves

module _ (packed : Bool) (k l : Kept) (d e : Device) (now : ℕ) (w : Writer) (bytes : List ℕ) (accounted : IsAccounted d.past e.past k l) where
  abbrev Served : List Intent → Progress → Type 0
  Served is o = ServesTold now (at_by packed k d) (at_by packed l e) is o

  abbrev own_asks : List Intent
  own_asks = asks (state_of k) w bytes

  took : (n : ℕ) (added : List Rec) → l ≡ with_records k added → (b : Bool)
      → MatchBool b ((placed : Placed) × CutsNextAsAsked packed now (state_of k) d.past e w (gathered_with (written_as w) bytes n) added (Ok placed)) (added ≡ [])
      → Served (cut_asks (state_of k) w bytes b (gathered_with (written_as w) bytes n)) AllDone
  took n added adds true h =
      serves_by accounted (cuts_next (written_as w) (gathered_with (written_as w) bytes n) ∷ []) AllDone AreTold added adds
      (λ p packs moment step told. inl (one_done (h.1.does p packs moment step), tt))
  took n added adds false h = all_left accounted [] AreTold (subst (λ recs. l ≡ with_records k recs) h adds ∙ nothing_more k) tt

  stopped : (why : Reason) (end : Result Placed Stop) (added : List Rec) → place_end end ≡ Fails why → l ≡ with_records k added
      → IsCutting (state_of k) (written_as w) bytes
      → CutsNextAsAsked packed now (state_of k) d.past e w (next_payload (state_of k) (written_as w) bytes) added end
      → Served own_asks (Stops why)
  stopped why end added is adds cutting h =
      let payload = next_payload (state_of k) (written_as w) bytes in
      subst (λ them. Served them (Stops why)) (sym (cutting_asks (state_of k) w bytes cutting))
      (serves_by accounted (cuts_next (written_as w) payload ∷ []) (Stops why) AreTold added adds
      (λ p packs moment step told. inl (
        one_fails why
            (subst (SpendsFirst p (state_of k) (cuts_next (written_as w) payload) added) is (h.does p packs moment step)),
        tt,
      )))

  left : (added : List Rec) → l ≡ with_records k added → added ≡ [] → Served own_asks (Leaves own_asks)
  left added adds none = all_left accounted own_asks AreTold (subst (λ recs. l ≡ with_records k recs) none adds ∙ nothing_more k) tt

  pub write_serves : (result : Result ℕ Refusal) → WritesWhere (state_of k) w bytes result → WritesAsAsked packed now k l d.past e w bytes result
      → Served own_asks (progress_at w.put own_asks result)
  write_serves (Ok n) is h =
      subst (λ them. Served them AllDone)
      (sym (taken_asks (state_of k) w bytes is.0 is.2
      ∙ ap (λ m. cut_asks (state_of k) w bytes (fills_fragment (state_of k).geometry (written_as w) m) (gathered_with (written_as w) bytes m)) (sym is.1)))
      (took n h.added h.adds (fills_fragment (state_of k).geometry (written_as w) n) h.does)
  write_serves (Err (refusal.DeviceFault count)) is h = stopped (Faulted count) (Err (stop.DeviceFault count)) h.added refl h.adds is h.does
  write_serves (Err (refusal.Exhausted number)) is h = stopped Exhausted (Err (stop.Exhausted number)) h.added refl h.adds is h.does
  write_serves (Err refusal.TooManyFragments) is h =
      subst (λ them. Served them (Stops (ManyFragments w.put))) (sym (over_asks (state_of k) w bytes is.0 is.1 is.2))
      (serves_by accounted (Overflow w.put ∷ []) (Stops (ManyFragments w.put)) AreTold h.added h.adds
      (λ p packs moment step told. inl (one_spends p (state_of k) (Overflow w.put) h.added (Fails (ManyFragments w.put)) (h.does.1 p), tt)))
  write_serves (Err refusal.NoSuchWriter) is h = left h.added h.adds h.does
  write_serves (Err refusal.Sealed) is h = left h.added h.adds h.does
  write_serves (Err (refusal.Memory error)) is h = left h.added h.adds h.does
  write_serves (Err _) is h = absurd is

-- ---- what it gives

module _ (packed : Bool) (k l : Kept) (d e : Device) (w : Writer) where
  as_it_was : (added : List Rec) → l ≡ with_records k added → added ≡ [] → l ≡ k
  as_it_was added adds none = subst (λ recs. l ≡ with_records k recs) none adds ∙ nothing_more k

  -- the records of a fragment
  pieces_are : (s : State) (payload : List ℕ) (displaced : List Rec)
      → cut_records (piece_cut_next (written_as w)) payload ++ (displaced ++ placed_record s (piece_cut_next (written_as w)) w.pin (next_start w) (length payload) payload ∷ [])
      ≡ fragment_records s (written_as w) payload displaced
  pieces_are s payload displaced =
      ap (λ b. (if b then [] else rec.Cut w.put (length w.table.rows + 1) (length payload) (digest_of payload) ∷ [])
      ++ (displaced ++ placed_record s (piece_cut_next (written_as w)) w.pin (next_start w) (length payload) payload ∷ [])) (next_no_vector w)

  cuts : (payload : List ℕ) (added : List Rec) (placed : Placed) → l ≡ with_records k added
      → IsCutAs packed (state_of k) (piece_cut_next (written_as w)) w.pin (next_start w) payload added placed → CutsAs (at_by packed k d) (at_by packed l e) (written_as w) payload
  cuts payload added placed adds h = record {
    room = h.room;
    displaced = h.are.displaced;
    kinds = h.kinds;
    none = h.none;
    live = h.live;
    pushed = h.are.pushed;
    adds = adds
        ∙ ap (with_records k) (h.is ∙ ap (λ recs. h.room ++ recs) (h.are.is ∙ pieces_are (after_all (state_of k) h.room) payload h.are.displaced));
  }

  stops : (payload : List ℕ) (added : List Rec) (why : Stop) → l ≡ with_records k added → IsStoppedAs (state_of k) e.faults payload added why
      → StopsAs (at_by packed k d) (at_by packed l e)
  stops payload added why adds h = record {
    flush = record { added = added; adds = adds; own = h.kinds };
    live = subst (LiveBefore (state_of k)) (sym (state_behind k l added adds))
        h.live;
  }

  module _ (now : ℕ) (bytes : List ℕ) where
    taken : (n : ℕ) (added : List Rec) → l ≡ with_records k added → (b : Bool)
        → MatchBool b ((placed : Placed) × CutsNextAsAsked packed now (state_of k) d.past e w (gathered_with (written_as w) bytes n) added (Ok placed)) (added ≡ [])
        → MatchBool b (CutsAs (at_by packed k d) (at_by packed l e) (written_as w) (gathered_with (written_as w) bytes n)) (l ≡ k)
    taken n added adds true h = cuts (gathered_with (written_as w) bytes n) added h.0 adds h.1.shape
    taken n added adds false h = as_it_was added adds h

    pub write_gives : (result : Result ℕ Refusal) → WritesWhere (state_of k) w bytes result
        → IfErr result (numbers.StopsExhausted (state_of l) (state_of k).geometry.fragment) → WritesAsAsked packed now k l d.past e w bytes result
        → Writes (at_by packed k d) (at_by packed l e) (written_as w) bytes result
    write_gives (Ok n) is number h =
        record
        { taking = is.0; count = is.1; few = is.2; cuts = taken n h.added h.adds (fills_fragment (state_of k).geometry (written_as w) n) h.does }
    write_gives (Err (refusal.DeviceFault count)) is number h =
        let payload = next_payload (state_of k) (written_as w) bytes in (
          is,
          h.does.shape.why_is.1,
          record {
            count_is = h.does.shape.why_is.0;
            told = record {
              reached = let is : count ≡ e.faults = h.does.shape.why_is.0 in omega (arith, is);
              added = h.added;
              adds = h.adds;
              among = cut_recorded count refl
                  (h.does.does (alone packed now d.past e.past) refl refl (covers_alone packed now d.past e.past));
            };
            stops = stops payload h.added (stop.DeviceFault count) h.adds h.does.shape;
          },
        )
    write_gives (Err (refusal.Exhausted n)) is number h =
        let payload = next_payload (state_of k) (written_as w) bytes in
        (is, number, stops payload h.added (stop.Exhausted n) h.adds h.does.shape)
    write_gives (Err refusal.TooManyFragments) is number h = (is.0, is.1, is.2, h.adds ∙ ap (with_records k) h.does.0)
    write_gives (Err refusal.NoSuchWriter) is number h = (is, as_it_was h.added h.adds h.does)
    write_gives (Err refusal.Sealed) is number h = (is.0, is.1, as_it_was h.added h.adds h.does)
    write_gives (Err (refusal.Memory error)) is number h = (is, as_it_was h.added h.adds h.does)
    write_gives (Err _) is number h = absurd is

    pub write_owns : (result : Result ℕ Refusal) → WritesAsAsked packed now k l d.past e w bytes result → AddsSoundly (IsOfPut w.put) (at_by packed k d) (at_by packed l e)
    write_owns result h = record { added = h.added; adds = h.adds; own = h.own; undamaged = h.unharmed }

-- ---- the writer

same_writer : (old new : Writer) → SameWriter old new → written_as new ≡ written_as old
same_writer old new h =
    let put : new.put ≡ old.put = h.put in
    let key : new.key ≡ old.key = h.key in
    let request : new.request ≡ old.request = h.request in
    let response : new.response ≡ old.response = h.response in
    let pin : new.pin ≡ old.pin = h.pin in
    let gathered : new.gathered.items ≡ old.gathered.items = h.gathered in
    let rows : new.table.rows ≡ old.table.rows = h.rows in
    let sealed : new.sealed ≡ old.sealed = h.sealed in
    cc

pub write_goes : (s t : State) (old new : Writer) (bytes : List ℕ) (result : Result ℕ Refusal) → IsWriterOf t (written_as new)
    → IfOk result (λ n. HasTaken s.geometry (written_as old) bytes n (written_as new)) → OnErr result (SameWriter old new)
    → WriterGoesOn (written_as old) bytes result s t (written_as new)
write_goes s t old new bytes (Ok n) own gathers same = record {
  goes = gathers;
  writer = own;
}
write_goes s t old new bytes (Err why) own gathers same = record { goes = same_writer old new same; writer = own }
