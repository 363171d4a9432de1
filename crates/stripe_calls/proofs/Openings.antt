-- A writer opens, and is given up.
use Rattle.std.proofs.Common.{◌≡◌, ℕ, Bool, ◌+◌, ◌≤◌, false, List, [], ◌∷◌, refl, sym, ◌∙◌, ap, subst, Result, Ok, Err}
use Rattle.std.specs.Prelude.{IfOk, OnErr, OnOk}
use Rattle.tape_base.specs.declared.actors.Actor.{Actor}
use Rattle.tape_base.specs.declared.keys.Key.{Key}
use Rattle.logged_disk.specs.Device.{DeviceState as Device}
use Rattle.alternate_vector.specs.Field.{Field}
use Rattle.cache_model.specs.declared.record.Rec.{Rec}
use Rattle.cache_model.specs.declared.record.Rec.TheVariants as rec
use Rattle.cache_model.specs.State.{State}
use Rattle.cache_model.specs.Kept.{Kept, state_of, with_records}
use Rattle.cache_model.specs.Permit.{Done, Exhausted, Fails, GiveUp, Intent, ManyWriters, Write}
use Rattle.cache_model.specs.Legal.{Does, DoesWrite}
use Rattle.cache_model.specs.Room.{limit}
use Rattle.cache_model.specs.Vectors.{AreTold}
use Rattle.call_laws.specs.Moments.{permit_of}
use Rattle.call_laws.specs.Serves.{ServesTold}
use Rattle.cache_answers.specs.declared.answers.Refusal.{Refusal}
use Rattle.cache_answers.specs.declared.answers.Refusal.TheVariants as refusal
use Rattle.stripe_answers.specs.Acts.{OpensAsAsked, write_opened_record}
use Rattle.piece_answers.specs.Faults.{IsAccounted}
use Rattle.stripe_write.specs.declared.writer.Writer.{Writer}
use Rattle.stripe_write.specs.Writers as writers
use Rattle.stripe_write.specs.Writes.{AbortsAsAsked, AbortsWhere, abort_adds, number_of_opened}
use Rattle.stripe_write.proofs.Spending.{nothing_more}
use Rattle.cache_model.specs.Subjects.{IsOfPut}
use Rattle.cache_calls.specs.Adds.{AddsOnly}
use Rattle.cache_calls.specs.Asked.{given_up_at, progress_at}
use Rattle.cache_calls.specs.Writers.{GivesUp, HasNumber, OpensWriter}
use Rattle.stripe_calls.specs.Seen.{at_by}
use Rattle.stripe_calls.proofs.Serving.{adds_none, all_left, group_serves}
use Rattle.stripe_actors.specs.Calls as calls
use Rattle.cache_calls.specs.Actors.{IsWriterOf}
use Rattle.stripe_write.specs.Writers.{written_as}

-- ---- a writer opens

-- where that is refused at the end of the numbers, the next one is there
at_the_end : {s : State} {actor : ℕ} {key : Key} {request response : List Field} {pin : ℕ}
    → DoesWrite s actor key request response pin [] (Fails Exhausted) → limit ≤ s.next_put + 1
at_the_end (DoesWrite.exhausted quiet few over none) = over

module _ (packed : Bool) (k l : Kept) (d e : Device) (who : Actor) (key : Key) (request response : List Field) (pin : ℕ) where
  abbrev asked : List Intent
  asked = Write who.0 key request response pin ∷ []

  abbrev opened : Rec
  opened = write_opened_record (state_of k) who key request response pin

  abbrev Opens : Result Writer Refusal → Type 0
  Opens result = OpensAsAsked (state_of k) who key request response pin (number_of_opened result)

  module _ (now : ℕ) (accounted : IsAccounted d.past e.past k l) where
    pub open_serves : (result : Result Writer Refusal) → OnOk result (l ≡ with_records k (opened ∷ [])) → OnErr result (l ≡ k) → Opens result
        → ServesTold now (at_by packed k d) (at_by packed l e) asked (progress_at (state_of k).next_put asked result)
    open_serves (Ok w) adds same does =
        group_serves accounted (Write who.0 key request response pin) Done AreTold (opened ∷ []) adds (λ p packs moment step. does.1 p)
    open_serves (Err refusal.TooManyWriters) adds same does =
        group_serves accounted (Write who.0 key request response pin) (Fails ManyWriters) AreTold [] (adds_none k l same) (λ p packs moment step. does.1 p)
    open_serves (Err (refusal.Exhausted number)) adds same does =
        group_serves accounted (Write who.0 key request response pin) (Fails Exhausted) AreTold [] (adds_none k l same) (λ p packs moment step. does.1 p)
    open_serves (Err (refusal.Memory error)) adds same does = all_left accounted asked AreTold same tt
    open_serves (Err _) adds same does = absurd does

  has_number : calls.HasPutNumber (state_of k) → HasNumber (state_of k)
  has_number h = record { few = h.few; below = h.below }

  pub open_gives : (result : Result Writer Refusal) → OnOk result (l ≡ with_records k (opened ∷ [])) → OnErr result (l ≡ k) → Opens result
      → IfOk result (λ w. IsWriterOf (state_of l) (written_as w)) → IfOk result (λ w. w.gathered.items ≡ []) → IfOk result (λ w. w.sealed ≡ false) → e ≡ d
      → OpensWriter written_as (at_by packed k d) (at_by packed l e) opened result
  open_gives (Ok w) adds same does writer empty unsealed still = record {
    answers = record { adds = adds; put = does.0; empty = empty; unsealed = unsealed; writer = writer };
    still = still;
  }
  open_gives (Err refusal.TooManyWriters) adds same does writer empty unsealed still = record { answers = (same, does.0); still = still }
  open_gives (Err (refusal.Exhausted number)) adds same does writer empty unsealed still =
      let over : limit ≤ (state_of k).next_put + 1 = at_the_end (does.1 (permit_of 0 (at_by packed k d) [])) in
      record { answers = (same, (does.0, subst (λ n. limit ≤ n) (sym does.0) over)); still = still }
  open_gives (Err (refusal.Memory error)) adds same does writer empty unsealed still = record { answers = (same, has_number does); still = still }
  open_gives (Err _) adds same does writer empty unsealed still = absurd does

  pub open_owns : (result : Result Writer Refusal) → OnOk result (l ≡ with_records k (opened ∷ [])) → OnErr result (l ≡ k)
      → AddsOnly (IsOfPut (state_of k).next_put) (at_by packed k d) (at_by packed l e)
  open_owns (Ok w) adds same = record { added = opened ∷ []; adds = adds; own = (refl, tt) }
  open_owns (Err why) adds same = record { added = []; adds = adds_none k l same; own = tt }

-- ---- a writer is given up

module _ (packed : Bool) (k l : Kept) (d e : Device) (w : Writer) where
  -- it is the put of the writer that was given up
  given_up : (n : ℕ) → n ≡ w.put → l ≡ with_records k (rec.Aborted n w.key ∷ []) → l ≡ with_records k (rec.Aborted w.put w.key ∷ [])
  given_up n is adds = adds ∙ ap (λ put. with_records k (rec.Aborted put w.key ∷ [])) is

  as_it_was : l ≡ with_records k [] → l ≡ k
  as_it_was adds = adds ∙ nothing_more k

  module _ (now : ℕ) (accounted : IsAccounted d.past e.past k l) where
    pub abort_serves : (result : Result ℕ Refusal) → l ≡ with_records k (abort_adds w.key result) → AbortsWhere (state_of k) w.put result
        → AbortsAsAsked (state_of k) w.put w.key result
        → ServesTold now (at_by packed k d) (at_by packed l e) (GiveUp w.put ∷ []) (given_up_at w.put result)
    abort_serves (Ok n) adds is does =
        group_serves accounted (GiveUp w.put) Done AreTold (rec.Aborted w.put w.key ∷ []) (given_up n is.0 adds)
        (λ p packs moment step. subst (λ put. Does p (state_of k) (GiveUp w.put) (rec.Aborted put w.key ∷ []) Done) is.0 (does p))
    abort_serves (Err refusal.NoSuchWriter) adds is does = group_serves accounted (GiveUp w.put) Done AreTold [] adds (λ p packs moment step. does p)
    abort_serves (Err (refusal.Memory error)) adds is does = all_left accounted (GiveUp w.put ∷ []) AreTold (as_it_was adds) tt
    abort_serves (Err _) adds is does = absurd is

  pub abort_gives : (result : Result ℕ Refusal) → l ≡ with_records k (abort_adds w.key result) → AbortsWhere (state_of k) w.put result
      → GivesUp (at_by packed k d) (at_by packed l e) (written_as w) result
  abort_gives (Ok n) adds is = (is.0, is.1, given_up n is.0 adds)
  abort_gives (Err refusal.NoSuchWriter) adds is = (is, as_it_was adds)
  abort_gives (Err (refusal.Memory error)) adds is = (is, as_it_was adds)
  abort_gives (Err _) adds is = absurd is

  pub abort_owns : (result : Result ℕ Refusal) → l ≡ with_records k (abort_adds w.key result) → AbortsWhere (state_of k) w.put result
      → AddsOnly (IsOfPut w.put) (at_by packed k d) (at_by packed l e)
  abort_owns (Ok n) adds is = record { added = rec.Aborted w.put w.key ∷ []; adds = given_up n is.0 adds; own = (refl, tt) }
  abort_owns (Err why) adds is = record { added = []; adds = adds; own = tt }
