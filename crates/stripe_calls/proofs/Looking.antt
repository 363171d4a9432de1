-- A reader opens, and is closed.
use Rattle.std.proofs.Common.{◌≡◌, ℕ, Bool, List, [], ◌∷◌, ◌++◌, refl, sym, ◌∙◌, ap, Result, Ok, Err, inl, inr}
use Rattle.std.specs.Prelude.{IfErr, IfOk, IsSome, OnErr, OnOk, Option, Some, None, option_map}
use Rattle.std.specs.declared.alloc.AllocError.{AllocError}
use Rattle.tape_base.specs.declared.actors.Actor.{Actor}
use Rattle.tape_base.specs.declared.keys.Key.{Key}
use Rattle.logged_disk.specs.Device.{DeviceState as Device}
use Rattle.alternate_vector.specs.Field.{Field}
use Rattle.cache_model.specs.declared.answer.ReadAnswer.{ReadAnswer}
use Rattle.cache_model.specs.declared.answer.ReadAnswer.TheVariants as read
use Rattle.cache_model.specs.declared.cause.Cause.TheVariants as cause
use Rattle.cache_model.specs.declared.record.Rec.{Rec}
use Rattle.cache_model.specs.declared.record.Rec.TheVariants as rec
use Rattle.cache_model.specs.State.{Row, State}
use Rattle.cache_model.specs.Kept.{Kept, state_of, with_records}
use Rattle.cache_model.specs.Permit.{Done, Intent, IsAmong, Look, StopReading}
use Rattle.cache_model.specs.Verdict.{live_vector_of}
use Rattle.call_laws.specs.Untold.{Untold}
use Rattle.call_laws.specs.Progress.{AllDone}
use Rattle.call_laws.specs.Serves.{ServesFrom, ServesTold}
use Rattle.call_laws.proofs.Grown.{one_spends}
use Rattle.piece_answers.specs.Faults.{IsAccounted}
use Rattle.cache_answers.specs.declared.answers.Opened.{Opened}
use Rattle.cache_answers.specs.declared.answers.Opened.TheVariants as opened
use Rattle.stripe_read.specs.declared.reader.Reader.{Reader}
use Rattle.stripe_read.specs.Lookups.{MissIsCounted, Opens}
use Rattle.stripe_read.specs.Readers.{ReaderClosesAsAsked, reading_as}
use Rattle.cache_model.specs.Vectors.{AreTold, IsVectorAs}
use Rattle.cache_calls.specs.Actors.{IsOpenReader}
use Rattle.cache_calls.specs.Adds.{AddsAll}
use Rattle.cache_calls.specs.Asked.{unless_wanting}
use Rattle.cache_calls.specs.Readers.{ClosesReader, HasItsTable, IfReader, IsCountedMiss, OpensReader, TellsReader, answer_in, open_adds, vector_trouble}
use Rattle.stripe_calls.specs.Seen.{at_by}
use Rattle.stripe_calls.proofs.Serving.{all_left, group_serves, serves_by, shows_asked}
use Rattle.stripe_calls.proofs.Words.{are_seen, counted_cause}

-- the fault that kept a live vector from being read is recorded
vector_among : (o : Option Row) (rest : List Rec) (count : ℕ) → IsSome o
    → IsAmong (rec.Fault count) (vector_trouble o (read.Miss (cause.DeviceFault count)) ++ rest)
vector_among None rest count live = cc
vector_among (Some row) rest count live = inl refl

counted_as : (packed : Bool) (k l : Kept) (d e : Device) (who : Actor) (key : Key) (request : List Field) (given : Opened Reader)
    → MissIsCounted e.faults (state_of k) key (answer_in given)
    → AddsAll (open_adds (state_of k) who key request (answer_in given)) (at_by packed k d) (at_by packed l e)
    → IsCountedMiss (at_by packed k d) (at_by packed l e) key (answer_in given)
counted_as packed k l d e who key request (opened.Hit reader put size) h adds = tt
counted_as packed k l d e who key request (opened.Follow reader put) h adds = tt
counted_as packed k l d e who key request (opened.Miss why) h adds =
    let o : Option Row = live_vector_of (state_of k) key in
    elim h [
      | inl is ↦ inl is
      | inr counted ↦ inr (counted_cause (at_by packed k d) (at_by packed l e) o why (λ c. open_adds (state_of k) who key request (read.Miss c)) counted adds (λ count. vector_among o _ count))
    ]

-- ---- a reader opens

module _ (packed : Bool) (k l : Kept) (d e : Device) (who : Actor) (key : Key) (request : List Field) where
  abbrev asked : List Intent
  asked = Look who.0 key request ∷ []

  abbrev Added : Result (Opened Reader) AllocError → Type 0
  Added result = IfOk result (λ given. l ≡ with_records k (open_adds (state_of k) who key request (answer_in given)))

  abbrev Found : Result (Opened Reader) AllocError → Type 0
  Found result = IfOk result (Opens (state_of k) (state_of l) d e who key request)

  pub look_serves : (now : ℕ) → IsAccounted d.past e.past k l → (result : Result (Opened Reader) AllocError) → Added result → Found result → OnErr result (l ≡ k)
      → ServesFrom (Untold e IsVectorAs) now (at_by packed k d) (at_by packed l e) asked (unless_wanting asked result) AreTold
      (HasItsTable reading_as result)
  look_serves now accounted (Ok given) adds h same =
      let added : List Rec = open_adds (state_of k) who key request (answer_in given) in
      serves_by accounted asked AllDone AreTold added adds
      (λ p packs moment step told. elim (h.does p step told.vectors) [
        | inl v ↦ inl (
          one_spends p (state_of k) (Look who.0 key request) added Done v.0,
          v.1,
        )
        | inr pair ↦ inr (shows_asked [] added (λ row vector. vector) pair)
      ])
  look_serves now accounted (Err error) adds h same = all_left accounted asked AreTold same tt

  pub look_gives : (result : Result (Opened Reader) AllocError) → Added result → Found result → IfOk result (IfReader (λ own. IsOpenReader (state_of l) (reading_as own)))
      → IfOk result (TellsReader reading_as (state_of k).next_reader) → OnErr result (l ≡ k)
      → OpensReader reading_as (at_by packed k d) (at_by packed l e) who key request result
  look_gives (Ok given) adds h reader tells same = record {
    adds = adds;
    tells = tells;
    reader = reader;
    counted = counted_as packed k l d e who key request given h.counted adds;
    read = are_seen packed k l d e h.seen;
  }
  look_gives (Err error) adds h reader tells same = same

-- ---- a reader is closed

module _ (packed : Bool) (k l : Kept) (d e : Device) (r : Reader) where
  abbrev Closed : Result (Unit {0}) (AllocError × Reader) → Type 0
  Closed result = OnOk result (l ≡ with_records k (rec.ReadClosed r.reader ∷ []))

  pub close_reader_serves : (now : ℕ) → IsAccounted d.past e.past k l → (result : Result (Unit {0}) (AllocError × Reader)) → Closed result
      → ReaderClosesAsAsked (state_of k) r → IfErr result (λ back. l ≡ k)
      → ServesTold now (at_by packed k d) (at_by packed l e) (StopReading r.reader ∷ []) (unless_wanting (StopReading r.reader ∷ []) result)
  close_reader_serves now accounted (Ok u) adds does same =
      group_serves accounted (StopReading r.reader) Done AreTold (rec.ReadClosed r.reader ∷ []) adds (λ p packs moment step. does p)
  close_reader_serves now accounted (Err back) adds does same = all_left accounted (StopReading r.reader ∷ []) AreTold same tt

  pub close_reader_gives : (result : Result (Unit {0}) (AllocError × Reader)) → Closed result → IfErr result (λ back. l ≡ k) → IfErr result (λ back. back.1 ≡ r)
      → ClosesReader reading_as (at_by packed k d) (at_by packed l e) r result
  close_reader_gives (Ok u) adds same back = adds
  close_reader_gives (Err error) adds same back = (same, back)
