-- A reader reads on.
use Rattle.std.proofs.Common.{◌≡◌, ℕ, Bool, List, [], ◌∷◌, ◌++◌, refl, ◌∙◌, ap, Result, Ok, Err, inl, inr, ◌⊎◌}
use Rattle.std.specs.Prelude.{IfOk, IsSome, OnErr, Option, Some, None, option_map}
use Rattle.std.specs.declared.alloc.AllocError.{AllocError}
use Rattle.logged_disk.specs.Device.{DeviceState as Device, TellsAll}
use Rattle.cyclone.specs.Cyclone.{Seen}
use Rattle.cache_model.specs.declared.answer.NextAnswer.TheVariants as next
use Rattle.cache_model.specs.declared.cause.Cause.TheVariants as cause
use Rattle.cache_model.specs.declared.record.Rec.{Rec}
use Rattle.cache_model.specs.declared.record.Rec.TheVariants as rec
use Rattle.cache_model.specs.State.{Row, State}
use Rattle.cache_model.specs.Kept.{Kept, state_of, with_records}
use Rattle.cache_model.specs.Legal.{answer_record, live_next}
use Rattle.cache_model.specs.Permit.{Done, Intent, IsAmong, Permit, ReadOn}
use Rattle.cache_model.specs.Vectors.{IsVectorAs}
use Rattle.call_laws.specs.Untold.{Untold}
use Rattle.cache_model.specs.Contents.{Contents}
use Rattle.call_laws.specs.Moments.{NothingKnown}
use Rattle.call_laws.specs.Progress.{AllDone}
use Rattle.call_laws.specs.Serves.{ServesFrom}
use Rattle.call_laws.proofs.Grown.{one_spends}
use Rattle.stripe_core.specs.Between.{IsBetween}
use Rattle.piece_answers.specs.Faults.{IsAccounted}
use Rattle.piece_answers.specs.Standing.{AreStanding}
use Rattle.stripe_read.specs.declared.reader.Reader.{Reader}
use Rattle.cache_answers.specs.declared.answers.NextPiece.{NextPiece}
use Rattle.cache_answers.specs.declared.answers.NextPiece.TheVariants as piece
use Rattle.stripe_read.specs.Nexts.{BreakIsCounted, ReadsOn}
use Rattle.stripe_read.specs.Readers.{reading_as}
use Rattle.cache_calls.specs.Adds.{AddsAll}
use Rattle.cache_calls.specs.Asked.{unless_wanting}
use Rattle.cache_calls.specs.Keeping.{StaysUnharmed}
use Rattle.cache_calls.specs.Actors.{IsOpenReader, IsReaderOf, as_row}
use Rattle.cache_calls.specs.Readers.{IsBehindAnswer, IsCountedBreak, IsGivenInEachStep, IsOtherNext, IsToldTo, ReaderGoesOn, ReadsNext, next_trouble, read_adds}
use Rattle.cache_calls.specs.Standing.{GivesPayload}
use Rattle.stripe_calls.specs.Seen.{at_by}
use Rattle.stripe_calls.proofs.Serving.{all_left, covers_in, serves_by}
use Rattle.stripe_calls.proofs.Words.{are_seen, counted_cause, stays_unharmed}

-- ---- what it is given

-- the fault that kept a live fragment from being read is recorded
next_among : (o : Option Row) (rest : List Rec) (count : ℕ) → IsSome o
    → IsAmong (rec.Fault count) (next_trouble o (piece.Broken (cause.DeviceFault count)) ++ rest)
next_among None rest count live = cc
next_among (Some row) rest count live = inl refl

counted_as : (packed : Bool) (k l : Kept) (d e : Device) (r : Reader) (given : NextPiece) → BreakIsCounted e.faults (state_of k) r given
    → AddsAll (read_adds (state_of k) (reading_as r) given) (at_by packed k d) (at_by packed l e)
    → IsCountedBreak (at_by packed k d) (at_by packed l e) (reading_as r) given
counted_as packed k l d e r (piece.Piece index size) h adds = tt
counted_as packed k l d e r (piece.End size) h adds = tt
counted_as packed k l d e r (piece.NotYet cut) h adds = tt
counted_as packed k l d e r (piece.Broken why) h adds =
    let o : Option Row = live_next (state_of k) (as_row (reading_as r)) in
    elim h [
      | inl is ↦ inl is
      | inr counted ↦ inr (counted_cause (at_by packed k d) (at_by packed l e) o why (λ c. read_adds (state_of k) (reading_as r) (piece.Broken c)) counted adds (λ count. next_among o (answer_record r.reader (next.Broke (cause.DeviceFault count)) ∷ []) count))
    ]

none_given : (contents : Contents) (o : Option Row) (error : AllocError) (into : List ℕ) → GivesPayload contents o (Err error) into
none_given contents None error into = tt
none_given contents (Some row) error into = tt

-- ---- the call

module _ (packed : Bool) (k l : Kept) (old new : Seen) (r : Reader) where
  abbrev d : Device
  d = old.device

  abbrev e : Device
  e = new.device

  abbrev asked : List Intent
  asked = ReadOn r.reader ∷ []

  abbrev Added : Result NextPiece AllocError → Type 0
  Added result = IfOk result (λ given. l ≡ with_records k (read_adds (state_of k) (reading_as r) given))

  abbrev Read : Result NextPiece AllocError → List ℕ → Type 0
  Read result into = IfOk result (λ given. ReadsOn (state_of k) old new r given into)

  pub next_serves : (now : ℕ) (into : List ℕ) → IsAccounted d.past e.past k l → (result : Result NextPiece AllocError) → Added result → Read result into
      → OnErr result (l ≡ k)
      → ServesFrom (Untold e IsVectorAs) now (at_by packed k d) (at_by packed l e) asked (unless_wanting asked result)
      (IsToldTo (reading_as r)) NothingKnown
  next_serves now into accounted (Ok given) adds h same =
      let added : List Rec = read_adds (state_of k) (reading_as r) given in
      serves_by accounted asked AllDone (IsToldTo (reading_as r)) added adds
      (λ p packs moment step told. inl (one_spends p (state_of k) (ReadOn r.reader) added Done (h.does p step told.1), tt))
  next_serves now into accounted (Err error) adds h same = all_left accounted asked (IsToldTo (reading_as r)) same tt

  is_given : (given : NextPiece) (into : List ℕ) → ReadsOn (state_of k) old new r given into → IsGivenInEachStep (at_by packed k d) (at_by packed l e) (reading_as r) given into
  is_given given into h = λ now p earlier calls past step. h.gives p (covers_in refl d.past e.past past step)

  pub next_gives : (into : List ℕ) (result : Result NextPiece AllocError) → Added result → Read result into → OnErr result (l ≡ k)
      → ReadsNext (at_by packed k d) (at_by packed l e) (reading_as r) result into
  next_gives into (Ok given) adds h same = record {
    adds = adds;
    given = is_given given into h;
    counted = counted_as packed k l d e r given h.counted adds;
    read = are_seen packed k l d e h.seen;
  }
  next_gives into (Err error) adds h same = same

  pub next_exact : (into : List ℕ) (result : Result NextPiece AllocError) → Read result into → TellsAll e → (contents : Contents)
      → AreStanding contents (state_of k) old → GivesPayload contents (live_next (state_of k) (as_row (reading_as r))) result into
  next_exact into (Ok given) h tells contents stands = h.contents tells contents stands
  next_exact into (Err error) h tells contents stands = none_given contents _ error into

  pub next_unharmed : IsBetween d e k l ⊎ IsOtherNext (state_of k) (reading_as r)
      → StaysUnharmed (at_by packed k d) (at_by packed l e) ⊎ IsOtherNext (state_of k) (reading_as r)
  next_unharmed h = elim h [ inl between ↦ inl (stays_unharmed between) | inr other ↦ inr other ]

-- ---- the reader

pub next_goes : (s t : State) (old new : Reader) (result : Result NextPiece AllocError)
    → IfOk result (λ given. IsBehindAnswer (reading_as old) given (reading_as new))
    → OnErr result (new ≡ old) → IsOpenReader t (reading_as new) → (IsReaderOf s (reading_as old) → IsReaderOf t (reading_as new))
    → ReaderGoesOn (reading_as old) result s t (reading_as new)
next_goes s t old new (Ok given) goes same own keeps = record { goes = goes; reader = own; keeps = keeps }
next_goes s t old new (Err error) goes same own keeps = record { goes = ap reading_as same; reader = own; keeps = keeps }
